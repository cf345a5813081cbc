-- What phases did.
use Rattle.std.specs.Prelude.{◌≡◌, ◌⊎◌, ℕ, ◌+◌, ◌<◌, ◌≤◌, ◌^◌, List, [], ◌∷◌, ◌++◌, length, vec_capacity}
use Rattle.script_text.specs.declared.script.CallLine.{CallLine}
use Rattle.script_text.specs.declared.script.Said.{Said}
use Rattle.stack_accept.specs.Mount.{Mount}
use Rattle.script_meaning.specs.Log.{Histories}
use Rattle.script_meaning.specs.Fits.{AllGoOn, Did, Worked, Acts, InOrder, IsAnswered, last_cut, lines_of}
use Rattle.spr_volume.specs.Passes.{VolumeSeen, IsOf, Knows, as_known}
use Rattle.spr_client.specs.Calls.{IsOfStack, histories}
use Rattle.run_phases.specs.declared.worker.Worker.{Worker}
use Rattle.run_phases.specs.Workers.{AreReady}

-- the pass is of the volume of a stack, and has the callers from this one on that are these workers
pub record IsReady (mount : Mount) (v : VolumeSeen) (p : Knows) (first : ℕ) (workers : List Worker) : Type 0 where
  pub stack : IsOfStack mount v
  pub of : IsOf v p
  pub clients : AreReady mount first workers
  pub first_is : p.first ≤ first
  pub last_is : first + length workers ≤ p.end
  pub small : first + length workers < 2 ^ 32

-- A CLIENT DID ITS LINES of a phase, and answered each
pub record WorkDone (mount : Mount) (lines : List CallLine) (before after : Histories) (old new : Worker) : Type 0 where
  pub caller_same : new.client.caller ≡ old.client.caller
  pub room_same : vec_capacity new.said ≡ vec_capacity old.said
  pub one : List Said
  pub said_is : new.said.items ≡ old.said.items ++ one
  pub worked : Worked mount old.client.caller old.client.state (lines_of old.client.caller lines) before after one new.client.state

abbrev pub EachDone : Mount → List CallLine → Histories → Histories → List Worker → List Worker → Type 0
EachDone mount lines before after [] [] = Unit {0}
EachDone mount lines before after [] (n ∷ ns) = ⊥
EachDone mount lines before after (w ∷ ws) [] = ⊥
EachDone mount lines before after (w ∷ ws) (n ∷ ns) = WorkDone mount lines before after w n × EachDone mount lines before after ws ns

-- callers of a pass, but for so many from one on, did nothing
abbrev pub OthersIdle : Mount → ℕ → ℕ → Knows → Knows → Type 0
OthersIdle mount first count p q = (other : ℕ) → p.first ≤ other → other < p.end → (other < first) ⊎ (first + count ≤ other) → Did other (histories mount p) (histories mount q) []

-- A PHASE, by what a pass knows before and after it: each client did its lines, and no other caller of the pass did anything
pub record PhaseDone (mount : Mount) (lines : List CallLine) (first : ℕ) (old new : List Worker) (p q : Knows) : Type 0 where
  pub pass : q ≡ as_known p q
  pub each : EachDone mount lines (histories mount p) (histories mount q) old new
  pub others : OthersIdle mount first (length old) p q
  pub later : AllGoOn (histories mount p) (histories mount q)

-- a client did its lines of these phases, from cut to cut, and answered each
pub record ClientDone (mount : Mount) (phases : List (List CallLine)) (start : Histories) (cuts : List Histories) (old new : Worker) : Type 0 where
  pub caller_same : new.client.caller ≡ old.client.caller
  pub room_same : vec_capacity new.said ≡ vec_capacity old.said
  pub acts : Acts mount old.client.caller old.client.state phases start cuts new.said.items new.client.state
  pub answered : IsAnswered phases old.client.caller new.said.items

abbrev pub ClientsDone : Mount → List (List CallLine) → Histories → List Histories → List Worker → List Worker → Type 0
ClientsDone mount phases start cuts [] [] = Unit {0}
ClientsDone mount phases start cuts [] (n ∷ ns) = ⊥
ClientsDone mount phases start cuts (w ∷ ws) [] = ⊥
ClientsDone mount phases start cuts (w ∷ ws) (n ∷ ns) = ClientDone mount phases start cuts w n × ClientsDone mount phases start cuts ws ns

-- ALL PHASES, one after another: the cut of each is what the pass of all callers knew at its end
pub record PhasesDone (mount : Mount) (phases : List (List CallLine)) (first : ℕ) (old new : List Worker) (p q : Knows) : Type 0 where
  pub pass : q ≡ as_known p q
  pub cuts : List Histories
  pub cut_each : length cuts ≡ length phases
  pub in_order : InOrder (histories mount p) cuts
  pub last : (histories mount q) ≡ last_cut (histories mount p) cuts
  pub each : ClientsDone mount phases (histories mount p) cuts old new
  pub others : OthersIdle mount first (length old) p q
