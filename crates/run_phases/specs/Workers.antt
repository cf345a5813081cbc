-- The clients of a script with their answers, before its first phase.
use Rattle.std.specs.Prelude.{◌≡◌, ℕ, suc, ◌+◌, ◌≤◌, List, [], ◌∷◌, length, Option, vec_capacity}
use Rattle.std.specs.List.{AllByRecursion, flat_map}
use Rattle.script_text.specs.declared.script.CallLine.{CallLine}
use Rattle.script_text.specs.declared.script.ClientLine.{ClientLine}
use Rattle.stack_accept.specs.Mount.{Mount}
use Rattle.script_meaning.specs.Plan.{start_state}
use Rattle.script_meaning.specs.Fits.{lines_of}
use Rattle.spr_client.specs.Lines.{IsOnMachine}
use Rattle.run_phases.specs.declared.worker.Worker.{Worker}

-- a client on its machine, with no object open and nothing mapped, that has answered nothing; its calls to other machines go over a
-- carrier that loses the packets whose number this one divides, if one is given
pub record IsStarted (mount : Mount) (loss : Option ℕ) (caller : ℕ) (line : ClientLine) (worker : Worker) : Type 0 where
  pub caller_is : worker.client.caller ≡ caller
  pub state_is : worker.client.state ≡ start_state mount loss line
  pub silent : worker.said.items ≡ []

-- so is each client from this one on
abbrev pub AreStarted : Mount → Option ℕ → ℕ → List ClientLine → List Worker → Type 0
AreStarted mount loss caller [] [] = Unit {0}
AreStarted mount loss caller [] (worker ∷ workers) = ⊥
AreStarted mount loss caller (line ∷ lines) [] = ⊥
AreStarted mount loss caller (line ∷ lines) (worker ∷ workers) = IsStarted mount loss caller line worker × AreStarted mount loss (suc caller) lines workers

-- each worker is the client of the next number, and its objects and regions are of the stack
abbrev pub AreReady : Mount → ℕ → List Worker → Type 0
AreReady mount first [] = Unit {0}
AreReady mount first (worker ∷ workers) =
    (worker.client.caller ≡ first) × IsOnMachine mount worker.client.state × AreReady mount (suc first) workers

-- each client has room for the answers to its lines of these phases
abbrev pub HaveRoom : List (List CallLine) → List Worker → Type 0
HaveRoom phases workers = AllByRecursion (λ w. length w.said.items + length (flat_map (lines_of w.client.caller) phases) ≤ vec_capacity w.said) workers

-- a client that has answered nothing
abbrev pub IsSilent : Worker → Type 0
IsSilent worker = worker.said.items ≡ []
