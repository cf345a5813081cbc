-- Phases, one after another.
use Rattle.std.proofs.Common.{◌≡◌, ⊎_elim, inl, inr, ℕ, suc, zero, ◌+◌, ◌<◌, ◌≤◌, List, [], ◌∷◌, ◌++◌, length, map, take, get_or, refl, sym, ap, subst, ◌∙◌, arith, length-append, vec_capacity}
use Rattle.std.proofs.lemmas.List.{append-nil, take_more, length-map}
use Rattle.std.specs.List.{AllByRecursion, flat_map}
use Rattle.script_text.specs.declared.script.CallLine.{CallLine}
use Rattle.script_text.specs.declared.script.Said.{Said}
use Rattle.stack_accept.specs.Mount.{Mount}
use Rattle.script_meaning.specs.Log.{Histories}
use Rattle.spr_client.specs.Calls.{histories}
use Rattle.script_meaning.specs.Fits.{Acts, AllGoOn, IsAnswered, Worked, last_cut, lines_of}
use Rattle.script_meaning.proofs.Parts.{acts_more, answered_more, did_nothing, did_then, in_order_more, last_cut-more}
use Rattle.spr_volume.specs.Passes.{VolumeSeen, Knows, as_known}
use Rattle.spr_client.specs.Lines.{AreCalls}
use Rattle.run_phases.specs.declared.parts.Part.{Part}
use Rattle.run_phases.specs.declared.worker.Worker.{Worker}
use Rattle.run_phases.specs.Workers.{AreReady, HaveRoom, IsSilent}
use Rattle.run_phases.specs.Parts.{MayRun, PartDone}
use Rattle.run_phases.specs.Phases.{ClientsDone, EachDone, IsReady, PhaseDone, PhasesDone}

clients-none : (mount : Mount) (start : Histories) (ws : List Worker) → AllByRecursion IsSilent ws → ClientsDone mount [] start [] ws ws
clients-none mount start [] silent = tt
clients-none mount start (w ∷ ws) silent = (
  record { caller_same = refl; room_same = refl; acts = (silent.0, refl); answered = ap (map (λ (s : Said). s.line)) silent.0 },
  clients-none mount start ws silent.1,
)

clients-len : (mount : Mount) (phases : List (List CallLine)) (start : Histories) (cuts : List Histories) (ws ns : List Worker) → ClientsDone mount phases start cuts ws ns → length ns ≡ length ws
clients-len mount phases start cuts [] [] done = refl
clients-len mount phases start cuts [] (n ∷ ns) done = absurd done
clients-len mount phases start cuts (w ∷ ws) [] done = absurd done
clients-len mount phases start cuts (w ∷ ws) (n ∷ ns) done = ap suc (clients-len mount phases start cuts ws ns done.1)

-- no phase
pub phases-none : (mount : Mount) (first : ℕ) (ws : List Worker) (p : Knows) → AllByRecursion IsSilent ws → PhasesDone mount [] first ws ws p p
phases-none mount first ws p silent = record {
  pass = refl;
  cuts = [];
  cut_each = refl;
  in_order = tt;
  last = refl;
  each = clients-none mount (histories mount p) ws silent;
  others = λ other low high out. did_nothing other (histories mount p) (histories mount p) refl;
}

module _ (mount : Mount) (phases : List (List CallLine)) (phase : List CallLine) (start : Histories) (cuts : List Histories) (before after : Histories) (last : before ≡ last_cut start cuts) where
  clients-next : (ws ns us : List Worker) → ClientsDone mount phases start cuts ws ns → EachDone mount phase before after ns us → ClientsDone mount (phases ++ phase ∷ []) start (cuts ++ after ∷ []) ws us
  clients-next [] [] [] done each = tt
  clients-next [] [] (u ∷ us) done each = absurd each
  clients-next [] (n ∷ ns) us done each = absurd done
  clients-next (w ∷ ws) [] us done each = absurd done
  clients-next (w ∷ ws) (n ∷ ns) [] done each = absurd each
  clients-next (w ∷ ws) (n ∷ ns) (u ∷ us) done each =
      let one = each.0 in
      let so = done.0 in
      let worked : Worked mount w.client.caller n.client.state (lines_of w.client.caller phase) before after one.one u.client.state =
      subst (λ (k : ℕ). Worked mount k n.client.state (lines_of k phase) before after one.one u.client.state) so.caller_same one.worked in (
        record {
          caller_same = one.caller_same ∙ so.caller_same;
          room_same = one.room_same ∙ so.room_same;
          acts = subst (λ (s : List Said). Acts mount w.client.caller w.client.state (phases ++ phase ∷ []) start (cuts ++ after ∷ []) s u.client.state) (sym one.said_is)
              (acts_more mount w.client.caller w.client.state phases start cuts n.said.items n.client.state phase before after one.one u.client.state so.acts last (inl worked));
          answered = subst (IsAnswered (phases ++ phase ∷ []) w.client.caller) (sym one.said_is)
              (answered_more mount w.client.caller phases n.said.items phase n.client.state before after one.one u.client.state so.answered worked);
        },
        clients-next ws ns us done.1 each.1,
      )

-- one more phase
pub phases-next : (mount : Mount) (phases : List (List CallLine)) (phase : List CallLine) (first : ℕ) (ws ns us : List Worker) (p q r : Knows) → PhasesDone mount phases first ws ns p q → PhaseDone mount phase first ns us q r
    → PhasesDone mount (phases ++ phase ∷ []) first ws us p r
phases-next mount phases phase first ws ns us p q r so one =
    let first_is : q.first ≡ p.first = ap (λ (k : Knows). k.first) so.pass in
    let end_is : q.end ≡ p.end = ap (λ (k : Knows). k.end) so.pass in
    let len = clients-len mount phases (histories mount p) so.cuts ws ns so.each in
    record {
      pass = one.pass ∙ ap (λ (k : Knows). as_known k r) so.pass;
      cuts = so.cuts ++ (histories mount r) ∷ [];
      cut_each = length-append so.cuts ((histories mount r) ∷ []) ∙ (ap (λ n. n + 1) so.cut_each ∙ sym (length-append phases (phase ∷ [])));
      in_order = in_order_more (histories mount p) so.cuts (last_cut (histories mount p) so.cuts) (histories mount r) so.in_order refl
          (subst (λ (hs : Histories). AllGoOn hs (histories mount r)) so.last one.later);
      last = last_cut-more (histories mount p) so.cuts (histories mount r);
      each = clients-next mount phases phase (histories mount p) so.cuts (histories mount q) (histories mount r) so.last ws ns us so.each one.each;
      others = λ other low high out. did_then other (histories mount p) (histories mount q) (histories mount r) [] [] (so.others other low high out)
          (one.others other (omega arith) (omega arith) (⊎_elim (λ below. inl below) (λ above. inr (omega arith)) out));
    }

all-get_or : {A : Type 0} (P : A → Type 0) (xs : List A) (i : ℕ) (d : A) → i < length xs → AllByRecursion P xs → P (get_or xs i d)
all-get_or P [] i d lt all = absurd (omega arith)
all-get_or P (x ∷ xs) zero d lt all = all.0
all-get_or P (x ∷ xs) (suc i) d lt all = all-get_or P xs i d (omega arith) all.1

-- so many lines have so many answers
answers-len : (said : List Said) (lines : List CallLine) → map (λ s. s.line) said ≡ map (λ l. l.line) lines → length said ≡ length lines
answers-len said lines e = sym (length-map said (λ (s : Said). s.line)) ∙ (ap length e ∙ length-map lines (λ (l : CallLine). l.line))

-- the first phases and the next are of all phases
phase-of : (phases : List (List CallLine)) (i k : ℕ) (d : List CallLine) → i < length phases
    → length (flat_map (lines_of k) (take i phases)) + length (lines_of k (get_or phases i d)) ≤ length (flat_map (lines_of k) phases)
phase-of [] i k d lt = absurd (omega arith)
phase-of (p ∷ phases) zero k d lt = let e = length-append (lines_of k p) (flat_map (lines_of k) phases) in omega arith
phase-of (p ∷ phases) (suc i) k d lt =
    let rest = phase-of phases i k d (omega arith) in
    let e = length-append (lines_of k p) (flat_map (lines_of k) phases) in
    let f = length-append (lines_of k p) (flat_map (lines_of k) (take i phases)) in
    omega (arith, rest, e, f)

-- between phases there is room for the answers to the lines of the next
pub room-next : (mount : Mount) (phases : List (List CallLine)) (i : ℕ) (phase : List CallLine) (start : Histories) (cuts : List Histories) (ws ns : List Worker) → phase ≡ get_or phases i phase → i < length phases
    → AllByRecursion IsSilent ws → HaveRoom phases ws → ClientsDone mount (take i phases) start cuts ws ns → HaveRoom (phase ∷ []) ns
room-next mount phases i phase start cuts [] [] is lt silent room done = tt
room-next mount phases i phase start cuts [] (n ∷ ns) is lt silent room done = absurd done
room-next mount phases i phase start cuts (w ∷ ws) [] is lt silent room done = absurd done
room-next mount phases i phase start cuts (w ∷ ws) (n ∷ ns) is lt silent room done =
    let so = done.0 in
    let c : ℕ = w.client.caller in
    let said = answers-len n.said.items (flat_map (lines_of c) (take i phases)) so.answered in
    let part = phase-of phases i c phase lt in
    let here = ap (λ (p : List CallLine). length (lines_of c p)) is in
    let all = room.0 in
    let same = so.room_same in
    let fits : length n.said.items + length (lines_of c phase) ≤ vec_capacity n.said = omega (arith, said, part, here, all, same) in
    let one : length n.said.items + length (flat_map (lines_of c) (phase ∷ [])) ≤ vec_capacity n.said = subst (λ (ls : List CallLine). length n.said.items + length ls ≤ vec_capacity n.said) (sym (append-nil (lines_of c phase))) fits in
    (subst (λ (k : ℕ). length n.said.items + length (flat_map (lines_of k) (phase ∷ [])) ≤ vec_capacity n.said) (sym so.caller_same) one, room-next mount phases i phase start cuts ws ns is lt silent.1 room.1 done.1)

-- one more phase of a list, by its index
pub phases-step : (mount : Mount) (phases : List (List CallLine)) (i : ℕ) (phase : List CallLine) (first : ℕ) (ws ns us : List Worker) (p q r : Knows) → phase ≡ get_or phases i phase → i < length phases
    → PhasesDone mount (take i phases) first ws ns p q → PhaseDone mount phase first ns us q r → PhasesDone mount (take (i + 1) phases) first ws us p r
phases-step mount phases i phase first ws ns us p q r is lt so one =
    subst (λ (ps : List (List CallLine)). PhasesDone mount ps first ws us p r) (sym (take_more phases i phase lt ∙ ap (λ (x : List CallLine). take i phases ++ x ∷ []) (sym is)))
    (phases-next mount (take i phases) phase first ws ns us p q r so one)

pub phases-len : (mount : Mount) (phases : List (List CallLine)) (first : ℕ) (ws ns : List Worker) (p q : Knows) → PhasesDone mount phases first ws ns p q → length ns ≡ length ws
phases-len mount phases first ws ns p q so = clients-len mount phases (histories mount p) so.cuts ws ns so.each

-- the clients so far may run the next phase
pub may-next : {G : Type 0} (mount : Mount) (v : VolumeSeen) (phases : List (List CallLine)) (phase lines : List CallLine) (i : ℕ) (ws : List Worker) (p : Knows) (part : Part G) → lines ≡ phase → phase ≡ get_or phases i phase → i < length phases
    → IsReady mount v p 0 ws → AllByRecursion (AreCalls mount) phases → AllByRecursion IsSilent ws → HaveRoom phases ws → part.first ≡ 0 → PhasesDone mount (take i phases) 0 ws part.workers.items p part.pass → AreReady mount 0 part.workers.items → MayRun mount v lines part
may-next mount v phases phase lines i ws p part same is lt start calls silent room first so ready =
    let len = phases-len mount (take i phases) 0 ws part.workers.items p part.pass so in
    let first_is = ap (λ (k : Knows). k.first) so.pass in
    let end_is = ap (λ (k : Knows). k.end) so.pass in
    subst (λ (ls : List CallLine). MayRun mount v ls part) (sym same) (record {
      ready = record {
        stack = start.stack;
        of = ap (λ (k : Knows). k.owners) so.pass ∙ start.of;
        clients = subst (λ (k : ℕ). AreReady mount k part.workers.items) (sym first) ready;
        first_is = omega (arith, start.first_is);
        last_is = omega (arith, start.last_is);
        small = omega (arith, start.small);
      };
      calls = subst (AreCalls mount) (sym is) (all-get_or (AreCalls mount) phases i phase lt calls);
      room = room-next mount phases i phase (histories mount p) so.cuts ws part.workers.items is lt silent room so.each;
    })

-- one more phase was run
pub part-next : {G : Type 0} (mount : Mount) (phases : List (List CallLine)) (phase lines : List CallLine) (i : ℕ) (ws : List Worker) (p : Knows) (part new : Part G) → lines ≡ phase → phase ≡ get_or phases i phase → i < length phases
    → part.first ≡ 0 → PhasesDone mount (take i phases) 0 ws part.workers.items p part.pass → PartDone mount lines part new
    → (new.first ≡ 0) × PhasesDone mount (take (i + 1) phases) 0 ws new.workers.items p new.pass × AreReady mount 0 new.workers.items
part-next mount phases phase lines i ws p part new same is lt first so one = (
  one.first_same ∙ first,
  phases-step mount phases i phase 0 ws part.workers.items new.workers.items p part.pass new.pass is lt so
      (subst (λ (k : ℕ). PhaseDone mount phase k part.workers.items new.workers.items part.pass new.pass) first (subst (λ (ls : List CallLine). PhaseDone mount ls part.first part.workers.items new.workers.items part.pass new.pass) same one.done)),
  subst (λ (k : ℕ). AreReady mount k new.workers.items) first one.ready,
)
