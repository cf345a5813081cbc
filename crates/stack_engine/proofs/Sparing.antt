-- The spare room after a try of an access.
use Rattle.std.specs.Prelude.{IsErrAnd}
use Rattle.std.proofs.Common.{◌≡◌, ◌∙◌, ℕ, Result, Ok, Err, Some, None, ap, subst}
use Rattle.hist_plain.specs.declared.event.Event.TheVariants as events
use Rattle.hist_plain.specs.declared.event.Op.{Op}
use Rattle.hist_plain.specs.declared.event.Op.TheVariants as ops
use Rattle.tower_core.specs.declared.right.Right.{Right}
use Rattle.tower_core.specs.declared.step.Step.TheVariants.{Reads, Writes}
use Rattle.tower_core.specs.Column.{MayStep}
use Rattle.tower_plan.specs.Plan.{MayAccessFor}
use Rattle.stack_engine.specs.declared.plans.Missed.{Missed}
use Rattle.stack_engine.specs.declared.refusal.StepErr.{StepErr}
use Rattle.stack_engine.specs.declared.refusal.StepErr.TheVariants as errors
use Rattle.stack_engine.specs.Accesses.{LowersSpare, SparesRead, SparesTry}
use Rattle.stack_engine.specs.Engine.{EngineSeen, IsNext, column_in, tree_in}
use Rattle.stack_engine.specs.Plans.{IsMissed}
use Rattle.stack_engine.proofs.Rooms.{roomy}

-- an access that is missed is not allowed
pub missed_not_next : (e : EngineSeen) (caller number node life : ℕ) (op : Op) (missed : Missed) → IsMissed e node life op missed → IsNext e (events.Access caller number node life op) → ⊥
missed_not_next e caller number node life (ops.Read page off len) missed m next =
    let p : page ≡ missed.page = let s : Some page ≡ Some missed.page = m.wants.page_is in cc in
    let w : Right.Read ≡ m.want = let s : Some Right.Read ≡ Some m.want = m.wants.want_is in cc in
    m.steps.not_yet (subst (λ (r : Right). MayAccessFor (tree_in e) (column_in e missed.page) node r) w (subst (λ (q : ℕ). MayStep (tree_in e) (column_in e q) (Reads node)) p (next.allowed.line m.wants.counts)))
missed_not_next e caller number node life (ops.Write page off bytes) missed m next =
    let p : page ≡ missed.page = let s : Some page ≡ Some missed.page = m.wants.page_is in cc in
    let w : Right.Write ≡ m.want = let s : Some Right.Write ≡ Some m.want = m.wants.want_is in cc in
    m.steps.not_yet (subst (λ (r : Right). MayAccessFor (tree_in e) (column_in e missed.page) node r) w (subst (λ (q : ℕ). MayStep (tree_in e) (column_in e q) (Writes node)) p (next.allowed.line m.wants.counts)))
missed_not_next e caller number node life (ops.Clear page) missed m next =
    let p : page ≡ missed.page = let s : Some page ≡ Some missed.page = m.wants.page_is in cc in
    let w : Right.Write ≡ m.want = let s : Some Right.Write ≡ Some m.want = m.wants.want_is in cc in
    m.steps.not_yet (subst (λ (r : Right). MayAccessFor (tree_in e) (column_in e missed.page) node r) w (subst (λ (q : ℕ). MayStep (tree_in e) (column_in e q) (Writes node)) p (next.allowed.line m.wants.counts)))
missed_not_next e caller number node life ops.Open missed m next = absurd (let s : None ≡ Some missed.page = m.wants.page_is in cc)

-- the same, with another answer
pub spares_ok : {A B : Type 0} (node life : ℕ) (op : Op) (old new : EngineSeen) (a : A) (b : B) → SparesRead {A = A} node life op old new (Ok a) → SparesRead {A = B} node life op old new (Ok b)
spares_ok node life op old new a b h = record {
  free = λ current some e. let f : ⊥ = cc in f;
  lowers = record { one = h.lowers.one; none = h.lowers.none; others = h.lowers.others };
}

pub spares_err : {A B : Type 0} (node life : ℕ) (op : Op) (old new : EngineSeen) (err : StepErr) → SparesRead {A = A} node life op old new (Err err) → SparesRead {A = B} node life op old new (Err err)
spares_err node life op old new err h = record {
  free = λ current some e. h.free current some (let same : err ≡ errors.Memory = cc in ap Err same);
  lowers = record { one = h.lowers.one; none = h.lowers.none; others = h.lowers.others };
}

pub spares_hit : {A : Type 0} (caller number node life : ℕ) (op : Op) (old new : EngineSeen) (r : Result A StepErr) → IsNext old (events.Access caller number node life op) → SparesRead node life op old new r → SparesTry caller number node life op old new r
spares_hit caller number node life op old new r next h = record { allowed = λ next'. h; others = λ needless. absurd (needless next) }

pub spares_missed : {A : Type 0} (caller number node life : ℕ) (op : Op) (old new : EngineSeen) (r : Result A StepErr) (missed : Missed) → IsMissed old node life op missed → new.trail.spare ≡ old.trail.spare → SparesTry caller number node life op old new r
spares_missed caller number node life op old new r missed m same = record { allowed = λ next. absurd (missed_not_next old caller number node life op missed m next); others = λ needless. same }

-- ONE STEP, after room was made
lowers_same : {A : Type 0} (node life : ℕ) (op : Op) (old new : EngineSeen) (room : ℕ) (r : Result A StepErr) → LowersSpare node life op (roomy old room) new r → LowersSpare node life op old new r
lowers_same node life (ops.Read page off len) old new room r h = record { one = h.one; none = h.none; others = h.others }
lowers_same node life (ops.Write page off bytes) old new room r h = record { one = h.one; none = h.none; others = h.others }
lowers_same node life (ops.Clear page) old new room r h = record { one = h.one; none = h.none; others = h.others }
lowers_same node life ops.Open old new room r h = record { one = h.one; none = h.none; others = h.others }

pub lowers_room : {A : Type 0} (node life : ℕ) (op : Op) (old mid new : EngineSeen) (room : ℕ) (r : Result A StepErr) → mid ≡ roomy old room → LowersSpare node life op mid new r → LowersSpare node life op old new r
lowers_room node life op old mid new room r is h = lowers_same node life op old new room r (subst (λ (e : EngineSeen). LowersSpare node life op e new r) is h)

pub lowers_ok : {A B : Type 0} (node life : ℕ) (op : Op) (old new : EngineSeen) (a : A) (b : B) → LowersSpare {A = A} node life op old new (Ok a) → LowersSpare {A = B} node life op old new (Ok b)
lowers_ok node life op old new a b h = record { one = h.one; none = h.none; others = h.others }

pub lowers_err : {A B : Type 0} (node life : ℕ) (op : Op) (old new : EngineSeen) (err : StepErr) (r : Result B StepErr) → IsErrAnd r (λ e. e ≡ err) → LowersSpare {A = A} node life op old new (Err err) → LowersSpare {A = B} node life op old new r
lowers_err node life op old new err (Ok b) is h = absurd is
lowers_err node life op old new err (Err e) is h = record { one = λ current some. tt; none = h.none; others = h.others }

-- nothing was entered
pub lowers_none : {A : Type 0} (node life : ℕ) (op : Op) (old new : EngineSeen) (err : StepErr) (r : Result A StepErr) → IsErrAnd r (λ e. e ≡ err) → new.trail.spare ≡ old.trail.spare → LowersSpare node life op old new r
lowers_none node life op old new err (Ok b) is same = absurd is
lowers_none node life op old new err (Err e) is same = record { one = λ current some. tt; none = λ zero. same ∙ zero; others = λ needless. same }
