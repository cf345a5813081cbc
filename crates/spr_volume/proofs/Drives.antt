-- Tries of an access, while nobody else steps, come to an end: each message leaves one less.
use Rattle.std.proofs.Common.{◌≡◌, ℕ, zero, suc, ◌+◌, ◌≤◌, List, [], ◌∷◌, ◌++◌, Option, Some, refl, sym, ap, subst, ◌∙◌, arith}
use Rattle.hist_plain.specs.declared.event.Event.{Event}
use Rattle.hist_plain.specs.declared.event.Event.TheVariants as events
use Rattle.hist_plain.specs.declared.event.Op.{Op}
use Rattle.hist_plain.specs.Event.{page_of_op}
use Rattle.tower_core.specs.declared.right.Right.{Right}
use Rattle.tower_core.specs.Trail.{State, state_after, state_of}
use Rattle.tower_core.specs.TreeShape.{IsUpper, TreeShape, nodes}
use Rattle.tower_core.proofs.Legals.{state_of-snoc}
use Rattle.tower_plan.specs.Plan.{cost_of}
use Rattle.tower_plan.proofs.Rules.{cost_of-le}
use Rattle.page_messages.specs.declared.paged.PagedFile.{PagedFile}
use Rattle.tower_log.specs.declared.logged.Entry.{Entry}
use Rattle.tower_log.specs.Log.{trail_of}
use Rattle.tower_log.proofs.LogLaws.{trail_of-entered}
use Rattle.stack_engine.specs.Engine.{EngineSeen, IsSound, events_in, file_in, log_in, state_in, tree_in}
use Rattle.stack_engine.specs.Messages.{IsPageMessage}
use Rattle.stack_engine.specs.Moves.{StandsFor}
use Rattle.stack_engine.specs.Plans.{wanted}
use Rattle.stack_engine.specs.Tower.{Steps, TowerSeen}
use Rattle.stack_engine.proofs.Entering.{at_same}
use Rattle.stack_engine.proofs.Planning.{plan_kind}
use Rattle.stack_engine.proofs.States.{ground_in}
use Rattle.spr_volume.specs.Drive.{Drives, drives_none, drives_one}
use Rattle.spr_volume.specs.Needed.{as_planned}
use Rattle.spr_volume.proofs.Needing.{planned}

-- a message moves the state as it does as a plan names it
planned_state : (tree : TreeShape) (s : State) (event : Event) → state_after tree s (as_planned event) ≡ state_after tree s event
planned_state tree s (events.Access caller number node life op) = refl
planned_state tree s (events.PageIn node page write) = refl
planned_state tree s (events.ZeroFill node page write) = refl
planned_state tree s (events.PageOut node page) = refl
planned_state tree s (events.WriteOut node page) = refl
planned_state tree s (events.SyncOut node page) = refl
planned_state tree s (events.FlushBack node page) = refl
planned_state tree s (events.DenyWrites node page) = refl
planned_state tree s (events.WriteBack node page) = refl
planned_state tree s (events.DeleteRange node page) = refl
planned_state tree s (events.DestroyCache caller number node) = refl
planned_state tree s (events.DonePager caller number node) = refl
planned_state tree s (events.Synced caller number node from keep) = refl

stands_state : (tree : TreeShape) (s : State) (old new : EngineSeen) (asked event : Event) → IsPageMessage asked → StandsFor old new asked event → state_after tree s event ≡ state_after tree s asked
stands_state tree s old new asked event kind stands = sym (planned_state tree s event) ∙ ap (state_after tree s) (planned old new asked event kind stands)

-- how many are left, after these events
abbrev left_of : TreeShape → PagedFile → List Event → ℕ → ℕ → Right → ℕ
left_of tree file trail node page want = cost_of tree file.pages (state_of tree trail) node page want

abbrev left_in : EngineSeen → ℕ → ℕ → Right → ℕ
left_in e node page want = left_of (tree_in e) (file_in e) (events_in e) node page want

-- A MESSAGE LEAVES ONE LESS
one_less : (caller node life : ℕ) (op : Op) (t u : TowerSeen) (event : Event) (s : Steps caller node life op t u event) → left_in u.engine node s.page s.want + 1 ≡ left_in t.engine node s.page s.want
one_less caller node life op t u event s =
    let kind : IsPageMessage s.asked = plan_kind (tree_in t.engine) (file_in t.engine).pages (state_in t.engine) node s.page s.want s.asked s.steps.plan in
    let goes : events_in u.engine ≡ events_in t.engine ++ event ∷ [] = ap trail_of s.sends.enters.log ∙ trail_of-entered (log_in t.engine) _ in
    let moved : state_of (tree_in t.engine) (events_in t.engine ++ event ∷ []) ≡ state_after (tree_in t.engine) (state_in t.engine) s.asked
    = state_of-snoc (tree_in t.engine) (events_in t.engine) event ∙ stands_state (tree_in t.engine) (state_in t.engine) t.engine u.engine s.asked event kind s.sends.stands in
    let here : left_of (tree_in t.engine) (file_in t.engine) (events_in t.engine ++ event ∷ []) node s.page s.want + 1 ≡ left_in t.engine node s.page s.want
    = subst (λ (st : State). cost_of (tree_in t.engine) (file_in t.engine).pages st node s.page s.want + 1 ≡ left_in t.engine node s.page s.want) (sym moved) s.steps.cheaper in
    at_same (λ tree file. left_of tree file (events_in u.engine) node s.page s.want + 1 ≡ left_in t.engine node s.page s.want) t.engine.tables u.engine.tables s.sends.enters.goes.file
    (subst (λ (trail : List Event). left_of (tree_in t.engine) (file_in t.engine) trail node s.page s.want + 1 ≡ left_in t.engine node s.page s.want) (sym goes) here)

some_is : {A : Type 0} (x y : A) (o : Option A) → o ≡ Some x → o ≡ Some y → x ≡ y
some_is x y o a b = let both : Some x ≡ Some y = sym a ∙ b in cc

driven : (caller node life : ℕ) (op : Op) (page : ℕ) (want : Right) → page_of_op op ≡ Some page → wanted op ≡ Some want → (n : ℕ) (t v : TowerSeen) → Drives caller node life op n t v → n ≤ left_in t.engine node page want
driven caller node life op page want at wants n t v drives_none = omega arith
driven caller node life op page want at wants n t v (drives_one {n = m} {u = u} {event = event} s more) =
    let page_is : s.page ≡ page = some_is s.page page (page_of_op op) s.wants.page_is at in
    let want_is : s.want ≡ want = some_is s.want want (wanted op) s.wants.want_is wants in
    let less : left_in u.engine node page want + 1 ≡ left_in t.engine node page want
    = subst (λ (w : Right). left_in u.engine node page w + 1 ≡ left_in t.engine node page w) want_is
    (subst (λ (p : ℕ). left_in u.engine node p s.want + 1 ≡ left_in t.engine node p s.want) page_is (one_less caller node life op t u event s)) in
    let rest : m ≤ left_in u.engine node page want = driven caller node life op page want at wants m u v more in
    omega (arith, less, rest)

-- AT MOST AS MANY AS THE TREE HAS NODES
pub tries_end : (caller node life n : ℕ) (op : Op) (before after : TowerSeen) → IsSound before.engine → IsUpper (tree_in before.engine) node → Drives caller node life op n before after → n ≤ nodes (tree_in before.engine)
tries_end caller node life n op before after sound upper drives_none = omega arith
tries_end caller node life n op before after sound upper (drives_one s more) =
    let few : left_in before.engine node s.page s.want ≤ nodes (tree_in before.engine)
    = cost_of-le (tree_in before.engine) (file_in before.engine).pages (state_in before.engine) node s.page s.want sound.true_to.tree upper (ground_in before.engine sound s.page) in
    let many = driven caller node life op s.page s.want s.wants.page_is s.wants.want_is n before after (drives_one s more) in
    omega (arith, few, many)
