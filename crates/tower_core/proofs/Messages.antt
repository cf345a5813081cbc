-- A node's right is the fold of its own messages alone.
use Rattle.std.proofs.Common.{◌≡◌, ℕ, ◌∙◌, ap, refl, Bool, true, false, ◌&&◌, eqb, cond, List, [], ◌∷◌, filter}
use Rattle.std.specs.List.{fold}
use Rattle.hist_plain.specs.declared.event.Event.{Event}
use Rattle.hist_plain.specs.declared.event.Op.{Op}
use Rattle.tower_core.specs.declared.right.Right.{Right}
use Rattle.tower_core.specs.declared.step.Step.{Step}
use Rattle.tower_core.specs.declared.step.Step.TheVariants.{Untouched, Reads, Writes, Grants, PagesOut, Denies, Pushes, Flushes, Deletes}
use Rattle.tower_core.specs.TreeShape.{TreeShape}
use Rattle.tower_core.specs.Column.{right_after, right_at_start}
use Rattle.tower_core.specs.Trail.{State, state_after, start, step_of, step_of_access, right_of}
use Rattle.tower_core.specs.Messages.{is_message_of, right_after_message}

-- no access changes a right
quiet : (right : ℕ → Right) (node : ℕ) (step : Step) → right_after right step node ≡ right node → (b : Bool) → right_after right (cond b step Untouched) node ≡ right node
quiet right node step h true = h
quiet right node step h false = refl

quiet_access : (right : ℕ → Right) (node page n : ℕ) (op : Op) → right_after right (step_of_access page n op) node ≡ right node
quiet_access right node page n (Op.Read p off len) = quiet right node (Reads n) refl (eqb p page)
quiet_access right node page n (Op.Write p off bytes) = quiet right node (Writes n) refl (eqb p page)
quiet_access right node page n (Op.Clear p) = quiet right node (Writes n) refl (eqb p page)
quiet_access right node page n Op.Open = refl

same : (c : Bool) (x : Right) → cond c x x ≡ x
same true x = refl
same false x = refl

-- a message that changes the right of its node
moves : (right : ℕ → Right) (node n : ℕ) (step : Step) (new : Right) → right_after right step node ≡ cond (eqb node n) new (right node) → (b : Bool) → right_after right (cond b step Untouched) node ≡ cond (b && eqb node n) new (right node)
moves right node n step new h true = h
moves right node n step new h false = refl

-- a message that leaves it
leaves : (right : ℕ → Right) (node n : ℕ) (b : Bool) → right_after right (cond b (Pushes n) Untouched) node ≡ cond (b && eqb node n) (right node) (right node)
leaves right node n b = quiet right node (Pushes n) refl b ∙ back (b && eqb node n)
  where
    back : (c : Bool) → right node ≡ cond c (right node) (right node)
    back true = refl
    back false = refl

one : (life : ℕ → ℕ) (right : ℕ → Right) (node page : ℕ) (event : Event) → right_after right (step_of life page event) node ≡ cond (is_message_of node page event) (right_after_message (right node) event) (right node)
one life right node page (Event.Access caller number n l op) = quiet right node (step_of_access page n op) (quiet_access right node page n op) (eqb l (life n))
one life right node page (Event.PageIn n p true) = moves right node n (Grants n true) Right.Write refl (eqb p page)
one life right node page (Event.PageIn n p false) = moves right node n (Grants n false) Right.Read refl (eqb p page)
one life right node page (Event.ZeroFill n p true) = moves right node n (Grants n true) Right.Write refl (eqb p page)
one life right node page (Event.ZeroFill n p false) = moves right node n (Grants n false) Right.Read refl (eqb p page)
one life right node page (Event.PageOut n p) = moves right node n (PagesOut n) Right.Nothing refl (eqb p page)
one life right node page (Event.WriteOut n p) = moves right node n (Denies n) Right.Read refl (eqb p page)
one life right node page (Event.SyncOut n p) = leaves right node n (eqb p page)
one life right node page (Event.FlushBack n p) = moves right node n (Flushes n) Right.Nothing refl (eqb p page)
one life right node page (Event.DenyWrites n p) = moves right node n (Denies n) Right.Read refl (eqb p page)
one life right node page (Event.WriteBack n p) = leaves right node n (eqb p page)
one life right node page (Event.DeleteRange n p) = moves right node n (Deletes n) Right.Nothing refl (eqb p page)
one life right node page (Event.DestroyCache caller number n) = refl
one life right node page (Event.DonePager caller number n) = refl
one life right node page (Event.Synced caller number n from keep) = refl

-- an event that is left out of the list is left out of the fold
passed : (b : Bool) (had : Right) (event : Event) (kept : List Event) → fold right_after_message (cond b (right_after_message had event) had) kept ≡ fold right_after_message had (cond b (event ∷ kept) kept)
passed true had event kept = refl
passed false had event kept = refl

along : (shape : TreeShape) (node page : ℕ) (s : State) (trail : List Event) → ((fold (state_after shape) s trail).column page).right node ≡ fold right_after_message ((s.column page).right node) (filter (is_message_of node page) trail)
along shape node page s [] = refl
along shape node page s (event ∷ events) =
    along shape node page (state_after shape s event) events
    ∙ ap (λ r. fold right_after_message r (filter (is_message_of node page) events)) (one s.life (s.column page).right node page event)
    ∙ passed (is_message_of node page event) ((s.column page).right node) event (filter (is_message_of node page) events)

pub right_of-messages : (shape : TreeShape) (trail : List Event) (node page : ℕ) → right_of shape trail node page ≡ fold right_after_message (right_at_start node) (filter (is_message_of node page) trail)
right_of-messages shape trail node page = along shape node page start trail
