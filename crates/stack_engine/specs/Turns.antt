-- Whose turn it is at a file: one for each page, one for each leaf, and one for the file.
use Rattle.std.specs.Prelude.{ℕ, ◌==◌, not, Bool, true, false, List, [], ◌∷◌, ◌++◌, filter, find, Option, Some, None, if◌then◌else◌}
use Rattle.std.specs.Option.{option_map}
use Rattle.hist_plain.specs.declared.event.Event.{Event}
use Rattle.hist_plain.specs.declared.event.Event.TheVariants as events
use Rattle.hist_plain.specs.declared.event.Keep.{Keep}
use Rattle.tower_core.specs.TreeShape.{TreeShape, frames_of}
use Rattle.stack_engine.specs.declared.turns.Turn.{Turn}
use Rattle.stack_engine.specs.declared.turns.TurnOf.{TurnOf}
use Rattle.stack_engine.specs.declared.turns.TurnOf.TheVariants.{File, Leaf, Page}

-- the turn of a page, that of a leaf, and the file's
abbrev pub is_of_page : ℕ → TurnOf → Bool
is_of_page page (Page p) = p == page
is_of_page page (Leaf l) = false
is_of_page page File = false

abbrev pub is_of_leaf : ℕ → TurnOf → Bool
is_of_leaf leaf (Page p) = false
is_of_leaf leaf (Leaf l) = l == leaf
is_of_leaf leaf File = false

abbrev pub is_of_file : TurnOf → Bool
is_of_file (Page p) = false
is_of_file (Leaf l) = false
is_of_file File = true

-- whether the second turn is the first
abbrev pub is_same : TurnOf → TurnOf → Bool
is_same (Page page) other = is_of_page page other
is_same (Leaf leaf) other = is_of_leaf leaf other
is_same File other = is_of_file other

-- who has a turn
abbrev pub holder_of : TurnOf → List Turn → Option ℕ
holder_of of turns = option_map {T = Turn} (λ turn. turn.caller) (find (λ turn. is_same of turn.of) turns)

-- another than the caller
abbrev pub other_than : ℕ → Option ℕ → Option ℕ
other_than caller None = None
other_than caller (Some holder) = if holder == caller then None else Some holder

-- which other caller has a turn
abbrev pub other_holder : ℕ → TurnOf → List Turn → Option ℕ
other_holder caller of turns = other_than caller (holder_of of turns)

-- the first of two callers, where there is one
abbrev pub first_of : Option ℕ → Option ℕ → Option ℕ
first_of None second = second
first_of (Some holder) second = Some holder

-- the node of an access, if it is a leaf
abbrev pub leaf_at : TreeShape → ℕ → Option ℕ
leaf_at shape node = if frames_of shape node == 0 then None else Some node

-- which other caller has the turn of the leaf at which an access is, if it is at one
abbrev pub leaf_holder : ℕ → Option ℕ → List Turn → Option ℕ
leaf_holder caller None turns = None
leaf_holder caller (Some leaf) turns = other_holder caller (Leaf leaf) turns

-- WHO IS BEFORE A CALLER that misses a page, maybe at a leaf: another that has the page's turn, or the leaf's, or the file's; the
-- first in this order
abbrev pub blocker : ℕ → ℕ → Option ℕ → List Turn → Option ℕ
blocker caller page leaf turns = first_of (other_holder caller (Page page) turns) (first_of (leaf_holder caller leaf turns) (other_holder caller File turns))

-- WITH WHICH RIGHTS A SYNC PUSHES a page: it lowers none where another caller has the page's turn
abbrev pub kept_beside : Option ℕ → Keep → Keep
kept_beside None keep = keep
kept_beside (Some holder) keep = Keep.Write

abbrev pub pushed_as : ℕ → ℕ → Keep → List Turn → Keep
pushed_as caller page keep turns = kept_beside (other_holder caller (Page page) turns) keep

-- the turns after the caller took one, unless somebody had it
abbrev pub turns_with : ℕ → TurnOf → List Turn → Option ℕ → List Turn
turns_with caller of turns (Some holder) = turns
turns_with caller of turns None = turns ++ record { caller = caller; of = of } ∷ []

abbrev pub with_turn : ℕ → TurnOf → List Turn → List Turn
with_turn caller of turns = turns_with caller of turns (holder_of of turns)

-- the leaf of which a page goes out by the event, if one does
abbrev pub leaf_emptied : Event → Option ℕ
leaf_emptied (events.PageOut leaf page) = Some leaf
leaf_emptied event = None

abbrev pub with_leaf : ℕ → Option ℕ → List Turn → List Turn
with_leaf caller None turns = turns
with_leaf caller (Some leaf) turns = with_turn caller (Leaf leaf) turns

-- THE TURNS AFTER A STEP towards an access: the caller took the page's turn, and the leaf's too if a page goes out of it
abbrev pub turns_stepping : ℕ → ℕ → Event → List Turn → List Turn
turns_stepping caller page event turns = with_leaf caller (leaf_emptied event) (with_turn caller (Page page) turns)

-- the turns after the caller gave up all of its own
abbrev pub without_turns : ℕ → List Turn → List Turn
without_turns caller turns = filter (λ turn. not (turn.caller == caller)) turns
