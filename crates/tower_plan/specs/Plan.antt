-- Which event comes next, and how many are left.
use Rattle.std.specs.Prelude.{◌≡◌, ℕ, zero, suc, ◌+◌, ◌<◌, ◌≤◌, Bool, true, false, ◌==◌, nat_le, if◌then◌else◌}
use Rattle.hist_plain.specs.declared.event.Event.{Event}
use Rattle.tower_plan.specs.declared.plan.Next.{Next}
use Rattle.tower_core.specs.declared.right.Right.{Right}
use Rattle.tower_core.specs.Count.{count_below}
use Rattle.tower_core.specs.TreeShape.{TreeShape, parent, nodes, frames_of, is_within}
use Rattle.tower_core.specs.declared.step.Step.TheVariants.{Reads, Writes}
use Rattle.tower_core.specs.Column.{Column, MayStep}
use Rattle.tower_core.specs.Trail.{State, holds, held_below, IsOldest}

-- who wants to read lacks a right that is Nothing, and who wants to write one that is not Write
abbrev pub lacks : Right → Right → Bool
lacks Right.Nothing right = false
lacks Right.Read Right.Nothing = true
lacks Right.Read Right.Read = false
lacks Right.Read Right.Write = false
lacks Right.Write Right.Nothing = true
lacks Right.Write Right.Read = true
lacks Right.Write Right.Write = false

-- a reader is hindered by Write off its path, and a writer by any right there
abbrev pub hinders : Right → Right → Bool
hinders Right.Nothing right = false
hinders Right.Read Right.Nothing = false
hinders Right.Read Right.Read = false
hinders Right.Read Right.Write = true
hinders Right.Write Right.Nothing = false
hinders Right.Write Right.Read = true
hinders Right.Write Right.Write = true

-- a node must change its right: it is on the path and lacks one, or it is off the path and hinders
abbrev pub must_change : Right → Bool → Right → Bool
must_change want true right = lacks want right
must_change want false right = hinders want right

abbrev pub is_left : TreeShape → Column → ℕ → Right → ℕ → Bool
is_left shape col node want other = must_change want (is_within shape node other) (col.right other)

-- the node is a leaf with no frame left, and has Nothing on the page
abbrev pub is_full : TreeShape → ℕ → State → ℕ → ℕ → Bool
is_full shape pages s node page =
    if holds ((s.column page).right node)
    then false
    else (if frames_of shape node == 0 then false else nat_le (frames_of shape node) (held_below s node pages))

-- how many events are left before the access
abbrev pub cost_of : TreeShape → ℕ → State → ℕ → ℕ → Right → ℕ
cost_of shape pages s node page want =
    count_below (is_left shape (s.column page) node want) (nodes shape) + (if is_full shape pages s node page then 1 else 0)

-- how many steps up the ground is
abbrev pub depth_within : TreeShape → ℕ → ℕ → ℕ
depth_within shape zero node = 0
depth_within shape (suc steps) node = if node == 0 then 0 else depth_within shape steps (parent shape node) + 1

abbrev pub depth_of : TreeShape → ℕ → ℕ
depth_of shape node = depth_within shape node node

-- a node off the path that hinders
pub record IsHindrance (shape : TreeShape) (col : Column) (node : ℕ) (want : Right) (other : ℕ) : Type 0 where
  pub inside : other < nodes shape
  pub off : is_within shape node other ≡ false
  pub hinders : hinders want (col.right other) ≡ true

-- the deepest of these, and of equal depth the greatest number
pub record IsFirstHindrance (shape : TreeShape) (col : Column) (node : ℕ) (want : Right) (other : ℕ) : Type 0 where
  pub is_one : IsHindrance shape col node want other
  pub deepest : (third : ℕ) → IsHindrance shape col node want third → depth_of shape third ≤ depth_of shape other
  pub greatest : (third : ℕ) → IsHindrance shape col node want third → depth_of shape third ≡ depth_of shape other → third ≤ other

-- a node on the path that lacks the right
pub record IsLacking (shape : TreeShape) (col : Column) (node : ℕ) (want : Right) (other : ℕ) : Type 0 where
  pub inside : other < nodes shape
  pub on : is_within shape node other ≡ true
  pub lacks : lacks want (col.right other) ≡ true

-- the lowest of these: parents have the smaller numbers
pub record IsFirstLacking (shape : TreeShape) (col : Column) (node : ℕ) (want : Right) (other : ℕ) : Type 0 where
  pub is_one : IsLacking shape col node want other
  pub lowest : (third : ℕ) → IsLacking shape col node want third → other ≤ third

abbrev pub NoHindrance : TreeShape → Column → ℕ → Right → Type 0
NoHindrance shape col node want = (other : ℕ) → IsHindrance shape col node want other → ⊥

abbrev pub NoneLacks : TreeShape → Column → ℕ → Right → Type 0
NoneLacks shape col node want = (other : ℕ) → IsLacking shape col node want other → ⊥

-- what a node off the path gets, by what is wanted and what it has
abbrev pub revoking : Right → Right → ℕ → ℕ → Event
revoking Right.Write Right.Write node page = Event.FlushBack node page
revoking Right.Write Right.Read node page = Event.DeleteRange node page
revoking Right.Write Right.Nothing node page = Event.DeleteRange node page
revoking Right.Read have node page = Event.DenyWrites node page
revoking Right.Nothing have node page = Event.DenyWrites node page

abbrev pub is_write : Right → Bool
is_write Right.Nothing = false
is_write Right.Read = false
is_write Right.Write = true

-- the leaf is full, and the page is its least recently used
pub record IsVictim (shape : TreeShape) (pages : ℕ) (s : State) (node page victim : ℕ) : Type 0 where
  pub full : is_full shape pages s node page ≡ true
  pub oldest : IsOldest pages s node victim

-- THE RULES
pub data IsNext (shape : TreeShape) (pages : ℕ) (s : State) (node page : ℕ) (want : Right) : Event → Type 0 where
  -- 1: the deepest hindrance off the path goes
  Revoke : (other : ℕ) → IsFirstHindrance shape (s.column page) node want other → IsNext shape pages s node page want (revoking want ((s.column page).right other) other page)
  -- 2: a full leaf gives back its least recently used page
  Evict : (victim : ℕ) → NoHindrance shape (s.column page) node want → IsVictim shape pages s node page victim → IsNext shape pages s node page want (Event.PageOut node victim)
  -- 3: the lowest node on the path that lacks the right gets a grant
  Grant : (other : ℕ) → NoHindrance shape (s.column page) node want → is_full shape pages s node page ≡ false → IsFirstLacking shape (s.column page) node want other → IsNext shape pages s node page want (Event.PageIn other page (is_write want))

-- nothing is left to do
pub record IsReady (shape : TreeShape) (pages : ℕ) (s : State) (node page : ℕ) (want : Right) : Type 0 where
  pub free : NoHindrance shape (s.column page) node want
  pub roomy : is_full shape pages s node page ≡ false
  pub complete : NoneLacks shape (s.column page) node want

-- what a plan answers: nothing is left, or the next event is this one
abbrev pub IsAnswer : TreeShape → ℕ → State → ℕ → ℕ → Right → Next → Type 0
IsAnswer shape pages s node page want Next.Ready = IsReady shape pages s node page want
IsAnswer shape pages s node page want (Next.Do event) = IsNext shape pages s node page want event

-- a fact of the event that a plan answers, if there is one
abbrev pub IfDo : Next → (Event → Type 0) → Type 0
IfDo Next.Ready P = Unit {0}
IfDo (Next.Do event) P = P event

-- an access that wants this right may be made
abbrev pub MayAccessFor : TreeShape → Column → ℕ → Right → Type 0
MayAccessFor shape col node Right.Nothing = Unit {0}
MayAccessFor shape col node Right.Read = MayStep shape col (Reads node)
MayAccessFor shape col node Right.Write = MayStep shape col (Writes node)
