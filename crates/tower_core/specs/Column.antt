-- One page in a trail: the rights and places of all nodes, and the table of events, which says what each step does to them and when it is allowed.
use Rattle.std.specs.Prelude.{◌≡◌, ◌≢◌, ℕ, ◌+◌, ◌<◌, ◌≤◌, Bool, true, false, ◌==◌, if◌then◌else◌}
use Rattle.tower_core.specs.declared.right.Right.{Right}
use Rattle.tower_core.specs.declared.step.Step.{Step}
use Rattle.tower_core.specs.declared.step.Step.TheVariants.{Untouched, Reads, Writes, Grants, PagesOut, Denies, Pushes, Flushes, Deletes}
use Rattle.tower_core.specs.TreeShape.{TreeShape, parent, nodes, IsUpper, IsChild}

-- a place k stands for the page as it is after the first k events of the trail
pub record Column : Type 0 where
  -- what each node may do with the page
  pub right : ℕ → Right
  -- the place whose bytes each node's copy shows
  pub at : ℕ → ℕ
  -- the place after the last effective write or clear
  pub newest : ℕ

-- the table with another value at one key
abbrev pub updated : {A : Type 0} → (ℕ → A) → ℕ → A → ℕ → A
updated table key value k = if k == key then value else table k

-- THE TABLE OF EVENTS, in three columns, a line for each step: a read, a write or clear, a grant for writing or reading (PageIn, ZeroFill), PageOut, a denial (WriteOut, DenyWrites), a push (SyncOut, WriteBack), FlushBack, DeleteRange

-- the column "Right after"
abbrev pub right_after : (ℕ → Right) → Step → ℕ → Right
right_after right Untouched = right
right_after right (Reads node) = right
right_after right (Writes node) = right
right_after right (Grants node true) = updated right node Right.Write
right_after right (Grants node false) = updated right node Right.Read
right_after right (PagesOut node) = updated right node Right.Nothing
right_after right (Denies node) = updated right node Right.Read
right_after right (Pushes node) = right
right_after right (Flushes node) = updated right node Right.Nothing
right_after right (Deletes node) = updated right node Right.Nothing

-- the place that a node's copy shows after it is granted
abbrev pub granted_at : TreeShape → Column → ℕ → Right → ℕ
granted_at shape col node Right.Nothing = col.at (parent shape node)
granted_at shape col node Right.Read = col.at node
granted_at shape col node Right.Write = col.at node

-- the parent's copy shows what the node's does
abbrev pub given : TreeShape → Column → ℕ → ℕ → ℕ
given shape col node = updated col.at (parent shape node) (col.at node)

-- the column "at after"; len is the place before the event. It is 0 at a node that has Nothing
abbrev pub at_after : TreeShape → ℕ → Column → Step → ℕ → ℕ
at_after shape len col Untouched = col.at
at_after shape len col (Reads node) = col.at
at_after shape len col (Writes node) = updated col.at node (len + 1)
at_after shape len col (Grants node write) = updated col.at node (granted_at shape col node (col.right node))
at_after shape len col (PagesOut node) = updated (given shape col node) node 0
at_after shape len col (Denies node) = given shape col node
at_after shape len col (Pushes node) = given shape col node
at_after shape len col (Flushes node) = updated (given shape col node) node 0
at_after shape len col (Deletes node) = updated col.at node 0

-- the place after the last effective write or clear
abbrev pub newest_after : ℕ → ℕ → Step → ℕ
newest_after len newest (Writes node) = len + 1
newest_after len newest _ = newest

-- a step uses the page at the node: a grant there, or an access that reads, writes or clears
abbrev pub is_use : ℕ → Step → Bool
is_use node (Reads n) = node == n
is_use node (Writes n) = node == n
is_use node (Grants n write) = node == n
is_use node _ = false

-- the place after each node's last use
abbrev pub used_after : ℕ → (ℕ → ℕ) → Step → ℕ → ℕ
used_after len used step node = if is_use node step then len + 1 else used node

abbrev pub column_after : TreeShape → ℕ → Column → Step → Column
column_after shape len col step =
    record {
      right = right_after col.right step;
      at = at_after shape len col step;
      newest = newest_after len col.newest step;
    }

-- no child of the node has Write
abbrev pub NoChildWrites : TreeShape → Column → ℕ → Type 0
NoChildWrites shape col node = (child : ℕ) → IsChild shape child node → col.right child ≢ Right.Write

-- no child of the node has a right
abbrev pub NoChildHolds : TreeShape → Column → ℕ → Type 0
NoChildHolds shape col node = (child : ℕ) → IsChild shape child node → col.right child ≡ Right.Nothing

-- no other child of the node's parent has a right
abbrev pub NoSiblingHolds : TreeShape → Column → ℕ → Type 0
NoSiblingHolds shape col node =
    (child : ℕ) → IsChild shape child (parent shape node) → child ≢ node → col.right child ≡ Right.Nothing

-- the column "Allowed if", of what concerns the page's rights. What a line asks besides, as frames, stands in Trail.antt
abbrev pub MayStep : TreeShape → Column → Step → Type 0
MayStep shape col Untouched = Unit {0}
MayStep shape col (Reads node) = (col.right node ≢ Right.Nothing) × NoChildWrites shape col node
MayStep shape col (Writes node) = (col.right node ≡ Right.Write) × NoChildHolds shape col node
MayStep shape col (Grants node false) =
    (col.right node ≡ Right.Nothing)
    × (col.right (parent shape node) ≢ Right.Nothing)
    × NoChildWrites shape col (parent shape node)
MayStep shape col (Grants node true) =
    (col.right node ≢ Right.Write)
    × (col.right (parent shape node) ≡ Right.Write)
    × NoSiblingHolds shape col node
MayStep shape col (PagesOut node) = (col.right node ≢ Right.Nothing) × NoChildHolds shape col node
MayStep shape col (Denies node) = (col.right node ≡ Right.Write) × NoChildWrites shape col node
MayStep shape col (Pushes node) = col.right node ≡ Right.Write
MayStep shape col (Flushes node) = (col.right node ≡ Right.Write) × NoChildHolds shape col node
MayStep shape col (Deletes node) = (col.right node ≡ Right.Read) × NoChildHolds shape col node

-- the node that a step is about
abbrev pub node_of_step : Step → ℕ
node_of_step Untouched = 0
node_of_step (Reads node) = node
node_of_step (Writes node) = node
node_of_step (Grants node write) = node
node_of_step (PagesOut node) = node
node_of_step (Denies node) = node
node_of_step (Pushes node) = node
node_of_step (Flushes node) = node
node_of_step (Deletes node) = node

-- that node is one of the tree, and not the ground
abbrev pub IsStepOf : TreeShape → Step → Type 0
IsStepOf shape Untouched = Unit {0}
IsStepOf shape step = IsUpper shape (node_of_step step)

-- Nothing is below Read, and Read below Write
abbrev pub strength : Right → ℕ
strength Right.Nothing = 0
strength Right.Read = 1
strength Right.Write = 2

-- the page is coherent; the trail has len events so far
pub record IsCoherent (shape : TreeShape) (len : ℕ) (col : Column) : Type 0 where
  -- a node's right is at most its parent's
  pub capped : (node : ℕ) → IsUpper shape node → strength (col.right node) ≤ strength (col.right (parent shape node))
  -- if a node has Write, its siblings have Nothing
  pub alone : (node : ℕ) → IsUpper shape node → col.right node ≡ Right.Write → NoSiblingHolds shape col node
  -- a copy for reading shows what the parent's shows, and one for writing that or later
  pub reading : (node : ℕ) → IsUpper shape node → col.right node ≡ Right.Read → col.at node ≡ col.at (parent shape node)
  pub writing : (node : ℕ) → IsUpper shape node → col.right node ≡ Right.Write → col.at (parent shape node) ≤ col.at node
  -- a copy below which nobody writes shows the newest bytes
  pub current : (node : ℕ) → node < nodes shape → col.right node ≢ Right.Nothing → NoChildWrites shape col node → col.newest ≤ col.at node
  -- no copy shows a place that is yet to come
  pub placed : (node : ℕ) → node < nodes shape → col.at node ≤ len

-- the ground has Write, and no other node a right
abbrev pub right_at_start : ℕ → Right
right_at_start node = if node == 0 then Right.Write else Right.Nothing
