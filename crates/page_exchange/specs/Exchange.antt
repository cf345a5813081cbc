-- A message and its answer between two nodes of one file, and what they make of the two tables.
use Rattle.std.specs.Prelude.{◌≡◌, ℕ, Bool, true, List, [], Option}
use Rattle.tower_core.specs.declared.right.Right.{Right}
use Rattle.layer_laws.specs.Side.{Side, own_after, kid_after}
use Rattle.page_messages.specs.declared.kinds.Asked.{Asked}
use Rattle.page_messages.specs.declared.paged.About.{About}
use Rattle.page_messages.specs.declared.refusal.NodeErr.{NodeErr}
use Rattle.page_messages.specs.declared.refusal.NodeErr.TheVariants as errors
use Rattle.page_messages.specs.Written.{Letters, asked_of}
use Rattle.coherency_layer.specs.declared.node.Node.{Node}
use Rattle.coherency_layer.specs.Node as layers
use Rattle.page_exchange.specs.declared.table.Table.{Table}
use Rattle.page_exchange.specs.Table.{file_of, side, ChangesPage, IsSameTable, ListsUses}

-- the tables are of one file, and the one node is a child of the other, which is a layer
pub record IsPair (own : Table) (above : Node) (node : ℕ) : Type 0 where
  pub file : layers.file_of above ≡ file_of own
  pub child : layers.HasChild above node

-- a question has data where it may: a page that goes out has them only if it is changed
abbrev pub may_be_full : Side → Asked → Bool
may_be_full s Asked.PageOut = s.changed
may_be_full s what = true

-- the node's own table after a message about it: it has this right of the page, and these bytes came down
abbrev pub ChangesOwn : Table → Table → About → Right → Option (List ℕ) → Type 0
ChangesOwn old new (About.Page page) right down = ChangesPage old new page (own_after right down (side old page))
ChangesOwn old new About.Channel right down = (page : ℕ) → side new page ≡ side old page

-- the parent's table after it: it has the node's right of the page, and these bytes came up
abbrev pub ChangesAbove : Node → Node → ℕ → About → Right → Option (List ℕ) → Type 0
ChangesAbove old new node (About.Page page) right up = layers.ChangesPage old new page (kid_after node right up (layers.side old page))
ChangesAbove old new node About.Channel right up = (page : ℕ) → layers.side new page ≡ layers.side old page

pub record IsOwnChange (old new : Table) (about : About) (right : Right) (down : Option (List ℕ)) (listed : List ℕ) : Type 0 where
  pub same : IsSameTable old new
  pub pages : ChangesOwn old new about right down
  pub uses : ListsUses old new listed

pub record IsAboveChange (old new : Node) (node : ℕ) (about : About) (right : Right) (up : Option (List ℕ)) : Type 0 where
  pub same : layers.IsSameNode old new
  pub pages : ChangesAbove old new node about right up

-- memory may lack only where a page comes to a node that has nothing of it and kept no copy
pub record LacksCopy (table : Table) (page : ℕ) : Type 0 where
  pub nothing : (side table page).right ≡ Right.Nothing
  pub no_copy : (side table page).copy ≡ []

-- the parent's table has the node's right
abbrev pub Knows : Node → Table → ℕ → ℕ → Type 0
Knows above own node page = (layers.side above page).kids node ≡ (side own page).right

-- what goes over the wire for a question: each of the two writes by its own table
abbrev pub letters_asked : Table → Node → ℕ → ℕ → Asked → Letters
letters_asked own above node page what = asked_of (side own page) ((layers.side above page).kids node) (layers.side above page).copy page what

-- why a question was not answered, where the parent knows the node's right
abbrev pub IsLack : Table → ℕ → NodeErr → Type 0
IsLack own page err = (err ≡ errors.Memory) × LacksCopy own page
