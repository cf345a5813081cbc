-- The tables of all nodes, and those of the two that an exchange is between.
use Rattle.std.specs.Prelude.{◌≡◌, ◌≢◌, ℕ, List, Option}
use Rattle.tower_core.specs.TreeShape.{TreeShape, parent, IsUpper}
use Rattle.tower_core.specs.declared.right.Right.{Right}
use Rattle.layer_laws.specs.Sent.{page_above}
use Rattle.layer_laws.specs.Side.{Side, own_after, kid_after}
use Rattle.page_messages.specs.declared.kinds.Asked.{Asked}
use Rattle.page_messages.specs.declared.paged.PagedFile.{PagedFile}
use Rattle.page_messages.specs.Rights.{IsForPage}
use Rattle.page_messages.specs.Written.{asked_by}
use Rattle.page_exchange.specs.Table.{IsLike}
use Rattle.page_exchange.specs.Wire.{WentOver, WireSeen}

-- the tables, by page and node, have this one as the node's
abbrev pub HasTable : (ℕ → ℕ → Side) → ℕ → (ℕ → Side) → Type 0
HasTable sides node table = (page : ℕ) → sides page node ≡ table page

-- AN EXCHANGE about one page: the node's table keeps its part, its parent's takes the other, and no other page's tables changed
pub record AreExchangedAt (shape : TreeShape) (node page : ℕ) (right : Right) (down up : Option (List ℕ)) (old new : ℕ → ℕ → Side) : Type 0 where
  pub own : IsLike (own_after right down (old page node)) (new page node)
  pub above : IsUpper shape (parent shape node) → new page (parent shape node) ≡ kid_after node right up (old page (parent shape node))
  pub others : (m : ℕ) → m ≢ node → m ≢ parent shape node → new page m ≡ old page m
  pub pages : (p m : ℕ) → p ≢ page → new p m ≡ old p m

-- THE FRAMES OF A QUESTION, by the tables before it: the node asks, and its parent, a node or the ground, whose page has these bytes then, answers
-- by its own. A page that came to a node that had nothing of it is the parent's
pub record AreAskedAt (shape : TreeShape) (wire : WireSeen) (file : PagedFile) (node page : ℕ) (what : Asked) (old new : ℕ → ℕ → Side) : Type 0 where
  pub base : List ℕ
  pub came : IsForPage what → (old page node).right ≡ Right.Nothing → (new page node).copy ≡ page_above shape (old page) base node
  pub went : WentOver wire file (asked_by (old page node) (page_above shape (old page) base node) page what)
