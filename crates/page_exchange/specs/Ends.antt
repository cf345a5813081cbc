-- The end of a channel: its two frames are about no page, and carry none.
use Rattle.std.specs.Prelude.{◌<◌, ℕ, [], true}
use Rattle.tower_core.specs.declared.right.Right.{Right}
use Rattle.tower_core.specs.TreeShape.{TreeShape}
use Rattle.layer_laws.specs.Side.{Side}
use Rattle.page_messages.specs.declared.kinds.Asked.{Asked}
use Rattle.page_messages.specs.declared.kinds.Called.{Called}
use Rattle.page_messages.specs.Letters.{answer, order, question, reply}
use Rattle.page_messages.specs.Seen.{no_side}
use Rattle.page_messages.specs.Written.{Letters}
use Rattle.page_exchange.specs.Allowed.{AllowAsking, AllowCalling}

-- a node is done with the pages of its parent, and its parent answers
abbrev pub letters_done : Letters
letters_done = record { page = 0; first = question no_side Asked.Done; second = answer Right.Nothing [] Asked.Done }

-- a node's parent destroys its cache, and the node answers
abbrev pub letters_destroyed : Letters
letters_destroyed = record { page = 0; first = order Called.Destroy; second = reply no_side Called.Destroy }

-- the node and its parent allow the end of their channel, on each page: neither the node nor a child of it has a right
pub record AllowEnd (shape : TreeShape) (sides : ℕ → ℕ → Side) (node pages : ℕ) : Type 0 where
  pub asks : (page : ℕ) → page < pages → AllowAsking shape (sides page) node true Asked.Done
  pub calls : (page : ℕ) → page < pages → AllowCalling shape (sides page) node Called.Destroy
