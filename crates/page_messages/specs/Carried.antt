-- What a message about a page means to whoever reads it: what it is about, what it is answered with, and the bytes that it
-- carries.
use Rattle.std.specs.Prelude.{ℕ, if◌then◌else◌, List, Option, Some, None}
use Rattle.tower_core.specs.declared.right.Right.{Right}
use Rattle.layer_laws.specs.Side.{Side}
use Rattle.layer_laws.specs.Sent.{down_for, pushed_by}
use Rattle.pager_channel.specs.declared.operation.Operation.{Operation}
use Rattle.page_messages.specs.declared.kinds.Asked.{Asked}
use Rattle.page_messages.specs.declared.kinds.Called.{Called}
use Rattle.page_messages.specs.declared.kinds.Answer.{Answer}
use Rattle.page_messages.specs.declared.paged.About.{About}
use Rattle.page_messages.specs.Letters.{is_paged}

-- the end of a channel is about the channel, and every other message about its page
abbrev pub about_sent : Operation → ℕ → About
about_sent which page = if is_paged which then About.Page page else About.Channel

-- a node that reads a page already is given the right alone
abbrev pub write_answered : Right → Answer
write_answered Right.Nothing = Answer.Grant
write_answered right = Answer.Upgrade

-- what a node that has this right is answered
abbrev pub answered : Right → Asked → Answer
answered right Asked.PageInRead = Answer.Grant
answered right Asked.PageInWrite = write_answered right
answered right Asked.PageOut = Answer.PageOut
answered right Asked.WriteOut = Answer.WriteOut
answered right Asked.Sync = Answer.Sync
answered right Asked.Done = Answer.Done

-- the bytes that an answer brings down, where the page has these
abbrev pub asked_down : Right → List ℕ → Asked → Option (List ℕ)
asked_down right page Asked.PageInRead = Some page
asked_down right page Asked.PageInWrite = down_for right page
asked_down right page what = None

-- the bytes that a question takes up
abbrev pub asked_up : Side → Asked → Option (List ℕ)
asked_up s Asked.PageOut = pushed_by s
asked_up s Asked.WriteOut = pushed_by s
asked_up s Asked.Sync = pushed_by s
asked_up s what = None

-- the bytes that an answer to an order takes up
abbrev pub called_up : Side → Called → Option (List ℕ)
called_up s Called.FlushBack = pushed_by s
called_up s Called.DenyWrites = pushed_by s
called_up s Called.WriteBack = pushed_by s
called_up s what = None
