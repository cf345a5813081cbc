use Rattle.std.proofs.Common.{◌≡◌, Some, sym, subst}
use Rattle.page_messages.specs.declared.kinds.Called.{Called}
use Rattle.page_messages.specs.declared.paged.About.{About}
use Rattle.page_messages.specs.Kinds.{called_in}
use Rattle.page_messages.specs.Paged.{about_of}
use Rattle.page_exchange.specs.declared.table.Table.{Table}
use Rattle.page_exchange.specs.Table.{file_of, reply_to}
use Rattle.page_exchange.specs.Wire.{AreSent}
use Rattle.page_exchange.proofs.steps.obey.Goals as goal

pub returns-in-Layer-clause-sent : goal.returns-in-Layer-clause-sent
returns-in-Layer-clause-sent c =
    subst (λ (t : Table). (what : Called) (about : About) → called_in c.args.frame.now ≡ Some what → about_of (file_of t) c.args.frame.now ≡ Some about → AreSent c.args.ops.now c.obey_layer.new.buf.bytes (reply_to c.args.ops.now t what about))
    (sym c.in-Layer.is) c.obey_layer.ensures.sent

pub returns-in-Leaf-clause-sent : goal.returns-in-Leaf-clause-sent
returns-in-Leaf-clause-sent c =
    subst (λ (t : Table). (what : Called) (about : About) → called_in c.args.frame.now ≡ Some what → about_of (file_of t) c.args.frame.now ≡ Some about → AreSent c.args.ops.now c.obey_leaf.new.buf.bytes (reply_to c.args.ops.now t what about))
    (sym c.in-Leaf.is) c.obey_leaf.ensures.sent
