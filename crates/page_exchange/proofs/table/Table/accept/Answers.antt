use Rattle.std.specs.Prelude.{IfErr}
use Rattle.std.proofs.Common.{sym, subst}
use Rattle.page_exchange.specs.declared.table.Table.{Table}
use Rattle.page_exchange.specs.Table.{IsNotTaken}
use Rattle.page_exchange.proofs.Taking as taking
use Rattle.page_exchange.proofs.table.Table.accept.Goals as goal

pub returns-in-Layer-clause-why : goal.returns-in-Layer-clause-why
returns-in-Layer-clause-why c = subst (λ (t : Table). IfErr c.accept_reply.result (IsNotTaken t c.args.frame.now)) (sym c.in-Layer.is)
    (taking.layer_why _ c.args.frame.now c.accept_reply.result c.accept_reply.ensures.refused c.accept_reply.ensures.memory)

pub returns-in-Leaf-clause-why : goal.returns-in-Leaf-clause-why
returns-in-Leaf-clause-why c = subst (λ (t : Table). IfErr c.accept_reply-in-Leaf.result (IsNotTaken t c.args.frame.now)) (sym c.in-Leaf.is)
    (taking.leaf_why _ c.args.frame.now c.accept_reply-in-Leaf.result c.accept_reply-in-Leaf.ensures.refused c.accept_reply-in-Leaf.ensures.memory)
