use Rattle.std.proofs.Common.{subst, sym, ap, ◌∙◌}
use Rattle.layer_laws.specs.Side.{Side}
use Rattle.page_messages.specs.Letters.{IsLetter}
use Rattle.page_messages.specs.Rules.{MayObey}
use Rattle.coherency_layer.specs.Node.{side}
use Rattle.coherency_layer.proofs.Serving.{order_here}
use Rattle.coherency_layer.proofs.node.Node.reply.Goals as goal

pub put-requires-clause-letter : goal.put-requires-clause-letter
put-requires-clause-letter c =
    let may = order_here c.args.self.now c.args.frame.now c.in-Some-Some.what c.in-Some-Some.about c.requires.allowed (sym c.called_in.ensures ∙ c.in-Some-Some.is-0) (sym c.about.ensures.is ∙ c.in-Some-Some.is-1) in
    let at = ap (side c.args.self.now) (sym c.page-page.ensures) ∙ sym c.slot.ensures.side in
    subst (IsLetter c.args.self.now.file.page_size) (sym c.reply-letter.ensures.is)
    (c.reply-letter.ensures.letter c.args.self.now.file.page_size c.args.self.now.children c.slot.ensures.kept
    (subst (λ (s : Side). MayObey s c.in-Some-Some.what) at may))
