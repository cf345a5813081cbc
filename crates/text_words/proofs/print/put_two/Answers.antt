use Rattle.std.proofs.Common.{◌++◌, List, ap, sym, ◌∙◌}
use Rattle.text_words.proofs.Printing.{two_digits, two_pushed}
use Rattle.text_words.proofs.print.put_two.Goals as goal

pub returns-else-number-lt10-clause-written : goal.returns-else-number-lt10-clause-written
returns-else-number-lt10-clause-written c =
    two_pushed _ c.push_reserved-else-number-lt10.new.self.items _ _ _ c.push_reserved-else-number-lt10.ensures.items c.push_reserved-else-number-lt10-2.ensures.items
    ∙ ap (λ (ds : List _). c.args.out.now.items ++ ds) (sym (two_digits c.args.number c.if-number-lt10.false c.requires.small))
