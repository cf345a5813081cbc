use Rattle.std.proofs.Common.{length, sym, ◌∙◌}
use Rattle.marshal_value.proofs.TypeTests.{short_text, within_32}
use Rattle.marshal_value.proofs.check.is_short_text.Goals as goal

pub returns : goal.returns
returns c = within_32 (length c.args.text.now) ∙ sym (short_text c.args.text.now c.utf8.text)
