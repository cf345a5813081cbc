use Rattle.std.proofs.Common.{◌∙◌}
use Rattle.tower_core.proofs.Steps.{all_zero, get_or-set_later}
use Rattle.tower_core.proofs.sheet.counts_at_start.Goals as goal

pub returns-clause-others : goal.returns-clause-others
returns-clause-others c = λ n above. get_or-set_later c.in_ok-counts.counts.items n c.args.pages above ∙ all_zero c.in_ok-counts.counts.items c.in_ok-counts.ensures.zeros n
