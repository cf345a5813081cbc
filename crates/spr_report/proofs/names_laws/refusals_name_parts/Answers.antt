use Rattle.spr_report.proofs.NamesPartLaws.{story-part}
use Rattle.spr_report.proofs.names_laws.refusals_name_parts.Goals as goal

pub returns : goal.returns
returns c = story-part c.args.names.now.began c.args.names.now.history c.sound.ensures
