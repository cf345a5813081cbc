use Rattle.spr_volume.proofs.Both.{story_of}
use Rattle.spr_volume.proofs.mounted.Volume.list.Goals as goal

pub returns-clause-story : goal.returns-clause-story
returns-clause-story g c = story_of c.args.self.now c.self.inside.files c.self.inside.names c.list.new.seat.seen c.self.view_is c.list.ensures.story
