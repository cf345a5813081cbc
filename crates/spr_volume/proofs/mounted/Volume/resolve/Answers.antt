use Rattle.spr_volume.proofs.Both.{story_of}
use Rattle.spr_volume.proofs.mounted.Volume.resolve.Goals as goal

pub returns-clause-story : goal.returns-clause-story
returns-clause-story g c = story_of c.args.self.now c.self.inside.files c.self.inside.names c.resolve.new.seat.seen c.self.view_is c.resolve.ensures.story
