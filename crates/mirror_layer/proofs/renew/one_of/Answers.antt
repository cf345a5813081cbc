use Rattle.mirror_layer.proofs.RenewSteps.{last-taken}
use Rattle.mirror_layer.proofs.renew.one_of.Goals as goal

pub returns-clause-image : goal.returns-clause-image
returns-clause-image c = let r = last-taken c.args.images.now.items c.pop.new.self.items c.in-Some.image c.in-Some.ensures.items c.requires.images in r.1

pub returns-clause-images : goal.returns-clause-images
returns-clause-images c = let r = last-taken c.args.images.now.items c.pop.new.self.items c.in-Some.image c.in-Some.ensures.items c.requires.images in r.0
