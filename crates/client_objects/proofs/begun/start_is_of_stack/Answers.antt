use Rattle.client_objects.proofs.BegunLaws.{start-views, start-files, start-stands, start-contexts, start-objects}
use Rattle.client_objects.proofs.begun.start_is_of_stack.Goals as goal

pub returns-clause-views : goal.returns-clause-views
returns-clause-views c = start-views c.args.mount.now c.nodes-nodes.ensures.sound

pub returns-clause-files : goal.returns-clause-files
returns-clause-files c = start-files c.args.mount.now c.nodes-nodes.ensures.sound

pub returns-clause-stands : goal.returns-clause-stands
returns-clause-stands c = start-stands c.args.mount.now c.nodes-nodes.ensures.sound

pub returns-clause-contexts : goal.returns-clause-contexts
returns-clause-contexts c = start-contexts c.args.mount.now c.nodes-nodes.ensures.sound

pub returns-clause-objects : goal.returns-clause-objects
returns-clause-objects c = start-objects c.args.mount.now c.nodes-nodes.ensures.sound
