use Rattle.std.proofs.Common.{sym}
use Rattle.memory_object.proofs.ManagerLaws.{first_manager, no_manager}
use Rattle.memory_object.proofs.binding.MemoryObject.bind.Goals as goal

pub returns-in-Some-clause-first : goal.returns-in-Some-clause-first
returns-in-Some-clause-first c =
    first_manager c.args.mounted.now c.args.self.now.view c.args.machine c.in-Some.leaf c.via-server.ensures.sound (rw c.via-server.ensures.value at (sym c.in-Some.ensures.value))

pub returns-in-None-clause-none : goal.returns-in-None-clause-none
returns-in-None-clause-none c =
    no_manager c.args.mounted.now c.args.self.now.view c.args.machine c.via-server.ensures.sound (rw c.via-server.ensures.value at (sym c.in-None.ensures.value))
