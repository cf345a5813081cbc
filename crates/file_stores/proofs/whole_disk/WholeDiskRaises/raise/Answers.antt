use Rattle.std.proofs.Common.{arith}
use Rattle.file_stores.proofs.AloneSteps.{whole-keeps}
use Rattle.file_stores.proofs.whole_disk.WholeDiskRaises.raise.Goals as goal

pub returns-in_err-raise-clause-keeps : goal.returns-in_err-raise-clause-keeps
returns-in_err-raise-clause-keeps g c =
    let generation = c.next_generation-generation.ensures.next in
    let high = c.self.invariant.2.high in
    rw (← c.self.view_is)
    (whole-keeps (record { disk = c.self.inside.disk; owed = c.self.inside.owed; generation = c.self.inside.level }) (record { disk = c.raise.new.self; owed = c.self.inside.owed; generation = c.self.inside.level })
    (c.raise.ensures.keeps (omega (arith, generation, high))) (omega arith) (omega arith))
