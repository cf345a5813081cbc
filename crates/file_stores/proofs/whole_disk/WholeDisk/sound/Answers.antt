use Rattle.file_stores.proofs.WholeLaws.{since-opened}
use Rattle.file_stores.proofs.whole_disk.WholeDisk.sound.Goals as goal

pub returns-clause-since : goal.returns-clause-since
returns-clause-since g c = rw (← c.self.view_is) (since-opened c.self.inside.disk c.sound.ensures.keeps)
