use Rattle.std.proofs.Common.{false, refl}
use Rattle.spr_io.proofs.Entries.{adds_entry}
use Rattle.spr_io.proofs.host_bay.enter.Goals as goal

pub returns-in_ok-push : goal.returns-in_ok-push
returns-in_ok-push c = rw (c.in_ok-push.ensures.items, c.in_ok-new.ensures) (adds_entry c.args.entries.now.items (record { disk = c.args.disk.now; file = c.args.file.now; out = false; count = 0 }) refl refl)
