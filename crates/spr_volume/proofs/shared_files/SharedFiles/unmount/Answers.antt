use Rattle.spr_volume.proofs.Passing.{all_back, all_logs, enough_room, whole_seats}
use Rattle.spr_volume.proofs.shared_files.SharedFiles.unmount.Goals as goal

pub close_all-requires-clause-seats : goal.close_all-requires-clause-seats
close_all-requires-clause-seats g c κs within =
    whole_seats c.args.self c.args.pass c.self.inside.end c.pass.inside.first c.pass.inside.end c.self.inside.locks.items c.pass.inside.seats.items c.self.view_is c.pass.view_is c.requires.pass c.requires.all c.self.invariant c.pass.invariant.seated

pub returns-clause-back : goal.returns-clause-back
returns-clause-back g c =
    let closed = c.close_all.ensures in
    all_back c.args.self c.self.inside.end c.self.inside.locks.items c.pass.inside.seats.items closed.0 c.pass.inside.room.items c.close_all.result.items c.self.view_is c.self.invariant c.pass.invariant.empty closed.1 closed.2

pub returns-clause-logs : goal.returns-clause-logs
returns-clause-logs g c =
    let closed = c.close_all.ensures in
    all_logs c.args.pass c.pass.inside.first c.pass.inside.end c.self.inside.locks.items c.pass.inside.seats.items closed.0 c.pass.inside.room.items c.close_all.result.items c.pass.view_is c.pass.invariant.empty closed.1 closed.2

pub close_all-requires-clause-room : goal.close_all-requires-clause-room
close_all-requires-clause-room g c κs within =
    enough_room c.args.pass c.pass.inside.first c.pass.inside.end _ c.self.inside.locks.items c.pass.inside.seats.items c.pass.inside.room.items c.pass.view_is c.requires.all.0 c.pass.invariant
    (whole_seats c.args.self c.args.pass c.self.inside.end c.pass.inside.first c.pass.inside.end c.self.inside.locks.items c.pass.inside.seats.items c.self.view_is c.pass.view_is c.requires.pass c.requires.all c.self.invariant c.pass.invariant.seated)
