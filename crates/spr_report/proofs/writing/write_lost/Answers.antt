use Rattle.std.proofs.Common.{arith}
use Rattle.spr_report.specs.Report.{lost_line}
use Rattle.spr_report.proofs.Writes.{broke-in, writes-err}
use Rattle.spr_report.proofs.writing.write_lost.Goals as goal

pub returns-in_err-write_pieces : goal.returns-in_err-write_pieces
returns-in_err-write_pieces g c =
    let piece = rw c.lost_pieces.ensures at c.in_err-write_pieces.ensures in
    writes-err (g.K.Sink.told c.args.sink.now) (g.K.Sink.told c.write_pieces.new.sink) _ c.from_residual.result c.from_residual.ensures.0
    (broke-in (lost_line c.args.mount.now) c.args.lost.now c.loop-one.one-index _ (g.K.Sink.told c.args.sink.now) (g.K.Sink.told c.loop-one.sink) (g.K.Sink.told c.write_pieces.new.sink)
    (let lt = c.loop-one-test.true in omega (arith, lt)) c.loop-one.invariant piece)
