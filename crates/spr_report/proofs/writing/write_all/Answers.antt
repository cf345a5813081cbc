use Rattle.std.proofs.Common.{◌<◌, ◌++◌, List, ℕ, take, refl, arith}
use Rattle.spr_report.proofs.Writes.{split-rest, took, took-then}
use Rattle.spr_report.proofs.writing.write_all.Goals as goal

pub loop-rest-preserved : goal.loop-rest-preserved
loop-rest-preserved g c =
    let inv = c.loop-rest.invariant in
    let n = c.in_ok-taken.taken in
    let rest : List ℕ = c.loop-rest.rest.now in
    let some : 0 < n = let zero = c.if-taken-eq0.false in omega arith in
    let next = took (g.K.Sink.told c.loop-rest.sink) (g.K.Sink.told c.write.new.self) (take n rest) c.in_ok-taken.ensures.ok (c.in_ok-taken.ensures.calm some) in (
      inv.0 ++ take n rest,
      split-rest inv.0 rest c.args.bytes.now n _ inv.1 c.in_ok-taken.ensures.within refl,
      took-then (g.K.Sink.told c.args.sink.now) (g.K.Sink.told c.loop-rest.sink) (g.K.Sink.told c.write.new.self) inv.0 (take n rest) inv.2 next,
    )
