use Rattle.std.proofs.Common.{List, ℕ, Bor, arith}
use Rattle.spr_report.proofs.Writes.{broke-in, took-in, writes-err}
use Rattle.spr_report.proofs.writing.write_pieces.Goals as goal

pub returns-in_err-write_all : goal.returns-in_err-write_all
returns-in_err-write_all g c =
    writes-err (g.K.Sink.told c.args.sink.now) (g.K.Sink.told c.write_all.new.sink) _ c.from_residual.result c.from_residual.ensures.0
    (broke-in (λ (p : Bor (List ℕ)). p.now) c.args.pieces.now c.loop-piece.piece-index _ (g.K.Sink.told c.args.sink.now) (g.K.Sink.told c.loop-piece.sink) (g.K.Sink.told c.write_all.new.sink)
    (let lt = c.loop-piece-test.true in omega (arith, lt)) c.loop-piece.invariant c.in_err-write_all.ensures)

pub loop-piece-preserved : goal.loop-piece-preserved
loop-piece-preserved g c =
    took-in (λ (p : Bor (List ℕ)). p.now) c.args.pieces.now c.loop-piece.piece-index _ (g.K.Sink.told c.args.sink.now) (g.K.Sink.told c.loop-piece.sink) (g.K.Sink.told c.write_all.new.sink)
    (let lt = c.loop-piece-test.true in omega (arith, lt)) c.loop-piece.invariant c.in_ok-write_all.ensures
