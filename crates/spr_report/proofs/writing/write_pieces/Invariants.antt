use Rattle.std.proofs.Common.{◌≡◌, take}
use Rattle.std.specs.List.{flat_map}
use Rattle.spr_report.specs.Writing.{with_text}
use Rattle.spr_report.proofs.writing.write_pieces.Given as goal

-- the pieces so far are written
abbrev pub invariant-loop-piece : goal.invariant-loop-piece
invariant-loop-piece g l = g.K.Sink.told l.sink ≡ with_text (g.K.Sink.told l.fn.sink) (flat_map (λ p. p.now) (take l.piece-index l.pieces))
