use Rattle.std.proofs.Common.{Bor, List, ℕ, inr, refl}
use Rattle.std.specs.List.{flat_map}
use Rattle.spr_report.specs.Writing.{status_line}
use Rattle.spr_report.proofs.Writes.{broke-first, broke-later}
use Rattle.spr_report.proofs.writing.finish.Goals as goal

pub returns-in_default : goal.returns-in_default
returns-in_default g c =
    let text = flat_map (λ (p : Bor (List ℕ)). p.now) c.args.pieces.now in
    inr (refl, broke-first text (status_line c.args.status) (g.K.Sink.told c.args.sink.now) (g.K.Sink.told c.write_pieces.new.sink) c.in_default.ensures)

pub returns-in-Err : goal.returns-in-Err
returns-in-Err g c =
    let text = flat_map (λ (p : Bor (List ℕ)). p.now) c.args.pieces.now in
    let status = status_line c.args.status in
    inr (refl, broke-later _ text status (g.K.Sink.told c.args.sink.now) (g.K.Sink.told c.write_pieces.new.sink) (g.K.Sink.told c.write_status.new.sink) refl c.in-Ok.ensures c.in-Err.ensures)
