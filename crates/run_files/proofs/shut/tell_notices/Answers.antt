use Rattle.std.proofs.Common.{ℕ, List, [], Option, get_or, length, map, ap, subst, ◌∙◌, arith}
use Rattle.spr_report.specs.Writing.{Broke, with_text}
use Rattle.spr_report.proofs.Writes.{writes-err}
use Rattle.mirror_layer.specs.declared.came.Notice.{Notice}
use Rattle.file_stores.specs.Notices.{notice_lines}
use Rattle.file_stores.proofs.NoticeLaws.{broke-at-number, took-at-number}
use Rattle.run_files.proofs.shut.tell_notices.Goals as goal

pub returns-in_err-write_notices : goal.returns-in_err-write_notices
returns-in_err-write_notices g c =
    let mount = c.args.mount.now in
    let k = c.loop-file.file in
    let files = ap (λ l. length l) c.files.ensures.value in
    let low = c.loop-file-test.true in
    let old = g.N.Sink.told c.args.sink.now in
    let mid = g.N.Sink.told c.loop-file.sink in
    let now = g.N.Sink.told c.write_notices.new.sink in
    let lines : ℕ → List ℕ = λ file. notice_lines mount file (get_or (map (λ f. f.items) c.args.files.now) file []) in
    writes-err old now _ c.from_residual.result c.from_residual.ensures.0
    (broke-at-number lines (length mount.files) k old mid now (omega (arith, low, files)) c.loop-file.invariant
    (subst (λ (l : List (Option Notice)). Broke (notice_lines mount k l) mid now) c.notices_of.ensures c.in_err-write_notices.ensures))

pub loop-file-preserved : goal.loop-file-preserved
loop-file-preserved g c =
    let mount = c.args.mount.now in
    let k = c.loop-file.file in
    let files = ap (λ l. length l) c.files.ensures.value in
    let low = c.loop-file-test.true in
    let lines : ℕ → List ℕ = λ file. notice_lines mount file (get_or (map (λ f. f.items) c.args.files.now) file []) in
    took-at-number lines (length mount.files) k (g.N.Sink.told c.args.sink.now) (g.N.Sink.told c.loop-file.sink) (g.N.Sink.told c.write_notices.new.sink) (omega (arith, low, files)) c.loop-file.invariant
    (c.in_ok-write_notices.ensures ∙ ap (λ (l : List (Option Notice)). with_text (g.N.Sink.told c.loop-file.sink) (notice_lines mount k l)) c.notices_of.ensures)
