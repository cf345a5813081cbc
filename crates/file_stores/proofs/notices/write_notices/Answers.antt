use Rattle.std.proofs.Common.{ℕ, List, Option, None, get_or, length, ap, subst, ◌∙◌, arith}
use Rattle.spr_report.specs.Writing.{Broke, with_text}
use Rattle.spr_report.proofs.Writes.{writes-err}
use Rattle.mirror_layer.specs.declared.came.Notice.{Notice}
use Rattle.file_stores.specs.Notices.{notice_line}
use Rattle.file_stores.proofs.NoticeLaws.{broke-at-number, took-at-number}
use Rattle.file_stores.proofs.notices.write_notices.Goals as goal

pub returns-in_err-write_notice : goal.returns-in_err-write_notice
returns-in_err-write_notice g c =
    let mount = c.args.mount.now in
    let k = c.loop-disk.disk in
    let disks = ap (λ l. length l) c.disks.ensures.value in
    let low = c.loop-disk-test.true in
    let old = g.K.Sink.told c.args.sink.now in
    let mid = g.K.Sink.told c.loop-disk.sink in
    let now = g.K.Sink.told c.write_notice.new.sink in
    let line : ℕ → List ℕ = λ disk. notice_line mount c.args.file disk (get_or c.args.notices.now disk None) in
    writes-err old now _ c.from_residual.result c.from_residual.ensures.0
    (broke-at-number line (length mount.disks) k old mid now (omega (arith, low, disks)) c.loop-disk.invariant
    (subst (λ (o : Option Notice). Broke (notice_line mount c.args.file k o) mid now) c.notice_of.ensures c.in_err-write_notice.ensures))

pub loop-disk-preserved : goal.loop-disk-preserved
loop-disk-preserved g c =
    let mount = c.args.mount.now in
    let k = c.loop-disk.disk in
    let disks = ap (λ l. length l) c.disks.ensures.value in
    let low = c.loop-disk-test.true in
    let line : ℕ → List ℕ = λ disk. notice_line mount c.args.file disk (get_or c.args.notices.now disk None) in
    took-at-number line (length mount.disks) k (g.K.Sink.told c.args.sink.now) (g.K.Sink.told c.loop-disk.sink) (g.K.Sink.told c.write_notice.new.sink) (omega (arith, low, disks)) c.loop-disk.invariant
    (c.in_ok-write_notice.ensures ∙ ap (λ (o : Option Notice). with_text (g.K.Sink.told c.loop-disk.sink) (notice_line mount c.args.file k o)) c.notice_of.ensures)
