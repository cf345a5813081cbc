use Rattle.std.proofs.Common.{Result, Vec, Global, ◌≡◌, ◌<◌, ◌≤◌, ◌++◌, List, ℕ, Some, refl, length, map, slice_get, subst, sym, ◌∙◌, ap, arith}
use Rattle.std.specs.declared.alloc.AllocError.{AllocError}
use Rattle.std.proofs.lemmas.Option.{slice_get_read}
use Rattle.spr_report.specs.Report.{file_parts}
use Rattle.spr_report.proofs.PartTexts.{parts_end, parts_put}
use Rattle.spr_report.proofs.whole.put_files.Goals as goal

pub loop-text-init : goal.loop-text-init
loop-text-init g c = refl

pub loop-text-preserved : goal.loop-text-preserved
loop-text-preserved g c =
    let mount = c.args.run.now.mount.now in
    let callers = map (λ n. n.now) c.args.names.now.callers.now in
    let logs = map (λ t. t.log) c.args.run.now.logs.now in
    let whole : List ℕ = c.args.out.now.items ++ file_parts callers mount c.args.run.now.traced 0 mount.files logs in
    let at : slice_get c.in_ok-texts.texts.items c.loop-text.text-index ≡ Some c.text-item.result =
    subst (λ (ts : List (Result (Vec ℕ Global) AllocError)). slice_get ts c.loop-text.text-index ≡ Some c.text-item.result) c.deref-text-items.ensures.value
    (slice_get_read c.deref-text-items.result.now (length c.deref-text-items.result.now) c.loop-text.text-index c.text-item.result refl c.loop-text-test.true c.text-item.is) in
    parts_put (λ v. v.items) callers mount c.args.run.now.traced logs c.loop-text.text-index c.text-item.result c.loop-text.out.items c.put_text.new.out.items whole
    (c.in_ok-texts.ensures.each c.loop-text.text-index c.text-item.result at) c.in_ok-put_text.ensures.there c.in_ok-put_text.ensures.put c.loop-text.invariant

pub returns : goal.returns
returns g c =
    let mount = c.args.run.now.mount.now in
    let callers = map (λ n. n.now) c.args.names.now.callers.now in
    let logs = map (λ t. t.log) c.args.run.now.logs.now in
    let past : length mount.files ≤ c.loop-text.text-index =
    omega (arith, c.in_ok-texts.ensures.len, ap length c.deref-text-items.ensures.value, c.loop-text-test.false) in
    parts_end callers mount c.args.run.now.traced logs c.loop-text.text-index c.loop-text.out.items (c.args.out.now.items ++ file_parts callers mount c.args.run.now.traced 0 mount.files logs) past c.loop-text.invariant
