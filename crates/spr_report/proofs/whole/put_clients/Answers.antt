use Rattle.std.proofs.Common.{Result, Vec, Global, ◌≡◌, ◌≤◌, ◌++◌, List, ℕ, Some, refl, length, map, slice_get, subst, ap, arith}
use Rattle.std.specs.declared.alloc.AllocError.{AllocError}
use Rattle.std.proofs.lemmas.Option.{slice_get_read}
use Rattle.spr_report.specs.Report.{client_parts}
use Rattle.spr_report.proofs.PartTexts.{clients_end, clients_put}
use Rattle.spr_report.proofs.whole.put_clients.Goals as goal

pub loop-text-init : goal.loop-text-init
loop-text-init g c = refl

pub loop-text-preserved : goal.loop-text-preserved
loop-text-preserved g c =
    let disks = c.args.run.now.mount.now.disks in
    let clients = c.args.run.now.script.now.clients in
    let all = map (λ v. v.items) c.args.run.now.said.now in
    let whole : List ℕ = c.args.out.now.items ++ client_parts disks clients all in
    let at : slice_get c.in_ok-texts.texts.items c.loop-text.text-index ≡ Some c.text-item.result =
    subst (λ (ts : List (Result (Vec ℕ Global) AllocError)). slice_get ts c.loop-text.text-index ≡ Some c.text-item.result) c.deref-text-items.ensures.value
    (slice_get_read c.deref-text-items.result.now (length c.deref-text-items.result.now) c.loop-text.text-index c.text-item.result refl c.loop-text-test.true c.text-item.is) in
    clients_put (λ v. v.items) disks clients all c.loop-text.text-index c.text-item.result c.loop-text.out.items c.put_text.new.out.items whole
    (c.in_ok-texts.ensures.each c.loop-text.text-index c.text-item.result at) c.in_ok-put_text.ensures.there c.in_ok-put_text.ensures.put c.loop-text.invariant

pub returns : goal.returns
returns g c =
    let disks = c.args.run.now.mount.now.disks in
    let clients = c.args.run.now.script.now.clients in
    let all = map (λ v. v.items) c.args.run.now.said.now in
    let past : length clients ≤ c.loop-text.text-index = omega (arith, c.in_ok-texts.ensures.len, ap length c.deref-text-items.ensures.value, c.loop-text-test.false) in
    clients_end disks clients all c.loop-text.text-index c.loop-text.out.items (c.args.out.now.items ++ client_parts disks clients all) past c.loop-text.invariant
