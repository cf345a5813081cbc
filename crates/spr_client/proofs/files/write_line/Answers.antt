use Rattle.std.proofs.Common.{◌≡◌, ℕ, List, ap, sym, ◌∙◌}
use Rattle.hist_plain.specs.declared.event.Op.TheVariants as ops
use Rattle.script_meaning.specs.Plan.{Plan, plan_use}
use Rattle.spr_client.proofs.LineLaws.{done-lacks, done-as, clone-is}
use Rattle.spr_client.proofs.files.write_line.Goals as goal

pub returns-in_default-clause-done : goal.returns-in_default-clause-done
returns-in_default-clause-done g c = done-lacks c.args.common.now.mount.now c.args.client.now.caller c.args.client.now.state _ c.args.pass.now

pub returns-clause-done : goal.returns-clause-done
returns-clause-done g c =
    let mount = c.args.common.now.mount.now in
    let state = c.args.client.now.state in
    let cases = c.in-Ok.ensures.cases in
    let same : c.in-Ok.bytes ≡ c.args.bytes.now = sym cases.3 ∙ (clone-is cases.0.inner.items cases.1.inner.items cases.4.0 ∙ cases.2) in
    let line : List ℕ → Plan = λ bytes. plan_use mount state c.args.name.now (ops.Write c.args.page c.args.off bytes) in
    done-as mount c.args.client.now.caller state (line c.in-Ok.bytes) (line c.args.bytes.now) c.args.pass.now c.use_line.new.pass c.use_line.result c.use_line.new.client.state (ap line (sym same)) c.use_line.ensures.done
