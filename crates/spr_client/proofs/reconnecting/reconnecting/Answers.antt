use Rattle.std.proofs.Common.{◌≡◌, Some, sym, subst, ◌∙◌}
use Rattle.text_words.specs.Words.{path_of}
use Rattle.client_objects.specs.Objects.{word_of}
use Rattle.script_meaning.specs.Plan.{Plan}
use Rattle.spr_client.specs.Lines.{PlanDone}
use Rattle.spr_client.proofs.BoundLaws.{read_parts}
use Rattle.spr_client.proofs.LineLaws.{access-again, done-lacks, line_of}
use Rattle.spr_client.proofs.reconnecting.reconnecting.Goals as goal

pub returns-in_default-clause-done : goal.returns-in_default-clause-done
returns-in_default-clause-done g c = done-lacks c.args.common.now.mount.now c.args.client.now.caller c.args.client.now.state _ c.args.pass.now

pub tried-requires-clause-path : goal.tried-requires-clause-path
tried-requires-clause-path g c κs within = read_parts (word_of c.args.name.now c.args.client.now.state.objects) c.in-Ok.path (sym c.in-Ok.ensures)

pub returns-clause-done : goal.returns-clause-done
returns-clause-done g c =
    let mount = c.args.common.now.mount.now in
    let caller = c.args.client.now.caller in
    let state = c.args.client.now.state in
    let name = c.args.name.now in
    let is : Some c.in-Ok.path ≡ path_of (word_of name state.objects) = sym c.in-Ok.ensures in
    line_of mount caller state _ c.args.pass.now c.tried.new.pass c.tried.result c.tried.new.client.state
    (subst (λ (p : Plan). PlanDone mount caller p c.args.pass.now c.tried.new.pass c.tried.result c.tried.new.client.state)
    (sym (access-again mount state name (word_of name state.objects) c.in-Ok.path c.args.op c.args.found.target c.requires.led.kind is)) c.tried.ensures.done)
