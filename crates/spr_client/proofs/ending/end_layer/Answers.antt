use Rattle.std.proofs.Common.{[], refl, sym, ◌∙◌}
use Rattle.hist_plain.specs.Plain.{Told}
use Rattle.script_meaning.specs.Plan.{Request, ends, asking, plan_call, reply_of}
use Rattle.spr_client.specs.Calls.{ask_of}
use Rattle.spr_client.proofs.LineLaws.{done-answered, done-refused}
use Rattle.spr_client.proofs.ending.end_layer.Goals as goal

pub returns-in-Ok : goal.returns-in-Ok
returns-in-Ok g c =
    let mount = c.args.common.now.mount.now in
    let state = c.args.client.now.state in
    let ask : Request = asking c.args.file (ask_of c.args.end c.args.node) in
    done-answered mount c.args.common.now.volume.now c.args.client.now.caller state ask state c.args.pass.now c.end_at.new.pass [] c.in-Ok.answered c.reply_to.result c.requires.may refl
    c.in-Ok.ensures (λ t answer bytes. c.reply_to.ensures t answer (λ read. bytes read ∙ sym c.new.ensures.items))

pub returns-in-Err : goal.returns-in-Err
returns-in-Err g c =
    let mount = c.args.common.now.mount.now in
    let state = c.args.client.now.state in
    let ask : Request = asking c.args.file (ask_of c.args.end c.args.node) in
    done-refused mount c.args.common.now.volume.now c.args.client.now.caller state (plan_call state ask) ask state (λ (t : Told). ends (reply_of t) state) c.args.pass.now c.end_at.new.pass [] c.in-Err.err c.refused.result
    c.requires.may refl refl c.in-Err.ensures c.refused.ensures
