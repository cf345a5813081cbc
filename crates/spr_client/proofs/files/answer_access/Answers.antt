use Rattle.std.proofs.Common.{ℕ, List, refl, sym, ◌∙◌}
use Rattle.std.proofs.lemmas.List.{with_items_is}
use Rattle.hist_plain.specs.Plain.{Told}
use Rattle.script_meaning.specs.Plan.{Request, ends, asking, access, plan_call, reply_of}
use Rattle.spr_client.proofs.LineLaws.{done-answered, done-refused}
use Rattle.spr_client.proofs.files.answer_access.Goals as goal

pub returns-in-Ok : goal.returns-in-Ok
returns-in-Ok g c =
    let mount = c.args.common.now.mount.now in
    let state = c.args.client.now.state in
    let ask : Request = asking c.args.file (access c.args.node c.args.life c.args.op.now) in
    let out : List ℕ = c.access_at.new.out in
    let items = with_items_is c.args.out out (c.access_at.auto.out ∙ c.deref_mut.ensures.len) in
    done-answered mount c.args.common.now.volume.now c.args.client.now.caller state ask state c.args.pass.now c.access_at.new.pass out c.in-Ok.answered c.reply_to.result c.requires.may refl
    c.in-Ok.ensures (λ t answer bytes. c.reply_to.ensures t answer (λ read. bytes read ∙ sym items))

pub returns-in-Err : goal.returns-in-Err
returns-in-Err g c =
    let mount = c.args.common.now.mount.now in
    let state = c.args.client.now.state in
    let ask : Request = asking c.args.file (access c.args.node c.args.life c.args.op.now) in
    done-refused mount c.args.common.now.volume.now c.args.client.now.caller state (plan_call state ask) ask state (λ (t : Told). ends (reply_of t) state) c.args.pass.now c.access_at.new.pass c.access_at.new.out c.in-Err.err c.refused.result
    c.requires.may refl refl c.in-Err.ensures c.refused.ensures
