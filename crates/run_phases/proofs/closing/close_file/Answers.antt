use Rattle.std.proofs.Common.{[], refl, sym, ◌∙◌, arith}
use Rattle.hist_plain.specs.declared.event.Keep.TheVariants as keeps
use Rattle.hist_plain.specs.Plain.{Told}
use Rattle.script_meaning.specs.Plan.{Request, ends, asking, sync, plan_call, reply_of}
use Rattle.script_meaning.specs.Fits.{no_client}
use Rattle.spr_client.proofs.LineLaws.{done-answered, done-refused}
use Rattle.run_phases.proofs.ClosingLaws.{layer-above, refusal-not-done, sync-ends}
use Rattle.run_phases.proofs.closing.close_file.Goals as goal

pub sync_at-requires-clause-route : goal.sync_at-requires-clause-route
sync_at-requires-clause-route g c κs within = (c.requires.file, omega arith, layer-above c.args.common.now.mount.now c.nodes-nodes.ensures.sound)

pub returns-in-Ok-clause-done : goal.returns-in-Ok-clause-done
returns-in-Ok-clause-done g c =
    let ask : Request = asking c.args.file (sync 1 keeps.Write) in
    done-answered c.args.common.now.mount.now c.args.common.now.volume.now c.args.closer no_client ask no_client c.args.pass.now c.sync_at.new.pass [] c.in-Ok.answered c.reply_to.result c.requires.may refl
    c.in-Ok.ensures (λ t answer bytes. c.reply_to.ensures t answer (λ read. bytes read ∙ sym c.new.ensures.items))

pub returns-in-Ok-clause-closed : goal.returns-in-Ok-clause-closed
returns-in-Ok-clause-closed g c = λ done. sync-ends c.args.closer c.args.file 1 keeps.Write c.args.pass.now c.sync_at.new.pass [] c.in-Ok.answered c.in-Ok.ensures

pub returns-in-Err-clause-done : goal.returns-in-Err-clause-done
returns-in-Err-clause-done g c =
    let ask : Request = asking c.args.file (sync 1 keeps.Write) in
    done-refused c.args.common.now.mount.now c.args.common.now.volume.now c.args.closer no_client (plan_call no_client ask) ask no_client (λ (t : Told). ends (reply_of t) no_client) c.args.pass.now c.sync_at.new.pass [] c.in-Err.err c.refused.result
    c.requires.may refl refl c.in-Err.ensures c.refused.ensures

pub returns-in-Err-clause-closed : goal.returns-in-Err-clause-closed
returns-in-Err-clause-closed g c = λ done. absurd (refusal-not-done c.in-Err.err (sym c.refused.ensures ∙ done))
