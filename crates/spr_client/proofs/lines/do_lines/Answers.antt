use Rattle.std.proofs.Common.{◌≡◌, ◌+◌, ◌++◌, [], ◌∷◌, List, length, length-append, take, sym, ap, subst, ◌∙◌, arith, append_assoc}
use Rattle.script_text.specs.declared.script.CallLine.{CallLine}
use Rattle.script_text.specs.declared.script.Said.{Said}
use Rattle.script_meaning.specs.Fits.{lines_of}
use Rattle.script_meaning.specs.Plan.{plan}
use Rattle.spr_volume.specs.Passes.{Knows}
use Rattle.spr_client.specs.declared.client.Client.{Client}
use Rattle.spr_client.specs.Lines.{IsOnMachine, LineDone, LinesDone}
use Rattle.spr_client.proofs.LinesLaws.{lines-own, lines-other, answers-len, own-more}
use Rattle.spr_client.proofs.lines.do_lines.Goals.{then-line-client, else-line-client}
use Rattle.spr_client.proofs.lines.do_lines.Goals as goal

pub push_reserved-requires : goal.push_reserved-requires
push_reserved-requires g c =
    let mount = c.args.common.now.mount.now in
    let old = c.args.client.now in
    let inv = c.loop-line.invariant in
    let at = c.loop-line.line-index in
    let lines = c.args.lines.now in
    let answers = answers-len mount old.caller old.state (lines_of old.caller (take at lines)) c.args.pass.now c.loop-line.pass inv.done.0 c.loop-line.client.state inv.done.2 in
    let said : length c.loop-line.said.items ≡ length c.args.said.now.items + length inv.done.0 = ap length inv.done.1 ∙ length-append c.args.said.now.items inv.done.0 in
    let more = own-more lines at old.caller c.line-item.result c.line-item.is c.loop-line-test.true (c.if-line-client.true ∙ inv.caller) in
    let all = c.requires.room in
    let room = inv.room in
    omega (arith, answers, said, more, all, room)

pub loop-line-preserved : goal.loop-line-preserved
loop-line-preserved g c =
    let mount = c.args.common.now.mount.now in
    let old : Client = c.args.client.now in
    let inv = c.loop-line.invariant in
    let at = c.loop-line.line-index in
    let lines = c.args.lines.now in
    let line : CallLine = c.line-item.result in
    let so : List Said = inv.done.0 in
    let pass : Knows = c.loop-line.pass in
    elim c.if-line-client.branch [
      | then-line-client w ↦
          let left : Client = w.perform-reply.new.client in
          let said : Said = record { line = line.line; reply = w.perform-reply.result } in
          let one : LineDone mount old.caller c.loop-line.client.state (plan mount c.loop-line.client.state line.call) pass w.perform-reply.new.pass said.reply left.state =
          subst (λ n. LineDone mount n c.loop-line.client.state (plan mount c.loop-line.client.state line.call) pass w.perform-reply.new.pass said.reply left.state) inv.caller w.perform-reply.ensures.done in
          let done : LinesDone mount old.caller old.state (lines_of old.caller (take (at + 1) lines)) c.args.pass.now w.perform-reply.new.pass (so ++ said ∷ []) left.state =
          lines-own mount old.caller old.state lines at line c.args.pass.now pass w.perform-reply.new.pass so said.reply c.loop-line.client.state left.state
          c.line-item.is c.loop-line-test.true (w.if-line-client.true ∙ inv.caller) inv.done.2 one in
          record {
            done = (
              so ++ said ∷ [],
              (let both = append_assoc c.args.said.now.items so (said ∷ []) in cc),
              subst (λ (p : Knows). LinesDone mount old.caller old.state (lines_of old.caller (take (at + 1) lines)) c.args.pass.now p (so ++ said ∷ []) c.if-line-client.client.state) (sym w.pass-is)
                  (subst (λ (k : Client). LinesDone mount old.caller old.state (lines_of old.caller (take (at + 1) lines)) c.args.pass.now w.perform-reply.new.pass (so ++ said ∷ []) k.state) (sym w.client-is) done),
            );
            on = subst (λ (k : Client). IsOnMachine mount k.state) (sym w.client-is) w.perform-reply.ensures.on;
            caller = ap (λ (k : Client). k.caller) w.client-is ∙ (ap (λ (k : Client). k.caller) w.perform-reply.ensures.same ∙ inv.caller);
            room = cc;
          }
      | else-line-client w ↦
          let done : LinesDone mount old.caller old.state (lines_of old.caller (take (at + 1) lines)) c.args.pass.now pass so c.loop-line.client.state =
          lines-other mount old.caller old.state lines at line c.args.pass.now pass so c.loop-line.client.state
          c.line-item.is c.loop-line-test.true (λ e. w.if-line-client.false (e ∙ sym inv.caller)) inv.done.2 in
          record {
            done = (
              so,
              (cc),
              subst (λ (p : Knows). LinesDone mount old.caller old.state (lines_of old.caller (take (at + 1) lines)) c.args.pass.now p so c.if-line-client.client.state) (sym w.pass-is)
                  (subst (λ (k : Client). LinesDone mount old.caller old.state (lines_of old.caller (take (at + 1) lines)) c.args.pass.now pass so k.state) (sym w.client-is) done),
            );
            on = subst (λ (k : Client). IsOnMachine mount k.state) (sym w.client-is) inv.on;
            caller = ap (λ (k : Client). k.caller) w.client-is ∙ inv.caller;
            room = cc;
          }
    ]
