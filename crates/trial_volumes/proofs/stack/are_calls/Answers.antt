use Rattle.script_text.specs.declared.script.CallLine.{CallLine}
use Rattle.spr_client.specs.Lines.{IsCallOf}
use Rattle.trial_volumes.proofs.StackLaws.{all-next}
use Rattle.trial_volumes.proofs.stack.are_calls.Goals as goal

pub loop-line-preserved : goal.loop-line-preserved
loop-line-preserved c = all-next (λ (l : CallLine). IsCallOf c.args.mount.now l.call) c.args.lines.now c.loop-line.line-index c.line-item.result c.line-item.is c.loop-line-test.true c.loop-line.invariant (c.is_call.ensures c.if-not-is_call.false)
