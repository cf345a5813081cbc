use Rattle.stack_engine.proofs.Stepping as stepping
use Rattle.stack_engine.proofs.engine.Engine.step.Goals as goal

pub returns-in_ok-message-in_default : goal.returns-in_ok-message-in_default
returns-in_ok-message-in_default g c = record {
  takes = stepping.takes_message c.args.self.now c.message.new.self c.args.event c.in_ok-message-in_default.field-0 c.in_default.not-Access c.in_default.not-Synced c.in_default.not-DestroyCache c.in_default.not-DonePager c.in_ok-message-in_default.ensures.sends;
  refused = tt;
  idle = λ needless. c.in_ok-message-in_default.ensures.idle (λ needs. needless (stepping.needs_message c.args.self.now c.args.event c.in_default.not-Access c.in_default.not-Synced needs));
  spare = stepping.spares_message c.args.self.now c.message.new.self c.args.event _ c.in_default.not-Access c.in_ok-message-in_default.ensures.sends.spare;
}
