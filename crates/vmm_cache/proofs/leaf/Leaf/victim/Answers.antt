use Rattle.std.specs.Option.{option_map}
use Rattle.std.proofs.Common.{ℕ, ap, ◌∙◌}
use Rattle.page_messages.specs.declared.slot.Slot.{Slot}
use Rattle.vmm_cache.proofs.Sides.{victim_is}
use Rattle.vmm_cache.proofs.leaf.Leaf.victim.Goals as goal

pub returns-in-Some : goal.returns-in-Some
returns-in-Some c = ap (option_map {T = ℕ × Slot} (λ e. e.0)) c.in-Some.ensures ∙ victim_is c.args.self.now.held

pub returns-in-None : goal.returns-in-None
returns-in-None c = ap (option_map {T = ℕ × Slot} (λ e. e.0)) c.in-None.ensures ∙ victim_is c.args.self.now.held
