use Rattle.std.proofs.Common.{get_or, below_more, sym, ◌∙◌, subst}
use Rattle.page_messages.specs.declared.slot.Slot.{Slot}
use Rattle.page_messages.specs.Message.{Allows}
use Rattle.page_messages.specs.Slot.{side_of}
use Rattle.coherency_layer.proofs.Tables.{at_slot}
use Rattle.coherency_layer.proofs.allowing.all_allow.Goals as goal

pub loop-slot-preserved : goal.loop-slot-preserved
loop-slot-preserved c = λ k d lt.
    below_more (λ j. (e : Slot) → Allows (side_of (get_or c.args.slots.now j e)) c.args.message) c.loop-slot.slot-index (λ j l e. c.loop-slot.invariant j e l)
    (λ e. at_slot (λ slot. Allows (side_of slot) c.args.message) c.args.slots.now c.loop-slot.slot-index c.slot-item.result e c.loop-slot-test.true c.slot-item.is (c.allows.ensures.0 c.if-not-allows.false)) k lt d

pub returns-then-not-allows : goal.returns-then-not-allows
returns-then-not-allows c = (
  λ no. absurd (let f : ⊥ = cc in f),
  λ all. sym c.if-not-allows.true ∙ c.allows.ensures.1 (subst (λ slot. Allows (side_of slot) c.args.message) (sym c.slot-item.is) (all c.loop-slot.slot-index c.slot-item.result c.loop-slot-test.true)),
)
