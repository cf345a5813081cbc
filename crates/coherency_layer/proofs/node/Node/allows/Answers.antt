use Rattle.std.specs.Prelude.{IsSomeAnd}
use Rattle.std.proofs.Common.{subst, sym, Option, All, List}
use Rattle.page_messages.specs.declared.slot.Slot.{Slot}
use Rattle.page_messages.specs.declared.paged.About.{About}
use Rattle.page_messages.specs.Message.{Allows}
use Rattle.page_messages.specs.Slot.{side_of}
use Rattle.coherency_layer.specs.Node.{OnPages}
use Rattle.coherency_layer.proofs.Tables.{all_about, about_all}
use Rattle.coherency_layer.proofs.node.Node.allows.Goals as goal

pub returns-in-Some : goal.returns-in-Some
returns-in-Some c =
    let Decides : Option About → Type 0 = λ o. IsSomeAnd o (λ about. OnPages c.args.self.now about (λ s. Allows s c.args.message)) in
    let Each : List Slot → Type 0 = λ slots. All (λ slot. Allows (side_of slot) c.args.message) slots in (
      λ t. subst Decides c.in-Some.ensures.is (all_about c.args.self.now c.in-Some.about c.args.message c.in-Some.ensures.inside (subst Each c.slots_about.ensures (c.all_allow.ensures.0 t))),
      λ h. c.all_allow.ensures.1 (subst Each (sym c.slots_about.ensures) (about_all c.args.self.now c.in-Some.about c.args.message c.in-Some.ensures.inside (subst Decides (sym c.in-Some.ensures.is) h))),
    )
