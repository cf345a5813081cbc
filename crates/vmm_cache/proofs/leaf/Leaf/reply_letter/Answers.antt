use Rattle.std.proofs.Common.{subst, sym, ap, ◌∙◌, ℕ}
use Rattle.page_messages.specs.Letters.{IsLetter, reply}
use Rattle.page_messages.specs.Rules.{MayObey}
use Rattle.page_messages.specs.Slot.{side_of}
use Rattle.vmm_cache.specs.Leaf.{side}
use Rattle.vmm_cache.proofs.Sides.{obeys, replies, obeys_at}
use Rattle.vmm_cache.proofs.leaf.Leaf.reply_letter.Goals as goal

pub returns-clause-is : goal.returns-clause-is
returns-clause-is c =
    let may = subst (λ (p : ℕ). MayObey (side c.args.self.now p) c.args.what) (sym c.page.ensures) (obeys_at c.args.self.now c.args.what c.args.about c.requires) in
    c.reply.ensures.is ∙ replies c.args.self.now.file (side c.args.self.now c.page.result) (side_of c.slot.result.now) c.slot.ensures c.args.what may
    ∙ ap (λ (p : ℕ). reply (side c.args.self.now p) c.args.what) c.page.ensures

pub returns-clause-letter : goal.returns-clause-letter
returns-clause-letter c =
    let may = subst (λ (p : ℕ). MayObey (side c.args.self.now p) c.args.what) (sym c.page.ensures) (obeys_at c.args.self.now c.args.what c.args.about c.requires) in
    subst (IsLetter c.args.self.now.file.page_size) (sym c.reply.ensures.is)
    (c.reply.ensures.letter c.args.self.now.file.page_size 0 c.slot.ensures.kept (obeys c.args.self.now.file (side c.args.self.now c.page.result) (side_of c.slot.result.now) c.slot.ensures c.args.what may))
