use Rattle.std.proofs.Common.{sym, ap, ◌∙◌}
use Rattle.page_messages.specs.After.{after_pager}
use Rattle.vmm_cache.proofs.Entries.{in_place, seen}
use Rattle.vmm_cache.proofs.frames.settle.Goals as goal

pub returns-in-Some : goal.returns-in-Some
returns-in-Some c = λ page_size none.
    let was = sym c.in-Some.ensures.value in
    in_place c.args.held.now c.args.page c.in-Some.slot.now c.finish.new.self was _
    (c.finish.ensures page_size (λ _. none) ∙ ap (after_pager page_size c.args.frame.now) (sym (seen c.args.held.now c.args.page c.in-Some.slot.now c.finish.new.self was)))
