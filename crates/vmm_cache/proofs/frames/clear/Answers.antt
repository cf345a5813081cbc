use Rattle.std.proofs.Common.{sym, ap, ◌∙◌, replicate, length}
use Rattle.layer_laws.specs.Side.{Side, written}
use Rattle.vmm_cache.proofs.Entries.{in_place, seen}
use Rattle.vmm_cache.proofs.frames.clear.Goals as goal

pub returns-in-Some : goal.returns-in-Some
returns-in-Some c =
    let was = sym c.in-Some.ensures.value in
    in_place c.args.held.now c.args.page c.in-Some.slot.now c.clear.new.self was _
    (c.clear.ensures ∙ ap (λ (s : Side). written (replicate (length s.copy) 0) s) (sym (seen c.args.held.now c.args.page c.in-Some.slot.now c.clear.new.self was)))
