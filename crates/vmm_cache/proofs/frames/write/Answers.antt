use Rattle.std.proofs.Common.{sym, ap, ◌∙◌}
use Rattle.hist_plain.specs.Plain.{overwritten}
use Rattle.layer_laws.specs.Side.{Side, written}
use Rattle.vmm_cache.proofs.Entries.{in_place, seen}
use Rattle.vmm_cache.proofs.frames.write.Goals as goal

pub returns-in-Some : goal.returns-in-Some
returns-in-Some c =
    let was = sym c.in-Some.ensures.value in
    in_place c.args.held.now c.args.page c.in-Some.slot.now c.write.new.self was _
    (c.write.ensures.is ∙ ap (λ (s : Side). written (overwritten s.copy c.args.off c.args.bytes.now) s) (sym (seen c.args.held.now c.args.page c.in-Some.slot.now c.write.new.self was)))
