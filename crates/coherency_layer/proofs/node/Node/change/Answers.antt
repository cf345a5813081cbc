use Rattle.std.proofs.Common.{◌∙◌, ap, sym, refl, length}
use Rattle.hist_plain.specs.Plain.{overwritten}
use Rattle.layer_laws.specs.Side.{Side}
use Rattle.coherency_layer.proofs.Tables.{copy_long, seen, write_kept, write_changes}
use Rattle.coherency_layer.proofs.node.Node.change.Goals as goal

pub invariant_of-self-clause-kept : goal.invariant_of-self-clause-kept
invariant_of-self-clause-kept c =
    write_kept c.args.self.now c.args.page c.index_mut-slot.result.now c.write.new.self _ c.requires.may c.index_mut-slot.ensures.value c.write.ensures.is
    (ap (λ (s : Side). length s.copy) (sym c.write.ensures.is) ∙ c.write.ensures.len ∙ copy_long c.args.self.now c.args.page c.index_mut-slot.result.now c.write.new.self _ c.requires.may c.index_mut-slot.ensures.value c.write.ensures.is)

pub returns : goal.returns
returns c = record {
  same = record { file = refl; children = refl };
  pages = write_changes c.args.self.now c.args.page c.index_mut-slot.result.now c.write.new.self _ c.requires.may c.index_mut-slot.ensures.value c.write.ensures.is _ _ refl
      (ap (λ (s : Side). overwritten s.copy c.args.off c.args.bytes.now) (sym (seen c.args.self.now c.args.page c.index_mut-slot.result.now c.write.new.self _ c.requires.may c.index_mut-slot.ensures.value c.write.ensures.is)));
}
