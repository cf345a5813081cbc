use Rattle.std.proofs.Common.{◌∙◌, ap, length, refl, replicate, ℕ}
use Rattle.std.proofs.lemmas.List.{length-replicate}
use Rattle.coherency_layer.proofs.Tables.{copy_long, write_kept, write_changes}
use Rattle.coherency_layer.proofs.node.Node.blank.Goals as goal

pub invariant_of-self-clause-kept : goal.invariant_of-self-clause-kept
invariant_of-self-clause-kept c =
    write_kept c.args.self.now c.args.page c.index_mut-slot.result.now c.clear.new.self (replicate (length c.index_mut-slot.result.now.copy.items) 0) c.requires c.index_mut-slot.ensures.value c.clear.ensures
    (length-replicate (length c.index_mut-slot.result.now.copy.items) 0 ∙ copy_long c.args.self.now c.args.page c.index_mut-slot.result.now c.clear.new.self _ c.requires c.index_mut-slot.ensures.value c.clear.ensures)

pub returns : goal.returns
returns c = record {
  same = record { file = refl; children = refl };
  pages = write_changes c.args.self.now c.args.page c.index_mut-slot.result.now c.clear.new.self (replicate (length c.index_mut-slot.result.now.copy.items) 0) c.requires c.index_mut-slot.ensures.value c.clear.ensures _ _ refl
      (ap (λ (n : ℕ). replicate n 0) (copy_long c.args.self.now c.args.page c.index_mut-slot.result.now c.clear.new.self _ c.requires c.index_mut-slot.ensures.value c.clear.ensures));
}
