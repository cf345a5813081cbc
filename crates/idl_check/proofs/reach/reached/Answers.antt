use Rattle.std.proofs.Common.{map, ap, ◌∙◌}
use Rattle.idl_reader.specs.Tree.{decl_tree}
use Rattle.idl_check.specs.Reach.{through}
use Rattle.idl_check.proofs.Ways.{ways_first, ways_next}
use Rattle.idl_check.proofs.reach.reached.Goals as goal

pub loop-k-init : goal.loop-k-init
loop-k-init c = ways_first (map (λ d. decl_tree d) c.args.decls.now) (map (λ row. row.items) c.in_ok-rows.rows.items) c.in_ok-rows.ensures

pub loop-k-preserved : goal.loop-k-preserved
loop-k-preserved c =
    ways_next (map (λ d. decl_tree d) c.args.decls.now) c.loop-k.k (map (λ row. row.items) c.loop-k.rows.items) (map (λ row. row.items) c.in_ok-rows-2.rows.items) c.loop-k.invariant
    (c.in_ok-rows-2.ensures ∙ ap (λ m. through c.loop-k.k (map (λ row. row.items) m)) c.deref.ensures.value)
