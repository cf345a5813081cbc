use Rattle.std.proofs.Common.{map}
use Rattle.idl_reader.specs.Tree.{decl_tree}
use Rattle.idl_check.proofs.Ways.{AreWays}
use Rattle.idl_check.proofs.reach.reached.Given as goal

abbrev pub invariant-loop-k : goal.invariant-loop-k
invariant-loop-k l = AreWays (map (λ d. decl_tree d) l.decls) l.k (map (λ row. row.items) l.rows.items)
