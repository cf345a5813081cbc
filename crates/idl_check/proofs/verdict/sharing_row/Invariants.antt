use Rattle.std.proofs.Common.{◌≡◌, ◌++◌, drop, map}
use Rattle.idl_reader.specs.Tree.{decl_tree}
use Rattle.idl_check.specs.Verdict.{shares_name}
use Rattle.idl_check.proofs.verdict.sharing_row.Given as goal

abbrev pub invariant-loop-other : goal.invariant-loop-other
invariant-loop-other l = l.row.items ++ map (λ e. shares_name (decl_tree l.decl) e) (map (λ d. decl_tree d) (drop l.other-index l.decls)) ≡ map (λ e. shares_name (decl_tree l.decl) e) (map (λ d. decl_tree d) l.decls)
