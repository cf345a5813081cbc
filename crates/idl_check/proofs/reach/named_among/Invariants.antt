use Rattle.std.proofs.Common.{◌≡◌, ◌++◌, drop, map}
use Rattle.idl_reader.specs.Tree.{decl_tree}
use Rattle.idl_check.specs.Names.{decl_name, has_name}
use Rattle.idl_check.proofs.reach.named_among.Given as goal

abbrev pub invariant-loop-decl : goal.invariant-loop-decl
invariant-loop-decl l = l.row.items ++ map (λ d. has_name (decl_name d).text (map (λ word. word.now) l.words)) (map (λ d. decl_tree d) (drop l.decl-index l.decls)) ≡ map (λ d. has_name (decl_name d).text (map (λ word. word.now) l.words)) (map (λ d. decl_tree d) l.decls)
