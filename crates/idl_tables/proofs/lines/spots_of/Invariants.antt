use Rattle.std.proofs.Common.{◌≡◌, ◌++◌, drop, map}
use Rattle.idl_reader.specs.Tree.{decl_tree}
use Rattle.idl_tables.specs.Lines.{spot}
use Rattle.idl_tables.proofs.lines.spots_of.Given as goal

abbrev pub invariant-loop-word : goal.invariant-loop-word
invariant-loop-word l = l.spots.items ++ map (λ base. spot (map (λ d. decl_tree d) l.decls) base.text) (drop l.word-index l.words) ≡ map (λ base. spot (map (λ d. decl_tree d) l.decls) base.text) l.words
