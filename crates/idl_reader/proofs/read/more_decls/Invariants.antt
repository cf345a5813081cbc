use Rattle.std.proofs.Common.{◌-◌, length, map}
use Rattle.idl_reader.specs.Left.{left}
use Rattle.idl_reader.specs.Tree.{decl_tree}
use Rattle.idl_reader.specs.Reading.{decl_at, is_decl_word, until_end, many_at, onto}
use Rattle.idl_reader.proofs.Many.{GoesOn}
use Rattle.idl_reader.proofs.read.more_decls.Given as goal

abbrev pub invariant-loop-next : goal.invariant-loop-next
invariant-loop-next l =
    let front = map (λ decl. decl_tree decl) l.decls.items in
    let start = map (λ decl. decl_tree decl) l.fn.so_far.items in
    GoesOn 256 front (onto front (many_at until_end is_decl_word decl_at (256 - length front) (left l.rest))) (onto start (many_at until_end is_decl_word decl_at (256 - length start) (left l.fn.start)))

abbrev pub decreases-loop-next : goal.decreases-loop-next
decreases-loop-next l = 256 - length l.decls.items
