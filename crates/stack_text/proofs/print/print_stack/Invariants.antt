use Rattle.std.proofs.Common.{◌≡◌, ◌++◌, drop, map}
use Rattle.stack_text.specs.Grammar.{line_words, spelling}
use Rattle.text_words.specs.Lines.{text_of}
use Rattle.stack_text.proofs.print.print_stack.Given as goal

abbrev pub invariant-loop-line : goal.invariant-loop-line
invariant-loop-line l = l.out.items ++ text_of (map (λ line. line_words line) (drop l.line-index l.line-items)) ≡ spelling l.stack
