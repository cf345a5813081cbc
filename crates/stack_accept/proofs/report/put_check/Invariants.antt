use Rattle.std.proofs.Common.{◌≡◌, ◌++◌, drop}
use Rattle.text_words.specs.Lines.{text_of}
use Rattle.stack_accept.specs.Check.{nodes_words, check_text}
use Rattle.stack_accept.proofs.report.put_check.Given as goal

abbrev pub invariant-loop-number : goal.invariant-loop-number
invariant-loop-number l = l.out.items ++ text_of (nodes_words l.mounted l.number (drop l.number l.node-items)) ≡ l.initial.out.items ++ check_text l.mounted
