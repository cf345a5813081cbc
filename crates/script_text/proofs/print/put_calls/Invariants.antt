use Rattle.std.proofs.Common.{◌≡◌, ◌++◌, drop, map}
use Rattle.text_words.specs.Lines.{text_of}
use Rattle.script_text.specs.Grammar.{call_line_words}
use Rattle.script_text.proofs.print.put_calls.Given as goal

-- what is written, and what is left to write
abbrev pub invariant-loop-line : goal.invariant-loop-line
invariant-loop-line l = l.out.items ++ text_of (map (call_line_words l.clients) (drop l.line-index l.lines)) ≡ l.fn.out.items ++ text_of (map (call_line_words l.clients) l.lines)
