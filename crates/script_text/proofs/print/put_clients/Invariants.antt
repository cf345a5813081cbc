use Rattle.std.proofs.Common.{◌≡◌, ◌++◌, drop, map}
use Rattle.text_words.specs.Lines.{text_of}
use Rattle.script_text.specs.Grammar.{client_words}
use Rattle.script_text.proofs.print.put_clients.Given as goal

-- what is written, and what is left to write
abbrev pub invariant-loop-client : goal.invariant-loop-client
invariant-loop-client l = l.out.items ++ text_of (map client_words (drop l.client-index l.clients)) ≡ l.fn.out.items ++ text_of (map client_words l.clients)
