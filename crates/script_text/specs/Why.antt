-- The words of the reasons.
use Rattle.std.specs.Prelude.{ℕ, List, codes}
use Rattle.text_words.specs.declared.lines.LineWhy.{LineWhy}
use Rattle.text_words.specs.declared.lines.LineWhy.TheVariants as line_why
use Rattle.script_text.specs.declared.why.ScriptWhy.{ScriptWhy}
use Rattle.script_text.specs.declared.why.ScriptWhy.TheVariants as why

abbrev pub why_word : ScriptWhy → List ℕ
why_word why.Byte = codes "byte"
why_word why.Space = codes "space"
why_word why.End = codes "end"
why_word why.Long = codes "long"
why_word why.Client = codes "client"
why_word why.Phase = codes "phase"
why_word why.Who = codes "who"
why_word why.Verb = codes "verb"
why_word why.Words = codes "words"
why_word why.Name = codes "name"
why_word why.Number = codes "number"
why_word why.Hex = codes "hex"
why_word why.Memory = codes "memory"

-- a reason that any text of lines has, among those of a script
abbrev pub from_line : LineWhy → ScriptWhy
from_line line_why.Byte = why.Byte
from_line line_why.Space = why.Space
from_line line_why.End = why.End
from_line line_why.Memory = why.Memory
