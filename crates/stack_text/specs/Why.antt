-- Why a text is no stack text.
use Rattle.std.specs.Prelude.{◌≡◌, ℕ, List, codes, Result, Ok, Err}
use Rattle.text_words.specs.declared.lines.LineWhy.{LineWhy}
use Rattle.text_words.specs.declared.lines.LineWhy.TheVariants as lines
use Rattle.stack_text.specs.declared.why.StackWhy.{StackWhy}
use Rattle.stack_text.specs.declared.why.StackWhy.TheVariants.{Byte, Space, End, Long, Verb, Words, Name, Number, Memory}
use Rattle.stack_text.specs.declared.why.Refused.{Refused}

abbrev pub why_of : LineWhy → StackWhy
why_of lines.Byte = Byte
why_of lines.Space = Space
why_of lines.End = End
why_of lines.Memory = Memory

-- the printed word of a reason
abbrev pub word_of : StackWhy → List ℕ
word_of Byte = codes "byte"
word_of Space = codes "space"
word_of End = codes "end"
word_of Long = codes "long"
word_of Verb = codes "verb"
word_of Words = codes "words"
word_of Name = codes "name"
word_of Number = codes "number"
word_of Memory = codes "memory"

-- What a function returned is what reading gives, unless memory ran out.
abbrev pub Fails : {Y : Type 0} → StackWhy → Result Y StackWhy → Type 0
Fails Memory read = Unit {0}
Fails Byte read = read ≡ Err Byte
Fails Space read = read ≡ Err Space
Fails End read = read ≡ Err End
Fails Long read = read ≡ Err Long
Fails Verb read = read ≡ Err Verb
Fails Words read = read ≡ Err Words
Fails Name read = read ≡ Err Name
Fails Number read = read ≡ Err Number

abbrev pub Gives : {X : Type 0} → Result X StackWhy → Result X StackWhy → Type 0
Gives (Ok x) read = read ≡ Ok x
Gives (Err why) read = Fails why read

-- The refusal of a text: the line and the reason that reading gives, or line 0 if memory ran out.
abbrev pub Tells : {Y : Type 0} → StackWhy → ℕ → Result Y Refused → Type 0
Tells Memory line read = line ≡ 0
Tells why line read = read ≡ Err (record { line = line; why = why })

abbrev pub IsRefused : {Y : Type 0} → Result Y Refused → Refused → Type 0
IsRefused read refused = Tells refused.why refused.line read

-- What was read is the value, unless memory ran out.
abbrev pub Reads : {X : Type 0} → Result X Refused → X → Type 0
Reads (Ok x) wanted = x ≡ wanted
Reads (Err refused) wanted = refused.why ≡ Memory

-- the line that a refusal names
abbrev pub refused_line : StackWhy → ℕ → ℕ
refused_line Memory line = 0
refused_line why line = line
