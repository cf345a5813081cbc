-- Why a text is not in the language.
use Rattle.std.specs.Prelude.{◌≡◌, ℕ, List, codes, Result, Ok, Err}
use Rattle.idl_reader.specs.declared.why.IdlWhy.{IdlWhy}
use Rattle.idl_reader.specs.declared.why.IdlWhy.TheVariants.{Byte, LongName, Token, Limit, Memory}
use Rattle.idl_reader.specs.declared.why.IdlRefused.{IdlRefused}

-- the printed word of a reason
abbrev pub word_of : IdlWhy → List ℕ
word_of Byte = codes "byte"
word_of LongName = codes "long"
word_of Token = codes "token"
word_of Limit = codes "limit"
word_of Memory = codes "memory"

-- out of memory, which has no place
abbrev pub no_memory : IdlRefused
no_memory = record { place = 0; why = Memory }

-- A refusal is what reading gives, or out of memory.
abbrev pub Fails : {Y : Type 0} → IdlWhy → IdlRefused → Result Y IdlRefused → Type 0
Fails Memory refused read = refused ≡ no_memory
Fails why refused read = read ≡ Err refused

abbrev pub IsRefused : {Y : Type 0} → Result Y IdlRefused → IdlRefused → Type 0
IsRefused read refused = Fails refused.why refused read

-- What a function returned, seen by view, is what reading gives, unless memory ran out.
abbrev pub Gives : {X Y : Type 0} → (X → Y) → Result X IdlRefused → Result Y IdlRefused → Type 0
Gives view (Ok x) read = read ≡ Ok (view x)
Gives view (Err refused) read = IsRefused read refused
