-- The printed words of the reasons.
use Rattle.std.specs.Prelude.{ℕ, List, codes}
use Rattle.idl_check.specs.declared.why.UnfitWhy.{UnfitWhy}
use Rattle.idl_check.specs.declared.why.UnfitWhy.TheVariants.{Repeated, UnknownType, NotInterface, Cycle, Clash, Memory}
use Rattle.idl_check.specs.declared.why.IdlUnfit.{IdlUnfit}

abbrev pub word_of : UnfitWhy → List ℕ
word_of Repeated = codes "repeated"
word_of UnknownType = codes "unknown"
word_of NotInterface = codes "base"
word_of Cycle = codes "cycle"
word_of Clash = codes "clash"
word_of Memory = codes "memory"

-- out of memory, which has no place
abbrev pub no_memory : IdlUnfit
no_memory = record { place = 0; why = Memory }
