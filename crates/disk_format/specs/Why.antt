-- Why bytes are no image.
use Rattle.std.specs.Prelude.{◌≡◌, ℕ, List, codes, Result, Ok, Err}
use Rattle.disk_format.specs.declared.why.ImageWhy.{ImageWhy}
use Rattle.disk_format.specs.declared.why.ImageWhy.TheVariants.{Magic, Version, PageSize, Pages, Generation, Pad, Entry, Twice, Tail, Memory}
use Rattle.disk_format.specs.declared.why.BadImage.{BadImage}

-- the printed word of a reason
abbrev pub word_of : ImageWhy → List ℕ
word_of Magic = codes "magic"
word_of Version = codes "version"
word_of PageSize = codes "size"
word_of Pages = codes "pages"
word_of Generation = codes "generation"
word_of Pad = codes "pad"
word_of Entry = codes "entry"
word_of Twice = codes "twice"
word_of Tail = codes "tail"
word_of Memory = codes "memory"

-- a refusal: what reading gives; or memory ran out, which has no place
pub record Refuses {X : Type 0} (bad : BadImage) (read : Result X BadImage) : Type 0 where
  pub fault : (bad.why ≡ Memory → ⊥) → read ≡ Err bad
  pub memory : bad.why ≡ Memory → bad.place ≡ 0

-- what was answered is what reading gives, unless memory ran out
abbrev pub Answers : {X : Type 0} → Result X BadImage → Result X BadImage → Type 0
Answers (Ok x) read = read ≡ Ok x
Answers (Err bad) read = Refuses bad read
