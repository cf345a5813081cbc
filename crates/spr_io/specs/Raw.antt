-- What a file of bytes tells, and what each call does to that.
use Rattle.std.specs.Prelude.{◌≡◌, ℕ, ◌+◌, ◌-◌, ◌<◌, ◌≤◌, List, ◌++◌, length, take, drop, replicate, Bool, true, false, Option, Some, None, IfSome}
use Rattle.std.specs.Option.{option_map}

-- a file: its bytes as they are read, its bytes as of the last sync that was done, whether a sync was refused, and
-- whether it is known to refuse no read, no write and no sync
pub record FileSeen : Type 0 where
  pub bytes : List ℕ
  pub synced : List ℕ
  pub failed : Bool
  pub sure : Bool

-- whether a file is known to refuse nothing; of one that is not told nothing is known
abbrev pub is_sure : Option FileSeen → Bool
is_sure None = false
is_sure (Some f) = f.sure

-- a read at an offset gave so many of these bytes, and some if there is one and room for it
pub record Gives (bytes : List ℕ) (offset count : ℕ) (out : List ℕ) : Type 0 where
  pub there : take count out ≡ take count (drop offset bytes)
  pub some : offset < length bytes → 0 < length out → 0 < count

-- a read at an offset gave so many bytes: those of the file, if it is told
pub record ReadsAt (seen : Option FileSeen) (offset count : ℕ) (out : List ℕ) : Type 0 where
  pub within : count ≤ length out
  pub told : IfSome seen (λ f. Gives f.bytes offset count out)

-- so many bytes as there are from an offset on
abbrev pub ReadsWhole : Option FileSeen → ℕ → List ℕ → Type 0
ReadsWhole seen offset out = IfSome seen (λ f. out ≡ take (length out) (drop offset f.bytes))

-- the file, if it is told, has so many bytes from an offset on
abbrev pub HasBytes : ℕ → ℕ → Option FileSeen → Type 0
HasBytes offset count seen = IfSome seen (λ f. offset + count ≤ length f.bytes)

-- the file, if it is told, has this length
abbrev pub HasLength : ℕ → Option FileSeen → Type 0
HasLength len seen = IfSome seen (λ f. length f.bytes ≡ len)

-- bytes after others were written over those from an offset on
abbrev pub overwritten : ℕ → List ℕ → List ℕ → List ℕ
overwritten offset new bytes = take offset bytes ++ (new ++ drop (offset + length new) bytes)

-- bytes cut to a length, or with zeros added up to it
abbrev pub resized : ℕ → List ℕ → List ℕ
resized len bytes = take len bytes ++ replicate (len - length bytes) 0

-- what is told after a write
abbrev pub after_write : ℕ → List ℕ → Option FileSeen → Option FileSeen
after_write offset new seen = option_map {T = FileSeen} (λ f. record f { bytes = overwritten offset new f.bytes }) seen

-- what is told after the length was set
abbrev pub after_set_len : ℕ → Option FileSeen → Option FileSeen
after_set_len len seen = option_map {T = FileSeen} (λ f. record f { bytes = resized len f.bytes }) seen

-- what is told after a sync was refused
abbrev pub after_refused : Option FileSeen → Option FileSeen
after_refused seen = option_map {T = FileSeen} (λ f. record f { failed = true }) seen

-- a sync was done: what is read is kept, if no sync was refused before; else nothing is said of what is kept
pub record Syncs (before after : Option FileSeen) : Type 0 where
  pub kept : List ℕ
  pub told : after ≡ option_map {T = FileSeen} (λ f. record f { synced = kept }) before
  pub whole : IfSome before (λ f. f.failed ≡ false → kept ≡ f.bytes)
