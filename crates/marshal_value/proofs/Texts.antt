-- The test whether bytes are text.
use Rattle.std.proofs.Common.{◌≡◌, ℕ, List, Bool, true, false, refl}
use Rattle.std.specs.Str.{IsUtf8, is_utf8}
use Rattle.std.proofs.lemmas.Str.{is_utf8-from_IsUtf8, IsUtf8-from_is_utf8}

pub utf8_test : (bytes : List ℕ) → IsUtf8 bytes → is_utf8 bytes ≡ true
utf8_test bytes h = is_utf8-from_IsUtf8 bytes h

by_test : (bytes : List ℕ) (b : Bool) → is_utf8 bytes ≡ b → (IsUtf8 bytes → ⊥) → b ≡ false
by_test bytes true e h = absurd (h (IsUtf8-from_is_utf8 bytes e))
by_test bytes false e h = refl

pub no_utf8_test : (bytes : List ℕ) → (IsUtf8 bytes → ⊥) → is_utf8 bytes ≡ false
no_utf8_test bytes h = by_test bytes (is_utf8 bytes) refl h
