-- Steps that did not fail.
use Rattle.std.proofs.Common.{◌≡◌, Bool, true, false, cond, List, Result, Ok, Err, refl, ap}
use Rattle.idl_reader.specs.declared.why.IdlRefused.{IdlRefused}
use Rattle.idl_reader.specs.Tokens.{Lexeme}
use Rattle.idl_reader.specs.Reading.{◌>>=◌, Reads}

abbrev pub done : {A : Type 0} → A → Result A IdlRefused
done x = Ok x

abbrev pub read : {A : Type 0} → A → List Lexeme → Reads A
read x rest = Ok (x, rest)

pub ok_is : {A : Type 0} (x y : A) → done x ≡ done y → x ≡ y
ok_is x y e = cc

pub read_is : {A : Type 0} (x y : A) (rest after : List Lexeme) → read x rest ≡ read y after → (x ≡ y) × (rest ≡ after)
read_is x y rest after e = let same = ok_is (x, rest) (y, after) e in (ap (λ p. p.0) same, ap (λ p. p.1) same)

-- the value of a step that did not fail
pub bind_ok : {A B : Type 0} (r : Result A IdlRefused) (f : A → Result B IdlRefused) (y : B) → (r >>= f) ≡ Ok y → (x : A) × (r ≡ Ok x) × (f x ≡ Ok y)
bind_ok (Ok x) f y e = (x, refl, e)
bind_ok (Err d) f y e = absurd cc

pub bind_again : {A B : Type 0} (r : Result A IdlRefused) (f : A → Result B IdlRefused) (x : A) → r ≡ Ok x → (r >>= f) ≡ f x
bind_again r f x e = ap (λ s. s >>= f) e

-- a test that did not fail
pub guarded : {A : Type 0} (b : Bool) (e : IdlRefused) (r : Result A IdlRefused) (y : A) → cond b (Err e) r ≡ Ok y → (b ≡ false) × (r ≡ Ok y)
guarded true e r y is = absurd cc
guarded false e r y is = (refl, is)
