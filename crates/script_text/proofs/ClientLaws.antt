-- The clients of a script: their names and numbers.
use Rattle.std.proofs.Common.{◌≡◌, ℕ, zero, suc, ◌+◌, ◌<◌, ◌≤◌, List, [], ◌∷◌, ◌++◌, length, get_or, Bool, true, false, cond, Option, Some, refl, sym, ap, ◌∙◌, arith, inl, inr, ◌⊎◌}
use Rattle.std.specs.Str.{bytes_eq}
use Rattle.std.proofs.lemmas.Bool.{or_parts, or_from, false_from_ne_true}
use Rattle.std.proofs.lemmas.Slice.Eq.{bytes_eq-Decides}
use Rattle.script_text.specs.declared.script.ClientLine.{ClientLine}
use Rattle.script_text.specs.Grammar.{has_client, AreDistinct, client_name}
use Rattle.script_text.specs.Reading.{place_from}
use Rattle.script_text.proofs.Fields.{same_word}

-- the other way round
other_word : (a b : List ℕ) → bytes_eq a b ≡ false → bytes_eq b a ≡ false
other_word a b h = false_from_ne_true (bytes_eq b a) (λ e. cc (sym h ∙ (bytes_eq-Decides a b).1 (sym (same_word b a e))))

pub word_itself : (a : List ℕ) → bytes_eq a a ≡ true
word_itself a = (bytes_eq-Decides a a).1 refl

-- no client has a name if none before has it and the last has another
has_more : (name : List ℕ) (clients : List ClientLine) (c : ClientLine) → has_client name clients ≡ false → bytes_eq c.name name ≡ false → has_client name (clients ++ c ∷ []) ≡ false
has_more name [] c h other = or_from _ _ other refl
has_more name (d ∷ clients) c h other =
    let parts = or_parts (bytes_eq d.name name) (has_client name clients) h in
    or_from _ _ parts.0 (has_more name clients c parts.1 other)

-- a client with a new name at the end
pub distinct_more : (clients : List ClientLine) (c : ClientLine) → AreDistinct clients → has_client c.name clients ≡ false → AreDistinct (clients ++ c ∷ [])
distinct_more [] c d new = (refl, tt)
distinct_more (first ∷ clients) c d new =
    let parts = or_parts (bytes_eq first.name c.name) (has_client c.name clients) new in
    (has_more first.name clients c d.0 (other_word first.name c.name parts.0), distinct_more clients c d.1 parts.1)

lacks_front : (name : List ℕ) (front : List ClientLine) (c : ClientLine) (rest : List ClientLine) → has_client name (front ++ c ∷ rest) ≡ false → bytes_eq c.name name ≡ false
lacks_front name [] c rest h = (or_parts (bytes_eq c.name name) (has_client name rest) h).0
lacks_front name (d ∷ front) c rest h = lacks_front name front c rest (or_parts (bytes_eq d.name name) (has_client name (front ++ c ∷ rest)) h).1

-- a client's name is new where the client stands
pub new_here : (front : List ClientLine) (c : ClientLine) (rest : List ClientLine) → AreDistinct (front ++ c ∷ rest) → has_client c.name front ≡ false
new_here [] c rest d = refl
new_here (first ∷ front) c rest d =
    or_from _ _ (other_word c.name first.name (lacks_front first.name front c rest d.0)) (new_here front c rest d.1)

-- the place that is found
pub place_found : (from : ℕ) (name : List ℕ) (clients : List ClientLine) (n : ℕ) → place_from from name clients ≡ Some n → (i : ℕ) × (n ≡ from + i) × (i < length clients) × (client_name clients i ≡ name)
place_found from name [] n e = absurd cc
place_found from name (c ∷ clients) n e =
    elim (first_or (bytes_eq c.name name) from n (place_from (suc from) name clients) e) [
      | inl h ↦ (0, omega (arith, h.1), omega arith, same_word c.name name h.0)
      | inr rest ↦ let r = place_found (suc from) name clients n rest in (suc r.0, omega (arith, r.1), omega (arith, r.2), r.3)
    ] where
      first_or : (b : Bool) (m k : ℕ) (rest : Option ℕ) → cond b (Some m) rest ≡ Some k → ((b ≡ true) × (m ≡ k)) ⊎ (rest ≡ Some k)
      first_or true m k rest e = inl (refl, cc)
      first_or false m k rest e = inr e

has_named : (name : List ℕ) (clients : List ClientLine) (i : ℕ) → i < length clients → client_name clients i ≡ name → has_client name clients ≡ false → ⊥
has_named name [] i lt e h = absurd (omega arith)
has_named name (c ∷ clients) zero lt e h = cc (sym (or_parts (bytes_eq c.name name) (has_client name clients) h).0 ∙ (bytes_eq-Decides c.name name).1 e)
has_named name (c ∷ clients) (suc i) lt e h = has_named name clients i (omega arith) e (or_parts (bytes_eq c.name name) (has_client name clients) h).1

-- the place of a client's name is the client's number
pub place_again : (from : ℕ) (clients : List ClientLine) (i : ℕ) → AreDistinct clients → i < length clients → place_from from (client_name clients i) clients ≡ Some (from + i)
place_again from [] i d lt = absurd (omega arith)
place_again from (c ∷ clients) zero d lt =
    let same = word_itself c.name in
    let n : from ≡ from + 0 = omega arith in
    rw same (ap (λ (k : ℕ). Some k) n)
place_again from (c ∷ clients) (suc i) d lt =
    let other : bytes_eq c.name (client_name clients i) ≡ false = false_from_ne_true _ (λ e. has_named c.name clients i (omega arith) (sym (same_word c.name (client_name clients i) e)) d.0) in
    let n : suc from + i ≡ from + suc i = omega arith in
    rw other (place_again (suc from) clients i d.1 (omega arith) ∙ ap (λ (k : ℕ). Some k) n)

-- the client at a place has the name of its number
pub name_at_place : (clients : List ClientLine) (i : ℕ) (c : ClientLine) → i < length clients → c ≡ get_or clients i c → c.name ≡ client_name clients i
name_at_place [] i c lt e = absurd (omega arith)
name_at_place (first ∷ clients) zero c lt e = ap (λ (d : ClientLine). d.name) e
name_at_place (first ∷ clients) (suc i) c lt e = name_at_place clients i c (omega arith) e

pub no_name : (clients : List ClientLine) (i : ℕ) → length clients ≤ i → [] ≡ client_name clients i
no_name [] i le = refl
no_name (first ∷ clients) zero le = absurd (omega arith)
no_name (first ∷ clients) (suc i) le = no_name clients i (omega arith)
