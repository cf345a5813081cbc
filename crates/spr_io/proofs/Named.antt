-- A text that is put under a name, and no other.
use Rattle.std.proofs.Common.{◌≡◌, ℕ, List, [], ◌∷◌, ◌++◌, get_or, position, Bool, true, false, Option, Some, None, refl, sym, ap, set, ◌∙◌}
use Rattle.std.specs.Str.{bytes_eq}
use Rattle.std.specs.Option.{option_map}
use Rattle.std.proofs.lemmas.Slice.Eq.{bytes_eq-Decides}
use Rattle.spr_io.specs.MemoryTexts.{NamedText, is_named, text_in}
use Rattle.spr_io.proofs.Found.{finds, replaced, passed_over, appended, appended_other}

pub same_bytes : (xs : List ℕ) → bytes_eq xs xs ≡ true
same_bytes xs = (bytes_eq-Decides xs xs).1 refl

pub is_false : (b : Bool) → (b ≡ true → ⊥) → b ≡ false
is_false true never = absurd (never refl)
is_false false never = refl

-- what has a name has no other
other_name : (t : NamedText) (name other : List ℕ) → is_named name t ≡ true → (other ≡ name → ⊥) → is_named other t ≡ false
other_name t name other is differs =
    is_false (bytes_eq t.name other) (λ (h : bytes_eq t.name other ≡ true). differs (sym ((bytes_eq-Decides t.name other).0 h) ∙ (bytes_eq-Decides t.name name).0 is))

-- the text of a name is set, and no other changes
pub record SetsText (name text : List ℕ) (before after : List NamedText) : Type 0 where
  pub here : text_in after name ≡ Some text
  pub others : (other : List ℕ) → (other ≡ name → ⊥) → text_in after other ≡ text_in before other

pub sets_text : (name text : List ℕ) (texts : List NamedText) (i : ℕ) (t : NamedText) → position (is_named name) texts ≡ Some i → t ≡ get_or texts i t → SetsText name text texts (set texts i (record t { text = text }))
sets_text name text texts i t e is =
    let f = finds (is_named name) texts i e in
    let named : is_named name t ≡ true = ap (is_named name) (is ∙ f.at t) ∙ f.passes in
    record {
      here = ap (λ (o : Option NamedText). option_map (λ (n : NamedText). n.text) o) (replaced (is_named name) texts i (record t { text = text }) e named);
      others = λ other differs. ap (λ (o : Option NamedText). option_map (λ (n : NamedText). n.text) o) (passed_over (is_named other) texts i t (record t { text = text }) is (other_name t name other named differs) (other_name t name other named differs));
    }

pub adds_text : (name text : List ℕ) (texts : List NamedText) → position (is_named name) texts ≡ None → SetsText name text texts (texts ++ record { name = name; text = text } ∷ [])
adds_text name text texts e =
    let t : NamedText = record { name = name; text = text } in
    let named : is_named name t ≡ true = same_bytes name in
    record {
      here = ap (λ (o : Option NamedText). option_map (λ (n : NamedText). n.text) o) (appended (is_named name) texts t e named);
      others = λ other differs. ap (λ (o : Option NamedText). option_map (λ (n : NamedText). n.text) o) (appended_other (is_named other) texts t (other_name t name other named differs));
    }
