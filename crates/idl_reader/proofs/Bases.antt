-- Bases have no limit of their own: there are no more of them than tokens.
use Rattle.std.proofs.Common.{◌≡◌, ℕ, zero, suc, ◌+◌, ◌-◌, ◌≤◌, ◌<◌, nat_eq, nat_le, List, [], ◌∷◌, length, Bool, true, false, cond, Option, Some, None, Ok, Err, refl, sym, ap, subst, ◌∙◌, arith}
use Rattle.text_words.specs.Words.{is_letter, is_name_char}
use Rattle.std.specs.List.{take_while}
use Rattle.idl_reader.specs.declared.why.IdlWhy.TheVariants.{Token}
use Rattle.idl_reader.specs.declared.why.IdlRefused.{IdlRefused}
use Rattle.idl_reader.specs.declared.idl.Word.{Word as Named}
use Rattle.idl_reader.specs.Tokens.{Lexeme, Word, Sign, Stray, Long, End, Within, Gap, Name, Comment, goes_on, is_blank, is_sign, begins_comment, tokens_from}
use Rattle.idl_reader.proofs.Results.{read, read_is}
use Rattle.idl_reader.specs.Words.{is_reserved}
use Rattle.idl_reader.specs.Reading.{◌>>=◌, Reads, if_after, after_sign, name_at, one_too_many, is_name_word, after_comma, many_at, names_at}

-- no more tokens than bytes, and the end
pub tokens_few : (within : Within) (at : ℕ) (bs : List ℕ) → length (tokens_from within at bs) ≤ length bs + 1
unfolding tokens_from
tokens_few within at [] = omega arith
tokens_few within at (c ∷ cs) = few (tokens_few within (at + 1) cs) (tokens_few Gap (at + 1) cs) (tokens_few Name (at + 1) cs) (tokens_few Comment (at + 1) cs) where
  Few : ℕ → List Lexeme → Type 0
  Few n ts = length ts ≤ n + 1

  either : (b : Bool) (n : ℕ) (x y : List Lexeme) → length x ≤ n → length y ≤ n → length (cond b x y) ≤ n
  either true n x y first other = first
  either false n x y first other = other

  few : length (tokens_from within (at + 1) cs) ≤ length cs + 1 → length (tokens_from Gap (at + 1) cs) ≤ length cs + 1 → length (tokens_from Name (at + 1) cs) ≤ length cs + 1 → length (tokens_from Comment (at + 1) cs) ≤ length cs + 1
      → length (tokens_from within at (c ∷ cs)) ≤ length (c ∷ cs) + 1
  few same gap name comment =
      either (goes_on within c) _ _ _ (omega arith)
      (either (is_blank c) _ _ _ (omega arith)
      (either (is_sign c) _ _ _ (omega arith)
      (either (is_letter c) _ _ _ (either (nat_le (length (c ∷ take_while is_name_char cs)) 32) _ _ _ (omega arith) (omega arith))
      (either (begins_comment c cs) _ _ _ (omega arith) (omega arith)))))

named_shorter : (b : Bool) (x y : Named) (rest after : List Lexeme) (e : IdlRefused) → cond b (Err e) (read x rest) ≡ read y after → length after ≤ length rest
named_shorter true x y rest after e is = absurd cc
named_shorter false x y rest after e is = let same = read_is x y rest after is in subst (λ ts. length ts ≤ length rest) same.1 (omega arith)

-- a name takes a token
pub name_shorter : (ts after : List Lexeme) (x : Named) → name_at ts ≡ Ok (x, after) → length after < length ts
unfolding name_at
name_shorter (Word at w ∷ rest) after x is = let less = named_shorter (is_reserved w) (record { text = w; place = at }) x rest after (record { place = at; why = Token }) is in omega arith
name_shorter (Sign at c ∷ rest) after x is = absurd cc
name_shorter (Stray at ∷ rest) after x is = absurd cc
name_shorter (Long at ∷ rest) after x is = absurd cc
name_shorter (End at ∷ rest) after x is = absurd cc
name_shorter [] after x is = absurd cc

signed_shorter : (b : Bool) (rest after : List Lexeme) → cond b (Some rest) None ≡ Some after → length after ≤ length rest
signed_shorter true rest after is = let same : rest ≡ after = cc in subst (λ ts. length ts ≤ length rest) same (omega arith)
signed_shorter false rest after is = absurd cc

-- and a sign
pub sign_shorter : (own : ℕ) (ts after : List Lexeme) → after_sign own ts ≡ Some after → length after < length ts
unfolding after_sign
sign_shorter own (Sign at c ∷ rest) after is = let less = signed_shorter (nat_eq c own) rest after is in omega arith
sign_shorter own (Word at w ∷ rest) after is = absurd cc
sign_shorter own (Stray at ∷ rest) after is = absurd cc
sign_shorter own (Long at ∷ rest) after is = absurd cc
sign_shorter own (End at ∷ rest) after is = absurd cc
sign_shorter own [] after is = absurd cc

abbrev onto_first : Named → List Named × List Lexeme → Reads (List Named)
onto_first x xs = Ok (x ∷ xs.0, xs.1)

abbrev Names : ℕ → List Lexeme → Reads (List Named)
Names n ts = many_at after_comma is_name_word name_at n ts

no_sign : (own : ℕ) (ts : List Lexeme) → length ts ≤ 0 → after_sign own ts ≡ None
unfolding after_sign
no_sign own [] none = refl
no_sign own (t ∷ ts) none = absurd (omega arith)

names-none : (n : ℕ) (ts : List Lexeme) → after_comma ts ≡ None → Names n ts ≡ Ok ([], ts)
unfolding many_at
names-none zero ts e = ap (λ o. if_after o (λ rest. Err (one_too_many is_name_word rest)) (Ok ([], ts))) e
names-none (suc n) ts e = ap (λ o. if_after o (λ rest. name_at rest >>= λ x. Names n x.1 >>= λ xs. onto_first x.0 xs) (Ok ([], ts))) e

-- as many as there are tokens is as many as one likes
pub names_enough : (n m : ℕ) (ts : List Lexeme) → length ts ≤ n → length ts ≤ m → Names n ts ≡ Names m ts
unfolding many_at
names_enough zero m ts a b = names-none zero ts (no_sign 44 ts a) ∙ sym (names-none m ts (no_sign 44 ts a))
names_enough (suc n) zero ts a b = names-none (suc n) ts (no_sign 44 ts b) ∙ sym (names-none zero ts (no_sign 44 ts b))
names_enough (suc n) (suc m) ts a b = by_comma (after_comma ts) refl (λ us. names_enough n m us) where
  More : ℕ → List Lexeme → Reads (List Named)
  More k rest = name_at rest >>= λ x. Names k x.1 >>= λ xs. onto_first x.0 xs

  by_name : (rest : List Lexeme) → length rest < length ts → (r : Reads Named) → name_at rest ≡ r → ((us : List Lexeme) → length us ≤ n → length us ≤ m → Names n us ≡ Names m us)
      → (r >>= λ x. Names n x.1 >>= λ xs. onto_first x.0 xs) ≡ (r >>= λ x. Names m x.1 >>= λ xs. onto_first x.0 xs)
  by_name rest less (Err e) is same = refl
  by_name rest less (Ok (x, after)) is same =
      let fewer = name_shorter rest after x is in
      ap (λ r. r >>= λ xs. onto_first x xs) (same after (omega arith) (omega arith))

  by_comma : (o : Option (List Lexeme)) → after_comma ts ≡ o → ((us : List Lexeme) → length us ≤ n → length us ≤ m → Names n us ≡ Names m us)
      → if_after o (λ rest. More n rest) (Ok ([], ts)) ≡ if_after o (λ rest. More m rest) (Ok ([], ts))
  by_comma None is same = refl
  by_comma (Some rest) is same = by_name rest (sign_shorter 44 ts rest is) (name_at rest) refl same

pub names_at_enough : (n : ℕ) (ts : List Lexeme) → length ts ≤ n → names_at n ts ≡ names_at (length ts) ts
unfolding names_at
names_at_enough n ts a = by_name (name_at ts) refl where
  by_name : (r : Reads Named) → name_at ts ≡ r → (r >>= λ x. Names (n - 1) x.1 >>= λ xs. onto_first x.0 xs) ≡ (r >>= λ x. Names (length ts - 1) x.1 >>= λ xs. onto_first x.0 xs)
  by_name (Err e) is = refl
  by_name (Ok (x, after)) is =
      let fewer = name_shorter ts after x is in
      ap (λ r. r >>= λ xs. onto_first x xs) (names_enough (n - 1) (length ts - 1) after (omega arith) (omega arith))
