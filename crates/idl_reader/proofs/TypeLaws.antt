-- A type, by its first word.
use Rattle.std.proofs.Common.{◌≡◌, ℕ, zero, suc, ◌-◌, ◌≤◌, List, codes, Some, None, Err, sym, ap, ◌∙◌, arith}
use Rattle.idl_reader.specs.declared.why.IdlWhy.TheVariants.{Limit}
use Rattle.idl_reader.specs.Tokens.{Lexeme}
use Rattle.idl_reader.specs.Reading.{after_word, if_after, refused, simple_at, sequence_at, type_at}

pub type-simple : (n : ℕ) (ts : List Lexeme) → None ≡ after_word (codes "sequence") ts → type_at n ts ≡ simple_at ts
unfolding type_at
type-simple zero ts e = ap (λ o. if_after o (λ rest. Err (refused Limit ts)) (simple_at ts)) (sym e)
type-simple (suc n) ts e = ap (λ o. if_after o (λ rest. sequence_at (λ us. type_at n us) rest) (simple_at ts)) (sym e)

pub type-full : (n : ℕ) (ts rest : List Lexeme) → n ≡ 0 → Some rest ≡ after_word (codes "sequence") ts → type_at n ts ≡ Err (refused Limit ts)
unfolding type_at
type-full zero ts rest z e = ap (λ o. if_after o (λ r. Err (refused Limit ts)) (simple_at ts)) (sym e)
type-full (suc n) ts rest z e = absurd (omega arith)

pub type-more : (n : ℕ) (ts rest : List Lexeme) → 1 ≤ n → Some rest ≡ after_word (codes "sequence") ts → type_at n ts ≡ sequence_at (λ us. type_at (n - 1) us) rest
unfolding type_at
type-more zero ts rest some e = absurd (omega arith)
type-more (suc n) ts rest some e =
    let same : n ≡ suc n - 1 = omega arith in
    ap (λ o. if_after o (λ r. sequence_at (λ us. type_at n us) r) (simple_at ts)) (sym e)
    ∙ ap (λ m. sequence_at (λ us. type_at m us) rest) same
