-- In a text each token stands behind the ones before it.
use Rattle.std.proofs.Common.{ℕ, ◌+◌, ◌≤◌, List, [], ◌∷◌, length, Bool, true, false, cond, arith}
use Rattle.std.specs.Prelude.{nat_le}
use Rattle.std.specs.List.{take_while}
use Rattle.text_words.specs.Words.{is_letter, is_name_char}
use Rattle.idl_reader.specs.Tokens.{Lexeme, Word, Sign, Stray, Long, End, Within, Gap, Name, Comment, is_blank, is_sign, begins_comment, goes_on, word_then, tokens_from}

abbrev pub place_of : Lexeme → ℕ
place_of (Word at word) = at
place_of (Sign at sign) = at
place_of (Stray at) = at
place_of (Long at) = at
place_of (End at) = at

-- the tokens' places rise, and the first is not below this
abbrev pub TokensRise : ℕ → List Lexeme → Type 0
TokensRise low [] = Unit {0}
TokensRise low (t ∷ ts) = (low ≤ place_of t) × TokensRise (place_of t + 1) ts

later_tokens : (low high : ℕ) (ts : List Lexeme) → low ≤ high → TokensRise high ts → TokensRise low ts
later_tokens low high [] below r = tt
later_tokens low high (t ∷ ts) below r = (omega (arith, r.0), r.1)

word_rises : (at : ℕ) (word : List ℕ) (rest : List Lexeme) → TokensRise (at + 1) rest → TokensRise at (word_then at word rest)
word_rises at word rest r = cases (nat_le (length word) 32) where
  cases : (short : Bool) → TokensRise at (cond short (Word at word ∷ rest) (Long at ∷ []))
  cases true = (omega arith, r)
  cases false = (omega arith, tt)

-- whichever token is next, those after it stand behind it
one_rises : (at sign : ℕ) (goes blank is_sign letter comment : Bool) (on gap word rest : List Lexeme) → TokensRise (at + 1) on → TokensRise (at + 1) gap → TokensRise at word → TokensRise (at + 1) rest
    → TokensRise at (cond goes on (cond blank gap (cond is_sign (Sign at sign ∷ gap) (cond letter word (cond comment rest (Stray at ∷ []))))))
one_rises at sign true blank is_sign letter comment on gap word rest a b c d = later_tokens at (at + 1) on (omega arith) a
one_rises at sign false true is_sign letter comment on gap word rest a b c d = later_tokens at (at + 1) gap (omega arith) b
one_rises at sign false false true letter comment on gap word rest a b c d = (omega arith, b)
one_rises at sign false false false true comment on gap word rest a b c d = c
one_rises at sign false false false false true on gap word rest a b c d = later_tokens at (at + 1) rest (omega arith) d
one_rises at sign false false false false false on gap word rest a b c d = (omega arith, tt)

pub tokens_rise : (within : Within) (at : ℕ) (text : List ℕ) → TokensRise at (tokens_from within at text)
unfolding tokens_from
tokens_rise within at [] = (omega arith, tt)
tokens_rise within at (c ∷ cs) =
    let word = c ∷ take_while is_name_char cs in
    one_rises at c (goes_on within c) (is_blank c) (is_sign c) (is_letter c) (begins_comment c cs) (tokens_from within (at + 1) cs) (tokens_from Gap (at + 1) cs) (word_then at word (tokens_from Name (at + 1) cs)) (tokens_from Comment (at + 1) cs)
    (tokens_rise within (at + 1) cs) (tokens_rise Gap (at + 1) cs) (word_rises at word (tokens_from Name (at + 1) cs) (tokens_rise Name (at + 1) cs)) (tokens_rise Comment (at + 1) cs)
