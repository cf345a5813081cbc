-- A refusal at the first token is what reading gives.
use Rattle.std.proofs.Common.{◌≡◌, ℕ, List, [], ◌∷◌, Bool, true, false, cond, Bor, Result, Err, refl, sym, subst}
use Rattle.idl_reader.specs.declared.why.IdlWhy.TheVariants.{Token, Limit}
use Rattle.idl_reader.specs.declared.why.IdlRefused.{IdlRefused}
use Rattle.idl_reader.specs.declared.rest.Rest.{Rest}
use Rattle.idl_reader.specs.declared.token.Token.{Token as Found}
use Rattle.idl_reader.specs.declared.token.Token.TheVariants as token
use Rattle.idl_reader.specs.Left.{found, left}
use Rattle.idl_reader.specs.Tokens.{Lexeme, Word, Sign, Stray, Long, End, Gap}
use Rattle.idl_reader.specs.Words.{is_word}
use Rattle.idl_reader.specs.Why.{IsRefused}
use Rattle.idl_reader.proofs.TokenLaws.{Tokens, tokens_fit}
use Rattle.idl_reader.specs.Reading.{refused, one_too_many, begins_with, name_at, simple_at}

token_is : {Y : Type 0} (read : Result Y IdlRefused) (tokens : List Lexeme) → read ≡ Err (refused Token tokens) → IsRefused read (refused Token tokens)
unfolding refused
token_is read (Word at word ∷ rest) e = e
token_is read (Sign at sign ∷ rest) e = e
token_is read (Stray at ∷ rest) e = e
token_is read (Long at ∷ rest) e = e
token_is read (End at ∷ rest) e = e
token_is read [] e = e

limit_is : {Y : Type 0} (read : Result Y IdlRefused) (tokens : List Lexeme) → read ≡ Err (refused Limit tokens) → IsRefused read (refused Limit tokens)
unfolding refused
limit_is read (Word at word ∷ rest) e = e
limit_is read (Sign at sign ∷ rest) e = e
limit_is read (Stray at ∷ rest) e = e
limit_is read (Long at ∷ rest) e = e
limit_is read (End at ∷ rest) e = e
limit_is read [] e = e

pub token_refused : {Y : Type 0} (read : Result Y IdlRefused) (tokens : List Lexeme) (r : IdlRefused) → r ≡ refused Token tokens → read ≡ Err (refused Token tokens) → IsRefused read r
token_refused read tokens r is e = subst (IsRefused read) (sym is) (token_is read tokens e)

pub limit_refused : {Y : Type 0} (read : Result Y IdlRefused) (tokens : List Lexeme) (r : IdlRefused) → r ≡ refused Limit tokens → read ≡ Err (refused Limit tokens) → IsRefused read r
limit_refused read tokens r is e = subst (IsRefused read) (sym is) (limit_is read tokens e)

pub many_refused : {Y : Type 0} (read : Result Y IdlRefused) (begins : List ℕ → Bool) (tokens : List Lexeme) (r : IdlRefused) → r ≡ one_too_many begins tokens → read ≡ Err (one_too_many begins tokens) → IsRefused read r
unfolding one_too_many
many_refused read begins tokens r is e = cases (begins_with begins tokens) is e where
  cases : (b : Bool) → r ≡ refused (cond b Limit Token) tokens → read ≡ Err (refused (cond b Limit Token) tokens) → IsRefused read r
  cases true same gives = limit_refused read tokens r same gives
  cases false same gives = token_refused read tokens r same gives

abbrev NoWord : Found → Type 0
NoWord t = (place : ℕ) (word : Bor (List ℕ)) (after : Rest) → t ≡ token.Word place word after → ⊥

-- only a word is a name or a type of one word
pub no_name : (t : Found) (tokens : List Lexeme) → found t ≡ tokens → NoWord t → name_at tokens ≡ Err (refused Token tokens)
unfolding name_at
no_name t tokens e none = subst (λ ts. name_at ts ≡ Err (refused Token ts)) e (cases t none) where
  cases : (s : Found) → NoWord s → name_at (found s) ≡ Err (refused Token (found s))
  cases (token.Word place word after) h = absurd (h place word after refl)
  cases (token.Sign place sign after) h = refl
  cases (token.Stray place) h = refl
  cases (token.Long place) h = refl
  cases (token.End place) h = refl

pub no_type : (t : Found) (tokens : List Lexeme) → found t ≡ tokens → NoWord t → simple_at tokens ≡ Err (refused Token tokens)
unfolding simple_at
no_type t tokens e none = subst (λ ts. simple_at ts ≡ Err (refused Token ts)) e (cases t none) where
  cases : (s : Found) → NoWord s → simple_at (found s) ≡ Err (refused Token (found s))
  cases (token.Word place word after) h = absurd (h place word after refl)
  cases (token.Sign place sign after) h = refl
  cases (token.Stray place) h = refl
  cases (token.Long place) h = refl
  cases (token.End place) h = refl

-- a word that was found is one
pub found_word : (rest : Rest) (place : ℕ) (word : Bor (List ℕ)) (after : Rest) → found (token.Word place word after) ≡ left rest → is_word word.now ≡ true
found_word rest place word after e = let fit = subst (Tokens) (sym e) (tokens_fit Gap rest.place rest.bytes.now) in fit.0
