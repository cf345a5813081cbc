-- Reading several items, one after the other.
use Rattle.std.proofs.Common.{◌≡◌, ℕ, zero, suc, ◌-◌, ◌≤◌, List, [], ◌∷◌, ◌++◌, length, Bool, cond, ◌≢◌, Option, Some, None, Result, Ok, Err, refl, sym, ap, subst, ◌∙◌, append_assoc, append-nil, length-append, arith}
use Rattle.idl_reader.specs.declared.why.IdlWhy.{IdlWhy}
use Rattle.idl_reader.specs.declared.why.IdlWhy.TheVariants.{Byte, LongName, Token, Limit, Memory}
use Rattle.idl_reader.specs.declared.why.IdlRefused.{IdlRefused}
use Rattle.std.specs.Result.{IsErrAnd}
use Rattle.std.proofs.lemmas.Result.{err_from_is_err_and}
use Rattle.idl_reader.proofs.Refusals.{many_refused}
use Rattle.idl_reader.specs.Tokens.{Lexeme}
use Rattle.idl_reader.specs.Why.{Fails, IsRefused, Gives}
use Rattle.idl_reader.specs.Reading.{◌>>=◌, Reads, if_after, one_too_many, many_at, onto, refused, begins_with}

-- what fails fails for the same reason
fails_too : {X Y : Type 0} (r : Result X IdlRefused) (s : Result Y IdlRefused) (e : IdlRefused) → ((d : IdlRefused) → r ≡ Err d → s ≡ Err d) → (w : IdlWhy) → Fails w e r → Fails w e s
fails_too r s e passes Byte h = passes e h
fails_too r s e passes LongName h = passes e h
fails_too r s e passes Token h = passes e h
fails_too r s e passes Limit h = passes e h
fails_too r s e passes Memory h = h

pub refused_too : {X Y : Type 0} (r : Result X IdlRefused) (s : Result Y IdlRefused) (e : IdlRefused) → ((d : IdlRefused) → r ≡ Err d → s ≡ Err d) → IsRefused r e → IsRefused s e
refused_too r s e passes h = fails_too r s e passes e.why h

pub many-done : {X : Type 0} (next : List Lexeme → Option (List Lexeme)) (begins : List ℕ → Bool) (item : List Lexeme → Reads X) (front : List X) (n : ℕ) (ts : List Lexeme) → next ts ≡ None → onto front (many_at next begins item n ts) ≡ Ok (front, ts)
unfolding many_at
many-done next begins item front zero ts e = ap (λ o. onto front (if_after o (λ rest. Err (one_too_many begins rest)) (Ok ([], ts)))) e ∙ ap (λ xs. Ok (xs, ts)) (append-nil front)
many-done next begins item front (suc n) ts e =
    ap (λ o. onto front (if_after o (λ rest. item rest >>= λ x. many_at next begins item n x.1 >>= λ xs. Ok (x.0 ∷ xs.0, xs.1)) (Ok ([], ts)))) e ∙ ap (λ xs. Ok (xs, ts)) (append-nil front)

pub many-full : {X : Type 0} (next : List Lexeme → Option (List Lexeme)) (begins : List ℕ → Bool) (item : List Lexeme → Reads X) (front : List X) (n : ℕ) (ts rest : List Lexeme) → n ≡ 0 → next ts ≡ Some rest → onto front (many_at next begins item n ts) ≡ Err (one_too_many begins rest)
unfolding many_at
many-full next begins item front zero ts rest z e = ap (λ o. onto front (if_after o (λ r. Err (one_too_many begins r)) (Ok ([], ts)))) e
many-full next begins item front (suc n) ts rest z e = absurd (omega arith)

pub many-fails : {X : Type 0} (next : List Lexeme → Option (List Lexeme)) (begins : List ℕ → Bool) (item : List Lexeme → Reads X) (front : List X) (n : ℕ) (ts rest : List Lexeme) (d : IdlRefused)
    → 1 ≤ n → next ts ≡ Some rest → item rest ≡ Err d → onto front (many_at next begins item n ts) ≡ Err d
unfolding many_at
many-fails next begins item front zero ts rest d some e fails = absurd (omega arith)
many-fails next begins item front (suc n) ts rest d some e fails =
    ap (λ o. onto front (if_after o (λ r. item r >>= λ x. many_at next begins item n x.1 >>= λ xs. Ok (x.0 ∷ xs.0, xs.1)) (Ok ([], ts)))) e
    ∙ ap (λ r. onto front (r >>= λ x. many_at next begins item n x.1 >>= λ xs. Ok (x.0 ∷ xs.0, xs.1))) fails

onto-cons : {X : Type 0} (front : List X) (x : X) (r : Reads (List X)) → onto front (r >>= λ xs. Ok (x ∷ xs.0, xs.1)) ≡ onto (front ++ x ∷ []) r
onto-cons front x (Ok more) = ap (λ xs. Ok (xs, more.1)) (sym (append_assoc front (x ∷ []) more.0))
onto-cons front x (Err e) = refl

pub many-step : {X : Type 0} (next : List Lexeme → Option (List Lexeme)) (begins : List ℕ → Bool) (item : List Lexeme → Reads X) (front : List X) (n : ℕ) (ts rest after : List Lexeme) (x : X)
    → 1 ≤ n → next ts ≡ Some rest → item rest ≡ Ok (x, after) → onto front (many_at next begins item n ts) ≡ onto (front ++ x ∷ []) (many_at next begins item (n - 1) after)
unfolding many_at
many-step next begins item front zero ts rest after x some e is = absurd (omega arith)
many-step next begins item front (suc n) ts rest after x some e is =
    let same : n ≡ suc n - 1 = omega arith in
    ap (λ o. onto front (if_after o (λ r. item r >>= λ y. many_at next begins item n y.1 >>= λ xs. Ok (y.0 ∷ xs.0, xs.1)) (Ok ([], ts)))) e
    ∙ ap (λ r. onto front (r >>= λ y. many_at next begins item n y.1 >>= λ xs. Ok (y.0 ∷ xs.0, xs.1))) is
    ∙ onto-cons front x (many_at next begins item n after)
    ∙ ap (λ m. onto (front ++ x ∷ []) (many_at next begins item m after)) same

-- what a loop keeps: the items so far, of at most so many, go on as the whole does
pub record GoesOn {X : Type 0} (most : ℕ) (front : List X) (now whole : Reads (List X)) : Type 0 where
  pub read : now ≡ whole
  pub few : length front ≤ most

-- a refusal of the next item is one of the whole
pub gives_refused : {R X Y : Type 0} (view : R → Y) (whole : Result Y IdlRefused) (item : Result X IdlRefused) (e : IdlRefused) (r : Result R IdlRefused) → ((d : IdlRefused) → item ≡ Err d → whole ≡ Err d) → IsRefused item e
    → IsErrAnd r (λ y. y ≡ e) → Gives view r whole
gives_refused view whole item e r passes fails errs =
    let p = err_from_is_err_and r errs in
    subst (λ q. Gives view q whole) (sym p.1) (subst (IsRefused whole) (sym p.2) (refused_too item whole e passes fails))

pub loop-done : {X : Type 0} (next : List Lexeme → Option (List Lexeme)) (begins : List ℕ → Bool) (item : List Lexeme → Reads X) (most : ℕ) (front : List X) (ts : List Lexeme) (whole : Reads (List X))
    → GoesOn most front (onto front (many_at next begins item (most - length front) ts)) whole → next ts ≡ None → whole ≡ Ok (front, ts)
loop-done next begins item most front ts whole goes none = sym goes.read ∙ many-done next begins item front (most - length front) ts none

pub loop-full : {X : Type 0} (next : List Lexeme → Option (List Lexeme)) (begins : List ℕ → Bool) (item : List Lexeme → Reads X) (most : ℕ) (front : List X) (ts rest : List Lexeme) (whole : Reads (List X)) (len : ℕ) (b : Bool) (r : IdlRefused)
    → GoesOn most front (onto front (many_at next begins item (most - length front) ts)) whole → len ≡ length front → len ≡ most → next ts ≡ Some rest → b ≡ begins_with begins rest → r ≡ refused (cond b Limit Token) rest → IsRefused whole r
unfolding one_too_many
loop-full next begins item most front ts rest whole len b r goes count full some could is =
    let none : most - length front ≡ 0 = omega arith in
    many_refused whole begins rest r (is ∙ ap (λ t. refused (cond t Limit Token) rest) could) (sym goes.read ∙ many-full next begins item front (most - length front) ts rest none some)

pub loop-fails : {X : Type 0} (next : List Lexeme → Option (List Lexeme)) (begins : List ℕ → Bool) (item : List Lexeme → Reads X) (most : ℕ) (front : List X) (ts rest : List Lexeme) (whole : Reads (List X)) (len : ℕ)
    → GoesOn most front (onto front (many_at next begins item (most - length front) ts)) whole → len ≡ length front → len ≢ most → next ts ≡ Some rest → (d : IdlRefused) → item rest ≡ Err d → whole ≡ Err d
loop-fails next begins item most front ts rest whole len goes count room some d fails =
    let few = goes.few in
    let one : 1 ≤ most - length front = omega arith in
    sym goes.read ∙ many-fails next begins item front (most - length front) ts rest d one some fails

pub loop-step : {X : Type 0} (next : List Lexeme → Option (List Lexeme)) (begins : List ℕ → Bool) (item : List Lexeme → Reads X) (most : ℕ) (front longer : List X) (ts rest after : List Lexeme) (x : X) (whole : Reads (List X)) (len : ℕ)
    → GoesOn most front (onto front (many_at next begins item (most - length front) ts)) whole → len ≡ length front → len ≢ most → next ts ≡ Some rest → item rest ≡ Ok (x, after) → longer ≡ front ++ x ∷ []
    → GoesOn most longer (onto longer (many_at next begins item (most - length longer) after)) whole
loop-step next begins item most front longer ts rest after x whole len goes counted room some is pushed =
    let few = goes.few in
    let one : 1 ≤ most - length front = omega arith in
    let count = length-append front (x ∷ []) in
    let left : most - length front - 1 ≡ most - length (front ++ x ∷ []) = omega (arith, count) in
    subst (λ ls. GoesOn most ls (onto ls (many_at next begins item (most - length ls) after)) whole) (sym pushed)
    (record {
      read = ap (λ n. onto (front ++ x ∷ []) (many_at next begins item n after)) (sym left) ∙ sym (many-step next begins item front (most - length front) ts rest after x one some is) ∙ goes.read;
      few = omega (arith, count);
    })
