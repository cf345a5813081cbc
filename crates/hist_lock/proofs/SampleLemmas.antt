-- The calls of one caller, in what a seat knows.
use Rattle.std.proofs.Common.{◌≡◌, ℕ, ◌+◌, ◌<◌, ◌≤◌, ◌==◌, true, false, List, [], ◌∷◌, ◌++◌, Some, Result, Ok, Err, OnOk, OnErr, refl, sym, ap, subst, ◌∙◌, ⊎_elim, append_assoc, add-one, suc, arith}
use Rattle.std.proofs.lemmas.List.{append-nil}
use Rattle.std.proofs.lemmas.List.Elements.{filter-append}
use Rattle.std.proofs.lemmas.Bool.Decides.{nat_tests}
use Rattle.hist_lock.specs.Known.{Known, is_own}
use Rattle.hist_lock.specs.Ranges.{Quiet, Follows, in_range}
use Rattle.hist_lock.proofs.Lists.{lt_or_le}
use Rattle.hist_lock.specs.Sample.{Call, call, by, mine, numbered, Made, MadeFew, EachMade, IsSame}

another : (first end caller n : ℕ) → first ≤ caller → caller < end → in_range first end (Some n) ≡ false → (n == caller) ≡ false
another first end caller n lo hi e = grind (arith, nat_tests)

quiet_mine : (first end caller : ℕ) → first ≤ caller → caller < end → (rest : List Call) → Quiet (λ e. in_range first end (by e)) rest → mine caller rest ≡ []
quiet_mine first end caller lo hi [] q = refl
quiet_mine first end caller lo hi (e ∷ es) q = rw (another first end caller e.0 lo hi q.0) (quiet_mine first end caller lo hi es q.1)

-- what follows what a seat knew has no more calls of its callers
pub mine_follows : (first end : ℕ) (xs ys : List Call) (caller : ℕ) → Follows (λ e. in_range first end (by e)) xs ys → first ≤ caller → caller < end → mine caller ys ≡ mine caller xs
mine_follows first end xs ys caller f lo hi =
    ap (mine caller) f.whole ∙ (filter-append (λ (c : Call). c.0 == caller) xs f.rest ∙ (ap (λ l. mine caller xs ++ l) (quiet_mine first end caller lo hi f.rest f.quiet) ∙ append-nil (mine caller xs)))

same : (caller : ℕ) → (caller == caller) ≡ true
same caller = grind (arith, nat_tests)

-- a call that is entered is one more of its caller
pub mine_entered : (xs : List Call) (caller number : ℕ) → mine caller (xs ++ call caller number ∷ []) ≡ mine caller xs ++ call caller number ∷ []
mine_entered xs caller number =
    let one : mine caller (call caller number ∷ []) ≡ call caller number ∷ [] = rw (same caller) refl in
    filter-append (λ (c : Call). c.0 == caller) xs (call caller number ∷ []) ∙ ap (λ l. mine caller xs ++ l) one

-- what was made, and then more
pub made_then : (caller : ℕ) (a b xs ys zs : List Call) → Made caller a xs ys → Made caller b ys zs → Made caller (a ++ b) xs zs
made_then caller a b xs ys zs f g = g ∙ (ap (λ l. l ++ b) f ∙ append_assoc (mine caller xs) a b)

pub made_none : (caller : ℕ) (xs : List Call) → Made caller [] xs xs
made_none caller xs = sym (append-nil (mine caller xs))

pub on_ok : {A B : Type 0} (r : Result A B) (P Q : Type 0) → (P → Q) → OnOk r P → OnOk r Q
on_ok (Ok x) P Q f p = f p
on_ok (Err x) P Q f p = tt

-- a hold that gives one call more than it took
pub entered : (s : Known Call ℕ) (caller number : ℕ) (xs ys new : List Call) → s.first ≤ caller → caller < s.end → Follows (is_own by s) s.seen xs → new ≡ ys → ys ≡ xs ++ call caller number ∷ []
    → Made caller (call caller number ∷ []) s.seen new
entered s caller number xs ys new lo hi f is e =
    ap (mine caller) (is ∙ e) ∙ (mine_entered xs caller number ∙ ap (λ l. l ++ call caller number ∷ []) (mine_follows s.first s.end s.seen xs caller f lo hi))

pub on_err : {A B : Type 0} (r : Result A B) (P Q : Type 0) → (P → Q) → OnErr r P → OnErr r Q
on_err (Ok x) P Q f p = tt
on_err (Err x) P Q f p = f p

pub on_err_of : {A B : Type 0} (r : Result A B) (P : Type 0) → P → OnErr r P
on_err_of (Ok x) P p = tt
on_err_of (Err x) P p = p

-- a hold that gives what it took
pub none_entered : (s : Known Call ℕ) (xs ys new : List Call) → Follows (is_own by s) s.seen xs → new ≡ ys → ys ≡ xs → EachMade s.first s.end 0 s.seen new
none_entered s xs ys new f is e = record {
  each = λ caller lo hi. ap (mine caller) (is ∙ e) ∙ (mine_follows s.first s.end s.seen xs caller f lo hi ∙ sym (append-nil (mine caller s.seen)));
}

-- some calls were made, and then none
pub made_few : (caller n count first end : ℕ) (xs ys zs : List Call) → n < count → first ≤ caller → caller < end → Made caller (numbered caller n) xs ys → EachMade first end 0 ys zs → MadeFew caller count xs zs
made_few caller n count first end xs ys zs lt lo hi f g = record {
  few = n;
  fewer = lt;
  calls = made_then caller (numbered caller n) [] xs ys zs f (g.each caller lo hi) ∙ ap (λ l. mine caller xs ++ l) (append-nil (numbered caller n));
}

pub same_then : (s t u : Known Call ℕ) → IsSame s t → IsSame t u → IsSame s u
same_then s t u a b = record { lock = b.lock ∙ a.lock; first = b.first ∙ a.first; end = b.end ∙ a.end; free = b.free; part = b.part ∙ a.part }

pub made_next : (caller n : ℕ) (xs ys zs : List Call) → Made caller (numbered caller n) xs ys → Made caller (call caller n ∷ []) ys zs → Made caller (numbered caller (n + 1)) xs zs
made_next caller n xs ys zs f g =
    let next : numbered caller (n + 1) ≡ numbered caller (suc n) = ap (numbered caller) (add-one n) in
    made_then caller (numbered caller n) (call caller n ∷ []) xs ys zs f g ∙ ap (λ l. mine caller xs ++ l) (sym next)

pub ok_of : {A B : Type 0} (r : Result A B) (x : A) (P : Type 0) → r ≡ Ok x → OnOk r P → P
ok_of {A = A} {B = B} r x P e h = let Q : Result A B → Type 0 = λ q. OnOk q P in subst Q e h

-- a range of one caller
pub one_made : (first end count : ℕ) (xs ys : List Call) → end ≡ first + 1 → Made first (numbered first count) xs ys → EachMade first end count xs ys
one_made first end count xs ys e made = record {
  each = λ caller lo hi. let is : first ≡ caller = omega arith in subst (λ (k : ℕ). Made k (numbered k count) xs ys) is made;
}

-- what the callers of two seats made is in what the met seat knows
pub halves_made : (a b c d : ℕ) (us vs : List Call) (first at end count : ℕ) (xs ys zs m : List Call) → Follows (λ e. in_range a b (by e)) us m → Follows (λ e. in_range c d (by e)) vs m
    → EachMade first at count xs us → EachMade at end count ys vs → xs ≡ zs → ys ≡ zs → a ≡ first → b ≡ at → c ≡ at → d ≡ end
    → EachMade first end count zs m
halves_made a b c d us vs first at end count xs ys zs m f g low high ex ey sf se tf te = record {
  each = λ caller lo hi. ⊎_elim
      (λ lt. mine_follows a b us m caller f (omega arith) (omega arith) ∙ (low.each caller lo lt ∙ ap (λ l. mine caller l ++ numbered caller count) ex))
      (λ le. mine_follows c d vs m caller g (omega arith) (omega arith) ∙ (high.each caller le hi ∙ ap (λ l. mine caller l ++ numbered caller count) ey))
      (lt_or_le caller at);
}

-- the same, where the first half was made
pub both_made : {A B : Type 0} (a b c d : ℕ) (us vs : List Call) (r q : Result A B) (x : A) (first at end count : ℕ) (xs ys zs m : List Call) → Follows (λ e. in_range a b (by e)) us m → Follows (λ e. in_range c d (by e)) vs m
    → OnOk r (EachMade first at count xs us) → OnOk q (EachMade at end count ys vs) → r ≡ Ok x → xs ≡ zs → ys ≡ zs → a ≡ first → b ≡ at → c ≡ at → d ≡ end
    → OnOk q (EachMade first end count zs m)
both_made a b c d us vs r q x first at end count xs ys zs m f g low high is ex ey sf se tf te =
    on_ok q _ _ (λ h. halves_made a b c d us vs first at end count xs ys zs m f g (ok_of r x _ is low) h ex ey sf se tf te) high
