-- What is told of disks, and texts that are written piece by piece, a piece for each number from 0 on.
use Rattle.std.proofs.Common.{◌≡◌, ℕ, zero, suc, ◌+◌, ◌<◌, ◌≤◌, List, [], ◌∷◌, length, take, get_or, set, Option, None, inl, inr, Result, Ok, Err, refl, sym, ap, subst, ◌∙◌, arith}
use Rattle.std.specs.List.{flat_map, range_with_len}
use Rattle.std.proofs.lemmas.List.FromFn.{length-range_with_len, get_or-range_with_len}
use Rattle.spr_io.specs.Texts.{SinkSeen}
use Rattle.spr_report.specs.Writing.{with_text, Broke}
use Rattle.spr_report.specs.Writing.{Writes}
use Rattle.spr_report.proofs.Writes.{broke-in, took-in, with_text-nothing}
use Rattle.spr_report.specs.declared.status.Status.{Status}
use Rattle.mirror_layer.specs.declared.came.Notice.{Notice}
use Rattle.file_stores.specs.WholeDisk.{Alone}
use Rattle.file_stores.specs.Under.{One}
use Rattle.file_stores.specs.Notices.{AreAtClose, NothingTold}
use Rattle.file_stores.specs.Written.{Offered, Written, WrittenBeside}

-- the first numbers
take-range : (a n k : ℕ) → k ≤ n → take k (range_with_len a n) ≡ range_with_len a k
take-range a n zero le = refl
take-range a zero (suc k) le = absurd (omega (arith, le))
take-range a (suc n) (suc k) le = ap (λ l. a ∷ l) (take-range (a + 1) n k (omega (arith, le)))

module _ (f : ℕ → List ℕ) (n k : ℕ) (before mid now : SinkSeen) (low : k < n) (is : mid ≡ with_text before (flat_map f (range_with_len 0 k))) where
  here : k < length (range_with_len 0 n)
  here = let all = length-range_with_len 0 n in omega (arith, low, all)

  so-far : mid ≡ with_text before (flat_map f (take k (range_with_len 0 n)))
  so-far = is ∙ ap (λ l. with_text before (flat_map f l)) (sym (take-range 0 n k (omega (arith, low))))

  piece : f k ≡ f (get_or (range_with_len 0 n) k 0)
  piece = let same : k ≡ 0 + k = omega arith in ap f (same ∙ sym (get_or-range_with_len 0 n k 0 low))

  -- the sink failed in the piece of a number
  pub broke-at-number : Broke (f k) mid now → Broke (flat_map f (range_with_len 0 n)) before now
  broke-at-number broke = broke-in f (range_with_len 0 n) k 0 before mid now here so-far (subst (λ t. Broke t mid now) piece broke)

  -- it took that piece
  pub took-at-number : now ≡ with_text mid (f k) → now ≡ with_text before (flat_map f (range_with_len 0 (k + 1)))
  took-at-number took =
      took-in f (range_with_len 0 n) k 0 before mid now here so-far (took ∙ ap (with_text mid) piece)
      ∙ ap (λ l. with_text before (flat_map f l)) (take-range 0 n (k + 1) (omega (arith, low)))

-- behind the end of a list nothing is told
all-none : (told : List (Option Notice)) → ((disk : ℕ) → disk < length told → get_or told disk None ≡ None) → NothingTold told
all-none [] h disk = refl
all-none (x ∷ xs) h zero = h zero (omega arith)
all-none (x ∷ xs) h (suc disk) = all-none xs (λ k low. h (suc k) (omega (arith, low))) disk

-- of a disk alone nothing is told
pub alone-silent : {a : Alone} {made told : List (Option Notice)} → AreAtClose (One a) made told → NothingTold told
alone-silent {told = told} c = all-none told (λ disk low. let many = c.many in c.each disk (omega (arith, low, many)))

-- a text was offered to a sink, whatever that answered
pub offered : {A E : Type 0} (before after : SinkSeen) (text : List ℕ) (r : Result A E) → Writes before after text r → Offered text before after
offered before after text (Ok x) w = inl w
offered before after text (Err e) w = inr w

-- no notices
pub nothing-offered : (sink : SinkSeen) → Offered [] sink sink
nothing-offered sink = inl (sym (with_text-nothing sink))

-- a command that tells none
pub written-alone : (Says : List ℕ → List ℕ → Status → Type 0) (before after notices : SinkSeen) (result : Status) → Written (Says []) before after result → WrittenBeside Says before after notices notices result
written-alone Says before after notices result w = record { notices = []; offered = nothing-offered notices; written = w }

-- one more entry of a list is what it is to be
pub done-more : (f : ℕ → Option Notice) (xs : List (Option Notice)) (k : ℕ) (v : Option Notice) → k < length xs → ((n : ℕ) → n < k → get_or xs n None ≡ f n) → v ≡ f k → (n : ℕ) → n < k + 1 → get_or (set xs k v) n None ≡ f n
done-more f [] k v inside so-far is n low = absurd (omega (arith, inside))
done-more f (x ∷ xs) zero v inside so-far is zero low = is
done-more f (x ∷ xs) zero v inside so-far is (suc n) low = absurd (omega (arith, low))
done-more f (x ∷ xs) (suc k) v inside so-far is zero low = so-far 0 (omega arith)
done-more f (x ∷ xs) (suc k) v inside so-far is (suc n) low = done-more (λ m. f (suc m)) xs k v (omega (arith, inside)) (λ m l. so-far (suc m) (omega (arith, l))) is n (omega (arith, low))
