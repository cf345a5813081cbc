-- The pages that a log keeps, in one file: each other page is zeros.
use Rattle.std.proofs.Common.{◌≡◌, ℕ, zero, suc, ◌+◌, ◌*◌, ◌<◌, ◌≤◌, ◌⊎◌, inl, inr, List, [], ◌∷◌, ◌++◌, length, take, drop, replicate, Option, Some, None, refl, sym, ap, subst, ◌∙◌, arith, length-append, length-drop}
use Rattle.std.proofs.lemmas.List.{drop-append-le, length-replicate, take-append-le, take_all}
use Rattle.hist_plain.specs.History.{page_in}
use Rattle.layer_laws.proofs.Ranges.{below}
use Rattle.tower_log.specs.declared.logged.Logged.{Logged}
use Rattle.tower_log.specs.Log.{kept_in}
use Rattle.stack_engine.specs.Answers.{KeepsPagesOf, KeepsWholePages}

-- a file of these pages
abbrev file_of : (ℕ → List ℕ) → ℕ → List ℕ
file_of page zero = []
file_of page (suc pages) = file_of page pages ++ page pages

file_long : (size : ℕ) (page : ℕ → List ℕ) (pages : ℕ) → ((k : ℕ) → length (page k) ≡ size) → length (file_of page pages) ≡ pages * size
file_long size page zero whole = omega arith
file_long size page (suc pages) whole = omega (arith, length-append (file_of page pages) (page pages), file_long size page pages whole, whole pages)

drop-all : (xs ys : List ℕ) → drop (length xs) (xs ++ ys) ≡ ys
drop-all [] ys = refl
drop-all (x ∷ xs) ys = drop-all xs ys

file_page : (size : ℕ) (page : ℕ → List ℕ) (pages k : ℕ) → ((k : ℕ) → length (page k) ≡ size) → k < pages → page_in size (file_of page pages) k ≡ page k
file_page size page zero k whole inside = absurd (omega arith)
file_page size page (suc pages) k whole inside = by (last_or k pages (omega arith)) (λ lt. file_page size page pages k whole lt)
  where
    last_or : (a b : ℕ) → a ≤ b → (a < b) ⊎ (a ≡ b)
    last_or a b le = grind arith

    long : length (file_of page pages) ≡ pages * size
    long = file_long size page pages whole

    by : (k < pages) ⊎ (k ≡ pages) → (k < pages → page_in size (file_of page pages) k ≡ page k) → page_in size (file_of page (suc pages)) k ≡ page k
    by (inl lt) below_here =
        let fits : k * size + size ≤ pages * size = below size k pages lt in
        let left : size ≤ length (drop (k * size + 0) (file_of page pages)) = omega (arith, length-drop (k * size + 0) (file_of page pages), long, fits) in
        ap (take size) (drop-append-le (k * size + 0) (file_of page pages) (page pages) (omega (arith, long, fits)))
        ∙ take-append-le size (drop (k * size + 0) (file_of page pages)) (page pages) left
        ∙ below_here lt
    by (inr is) below_here =
        let at : k * size + 0 ≡ length (file_of page pages) = (let same : k * size ≡ pages * size = ap (λ (n : ℕ). n * size) is in omega (arith, same, long)) in
        let own : length (page pages) ≡ size = whole pages in
        ap (λ (n : ℕ). take size (drop n (file_of page pages ++ page pages))) at
        ∙ ap (take size) (drop-all (file_of page pages) (page pages))
        ∙ take_all size (page pages) (omega (arith, own))
        ∙ ap page (sym is)

-- what is kept, or zeros
abbrev or_zeros : ℕ → Option (List ℕ) → List ℕ
or_zeros size (Some bytes) = bytes
or_zeros size None = replicate size 0

pub kept_file : (size pages : ℕ) (log : List Logged) → KeepsWholePages size pages log → (opening : List ℕ) × (length opening ≡ pages * size) × KeepsPagesOf size opening log
kept_file size pages log whole = (
  file_of page pages,
  file_long size page pages each,
  λ p bytes is. sym (file_page size page pages p each (whole p bytes is).0 ∙ ap (or_zeros size) is),
)
  where
    page : ℕ → List ℕ
    page k = or_zeros size (kept_in k log)

    each : (k : ℕ) → length (page k) ≡ size
    each k = by (kept_in k log) refl
      where
        by : (o : Option (List ℕ)) → kept_in k log ≡ o → length (or_zeros size (kept_in k log)) ≡ size
        by (Some bytes) is = ap (λ (o : Option (List ℕ)). length (or_zeros size o)) is ∙ (whole k bytes is).1
        by None is = ap (λ (o : Option (List ℕ)). length (or_zeros size o)) is ∙ length-replicate size 0
