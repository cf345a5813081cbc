-- The lines of pages that stand one after another.
use Rattle.std.proofs.Common.{◌≡◌, ℕ, zero, suc, ◌+◌, ◌*◌, List, [], ◌∷◌, ◌++◌, length, take, drop, refl, sym, ap, ◌∙◌, arith, append_assoc}
use Rattle.std.proofs.lemmas.List.{append-nil, drop-drop}
use Rattle.page_ground.specs.Pages.{cut}
use Rattle.disk_layer.proofs.PageLaws.{length-cut}
use Rattle.image_commands.specs.Pages.{page_line, page_lines}

-- one more page of the bytes
cut-next : (size n : ℕ) (bytes : List ℕ) → cut size (n + 1) bytes ≡ cut size n bytes ++ take size (drop (n * size) bytes) ∷ []
cut-next size zero bytes = let e : 0 * size ≡ 0 = omega arith in rw e refl
cut-next size (suc n) bytes =
    let up : suc n + 1 ≡ suc (n + 1) = omega arith in
    let times : suc n * size ≡ size + n * size = grow size n in
    let there : drop (n * size) (drop size bytes) ≡ drop (suc n * size) bytes = drop-drop (n * size) size bytes ∙ ap (λ m. drop m bytes) (sym times) in
    rw up (ap (λ (l : List (List ℕ)). take size bytes ∷ l) (cut-next size n (drop size bytes) ∙ ap (λ (p : List ℕ). cut size n (drop size bytes) ++ take size p ∷ []) there))
  where
    grow : (size k : ℕ) → suc k * size ≡ size + k * size
    grow size k = grind arith

-- the lines of one more page
lines-more : (from : ℕ) (pages : List (List ℕ)) (page : List ℕ) → page_lines from (pages ++ page ∷ []) ≡ page_lines from pages ++ page_line (from + length pages) page
lines-more from [] page = let e : from + 0 ≡ from = omega arith in rw e (append-nil (page_line from page))
lines-more from (first ∷ pages) page =
    let e : from + suc (length pages) ≡ suc from + length pages = omega arith in
    rw e (ap (λ (l : List ℕ). page_line from first ++ l) (lines-more (suc from) pages page) ∙ sym (append_assoc (page_line from first) (page_lines (suc from) pages) (page_line (suc from + length pages) page)))

-- the lines up to a page, and of it
pub lines-next : (size n : ℕ) (bytes : List ℕ) → page_lines 0 (cut size (n + 1) bytes) ≡ page_lines 0 (cut size n bytes) ++ page_line n (take size (drop (n * size) bytes))
lines-next size n bytes =
    let page : List ℕ = take size (drop (n * size) bytes) in
    let place : 0 + length (cut size n bytes) ≡ n = let l = length-cut size n bytes in omega (arith, l) in
    ap (page_lines 0) (cut-next size n bytes) ∙ (lines-more 0 (cut size n bytes) page ∙ ap (λ k. page_lines 0 (cut size n bytes) ++ page_line k page) place)
