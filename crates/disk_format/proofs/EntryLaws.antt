-- The entries of a map, one by one.
use Rattle.std.proofs.Common.{◌≡◌, ℕ, zero, suc, ◌+◌, ◌*◌, ◌<◌, List, [], ◌∷◌, ◌++◌, length, drop, get_or, refl, ap, ◌∙◌, arith}
use Rattle.std.proofs.lemmas.List.{drop-drop}
use Rattle.byteorder.specs.Endian.{big_number}
use Rattle.disk_format.specs.VersionOne.{number_at, entry_of, entries_in}

-- a number further on
pub number_at-drop : (place m : ℕ) (bytes : List ℕ) → number_at place (drop m bytes) ≡ number_at (m + place) bytes
unfolding number_at
number_at-drop place m bytes = ap (λ l. big_number 4 l) (drop-drop place m bytes)

entry_of-drop : (n : ℕ) (map : List ℕ) → entry_of (drop 4 map) n ≡ entry_of map (suc n)
entry_of-drop n map = let e : 4 + 4 * n ≡ 4 * suc n = omega arith in number_at-drop (4 * n) 4 map ∙ ap (λ k. number_at k map) e

pub entries_in-more : (n : ℕ) (map : List ℕ) → entries_in (n + 1) map ≡ entries_in n map ++ entry_of map n ∷ []
entries_in-more zero map = refl
entries_in-more (suc n) map =
    let e : suc n + 1 ≡ suc (n + 1) = omega arith in
    rw e (ap (λ l. number_at 0 map ∷ l) (entries_in-more n (drop 4 map) ∙ ap (λ x. entries_in n (drop 4 map) ++ x ∷ []) (entry_of-drop n map)))

pub length-entries_in : (n : ℕ) (map : List ℕ) → length (entries_in n map) ≡ n
length-entries_in zero map = refl
length-entries_in (suc n) map = ap suc (length-entries_in n (drop 4 map))

pub get_or-entries_in : (n : ℕ) (map : List ℕ) (k d : ℕ) → k < n → get_or (entries_in n map) k d ≡ entry_of map k
get_or-entries_in zero map k d lt = absurd (omega arith)
get_or-entries_in (suc n) map zero d lt = refl
get_or-entries_in (suc n) map (suc k) d lt = get_or-entries_in n (drop 4 map) k d (omega arith) ∙ entry_of-drop k map

pub ruleset entries_more = (entries_in-more)
