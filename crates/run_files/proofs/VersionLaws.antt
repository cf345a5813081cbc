-- Pages of a file from a place of its log on are versions of its history from there.
use Rattle.std.proofs.Common.{◌≡◌, ℕ, zero, suc, min, ◌+◌, ◌-◌, ◌<◌, List, [], ◌∷◌, length, Option, Some, refl, ap, ◌∙◌, arith}
use Rattle.std.specs.Prelude.{get_or, slice_get}
use Rattle.mirror_rules.specs.Claims.{nth_here, nth_later}
use Rattle.mirror_rules.specs.Guards.{Within, Among, among}
use Rattle.layer_laws.specs.PlacesShown.{page_shown}
use Rattle.tower_shows.specs.Since.{IsSince}
use Rattle.tower_log.specs.declared.logged.Logged.{Logged}
use Rattle.tower_log.specs.Log.{trail_of}
use Rattle.run_files.specs.Begun.{Begun, Holds, versions}

found-or : (F : List (List ℕ)) (p : ℕ) → p < length F → slice_get F p ≡ Some (get_or F p [])
found-or [] p lt = absurd (omega arith)
found-or (x ∷ F) zero lt = refl
found-or (x ∷ F) (suc p) lt = found-or F p (omega arith)

pub within-of : (b : Begun) (log : List Logged) (from : ℕ) (ps : List (List ℕ)) → Holds b log from ps → Within (Among (versions b log from ∷ [])) ps
within-of b log from ps since page lt = by (since page (get_or ps page []) (found-or ps page lt))
  where
    by : {bytes : List ℕ} → IsSince b.tree b.page_size b.opening.bytes (trail_of log) from page bytes → Among (versions b log from ∷ []) page bytes
    by s =
        let low = s.not_before in
        let high = s.not_after in
        let place : s.place ≡ min (from + (s.place - from)) (length (trail_of log)) = omega (arith, low, high) in
        among nth_here (s.place - from) (s.is ∙ ap (λ k. page_shown b.tree b.page_size b.opening.bytes (trail_of log) page k) place)

pub first-within : (V : ℕ → ℕ → List ℕ) (Vs : List (ℕ → ℕ → List ℕ)) (ps : List (List ℕ)) → Within (Among (V ∷ [])) ps → Within (Among (V ∷ Vs)) ps
first-within V Vs ps are page lt = by (are page lt)
  where
    by : {bytes : List ℕ} → Among (V ∷ []) page bytes → Among (V ∷ Vs) page bytes
    by (among nth_here k is) = among nth_here k is
    by (among (nth_later h) k is) = elim h [ ]

-- from a place on, so from the beginning on
pub lower : (b : Begun) (log : List Logged) (from : ℕ) (ps : List (List ℕ)) → Holds b log from ps → Holds b log 0 ps
lower b log from ps since page bytes at = let s = since page bytes at in record { place = s.place; not_before = omega arith; not_after = s.not_after; is = s.is }
