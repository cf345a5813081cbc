-- What a ground tells of its pages, through a read and a write.
use Rattle.std.specs.Prelude.{slice_get, IfSome, IsSome}
use Rattle.std.proofs.Common.{◌≡◌, ℕ, ◌<◌, inl, inr, sym, ◌∙◌, ap, subst, refl, List, length, Option, Some, None}
use Rattle.std.proofs.Math.ListN.{set}
use Rattle.std.proofs.lemmas.List.{length-set}
use Rattle.std.proofs.lemmas.Bool.Decides.{eqb_tells}
use Rattle.page_ground.specs.Seen.{ReadsPage}
use Rattle.tower_core.proofs.Steps.{slice_get-set_same, slice_get-set_other}
use Rattle.page_exchange.specs.Ground.{Tells, base_given, pages_given}

-- what is read is the page that is told
pub told_read : (pages : Option (List (List ℕ))) (base : ℕ → List ℕ) (page : ℕ) (bytes : List ℕ) → Tells pages base → IsSome pages → IfSome pages (λ ps. page < length ps) → ReadsPage pages page bytes → bytes ≡ base page
told_read None base page bytes tells some inside read = absurd cc
told_read (Some ps) base page bytes tells some inside read = let both : Some bytes ≡ Some (base page) = sym read ∙ tells page inside in cc

written_there : (ps : List (List ℕ)) (base : ℕ → List ℕ) (page p : ℕ) (bytes : List ℕ) → ((p : ℕ) → p < length ps → slice_get ps p ≡ Some (base p)) → p < length (set ps page bytes) → slice_get (set ps page bytes) p ≡ Some (base_given page (Some bytes) base p)
written_there ps base page p bytes tells inside =
    let there : p < length ps = subst (λ (n : ℕ). p < n) (length-set ps page bytes) inside in
    elim (eqb_tells p page) [
      | inl same ↦ rw same.0 (subst (λ (q : ℕ). slice_get (set ps page bytes) q ≡ Some bytes) (sym same.1) (slice_get-set_same ps page bytes (subst (λ (q : ℕ). q < length ps) same.1 there)))
      | inr other ↦ rw other.0 (slice_get-set_other ps page p bytes other.1 ∙ tells p there)
    ]

-- nothing came up
kept_there : (base : ℕ → List ℕ) (page p : ℕ) → base_given page None base p ≡ base p
kept_there base page p = elim (eqb_tells p page) [ inl same ↦ rw same.0 (ap base (sym same.1)) | inr other ↦ rw other.0 refl ]

-- the pages that are told after bytes came up
pub told_given : (pages : Option (List (List ℕ))) (base : ℕ → List ℕ) (page : ℕ) (up : Option (List ℕ)) → Tells pages base → Tells (pages_given page up pages) (base_given page up base)
told_given None base page None tells = tt
told_given None base page (Some bytes) tells = tt
told_given (Some ps) base page None tells = λ p lt. tells p lt ∙ ap Some (sym (kept_there base page p))
told_given (Some ps) base page (Some bytes) tells = λ p lt. written_there ps base page p bytes tells lt
