-- After a completed sync the ground's pages are from its place on, and they stay so.
use Rattle.std.specs.Prelude.{IfSome}
use Rattle.std.proofs.Common.{◌≡◌, ◌≢◌, ℕ, ◌+◌, ◌<◌, ◌≤◌, ◌⊎◌, inl, inr, sym, ◌∙◌, ap, subst, refl, arith, List, [], ◌∷◌, ◌++◌, length, length-append, Option, Some, None}
use Rattle.std.proofs.lemmas.Bool.Decides.{eqb_tells}
use Rattle.std.proofs.lemmas.Option.{slice_get_within}
use Rattle.hist_plain.specs.declared.event.Event.{Event}
use Rattle.hist_plain.specs.declared.event.Keep.{Keep}
use Rattle.tower_core.specs.declared.right.Right.{Right}
use Rattle.tower_core.specs.declared.step.Step.{Step}
use Rattle.tower_core.specs.declared.step.Step.TheVariants.{Untouched, Reads, Writes, Grants, PagesOut, Denies, Pushes, Flushes, Deletes}
use Rattle.tower_core.specs.TreeShape.{IsUpper, TreeShape, parent}
use Rattle.tower_core.specs.Column.{Column, IsCoherent, IsStepOf, MayStep, at_after, given, granted_at, updated}
use Rattle.tower_core.specs.Trail.{State, at_of, newest_of, state_of, step_of}
use Rattle.tower_core.specs.Legal.{IsLegal}
use Rattle.tower_core.proofs.Frames.{run_coherent}
use Rattle.tower_core.proofs.Legals.{legal_snoc, state_of-snoc}
use Rattle.tower_core.proofs.StepLaw.{updated-other}
use Rattle.tower_core.proofs.Trails.{on_each_page, trail_len}
use Rattle.layer_laws.specs.Side.{Side}
use Rattle.layer_laws.specs.PlacesShown.{page_shown}
use Rattle.layer_laws.proofs.Newest.{page_at-newest, shown-earlier}
use Rattle.page_exchange.specs.Ground.{Tells}
use Rattle.tower_shows.specs.Began.{BeganWith, IsNextIn, IsTrueTo, ground_shown}
use Rattle.tower_shows.specs.Since.{AreSince, GroundIsSince, IsSince}

-- the ground's place never falls

module _ (shape : TreeShape) (len : ℕ) (col : Column) (n : ℕ) (un : IsUpper shape n) (coh : IsCoherent shape len col) where
  ground_other : 0 ≢ n
  ground_other e = absurd (omega (arith, un.above, e))

  -- a copy is not before its parent's
  not_behind : (r : Right) → col.right n ≡ r → r ≢ Right.Nothing → col.at (parent shape n) ≤ col.at n
  not_behind Right.Nothing e some = absurd (some refl)
  not_behind Right.Read e some = omega (arith, coh.reading n un e)
  not_behind Right.Write e some = coh.writing n un e

  ground_given : col.right n ≢ Right.Nothing → col.at 0 ≤ given shape col n 0
  ground_given some = elim (eqb_tells 0 (parent shape n)) [
    | inl e ↦ rw e.0 (subst (λ (k : ℕ). col.at k ≤ col.at n) (sym e.1) (not_behind (col.right n) refl some))
    | inr d ↦ rw d.0 (omega arith)
  ]

  -- what a step sets at a node of the tree leaves the ground
  ground_left : (at : ℕ → ℕ) (place : ℕ) → col.at 0 ≤ at 0 → col.at 0 ≤ updated at n place 0
  ground_left at place le = subst (λ (k : ℕ). col.at 0 ≤ k) (sym (updated-other at n place 0 ground_other)) le

  written_some : col.right n ≡ Right.Write → col.right n ≢ Right.Nothing
  written_some e x = let no : Right.Write ≡ Right.Nothing = sym e ∙ x in cc

  itself : col.at 0 ≤ col.at 0
  itself = omega arith

ground_rises : (shape : TreeShape) (len : ℕ) (col : Column) (step : Step) → IsStepOf shape step → IsCoherent shape len col → MayStep shape col step → col.at 0 ≤ at_after shape len col step 0
ground_rises shape len col Untouched of coh may = omega arith
ground_rises shape len col (Reads n) of coh may = omega arith
ground_rises shape len col (Writes n) of coh may = ground_left shape len col n of coh col.at (len + 1) (itself shape len col n of coh)
ground_rises shape len col (Grants n write) of coh may = ground_left shape len col n of coh col.at (granted_at shape col n (col.right n)) (itself shape len col n of coh)
ground_rises shape len col (PagesOut n) of coh may = ground_left shape len col n of coh (given shape col n) 0 (ground_given shape len col n of coh may.0)
ground_rises shape len col (Denies n) of coh may = ground_given shape len col n of coh (written_some shape len col n of coh may.0)
ground_rises shape len col (Pushes n) of coh may = ground_given shape len col n of coh (written_some shape len col n of coh may)
ground_rises shape len col (Flushes n) of coh may = ground_left shape len col n of coh (given shape col n) 0 (ground_given shape len col n of coh (written_some shape len col n of coh may.0))
ground_rises shape len col (Deletes n) of coh may = ground_left shape len col n of coh col.at 0 (itself shape len col n of coh)

module _ (shape : TreeShape) (size pages : ℕ) (trail : List Event) (sides : ℕ → ℕ → Side) (true_to : IsTrueTo shape size pages trail sides) where
  coherent : (page : ℕ) → IsCoherent shape (state_of shape trail).len ((state_of shape trail).column page)
  coherent page = (run_coherent shape pages trail true_to.tree true_to.run).columns page

  -- the ground's place is not yet to come
  pub ground_placed : (page : ℕ) → at_of shape trail 0 page ≤ length trail
  ground_placed page = let placed : at_of shape trail 0 page ≤ (state_of shape trail).len = (coherent page).placed 0 true_to.tree.grounded in omega (arith, placed, trail_len shape trail)

  pub ground_at : (event : Event) (page : ℕ) → IsNextIn shape size pages trail event → at_of shape trail 0 page ≤ at_of shape (trail ++ event ∷ []) 0 page
  ground_at event page next =
      let may = on_each_page shape pages (state_of shape trail) event true_to.tree next.allowed.upper next.allowed.line page in
      subst (λ (s : State). at_of shape trail 0 page ≤ (s.column page).at 0) (sym (state_of-snoc shape trail event))
      (ground_rises shape (state_of shape trail).len ((state_of shape trail).column page) (step_of (state_of shape trail).life page event) may.0 (coherent page) may.1)

-- pages that were so are so later
pub since_later : (shape : TreeShape) (size : ℕ) (opening : List ℕ) (trail more : List Event) (from page : ℕ) (bytes : List ℕ) → IsSince shape size opening trail from page bytes → IsSince shape size opening (trail ++ more) from page bytes
since_later shape size opening trail more from page bytes since = record {
  place = since.place;
  not_before = since.not_before;
  not_after = omega (arith, since.not_after, length-append trail more);
  is = since.is ∙ sym (shown-earlier shape size opening trail more page since.place since.not_after);
}

pub told_later : (shape : TreeShape) (size : ℕ) (opening : List ℕ) (trail more : List Event) (from : ℕ) (told : List (List ℕ)) → AreSince shape size opening trail from told → AreSince shape size opening (trail ++ more) from told
told_later shape size opening trail more from told since page bytes there = since_later shape size opening trail more from page bytes (since page bytes there)

early_or_last : (place len : ℕ) → place ≤ len + 1 → (place ≤ len) ⊎ (place ≡ len + 1)
early_or_last place len le = grind arith

pub ground_stays : (shape : TreeShape) (size pages : ℕ) (opening : List ℕ) (trail : List Event) (sides : ℕ → ℕ → Side) (event : Event) (from : ℕ) → IsTrueTo shape size pages trail sides → IsNextIn shape size pages trail event → from ≤ length trail
    → GroundIsSince shape size pages opening trail from → GroundIsSince shape size pages opening (trail ++ event ∷ []) from
ground_stays shape size pages opening trail sides event from true_to next within since page place inside le upto =
    let len : length (trail ++ event ∷ []) ≡ length trail + 1 = length-append trail (event ∷ []) in
    let rises : at_of shape trail 0 page ≤ at_of shape (trail ++ event ∷ []) 0 page = ground_at shape size pages trail sides true_to event page next in
    elim (early_or_last place (length trail) (omega (arith, upto, len))) [
      | inl early ↦ subst (IsSince shape size opening (trail ++ event ∷ []) from page) (sym (shown-earlier shape size opening trail (event ∷ []) page place early))
          (since_later shape size opening trail (event ∷ []) from page (page_shown shape size opening trail page place) (since page place inside (omega (arith, rises, le)) early))
      | inr last ↦ record { place = place; not_before = omega (arith, within, last); not_after = upto; is = refl }
    ]

pub told_stays : (shape : TreeShape) (size pages : ℕ) (opening : List ℕ) (trail : List Event) (sides : ℕ → ℕ → Side) (told : Option (List (List ℕ))) (from : ℕ) → IsTrueTo shape size pages trail sides → BeganWith shape size pages opening trail sides told
    → GroundIsSince shape size pages opening trail from → IfSome told (AreSince shape size opening trail from)
told_stays shape size pages opening trail sides told from true_to began since = of_told told began.many began.ground
  where
    of_told : (t : Option (List (List ℕ))) → IfSome t (λ ps. length ps ≡ pages) → Tells t (ground_shown shape size opening trail) → IfSome t (AreSince shape size opening trail from)
    of_told None many tells = tt
    of_told (Some ps) many tells = λ page bytes there.
        let within : page < length ps = slice_get_within ps page bytes there in
        let both : Some (ground_shown shape size opening trail page) ≡ Some bytes = sym (tells page within) ∙ there in
        let same : ground_shown shape size opening trail page ≡ bytes = cc in
        subst (IsSince shape size opening trail from page) same
        (since page (at_of shape trail 0 page) (omega (arith, within, many)) (omega arith) (ground_placed shape size pages trail sides true_to page))

-- a completed sync is of no page
synced_same : (shape : TreeShape) (trail : List Event) (caller number node from page : ℕ) (keep : Keep) → (state_of shape (trail ++ Event.Synced caller number node from keep ∷ [])).column page ≡ (state_of shape trail).column page
synced_same shape trail caller number node from page keep = ap (λ (s : State). s.column page) (state_of-snoc shape trail (Event.Synced caller number node from keep))

module _ (shape : TreeShape) (size pages : ℕ) (opening : List ℕ) (trail : List Event) (sides : ℕ → ℕ → Side) (told : Option (List (List ℕ))) (caller number node from : ℕ) (keep : Keep)
    (true_to : IsTrueTo shape size pages trail sides) (began : BeganWith shape size pages opening trail sides told) (next : IsNextIn shape size pages trail (Event.Synced caller number node from keep)) where
  abbrev after_sync : List Event
  after_sync = trail ++ Event.Synced caller number node from keep ∷ []

  legal_sync : IsLegal shape size pages opening after_sync
  legal_sync = legal_snoc shape size pages opening trail (Event.Synced caller number node from keep) began.legal (record { fits = next.fits; allowed = next.allowed; filled = tt })

  longer : length after_sync ≡ length trail + 1
  longer = length-append trail (Event.Synced caller number node from keep ∷ [])

  from_before : from ≤ length trail
  from_before = omega (arith, next.allowed.line.0, trail_len shape trail)

  -- from the newest write on each place shows the page as the last does
  shows_last : (page place : ℕ) → newest_of shape after_sync page ≤ place → place ≤ length after_sync → page_shown shape size opening after_sync page place ≡ page_shown shape size opening after_sync page (length after_sync)
  shows_last page place new upto =
      page_at-newest shape size pages opening after_sync page place began.sized legal_sync new upto
      ∙ sym (page_at-newest shape size pages opening after_sync page (length after_sync) began.sized legal_sync (omega (arith, new, upto)) (omega arith))

  pub ground_synced : GroundIsSince shape size pages opening after_sync from
  ground_synced page place inside le upto =
      let same_at : at_of shape after_sync 0 page ≡ at_of shape trail 0 page = ap (λ (col : Column). col.at 0) (synced_same shape trail caller number node from page keep) in
      let same_newest : newest_of shape after_sync page ≡ newest_of shape trail page = ap (λ (col : Column). col.newest) (synced_same shape trail caller number node from page keep) in
      elim (next.allowed.line.1 page inside) [
        | inl since ↦ record { place = place; not_before = omega (arith, since, same_at, le); not_after = upto; is = refl }
        | inr newest ↦ record {
          place = length after_sync;
          not_before = omega (arith, from_before, longer);
          not_after = omega arith;
          is = shows_last page place (omega (arith, newest, same_at, same_newest, le)) upto;
        }
      ]
