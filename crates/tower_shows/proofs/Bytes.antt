-- Each legal event keeps the copies, and the ground's pages, those of the trail.
use Rattle.std.proofs.Common.{◌≡◌, ◌≢◌, ℕ, ◌*◌, inl, inr, sym, ◌∙◌, ap, subst, refl, arith, List, [], ◌∷◌, ◌++◌, length, Option, Some, None}
use Rattle.std.specs.Prelude.{IfSome, IsSome}
use Rattle.std.proofs.lemmas.List.{length-set}
use Rattle.std.proofs.lemmas.Bool.{eq-eqb}
use Rattle.std.proofs.lemmas.Bool.Decides.{eqb_tells}
use Rattle.hist_plain.specs.declared.event.Event.{Event}
use Rattle.tower_core.specs.declared.step.Step.{Step}
use Rattle.tower_core.specs.declared.step.Step.TheVariants.{Untouched, Reads, Writes, Grants, PagesOut, Denies, Pushes, Flushes, Deletes}
use Rattle.tower_core.specs.TreeShape.{TreeShape, IsTree, parent}
use Rattle.tower_core.specs.Trail.{state_of, step_of, of_page}
use Rattle.tower_core.specs.Legal.{IsFilled}
use Rattle.tower_core.proofs.Legals.{legal_snoc}
use Rattle.tower_core.proofs.StepLaw.{updated-same, updated-other}
use Rattle.layer_laws.specs.Side.{Side, brought}
use Rattle.layer_laws.specs.Sent.{AreBrought, IsGrounded, IsPushed, pushed_by}
use Rattle.layer_laws.specs.Tables.{AreAllCopies, AreBare, AreBytesMoved}
use Rattle.layer_laws.proofs.TrailLaws.{event_copies, start_copies}
use Rattle.layer_laws.specs.PlacesShown.{page_next, page_shown}
use Rattle.layer_laws.proofs.Newest.{shown-earlier}
use Rattle.page_exchange.specs.Ground.{Tells, base_given, pages_given}
use Rattle.page_exchange.specs.Steps.{AreSentAt, given_up, up_from}
use Rattle.page_exchange.proofs.Telling.{told_given}
use Rattle.tower_shows.specs.Began.{ArePagesOf, AreSame, BeganWith, IsNextIn, IsStepOn, IsTrueTo, ground_shown}
use Rattle.tower_shows.proofs.Likes.{copies_like, made, made_kept}
use Rattle.tower_shows.proofs.Rights.{event_moves, made_rights}

pub bytes_start : (shape : TreeShape) (size pages : ℕ) (opening : List ℕ) (sides : ℕ → ℕ → Side) (told : List (List ℕ)) → IsTree shape → AreBare sides → length opening ≡ pages * size → ArePagesOf size pages opening told → BeganWith shape size pages opening [] sides (Some told)
bytes_start shape size pages opening sides told tree bare sized are = record {
  sized = sized;
  legal = tt;
  copies = start_copies shape (page_shown shape size opening []) sides (ground_shown shape size opening []) bare (λ page. refl);
  is_told = refl;
  many = are.many;
  ground = λ page inside. are.each page (omega (arith, inside, are.many));
}

-- the event's page, and each other
of_page-same : (page : ℕ) (step : Step) → of_page page page step ≡ step
of_page-same page step = rw (eq-eqb page page refl) refl

of_page-other : (p page : ℕ) (step : Step) → p ≢ page → of_page p page step ≡ Untouched
of_page-other p page step d = elim (eqb_tells page p) [ inl e ↦ absurd (d (sym e.1)) | inr n ↦ rw n.0 refl ]

-- what comes up from a node under the ground is the ground's page from then on
pushed_there : (shape : TreeShape) (node : ℕ) (sides : ℕ → Side) (base : List ℕ) → IsPushed shape node (pushed_by (sides node)) base (brought (up_from shape node sides) base)
pushed_there shape node sides base = record {
  to_ground = λ e. rw (eq-eqb (parent shape node) 0 e) refl;
  to_node = λ above. elim (eqb_tells (parent shape node) 0) [ inl e ↦ absurd (omega (arith, above, e.1)) | inr d ↦ rw d.0 refl ];
}

grounded_here : (shape : TreeShape) (step : Step) (sides : ℕ → Side) (base : List ℕ) → IsGrounded shape step sides base (brought (given_up shape step sides) base)
grounded_here shape Untouched sides base = refl
grounded_here shape (Reads node) sides base = refl
grounded_here shape (Writes node) sides base = refl
grounded_here shape (Grants node write) sides base = refl
grounded_here shape (PagesOut node) sides base = pushed_there shape node sides base
grounded_here shape (Denies node) sides base = pushed_there shape node sides base
grounded_here shape (Pushes node) sides base = pushed_there shape node sides base
grounded_here shape (Flushes node) sides base = pushed_there shape node sides base
grounded_here shape (Deletes node) sides base = refl

-- what is told after a step
told_some : (page : ℕ) (up : Option (List ℕ)) (told : Option (List (List ℕ))) → IsSome told → IsSome (pages_given page up told)
told_some page None told some = some
told_some page (Some bytes) None some = absurd cc
told_some page (Some bytes) (Some ps) some = refl

told_many : (page pages : ℕ) (up : Option (List ℕ)) (told : Option (List (List ℕ))) → IfSome told (λ ps. length ps ≡ pages) → IfSome (pages_given page up told) (λ ps. length ps ≡ pages)
told_many page pages None told many = many
told_many page pages (Some bytes) None many = tt
told_many page pages (Some bytes) (Some ps) many = length-set ps page bytes ∙ many

told_same : (told : Option (List (List ℕ))) (base base' : ℕ → List ℕ) → ((page : ℕ) → base page ≡ base' page) → Tells told base → Tells told base'
told_same None base base' same tells = tt
told_same (Some ps) base base' same tells = λ page inside. tells page inside ∙ ap Some (same page)

module _ (shape : TreeShape) (size pages : ℕ) (opening : List ℕ) (trail : List Event) (event : Event) (page : ℕ) (step : Step) (brings : Option (List ℕ)) (old new : ℕ → ℕ → Side) (told : Option (List (List ℕ)))
    (true_to : IsTrueTo shape size pages trail old) (next : IsNextIn shape size pages trail event) (on : IsStepOn shape trail event page step) (sent : AreSentAt shape page brings step old new)
    (began : BeganWith shape size pages opening trail old told)
    (brought_there : AreBrought shape brings step (old page) (ground_shown shape size opening trail page) (page_next shape size opening trail event page)) where
  abbrev later : List Event
  later = trail ++ event ∷ []

  abbrev base_after : ℕ → List ℕ
  base_after = base_given page (given_up shape step (old page)) (ground_shown shape size opening trail)

  -- on each page the event is its step there, or none
  by_page : (P : ℕ → Step → Type 0) → P page step → ((p : ℕ) → p ≢ page → P p Untouched) → (p : ℕ) → P p (step_of (state_of shape trail).life p event)
  by_page P here there p = elim (eqb_tells p page) [
    | inl e ↦ subst (λ (q : ℕ). P q (step_of (state_of shape trail).life q event)) (sym e.1) (subst (P page) (sym (on page ∙ of_page-same page step)) here)
    | inr d ↦ subst (P p) (sym (on p ∙ of_page-other p page step d.1)) (there p d.1)
  ]

  moved_bytes : AreBytesMoved shape trail event brings (page_shown shape size opening trail) (page_shown shape size opening later) old (ground_shown shape size opening trail) base_after
  moved_bytes = record {
    ground = by_page (λ p s. IsGrounded shape s (old p) (ground_shown shape size opening trail p) (base_after p))
        (rw (updated-same (ground_shown shape size opening trail) page (brought (given_up shape step (old page)) (ground_shown shape size opening trail page))) (grounded_here shape step (old page) (ground_shown shape size opening trail page)))
        (λ p d. updated-other (ground_shown shape size opening trail) page (brought (given_up shape step (old page)) (ground_shown shape size opening trail page)) p d);
    bytes = by_page (λ p s. AreBrought shape brings s (old p) (ground_shown shape size opening trail p) (page_next shape size opening trail event p)) brought_there (λ p d. tt);
    earlier = λ p place le. shown-earlier shape size opening trail (event ∷ []) p place le;
  }

  copies_made : AreAllCopies shape later (page_shown shape size opening later) (made shape page brings step old new sent) base_after
  copies_made = event_copies shape pages trail event brings old (made shape page brings step old new sent) true_to.tree true_to.run next.allowed true_to.rights (event_moves shape trail event page step brings old new on sent)
      (page_shown shape size opening trail) (page_shown shape size opening later) (ground_shown shape size opening trail) base_after began.copies moved_bytes

  copies_after : AreAllCopies shape later (page_shown shape size opening later) new base_after
  copies_after p = copies_like shape ((state_of shape later).column p) (page_shown shape size opening later p) (made shape page brings step old new sent p) (new p) (base_after p) (made_kept shape page brings step old new sent p)
      (made_rights shape size pages trail event page step brings old new true_to next on sent p) (copies_made p)

  pub began_after : IsFilled shape size opening trail event → BeganWith shape size pages opening later new (pages_given page (given_up shape step (old page)) told)
  began_after filled = record {
    sized = began.sized;
    legal = legal_snoc shape size pages opening trail event began.legal (record { fits = next.fits; allowed = next.allowed; filled = filled });
    copies = λ p. record { copy = (copies_after p).copy; ground = refl };
    is_told = told_some page (given_up shape step (old page)) told began.is_told;
    many = told_many page pages (given_up shape step (old page)) told began.many;
    ground = told_same (pages_given page (given_up shape step (old page)) told) base_after (ground_shown shape size opening later) (λ p. (copies_after p).ground)
        (told_given told (ground_shown shape size opening trail) page (given_up shape step (old page)) began.ground);
  }

pub bytes_step : (shape : TreeShape) (size pages : ℕ) (opening : List ℕ) (trail : List Event) (event : Event) (page : ℕ) (step : Step) (brings : Option (List ℕ)) (old new : ℕ → ℕ → Side) (told told' : Option (List (List ℕ))) →
    IsTrueTo shape size pages trail old → IsNextIn shape size pages trail event → IsStepOn shape trail event page step → AreSentAt shape page brings step old new →
    BeganWith shape size pages opening trail old told → IsFilled shape size opening trail event →
    ((base : ℕ → List ℕ) → Tells told base → AreBrought shape brings step (old page) (base page) (page_next shape size opening trail event page)) →
    told' ≡ pages_given page (given_up shape step (old page)) told → BeganWith shape size pages opening (trail ++ event ∷ []) new told'
bytes_step shape size pages opening trail event page step brings old new told told' true_to next on sent began filled comes same =
    subst (λ (t : Option (List (List ℕ))). BeganWith shape size pages opening (trail ++ event ∷ []) new t) (sym same)
    (began_after shape size pages opening trail event page step brings old new told true_to next on sent began (comes (ground_shown shape size opening trail) began.ground) filled)

-- tables that differ nowhere
pub bytes_same : (shape : TreeShape) (size pages : ℕ) (opening : List ℕ) (trail : List Event) (old new : ℕ → ℕ → Side) (told : Option (List (List ℕ))) → BeganWith shape size pages opening trail old told → AreSame old new → BeganWith shape size pages opening trail new told
bytes_same shape size pages opening trail old new told began same = record {
  sized = began.sized;
  legal = began.legal;
  copies = λ page. record {
    copy = λ n un some. ap (λ (s : Side). s.copy) (same page n) ∙ (began.copies page).copy n un some;
    ground = (began.copies page).ground;
  };
  is_told = began.is_told;
  many = began.many;
  ground = began.ground;
}
