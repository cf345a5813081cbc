-- A file that a trail shows, as of a ground that told its pages: what is proved of such a ground holds of every other, if each page that was read
-- from it is the file's there.
use Rattle.std.specs.Prelude.{slice_get}
use Rattle.std.proofs.Common.{◌≡◌, ◌≢◌, ℕ, zero, suc, ◌<◌, ◌⊎◌, inl, inr, sym, ◌∙◌, ap, subst, refl, arith, Bool, true, false, List, [], ◌∷◌, ◌++◌, length, Option, Some, None}
use Rattle.std.proofs.lemmas.Bool.{eq-eqb}
use Rattle.std.proofs.lemmas.Bool.Decides.{eqb_tells}
use Rattle.hist_plain.specs.declared.event.Event.{Event}
use Rattle.tower_core.specs.declared.right.Right.{Right}
use Rattle.tower_core.specs.declared.step.Step.{Step}
use Rattle.tower_core.specs.declared.step.Step.TheVariants.{Untouched, Reads, Writes, Grants, PagesOut, Denies, Pushes, Flushes, Deletes}
use Rattle.tower_core.specs.TreeShape.{TreeShape, parent}
use Rattle.tower_core.specs.Trail.{of_page, right_of}
use Rattle.layer_laws.specs.Side.{Side, own_after}
use Rattle.layer_laws.specs.Sent.{AreBrought, AreExchanged, AreSent, down_for, granted, page_above}
use Rattle.page_exchange.specs.Ground.{Tells}
use Rattle.page_exchange.specs.Steps.{AreSentAt, IsSent, ReadsGround}
use Rattle.tower_shows.specs.Began.{BeganWith, IsStepOn, ground_shown}
use Rattle.tower_shows.specs.Reads.{IsRead, Shows}

-- THE PAGES that a ground would tell

abbrev pub pages_by : (ℕ → List ℕ) → ℕ → List (List ℕ)
pages_by page zero = []
pages_by page (suc many) = page 0 ∷ pages_by (λ k. page (suc k)) many

pub pages_many : (page : ℕ → List ℕ) (many : ℕ) → length (pages_by page many) ≡ many
pages_many page zero = refl
pages_many page (suc many) = ap suc (pages_many (λ k. page (suc k)) many)

pub pages_each : (page : ℕ → List ℕ) (many k : ℕ) → k < many → slice_get (pages_by page many) k ≡ Some (page k)
pages_each page zero k inside = absurd (omega arith)
pages_each page (suc many) zero inside = refl
pages_each page (suc many) (suc k) inside = pages_each (λ j. page (suc j)) many k (omega arith)

abbrev pub told_shown : TreeShape → ℕ → ℕ → List ℕ → List Event → Option (List (List ℕ))
told_shown shape size pages opening trail = Some (pages_by (ground_shown shape size opening trail) pages)

-- a file that is shown is the one that a ground which told it began with
pub shown_began : (shape : TreeShape) (size pages : ℕ) (opening : List ℕ) (trail : List Event) (sides : ℕ → ℕ → Side) → Shows shape size pages opening trail sides
    → BeganWith shape size pages opening trail sides (told_shown shape size pages opening trail)
shown_began shape size pages opening trail sides shows = record {
  sized = shows.sized;
  legal = shows.legal;
  copies = shows.copies;
  is_told = refl;
  many = pages_many (ground_shown shape size opening trail) pages;
  ground = λ page inside. pages_each (ground_shown shape size opening trail) pages page (subst (λ (n : ℕ). page < n) (pages_many (ground_shown shape size opening trail) pages) inside);
}

pub began_shown : (shape : TreeShape) (size pages : ℕ) (opening : List ℕ) (trail : List Event) (sides : ℕ → ℕ → Side) (told : Option (List (List ℕ))) → BeganWith shape size pages opening trail sides told
    → Shows shape size pages opening trail sides
began_shown shape size pages opening trail sides told began = record { sized = began.sized; legal = began.legal; copies = began.copies }

-- A MESSAGE over such a ground

granted_some : (write : Bool) → granted write ≢ Right.Nothing
granted_some true = λ e. cc
granted_some false = λ e. cc

nothing_or : (right : Right) → (right ≡ Right.Nothing) ⊎ (right ≢ Right.Nothing)
nothing_or Right.Nothing = inl refl
nothing_or Right.Read = inr (λ e. cc)
nothing_or Right.Write = inr (λ e. cc)

reads_or : (shape : TreeShape) (right : ℕ → Right) (node : ℕ) (write : Bool) → ReadsGround shape right (Grants node write) ⊎ (ReadsGround shape right (Grants node write) → ⊥)
reads_or shape right node write = elim (eqb_tells (parent shape node) 0) [
  | inl e ↦ elim (nothing_or (right node)) [ inl none ↦ inl (e.1, none) | inr some ↦ inr (λ read. some read.1) ]
  | inr d ↦ inr (λ read. d.1 read.0)
]

some_is : (a b : List ℕ) → Some a ≡ Some b → a ≡ b
some_is a b e = cc

abbrev granted_side : Right → (ℕ → Right) → List ℕ → Side
granted_side right kids copy = record { right = right; copy = copy; changed = false; kids = kids }

-- the copy is what was brought
own_copy : (right : Right) (down : Option (List ℕ)) (old to : Side) → to ≡ own_after right down old → to ≡ own_after right (Some to.copy) old
own_copy right down old to is = is ∙ ap (granted_side right old.kids) (sym (ap (λ (s : Side). s.copy) is))

module _ (shape : TreeShape) (told : Option (List (List ℕ))) (page pages node : ℕ) (write : Bool) (old new : ℕ → ℕ → Side) (shown : ℕ → List ℕ) (inside : page < pages) (sent : IsSent shape told page (Grants node write) old new) where
  copy_is : (sent.sent.to node).copy ≡ (new page node).copy
  copy_is = sym (ap (λ (s : Side). s.copy) ((sent.sent.kept node).whole (λ none. granted_some write (sym (ap (λ (s : Side). s.right) sent.sent.here.own) ∙ none))))

  read_sent : ReadsGround shape (λ n. (old page n).right) (Grants node write) → (new page node).copy ≡ shown page → IsSent shape (Some (pages_by shown pages)) page (Grants node write) old new
  read_sent read found = record {
    brings = Some (sent.sent.to node).copy;
    sent = record {
      to = sent.sent.to;
      here = record { own = own_copy (granted write) sent.brings (old page node) (sent.sent.to node) sent.sent.here.own; above = sent.sent.here.above; others = sent.sent.here.others };
      kept = sent.sent.kept;
      others = sent.sent.others;
    };
    brought = λ base next tells.
        let is : shown page ≡ base page = some_is (shown page) (base page) (sym (pages_each shown pages page inside) ∙ (tells read).1 page (subst (λ (n : ℕ). page < n) (sym (pages_many shown pages)) inside)) in
        rw (read.1, read.0) (ap Some (copy_is ∙ found ∙ is));
  }

  pub grant_shown : (ReadsGround shape (λ n. (old page n).right) (Grants node write) → (new page node).copy ≡ shown page) → IsSent shape (Some (pages_by shown pages)) page (Grants node write) old new
  grant_shown found = elim (reads_or shape (λ n. (old page n).right) node write) [
    | inl read ↦ read_sent read (found read)
    | inr never ↦ record { brings = sent.brings; sent = sent.sent; brought = λ base next tells. sent.brought base next (λ read. absurd (never read)) }
  ]

-- the page that a step reads from the ground is this one, as the node got it
abbrev pub FindsShown : TreeShape → ℕ → ℕ → Step → (ℕ → ℕ → Side) → (ℕ → ℕ → Side) → (ℕ → List ℕ) → Type 0
FindsShown shape pages page (Grants node write) old new shown = (page < pages) × (ReadsGround shape (λ n. (old page n).right) (Grants node write) → (new page node).copy ≡ shown page)
FindsShown shape pages page step old new shown = Unit {0}

other_shown : (shape : TreeShape) (told : Option (List (List ℕ))) (page pages : ℕ) (step : Step) (old new : ℕ → ℕ → Side) (shown : ℕ → List ℕ) → IsSent shape told page step old new
    → (ReadsGround shape (λ n. (old page n).right) step → ⊥) → IsSent shape (Some (pages_by shown pages)) page step old new
other_shown shape told page pages step old new shown sent never = record { brings = sent.brings; sent = sent.sent; brought = λ base next tells. sent.brought base next (λ read. absurd (never read)) }

pub sent_shown : (shape : TreeShape) (told : Option (List (List ℕ))) (page pages : ℕ) (step : Step) (old new : ℕ → ℕ → Side) (shown : ℕ → List ℕ) → IsSent shape told page step old new
    → FindsShown shape pages page step old new shown → IsSent shape (Some (pages_by shown pages)) page step old new
sent_shown shape told page pages (Grants node write) old new shown sent found = grant_shown shape told page pages node write old new shown found.0 sent found.1
sent_shown shape told page pages Untouched old new shown sent found = other_shown shape told page pages Untouched old new shown sent (λ never. never)
sent_shown shape told page pages (Reads node) old new shown sent found = other_shown shape told page pages (Reads node) old new shown sent (λ never. never)
sent_shown shape told page pages (Writes node) old new shown sent found = other_shown shape told page pages (Writes node) old new shown sent (λ never. never)
sent_shown shape told page pages (PagesOut node) old new shown sent found = other_shown shape told page pages (PagesOut node) old new shown sent (λ never. never)
sent_shown shape told page pages (Denies node) old new shown sent found = other_shown shape told page pages (Denies node) old new shown sent (λ never. never)
sent_shown shape told page pages (Pushes node) old new shown sent found = other_shown shape told page pages (Pushes node) old new shown sent (λ never. never)
sent_shown shape told page pages (Flushes node) old new shown sent found = other_shown shape told page pages (Flushes node) old new shown sent (λ never. never)
sent_shown shape told page pages (Deletes node) old new shown sent found = other_shown shape told page pages (Deletes node) old new shown sent (λ never. never)

-- a step that reads the page from the ground does so as an event
pub read_here : (shape : TreeShape) (trail : List Event) (event : Event) (page : ℕ) (step : Step) → IsStepOn shape trail event page step → ReadsGround shape (λ node. right_of shape trail node page) step → IsRead shape trail page event
read_here shape trail event page step on read = subst (ReadsGround shape (λ node. right_of shape trail node page)) (sym (on page ∙ same)) read
  where
    same : of_page page page step ≡ step
    same = rw (eq-eqb page page refl) refl
