-- Events that leave the file as it is: pages as they were from a place on are then those of the whole file.
use Rattle.std.proofs.Common.{◌≡◌, ℕ, zero, suc, ◌+◌, ◌-◌, ◌<◌, ◌≤◌, List, [], ◌∷◌, ◌++◌, length, take, Some, None, refl, sym, ap, subst, ◌∙◌, arith}
use Rattle.std.specs.Prelude.{slice_get}
use Rattle.std.specs.List.{AllByRecursion}
use Rattle.std.proofs.Math.Seq.{take-append-add}
use Rattle.hist_plain.specs.declared.event.Event.{Event}
use Rattle.hist_plain.specs.declared.event.Event.TheVariants as events
use Rattle.hist_plain.specs.Event.{caller_of}
use Rattle.hist_plain.specs.File.{File, Shape}
use Rattle.hist_plain.specs.History.{page_in, replay}
use Rattle.hist_plain.specs.Plain.{applied, fresh}
use Rattle.hist_plain.proofs.Replay.{replay-append}
use Rattle.tower_core.specs.Legal.{file_after, plain_shape}
use Rattle.tower_core.specs.TreeShape.{TreeShape}
use Rattle.layer_laws.specs.PlacesShown.{page_shown}
use Rattle.tower_shows.specs.Began.{ArePagesOf}
use Rattle.tower_shows.specs.Since.{AreSince, IsSince}

-- EVENTS that leave the file as it is
abbrev pub IsIdle : Event → Type 0
IsIdle event = (shape : Shape) (file : File) → applied shape file event ≡ file

-- a page message does, since it is nobody's
pub quiet_idle : (event : Event) → caller_of event ≡ None → IsIdle event
quiet_idle (events.Access caller number node life op) quiet = absurd cc
quiet_idle (events.DestroyCache caller number node) quiet = absurd cc
quiet_idle event quiet = λ shape file. refl

abbrev pub IsQuiet : Event → Type 0
IsQuiet event = caller_of event ≡ None

pub all_idle : (more : List Event) → AllByRecursion IsQuiet more → AllByRecursion IsIdle more
all_idle [] quiet = tt
all_idle (event ∷ more) quiet = (quiet_idle event quiet.0, all_idle more quiet.1)

still : (shape : Shape) (file : File) (more : List Event) → AllByRecursion IsIdle more → replay shape file more ≡ file
still shape file [] idle = refl
still shape file (event ∷ more) idle = ap (λ (f : File). replay shape f more) (idle.0 shape file) ∙ still shape file more idle.1

still_up_to : (shape : Shape) (file : File) (k : ℕ) (more : List Event) → AllByRecursion IsIdle more → replay shape file (take k more) ≡ file
still_up_to shape file zero more idle = refl
still_up_to shape file (suc k) [] idle = refl
still_up_to shape file (suc k) (event ∷ more) idle = ap (λ (f : File). replay shape f (take k more)) (idle.0 shape file) ∙ still_up_to shape file k more idle.1

module _ (tree : TreeShape) (size : ℕ) (opening : List ℕ) (trail more : List Event) (idle : AllByRecursion IsIdle more) where
  -- the file after them is the file before them
  pub still_after : file_after tree size opening (trail ++ more) ≡ file_after tree size opening trail
  still_after =
      let shape : Shape = plain_shape tree size in
      let first : File = fresh tree.parents opening in
      replay-append shape first trail more ∙ still shape (replay shape first trail) more idle

  -- and a page at a place behind them is as it is at the end
  shown_end : (page place : ℕ) → length trail ≤ place → page_shown tree size opening (trail ++ more) page place ≡ page_in size (file_after tree size opening (trail ++ more)).bytes page
  shown_end page place behind =
      let at : place ≡ length trail + (place - length trail) = omega (arith, behind) in
      let cut : take place (trail ++ more) ≡ trail ++ take (place - length trail) more = ap (λ (k : ℕ). take k (trail ++ more)) at ∙ take-append-add trail more (place - length trail) in
      let shape : Shape = plain_shape tree size in
      let first : File = fresh tree.parents opening in
      let there : replay shape first (take place (trail ++ more)) ≡ replay shape first trail =
      ap (replay shape first) cut ∙ replay-append shape first trail (take (place - length trail) more) ∙ still_up_to shape (replay shape first trail) (place - length trail) more idle in
      ap (λ (f : File). page_in size f.bytes page) (there ∙ sym still_after)

  -- so pages as they were from there on are the pages of the whole file
  pub pages_end : (pages : ℕ) (ps : List (List ℕ)) → length ps ≡ pages → AreSince tree size opening (trail ++ more) (length trail) ps → ArePagesOf size pages (file_after tree size opening (trail ++ more)).bytes ps
  pages_end pages ps many since = record {
    many = many;
    each = λ page inside.
        let found = item_at ps page (subst (λ (n : ℕ). page < n) (sym many) inside) in
        let at : IsSince tree size opening (trail ++ more) (length trail) page found.0 = since page found.0 found.1 in
        found.1 ∙ ap (λ (bytes : List ℕ). Some bytes) (at.is ∙ shown_end page at.place at.not_before);
  }
    where
      item_at : (xs : List (List ℕ)) (k : ℕ) → k < length xs → (x : List ℕ) × (slice_get xs k ≡ Some x)
      item_at [] k inside = absurd (omega arith)
      item_at (x ∷ xs) zero inside = (x, refl)
      item_at (x ∷ xs) (suc k) inside = item_at xs k (omega (arith, inside))
