-- The disks of a ground that was opened have the numbers of their stores, in the same order.
use Rattle.std.proofs.Common.{◌≡◌, ℕ, Bool, List, refl, sym, ◌∙◌}
use Rattle.mirror_rules.specs.Tree.{Image, Store, Blank, Down, Seat, Out}
use Rattle.mirror_rules.specs.Claims.{Pairs, pairs_more}
use Rattle.mirror_rules.specs.Steps.{Says, Looked, looked_out, looked_stale, looked_same, looked_refused}
use Rattle.mirror_rules.specs.Opening.{Meets, meets_good, meets_blank, meets_bad, meets_down, Wins, wins_here, wins_later, wins_out, Copies, copy_same, copy_differs, copy_left, copy_gone, copy_even, copy_settled, copy_unflushed, copy_unraised, Enters, enter_end, enter_next, enter_joins, enter_gone, Fills, fill_end, fill_next, fill_gone, Unmade, unmade_blank, unmade_whole, Begun, begun, Renews, renew_end, renew_next, renew_made, renew_left, renew_gone, Good, Opens, open_good, open_again}
use Rattle.mirror_rules.specs.Fates.{disk_of}
use Rattle.mirror_rules.proofs.PageLaws.{pairs-then}
use Rattle.mirror_rules.proofs.RoundLaws.{pairs-map, refuses-fault}
use Rattle.mirror_rules.proofs.OpenLaws.{only-pairs}
use Rattle.mirror_rules.proofs.GivesLaws.{way-meets}

-- the disk has the number of its store
abbrev pub SameNumber : Store → Seat → Type 0
SameNumber s x = disk_of x ≡ s.disk

look-all : {a : Says} {ss : List Store} {xs ys : List Seat} → Pairs SameNumber ss xs → Pairs (Looked a) xs ys → Pairs SameNumber ss ys
look-all {a} h m = pairs-then (λ s x y. one s) h m
  where
    one : (s : Store) {x y : Seat} → SameNumber s x → Looked a x y → SameNumber s y
    one s e looked_out = e
    one s e looked_stale = e
    one s e (looked_same q) = e
    one s e (looked_refused low) = e

copies-number : {told : Bool} {g i n p : ℕ} {e : Bool} {s : Says} {ss : List Store} {xs ys : List Seat} {wrote : Bool} → Copies told g i e n p xs s wrote ys → Pairs SameNumber ss xs → Pairs SameNumber ss ys
copies-number (copy_same h k q r) f = copies-number r (look-all f h.each)
copies-number (copy_differs h ne q k r) f = copies-number r (only-pairs k (λ s e. e) (look-all f h.each))
copies-number (copy_left h l k) f = only-pairs k (λ s e. e) (look-all f h.each)
copies-number (copy_gone h) f = look-all f h.each
copies-number (copy_even k) f = only-pairs k (λ s e. e) f
copies-number (copy_settled k) f = only-pairs k (λ s e. e) f
copies-number (copy_unflushed h k) f = let r = refuses-fault h in only-pairs k (λ s e. sym r.0 ∙ e) f
copies-number (copy_unraised h q k) f = let r = refuses-fault h in only-pairs k (λ s e. sym r.0 ∙ e) f

enters-number : {told : Bool} {g n i m : ℕ} {s : Says} {ss : List Store} {xs ys : List Seat} {wrote : Bool} → Enters told g n i m xs s wrote ys → Pairs SameNumber ss xs → Pairs SameNumber ss ys
enters-number enter_end f = f
enters-number (enter_next h p r) f = enters-number r f
enters-number (enter_joins h q k r) f = enters-number r (copies-number k f)
enters-number (enter_gone h q k) f = copies-number k f

fills-number : {n p : ℕ} {s : Says} {F : List (List ℕ)} {ss : List Store} {xs ys : List Seat} → Fills n p xs s F ys → Pairs SameNumber ss xs → Pairs SameNumber ss ys
fills-number fill_end f = f
fills-number (fill_next h r) f = fills-number r (look-all f h.each)
fills-number (fill_gone h) f = look-all f h.each

unmade-number : (s : Store) {told : Bool} {n g : ℕ} {F : List (List ℕ)} {b t : Store} → Unmade told n g F b t → SameNumber s (Out Blank b) → SameNumber s (Out Down t)
unmade-number s (unmade_blank d low none zeros) e = d ∙ e
unmade-number s (unmade_whole d low number image) e = d ∙ e

begun-number : (s : Store) {b t : Store} → Begun b t → SameNumber s (Out Blank b) → SameNumber s (Out Blank t)
begun-number s (begun d same none zeros) e = d ∙ e

renews-number : {told : Bool} {g n i m : ℕ} {s : Says} {ss : List Store} {xs ys : List Seat} → Renews told g n i m xs s ys → Pairs SameNumber ss xs → Pairs SameNumber ss ys
renews-number renew_end f = f
renews-number (renew_next h p r) f = renews-number r f
renews-number (renew_made h c k r) f = renews-number r (only-pairs k (λ s e. c.disk ∙ e) (fills-number h f))
renews-number (renew_left q h u k r) f = renews-number r (only-pairs k (λ s. unmade-number s u) (fills-number h f))
renews-number (renew_gone h b k) f = only-pairs k (λ s. begun-number s b) (fills-number h f)

met-number : {s : Store} {x : Seat} → Meets s x → SameNumber s x
met-number (meets_good e) = refl
met-number (meets_blank e b) = refl
met-number (meets_bad e b) = refl
met-number (meets_down a b f) = a

wins-number : {w : Image} {ss : List Store} {xs ys : List Seat} → Wins w xs ys → Pairs SameNumber ss xs → Pairs SameNumber ss ys
wins-number (wins_here q a) (pairs_more e m) = pairs_more e m
wins-number (wins_later l h) (pairs_more e m) = pairs_more e (wins-number h m)
wins-number (wins_out h) (pairs_more e m) = pairs_more e (wins-number h m)

pub opens-number : {told : Bool} {n g : ℕ} {owed : Bool} {ss : List Store} {xs us : List Seat} → Opens told n xs (Good owed g) us → Pairs Meets ss xs → Pairs SameNumber ss us
opens-number (open_good w e r) m = renews-number r (enters-number e (wins-number w (pairs-map (λ s x. met-number) m)))
opens-number (open_again w e y r) m = opens-number r (way-meets m y.way)
