-- Whose fault a refused opening names, and an opening without a refusal.
use Rattle.std.proofs.Common.{◌≡◌, ℕ, ◌≤◌, inl, inr, Bool, true, false, List, Option, Some, refl, sym, ◌∙◌, arith}
use Rattle.std.proofs.Math.Nat.{eq-or-lt_of_le}
use Rattle.mirror_rules.specs.Tree.{Image, Cell, Store, Blank, Down, Seat, In, Out}
use Rattle.mirror_rules.specs.Claims.{Pairs, pairs_none, pairs_more}
use Rattle.mirror_rules.specs.Steps.{Says, Done, Fault, faulted, written, Looked, looked_out, looked_stale, looked_same, looked_refused, Named, named_here, named_later}
use Rattle.mirror_rules.specs.Opening.{Meets, meets_good, meets_blank, meets_bad, meets_down, Wins, wins_here, wins_later, wins_out, Only, only_here, only_later, settled, Copies, copy_same, copy_differs, copy_left, copy_gone, copy_even, copy_settled, copy_unflushed, copy_unraised, Enters, enter_end, enter_next, enter_joins, enter_gone, Fills, fill_end, fill_next, fill_gone, Makes, Unmade, unmade_blank, unmade_whole, Begun, begun, Renews, renew_next, renew_made, renew_left, renew_gone, renew_end, all_but_bad, Good, Lost, LastDown, last_here, last_later, Opens, open_down, open_good, open_gone, open_unrenewed, open_again}
use Rattle.mirror_rules.specs.Fates.{Fate, fate_old, fate_new, fate_made, faults_of, disk_of, Excused, excused_live, excused_left, excused_bad, Blamed, blamed_here, blamed_later, Calmly, calmly, Behind, behind_pages, behind_lower, behind_level}
use Rattle.mirror_rules.proofs.PageLaws.{pairs-then}
use Rattle.mirror_rules.proofs.RoundLaws.{pairs-map, refuses-fault}
use Rattle.mirror_rules.proofs.OpenLaws.{only-pairs}
use Rattle.mirror_rules.proofs.GivesLaws.{way-meets}
use Rattle.mirror_rules.proofs.LeftLaws.{opens-excused}

-- a disk after a store: its number, and no fewer faults
pub data Counts (s : Store) (x : Seat) : Type 0 where
  counts : disk_of x ≡ s.disk → s.faults ≤ faults_of x → Counts s x

look-counts : {a : Says} {s : Store} {x y : Seat} → Counts s x → Looked a x y → Counts s y
look-counts (counts e l) looked_out = counts e l
look-counts (counts e l) looked_stale = counts e l
look-counts (counts e l) (looked_same q) = counts e l
look-counts (counts e l) (looked_refused b) = counts e (omega arith)

look-all : {a : Says} {ss : List Store} {xs ys : List Seat} → Pairs Counts ss xs → Pairs (Looked a) xs ys → Pairs Counts ss ys
look-all h m = pairs-then (λ s x y. look-counts) h m

more : {s : Store} {x : Seat} (y : Seat) → disk_of y ≡ disk_of x → faults_of x ≤ faults_of y → Counts s x → Counts s y
more y e l (counts q k) = counts (e ∙ q) (omega arith)

copies-count : {told : Bool} {g i n p : ℕ} {e : Bool} {s : Says} {ss : List Store} {xs ys : List Seat} {wrote : Bool} → Copies told g i e n p xs s wrote ys → Pairs Counts ss xs → Pairs Counts ss ys
copies-count (copy_same h k q r) f = copies-count r (look-all f h.each)
copies-count (copy_differs {p = p} {z = x} {c = c} h ne q k r) f = copies-count r (only-pairs k (λ s. more (In false (written p x c)) refl (omega arith)) (look-all f h.each))
copies-count (copy_left {m = m} {c = c} h l k) f = only-pairs k (λ s. more (In false (faulted m c)) refl (omega arith)) (look-all f h.each)
copies-count (copy_gone h) f = look-all f h.each
copies-count (copy_even {c = c} k) f = only-pairs k (λ s. more (In true c) refl (omega arith)) f
copies-count {g = g} (copy_settled {c = c} k) f = only-pairs k (λ s. more (In true (settled g c)) refl (omega arith)) f
copies-count (copy_unflushed {d = d} h k) f = let r = refuses-fault h in only-pairs k (λ s. more (In false d) (sym r.0) (omega (arith, r.1))) f
copies-count (copy_unraised {d = d} h q k) f = let r = refuses-fault h in only-pairs k (λ s. more (In false d) (sym r.0) (omega (arith, r.1))) f

named-blamed : {d k : ℕ} {ss : List Store} {xs ys : List Seat} → Pairs Counts ss xs → Named d k xs ys → Blamed d k ss ys
named-blamed pairs_none h = elim h [ ]
named-blamed (pairs_more (counts e l) m) (named_here q a b) = blamed_here (sym e ∙ q) (omega arith) (omega (arith, b))
named-blamed (pairs_more c m) (named_later h) = blamed_later (named-blamed m h)

abbrev pub Blames : Says → List Store → List Seat → Type 0
Blames (Done w) ss ys = Unit {0}
Blames (Fault d k) ss ys = Blamed d k ss ys

copies-blame : {told : Bool} {g i n p : ℕ} {e : Bool} {s : Says} {ss : List Store} {xs ys : List Seat} {wrote : Bool} → Copies told g i e n p xs s wrote ys → Pairs Counts ss xs → Blames s ss ys
copies-blame (copy_same h k q r) f = copies-blame r (look-all f h.each)
copies-blame (copy_differs {p = p} {z = x} {c = c} h ne q k r) f = copies-blame r (only-pairs k (λ s. more (In false (written p x c)) refl (omega arith)) (look-all f h.each))
copies-blame (copy_left h l k) f = tt
copies-blame (copy_gone h) f = named-blamed f h.found
copies-blame (copy_even k) f = tt
copies-blame (copy_settled k) f = tt
copies-blame (copy_unflushed h k) f = tt
copies-blame (copy_unraised h q k) f = tt

enters-count : {told : Bool} {g n i m : ℕ} {s : Says} {ss : List Store} {xs ys : List Seat} {wrote : Bool} → Enters told g n i m xs s wrote ys → Pairs Counts ss xs → Pairs Counts ss ys
enters-count enter_end f = f
enters-count (enter_next h p r) f = enters-count r f
enters-count (enter_joins h q k r) f = enters-count r (copies-count k f)
enters-count (enter_gone h q k) f = copies-count k f

enters-blame : {told : Bool} {g n i m : ℕ} {s : Says} {ss : List Store} {xs ys : List Seat} {wrote : Bool} → Enters told g n i m xs s wrote ys → Pairs Counts ss xs → Blames s ss ys
enters-blame enter_end f = tt
enters-blame (enter_next h p r) f = enters-blame r f
enters-blame (enter_joins h q k r) f = enters-blame r (copies-count k f)
enters-blame (enter_gone h q k) f = copies-blame k f

fills-count : {n p : ℕ} {s : Says} {G : List (List ℕ)} {ss : List Store} {xs ys : List Seat} → Fills n p xs s G ys → Pairs Counts ss xs → Pairs Counts ss ys
fills-count fill_end f = f
fills-count (fill_next h r) f = fills-count r (look-all f h.each)
fills-count (fill_gone h) f = look-all f h.each

fills-blame : {n p d k : ℕ} {G : List (List ℕ)} {ss : List Store} {xs ys : List Seat} → Fills n p xs (Fault d k) G ys → Pairs Counts ss xs → Blamed d k ss ys
fills-blame (fill_next h r) f = fills-blame r (look-all f h.each)
fills-blame (fill_gone h) f = named-blamed f h.found

make-count : {told : Bool} {g : ℕ} {G : List (List ℕ)} {b s : Store} {c : Cell} → Makes told g G b c → Counts s (Out Blank b) → Counts s (In true c)
make-count f (counts e l) = counts (f.disk ∙ e) (omega (arith, f.faults))

unmade-count : {told : Bool} {n g : ℕ} {G : List (List ℕ)} {b t s : Store} → Unmade told n g G b t → Counts s (Out Blank b) → Counts s (Out Down t)
unmade-count (unmade_blank d e i z) (counts q l) = counts (d ∙ q) (omega (arith, e))
unmade-count (unmade_whole d e i z) (counts q l) = counts (d ∙ q) (omega (arith, e))

begun-count : {b t s : Store} → Begun b t → Counts s (Out Blank b) → Counts s (Out Blank t)
begun-count (begun d e i z) (counts q l) = counts (d ∙ q) (omega (arith, e))

begun-blame : {b t : Store} {d k n : ℕ} {ss : List Store} {xs ys : List Seat} → Begun b t → Only (Out Blank b) (Out Blank t) n xs ys → Blamed d k ss xs → Blamed d k ss ys
begun-blame (begun d e i z) only_here (blamed_here q l m) = blamed_here q l (omega (arith, e))
begun-blame b only_here (blamed_later h) = blamed_later h
begun-blame b (only_later k) (blamed_here q l m) = blamed_here q l m
begun-blame b (only_later k) (blamed_later h) = blamed_later (begun-blame b k h)

renews-blame : {told : Bool} {g n i m d k : ℕ} {ss : List Store} {xs ys : List Seat} → Renews told g n i m xs (Fault d k) ys → Pairs Counts ss xs → Blamed d k ss ys
renews-blame (renew_next h p r) f = renews-blame r f
renews-blame (renew_made h c k r) f = renews-blame r (only-pairs k (λ s. make-count c) (fills-count h f))
renews-blame (renew_left q h u k r) f = renews-blame r (only-pairs k (λ s. unmade-count u) (fills-count h f))
renews-blame (renew_gone h b k) f = begun-blame b k (fills-blame h f)

met-count : {s : Store} {x : Seat} → Meets s x → Counts s x
met-count (meets_good e) = counts refl (omega arith)
met-count (meets_blank e b) = counts refl (omega arith)
met-count (meets_bad e b) = counts refl (omega arith)
met-count (meets_down a b f) = counts a (omega (arith, f))

wins-count : {w : Image} {ss : List Store} {xs ys : List Seat} → Wins w xs ys → Pairs Counts ss xs → Pairs Counts ss ys
wins-count (wins_here q a) (pairs_more (counts e l) m) = pairs_more (counts e l) m
wins-count (wins_later l h) (pairs_more c m) = pairs_more c (wins-count h m)
wins-count (wins_out h) (pairs_more c m) = pairs_more c (wins-count h m)

down-blame : {d k : ℕ} {ss : List Store} {xs : List Seat} → Pairs Meets ss xs → LastDown d k xs → Blamed d k ss xs
down-blame pairs_none h = elim h [ ]
down-blame (pairs_more (meets_down a b f) m) (last_here p q h) = blamed_here (sym a ∙ p) (omega (arith, f, q)) (omega (arith, q))
down-blame (pairs_more h m) (last_later k) = blamed_later (down-blame m k)

-- a StoreFault of an opening names a disk whose count rose in it
pub opens-blame : {told : Bool} {n d k : ℕ} {ss : List Store} {xs us : List Seat} → Opens told n xs (Lost d k) us → Pairs Meets ss xs → Blamed d k ss us
opens-blame (open_down h l) m = down-blame m l
opens-blame (open_gone w e y) m = enters-blame e (wins-count w (pairs-map (λ s x. met-count) m))
opens-blame (open_unrenewed w e r) m = renews-blame r (enters-count e (wins-count w (pairs-map (λ s x. met-count) m)))
opens-blame (open_again w e y r) m = opens-blame r (way-meets m y.way)

renews-count : {told : Bool} {g n i m : ℕ} {s : Says} {ss : List Store} {xs ys : List Seat} → Renews told g n i m xs s ys → Pairs Counts ss xs → Pairs Counts ss ys
renews-count renew_end f = f
renews-count (renew_next h p r) f = renews-count r f
renews-count (renew_made h c k r) f = renews-count r (only-pairs k (λ s. make-count c) (fills-count h f))
renews-count (renew_left q h u k r) f = renews-count r (only-pairs k (λ s. unmade-count u) (fills-count h f))
renews-count (renew_gone h b k) f = only-pairs k (λ s. begun-count b) (fills-count h f)

-- no count falls in an opening
pub opens-count : {told : Bool} {n g : ℕ} {owed : Bool} {ss : List Store} {xs us : List Seat} → Opens told n xs (Good owed g) us → Pairs Meets ss xs → Pairs Counts ss us
opens-count (open_good w e r) m = renews-count r (enters-count e (wins-count w (pairs-map (λ s x. met-count) m)))
opens-count (open_again w e y r) m = opens-count r (way-meets m y.way)

-- an opening in which no store refused a call leaves no disk out but those that were found bad
calm-all : {ss : List Store} {us : List Seat} → Pairs Excused ss us → Pairs Calmly ss us → all_but_bad us ≡ true
calm-all pairs_none pairs_none = refl
calm-all (pairs_more excused_live m) (pairs_more c k) = calm-all m k
calm-all (pairs_more (excused_bad e b) m) (pairs_more c k) = calm-all m k
calm-all (pairs_more (excused_left l) m) (pairs_more (calmly e) k) = absurd (omega (arith, e))

pub opens-whole : {told : Bool} {n g : ℕ} {owed : Bool} {ss : List Store} {xs us : List Seat} → Opens told n xs (Good owed g) us → Pairs Meets ss xs → Pairs Calmly ss us → all_but_bad us ≡ true
opens-whole h m c = calm-all (opens-excused h m) c

-- an opening, also a refused one: a disk that was lower stays below the ground until all pages stand on it, and none is above it
pub fate-behind : {F : List (List ℕ)} {g : ℕ} {o : Option Image} {c : Image} → Fate F g o c → Behind F g o c
fate-behind {F} {g} (fate_old {i = i} {c = c} a b m) = elim (eq-or-lt_of_le b) as (λ _. Behind F g (Some i) c) [ inl e ↦ behind_level a e | inr k ↦ behind_lower (omega arith) ]
fate-behind (fate_new a b m) = behind_pages a m
fate-behind (fate_made a b) = behind_pages a (omega (arith, b))
