-- What holds of a pass and of a volume, from what holds of their rows.
use Rattle.std.proofs.Common.{◌≡◌, ℕ, ◌+◌, zero, suc, ◌<◌, ◌≤◌, List, [], ◌∷◌, ◌++◌, length, length-set, map, set, get_or, reverse, Option, Some, unwrap_or, Result, refl, sym, ap, subst, ◌∙◌, arith}
use Rattle.std.specs.List.{AllByRecursion, slice_get}
use Rattle.std.proofs.lemmas.List.{append-nil, map-set, reverse-reverse}
use Rattle.std.proofs.lemmas.Option.{same_Some, slice_get_read, slice_get_within}
use Rattle.hist_plain.specs.declared.event.Event.{Event}
use Rattle.hist_lock.specs.Known.{IsFree}
use Rattle.tower_core.proofs.Steps.{slice_get-set_same, slice_get-set_other}
use Rattle.tower_log.specs.declared.logged.Logged.{Logged}
use Rattle.stack_engine.specs.declared.refusal.StepErr.{StepErr}
use Rattle.stack_engine.specs.Engine.{EngineSeen, log_in}
use Rattle.stack_engine.specs.Tower.{TowerSeen}
use Rattle.spr_volume.specs.declared.answered.Answered.{Answered}
use Rattle.spr_volume.specs.FileCalls.{Called, CalledAt}
use Rattle.spr_volume.specs.Holds.{IsSame}
use Rattle.spr_volume.specs.FilePasses.{AllQuietly, AreBack, FileLock, FileSeat, FilesSeen, IsBack, IsLock, IsPass, IsSeat, FilesKnown, Owner, Quietly, known, logs, owner, owner_of, whole, with_range}
use Rattle.spr_volume.specs.Rows.{AreClosed, AreFree, AreFresh, AreMet, AreNeighbours, AreWhole, IsWithin, above, below}
use Rattle.spr_volume.proofs.Holding.{quietly_same}
use Rattle.spr_volume.proofs.RowLemmas.{cons_is, all_get, all_map, all_set, free_at, free_length, free_rows, fresh_closed, fresh_whole, get_map, length-map, set_same, whole_length}

-- what contracts see of these seats, and of these locks
abbrev pub pass_of : ℕ → ℕ → List FileSeat → FilesKnown
pass_of first end seats = record { owners = map owner_of seats; first = first; end = end; logs = map (λ (s : FileSeat). s.seen) seats }

abbrev pub files_of : ℕ → List FileLock → FilesSeen
files_of end locks = record { owners = map owner locks; towers = map (λ (l : FileLock). l.part) locks; end = end }

known_get : (seats : List FileSeat) (k : ℕ) (s : FileSeat) → slice_get seats k ≡ Some s → unwrap_or (slice_get (map (λ (x : FileSeat). x.seen) seats) k) [] ≡ s.seen
known_get seats k s at = ap (λ (o : Option (List Logged)). unwrap_or o []) (get_map (λ (x : FileSeat). x.seen) seats k s at)

known_set : (seats : List FileSeat) (k : ℕ) (s u : FileSeat) → slice_get seats k ≡ Some s → unwrap_or (slice_get (map (λ (x : FileSeat). x.seen) (set seats k u)) k) [] ≡ u.seen
known_set seats k s u at = known_get (set seats k u) k u (slice_get-set_same seats k u (slice_get_within seats k s at))

pub knows_at : (p : FilesKnown) (first end k : ℕ) (seats : List FileSeat) (s : FileSeat) → pass_of first end seats ≡ p → slice_get seats k ≡ Some s → known p k ≡ s.seen
knows_at p first end k seats s e at = let P : FilesKnown → Type 0 = λ q. known q k ≡ s.seen in subst P e (known_get seats k s at)

-- the seats of a pass of this volume are free ones of its locks
pub owners_are : (v : FilesSeen) (p : FilesKnown) (last first end : ℕ) (locks : List FileLock) (seats : List FileSeat) → files_of last locks ≡ v → pass_of first end seats ≡ p → p.owners ≡ v.owners → map owner_of seats ≡ map owner locks
owners_are v p last first end locks seats vs ps of = ap (λ (q : FilesKnown). q.owners) ps ∙ (of ∙ ap (λ (x : FilesSeen). x.owners) (sym vs))

pub free_seats : (v : FilesSeen) (p : FilesKnown) (last first end : ℕ) (locks : List FileLock) (seats : List FileSeat) → files_of last locks ≡ v → pass_of first end seats ≡ p → p.owners ≡ v.owners → AllByRecursion (IsSeat first end) seats → AreFree locks seats
free_seats v p last first end locks seats vs ps of all = free_rows first end locks seats (owners_are v p last first end locks seats vs ps of) all

-- CALLS AT ONE FILE

-- the lock and the seat of a file
pub record IsAt (v : FilesSeen) (first end : ℕ) (seats : List FileSeat) (file : ℕ) (l : FileLock) (s : FileSeat) : Type 0 where
  pub tower : slice_get v.towers file ≡ Some l.part
  pub seat : slice_get seats file ≡ Some s
  pub free : IsFree l s
  pub range : IsSeat first end s

-- what stands at the file's index
pub found_at : (v : FilesSeen) (p : FilesKnown) (last first end file : ℕ) (locks : List FileLock) (seats : List FileSeat) (l : FileLock) (s : FileSeat) → files_of last locks ≡ v → pass_of first end seats ≡ p → p.owners ≡ v.owners
    → file < length v.towers → AllByRecursion (IsSeat first end) seats → l ≡ get_or locks file l → s ≡ get_or seats file s → IsAt v first end seats file l s
found_at v p last first end file locks seats l s vs ps of lt all at at' =
    let towers : v.towers ≡ map (λ (x : FileLock). x.part) locks = ap (λ (x : FilesSeen). x.towers) (sym vs) in
    let lock_lt : file < length locks = (let n : length v.towers ≡ length locks = ap length towers ∙ length-map (λ (x : FileLock). x.part) locks in omega arith) in
    let free = free_seats v p last first end locks seats vs ps of all in
    let seat_lt : file < length seats = (let n = free_length locks seats free in omega arith) in
    let lock : slice_get locks file ≡ Some l = slice_get_read locks (length locks) file l refl lock_lt at in
    let seat : slice_get seats file ≡ Some s = slice_get_read seats (length seats) file s refl seat_lt at' in
    record {
      tower = ap (λ (ts : List TowerSeen). slice_get ts file) towers ∙ get_map (λ (x : FileLock). x.part) locks file l lock;
      seat = seat;
      free = free_at locks seats file l s free lock seat;
      range = (let P : FileSeat → Type 0 = IsSeat first end in all_get P seats file s all seat);
    }

pub caller_at : (p : FilesKnown) (first end caller : ℕ) (seats : List FileSeat) (s : FileSeat) → pass_of first end seats ≡ p → IsSeat first end s → (p.first ≤ caller) × (caller < p.end) → (s.first ≤ caller) × (caller < s.end)
caller_at p first end caller seats s ps range within =
    let first_is : p.first ≡ s.first = ap (λ (q : FilesKnown). q.first) (sym ps) ∙ sym range.first_is in
    let end_is : p.end ≡ s.end = ap (λ (q : FilesKnown). q.end) (sym ps) ∙ sym range.end_is in
    let low = within.0 in
    let high = within.1 in
    (omega arith, omega arith)

-- a call at one seat is a call at one file
pub called_at : (p : FilesKnown) (seats : List FileSeat) (first end caller k : ℕ) (IsIts : List Event → Event → Type 0) (s u : FileSeat) (out : List ℕ) (r : Result Answered StepErr) → pass_of first end seats ≡ p
    → slice_get seats k ≡ Some s → IsSeat first end s → IsSame s u → Called s.first s.end caller IsIts s.seen u.seen out r → CalledAt k caller IsIts p (pass_of first end (set seats k u)) out r
called_at p seats first end caller k IsIts s u out r e at range same called =
    let now : FilesKnown = pass_of first end (set seats k u) in
    let A : ℕ → Type 0 = λ n. Called n s.end caller IsIts s.seen u.seen out r in
    let B : ℕ → Type 0 = λ n. Called first n caller IsIts s.seen u.seen out r in
    let C : List Logged → Type 0 = λ l. Called first end caller IsIts l u.seen out r in
    let D : List Logged → Type 0 = λ l. Called first end caller IsIts (known (pass_of first end seats) k) l out r in
    let owners : map owner_of (set seats k u) ≡ map owner_of seats =
    map-set owner_of seats k u ∙ (ap (λ (o : Owner). set (map owner_of seats) k o) (ap owner_of same) ∙ set_same (map owner_of seats) k (owner_of s) (get_map owner_of seats k s at)) in
    let old_is : known (pass_of first end seats) k ≡ s.seen = known_get seats k s at in
    let new_is : known now k ≡ u.seen = known_set seats k s u at in
    let P : FilesKnown → Type 0 = λ q. CalledAt k caller IsIts q now out r in
    subst P e (record {
      pass = ap (λ (os : List Owner). let q : FilesKnown = record { owners = os; first = first; end = end; logs = map (λ (x : FileSeat). x.seen) (set seats k u) } in q) owners;
      here = subst D (sym new_is) (subst C (sym old_is) (subst B range.end_is (subst A range.first_is called)));
      others = λ other ne. ap (λ (ls : List (List Logged)). unwrap_or (slice_get ls other) []) (map-set (λ (x : FileSeat). x.seen) seats k u)
          ∙ ap (λ (o : Option (List Logged)). unwrap_or o []) (slice_get-set_other (map (λ (x : FileSeat). x.seen) seats) k other u.seen ne);
    })

-- what holds of what the pass then knows of the file
pub known_at : (P : EngineSeen → List Logged → Type 0) (v : FilesSeen) (first end file : ℕ) (seats : List FileSeat) (l : FileLock) (s u : FileSeat) → IsAt v first end seats file l s → P l.part.engine u.seen
    → (t : TowerSeen) → slice_get v.towers file ≡ Some t → P t.engine (known (pass_of first end (set seats file u)) file)
known_at P v first end file seats l s u at h t is =
    let same : l.part ≡ t = same_Some l.part t (sym at.tower ∙ is) in
    subst (P t.engine) (sym (known_set seats file s u at.seat)) (subst (λ (x : TowerSeen). P x.engine u.seen) same h)

-- the pass after a call
pub called_is : (first end k capacity : ℕ) (seats : List FileSeat) (room : List TowerSeen) (s u : FileSeat) → IsPass first end seats room capacity → IsSeat first end s → IsSame s u → IsPass first end (set seats k u) room capacity
called_is first end k capacity seats room s u pass is same =
    let P : FileSeat → Type 0 = IsSeat first end in
    let long = length-set seats k u in
    let enough = pass.enough in
    record {
      seated = all_set P seats k u pass.seated (record {
        first_is = ap (λ (x : FileSeat). x.first) same ∙ is.first_is;
        end_is = ap (λ (x : FileSeat). x.end) same ∙ is.end_is;
        free = ap (λ (x : FileSeat). x.taken) same ∙ is.free;
      });
      some = pass.some;
      empty = pass.empty;
      enough = λ from_0. omega arith;
    }

-- A PASS CUT IN TWO

pub below_owners : (at : ℕ) (seats : List FileSeat) → map owner_of (map (below at) seats) ≡ map owner_of seats
below_owners at [] = refl
below_owners at (s ∷ ss) = ap (λ l. owner_of s ∷ l) (below_owners at ss)

pub below_logs : (at : ℕ) (seats : List FileSeat) → map (λ (s : FileSeat). s.seen) (map (below at) seats) ≡ map (λ (s : FileSeat). s.seen) seats
below_logs at [] = refl
below_logs at (s ∷ ss) = ap (λ l. s.seen ∷ l) (below_logs at ss)

pub above_owners : (at : ℕ) (seats : List FileSeat) → map owner_of (map (above at) seats) ≡ map owner_of seats
above_owners at [] = refl
above_owners at (s ∷ ss) = ap (λ l. owner_of s ∷ l) (above_owners at ss)

pub above_logs : (at : ℕ) (seats : List FileSeat) → map (λ (s : FileSeat). s.seen) (map (above at) seats) ≡ map (λ (s : FileSeat). s.seen) seats
above_logs at [] = refl
above_logs at (s ∷ ss) = ap (λ l. s.seen ∷ l) (above_logs at ss)

knows_is : (os os' : List Owner) (first end : ℕ) (ls ls' : List (List Logged)) → os ≡ os' → ls ≡ ls' → (let p : FilesKnown = record { owners = os; first = first; end = end; logs = ls } in p) ≡ record { owners = os'; first = first; end = end; logs = ls' }
knows_is os os' first end ls ls' e f =
    ap (λ (x : List Owner). let p : FilesKnown = record { owners = x; first = first; end = end; logs = ls } in p) e ∙ ap (λ (x : List (List Logged)). let p : FilesKnown = record { owners = os'; first = first; end = end; logs = x } in p) f

-- where the range is cut
pub cut_within : (p : FilesKnown) (first end at : ℕ) (seats : List FileSeat) → pass_of first end seats ≡ p → (p.first < at) × (at < p.end) → (first < at) × (at < end)
cut_within p first end at seats e within = let P : FilesKnown → Type 0 = λ q. (q.first < at) × (at < q.end) in subst P (sym e) within

module _ (first end at : ℕ) (seats : List FileSeat) (p : FilesKnown) (e : pass_of first end seats ≡ p) where
  pub low_pass : pass_of first at (map (below at) seats) ≡ with_range p p.first at
  low_pass =
      let P : FilesKnown → Type 0 = λ q. pass_of first at (map (below at) seats) ≡ with_range q q.first at in
      subst P e (knows_is (map owner_of (map (below at) seats)) (map owner_of seats) first at _ (map (λ (s : FileSeat). s.seen) seats) (below_owners at seats) (below_logs at seats))

  pub high_pass : pass_of at end (map (above at) seats) ≡ with_range p at p.end
  high_pass =
      let P : FilesKnown → Type 0 = λ q. pass_of at end (map (above at) seats) ≡ with_range q at q.end in
      subst P e (knows_is (map owner_of (map (above at) seats)) (map owner_of seats) at end _ (map (λ (s : FileSeat). s.seen) seats) (above_owners at seats) (above_logs at seats))

low_seats : (first end at : ℕ) (seats : List FileSeat) → AllByRecursion (IsSeat first end) seats → AllByRecursion (IsSeat first at) (map (below at) seats)
low_seats first end at seats all = all_map (below at) (IsSeat first end) (IsSeat first at) (λ s is. record { first_is = is.first_is; end_is = refl; free = is.free }) seats all

high_seats : (first end at : ℕ) (seats : List FileSeat) → AllByRecursion (IsSeat first end) seats → AllByRecursion (IsSeat at end) (map (above at) seats)
high_seats first end at seats all = all_map (above at) (IsSeat first end) (IsSeat at end) (λ s is. record { first_is = refl; end_is = is.end_is; free = is.free }) seats all

pub low_is : (first end at capacity : ℕ) (seats : List FileSeat) (room : List TowerSeen) → IsPass first end seats room capacity → first < at → IsPass first at (map (below at) seats) room capacity
low_is first end at capacity seats room pass some = record {
  seated = low_seats first end at seats pass.seated;
  some = some;
  empty = pass.empty;
  enough = λ from_0. (let long = length-map (below at) seats in let enough = pass.enough from_0 in omega arith);
}

pub high_is : (first end at capacity capacity' : ℕ) (seats : List FileSeat) (room room' : List TowerSeen) → IsPass first end seats room capacity → first < at → at < end → room' ≡ [] → IsPass at end (map (above at) seats) room' capacity'
high_is first end at capacity capacity' seats room room' pass low some empty = record {
  seated = high_seats first end at seats pass.seated;
  some = some;
  empty = empty;
  enough = λ from_0. absurd (omega arith);
}

pub within_seats : (first end at : ℕ) (seats : List FileSeat) → first < at → at < end → AllByRecursion (IsSeat first end) seats → AllByRecursion (IsWithin at) seats
within_seats first end at [] low high all = tt
within_seats first end at (s ∷ ss) low high all = let a = all.0.first_is in let b = all.0.end_is in ((omega arith, omega arith), within_seats first end at ss low high all.1)

-- TWO PASSES MET

pub next_seats : (locks : List FileLock) (first mid end : ℕ) (ss ts : List FileSeat) → AreFree locks ss → AreFree locks ts → AllByRecursion (IsSeat first mid) ss → AllByRecursion (IsSeat mid end) ts → AreNeighbours ss ts
next_seats [] first mid end [] [] f g a b = tt
next_seats [] first mid end [] (t ∷ ts) f g a b = absurd g
next_seats [] first mid end (s ∷ ss) ts f g a b = absurd f
next_seats (l ∷ ls) first mid end [] ts f g a b = absurd f
next_seats (l ∷ ls) first mid end (s ∷ ss) [] f g a b = absurd g
next_seats (l ∷ ls) first mid end (s ∷ ss) (t ∷ ts) f g a b = (a.0.end_is ∙ sym b.0.first_is, next_seats ls first mid end ss ts f.1 g.1 a.1 b.1)

pub met_owners : (ss ts us : List FileSeat) → AreMet ss ts us → map owner_of us ≡ map owner_of ss
met_owners [] [] [] m = refl
met_owners [] [] (u ∷ us) m = absurd m
met_owners [] (t ∷ ts) us m = absurd m
met_owners (s ∷ ss) [] us m = absurd m
met_owners (s ∷ ss) (t ∷ ts) [] m = absurd m
met_owners (s ∷ ss) (t ∷ ts) (u ∷ us) m =
    let one : owner_of u ≡ owner_of s = ap owner_of m.0.is in
    cons_is (owner_of u) (owner_of s) (map owner_of us) (map owner_of ss) one (met_owners ss ts us m.1)

met_seats : (first mid end : ℕ) (ss ts us : List FileSeat) → AreMet ss ts us → AllByRecursion (IsSeat first mid) ss → AllByRecursion (IsSeat mid end) ts → AllByRecursion (IsSeat first end) us
met_seats first mid end [] [] [] m a b = tt
met_seats first mid end [] [] (u ∷ us) m a b = absurd m
met_seats first mid end [] (t ∷ ts) us m a b = absurd m
met_seats first mid end (s ∷ ss) [] us m a b = absurd m
met_seats first mid end (s ∷ ss) (t ∷ ts) [] m a b = absurd m
met_seats first mid end (s ∷ ss) (t ∷ ts) (u ∷ us) m a b =
    (record { first_is = ap (λ (x : FileSeat). x.first) m.0.is ∙ a.0.first_is; end_is = ap (λ (x : FileSeat). x.end) m.0.is ∙ b.0.end_is; free = ap (λ (x : FileSeat). x.taken) m.0.is }, met_seats first mid end ss ts us m.1 a.1 b.1)

quietly_at : (a b first end : ℕ) (old new : List Logged) → a ≡ first → b ≡ end → Quietly a b old new → Quietly first end old new
quietly_at a b first end old new e f q =
    let A : ℕ → Type 0 = λ k. Quietly k b old new in
    let B : ℕ → Type 0 = λ k. Quietly first k old new in
    subst B f (subst A e q)

-- what a row of seats knows of a file
abbrev known_in : List FileSeat → ℕ → List Logged
known_in seats file = unwrap_or (slice_get (map (λ (s : FileSeat). s.seen) seats) file) []

pub met_this : (first end : ℕ) (ss ts us : List FileSeat) → AreMet ss ts us → AllByRecursion (IsSeat first end) ss → (file : ℕ) → Quietly first end (known_in ss file) (known_in us file)
met_this first end [] [] [] m a file = quietly_same first end []
met_this first end [] [] (u ∷ us) m a file = absurd m
met_this first end [] (t ∷ ts) us m a file = absurd m
met_this first end (s ∷ ss) [] us m a file = absurd m
met_this first end (s ∷ ss) (t ∷ ts) [] m a file = absurd m
met_this first end (s ∷ ss) (t ∷ ts) (u ∷ us) m a zero = quietly_at s.first s.end first end s.seen u.seen a.0.first_is a.0.end_is m.0.this
met_this first end (s ∷ ss) (t ∷ ts) (u ∷ us) m a (suc file) = met_this first end ss ts us m.1 a.1 file

pub met_that : (first end : ℕ) (ss ts us : List FileSeat) → AreMet ss ts us → AllByRecursion (IsSeat first end) ts → (file : ℕ) → Quietly first end (known_in ts file) (known_in us file)
met_that first end [] [] [] m a file = quietly_same first end []
met_that first end [] [] (u ∷ us) m a file = absurd m
met_that first end [] (t ∷ ts) us m a file = absurd m
met_that first end (s ∷ ss) [] us m a file = absurd m
met_that first end (s ∷ ss) (t ∷ ts) [] m a file = absurd m
met_that first end (s ∷ ss) (t ∷ ts) (u ∷ us) m a zero = quietly_at t.first t.end first end t.seen u.seen a.0.first_is a.0.end_is m.0.that
met_that first end (s ∷ ss) (t ∷ ts) (u ∷ us) m a (suc file) = met_that first end ss ts us m.1 a.1 file

-- a pass that was met with another
pub met_pass : (first mid mid' end : ℕ) (ss ts us : List FileSeat) (p q : FilesKnown) → pass_of first mid ss ≡ p → pass_of mid' end ts ≡ q → AreMet ss ts us
    → pass_of first end us ≡ record { owners = p.owners; first = p.first; end = q.end; logs = map (λ (s : FileSeat). s.seen) us }
met_pass first mid mid' end ss ts us p q e f m =
    let P : FilesKnown → Type 0 = λ x. pass_of first end us ≡ record { owners = x.owners; first = x.first; end = q.end; logs = map (λ (s : FileSeat). s.seen) us } in
    let Q : FilesKnown → Type 0 = λ x. pass_of first end us ≡ record { owners = map owner_of ss; first = first; end = x.end; logs = map (λ (s : FileSeat). s.seen) us } in
    subst P e (subst Q f (knows_is (map owner_of us) (map owner_of ss) first end _ (map (λ (s : FileSeat). s.seen) us) (met_owners ss ts us m) refl))

pub all_this : (first mid end : ℕ) (ss ts us : List FileSeat) (p : FilesKnown) → pass_of first mid ss ≡ p → AreMet ss ts us → AllByRecursion (IsSeat first mid) ss → AllQuietly p.first p.end p (pass_of first end us)
all_this first mid end ss ts us p e m all = let P : FilesKnown → Type 0 = λ x. AllQuietly x.first x.end x (pass_of first end us) in subst P e (met_this first mid ss ts us m all)

pub all_that : (first mid end : ℕ) (ss ts us : List FileSeat) (q : FilesKnown) → pass_of mid end ts ≡ q → AreMet ss ts us → AllByRecursion (IsSeat mid end) ts → AllQuietly q.first q.end q (pass_of first end us)
all_that first mid end ss ts us q e m all = let P : FilesKnown → Type 0 = λ x. AllQuietly x.first x.end x (pass_of first end us) in subst P e (met_that mid end ss ts us m all)

-- the upper pass begins where the lower one ends
pub next_at : (p q : FilesKnown) (first mid mid' end : ℕ) (ss ts : List FileSeat) → pass_of first mid ss ≡ p → pass_of mid' end ts ≡ q → p.end ≡ q.first → mid' ≡ mid
next_at p q first mid mid' end ss ts e f next = ap (λ (x : FilesKnown). x.first) f ∙ (sym next ∙ ap (λ (x : FilesKnown). x.end) (sym e))

met_length : (ss ts us : List FileSeat) → AreMet ss ts us → length us ≡ length ss
met_length ss ts us m = sym (length-map owner_of us) ∙ (ap length (met_owners ss ts us m) ∙ length-map owner_of ss)

pub met_is : (first mid mid' end capacity capacity' : ℕ) (ss ts us : List FileSeat) (room room' : List TowerSeen) → mid' ≡ mid → IsPass first mid ss room capacity → IsPass mid' end ts room' capacity' → AreMet ss ts us → IsPass first end us room capacity
met_is first mid mid' end capacity capacity' ss ts us room room' next low high m =
    let P : ℕ → Type 0 = λ n. AllByRecursion (IsSeat n end) ts in
    let some = low.some in
    let more = high.some in
    let long = met_length ss ts us m in
    let enough = low.enough in
    record {
      seated = met_seats first mid end ss ts us m low.seated (subst P next high.seated);
      some = omega arith;
      empty = low.empty;
      enough = λ from_0. omega arith;
    }

-- A VOLUME JUST MOUNTED

module _ (callers : ℕ) where
  pub fresh_towers : (ts : List TowerSeen) (ls : List FileLock) (ss : List FileSeat) → AreFresh callers ts ls ss → map (λ (l : FileLock). l.part) ls ≡ ts
  fresh_towers [] [] [] f = refl
  fresh_towers [] [] (s ∷ ss) f = absurd f
  fresh_towers [] (l ∷ ls) ss f = absurd f
  fresh_towers (t ∷ ts) [] ss f = absurd f
  fresh_towers (t ∷ ts) (l ∷ ls) [] f = absurd f
  fresh_towers (t ∷ ts) (l ∷ ls) (s ∷ ss) f =
      let one : l.part ≡ t = f.0.begins.part_is in
      cons_is l.part t (map (λ (x : FileLock). x.part) ls) ts one (fresh_towers ts ls ss f.1)

  pub fresh_length : (ts : List TowerSeen) (ls : List FileLock) (ss : List FileSeat) → AreFresh callers ts ls ss → length ls ≡ length ts
  fresh_length ts ls ss f = sym (length-map (λ (l : FileLock). l.part) ls) ∙ ap length (fresh_towers ts ls ss f)

  pub fresh_locks : (ts : List TowerSeen) (ls : List FileLock) (ss : List FileSeat) → AreFresh callers ts ls ss → AllByRecursion (IsLock callers) ls
  fresh_locks [] [] ss f = tt
  fresh_locks [] (l ∷ ls) ss f = absurd f
  fresh_locks (t ∷ ts) [] ss f = tt
  fresh_locks (t ∷ ts) (l ∷ ls) [] f = absurd f
  fresh_locks (t ∷ ts) (l ∷ ls) (s ∷ ss) f =
      let part : l.part ≡ t = f.0.begins.part_is in
      (record { first_is = f.0.begins.first_is; end_is = f.0.begins.end_is; began_is = f.0.begins.list_is ∙ ap (λ (x : TowerSeen). log_in x.engine) (sym part) }, fresh_locks ts ls ss f.1)

  pub fresh_seats : (ts : List TowerSeen) (ls : List FileLock) (ss : List FileSeat) → AreFresh callers ts ls ss → AllByRecursion (IsSeat 0 callers) ss
  fresh_seats [] [] [] f = tt
  fresh_seats [] [] (s ∷ ss) f = absurd f
  fresh_seats [] (l ∷ ls) ss f = absurd f
  fresh_seats (t ∷ ts) [] ss f = absurd f
  fresh_seats (t ∷ ts) (l ∷ ls) [] f = tt
  fresh_seats (t ∷ ts) (l ∷ ls) (s ∷ ss) f =
      let is = f.0.seat_is in
      (record { first_is = ap (λ (x : FileSeat). x.first) is ∙ f.0.begins.first_is; end_is = ap (λ (x : FileSeat). x.end) is ∙ f.0.begins.end_is; free = ap (λ (x : FileSeat). x.taken) is }, fresh_seats ts ls ss f.1)

  fresh_owners : (ts : List TowerSeen) (ls : List FileLock) (ss : List FileSeat) → AreFresh callers ts ls ss → map owner_of ss ≡ map owner ls
  fresh_owners [] [] [] f = refl
  fresh_owners [] [] (s ∷ ss) f = absurd f
  fresh_owners [] (l ∷ ls) ss f = absurd f
  fresh_owners (t ∷ ts) [] ss f = absurd f
  fresh_owners (t ∷ ts) (l ∷ ls) [] f = absurd f
  fresh_owners (t ∷ ts) (l ∷ ls) (s ∷ ss) f =
      let one : owner_of s ≡ owner l = ap owner_of f.0.seat_is in
      cons_is (owner_of s) (owner l) (map owner_of ss) (map owner ls) one (fresh_owners ts ls ss f.1)

  fresh_logs : (ts : List TowerSeen) (ls : List FileLock) (ss : List FileSeat) → AreFresh callers ts ls ss → map (λ (s : FileSeat). s.seen) ss ≡ logs (map (λ (l : FileLock). l.part) ls)
  fresh_logs [] [] [] f = refl
  fresh_logs [] [] (s ∷ ss) f = absurd f
  fresh_logs [] (l ∷ ls) ss f = absurd f
  fresh_logs (t ∷ ts) [] ss f = absurd f
  fresh_logs (t ∷ ts) (l ∷ ls) [] f = absurd f
  fresh_logs (t ∷ ts) (l ∷ ls) (s ∷ ss) f =
      let part : l.part ≡ t = f.0.begins.part_is in
      let one : s.seen ≡ log_in l.part.engine = ap (λ (x : FileSeat). x.seen) f.0.seat_is ∙ (f.0.begins.list_is ∙ ap (λ (x : TowerSeen). log_in x.engine) (sym part)) in
      cons_is s.seen (log_in l.part.engine) (map (λ (x : FileSeat). x.seen) ss) (logs (map (λ (x : FileLock). x.part) ls)) one (fresh_logs ts ls ss f.1)

  pub fresh_pass : (ts : List TowerSeen) (ls : List FileLock) (ss : List FileSeat) → AreFresh callers ts ls ss → pass_of 0 callers ss ≡ whole (files_of callers ls)
  fresh_pass ts ls ss f = knows_is (map owner_of ss) (map owner ls) 0 callers (map (λ (s : FileSeat). s.seen) ss) _ (fresh_owners ts ls ss f) (fresh_logs ts ls ss f)

-- all towers, which stood last one first, have locks, up to some that are left
pub made_all : (towers turned left made : List TowerSeen) → turned ≡ reverse towers → reverse turned ≡ made ++ reverse left → left ≡ [] → made ≡ towers
made_all towers turned left made is so_far none =
    sym (append-nil made) ∙ (ap (λ (x : List TowerSeen). made ++ reverse x) (sym none) ∙ (sym so_far ∙ (ap (λ (x : List TowerSeen). reverse x) is ∙ reverse-reverse towers)))

-- those that were made are closed, and all towers stand again as they stood
pub closed_all : (callers : ℕ) (towers turned left made closed result : List TowerSeen) (ls : List FileLock) (ss : List FileSeat) → turned ≡ reverse towers → reverse turned ≡ made ++ reverse left → AreFresh callers made ls ss
    → AreClosed ls ss closed → result ≡ closed ++ reverse left → result ≡ towers
closed_all callers towers turned left made closed result ls ss is so_far fresh closes result_is =
    result_is ∙ (ap (λ (x : List TowerSeen). x ++ reverse left) (fresh_closed callers made ls ss closed fresh closes) ∙ (sym so_far ∙ (ap (λ (x : List TowerSeen). reverse x) is ∙ reverse-reverse towers)))

-- the pass of all callers has the list of towers, of which none is left
pub fresh_is : (callers capacity : ℕ) (made left : List TowerSeen) (ls : List FileLock) (ss : List FileSeat) → 0 < callers → AreFresh callers made ls ss → left ≡ [] → length ls + length left ≤ capacity → IsPass 0 callers ss left capacity
fresh_is callers capacity made left ls ss some fresh none room =
    let same = whole_length ls ss (fresh_whole callers made ls ss fresh) in
    record {
      seated = fresh_seats callers made ls ss fresh;
      some = some;
      empty = none;
      enough = λ from_0. omega arith;
    }

-- A VOLUME THAT ENDS

pub whole_rows : (end : ℕ) (locks : List FileLock) (seats : List FileSeat) → map owner_of seats ≡ map owner locks → AllByRecursion (IsLock end) locks → AllByRecursion (IsSeat 0 end) seats → AreWhole locks seats
whole_rows end [] [] e a b = tt
whole_rows end [] (s ∷ ss) e a b = absurd (cc e)
whole_rows end (l ∷ ls) [] e a b = absurd (cc e)
whole_rows end (l ∷ ls) (s ∷ ss) e a b =
    let free = free_rows 0 end (l ∷ ls) (s ∷ ss) e b in
    let rest : map owner_of ss ≡ map owner ls = cc e in
    (record { free = free.0; first_is = b.0.first_is ∙ sym a.0.first_is; end_is = b.0.end_is ∙ sym a.0.end_is; from_0 = a.0.first_is; began_is = a.0.began_is }, whole_rows end ls ss rest a.1 b.1)

pub closed_back : (end : ℕ) (ls : List FileLock) (ss : List FileSeat) (ts : List TowerSeen) → AreClosed ls ss ts → AllByRecursion (IsLock end) ls → AreBack end (map (λ (l : FileLock). l.part) ls) ts
closed_back end [] [] [] c a = tt
closed_back end [] [] (t ∷ ts) c a = absurd c
closed_back end [] (s ∷ ss) ts c a = absurd c
closed_back end (l ∷ ls) [] ts c a = absurd c
closed_back end (l ∷ ls) (s ∷ ss) [] c a = absurd c
closed_back end (l ∷ ls) (s ∷ ss) (t ∷ ts) c a = let P : ℕ → Type 0 = λ n. IsBack n l.part t in (subst P a.0.end_is c.0.back, closed_back end ls ss ts c.1 a.1)

pub closed_logs : (ls : List FileLock) (ss : List FileSeat) (ts : List TowerSeen) → AreClosed ls ss ts → logs ts ≡ map (λ (s : FileSeat). s.seen) ss
closed_logs [] [] [] c = refl
closed_logs [] [] (t ∷ ts) c = absurd c
closed_logs [] (s ∷ ss) ts c = absurd c
closed_logs (l ∷ ls) [] ts c = absurd c
closed_logs (l ∷ ls) (s ∷ ss) [] c = absurd c
closed_logs (l ∷ ls) (s ∷ ss) (t ∷ ts) c =
    let one : log_in t.engine ≡ s.seen = c.0.log in
    cons_is (log_in t.engine) s.seen (logs ts) (map (λ (x : FileSeat). x.seen) ss) one (closed_logs ls ss ts c.1)

-- the pass of all callers has a seat of each lock's whole range
pub whole_seats : (v : FilesSeen) (p : FilesKnown) (last first end : ℕ) (locks : List FileLock) (seats : List FileSeat) → files_of last locks ≡ v → pass_of first end seats ≡ p → p.owners ≡ v.owners → (p.first ≡ 0) × (p.end ≡ v.end)
    → AllByRecursion (IsLock last) locks → AllByRecursion (IsSeat first end) seats → AreWhole locks seats
whole_seats v p last first end locks seats vs ps of all is seated =
    let from : first ≡ 0 = ap (λ (q : FilesKnown). q.first) ps ∙ all.0 in
    let to : end ≡ last = ap (λ (q : FilesKnown). q.end) ps ∙ (all.1 ∙ ap (λ (x : FilesSeen). x.end) (sym vs)) in
    let A : ℕ → Type 0 = λ n. AllByRecursion (IsSeat n end) seats in
    let B : ℕ → Type 0 = λ n. AllByRecursion (IsSeat 0 n) seats in
    whole_rows last locks seats (owners_are v p last first end locks seats vs ps of) is (subst B to (subst A from seated))

-- there is room for the towers
pub enough_room : (p : FilesKnown) (first end capacity : ℕ) (locks : List FileLock) (seats : List FileSeat) (room : List TowerSeen) → pass_of first end seats ≡ p → p.first ≡ 0 → IsPass first end seats room capacity → AreWhole locks seats → length locks + length room ≤ capacity
enough_room p first end capacity locks seats room ps from_0 pass whole =
    let enough = pass.enough (ap (λ (q : FilesKnown). q.first) ps ∙ from_0) in
    let same = whole_length locks seats whole in
    let none = ap length pass.empty in
    omega arith

-- the towers that come back
pub all_back : (v : FilesSeen) (last : ℕ) (locks : List FileLock) (seats : List FileSeat) (closed room result : List TowerSeen) → files_of last locks ≡ v → AllByRecursion (IsLock last) locks → room ≡ [] → result ≡ closed ++ reverse room → AreClosed locks seats closed → AreBack v.end v.towers result
all_back v last locks seats closed room result vs is none result_is closes =
    let same : closed ≡ result = sym (result_is ∙ (ap (λ (x : List TowerSeen). closed ++ reverse x) none ∙ append-nil closed)) in
    let P : List TowerSeen → Type 0 = λ ts. AreBack last (map (λ (l : FileLock). l.part) locks) ts in
    let Q : FilesSeen → Type 0 = λ x. AreBack x.end x.towers result in
    subst Q vs (subst P same (closed_back last locks seats closed closes is))

pub all_logs : (p : FilesKnown) (first end : ℕ) (locks : List FileLock) (seats : List FileSeat) (closed room result : List TowerSeen) → pass_of first end seats ≡ p → room ≡ [] → result ≡ closed ++ reverse room → AreClosed locks seats closed → logs result ≡ p.logs
all_logs p first end locks seats closed room result ps none result_is closes =
    let same : result ≡ closed = result_is ∙ (ap (λ (x : List TowerSeen). closed ++ reverse x) none ∙ append-nil closed) in
    ap logs same ∙ (closed_logs locks seats closed closes ∙ ap (λ (q : FilesKnown). q.logs) ps)
