-- Rows of locks and of seats, and what holds of each.
use Rattle.std.proofs.Common.{◌≡◌, ℕ, zero, suc, ◌+◌, ◌<◌, ◌≤◌, List, [], ◌∷◌, ◌++◌, length, length-append, map, set, take, drop, reverse, get_or, Some, Result, Ok, refl, sym, ap, subst, ◌∙◌, arith, append_assoc, add-one}
use Rattle.std.specs.List.{AllByRecursion, slice_get}
use Rattle.std.proofs.lemmas.List.{append-nil, reverse-append}
use Rattle.std.proofs.lemmas.Option.{get_or_from_slice_get, same_Some, slice_get_read}
use Rattle.hist_lock.specs.Known.{IsFree}
use Rattle.stack_engine.specs.Engine.{log_in}
use Rattle.stack_engine.specs.Tower.{TowerSeen}
use Rattle.spr_volume.specs.FilePasses.{FileLock, FileSeat, Owner, IsSeat, owner, owner_of}
use Rattle.spr_volume.specs.Rows.{AreClosed, AreFree, AreFresh, AreMet, AreNeighbours, AreWhole, IsClosed, IsFresh, IsMet, IsWhole, above, below}

-- LISTS

same_head : {A : Type 0} (a b : A) (xs ys : List A) → a ∷ xs ≡ b ∷ ys → a ≡ b
same_head a b xs ys e = cc e

same_tail : {A : Type 0} (a b : A) (xs ys : List A) → a ∷ xs ≡ b ∷ ys → xs ≡ ys
same_tail a b xs ys e = cc e

pub cons_is : {A : Type 0} (a b : A) (xs ys : List A) → a ≡ b → xs ≡ ys → a ∷ xs ≡ b ∷ ys
cons_is a b xs ys e f = cc (e, f)

pub length-map : {A B : Type 0} (f : A → B) (xs : List A) → length (map f xs) ≡ length xs
length-map f [] = refl
length-map f (x ∷ xs) = ap suc (length-map f xs)

pub get_map : {A B : Type 0} (f : A → B) (xs : List A) (k : ℕ) (x : A) → slice_get xs k ≡ Some x → slice_get (map f xs) k ≡ Some (f x)
get_map f [] k x at = absurd (cc at)
get_map f (y ∷ ys) zero x at = ap (λ z. Some (f z)) (same_Some y x at)
get_map f (y ∷ ys) (suc k) x at = get_map f ys k x at

pub set_same : {A : Type 0} (xs : List A) (k : ℕ) (x : A) → slice_get xs k ≡ Some x → set xs k x ≡ xs
set_same [] k x at = refl
set_same (y ∷ ys) zero x at = ap (λ z. z ∷ ys) (sym (same_Some y x at))
set_same (y ∷ ys) (suc k) x at = ap (λ l. y ∷ l) (set_same ys k x at)

pub all_get : {A : Type 0} (P : A → Type 0) (xs : List A) (k : ℕ) (x : A) → AllByRecursion P xs → slice_get xs k ≡ Some x → P x
all_get P [] k x all at = absurd (cc at)
all_get P (y ∷ ys) zero x all at = subst P (same_Some y x at) all.0
all_get P (y ∷ ys) (suc k) x all at = all_get P ys k x all.1 at

pub all_set : {A : Type 0} (P : A → Type 0) (xs : List A) (k : ℕ) (x : A) → AllByRecursion P xs → P x → AllByRecursion P (set xs k x)
all_set P [] k x all is = tt
all_set P (y ∷ ys) zero x all is = (is, all.1)
all_set P (y ∷ ys) (suc k) x all is = (all.0, all_set P ys k x all.1 is)

pub all_map : {A B : Type 0} (f : A → B) (P : A → Type 0) (Q : B → Type 0) → ((x : A) → P x → Q (f x)) → (xs : List A) → AllByRecursion P xs → AllByRecursion Q (map f xs)
all_map f P Q go [] all = tt
all_map f P Q go (x ∷ xs) all = (go x all.0, all_map f P Q go xs all.1)

-- SEATS OF LOCKS

pub free_rows : (first end : ℕ) (locks : List FileLock) (seats : List FileSeat) → map owner_of seats ≡ map owner locks → AllByRecursion (IsSeat first end) seats → AreFree locks seats
free_rows first end [] [] e all = tt
free_rows first end [] (s ∷ ss) e all = absurd (cc e)
free_rows first end (l ∷ ls) [] e all = absurd (cc e)
free_rows first end (l ∷ ls) (s ∷ ss) e all =
    let o : owner_of s ≡ owner l = same_head (owner_of s) (owner l) (map owner_of ss) (map owner ls) e in
    (((ap (λ (x : Owner). x.lock) o, ap (λ (x : Owner). x.tower) o), all.0.free), free_rows first end ls ss (same_tail (owner_of s) (owner l) (map owner_of ss) (map owner ls) e) all.1)

pub free_at : (locks : List FileLock) (seats : List FileSeat) (k : ℕ) (l : FileLock) (s : FileSeat) → AreFree locks seats → slice_get locks k ≡ Some l → slice_get seats k ≡ Some s → IsFree l s
free_at [] [] k l s free at at' = absurd (cc at)
free_at [] (t ∷ ts) k l s free at at' = absurd free
free_at (m ∷ ms) [] k l s free at at' = absurd free
free_at (m ∷ ms) (t ∷ ts) zero l s free at at' =
    let P : FileLock → Type 0 = λ x. IsFree x t in
    subst (IsFree l) (same_Some t s at') (subst P (same_Some m l at) free.0)
free_at (m ∷ ms) (t ∷ ts) (suc k) l s free at at' = free_at ms ts k l s free.1 at at'

pub free_length : (locks : List FileLock) (seats : List FileSeat) → AreFree locks seats → length seats ≡ length locks
free_length [] [] free = refl
free_length [] (s ∷ ss) free = absurd free
free_length (l ∷ ls) [] free = absurd free
free_length (l ∷ ls) (s ∷ ss) free = ap suc (free_length ls ss free.1)

-- CUTTING A ROW, one seat after another

pub cut_at : (at k : ℕ) (seats : List FileSeat) → k < length seats → slice_get (map (below at) (take k seats) ++ drop k seats) k ≡ slice_get seats k
cut_at at k [] inside = absurd (omega arith)
cut_at at zero (s ∷ ss) inside = refl
cut_at at (suc k) (s ∷ ss) inside = cut_at at k ss (omega arith)

pub cut_more : (at k : ℕ) (seats : List FileSeat) (s : FileSeat) → slice_get seats k ≡ Some s → set (map (below at) (take k seats) ++ drop k seats) k (below at s) ≡ map (below at) (take (suc k) seats) ++ drop (suc k) seats
cut_more at k [] s is = absurd (cc is)
cut_more at zero (t ∷ ts) s is = ap (λ (x : FileSeat). below at x ∷ ts) (sym (same_Some t s is))
cut_more at (suc k) (t ∷ ts) s is = ap (λ l. below at t ∷ l) (cut_more at k ts s is)

pub others_more : (at k : ℕ) (seats : List FileSeat) (s : FileSeat) → slice_get seats k ≡ Some s → map (above at) (take k seats) ++ above at s ∷ [] ≡ map (above at) (take (suc k) seats)
others_more at k [] s is = absurd (cc is)
others_more at zero (t ∷ ts) s is = ap (λ (x : FileSeat). above at x ∷ []) (sym (same_Some t s is))
others_more at (suc k) (t ∷ ts) s is = ap (λ l. above at t ∷ l) (others_more at k ts s is)

pub cut_length : (at k : ℕ) (seats : List FileSeat) → length (map (below at) (take k seats) ++ drop k seats) ≡ length seats
cut_length at zero seats = refl
cut_length at (suc k) [] = refl
cut_length at (suc k) (s ∷ ss) = ap suc (cut_length at k ss)

-- what stands at the next index
pub cut_next : (at k : ℕ) (locks : List FileLock) (start now : List FileSeat) (l : FileLock) (s : FileSeat) → AreFree locks start → now ≡ map (below at) (take k start) ++ drop k start → k < length locks
    → l ≡ get_or locks k l → s ≡ get_or now k s → (slice_get start k ≡ Some s) × IsFree l s
cut_next at k locks start now l s free is inside lock seat =
    let n : length start ≡ length locks = free_length locks start free in
    let m : length now ≡ length start = ap length is ∙ cut_length at k start in
    let found : slice_get now k ≡ Some s = slice_get_read now (length now) k s refl (omega arith) seat in
    let was : slice_get start k ≡ Some s = sym (cut_at at k start (omega arith)) ∙ (ap (λ xs. slice_get xs k) (sym is) ∙ found) in
    (was, free_at locks start k l s free (slice_get_read locks (length locks) k l refl inside lock) was)

pub seats_next : (at k : ℕ) (start now : List FileSeat) (s u : FileSeat) → now ≡ map (below at) (take k start) ++ drop k start → slice_get start k ≡ Some s → u ≡ below at s → set now k u ≡ map (below at) (take (k + 1) start) ++ drop (k + 1) start
seats_next at k start now s u is found cut =
    let one : set now k u ≡ set (map (below at) (take k start) ++ drop k start) k (below at s) = ap (λ xs. set xs k u) is ∙ ap (λ x. set (map (below at) (take k start) ++ drop k start) k x) cut in
    rw add-one (one ∙ cut_more at k start s found)

pub others_next : (at k : ℕ) (start others others' : List FileSeat) (s u : FileSeat) → others ≡ map (above at) (take k start) → slice_get start k ≡ Some s → others' ≡ others ++ u ∷ [] → u ≡ above at s → others' ≡ map (above at) (take (k + 1) start)
others_next at k start others others' s u is found pushed cut =
    let one : others' ≡ map (above at) (take k start) ++ above at s ∷ [] = pushed ∙ (ap (λ xs. xs ++ u ∷ []) is ∙ ap (λ x. map (above at) (take k start) ++ x ∷ []) cut) in
    rw add-one (one ∙ others_more at k start s found)

pub others_length : (at k : ℕ) (start : List FileSeat) → k ≤ length start → length (map (above at) (take k start)) ≡ k
others_length at zero start le = refl
others_length at (suc k) [] le = absurd (omega arith)
others_length at (suc k) (s ∷ ss) le = ap suc (others_length at k ss (omega arith))

pub cut_all : (at k : ℕ) (seats : List FileSeat) → length seats ≤ k → map (below at) (take k seats) ++ drop k seats ≡ map (below at) seats
cut_all at zero [] le = refl
cut_all at zero (s ∷ ss) le = absurd (omega arith)
cut_all at (suc k) [] le = refl
cut_all at (suc k) (s ∷ ss) le = ap (λ l. below at s ∷ l) (cut_all at k ss (omega arith))

pub others_all : (at k : ℕ) (seats : List FileSeat) → length seats ≤ k → map (above at) (take k seats) ≡ map (above at) seats
others_all at zero [] le = refl
others_all at zero (s ∷ ss) le = absurd (omega arith)
others_all at (suc k) [] le = refl
others_all at (suc k) (s ∷ ss) le = ap (λ l. above at s ∷ l) (others_all at k ss (omega arith))

pub ok_is : {A B : Type 0} (a b : A) → ◌≡◌ {A = Result A B} (Ok a) (Ok b) → a ≡ b
ok_is a b e = cc e

-- MEETING TWO ROWS, from their ends on

-- the seats from some index on are met, and the others are as they were
pub record MeetsSoFar (start now others left : List FileSeat) : Type 0 where
  pub front : List FileSeat
  pub back : List FileSeat
  pub rest : List FileSeat
  pub met : List FileSeat
  pub start_is : start ≡ front ++ back
  pub now_is : now ≡ front ++ met
  pub others_are : others ≡ left ++ rest
  pub same : length front ≡ length left
  pub are_met : AreMet back rest met

same_neighbours : (ss ts : List FileSeat) → AreNeighbours ss ts → length ss ≡ length ts
same_neighbours [] [] n = refl
same_neighbours [] (t ∷ ts) n = absurd n
same_neighbours (s ∷ ss) [] n = absurd n
same_neighbours (s ∷ ss) (t ∷ ts) n = ap suc (same_neighbours ss ts n.1)

pub meets_none : (start others : List FileSeat) → AreNeighbours start others → MeetsSoFar start start others others
meets_none start others next = record {
  front = start;
  back = [];
  rest = [];
  met = [];
  start_is = sym (append-nil start);
  now_is = sym (append-nil start);
  others_are = sym (append-nil others);
  same = same_neighbours start others next;
  are_met = tt;
}

-- a list that is one longer than a number ends with an element
last_of : (xs : List FileSeat) (n : ℕ) → length xs ≡ suc n → (front : List FileSeat) × (s : FileSeat) × (xs ≡ front ++ s ∷ []) × (length front ≡ n)
last_of [] n e = absurd (omega arith)
last_of (x ∷ []) n e = ([], x, refl, omega arith)
last_of (x ∷ y ∷ ys) zero e = absurd (omega arith)
last_of (x ∷ y ∷ ys) (suc n) e =
    let l = last_of (y ∷ ys) n (omega arith) in
    (x ∷ l.0, l.1, ap (λ z. x ∷ z) l.2, ap suc l.3)

get_after : {A : Type 0} (front rest : List A) (x : A) → slice_get (front ++ x ∷ rest) (length front) ≡ Some x
get_after [] rest x = refl
get_after (y ∷ ys) rest x = get_after ys rest x

set_after : {A : Type 0} (front rest : List A) (x y : A) → set (front ++ x ∷ rest) (length front) y ≡ front ++ y ∷ rest
set_after [] rest x y = refl
set_after (z ∷ zs) rest x y = ap (λ l. z ∷ l) (set_after zs rest x y)

pub neighbours_at : (ss ts : List FileSeat) (k : ℕ) (s t : FileSeat) → AreNeighbours ss ts → slice_get ss k ≡ Some s → slice_get ts k ≡ Some t → s.end ≡ t.first
neighbours_at [] [] k s t n e f = absurd (cc e)
neighbours_at [] (y ∷ ys) k s t n e f = absurd n
neighbours_at (x ∷ xs) [] k s t n e f = absurd n
neighbours_at (x ∷ xs) (y ∷ ys) zero s t n e f = sym (ap (λ (z : FileSeat). z.end) (same_Some x s e)) ∙ (n.0 ∙ ap (λ (z : FileSeat). z.first) (same_Some y t f))
neighbours_at (x ∷ xs) (y ∷ ys) (suc k) s t n e f = neighbours_at xs ys k s t n.1 e f

module _ (start now others left left' : List FileSeat) (t : FileSeat) (k : ℕ) (m : MeetsSoFar start now others left) (popped : left ≡ left' ++ t ∷ []) (at : k ≡ length left') where
  last : (front : List FileSeat) × (s : FileSeat) × (m.front ≡ front ++ s ∷ []) × (length front ≡ length left')
  last = last_of m.front (length left') (m.same ∙ (ap length popped ∙ omega (arith, length-append left' (t ∷ []))))

  seam : (rest : List FileSeat) → m.front ++ rest ≡ last.0 ++ last.1 ∷ rest
  seam rest = ap (λ l. l ++ rest) last.2 ∙ append_assoc last.0 (last.1 ∷ []) rest

  index : k ≡ length last.0
  index = at ∙ sym last.3

  get_front : (xs rest : List FileSeat) → xs ≡ m.front ++ rest → slice_get xs k ≡ Some last.1
  get_front xs rest is = ap (λ l. slice_get l k) (is ∙ seam rest) ∙ (ap (slice_get (last.0 ++ last.1 ∷ rest)) index ∙ get_after last.0 rest last.1)

  left_is : others ≡ left' ++ t ∷ m.rest
  left_is = m.others_are ∙ (ap (λ l. l ++ m.rest) popped ∙ append_assoc left' (t ∷ []) m.rest)

  pub met_other : slice_get others k ≡ Some t
  met_other = ap (λ l. slice_get l k) left_is ∙ (ap (slice_get (left' ++ t ∷ m.rest)) at ∙ get_after left' m.rest t)

  module _ (s : FileSeat) (found : s ≡ get_or now k s) where
    seat_is : last.1 ≡ s
    seat_is = sym (found ∙ get_or_from_slice_get now k last.1 s (get_front now m.met m.now_is))

    pub met_start : slice_get start k ≡ Some s
    met_start = get_front start m.back m.start_is ∙ ap (λ x. Some x) seat_is

    -- one more seat is met
    pub meets_more : (u : FileSeat) → IsMet s t u → MeetsSoFar start (set now k u) others left'
    meets_more u met = record {
      front = last.0;
      back = last.1 ∷ m.back;
      rest = t ∷ m.rest;
      met = u ∷ m.met;
      start_is = m.start_is ∙ seam m.back;
      now_is = ap (λ l. set l k u) (m.now_is ∙ seam m.met) ∙ (ap (λ i. set (last.0 ++ last.1 ∷ m.met) i u) index ∙ set_after last.0 m.met last.1 u);
      others_are = left_is;
      same = last.3;
      are_met = (let P : FileSeat → Type 0 = λ x. IsMet x t u in subst P (sym seat_is) met, m.are_met);
    }

-- CLOSING A ROW, from its end on

-- the locks from some index on are closed, and their towers stand last one first after those that were there
pub record ClosesSoFar (locks locks' : List FileLock) (seats seats' : List FileSeat) (room towers : List TowerSeen) : Type 0 where
  pub closed_locks : List FileLock
  pub closed_seats : List FileSeat
  pub closed : List TowerSeen
  pub locks_are : locks ≡ locks' ++ closed_locks
  pub seats_are : seats ≡ seats' ++ closed_seats
  pub whole : AreWhole locks' seats'
  pub towers_are : reverse towers ≡ closed ++ reverse room
  pub are_closed : AreClosed closed_locks closed_seats closed

pub closes_none : (locks : List FileLock) (seats : List FileSeat) (room : List TowerSeen) → AreWhole locks seats → ClosesSoFar locks locks seats seats room room
closes_none locks seats room whole = record {
  closed_locks = [];
  closed_seats = [];
  closed = [];
  locks_are = sym (append-nil locks);
  seats_are = sym (append-nil seats);
  whole = whole;
  towers_are = refl;
  are_closed = tt;
}

pub whole_length : (locks : List FileLock) (seats : List FileSeat) → AreWhole locks seats → length seats ≡ length locks
whole_length [] [] w = refl
whole_length [] (s ∷ ss) w = absurd w
whole_length (l ∷ ls) [] w = absurd w
whole_length (l ∷ ls) (s ∷ ss) w = ap suc (whole_length ls ss w.1)

-- the last lock with its seat, and the others
whole_last : (locks : List FileLock) (seats : List FileSeat) (l : FileLock) (s : FileSeat) → AreWhole (locks ++ l ∷ []) (seats ++ s ∷ []) → AreWhole locks seats × IsWhole l s
whole_last [] [] l s w = (tt, w.0)
whole_last [] (t ∷ []) l s w = absurd w.1
whole_last [] (t ∷ u ∷ us) l s w = absurd w.1
whole_last (m ∷ []) [] l s w = absurd w.1
whole_last (m ∷ n ∷ ns) [] l s w = absurd w.1
whole_last (m ∷ ms) (t ∷ ts) l s w = let rest = whole_last ms ts l s w.1 in ((w.0, rest.0), rest.1)

module _ (locks locks' locks'' : List FileLock) (seats seats' seats'' : List FileSeat) (room towers : List TowerSeen) (l : FileLock) (s : FileSeat) (m : ClosesSoFar locks locks' seats seats' room towers)
    (popped : locks' ≡ locks'' ++ l ∷ []) (taken : seats' ≡ seats'' ++ s ∷ []) where
  parts : AreWhole locks'' seats'' × IsWhole l s
  parts =
      let A : List FileLock → Type 0 = λ x. AreWhole x seats' in
      whole_last locks'' seats'' l s (subst (AreWhole (locks'' ++ l ∷ [])) taken (subst A popped m.whole))

  pub closes_last : IsWhole l s
  closes_last = parts.1

  pub closes_more : (t : TowerSeen) → IsClosed l s t → ClosesSoFar locks locks'' seats seats'' room (towers ++ t ∷ [])
  closes_more t is = record {
    closed_locks = l ∷ m.closed_locks;
    closed_seats = s ∷ m.closed_seats;
    closed = t ∷ m.closed;
    locks_are = m.locks_are ∙ (ap (λ x. x ++ m.closed_locks) popped ∙ append_assoc locks'' (l ∷ []) m.closed_locks);
    seats_are = m.seats_are ∙ (ap (λ x. x ++ m.closed_seats) taken ∙ append_assoc seats'' (s ∷ []) m.closed_seats);
    whole = parts.0;
    towers_are = reverse-append towers (t ∷ []) ∙ ap (λ x. t ∷ x) m.towers_are;
    are_closed = (is, m.are_closed);
  }

-- LOCKS ROUND TOWERS

pub fresh_more : (end : ℕ) (ts : List TowerSeen) (ls : List FileLock) (ss : List FileSeat) (t : TowerSeen) (l : FileLock) (s : FileSeat) → AreFresh end ts ls ss → IsFresh end t l s → AreFresh end (ts ++ t ∷ []) (ls ++ l ∷ []) (ss ++ s ∷ [])
fresh_more end [] [] [] t l s f is = (is, tt)
fresh_more end [] [] (y ∷ ys) t l s f is = absurd f
fresh_more end [] (x ∷ xs) ss t l s f is = absurd f
fresh_more end (u ∷ us) [] ss t l s f is = absurd f
fresh_more end (u ∷ us) (x ∷ xs) [] t l s f is = absurd f
fresh_more end (u ∷ us) (x ∷ xs) (y ∷ ys) t l s f is = (f.0, fresh_more end us xs ys t l s f.1 is)

-- each tower has a lock and its seat, up to those that are left, which stand last one first
pub record LocksSoFar (end : ℕ) (start left : List TowerSeen) (locks : List FileLock) (seats : List FileSeat) : Type 0 where
  pub made : List TowerSeen
  pub start_is : reverse start ≡ made ++ reverse left
  pub fresh : AreFresh end made locks seats
  pub same : length locks + length left ≡ length start
  pub seats_same : length seats ≡ length locks

pub locks_more : (end : ℕ) (start left left' : List TowerSeen) (locks : List FileLock) (seats : List FileSeat) (t : TowerSeen) (l : FileLock) (s : FileSeat) → LocksSoFar end start left locks seats → left ≡ left' ++ t ∷ [] → IsFresh end t l s
    → LocksSoFar end start left' (locks ++ l ∷ []) (seats ++ s ∷ [])
locks_more end start left left' locks seats t l s m popped is =
    let turned : reverse left ≡ t ∷ reverse left' = ap reverse popped ∙ reverse-append left' (t ∷ []) in
    let long : length left ≡ length left' + 1 = ap length popped ∙ omega (arith, length-append left' (t ∷ [])) in
    record {
      made = m.made ++ t ∷ [];
      start_is = m.start_is ∙ (ap (λ x. m.made ++ x) turned ∙ sym (append_assoc m.made (t ∷ []) (reverse left')));
      fresh = fresh_more end m.made locks seats t l s m.fresh is;
      same = (let a = length-append locks (l ∷ []) in let b = m.same in omega (arith, long));
      seats_same = (let a = length-append locks (l ∷ []) in let b = length-append seats (s ∷ []) in let e = m.seats_same in omega arith);
    }

pub fresh_whole : (end : ℕ) (ts : List TowerSeen) (ls : List FileLock) (ss : List FileSeat) → AreFresh end ts ls ss → AreWhole ls ss
fresh_whole end [] [] [] f = tt
fresh_whole end [] [] (s ∷ ss) f = absurd f
fresh_whole end [] (l ∷ ls) ss f = absurd f
fresh_whole end (t ∷ ts) [] ss f = absurd f
fresh_whole end (t ∷ ts) (l ∷ ls) [] f = absurd f
fresh_whole end (t ∷ ts) (l ∷ ls) (s ∷ ss) f =
    let b = f.0.begins in
    let part : l.part ≡ t = b.part_is in (
      record {
        free = subst (IsFree l) (sym f.0.seat_is) ((refl, refl), refl);
        first_is = ap (λ (x : FileSeat). x.first) f.0.seat_is;
        end_is = ap (λ (x : FileSeat). x.end) f.0.seat_is;
        from_0 = b.first_is;
        began_is = b.list_is ∙ ap (λ (x : TowerSeen). log_in x.engine) (sym part);
      },
      fresh_whole end ts ls ss f.1,
    )

-- locks that nobody used give the very towers back
pub fresh_closed : (end : ℕ) (ts : List TowerSeen) (ls : List FileLock) (ss : List FileSeat) (closed : List TowerSeen) → AreFresh end ts ls ss → AreClosed ls ss closed → closed ≡ ts
fresh_closed end [] [] [] [] f c = refl
fresh_closed end [] [] [] (u ∷ us) f c = absurd c
fresh_closed end [] [] (s ∷ ss) us f c = absurd f
fresh_closed end [] (l ∷ ls) ss us f c = absurd f
fresh_closed end (t ∷ ts) [] ss us f c = absurd f
fresh_closed end (t ∷ ts) (l ∷ ls) [] us f c = absurd f
fresh_closed end (t ∷ ts) (l ∷ ls) (s ∷ ss) [] f c = absurd c
fresh_closed end (t ∷ ts) (l ∷ ls) (s ∷ ss) (u ∷ us) f c =
    let same : u ≡ t = c.0.untouched (ap (λ (x : FileSeat). x.took) f.0.seat_is) ∙ ap (λ x. x.tower) f.0.begins.value_is in
    let rest : us ≡ ts = fresh_closed end ts ls ss us f.1 c.1 in
    cons_is u t us ts same rest
