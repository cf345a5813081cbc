-- What one hold does, and what holds do one after another.
use Rattle.std.proofs.Common.{◌≡◌, ℕ, ◌+◌, ◌<◌, ◌≤◌, Bool, true, false, List, [], ◌∷◌, ◌++◌, length, length-append, Some, Result, Ok, Err, refl, sym, ap, subst, ◌∙◌, arith}
use Rattle.std.proofs.lemmas.List.{append-nil}
use Rattle.std.proofs.lemmas.Bool.Decides.{nat_tests}
use Rattle.hist_plain.specs.declared.event.Answer.{Answer}
use Rattle.hist_plain.specs.declared.event.Event.{Event}
use Rattle.hist_plain.specs.Event.{caller_of}
use Rattle.hist_lock.specs.Known.{giving, taking}
use Rattle.hist_lock.specs.Known.{is_own as own_of}
use Rattle.hist_lock.specs.Ranges.{Each, Follows, Grows, Quiet, in_range, may_add}
use Rattle.hist_lock.proofs.Lists.{follows_more, follows_self}
use Rattle.tower_log.specs.declared.logged.Logged.{Logged}
use Rattle.tower_log.specs.declared.logged.Logged.TheVariants.{Entered, Noted}
use Rattle.tower_log.specs.Log.{place_of, trail_of}
use Rattle.tower_log.proofs.LogLaws.{trail_of-append}
use Rattle.stack_engine.specs.declared.moved.Moved.{Moved}
use Rattle.stack_engine.specs.declared.moved.Moved.TheVariants.{Busy, Done, Stepped}
use Rattle.stack_engine.specs.declared.refusal.StepErr.{StepErr}
use Rattle.stack_engine.specs.declared.refusal.StepErr.TheVariants.{StoreFault, TrailFull, Memory}
use Rattle.stack_engine.specs.Engine.{EngineSeen}
use Rattle.stack_engine.specs.Tower.{TowerSeen}
use Rattle.spr_volume.specs.TowerCalls.{Moves, Tries}
use Rattle.spr_volume.specs.TowerShared.{by}
use Rattle.spr_volume.specs.FileCalls.{Called}
use Rattle.spr_volume.specs.Holds.{Held, IsSame}
use Rattle.spr_volume.specs.FilePasses.{FileSeat, Quietly, is_own}

-- LOGS THAT GO ON

pub quietly_same : (first end : ℕ) (log : List Logged) → Quietly first end log log
quietly_same first end log = follows_self (is_own first end) log log refl

pub quietly_then : (first end : ℕ) (a b c : List Logged) → Quietly first end a b → Quietly first end b c → Quietly first end a c
quietly_then first end a b c f g =
    let P : List Logged → Type 0 = λ log. Quietly first end a log in
    subst P (sym g.whole) (follows_more (is_own first end) a b g.rest f g.quiet)

place_append : (a rest : List Logged) → place_of a ≤ place_of (a ++ rest)
place_append a rest = let n : place_of (a ++ rest) ≡ length (trail_of a) + length (trail_of rest) = ap length (trail_of-append a rest) ∙ length-append (trail_of a) (trail_of rest) in omega arith

-- places only grow
pub place_later : (first end : ℕ) (a b : List Logged) → Quietly first end a b → place_of a ≤ place_of b
place_later first end a b q = let n : place_of b ≡ place_of (a ++ q.rest) = ap place_of q.whole in let m = place_append a q.rest in omega arith

-- ONE HOLD

-- a hold leaves the seat as it was, but for what it knows
pub same_hold : (s m n : FileSeat) (xs ys : List Logged) → s.taken ≡ false → m ≡ taking s xs → n ≡ giving m ys → IsSame s n
same_hold s m n xs ys free took gave =
    let F : List Logged → Bool → Bool → FileSeat = λ seen taken drew. record { lock = s.lock; first = s.first; end = s.end; seen = seen; taken = taken; took = drew; part = s.part } in
    let is : n ≡ F ys false true = gave ∙ ap (λ (k : FileSeat). giving k ys) took in
    let seen : ys ≡ n.seen = sym (ap (λ (k : FileSeat). k.seen) is) in
    let drew : true ≡ n.took = sym (ap (λ (k : FileSeat). k.took) is) in
    is ∙ (ap (λ l. F l false true) seen ∙ (ap (λ t. F n.seen t true) (sym free) ∙ ap (λ t. F n.seen s.taken t) drew))

own_call : (first end caller : ℕ) → first ≤ caller → caller < end → may_add first end (Some caller) ≡ true
own_call first end caller low high = grind (arith, nat_tests)

one_more : (first end : ℕ) (old new last : List Logged) (x : Logged) → new ≡ old ++ last → last ≡ x ∷ [] → may_add first end (by x) ≡ true → Grows by first end old new
one_more first end old new last x whole is may = record {
  added = last;
  whole = whole;
  one = rw is (let one : 1 ≤ 1 = omega arith in one);
  callers = subst (Each (λ e. may_add first end (by e))) (sym is) (may, tt);
}

none_more : (first end : ℕ) (old new last : List Logged) → new ≡ old ++ last → last ≡ [] → Grows by first end old new
none_more first end old new last whole is = record {
  added = last;
  whole = whole;
  one = rw is (let none : 0 ≤ 1 = omega arith in none);
  callers = subst (Each (λ e. may_add first end (by e))) (sym is) tt;
}

moves_grow : (first end caller : ℕ) (event : Event) (old new last : List Logged) (out : List ℕ) (r : Result Moved StepErr) → first ≤ caller → caller < end → caller_of event ≡ Some caller → new ≡ old ++ last
    → Moves caller event old last out r → Grows by first end old new
moves_grow first end caller event old new last out (Ok (Done answer)) low high mine whole h =
    one_more first end old new last (Entered h.0) whole h.1 (ap (may_add first end) (ap caller_of h.2.event_is ∙ mine) ∙ own_call first end caller low high)
moves_grow first end caller event old new last out (Ok (Stepped message)) low high mine whole h =
    one_more first end old new last (Entered h.0) whole h.1 (ap (may_add first end) (ap caller_of h.2 ∙ h.3))
moves_grow first end caller event old new last out (Ok (Busy holder)) low high mine whole h = none_more first end old new last whole h
moves_grow first end caller event old new last out (Err (StoreFault disk count)) low high mine whole h =
    one_more first end old new last (Noted (record { caller = caller; disk = disk; count = count })) whole h (own_call first end caller low high)
moves_grow first end caller event old new last out (Err TrailFull) low high mine whole h = none_more first end old new last whole h.0
moves_grow first end caller event old new last out (Err Memory) low high mine whole h = none_more first end old new last whole h.0

-- a try adds one entry at most, and none of another caller
pub tries_grow : (s m : FileSeat) (caller : ℕ) (event : List Event → Event) (old new : List Logged) (out : List ℕ) (r : Result Moved StepErr) → s.first ≤ caller → caller < s.end
    → ((trail : List Event) → caller_of (event trail) ≡ Some caller) → m ≡ taking s old → Tries caller event old new out r → Grows by m.first m.end m.seen new
tries_grow s m caller event old new out r low high mine took t =
    let P : FileSeat → Type 0 = λ k. Grows by k.first k.end k.seen new in
    subst P (sym took) (moves_grow s.first s.end caller (event (trail_of old)) old new t.last out r low high (mine (trail_of old)) t.log t.moves)

-- what was taken may be given as it is
pub gives_same : (s m : FileSeat) (log : List Logged) → m ≡ taking s log → Grows by m.first m.end m.seen log
gives_same s m log took =
    let P : FileSeat → Type 0 = λ k. Grows by k.first k.end k.seen log in
    subst P (sym took) (none_more s.first s.end log log [] (sym (append-nil log)) refl)

pub held_is : (s n : FileSeat) (caller : ℕ) (event : List Event → Event) (old new : List Logged) (out : List ℕ) (r : Result Moved StepErr) (place : ℕ) → Follows (own_of by s) s.seen old → Tries caller event old new out r
    → place ≡ place_of old → n.seen ≡ new → Held s.first s.end caller event s.seen n.seen out r place
held_is s n caller event old new out r place follows t at seen = record {
  before = old;
  quietly = follows;
  last = t.last;
  log = seen ∙ t.log;
  at = at;
  moves = t.moves;
}

-- what was known of what was given is known then
pub known_given : (P : EngineSeen → List Logged → Type 0) (began part : TowerSeen) (log seen : List Logged) → began ≡ part → seen ≡ log → P began.engine log → P part.engine seen
known_given P began part log seen is given h = subst (λ (t : TowerSeen). P t.engine seen) is (subst (P began.engine) (sym given) h)

-- HOLDS OF ONE CALL

-- a hold takes nothing back
pub held_later : (first end caller : ℕ) (event : List Event → Event) (old new : List Logged) (out : List ℕ) (r : Result Moved StepErr) (place : ℕ) → Held first end caller event old new out r place → place_of old ≤ place_of new
held_later first end caller event old new out r place h =
    let n : place_of new ≡ place_of (h.before ++ h.last) = ap place_of h.log in
    let a = place_later first end old h.before h.quietly in
    let b = place_append h.before h.last in
    omega arith

-- a hold that does not end the call enters a message of no caller, or nothing
moves_quietly : (first end caller : ℕ) (event : Event) (before last : List Logged) (out : List ℕ) (m : Moved) → ((answer : Answer) → m ≡ Done answer → ⊥) → Moves caller event before last out (Ok m) → Quiet (is_own first end) last
moves_quietly first end caller event before last out (Done answer) other h = absurd (other answer refl)
moves_quietly first end caller event before last out (Stepped message) other h = subst (Quiet (is_own first end)) (sym h.1) (ap (in_range first end) (ap caller_of h.2 ∙ h.3), tt)
moves_quietly first end caller event before last out (Busy holder) other h = subst (Quiet (is_own first end)) (sym h) tt

held_quietly : (first end caller : ℕ) (event : List Event → Event) (old new : List Logged) (out : List ℕ) (m : Moved) (place : ℕ) → ((answer : Answer) → m ≡ Done answer → ⊥) → Held first end caller event old new out (Ok m) place → Quietly first end old new
held_quietly first end caller event old new out m place other h =
    let P : List Logged → Type 0 = λ log. Quietly first end old log in
    subst P (sym h.log) (follows_more (is_own first end) old h.before h.last h.quietly (moves_quietly first end caller (event (trail_of h.before)) h.before h.last out m other h.moves))

-- the seat after some holds is still a free one of the lock
pub same_then : (s n u : FileSeat) → IsSame s n → IsSame n u → IsSame s u
same_then s n u e f = f ∙ ap (λ (k : FileSeat). let x : FileSeat = record k { seen = u.seen; took = u.took } in x) e

quietly_as : (s n : FileSeat) (old new : List Logged) → IsSame s n → Quietly n.first n.end old new → Quietly s.first s.end old new
quietly_as s n old new e q =
    let first : n.first ≡ s.first = ap (λ (k : FileSeat). k.first) e in
    let end : n.end ≡ s.end = ap (λ (k : FileSeat). k.end) e in
    let A : ℕ → Type 0 = λ k. Quietly k n.end old new in
    let B : ℕ → Type 0 = λ k. Quietly s.first k old new in
    subst B end (subst A first q)

module _ (s n u : FileSeat) (caller : ℕ) (event : List Event → Event) (out : List ℕ) (r : Result Moved StepErr) (place : ℕ) (same : IsSame s n) (q : Quietly s.first s.end s.seen n.seen) (h : Held n.first n.end caller event n.seen u.seen out r place) where
  began : Quietly s.first s.end s.seen h.before
  began = quietly_then s.first s.end s.seen n.seen h.before q (quietly_as s n n.seen h.before same h.quietly)

  -- a hold that does not end the call
  pub again : (m : Moved) → r ≡ Ok m → ((answer : Answer) → m ≡ Done answer → ⊥) → Quietly s.first s.end s.seen u.seen
  again m is other =
      let P : Result Moved StepErr → Type 0 = λ x. Held n.first n.end caller event n.seen u.seen out x place in
      quietly_then s.first s.end s.seen n.seen u.seen q (quietly_as s n n.seen u.seen same (held_quietly n.first n.end caller event n.seen u.seen out m place other (subst P is h)))

  -- a hold that ends it with an answer
  pub done : (answer : Answer) (IsIts : List Event → Event → Type 0) → r ≡ Ok (Done answer) → ((before : List Logged) → place_of n.seen ≤ place_of before → IsIts (trail_of before) (event (trail_of before)))
      → Called s.first s.end caller IsIts s.seen u.seen out (Ok (record { answer = answer; place = place }))
  done answer IsIts is its =
      let P : Result Moved StepErr → Type 0 = λ x. Moves caller (event (trail_of h.before)) h.before h.last out x in
      let moves = subst P is h.moves in
      record {
        before = h.before;
        quietly = began;
        last = h.last;
        log = h.log;
        ends = (
          moves.0,
          moves.1,
          subst (IsIts (trail_of h.before)) (sym moves.2.event_is) (its h.before (place_later n.first n.end n.seen h.before h.quietly)),
          record { event_is = refl; answer_is = moves.2.answer_is; bytes = moves.2.bytes },
          h.at,
        );
      }

  -- a hold in which it is refused
  pub refused : (err : StepErr) (IsIts : List Event → Event → Type 0) → r ≡ Err err → Called s.first s.end caller IsIts s.seen u.seen out (Err err)
  refused err IsIts is =
      let P : Result Moved StepErr → Type 0 = λ x. Moves caller (event (trail_of h.before)) h.before h.last out x in
      record { before = h.before; quietly = began; last = h.last; log = h.log; ends = subst P is h.moves }
