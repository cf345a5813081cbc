-- Chains of sittings: each flush of a chain that answered Ok lasts.
use Rattle.std.proofs.Common.{◌≡◌, ℕ, zero, suc, ◌+◌, ◌<◌, ◌≤◌, ◌⊎◌, inl, inr, Bool, true, false, List, [], ◌∷◌, ◌++◌, set, Option, Some, None, refl, sym, ◌∙◌, ap, subst, arith}
use Rattle.std.specs.Prelude.{ltb, length, get_or}
use Rattle.std.proofs.lemmas.Bool.{or_left, or_right, lt-ltb}
use Rattle.mirror_rules.specs.Tree.{Image, Cell, Store, Why, Seat, In, Out, limit, next}
use Rattle.mirror_rules.specs.Claims.{Pairs, pairs_none, pairs_more, Every, every_none, every_more, has_here, has_later, Nth, nth_here, nth_later, HasPages, Keeps, keeps_out, keeps_left, keeps_live, keeps_lost}
use Rattle.mirror_rules.specs.Steps.{Act, Write, Says, Done, Fault, Asked, asked_out, asked_stale, asked_took, asked_lost, asked_none, Looked, looked_out, looked_stale, looked_same, looked_refused, Flushes, flush_owed, flush_even, flush_lost, flush_none, Puts, put_whole, put_lost, put_refused, Halted, halted_out, halted_stale, halted_live, RaiseStops, stops_here, stops_later, FlushStops, stops_owed, stops_even, stops_lost}
use Rattle.mirror_rules.specs.Opening.{Meets, AtMost, Good, Opens}
use Rattle.mirror_rules.specs.Fates.{Sized, State, state_blank, state_bad, state_down, state_unmade, Final, final_bad, final_out, final_made, final_in, OpeningEnd, ended_same, ended_won}
use Rattle.mirror_rules.specs.Guards.{Within, Or, Among, among, Medium, Direct, Caching, Settled, Stands, stands, Shows, shows_now, shows_kept, shows_out, At, at_place, IsIn, Guards, Placed, placed, Anywhere, in_drawer, in_place, Leaves, live_at}
use Rattle.mirror_rules.specs.Levels.{Near, near_in, near_out, Level, Even, Lower, lower_in, lower_out}
use Rattle.mirror_rules.specs.History.{Since_then, Versions, Sync, NoSync, Synced, Lived, Allowed, wrote, always, lived, Goes, goes_out, goes_same, goes_later, Unmoved, unmoved_in, unmoved_out, Went, Kept, Moment, Rests, Runs, Looks, Over, Comes, Count, Marked, Up, up, either, Joins, joins_run, joins_sync, joins_none, image_if, images_at, everywhere, Chain, chain_starts, chain_runs, chain_looks, chain_refused, run_reads, run_writes, run_flushes, run_syncs, run_ends, run_write_stops, run_flush_stops, run_goes, run_keeps, look_reads, look_writes, look_ends, look_stays, look_write_stops, chain_rests}
use Rattle.mirror_rules.proofs.PageLaws.{flush_keeps, keeps-holds, write_round, write-holds, refused-holds, read-holds, pairs-then}
use Rattle.mirror_rules.proofs.RoundLaws.{pairs-map, or-cases}
use Rattle.mirror_rules.proofs.GenLaws.{some-same, some-none, every-map, flush-bound, flush-near, flush-even, flush-paid, flush-stops-bound, flush-stops-near, puts-near, puts-even, puts-owes, looks-near, looks-even, write-stops-near, levels-near, pays-up}
use Rattle.mirror_rules.proofs.OpenLaws.{nth-same, nth-back, state-pages, fate-most}
use Rattle.mirror_rules.proofs.GivesLaws.{opens-answer}
use Rattle.mirror_rules.proofs.LevelLaws.{states-level}
use Rattle.mirror_rules.proofs.GuardLaws.{guards-less, guards-step, Came, came_within, came_level, Moves, Still, stills-move, puts-still, looks-still, write-stops-still, rises-move, flushes-rise, flush-stops-rise, every-nth, live-nth, within-or, within-set, within-now, guards-found, leaves-at}
use Rattle.mirror_rules.proofs.EntryLaws.{Comers, chosen, open-guards, open-joined, opening-end, final-later, live-shown, wins-at, all-most, good-image, stood-at, most-at, met-shows, shown-fate}

-- a disk that is left out stays so, and one that was not opened stays as it is
data Lessens : Seat → Seat → Type 0 where
  less_live : {b : Bool} {c d : Cell} → Lessens (In true c) (In b d)
  less_left : {c d : Cell} → Lessens (In false c) (In false d)
  less_out : {b : Why} {s : Store} → Lessens (Out b s) (Out b s)

less-live : {xs ys : List Seat} → Pairs Lessens xs ys → (d : ℕ) → live_at ys d ≡ true → live_at xs d ≡ true
less-live pairs_none d e = e
less-live (pairs_more less_live m) zero e = refl
less-live (pairs_more less_left m) zero e = e
less-live (pairs_more less_out m) zero e = e
less-live (pairs_more less_live m) (suc d) e = less-live m d e
less-live (pairs_more less_left m) (suc d) e = less-live m d e
less-live (pairs_more less_out m) (suc d) e = less-live m d e

less-then : {xs ys zs : List Seat} → Pairs Lessens xs ys → Pairs Lessens ys zs → Pairs Lessens xs zs
less-then h i = pairs-then (λ x y z. one) h i where
  one : {x y z : Seat} → Lessens x y → Lessens y z → Lessens x z
  one less_live less_live = less_live
  one less_live less_left = less_live
  one less_left less_left = less_left
  one less_out less_out = less_out

asked-less : {a : Act} {s : Says} {xs ys : List Seat} → Pairs (Asked a s) xs ys → Pairs Lessens xs ys
asked-less h = pairs-map (λ x y. one) h where
  one : {a : Act} {s : Says} {x y : Seat} → Asked a s x y → Lessens x y
  one asked_out = less_out
  one asked_stale = less_left
  one (asked_took h) = less_live
  one (asked_lost h) = less_live
  one (asked_none h) = less_live

keeps-less : {f r : Bool} {xs ys : List Seat} → Pairs (Keeps f r) xs ys → Pairs Lessens xs ys
keeps-less h = pairs-map (λ x y. one) h where
  one : {f r : Bool} {x y : Seat} → Keeps f r x y → Lessens x y
  one keeps_out = less_out
  one keeps_left = less_left
  one (keeps_live h a b) = less_live
  one (keeps_lost h a) = less_live

puts-less : {p : ℕ} {x : List ℕ} {o q : Bool} {s : Says} {xs ys : List Seat} → Puts p x o xs s q ys → Pairs Lessens xs ys
puts-less (put_whole h) = asked-less h.each
puts-less (put_lost h) = asked-less h.each
puts-less (put_refused h) = asked-less h.each

looks-less : {s : Says} {xs ys : List Seat} → Pairs (Looked s) xs ys → Pairs Lessens xs ys
looks-less h = pairs-map (λ x y. one) h where
  one : {s : Says} {x y : Seat} → Looked s x y → Lessens x y
  one looked_out = less_out
  one looked_stale = less_left
  one (looked_same e) = less_live
  one (looked_refused l) = less_live

halted-less : {a : Act} {xs ys : List Seat} → Pairs (Halted a) xs ys → Pairs Lessens xs ys
halted-less h = pairs-map (λ x y. one) h where
  one : {a : Act} {x y : Seat} → Halted a x y → Lessens x y
  one halted_out = less_out
  one halted_stale = less_left
  one (halted_live h) = less_live

raise-stops-less : {g h : ℕ} {xs ys : List Seat} → RaiseStops g xs h ys → Pairs Lessens xs ys
raise-stops-less (stops_here h) = halted-less h
raise-stops-less (stops_later h i) = less-then (asked-less h.each) (raise-stops-less i)

flush-stops-less : {o : Bool} {g h : ℕ} {xs ys : List Seat} → FlushStops o g xs h ys → Pairs Lessens xs ys
flush-stops-less (stops_owed h) = raise-stops-less h
flush-stops-less (stops_even h) = halted-less h
flush-stops-less (stops_lost h i) = less-then (asked-less h.each) (raise-stops-less i)

-- what is shown beside the opened disks: in a drawer, or by a disk that was not opened
pub data Aside (past : List Image) (xs : List Seat) (i : Image) : Type 0 where
  aside_past : IsIn past i → Aside past xs i
  aside_out : {e : ℕ} {b : Why} {s : Store} → Nth e xs (Out b s) → s.image ≡ Some i → Aside past xs i

less-out : {x : Seat} {b : Why} {s : Store} → Lessens x (Out b s) → x ≡ Out b s
less-out less_out = refl

less-aside : {past : List Image} {xs ys : List Seat} (i : Image) → Pairs Lessens xs ys → Aside past ys i → Aside past xs i
less-aside i m (aside_past k) = aside_past k
less-aside {xs = xs} i m (aside_out {e = e} n q) = let s = nth-back m n in aside_out (subst (Nth e xs) (less-out s.2) s.1) q

-- a sync was done in the chain
abbrev pub IsDone : Sync → Type 0
IsDone NoSync = ⊥
IsDone (Synced F ws) = Unit {0}
IsDone (Lived Vs ws) = Unit {0}

unwrote : (f : Sync) (p : ℕ) (x : List ℕ) → IsDone (wrote p x f) → IsDone f
unwrote NoSync p x h = h
unwrote (Synced F ws) p x h = tt
unwrote (Lived Vs ws) p x h = tt

-- what is true wherever a chain stands. Between two sittings: those that count for the next run have at least a generation, and
-- none has more than the next one
pub record Resting (f : Sync) (past next counts : List Image) : Type 0 where
  pub m : ℕ
  pub least : (i : Image) → IsIn next i → m ≤ i.generation
  pub most : (i : Image) → IsIn past i → i.generation ≤ m + 1
  pub both : (i : Image) → IsIn next i → IsIn counts i
  pub guards : Guards (Allowed f) (λ c. IsIn counts c) (λ b. IsIn past b)
  pub lifted : IsDone f → 1 < m

-- in a sitting in which no flush is called, or at the end of one
pub record Ending (v : Medium) (f : Sync) (past next counts : List Image) (run sync : ℕ → Bool) (xs : List Seat) : Type 0 where
  pub m : ℕ
  pub least : (i : Image) → IsIn next i → m ≤ i.generation
  pub least_at : (i : Image) → Placed (Shows v) run xs i → m ≤ i.generation
  pub most : (i : Image) → Anywhere (Shows v) past xs i → i.generation ≤ m + 1
  pub both : (i : Image) → IsIn next i → IsIn counts i
  pub both_at : (d : ℕ) → run d ≡ true → sync d ≡ true
  pub guards : Guards (Allowed f) (λ c. IsIn counts c ⊎ Placed (Shows v) sync xs c) (Anywhere (Shows v) past xs)
  pub lifted : IsDone f → 1 < m

-- in a run
pub record Running (v : Medium) (f : Sync) (past counts : List Image) (sync : ℕ → Bool) (o : Bool) (g : ℕ) (xs : List Seat) : Type 0 where
  pub bound : g < limit
  pub near : Every (Near v g) xs
  pub aside : (i : Image) → Aside past xs i → i.generation ≤ g + 1
  pub even : Even v o g xs
  pub below : o ≡ false → (i : Image) → Aside past xs i → i.generation < g
  pub pages : List (List ℕ)
  pub have : Every (HasPages pages) xs
  pub within : Within (Allowed f) pages
  pub live : (d : ℕ) → live_at xs d ≡ true → sync d ≡ true
  pub paid : o ≡ false → 1 < g
  pub lifted : IsDone f → 1 < g
  pub guards : Guards (Allowed f) (λ c. IsIn counts c ⊎ Placed (Shows v) sync xs c) (Anywhere (Shows v) past xs)

abbrev pub Sound : Medium → Sync → Moment → Type 0
Sound v f (Rests past next counts) = Resting f past next counts
Sound v f (Runs past counts sync o g xs) = Running v f past counts sync o g xs
Sound v f (Looks past next counts run sync o xs) = Ending v f past next counts run sync xs
Sound v f (Over past next counts run sync xs) = Ending v f past next counts run sync xs

-- a write is one of the later ones
wrote-within : (f : Sync) (p : ℕ) (x : List ℕ) (F : List (List ℕ)) → Within (Or (Allowed f) p x) F → Within (Allowed (wrote p x f)) F
wrote-within NoSync p x F w q l = tt
wrote-within (Synced G ws) p x F w q l = w q l
wrote-within (Lived Vs ws) p x F w q l = w q l

wrote-guards : (f : Sync) (p : ℕ) (x : List ℕ) {C W : Image → Type 0} → Guards (Or (Allowed f) p x) C W → Guards (Allowed (wrote p x f)) C W
wrote-guards f p x g = record {
  holds = λ c h. wrote-within f p x c.pages (g.holds c h);
  below = λ c b h w. elim (g.below c b h w) [ inl k ↦ inl (wrote-within f p x b.pages k) | inr k ↦ inr k ];
}

no-sync : {C W : Image → Type 0} → Guards (Allowed NoSync) C W
no-sync = record { holds = λ c h p l. tt; below = λ c b h w. inl (λ p l. tt) }

-- reads and writes
still-least : {v : Medium} {A B : ℕ → List ℕ → Type 0} {m : ℕ} {L : ℕ → Bool} {xs ys : List Seat} → Pairs (Still v A B) xs ys → ((i : Image) → Placed (Shows v) L xs i → m ≤ i.generation) → (i : Image) → Placed (Shows v) L ys i → m ≤ i.generation
still-least h f i (placed ld (at_place n z)) = let s = nth-back h n in let r = s.2.from i z in let k = f r.0 (placed ld (at_place s.1 r.1)) in omega (arith, k, r.2)

still-most : {v : Medium} {A B : ℕ → List ℕ → Type 0} {m : ℕ} {past : List Image} {xs ys : List Seat} → Pairs (Still v A B) xs ys → ((i : Image) → Anywhere (Shows v) past xs i → i.generation ≤ m) → (i : Image) → Anywhere (Shows v) past ys i → i.generation ≤ m
still-most h f i (in_drawer k) = f i (in_drawer k)
still-most h f i (in_place (at_place n z)) = let s = nth-back h n in let r = s.2.from i z in let k = f r.0 (in_place (at_place s.1 r.1)) in omega (arith, k, r.2)

ending-read : {v : Medium} {f : Sync} {past next counts : List Image} {run sync : ℕ → Bool} {xs ys : List Seat} → Pairs (Still v (Allowed f) (Allowed f)) xs ys → Ending v f past next counts run sync xs → Ending v f past next counts run sync ys
ending-read h a = record {
  m = a.m;
  least = a.least;
  least_at = still-least h a.least_at;
  most = still-most h a.most;
  both = a.both;
  both_at = a.both_at;
  guards = guards-step (λ F w. w) a.guards (stills-move h);
  lifted = a.lifted;
}

ending-write : {v : Medium} {f : Sync} {past next counts : List Image} {run sync : ℕ → Bool} (p : ℕ) (x : List ℕ) {xs ys : List Seat} → Pairs (Still v (Allowed f) (Or (Allowed f) p x)) xs ys → Ending v f past next counts run sync xs
    → Ending v (wrote p x f) past next counts run sync ys
ending-write {f = f} p x h a = record {
  m = a.m;
  least = a.least;
  least_at = still-least h a.least_at;
  most = still-most h a.most;
  both = a.both;
  both_at = a.both_at;
  guards = wrote-guards f p x (guards-step (within-or (Allowed f) p x) a.guards (stills-move h));
  lifted = λ z. a.lifted (unwrote f p x z);
}

running-read : {v : Medium} {f : Sync} {past counts : List Image} {sync : ℕ → Bool} {o : Bool} {g : ℕ} {s : Says} {xs ys : List Seat} → Pairs (Looked s) xs ys → Running v f past counts sync o g xs → Running v f past counts sync o g ys
running-read {o = o} h a = let k = looks-less h in record {
  bound = a.bound;
  near = looks-near h a.near;
  aside = λ i z. a.aside i (less-aside i k z);
  even = looks-even {o = o} h a.even;
  below = λ e i z. a.below e i (less-aside i k z);
  pages = a.pages;
  have = read-holds h a.have;
  within = a.within;
  live = λ d e. a.live d (less-live k d e);
  paid = a.paid;
  lifted = a.lifted;
  guards = guards-step (λ F w. w) a.guards (stills-move (looks-still h));
}

-- the pages behind a write
pub put-pages : (A : ℕ → List ℕ → Type 0) {G : List (List ℕ)} {p : ℕ} {x : List ℕ} {o q : Bool} {s : Says} {xs ys : List Seat} → Puts p x o xs s q ys → Every (HasPages G) xs → Within A G → (H : List (List ℕ)) × Every (HasPages H) ys × Within (Or A p x) H
put-pages A {G} {p} {x} (put_whole h) e w = (set G p x, write-holds (write_round h) e, within-set A p x G w)
put-pages A {G} {p} {x} (put_lost h) e w = (set G p x, write-holds (write_round h) e, within-set A p x G w)
put-pages A {G} {p} {x} (put_refused h) e w = (G, refused-holds (write_round h) e, within-or A p x G w)

running-write : {v : Medium} {f : Sync} {past counts : List Image} {sync : ℕ → Bool} {o q : Bool} {g p : ℕ} {x : List ℕ} {s : Says} {xs ys : List Seat} → Puts p x o xs s q ys → Running v f past counts sync o g xs → Running v (wrote p x f) past counts sync q g ys
running-write {v} {f} {p = p} {x = x} h a = let k = puts-less h in let r = put-pages (Allowed f) h a.have a.within in record {
  bound = a.bound;
  near = puts-near h a.near;
  aside = λ i z. a.aside i (less-aside i k z);
  even = puts-even h a.even;
  below = λ e i z. a.below (puts-owes h e) i (less-aside i k z);
  pages = r.0;
  have = r.1;
  within = wrote-within f p x r.0 r.2;
  live = λ d e. a.live d (less-live k d e);
  paid = λ e. a.paid (puts-owes h e);
  lifted = λ z. a.lifted (unwrote f p x z);
  guards = wrote-guards f p x (guards-step (within-or (Allowed f) p x) a.guards (stills-move (puts-still h)));
}

-- flushes: what is aside stays behind
flush-aside : {o q : Bool} {g h : ℕ} {s : Says} {xs ys : List Seat} (k : ℕ) → Flushes o g xs s q h ys → g < limit → h < limit → k ≤ g + 1 → (o ≡ false → k < g) → q ≡ false → k < h
flush-aside k (flush_owed {s = Done w} p) l m a b e = omega (arith, pays-up p refl (omega arith))
flush-aside k (flush_owed {s = Fault d n} p) l m a b e = cc
flush-aside k (flush_even r) l m a b e = b refl
flush-aside k (flush_lost {s = Done w} r p) l m a b e = omega (arith, pays-up p refl (omega arith))
flush-aside k (flush_lost {s = Fault d n} r p) l m a b e = cc
flush-aside k (flush_none r) l m a b e = b refl

-- what is paid is above the first two generations
flush-lifts : {o q : Bool} {g h : ℕ} {s : Says} {xs ys : List Seat} → Flushes o g xs s q h ys → g < limit → h < limit → (o ≡ false → 1 < g) → q ≡ false → 1 < h
flush-lifts (flush_owed {s = Done w} p) l m b e = omega (arith, pays-up p refl (omega arith))
flush-lifts (flush_owed {s = Fault d n} p) l m b e = cc
flush-lifts (flush_even r) l m b e = b refl
flush-lifts (flush_lost {s = Done w} r p) l m b e = omega (arith, pays-up p refl (omega arith))
flush-lifts (flush_lost {s = Fault d n} r p) l m b e = cc
flush-lifts (flush_none r) l m b e = b refl

running-flush : {v : Medium} {f : Sync} {past counts : List Image} {sync : ℕ → Bool} {o q : Bool} {g h : ℕ} {s : Says} {xs ys : List Seat} → Flushes o g xs s q h ys → h < limit → Running v f past counts sync o g xs → Running v f past counts sync q h ys
running-flush {g = g} {h = h} fl l a =
    let k = keeps-less (flush_keeps fl) in
    let gl : g ≤ limit = omega (arith, a.bound) in
    let b = flush-bound fl gl in record {
      bound = l;
      near = flush-near fl gl a.near;
      aside = λ i z. let r = a.aside i (less-aside i k z) in omega (arith, b.0);
      even = flush-even fl gl a.near a.even;
      below = λ e i z. let y = less-aside i k z in flush-aside i.generation fl a.bound l (a.aside i y) (λ q. a.below q i y) e;
      pages = a.pages;
      have = keeps-holds (flush_keeps fl) a.have;
      within = a.within;
      live = λ d e. a.live d (less-live k d e);
      paid = flush-lifts fl a.bound l a.paid;
      lifted = λ z. let u = a.lifted z in omega (arith, b.0);
      guards = guards-step (λ F w. w) a.guards (rises-move a.within (flushes-rise fl gl a.near) a.have);
    }

-- a sync
lower-all : {g : ℕ} (xs : List Seat) → ((e : ℕ) (b : Why) (s : Store) (i : Image) → Nth e xs (Out b s) → s.image ≡ Some i → i.generation < g) → Every (Lower g) xs
lower-all [] f = every_none
lower-all (In b c ∷ xs) f = every_more lower_in (lower-all xs (λ e b s i n q. f (suc e) b s i (nth_later n) q))
lower-all (Out b s ∷ xs) f = every_more (lower_out (λ i q. f 0 b s i nth_here q)) (lower-all xs (λ e b s i n q. f (suc e) b s i (nth_later n) q))

pub none-in : (C : Image → Type 0) (i : Image) → IsIn [] i ⊎ C i → C i
none-in C i (inl h) = elim h [ ]
none-in C i (inr c) = c

running-sync : {v : Medium} {f : Sync} {past counts : List Image} {sync : ℕ → Bool} {F : List (List ℕ)} {o q w : Bool} {g h : ℕ} {xs ys : List Seat} → Flushes o g xs (Done w) q h ys → h < limit → Every (HasPages F) xs → Running v f past counts sync o g xs
    → Running v (Synced F []) past [] (live_at ys) q h ys
running-sync {v} {f} {past} {F = F} {g = g} {h = h} {ys = ys} fl l p a =
    let r = running-flush fl l a in
    let gl : g ≤ limit = omega (arith, a.bound) in
    let lo : (i : Image) → Aside past ys i → i.generation < h = r.below (flush-paid fl refl) in
    let gu = guards-found fl gl a.near a.even p l (lower-all ys (λ e b s i n z. lo i (aside_out n z))) (λ i z. lo i (aside_past z)) in record {
      bound = l;
      near = r.near;
      aside = r.aside;
      even = r.even;
      below = r.below;
      pages = F;
      have = keeps-holds (flush_keeps fl) p;
      within = within-now F F refl;
      live = λ d e. e;
      paid = r.paid;
      lifted = λ z. r.paid (flush-paid fl refl);
      guards = guards-less gu.guards (λ i z. none-in (Placed (Shows v) (live_at ys) ys) i z) (λ b z. z);
    }

-- the end of a run
seat-most : {v : Medium} {g e : ℕ} {past : List Image} {xs : List Seat} (i : Image) (x : Seat) → Nth e xs x → Near v g x → ((i : Image) → Aside past xs i → i.generation ≤ g + 1) → Shows v x i → i.generation ≤ g + 1
seat-most i (In b c) n (near_in most least) f z = omega (arith, most i z)
seat-most i (Out b s) n near_out f (shows_out q) = f i (aside_out n q)

near-least : {v : Medium} {g : ℕ} {c : Cell} {i : Image} → Near v g (In true c) → Shows v (In true c) i → g ≤ i.generation
near-least (near_in most least) z = least refl _ z

run-over : {v : Medium} {f : Sync} {past counts : List Image} {sync : ℕ → Bool} (g : ℕ) (ys : List Seat) → Every (Near v g) ys → ((i : Image) → Aside past ys i → i.generation ≤ g + 1) → ((d : ℕ) → live_at ys d ≡ true → sync d ≡ true) → (IsDone f → 1 < g)
    → Guards (Allowed f) (λ c. IsIn counts c ⊎ Placed (Shows v) sync ys c) (Anywhere (Shows v) past ys) → Ending v f past [] counts (live_at ys) sync ys
run-over {v} {f} {past} {counts} {sync} g ys near aside live lifted guards = record {
  m = g;
  least = λ i h. elim h [ ];
  least_at = λ i z. least i z;
  most = λ i z. most i z;
  both = λ i h. elim h [ ];
  both_at = live;
  guards = guards;
  lifted = lifted;
} where
  least : (i : Image) → Placed (Shows v) (live_at ys) ys i → g ≤ i.generation
  least i (placed {d = d} ld (at_place n z)) = let r = live-nth ys d ld in near-least (every-nth near r.1) (subst (λ x. Shows v x i) (nth-same n r.1) z)

  most : (i : Image) → Anywhere (Shows v) past ys i → i.generation ≤ g + 1
  most i (in_drawer k) = aside i (aside_past k)
  most i (in_place (at_place {x = x} n z)) = seat-most i x n (every-nth near n) aside z

run-ended : {v : Medium} {f : Sync} {past counts : List Image} {sync : ℕ → Bool} {o : Bool} {g : ℕ} {xs : List Seat} → Running v f past counts sync o g xs → Ending v f past [] counts (live_at xs) sync xs
run-ended {g = g} {xs = xs} a = run-over g xs a.near a.aside a.live a.lifted a.guards

run-write-stopped : {v : Medium} {f : Sync} {past counts : List Image} {sync : ℕ → Bool} {o : Bool} {g p : ℕ} {x : List ℕ} {xs ys : List Seat} → Pairs (Halted (Write p x)) xs ys → Running v f past counts sync o g xs
    → Ending v (wrote p x f) past [] counts (live_at ys) sync ys
run-write-stopped {v} {f} {g = g} {p = p} {x = x} {ys = ys} h a =
    let k = halted-less h in
    run-over g ys (write-stops-near h a.near) (λ i z. a.aside i (less-aside i k z)) (λ d e. a.live d (less-live k d e)) (λ z. a.lifted (unwrote f p x z)) (wrote-guards f p x (guards-step (within-or (Allowed f) p x) a.guards (stills-move (write-stops-still h))))

run-flush-stopped : {v : Medium} {f : Sync} {past counts : List Image} {sync : ℕ → Bool} {o : Bool} {g h : ℕ} {xs ys : List Seat} → FlushStops o g xs h ys → Running v f past counts sync o g xs → Ending v f past [] counts (live_at ys) sync ys
run-flush-stopped {g = g} {h = h} {ys = ys} st a =
    let k = flush-stops-less st in
    let gl : g ≤ limit = omega (arith, a.bound) in
    let b = flush-stops-bound st gl in
    run-over h ys (flush-stops-near st gl a.near) (λ i z. let r = a.aside i (less-aside i k z) in omega (arith, b.0)) (λ d e. a.live d (less-live k d e)) (λ z. let u = a.lifted z in omega (arith, b.0)) (guards-step (λ F w. w) a.guards (rises-move a.within (flush-stops-rise st gl a.near) a.have))

pub direct-not-caching : ◌≡◌ {A = Medium} Direct Caching → ⊥
direct-not-caching e = cc

-- a run as a whole
more-versions : (V : ℕ → ℕ → List ℕ) (Vs : List (ℕ → ℕ → List ℕ)) (p : ℕ) (x : List ℕ) → Among Vs p x → Among (V ∷ Vs) p x
more-versions V Vs p x (among h k is) = among (nth_later h) k is

first-version : (V : ℕ → ℕ → List ℕ) (Vs : List (ℕ → ℕ → List ℕ)) (p : ℕ) (x : List ℕ) → Among (V ∷ []) p x → Among (V ∷ Vs) p x
first-version V Vs p x (among nth_here k is) = among nth_here k is
first-version V Vs p x (among (nth_later h) k is) = elim h [ ]

versions-more : (V : ℕ → ℕ → List ℕ) (Vs : List (ℕ → ℕ → List ℕ)) (ws : List (ℕ × List ℕ)) (p : ℕ) (x : List ℕ) → Versions Vs ws p x → Versions (V ∷ Vs) ws p x
versions-more V Vs [] p x h = more-versions V Vs p x h
versions-more V Vs (w ∷ ws) p x h = elim h [ inl k ↦ inl (versions-more V Vs ws p x k) | inr k ↦ inr k ]

versions-first : (V : ℕ → ℕ → List ℕ) (Vs : List (ℕ → ℕ → List ℕ)) (ws : List (ℕ × List ℕ)) (p : ℕ) (x : List ℕ) → Among (V ∷ []) p x → Versions (V ∷ Vs) ws p x
versions-first V Vs [] p x h = first-version V Vs p x h
versions-first V Vs (w ∷ ws) p x h = inl (versions-first V Vs ws p x h)

since-versions : (F : List (List ℕ)) (ws : List (ℕ × List ℕ)) (p : ℕ) (x : List ℕ) → Since_then F ws p x → Versions (always F ∷ []) ws p x
since-versions F [] p x h = among nth_here 0 h
since-versions F (w ∷ ws) p x h = elim h [ inl k ↦ inl (since-versions F ws p x k) | inr k ↦ inr k ]

lived-on : (f : Sync) (V : ℕ → ℕ → List ℕ) (F : List (List ℕ)) → Within (Allowed f) F → Within (Allowed (lived V f)) F
lived-on NoSync V F w q l = tt
lived-on (Synced G ws) V F w q l = versions-more V (always G ∷ []) ws q (get_or F q []) (since-versions G ws q (get_or F q []) (w q l))
lived-on (Lived Vs ws) V F w q l = versions-more V Vs ws q (get_or F q []) (w q l)

lived-now : (f : Sync) (V : ℕ → ℕ → List ℕ) (F : List (List ℕ)) → Within (Among (V ∷ [])) F → Within (Allowed (lived V f)) F
lived-now NoSync V F w q l = tt
lived-now (Synced G ws) V F w q l = versions-first V (always G ∷ []) ws q (get_or F q []) (w q l)
lived-now (Lived Vs ws) V F w q l = versions-first V Vs ws q (get_or F q []) (w q l)

unlived : (f : Sync) (V : ℕ → ℕ → List ℕ) → IsDone (lived V f) → IsDone f
unlived NoSync V h = h
unlived (Synced F ws) V h = tt
unlived (Lived Vs ws) V h = tt

goes-live : {V : ℕ → ℕ → List ℕ} {xs ys : List Seat} → Pairs (Goes V) xs ys → (d : ℕ) → live_at ys d ≡ true → live_at xs d ≡ true
goes-live pairs_none d e = e
goes-live (pairs_more (goes_out q) m) zero e = e
goes-live (pairs_more (goes_same l q) m) zero e = l e
goes-live (pairs_more (goes_later l q w) m) zero e = l e
goes-live (pairs_more (goes_out q) m) (suc d) e = goes-live m d e
goes-live (pairs_more (goes_same l q) m) (suc d) e = goes-live m d e
goes-live (pairs_more (goes_later l q w) m) (suc d) e = goes-live m d e

goes-aside : {V : ℕ → ℕ → List ℕ} {past : List Image} {xs ys : List Seat} (i : Image) → Pairs (Goes V) xs ys → Aside past ys i → Aside past xs i
goes-aside i m (aside_past k) = aside_past k
goes-aside {V} {past} {xs} i m (aside_out {e = e} {b = b} {s = t} n q) = let s = nth-back m n in from s.0 s.1 s.2 where
  from : (x : Seat) → Nth e xs x → Goes V x (Out b t) → Aside past xs i
  from _ k (goes_out same) = aside_out k (sym same ∙ q)

goes-moves : (f : Sync) {V : ℕ → ℕ → List ℕ} {x y : Seat} → Goes V x y → Moves (Shows Direct) (Shows Direct) (Allowed f) (Allowed (lived V f)) x y
goes-moves f {V} g = record { came = λ e z. from e g z } where
  from : {x y : Seat} (e : Image) → Goes V x y → Shows Direct y e → Came (Shows Direct) (Allowed f) (Allowed (lived V f)) x e
  from e (goes_out {s = s} q) (shows_out z) = came_level (shows_out (sym q ∙ z)) refl (λ w. lived-on f V e.pages w)
  from e (goes_same {c = c} {d = d} l q) shows_now = came_level {c = c.now} shows_now (ap (λ (i : Image). i.generation) q) (λ w. lived-on f V d.now.pages (subst (λ (i : Image). Within (Allowed f) i.pages) (sym q) w))
  from e (goes_same l q) (shows_kept u k) = absurd (direct-not-caching u)
  from e (goes_later {c = c} {d = d} l q w) shows_now = came_within {c = c.now} shows_now q (lived-now f V d.now.pages w)
  from e (goes_later l q w) (shows_kept u k) = absurd (direct-not-caching u)

run-gone : {f : Sync} {past counts : List Image} {sync : ℕ → Bool} {V : ℕ → ℕ → List ℕ} {g h : ℕ} {xs ys : List Seat} → Went V g xs h ys → Running Direct f past counts sync true g xs → Ending Direct (lived V f) past [] counts (live_at ys) sync ys
run-gone {f} {V = V} {g = g} {h = h} {ys = ys} w a =
    let up = w.rises in
    run-over h ys w.near (λ i z. let r = a.aside i (goes-aside i w.goes z) in omega (arith, r, up)) (λ d e. a.live d (goes-live w.goes d e)) (λ z. let u = a.lifted (unlived f V z) in omega (arith, u, up))
    (guards-step (lived-on f V) a.guards (pairs-map (λ x y k. goes-moves f k) w.goes))

-- and one with a flush that answered Ok
near-shown : {g : ℕ} {ys : List Seat} (c : Image) → Every (Near Direct g) ys → Placed (Shows Direct) (live_at ys) ys c → g ≤ c.generation
near-shown {g} {ys} c near (placed {d = d} ld (at_place n z)) = let r = live-nth ys d ld in near-least (every-nth near r.1) (subst (λ x. Shows Direct x c) (nth-same n r.1) z)

near-most : {g : ℕ} {c : Cell} {i : Image} → Near Direct g (In true c) → Shows Direct (In true c) i → i.generation ≤ next g
near-most (near_in most least) z = most _ z

near-top : {g : ℕ} {ys : List Seat} (c : Image) → Every (Near Direct g) ys → Placed (Shows Direct) (live_at ys) ys c → c.generation ≤ g + 1
near-top {g} {ys} c near (placed {d = d} ld (at_place n z)) =
    let r = live-nth ys d ld in
    let most = near-most (every-nth near r.1) (subst (λ x. Shows Direct x c) (nth-same n r.1) z) in
    omega (arith, most)

run-kept : {f : Sync} {past counts : List Image} {sync : ℕ → Bool} {V W : ℕ → ℕ → List ℕ} {g h : ℕ} {xs ys : List Seat} → Went V g xs h ys → Kept W g h ys → h + 1 < limit → Running Direct f past counts sync true g xs
    → Ending Direct (Lived (W ∷ []) []) past [] [] (live_at ys) (live_at ys) ys
run-kept {past = past} {W = W} {g = g} {h = h} {ys = ys} w k l a =
    let up = w.rises in
    let paid = k.paid in
    run-over h ys w.near (λ i z. let r = a.aside i (goes-aside i w.goes z) in omega (arith, r, up)) (λ d e. e) (λ z. omega (arith, paid, l)) (record {
      holds = λ c z. k.since c (none-in (Placed (Shows Direct) (live_at ys) ys) c z);
      below = λ c b z t. beside c b (none-in (Placed (Shows Direct) (live_at ys) ys) c z) t;
    })
  where
    over : (i : Image) → Aside past ys i → i.generation < h
    over i z = let r = a.aside i (goes-aside i w.goes z) in let paid = k.paid in omega (arith, r, paid, l)

    beside : (c b : Image) → Placed (Shows Direct) (live_at ys) ys c → Anywhere (Shows Direct) past ys b → Within (Among (W ∷ [])) b.pages ⊎ (b.generation < c.generation)
    beside c b z (in_drawer i) = let low = over b (aside_past i) in let most = near-shown c w.near z in inr (omega (arith, low, most))
    beside c b z (in_place (at_place {x = x} n q)) = at x n q where
      at : {e : ℕ} (x : Seat) → Nth e ys x → Shows Direct x b → Within (Among (W ∷ [])) b.pages ⊎ (b.generation < c.generation)
      at {e} (In v d) n shows_now = elim (k.behind c z e v d n) [
        | inl in_w ↦ inl in_w
        | inr rest ↦ elim rest [ inl low ↦ inr low | inr last ↦ let most = near-top c w.near z in absurd (omega (arith, l, last, most)) ]
      ]
      at (In v d) n (shows_kept u t) = absurd (direct-not-caching u)
      at (Out v s) n (shows_out t) = let low = over b (aside_out n t) in let most = near-shown c w.near z in inr (omega (arith, low, most))

-- a sitting as a whole in which nothing was written
unmoved-shows : {x y : Seat} (e : Image) → Unmoved x y → Shows Direct y e → Shows Direct x e
unmoved-shows e (unmoved_in {a = a} {c = c} q) shows_now = subst (λ i. Shows Direct (In a c) i) (sym q) shows_now
unmoved-shows e (unmoved_in q) (shows_kept u k) = absurd (direct-not-caching u)
unmoved-shows e (unmoved_out q) (shows_out z) = shows_out (sym q ∙ z)

unmoved-at : {d : ℕ} {xs ys : List Seat} {i : Image} → Pairs Unmoved xs ys → At (Shows Direct) d ys i → At (Shows Direct) d xs i
unmoved-at {i = i} m (at_place n z) = let s = nth-back m n in at_place s.1 (unmoved-shows i s.2 z)

unmoved-placed : {L : ℕ → Bool} {xs ys : List Seat} (i : Image) → Pairs Unmoved xs ys → Placed (Shows Direct) L ys i → Placed (Shows Direct) L xs i
unmoved-placed i m (placed ld a) = placed ld (unmoved-at m a)

unmoved-anywhere : {past : List Image} {xs ys : List Seat} (i : Image) → Pairs Unmoved xs ys → Anywhere (Shows Direct) past ys i → Anywhere (Shows Direct) past xs i
unmoved-anywhere i m (in_drawer k) = in_drawer k
unmoved-anywhere i m (in_place a) = in_place (unmoved-at m a)

look-stayed : {f : Sync} {past next counts : List Image} {run sync : ℕ → Bool} {xs ys : List Seat} → Pairs Unmoved xs ys → Ending Direct f past next counts run sync xs → Ending Direct f past next counts run sync ys
look-stayed m a = record {
  m = a.m;
  least = a.least;
  least_at = λ i z. a.least_at i (unmoved-placed i m z);
  most = λ i z. a.most i (unmoved-anywhere i m z);
  both = a.both;
  both_at = a.both_at;
  guards = guards-less a.guards (λ i z. elim z [ inl k ↦ inl k | inr k ↦ inr (unmoved-placed i m k) ]) (λ i z. unmoved-anywhere i m z);
  lifted = a.lifted;
}

-- what the stores were left
pub in-append : {i : Image} (xs ys : List Image) → IsIn (xs ++ ys) i → IsIn xs i ⊎ IsIn ys i
in-append [] ys h = inr h
in-append (x ∷ xs) ys (has_here e) = inl (has_here e)
in-append (x ∷ xs) ys (has_later h) = elim (in-append xs ys h) [ inl k ↦ inl (has_later k) | inr k ↦ inr k ]

in-left : {i : Image} {xs : List Image} (ys : List Image) → IsIn xs i → IsIn (xs ++ ys) i
in-left ys (has_here e) = has_here e
in-left ys (has_later h) = has_later (in-left ys h)

in-right : {i : Image} (xs : List Image) {ys : List Image} → IsIn ys i → IsIn (xs ++ ys) i
in-right [] h = h
in-right (x ∷ xs) h = has_later (in-right xs h)

-- an image of a place
if-in : (z : Bool) (o : Option Image) (is : List Image) (i : Image) → IsIn (image_if z o is) i → ((z ≡ true) × (o ≡ Some i)) ⊎ IsIn is i
if-in true (Some j) is i (has_here e) = inl (refl, ap (λ v. Some v) e)
if-in true (Some j) is i (has_later h) = inr h
if-in true None is i h = inr h
if-in false o is i h = inr h

in-if : (z : Bool) (o : Option Image) (is : List Image) (i : Image) → z ≡ true → o ≡ Some i → IsIn (image_if z o is) i
in-if true (Some j) is i e q = has_here (some-same j i q)
in-if true None is i e q = absurd (some-none i (sym q))
in-if false o is i e q = cc

if-later : (z : Bool) (o : Option Image) (is : List Image) (i : Image) → IsIn is i → IsIn (image_if z o is) i
if-later true (Some j) is i h = has_later h
if-later true None is i h = h
if-later false o is i h = h

pub images-placed : (L : ℕ → Bool) (ts : List Store) (i : Image) → IsIn (images_at L ts) i → Placed Stands L ts i
images-placed L [] i h = elim h [ ]
images-placed L (t ∷ ts) i h = elim (if-in (L zero) t.image (images_at (λ d. L (suc d)) ts) i h) [
  | inl r ↦ placed {d = zero} r.0 (at_place nth_here (stands r.1))
  | inr k ↦ later (images-placed (λ d. L (suc d)) ts i k)
] where
  later : Placed Stands (λ d. L (suc d)) ts i → Placed Stands L (t ∷ ts) i
  later (placed {d = d} ld (at_place n z)) = placed {d = suc d} ld (at_place (nth_later n) z)

at-images : {d : ℕ} {ts : List Store} {s : Store} → Nth d ts s → (L : ℕ → Bool) (i : Image) → L d ≡ true → s.image ≡ Some i → IsIn (images_at L ts) i
at-images (nth_here {x = s} {xs = ts}) L i e q = in-if (L zero) s.image (images_at (λ d. L (suc d)) ts) i e q
at-images (nth_later {x = t} {xs = ts} n) L i e q = if-later (L zero) t.image (images_at (λ d. L (suc d)) ts) i (at-images n (λ d. L (suc d)) i e q)

placed-images : (L : ℕ → Bool) (ts : List Store) (i : Image) → Placed Stands L ts i → IsIn (images_at L ts) i
placed-images L ts i (placed ld (at_place n (stands q))) = at-images n L i ld q

-- between two sittings again
pub placed-left : {v : Medium} {L : ℕ → Bool} {xs : List Seat} {ts : List Store} {i : Image} → Pairs (Leaves v) xs ts → Placed Stands L ts i → Placed (Shows v) L xs i
placed-left m (placed ld a) = placed ld (leaves-at m a)

pub placed-anywhere : {v : Medium} {L : ℕ → Bool} {past : List Image} {xs : List Seat} (i : Image) → Placed (Shows v) L xs i → Anywhere (Shows v) past xs i
placed-anywhere i (placed ld a) = in_place a

rested : {v : Medium} {f : Sync} {past next counts : List Image} {run sync : ℕ → Bool} {xs : List Seat} {ts : List Store} → Pairs (Leaves v) xs ts → Ending v f past next counts run sync xs
    → Resting f (images_at everywhere ts ++ past) (images_at run ts ++ next) (images_at sync ts ++ counts)
rested {v} {f} {past} {next} {counts} {run} {sync} {xs} {ts} m a = record {
  m = a.m;
  least = λ i h. elim (in-append (images_at run ts) next h) [ inl k ↦ a.least_at i (left run i k) | inr k ↦ a.least i k ];
  most = λ i h. a.most i (any i h);
  both = λ i h. elim (in-append (images_at run ts) next h) [ inl k ↦ in-left counts (placed-images sync ts i (too i (images-placed run ts i k))) | inr k ↦ in-right (images_at sync ts) (a.both i k) ];
  guards = guards-less a.guards
      (λ i h. elim (in-append (images_at sync ts) counts h) [ inl k ↦ inr (left sync i k) | inr k ↦ inl k ])
      (λ b h. any b h);
  lifted = a.lifted;
} where
  left : (L : ℕ → Bool) (i : Image) → IsIn (images_at L ts) i → Placed (Shows v) L xs i
  left L i k = placed-left m (images-placed L ts i k)

  any : (i : Image) → IsIn (images_at everywhere ts ++ past) i → Anywhere (Shows v) past xs i
  any i h = elim (in-append (images_at everywhere ts) past h) [ inl k ↦ placed-anywhere i (left everywhere i k) | inr k ↦ in_drawer k ]

  too : (i : Image) → Placed Stands run ts i → Placed Stands sync ts i
  too i (placed {d = d} ld z) = placed (a.both_at d ld) z

-- the openings
pub comes-sized : {v : Medium} {n : ℕ} {past : List Image} {ss : List Store} → Every (Comes v n past) ss → Every (Sized n) ss
comes-sized h = every-map (λ s c. c.sized) h

pub comes-settled : {v : Medium} {n : ℕ} {past : List Image} {ss : List Store} → Every (Comes v n past) ss → Every (Settled v) ss
comes-settled h = every-map (λ s c. c.settled) h

pub comes-past : {v : Medium} {n : ℕ} {past : List Image} {ss : List Store} → Every (Comes v n past) ss → (e : ℕ) (i : Image) → At Stands e ss i → IsIn past i
comes-past h e i (at_place n (stands q)) = (every-nth h n).shown i q

pub sync-comers : {v : Medium} {n : ℕ} {past counts : List Image} {ss : List Store} {sync : ℕ → Bool} → Every (Comes v n past) ss → Count counts ss sync → Comers (λ c. IsIn counts c) (λ b. IsIn past b) sync past ss
sync-comers h m = record { counts = m; all = comes-past h; drawers = λ i k. k }

run-up : {next counts : List Image} {ss : List Store} {run sync : ℕ → Bool} {xs : List Seat} → Marked next counts ss run sync → Up run xs → Up sync xs
run-up m (up {d = d} ld n) = up (m.both d ld) n

-- what a winner is beside a disk of the next run that is up
run-chosen : {v : Medium} {n : ℕ} {f : Sync} {past next counts : List Image} {ss : List Store} {run sync : ℕ → Bool} {xs : List Seat} (a : Resting f past next counts) → Every (Comes v n past) ss → Marked next counts ss run sync → Pairs Meets ss xs → Up run xs
    → (w : Image) → Every (AtMost w.generation) xs → a.m ≤ w.generation
run-chosen a c m mt (up {c = e} ld k) w most =
    let s = nth-back mt k in
    let h = m.for_run _ ld in
    let z : h.0 ≡ e.now = some-same h.0 e.now (sym (stood-at s.1 h.1) ∙ good-image s.2) in
    let l = a.least h.0 h.2 in
    let o = most-at (every-nth most k) in
    omega (arith, ap (λ (i : Image). i.generation) z)

-- what is aside after an opening
state-out : {v : Medium} {F : List (List ℕ)} {g : ℕ} {s t : Store} {b : Why} (i : Image) → State v F g s (Out b t) → t.image ≡ Some i → (s.image ≡ Some i) ⊎ (i.generation ≤ g)
state-out i (state_blank a e) q = absurd (some-none i (sym q ∙ e))
state-out i (state_bad a e) q = absurd (some-none i (sym q ∙ a))
state-out i (state_down e) q = inl (sym e ∙ q)
state-out i (state_unmade {c = j} a e z) q = let r = fate-most z in inr (omega (arith, ap (λ (u : Image). u.generation) (some-same j i (sym e ∙ q))))

state-aside : {v : Medium} {n : ℕ} {F : List (List ℕ)} {g : ℕ} {past : List Image} {ss : List Store} {us : List Seat} (k : ℕ) → g ≤ k → ((i : Image) → IsIn past i → i.generation ≤ k) → Every (Comes v n past) ss → Pairs (State v F g) ss us → (i : Image) → Aside past us i → i.generation ≤ k
state-aside k l f c st i (aside_past h) = f i h
state-aside k l f c st i (aside_out nth q) = let s = nth-back st nth in elim (state-out i s.2 q) as (λ _. i.generation ≤ k) [ inl z ↦ f i ((every-nth c s.1).shown i z) | inr z ↦ omega arith ]

or-live : (L M : ℕ → Bool) (d : ℕ) → L d ≡ true → either L M d ≡ true
or-live L M d e = or_left (L d) (M d) e

run-opened : {v : Medium} {n : ℕ} {f : Sync} {past next counts : List Image} {run sync : ℕ → Bool} {g : ℕ} {ss : List Store} {xs us : List Seat} → Resting f past next counts → Every (Comes v n past) ss → Marked next counts ss run sync → Pairs Meets ss xs → Up run xs
    → Opens true n xs (Good true g) us → g < limit → Running v f past counts (either sync (live_at us)) true g us
run-opened {v} {n} {f} {past} {next} {counts} {run} {sync} {g} {ss} {xs} {us} a c mk m u o l =
    let r = opens-answer v o m (comes-sized c) (comes-settled c) in
    let w = r.0.w in
    let wg : w.generation ≡ g = r.1 in
    let at = wins-at r.0.met r.0.wins in
    let ww : IsIn past w = comes-past c at.0 w at.1 in
    let most = all-most w.generation xs r.0.reach in
    let low = run-chosen a c mk m u w most in
    let su = run-up mk u in
    let cm = sync-comers c mk.for_sync in
    let og = open-guards a.guards cm m (comes-settled c) (opening-end o m (comes-sized c) (comes-settled c)) in record {
      bound = l;
      near = levels-near (omega arith) (subst (λ k. Every (Level v k) us) wg (states-level r.2));
      aside = state-aside (g + 1) (omega (arith, wg)) (λ i h. let k = a.most i h in omega (arith, wg)) c r.2;
      even = λ e. cc;
      below = λ e. cc;
      pages = w.pages;
      have = state-pages r.2;
      within = (chosen a.guards cm m most ww su).within;
      live = λ d e. or_right (sync d) (live_at us d) e;
      paid = λ e. cc;
      lifted = λ z. let q = a.lifted z in omega (arith, wg);
      guards = open-joined a.guards cm m most ww su r.2 og;
    }

final-most : {v : Medium} {F : List (List ℕ)} {g : ℕ} {s : Store} {y : Seat} {e : Image} (k : ℕ) → g ≤ k → ((i : Image) → s.image ≡ Some i → i.generation ≤ k) → Final v F g s y → Shows v y e → e.generation ≤ k
final-most k l f (final_bad a b) (shows_out z) = absurd (some-none _ (sym z ∙ a))
final-most k l f (final_out a) (shows_out {i = i} z) = f i (sym a ∙ z)
final-most {e = e} k l f (final_made {c = j} a b h) (shows_out z) = let r = fate-most h in omega (arith, ap (λ (u : Image). u.generation) (some-same j e (sym b ∙ z)))
final-most k l f (final_in a h) z = let r = fate-most (shown-fate h z) in omega arith

-- what an opening shows has at most the next generation after those that count; and what counted is no lower than it was
end-most : {v : Medium} {n m : ℕ} {past : List Image} {ss : List Store} {xs us : List Seat} → ((i : Image) → IsIn past i → i.generation ≤ m) → Every (Comes v n past) ss → Pairs Meets ss xs → OpeningEnd v ss xs us → (i : Image) → Anywhere (Shows v) past us i → i.generation ≤ m
end-most f c mt e i (in_drawer k) = f i k
end-most {v} {n} {m} {past} {ss} {xs} {us} f c mt (ended_same q) i (in_place {e = e} (at_place {x = y} k z)) = let s = nth-back mt (subst (λ u. Nth e u y) q k) in f i ((every-nth c s.1).shown i (met-shows (every-nth c s.1).settled s.2 z))
end-most {m = m} f c mt (ended_won {w = w} aw most st fin) i (in_place (at_place k z)) = let s = nth-back fin k in final-most m (f w (comes-past c _ w aw)) (λ j q. f j ((every-nth c s.1).shown j q)) s.2 z

end-least : {v : Medium} {n m : ℕ} {past next counts : List Image} {run sync : ℕ → Bool} {ss : List Store} {xs us : List Seat} → ((i : Image) → IsIn next i → m ≤ i.generation) → Every (Comes v n past) ss → Marked next counts ss run sync → Pairs Meets ss xs → OpeningEnd v ss xs us
    → (i : Image) → Placed (Shows v) run us i → m ≤ i.generation
end-least {v} f c mk mt (ended_same q) i (placed {d = d} ld (at_place {x = y} k z)) =
    let s = nth-back mt (subst (λ u. Nth d u y) q k) in
    let h = mk.for_run d ld in
    let e : h.0 ≡ i = some-same h.0 i (sym (stood-at s.1 h.1) ∙ met-shows (every-nth c s.1).settled s.2 z) in
    let l = f h.0 h.2 in
    omega (arith, ap (λ (u : Image). u.generation) e)
end-least f c mk mt (ended_won aw most st fin) i (placed {d = d} ld (at_place k z)) =
    let s = nth-back fin k in
    let h = mk.for_run d ld in
    let l = f h.0 h.2 in
    let r = final-later (Allowed NoSync) h.0 (stood-at s.1 h.1) s.2 z in
    omega (arith, r.0)

refused-over : {v : Medium} {n : ℕ} {f : Sync} {past next counts : List Image} {run sync : ℕ → Bool} {ss : List Store} {xs us : List Seat} → Resting f past next counts → Every (Comes v n past) ss → Marked next counts ss run sync → Pairs Meets ss xs → OpeningEnd v ss xs us
    → Ending v f past next counts run sync us
refused-over a c mk mt e = record {
  m = a.m;
  least = a.least;
  least_at = end-least a.least c mk mt e;
  most = end-most a.most c mt e;
  both = a.both;
  both_at = mk.both;
  guards = open-guards a.guards (sync-comers c mk.for_sync) mt (comes-settled c) e;
  lifted = a.lifted;
}

either-both : (L M K : ℕ → Bool) → ((d : ℕ) → L d ≡ true → M d ≡ true) → (d : ℕ) → either L K d ≡ true → either M K d ≡ true
either-both L M K f d e = elim (or-cases (L d) (K d) e) [ inl h ↦ or_left (M d) (K d) (f d h) | inr h ↦ or_right (M d) (K d) h ]

look-opened : {v : Medium} {n : ℕ} {f : Sync} {past next counts : List Image} {run sync : ℕ → Bool} {owed : Bool} {g : ℕ} {ss : List Store} {xs us : List Seat} {run' sync' : ℕ → Bool} → Joins run sync xs us run' sync' → Resting f past next counts → Every (Comes v n past) ss
    → Marked next counts ss run sync → Pairs Meets ss xs → Opens true n xs (Good owed g) us → Ending v f past next counts run' sync' us
look-opened {v} {n} {f} {past} {next} {counts} {run} {sync} {g = g} {ss = ss} {xs = xs} {us = us} (joins_run u) a c mk m o =
    let e = opening-end o m (comes-sized c) (comes-settled c) in
    let og = open-guards a.guards (sync-comers c mk.for_sync) m (comes-settled c) e in
    let r = opens-answer v o m (comes-sized c) (comes-settled c) in
    let w = r.0.w in
    let at = wins-at r.0.met r.0.wins in
    let ww : IsIn past w = comes-past c at.0 w at.1 in
    let most = all-most w.generation xs r.0.reach in
    let low : a.m ≤ w.generation = run-chosen a c mk m u w most in record {
      m = a.m;
      least = a.least;
      least_at = λ i z. joined-least low (end-least a.least c mk m e) r.2 i z;
      most = end-most a.most c m e;
      both = a.both;
      both_at = either-both run sync (live_at us) mk.both;
      guards = open-joined a.guards (sync-comers c mk.for_sync) m most ww (run-up mk u) r.2 og;
      lifted = a.lifted;
    } where
      joined-least : {m g : ℕ} {F : List (List ℕ)} → m ≤ g → ((i : Image) → Placed (Shows v) run us i → m ≤ i.generation) → Pairs (State v F g) ss us → (i : Image) → Placed (Shows v) (either run (live_at us)) us i → m ≤ i.generation
      joined-least {m} l h st i (placed {d = d} ld (at_place n z)) = elim (or-cases (run d) (live_at us d) ld) as (λ _. m ≤ i.generation) [
        | inl k ↦ h i (placed k (at_place n z))
        | inr k ↦ let q = live-nth us d k in let s = nth-back st n in let t = live-shown (nth-same n q.1) s.2 z in omega (arith, t.1)
      ]
look-opened {v} {run = run} {sync = sync} {xs = xs} {us = us} (joins_sync u) a c mk m o =
    let e = opening-end o m (comes-sized c) (comes-settled c) in
    let og = open-guards a.guards (sync-comers c mk.for_sync) m (comes-settled c) e in
    let r = opens-answer v o m (comes-sized c) (comes-settled c) in
    let w = r.0.w in
    let at = wins-at r.0.met r.0.wins in
    let most = all-most w.generation xs r.0.reach in record {
      m = a.m;
      least = a.least;
      least_at = end-least a.least c mk m e;
      most = end-most a.most c m e;
      both = a.both;
      both_at = λ d k. or_left (sync d) (live_at us d) (mk.both d k);
      guards = open-joined a.guards (sync-comers c mk.for_sync) m most (comes-past c at.0 w at.1) u r.2 og;
      lifted = a.lifted;
    }
look-opened joins_none a c mk m o = refused-over a c mk m (opening-end o m (comes-sized c) (comes-settled c))

-- the start
started : {past next : List Image} (m : ℕ) → Every (λ i. m ≤ i.generation) next → Every (λ i. i.generation ≤ m + 1) past → Resting NoSync past next next
started m h k = record { m = m; least = λ i z. at i h z; most = λ i z. top i k z; both = λ i z. z; guards = no-sync; lifted = λ h. absurd h } where
  at : {is : List Image} (i : Image) → Every (λ j. m ≤ j.generation) is → IsIn is i → m ≤ i.generation
  at i every_none z = elim z [ ]
  at i (every_more l h) (has_here e) = omega (arith, l, ap (λ (u : Image). u.generation) e)
  at i (every_more l h) (has_later z) = at i h z

  top : {is : List Image} (i : Image) → Every (λ j. j.generation ≤ m + 1) is → IsIn is i → i.generation ≤ m + 1
  top i every_none z = elim z [ ]
  top i (every_more l h) (has_here e) = omega (arith, l, ap (λ (u : Image). u.generation) e)
  top i (every_more l h) (has_later z) = top i h z

pub chain-sound : {v : Medium} {n : ℕ} {f : Sync} {k : Moment} → Chain v n f k → Sound v f k
chain-sound (chain_starts m h k) = started m h k
chain-sound (chain_runs h c mk m u o l) = run-opened (chain-sound h) c mk m u o l
chain-sound (chain_looks h c mk m o j) = look-opened j (chain-sound h) c mk m o
chain-sound (chain_refused h c mk m e) = refused-over (chain-sound h) c mk m e
chain-sound (run_reads h r) = running-read r (chain-sound h)
chain-sound (run_writes h w) = running-write w (chain-sound h)
chain-sound (run_flushes h fl l) = running-flush fl l (chain-sound h)
chain-sound (run_syncs h fl l p) = running-sync fl l p (chain-sound h)
chain-sound (run_ends h) = run-ended (chain-sound h)
chain-sound (run_write_stops h w) = run-write-stopped w (chain-sound h)
chain-sound (run_flush_stops h st l) = run-flush-stopped st (chain-sound h)
chain-sound (run_goes {f = f} {past = past} {counts = counts} {sync = sync} {V = V} {g = g} {xs = xs} {ys = ys} q h w l) =
    subst (λ u. Ending u (lived V f) past [] counts (live_at ys) sync ys) (sym q) (run-gone w (subst (λ u. Running u f past counts sync true g xs) q (chain-sound h)))
chain-sound (run_keeps {f = f} {past = past} {counts = counts} {sync = sync} {W = W} {g = g} {xs = xs} {ys = ys} q h w k l) =
    subst (λ u. Ending u (Lived (W ∷ []) []) past [] [] (live_at ys) (live_at ys) ys) (sym q) (run-kept w k l (subst (λ u. Running u f past counts sync true g xs) q (chain-sound h)))
chain-sound (look_reads h r) = ending-read (looks-still r) (chain-sound h)
chain-sound (look_writes {p = p} {x = x} h w) = ending-write p x (puts-still w) (chain-sound h)
chain-sound (look_ends h) = chain-sound h
chain-sound (look_stays {f = f} {past = past} {next = next} {counts = counts} {run = run} {sync = sync} {xs = xs} {ys = ys} q h m) =
    subst (λ u. Ending u f past next counts run sync ys) (sym q) (look-stayed m (subst (λ u. Ending u f past next counts run sync xs) q (chain-sound h)))
chain-sound (look_write_stops {p = p} {x = x} h w) = ending-write p x (write-stops-still w) (chain-sound h)
chain-sound (chain_rests h m) = rested m (chain-sound h)

-- the promise
pub chain-lasts : {v : Medium} {n d : ℕ} {f : Sync} {past next counts : List Image} {b owed : Bool} {c : Cell} {g : ℕ} {ss : List Store} {xs us : List Seat} → Chain v n f (Rests past next counts) → Every (Comes v n past) ss → Pairs Meets ss xs
    → Opens true n xs (Good owed g) us → Nth d xs (In b c) → IsIn counts c.now → (G : List (List ℕ)) × Every (HasPages G) us × Within (Allowed f) G
chain-lasts {v} {f = f} {c = c} {xs = xs} h cm m o nth z =
    let a = chain-sound h in
    let r = opens-answer v o m (comes-sized cm) (comes-settled cm) in
    let at = wins-at r.0.met r.0.wins in
    let l = most-at (every-nth (all-most r.0.w.generation xs r.0.reach) nth) in
    let q = a.guards.below c.now r.0.w z (comes-past cm at.0 r.0.w at.1) in
    (r.0.w.pages, state-pages r.2, elim q as (λ _. Within (Allowed f) r.0.w.pages) [ inl k ↦ k | inr k ↦ absurd (omega arith) ])

-- from a done sync on, what counts for the next run is above 1: so a ground owes a raise, also of one disk
pub chain-lifted : {v : Medium} {n : ℕ} {f : Sync} {past next counts : List Image} {i : Image} → IsDone f → Chain v n f (Rests past next counts) → IsIn next i → 1 < i.generation
chain-lifted {i = i} done h z = let a = chain-sound h in let l = a.least i z in let k = a.lifted done in omega arith

pub chain-owes : {v : Medium} {n d : ℕ} {f : Sync} {past next counts : List Image} {b owed : Bool} {c : Cell} {g : ℕ} {ss : List Store} {xs us : List Seat} → IsDone f → Chain v n f (Rests past next counts) → Every (Comes v n past) ss → Pairs Meets ss xs
    → Opens true n xs (Good owed g) us → Nth d xs (In b c) → IsIn next c.now → owed ≡ true
chain-owes {v} {c = c} {g = g} {xs = xs} {us = us} done h cm m o nth z =
    let r = opens-answer v o m (comes-sized cm) (comes-settled cm) in
    let l = most-at (every-nth (all-most r.0.w.generation xs r.0.reach) nth) in
    let k = chain-lifted done h z in
    let e = r.1 in
    let high : 1 < g = omega (arith, l, k, e) in
    r.4 ∙ or_right (ltb 1 (length us)) (ltb 1 g) (lt-ltb 1 g high)
