-- Durability: what a call, a close and a loss do to the images that guard.
use Rattle.std.proofs.Common.{◌≡◌, ℕ, zero, suc, ◌<◌, ◌≤◌, ◌⊎◌, inl, inr, Bool, true, false, List, [], ◌∷◌, length, set, get_or, Some, refl, sym, ◌∙◌, ap, subst, arith, length-set, get_or-set_same, get_or-set_other}
use Rattle.std.proofs.lemmas.Bool.Decides.{eqb_tells}
use Rattle.mirror_rules.specs.Tree.{Image, Cell, Store, Why, Seat, In, Out, next, limit}
use Rattle.mirror_rules.specs.Claims.{Pairs, pairs_none, pairs_more, Every, every_none, every_more, Nth, nth_here, nth_later, HasPages, pages_live, pages_left, pages_out, Keeps, keeps_out, keeps_left, keeps_live, keeps_lost, Kind, kind_in, kind_out, Writes, writes_out, writes_left, writes_taken, writes_lost, writes_none}
use Rattle.mirror_rules.specs.Steps.{Write, Raise, Flush, Says, Done, written, write_taken, raise_taken, flush_taken, Refuses, refused, raise_unkept, raise_kept, flush_kept, Asked, asked_out, asked_stale, asked_took, asked_lost, asked_none, Looked, looked_out, looked_stale, looked_same, looked_refused, Raised, raised_whole, raised_again, raised_none, Pays, pays_twice, pays_unraised, Flushes, flush_owed, flush_even, flush_lost, flush_none, Puts, put_whole, put_lost, put_refused, cut_before, cut_taken, cut_refused, Halted, halted_out, halted_stale, halted_live, RaiseStops, stops_here, stops_later, FlushStops, stops_owed, stops_even, stops_lost}
use Rattle.mirror_rules.specs.Guards.{Within, Or, Now, Medium, Caching, Stands, stands, Shows, shows_now, shows_kept, shows_out, At, at_place, IsIn, Guards, Placed, placed, Anywhere, in_drawer, in_place, GuardsAt, Guarded, Guarding, Leaves, leaves, leaves_none, live_at, Loses, loses_none, loses_image}
use Rattle.mirror_rules.specs.Levels.{Near, near_in, HasLevel, has_live, has_left, Even, Lower, lower_out}
use Rattle.mirror_rules.proofs.PageLaws.{pairs-then, pairs-both, flush_keeps, keeps-holds, puts_writes}
use Rattle.mirror_rules.proofs.RoundLaws.{pairs-map}
use Rattle.mirror_rules.proofs.GenLaws.{some-same, some-none, shows-any, unwritten-shows, faulted-shows, raised-near, raised-bound, flush-levels, flush-round-near, taken-near}
use Rattle.mirror_rules.proofs.OpenLaws.{nth-same, nth-back, nth-on}
use Rattle.mirror_rules.proofs.GivesLaws.{look-kind}

-- images that come from guarded ones guard on
pub guards-by : {A B : ℕ → List ℕ → Type 0} {C D V W : Image → Type 0} → Guards A C V → ((e : Image) → D e → (c : Image) × C c × (c.generation ≤ e.generation) × Within B e.pages)
    → ((c : Image) → C c → (b : Image) → W b → Within B b.pages ⊎ (b.generation < c.generation)) → Guards B D W
guards-by {B = B} g root each = record {
  holds = λ e h. (root e h).3;
  below = λ e b h k. let r = root e h in let l : r.0.generation ≤ e.generation = r.2 in elim (each r.0 r.1 b k) as (λ _. Within B b.pages ⊎ (b.generation < e.generation)) [ inl w ↦ inl w | inr q ↦ inr (omega arith) ];
}

pub guards-less : {A : ℕ → List ℕ → Type 0} {C D V W : Image → Type 0} → Guards A C V → ((e : Image) → D e → C e) → ((b : Image) → W b → V b) → Guards A D W
guards-less g f k = record { holds = λ c h. g.holds c (f c h); below = λ c b h w. g.below c b (f c h) (k b w) }

-- where an image comes from, that a disk shows after a call
pub data Came {X : Type 0} (S : X → Image → Type 0) (A B : ℕ → List ℕ → Type 0) (x : X) (e : Image) : Type 0 where
  came_within : {c : Image} → S x c → c.generation ≤ e.generation → Within B e.pages → Came S A B x e
  came_level : {c : Image} → S x c → e.generation ≡ c.generation → (Within A c.pages → Within B e.pages) → Came S A B x e

-- what a call may do to a disk
pub record Moves {X Y : Type 0} (S : X → Image → Type 0) (T : Y → Image → Type 0) (A B : ℕ → List ℕ → Type 0) (x : X) (y : Y) : Type 0 where
  pub came : (e : Image) → T y e → Came S A B x e

-- D: images that guard beside those in the row
pub guards-step : {X Y : Type 0} {S : X → Image → Type 0} {T : Y → Image → Type 0} {A B : ℕ → List ℕ → Type 0} {D : Image → Type 0} {L : ℕ → Bool} {past : List Image} {xs : List X} {ys : List Y} → ((F : List (List ℕ)) → Within A F → Within B F)
    → Guards A (λ c. D c ⊎ Placed S L xs c) (Anywhere S past xs) → Pairs (Moves S T A B) xs ys → Guards B (λ c. D c ⊎ Placed T L ys c) (Anywhere T past ys)
guards-step {X} {Y} {S} {T} {A} {B} {D} {L} {past} {xs} {ys} sub g m = guards-by g root each where
  from : {d : ℕ} {x : X} (e : Image) → L d ≡ true → Nth d xs x → Came S A B x e → (c : Image) × (D c ⊎ Placed S L xs c) × (c.generation ≤ e.generation) × Within B e.pages
  from e ld n (came_within {c = c} z l w) = (c, inr (placed ld (at_place n z)), l, w)
  from e ld n (came_level {c = c} z l f) = (c, inr (placed ld (at_place n z)), omega (arith, l), f (g.holds c (inr (placed ld (at_place n z)))))

  root : (e : Image) → D e ⊎ Placed T L ys e → (c : Image) × (D c ⊎ Placed S L xs c) × (c.generation ≤ e.generation) × Within B e.pages
  root e (inl d) = (e, inl d, omega arith, sub e.pages (g.holds e (inl d)))
  root e (inr (placed ld (at_place n q))) = let s = nth-back m n in from e ld s.1 (s.2.came e q)

  at : {k : ℕ} {x : X} (c b : Image) → D c ⊎ Placed S L xs c → Nth k xs x → Came S A B x b → Within B b.pages ⊎ (b.generation < c.generation)
  at c b h n (came_within z l w) = inl w
  at c b h n (came_level {c = a} z l f) = elim (g.below c a h (in_place (at_place n z))) as (λ _. Within B b.pages ⊎ (b.generation < c.generation)) [ inl w ↦ inl (f w) | inr q ↦ inr (omega arith) ]

  each : (c : Image) → D c ⊎ Placed S L xs c → (b : Image) → Anywhere T past ys b → Within B b.pages ⊎ (b.generation < c.generation)
  each c h b (in_drawer k) = elim (g.below c b h (in_drawer k)) [ inl w ↦ inl (sub b.pages w) | inr q ↦ inr q ]
  each c h b (in_place (at_place n q)) = let s = nth-back m n in at c b h s.1 (s.2.came b q)

-- the same with none beside
none-beside : {A : ℕ → List ℕ → Type 0} {C W : Image → Type 0} → Guards A C W → Guards A (λ c. ⊥ ⊎ C c) W
none-beside g = guards-less g (λ e h. elim h [ inl x ↦ absurd x | inr c ↦ c ]) (λ b w. w)

pub guards-row : {X Y : Type 0} {S : X → Image → Type 0} {T : Y → Image → Type 0} {K : X → Y → Type 0} {A B : ℕ → List ℕ → Type 0} {L : ℕ → Bool} {past : List Image} {xs : List X} {ys : List Y} → ((F : List (List ℕ)) → Within A F → Within B F)
    → ((x : X) (y : Y) (c : Image) → K x y → S x c → (e : Image) × T y e) → Pairs K xs ys → Pairs (Moves S T A B) xs ys → GuardsAt S A L past xs → GuardsAt T B L past ys
guards-row {S = S} {T = T} {L = L} {xs = xs} {ys = ys} sub on k m g = record {
  there = λ d ld. at (g.there d ld).0 (g.there d ld).1;
  guards = guards-less (guards-step {D = λ c. ⊥} sub (none-beside g.guards) m) (λ e h. inr h) (λ b w. w);
} where
  at : {d : ℕ} (c : Image) → At S d xs c → (e : Image) × At T d ys e
  at c (at_place {x = x} n q) = let t = nth-on k n in let r = on x t.0 c t.2 q in (r.0, at_place t.1 r.1)

-- pages
pub within-or : (A : ℕ → List ℕ → Type 0) (p : ℕ) (x : List ℕ) (F : List (List ℕ)) → Within A F → Within (Or A p x) F
within-or A p x F h q l = inl (h q l)

pub within-set : (A : ℕ → List ℕ → Type 0) (p : ℕ) (x : List ℕ) (F : List (List ℕ)) → Within A F → Within (Or A p x) (set F p x)
within-set A p x F h q l =
    let m : q < length F = omega (arith, length-set F p x) in
    elim (eqb_tells q p) as (λ _. Or A p x q (get_or (set F p x) q [])) [
      | inl t ↦ inr (t.1, ap (λ v. get_or (set F p x) v []) t.1 ∙ get_or-set_same F p x [] (subst (λ v. v < length F) t.1 m))
      | inr t ↦ inl (subst (A q) (sym (get_or-set_other F p q x [] t.1)) (h q m))
    ]

pub within-now : (F G : List (List ℕ)) → G ≡ F → Within (Now F) G
within-now F G e p l = ap (λ v. get_or v p []) e

-- a disk that shows what it showed, or that with a page written: of the same number
pub record Still (v : Medium) (A B : ℕ → List ℕ → Type 0) (x y : Seat) : Type 0 where
  pub from : (e : Image) → Shows v y e → (c : Image) × Shows v x c × (e.generation ≡ c.generation) × (Within A c.pages → Within B e.pages)

pub still-moves : {v : Medium} {A B : ℕ → List ℕ → Type 0} {x y : Seat} → Still v A B x y → Moves (Shows v) (Shows v) A B x y
still-moves h = record { came = λ e z. let r = h.from e z in came_level r.1 r.2 r.3 }

still-same : {v : Medium} {A B : ℕ → List ℕ → Type 0} {x y : Seat} → ((F : List (List ℕ)) → Within A F → Within B F) → ((e : Image) → Shows v y e → Shows v x e) → Still v A B x y
still-same f k = record { from = λ e z. (e, k e z, refl, f e.pages) }

-- a write
written-still : {v : Medium} {A : ℕ → List ℕ → Type 0} (p : ℕ) (x : List ℕ) {a b : Bool} (c : Cell) → Still v A (Or A p x) (In a c) (In b (written p x c))
written-still {v} {A} p x {a} {b} c = record { from = λ e z. one e z } where
  one : (e : Image) → Shows v (In b (written p x c)) e → (i : Image) × Shows v (In a c) i × (e.generation ≡ i.generation) × (Within A i.pages → Within (Or A p x) e.pages)
  one e shows_now = (c.now, shows_now, refl, within-set A p x c.now.pages)
  one e (shows_kept q k) = (e, shows_kept q k, refl, within-or A p x e.pages)

asked-still : {v : Medium} {A : ℕ → List ℕ → Type 0} {p : ℕ} {u : List ℕ} {s : Says} {x y : Seat} → Asked (Write p u) s x y → Still v A (Or A p u) x y
asked-still {A = A} {p = p} {u = u} asked_out = still-same (within-or A p u) (λ e z. z)
asked-still {A = A} {p = p} {u = u} asked_stale = still-same (within-or A p u) (λ e z. z)
asked-still (asked_took (write_taken {p = p} {x = x} {c = c})) = written-still p x c
asked-still {A = A} {p = p} {u = u} (asked_lost h) = still-same (within-or A p u) (λ e z. shows-any (unwritten-shows h e z))
asked-still {A = A} {p = p} {u = u} (asked_none h) = still-same (within-or A p u) (λ e z. unwritten-shows h e z)

pub puts-still : {v : Medium} {A : ℕ → List ℕ → Type 0} {p : ℕ} {x : List ℕ} {o q : Bool} {s : Says} {xs ys : List Seat} → Puts p x o xs s q ys → Pairs (Still v A (Or A p x)) xs ys
puts-still (put_whole h) = pairs-map (λ y z. asked-still) h.each
puts-still (put_lost h) = pairs-map (λ y z. asked-still) h.each
puts-still (put_refused h) = pairs-map (λ y z. asked-still) h.each

halted-still : {v : Medium} {A : ℕ → List ℕ → Type 0} {p : ℕ} {u : List ℕ} {x y : Seat} → Halted (Write p u) x y → Still v A (Or A p u) x y
halted-still {A = A} {p = p} {u = u} halted_out = still-same (within-or A p u) (λ e z. z)
halted-still {A = A} {p = p} {u = u} halted_stale = still-same (within-or A p u) (λ e z. z)
halted-still {A = A} {p = p} {u = u} (halted_live cut_before) = still-same (within-or A p u) (λ e z. shows-any z)
halted-still (halted_live (cut_taken (write_taken {p = p} {x = x} {c = c}))) = written-still p x c
halted-still {A = A} {p = p} {u = u} (halted_live (cut_refused h)) = still-same (within-or A p u) (λ e z. shows-any (unwritten-shows h e z))

pub write-stops-still : {v : Medium} {A : ℕ → List ℕ → Type 0} {p : ℕ} {x : List ℕ} {xs ys : List Seat} → Pairs (Halted (Write p x)) xs ys → Pairs (Still v A (Or A p x)) xs ys
write-stops-still h = pairs-map (λ y z. halted-still) h

-- a read
looked-still : {v : Medium} {A : ℕ → List ℕ → Type 0} {s : Says} {x y : Seat} → Looked s x y → Still v A A x y
looked-still looked_out = still-same (λ F a. a) (λ e z. z)
looked-still looked_stale = still-same (λ F a. a) (λ e z. z)
looked-still (looked_same q) = still-same (λ F a. a) (λ e z. z)
looked-still (looked_refused {n = n} l) = still-same (λ F a. a) (λ e z. faulted-shows n e z)

pub looks-still : {v : Medium} {A : ℕ → List ℕ → Type 0} {s : Says} {xs ys : List Seat} → Pairs (Looked s) xs ys → Pairs (Still v A A) xs ys
looks-still h = pairs-map (λ y z. looked-still) h

pub stills-move : {v : Medium} {A B : ℕ → List ℕ → Type 0} {xs ys : List Seat} → Pairs (Still v A B) xs ys → Pairs (Moves (Shows v) (Shows v) A B) xs ys
stills-move h = pairs-map (λ x y. still-moves) h

-- flushes: only live disks rise, and they have the ground's pages
pub record Risen (c d : Cell) : Type 0 where
  pub pages : d.now.pages ≡ c.now.pages
  pub later : c.now.generation ≤ d.now.generation
  -- what it keeps is as before, or has these pages
  pub kept : (i : Image) → d.kept ≡ Some i → (c.kept ≡ Some i) ⊎ ((i.pages ≡ c.now.pages) × (c.now.generation ≤ i.generation))

pub data Rises : Seat → Seat → Type 0 where
  rises_out : {b : Why} {s : Store} → Rises (Out b s) (Out b s)
  rises_left : {c : Cell} → Rises (In false c) (In false c)
  rises_live : {b : Bool} {c d : Cell} → Risen c d → Rises (In true c) (In b d)

risen-then : {c d e : Cell} → Risen c d → Risen d e → Risen c e
risen-then {c} {d} {e} h i = record {
  pages = i.pages ∙ h.pages;
  later = omega (arith, h.later, i.later);
  kept = λ j k. elim (i.kept j k) as (λ _. (c.kept ≡ Some j) ⊎ ((j.pages ≡ c.now.pages) × (c.now.generation ≤ j.generation))) [ inl q ↦ h.kept j q | inr q ↦ inr (q.0 ∙ h.pages, omega (arith, h.later, q.1)) ];
}

rises-then : {x y z : Seat} → Rises x y → Rises y z → Rises x z
rises-then rises_out rises_out = rises_out
rises-then rises_left rises_left = rises_left
rises-then (rises_live h) rises_left = rises_live h
rises-then (rises_live h) (rises_live i) = rises_live (risen-then h i)

rise-all : {xs ys zs : List Seat} → Pairs Rises xs ys → Pairs Rises ys zs → Pairs Rises xs zs
rise-all h i = pairs-then (λ x y z. rises-then) h i

risen-same : (c : Cell) → Risen c c
risen-same c = record { pages = refl; later = omega arith; kept = λ i k. inl k }

-- a disk that has raised its number or not, and keeps what it has
risen-kept : (c d : Cell) → d.now.pages ≡ c.now.pages → c.now.generation ≤ d.now.generation → d.kept ≡ Some d.now → Risen c d
risen-kept c d p l k = record {
  pages = p;
  later = l;
  kept = λ i q. let e : d.now ≡ i = some-same d.now i (sym k ∙ q) in inr (ap (λ (j : Image). j.pages) (sym e) ∙ p, omega (arith, l, ap (λ (j : Image). j.generation) e));
}

raise-risen : {g : ℕ} {c d : Cell} → c.now.generation ≤ g → Refuses (Raise g) c d → Risen c d
raise-risen l (refused r) = record { pages = refl; later = omega arith; kept = λ i k. inl k }
raise-risen l (raise_unkept r) = record { pages = refl; later = omega arith; kept = λ i k. inl k }
raise-risen {c = c} {d = d} l (raise_kept r) = risen-kept c d refl (omega arith) refl

flush-risen : {c d : Cell} → Refuses Flush c d → Risen c d
flush-risen (refused r) = record { pages = refl; later = omega arith; kept = λ i k. inl k }
flush-risen {c = c} {d = d} (flush_kept r) = risen-kept c d refl (omega arith) refl

near-now : {v : Medium} {g : ℕ} {b : Bool} {c : Cell} → Near v g (In b c) → c.now.generation ≤ next g
near-now (near_in most least) = most _ shows_now

raise-rises : {v : Medium} {g : ℕ} {s : Says} {x y : Seat} → Asked (Raise (next g)) s x y → Near v g x → Rises x y
raise-rises asked_out n = rises_out
raise-rises asked_stale n = rises_left
raise-rises (asked_took (raise_taken {c = c})) n = rises_live (risen-kept c _ refl (near-now n) refl)
raise-rises (asked_lost h) n = rises_live (raise-risen (near-now n) h)
raise-rises (asked_none h) n = rises_live (raise-risen (near-now n) h)

raise-round-rises : {v : Medium} {g : ℕ} {s : Says} {xs ys : List Seat} → Pairs (Asked (Raise (next g)) s) xs ys → Every (Near v g) xs → Pairs Rises xs ys
raise-round-rises h n = pairs-both (λ x y. raise-rises) h n

flush-rises : {s : Says} {x y : Seat} → Asked Flush s x y → Rises x y
flush-rises asked_out = rises_out
flush-rises asked_stale = rises_left
flush-rises (asked_took (flush_taken {c = c})) = rises_live (risen-kept c _ refl (omega arith) refl)
flush-rises (asked_lost h) = rises_live (flush-risen h)
flush-rises (asked_none h) = rises_live (flush-risen h)

flush-round-rises : {s : Says} {xs ys : List Seat} → Pairs (Asked Flush s) xs ys → Pairs Rises xs ys
flush-round-rises h = pairs-map (λ x y. flush-rises) h

raised-rises : {v : Medium} {g h : ℕ} {s : Says} {xs ys : List Seat} → Raised g xs s h ys → g ≤ limit → Every (Near v g) xs → Pairs Rises xs ys
raised-rises (raised_whole h) l n = raise-round-rises h.each n
raised-rises (raised_again h i) l n = rise-all (raise-round-rises h.each n) (raised-rises i (omega arith) (taken-near h l n))
raised-rises (raised_none h) l n = raise-round-rises h.each n

pays-rises : {v : Medium} {g h : ℕ} {s : Says} {xs ys : List Seat} → Pays g xs s h ys → g ≤ limit → Every (Near v g) xs → Pairs Rises xs ys
pays-rises (pays_twice h i) l n = rise-all (raised-rises h l n) (raised-rises i (raised-bound h l).1 (raised-near h l n))
pays-rises (pays_unraised h) l n = raised-rises h l n

pub flushes-rise : {v : Medium} {o q : Bool} {g h : ℕ} {s : Says} {xs ys : List Seat} → Flushes o g xs s q h ys → g ≤ limit → Every (Near v g) xs → Pairs Rises xs ys
flushes-rise (flush_owed h) l n = pays-rises h l n
flushes-rise (flush_even h) l n = flush-round-rises h.each
flushes-rise (flush_lost h i) l n = rise-all (flush-round-rises h.each) (pays-rises i l (flush-round-near h n))
flushes-rise (flush_none h) l n = flush-round-rises h.each

halted-rises : {v : Medium} {g : ℕ} {x y : Seat} → Halted (Raise (next g)) x y → Near v g x → Rises x y
halted-rises halted_out n = rises_out
halted-rises halted_stale n = rises_left
halted-rises (halted_live {c = c} cut_before) n = rises_live (risen-same c)
halted-rises (halted_live (cut_taken (raise_taken {c = c}))) n = rises_live (risen-kept c _ refl (near-now n) refl)
halted-rises (halted_live (cut_refused h)) n = rises_live (raise-risen (near-now n) h)

halted-flush-rises : {x y : Seat} → Halted Flush x y → Rises x y
halted-flush-rises halted_out = rises_out
halted-flush-rises halted_stale = rises_left
halted-flush-rises (halted_live {c = c} cut_before) = rises_live (risen-same c)
halted-flush-rises (halted_live (cut_taken (flush_taken {c = c}))) = rises_live (risen-kept c _ refl (omega arith) refl)
halted-flush-rises (halted_live (cut_refused h)) = rises_live (flush-risen h)

raise-stops-rise : {v : Medium} {g h : ℕ} {xs ys : List Seat} → RaiseStops g xs h ys → g ≤ limit → Every (Near v g) xs → Pairs Rises xs ys
raise-stops-rise (stops_here h) l n = pairs-both (λ x y. halted-rises) h n
raise-stops-rise (stops_later h i) l n = rise-all (raise-round-rises h.each n) (raise-stops-rise i (omega arith) (taken-near h l n))

pub flush-stops-rise : {v : Medium} {o : Bool} {g h : ℕ} {xs ys : List Seat} → FlushStops o g xs h ys → g ≤ limit → Every (Near v g) xs → Pairs Rises xs ys
flush-stops-rise (stops_owed h) l n = raise-stops-rise h l n
flush-stops-rise (stops_even h) l n = pairs-map (λ x y. halted-flush-rises) h
flush-stops-rise (stops_lost h i) l n = rise-all (flush-round-rises h.each) (raise-stops-rise i l (flush-round-near h n))

rise-moves : {v : Medium} {A : ℕ → List ℕ → Type 0} {F : List (List ℕ)} {x y : Seat} → Within A F → Rises x y → HasPages F x → Moves (Shows v) (Shows v) A A x y
rise-moves w rises_out h = still-moves (still-same (λ F a. a) (λ e z. z))
rise-moves w rises_left h = still-moves (still-same (λ F a. a) (λ e z. z))
rise-moves {v} {A} {F} w (rises_live {b = b} {c = c} {d = d} r) (pages_live p) = record { came = λ e z. one e z } where
  kept : (e : Image) → (q : v ≡ Caching) → (c.kept ≡ Some e) ⊎ ((e.pages ≡ c.now.pages) × (c.now.generation ≤ e.generation)) → Came (Shows v) A A (In true c) e
  kept e q (inl k) = came_level (shows_kept q k) refl (λ a. a)
  kept e q (inr k) = came_within shows_now k.1 (subst (Within A) (sym (k.0 ∙ p)) w)

  one : (e : Image) → Shows v (In b d) e → Came (Shows v) A A (In true c) e
  one e shows_now = came_within shows_now r.later (subst (Within A) (sym (r.pages ∙ p)) w)
  one e (shows_kept q k) = kept e q (r.kept e k)

pub rises-move : {v : Medium} {A : ℕ → List ℕ → Type 0} {F : List (List ℕ)} {xs ys : List Seat} → Within A F → Pairs Rises xs ys → Every (HasPages F) xs → Pairs (Moves (Shows v) (Shows v) A A) xs ys
rises-move w h p = pairs-both (λ x y. rise-moves w) h p

-- the laws of one call each
kind-shows : {v : Medium} (x y : Seat) (c : Image) → Kind x y → Shows v x c → (e : Image) × Shows v y e
kind-shows x y c (kind_in {d = d}) z = (d.now, shows_now)
kind-shows x y c kind_out z = (c, z)

keeps-kind : {f r : Bool} {xs ys : List Seat} → Pairs (Keeps f r) xs ys → Pairs Kind xs ys
keeps-kind h = pairs-map (λ x y. one) h where
  one : {f r : Bool} {x y : Seat} → Keeps f r x y → Kind x y
  one keeps_out = kind_out
  one keeps_left = kind_in
  one (keeps_live h a b) = kind_in
  one (keeps_lost h a) = kind_in

writes-kind : {p : ℕ} {x : List ℕ} {w : Bool} {xs ys : List Seat} → Pairs (Writes p x w) xs ys → Pairs Kind xs ys
writes-kind h = pairs-map (λ x y. one) h where
  one : {p : ℕ} {u : List ℕ} {w : Bool} {x y : Seat} → Writes p u w x y → Kind x y
  one writes_out = kind_out
  one writes_left = kind_in
  one (writes_taken g a b t f) = kind_in
  one (writes_lost a b t f) = kind_in
  one (writes_none a b t f) = kind_in

pub flush-kind : {o q : Bool} {g h : ℕ} {s : Says} {xs ys : List Seat} → Flushes o g xs s q h ys → Pairs Kind xs ys
flush-kind h = keeps-kind (flush_keeps h)

pub put-kind : {p : ℕ} {x : List ℕ} {o q : Bool} {s : Says} {xs ys : List Seat} → Puts p x o xs s q ys → Pairs Kind xs ys
put-kind h = writes-kind (puts_writes h)

pub guards-write : {v : Medium} {A : ℕ → List ℕ → Type 0} {L : ℕ → Bool} {past : List Image} {p : ℕ} {x : List ℕ} {o q : Bool} {s : Says} {xs ys : List Seat} → Puts p x o xs s q ys → Guarding v A L past xs → Guarding v (Or A p x) L past ys
guards-write {A = A} {p = p} {x = x} h g = guards-row (within-or A p x) kind-shows (put-kind h) (stills-move (puts-still h)) g

pub guards-look : {v : Medium} {A : ℕ → List ℕ → Type 0} {L : ℕ → Bool} {past : List Image} {s : Says} {xs ys : List Seat} → Pairs (Looked s) xs ys → Guarding v A L past xs → Guarding v A L past ys
guards-look h g = guards-row (λ F a. a) kind-shows (look-kind h) (stills-move (looks-still h)) g

pub guards-flush : {v : Medium} {A : ℕ → List ℕ → Type 0} {L : ℕ → Bool} {past : List Image} {F : List (List ℕ)} {o q : Bool} {g h : ℕ} {s : Says} {xs ys : List Seat} → Flushes o g xs s q h ys → g ≤ limit → Every (Near v g) xs → Every (HasPages F) xs → Within A F
    → Guarding v A L past xs → Guarding v A L past ys
guards-flush h l n p w g = guards-row (λ F a. a) kind-shows (flush-kind h) (rises-move w (flushes-rise h l n) p) g

-- a close
pub stood : {s : Store} {c : Image} → Stands s c → s.image ≡ Some c
stood (stands e) = e

leave-shows : {v : Medium} {x : Seat} {t : Store} {i : Image} → Leaves v x t → t.image ≡ Some i → Shows v x i
leave-shows {v} {x} {i = i} (leaves {i = j} h e) q = subst (λ k. Shows v x k) (some-same j i (sym e ∙ q)) h
leave-shows (leaves_none h e) q = absurd (some-none _ (sym q ∙ e))

pub leaves-at : {v : Medium} {d : ℕ} {xs : List Seat} {ts : List Store} {i : Image} → Pairs (Leaves v) xs ts → At Stands d ts i → At (Shows v) d xs i
leaves-at m (at_place n (stands q)) = let s = nth-back m n in at_place s.1 (leave-shows s.2 q)

leave-on : {v : Medium} (x : Seat) (t : Store) (c : Image) → Leaves v x t → Shows v x c → (e : Image) × Stands t e
leave-on x t c (leaves {i = i} h e) z = (i, stands e)
leave-on x t c (leaves_none h e) (shows_out q) = absurd (some-none c (sym q ∙ h))

leave-moves : {v : Medium} {A : ℕ → List ℕ → Type 0} {x : Seat} {t : Store} → Leaves v x t → Moves (Shows v) Stands A A x t
leave-moves {v} {A} {x} {t} h = record { came = λ e z. one e z } where
  one : (e : Image) → Stands t e → Came (Shows v) A A x e
  one e (stands q) = came_level (leave-shows h q) refl (λ a. a)

pub guards-close : {v : Medium} {A : ℕ → List ℕ → Type 0} {L : ℕ → Bool} {past : List Image} {xs : List Seat} {ss : List Store} → Pairs (Leaves v) xs ss → Guarding v A L past xs → Guarded A L past ss
guards-close m g = guards-row (λ F a. a) leave-on m (pairs-map (λ x t. leave-moves) m) g

-- lost: an image is gone
pub guards-lost : {A : ℕ → List ℕ → Type 0} {L : ℕ → Bool} {past : List Image} {S T : List Store} (K : ℕ → Bool) → Pairs Loses S T → Guarded A L past S → ((d : ℕ) → K d ≡ true → L d ≡ true) → ((d : ℕ) (c : Image) → K d ≡ true → At Stands d S c → At Stands d T c)
    → Guarded A K past T
guards-lost {L = L} {past = past} {S = S} {T = T} K m g sub keep = record {
  there = λ d kd. let h = g.there d (sub d kd) in (h.0, keep d h.0 kd h.1);
  guards = guards-less g.guards (λ e h. part e h) (λ b w. any b w);
} where
  one : {s t : Store} (b : Image) → Loses s t → t.image ≡ Some b → s.image ≡ Some b
  one b (loses_none e) q = sym e ∙ q
  one b (loses_image e) q = absurd (some-none b (sym q ∙ e))

  back : (e : ℕ) (b : Image) → At Stands e T b → At Stands e S b
  back e b (at_place n (stands q)) = let s = nth-back m n in at_place s.1 (stands (one b s.2 q))

  part : (e : Image) → Placed Stands K T e → Placed Stands L S e
  part e (placed {d = d} kd a) = placed (sub d kd) (back d e a)

  any : (b : Image) → Anywhere Stands past T b → Anywhere Stands past S b
  any b (in_drawer k) = in_drawer k
  any b (in_place {e = e} a) = in_place (back e b a)

-- found: the disks that are live after a flush that answers Ok guard its pages
pub every-nth : {A : Type 0} {P : A → Type 0} {n : ℕ} {xs : List A} {x : A} → Every P xs → Nth n xs x → P x
every-nth every_none h = elim h [ ]
every-nth (every_more p q) nth_here = p
every-nth (every_more p q) (nth_later h) = every-nth q h

pub live-nth : (xs : List Seat) (d : ℕ) → live_at xs d ≡ true → (c : Cell) × Nth d xs (In true c)
live-nth [] d e = cc
live-nth (In true c ∷ xs) zero e = (c, nth_here)
live-nth (In false c ∷ xs) zero e = cc
live-nth (Out b s ∷ xs) zero e = cc
live-nth (In b c ∷ xs) (suc d) e = let r = live-nth xs d e in (r.0, nth_later r.1)
live-nth (Out b s ∷ xs) (suc d) e = let r = live-nth xs d e in (r.0, nth_later r.1)

-- a live disk keeps what it has
pub data Kept : Seat → Type 0 where
  kept_in : {c : Cell} → c.kept ≡ Some c.now → Kept (In true c)
  kept_left : {c : Cell} → Kept (In false c)
  kept_out : {b : Why} {s : Store} → Kept (Out b s)

keeps-kept : {r : Bool} {xs ys : List Seat} → Pairs (Keeps true r) xs ys → Every Kept ys
keeps-kept pairs_none = every_none
keeps-kept (pairs_more keeps_out i) = every_more kept_out (keeps-kept i)
keeps-kept (pairs_more keeps_left i) = every_more kept_left (keeps-kept i)
keeps-kept (pairs_more (keeps_live h a b) i) = every_more (kept_in (a refl)) (keeps-kept i)
keeps-kept (pairs_more (keeps_lost h a) i) = every_more kept_left (keeps-kept i)

live-shows : {v : Medium} {F : List (List ℕ)} {g : ℕ} {c : Cell} {e : Image} → HasPages F (In true c) → HasLevel v g (In true c) → Kept (In true c) → Shows v (In true c) e → (e.pages ≡ F) × (e.generation ≡ g)
live-shows (pages_live p) (has_live l) k shows_now = (p, l _ shows_now)
live-shows {c = c} {e = e} (pages_live p) (has_live l) (kept_in k) (shows_kept q z) = (ap (λ (i : Image). i.pages) (some-same e c.now (sym z ∙ k)) ∙ p, l e (shows_kept q z))

any-shows : {v : Medium} {F : List (List ℕ)} {g : ℕ} {x : Seat} {e : Image} → g < limit → HasPages F x → HasLevel v g x → Kept x → Lower g x → Shows v x e → (e.pages ≡ F) ⊎ (e.generation < g)
any-shows m (pages_live p) l k o z = inl (live-shows (pages_live p) l k z).0
any-shows {e = e} m pages_left (has_left f) k o z = let r = f e z in inr (omega arith)
any-shows {e = e} m pages_out l k (lower_out f) (shows_out q) = inr (f e q)

pub guards-found : {v : Medium} {past : List Image} {F : List (List ℕ)} {o q w : Bool} {g h : ℕ} {xs ys : List Seat} → Flushes o g xs (Done w) q h ys → g ≤ limit → Every (Near v g) xs → Even v o g xs → Every (HasPages F) xs → h < limit
    → Every (Lower h) ys → ((i : Image) → IsIn past i → i.generation < h) → Guarding v (Now F) (live_at ys) past ys
guards-found {v} {past} {F} {h = h} {ys = ys} fl l n ev p m lo pa = record {
  there = λ d ld. let r = live-nth ys d ld in (r.0.now, at_place r.1 shows_now);
  guards = record { holds = λ c k. holds c k; below = λ c b k w. below c b k w };
} where
  lv : Every (HasLevel v h) ys
  lv = flush-levels fl l n ev

  pg : Every (HasPages F) ys
  pg = keeps-holds (flush_keeps fl) p

  kp : Every Kept ys
  kp = keeps-kept (flush_keeps fl)

  live : (d : ℕ) (c : Image) → live_at ys d ≡ true → At (Shows v) d ys c → (c.pages ≡ F) × (c.generation ≡ h)
  live d c ld (at_place {x = x} k z) = let r = live-nth ys d ld in live-shows (every-nth pg r.1) (every-nth lv r.1) (every-nth kp r.1) (subst (λ u. Shows v u c) (nth-same k r.1) z)

  holds : (c : Image) → Placed (Shows v) (live_at ys) ys c → Within (Now F) c.pages
  holds c (placed {d = d} ld a) = within-now F c.pages (live d c ld a).0

  any : (b : Image) → Anywhere (Shows v) past ys b → (b.pages ≡ F) ⊎ (b.generation < h)
  any b (in_drawer k) = inr (pa b k)
  any b (in_place (at_place k z)) = any-shows m (every-nth pg k) (every-nth lv k) (every-nth kp k) (every-nth lo k) z

  below : (c b : Image) → Placed (Shows v) (live_at ys) ys c → Anywhere (Shows v) past ys b → Within (Now F) b.pages ⊎ (b.generation < c.generation)
  below c b (placed {d = d} ld a) w = let e : c.generation ≡ h = (live d c ld a).1 in elim (any b w) as (λ _. Within (Now F) b.pages ⊎ (b.generation < c.generation)) [ inl k ↦ inl (within-now F b.pages k) | inr k ↦ inr (omega (arith, e)) ]
