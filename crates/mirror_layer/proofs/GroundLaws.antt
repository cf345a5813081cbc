-- What a ground tells after each of its calls.
use Rattle.std.proofs.Common.{◌≡◌, ◌⊎◌, inl, inr, ℕ, min, ◌+◌, ◌^◌, ◌<◌, ◌≤◌, nat_lt, arith, Bool, true, false, List, [], ◌∷◌, ◌++◌, set, length, Option, Some, None, IfSome, refl, sym, ap, ◌∙◌, subst, length-set}
use Rattle.std.proofs.lemmas.Bool.Decides.{nat_tests}
use Rattle.page_ground.specs.Seen.{Imaged}
use Rattle.std.specs.Prelude.{slice_get, OnOk, OnErr, IfErr, Result, Ok, Err}
use Rattle.disk_format.specs.declared.shape.ImageShape.{ImageShape}
use Rattle.page_ground.specs.declared.fault.StoreFault.{StoreFault}
use Rattle.page_ground.specs.Seen.{Are, DiskSeen, Keeps, IsCalm, IsFault, ReadsPage, AllKept, KeptAt, with_page}
use Rattle.mirror_rules.specs.Tree.{Image, Cell, Seat, In, Out, Tree, seats, limit}
use Rattle.mirror_rules.specs.Claims.{Pairs, pairs_none, pairs_more, Every, every_none, every_more, Has, IsLive, HasPages, pages_live, KeepsPages, keeping_live, keeping_left, keeping_out}
use Rattle.mirror_rules.specs.Claims as claims
use Rattle.mirror_rules.specs.Steps.{Write, Says, Done, Fault, is_fault, Round, Reads, Look, Pays, Flushes, flush_owed, flush_even, flush_lost, flush_none, Puts, put_whole, put_lost, put_refused}
use Rattle.mirror_rules.specs.Guards.{Medium, Direct, shows_now, Within, Guarding, IsIn, live_at}
use Rattle.mirror_rules.specs.Levels.{Near, HasLevel, has_live, has_left, Even, Lower}
use Rattle.mirror_rules.specs.History.{Since_then}
use Rattle.mirror_rules.proofs.GuardLaws.{flushes-rise, guards-flush, guards-found}
use Rattle.mirror_rules.proofs.RoundLaws.{reads-look}
use Rattle.mirror_rules.proofs.PageLaws.{flush_keeps, keeps-holds, flush-done, flush-rose, flush-names, write-rose, write-names, read-rose, write-holds, refused-holds, read-holds, read-gives, write_round}
use Rattle.mirror_rules.proofs.GenLaws.{pays-bound, pays-up, flush-levels, flush-paid, puts-near, puts-even, puts-owes, looks-near, looks-even, flush-near, flush-even, flush-bound}
use Rattle.mirror_layer.specs.declared.node.Node.{Node, Opened, Shut, Coherency', Mirror'}
use Rattle.mirror_layer.specs.View.{Beside, beside_in}
use Rattle.mirror_layer.specs.Calls.{all_told, answered}
use Rattle.mirror_layer.specs.Calls as calls
use Rattle.mirror_layer.specs.Ground.{Ground, IsGround, Counted, outcome, as_imaged, image_told, kept_told, disk_seen, disks_seen, live_pages, pages_told, due_of, seen_of}
use Rattle.mirror_layer.proofs.ReadSteps.{Taken, Refused}
use Rattle.mirror_layer.proofs.SeenLaws.{keeps-by, calm-by, fault-by, kept-each, live-each, up-each}
use Rattle.mirror_layer.proofs.ChangeLaws.{Change, look-change, put-change, flush-change, steps, counts-after, apart, live-some, pages-are, got-back, round-calm, flush-calm, calm-where, reads-answer, answers-where, rises, blamed, look-live, round-live, flush-stay}

every-left : {A : Type 0} {P : A → Type 0} (xs ys : List A) → Every P (xs ++ ys) → Every P xs
every-left [] ys h = every_none
every-left (x ∷ xs) ys (every_more h i) = every_more h (every-left xs ys i)

every-right : {A : Type 0} {P : A → Type 0} (xs ys : List A) → Every P (xs ++ ys) → Every P ys
every-right [] ys h = h
every-right (x ∷ xs) ys (every_more h i) = every-right xs ys i

-- a ground by its parts
abbrev pub ground : ImageShape → Bool → ℕ → List Seat → List Beside → Ground
ground shape owed generation row beside = record { shape = shape; owed = owed; generation = generation; row = row; beside = beside }

-- pages that are told
told-same : (T : Bool) (P Q : List (List ℕ)) → (T ≡ true → Q ≡ P) → pages_told T Q ≡ pages_told T P
told-same true P Q f = ap (λ (v : List (List ℕ)). Some v) (f refl)
told-same false P Q f = refl

told-set : (T : Bool) (P Q : List (List ℕ)) (p : ℕ) (x : List ℕ) → (T ≡ true → Q ≡ set P p x) → pages_told T Q ≡ with_page p x (pages_told T P)
told-set true P Q p x f = ap (λ (v : List (List ℕ)). Some v) (f refl)
told-set false P Q p x f = refl

told-many : (T : Bool) (P : List (List ℕ)) (n : ℕ) → (T ≡ true → length P ≡ n) → IfSome (pages_told T P) (λ ps. length ps ≡ n)
told-many true P n f = f refl
told-many false P n f = tt

told-page : (T : Bool) (P : List (List ℕ)) (p : ℕ) (x : List ℕ) → (T ≡ true → slice_get P p ≡ Some x) → ReadsPage (pages_told T P) p x
told-page true P p x f = f refl
told-page false P p x f = tt

-- the pages of a ground whose disks are told
pub pages-of : (g : Ground) → IsGround g → all_told g.beside ≡ true → Every (HasPages (live_pages g.row)) g.row
pages-of g i t = let r = i.pages t in subst (λ F. Every (HasPages F) g.row) (sym (pages-are r.1 i.live)) r.1

pub pages-length : (g : Ground) → IsGround g → all_told g.beside ≡ true → length (live_pages g.row) ≡ g.shape.pages
pages-length g i t = let r = i.pages t in ap length (pages-are r.1 i.live) ∙ r.2

-- a ground after a call
pub record After (g h : Ground) : Type 0 where
  pub whole : IsGround h
  pub keeps : Keeps (seen_of g) (seen_of h)

abbrev Changes : Ground → List Seat → Type 0
Changes g u = Pairs (Change (all_told g.beside) (live_pages g.row) (live_pages u)) g.row u

next-ground : (g : Ground) (q : Bool) (n : ℕ) (u : List Seat) → IsGround g → Changes g u → Has IsLive u → (all_told g.beside ≡ true → (F : List (List ℕ)) × Every (HasPages F) u × (length F ≡ g.shape.pages)) → Every (Near Direct n) u → Even Direct q n u → n ≤ limit → g.generation ≤ n → due_of g.owed g.generation ≤ due_of q n
    → After g (ground g.shape q n u g.beside)
next-ground g q n u i c l p m e w level due =
    let r : IsGround (ground g.shape q n u g.beside) = record { live = l; there = i.there; shapes = i.shapes; differ = i.differ; counts = counts-after i.counts c; pages = p; near = m; even = e; within = w } in
    record {
      whole = r;
      keeps = keeps-by (seen_of g) (seen_of (ground g.shape q n u g.beside)) refl refl
          (told-many (all_told g.beside) (live_pages u) g.shape.pages (λ t. pages-length (ground g.shape q n u g.beside) r t)) (steps i.counts c) (apart i.counts i.differ) (live-some r.counts l) level due;
    }

-- a read
read-changes : (g : Ground) (u : List Seat) {p : ℕ} {x : List ℕ} {s : Says} → Look p x g.row s u → Changes g u
read-changes g u k = look-change k.each

pub after-read : (g : Ground) (u : List Seat) {p : ℕ} {x : List ℕ} {s : Says} → IsGround g → Look p x g.row s u → After g (ground g.shape g.owed g.generation u g.beside)
after-read g u i k = next-ground g g.owed g.generation u i (read-changes g u k) (look-live k.each i.live) (λ t. let r = i.pages t in (r.0, read-holds k.each r.1, r.2)) (looks-near k.each i.near) (looks-even {o = g.owed} k.each i.even) i.within (omega arith) (omega arith)

pub read-same : (g : Ground) (u : List Seat) {p : ℕ} {x : List ℕ} {s : Says} → IsGround g → Look p x g.row s u → (seen_of (ground g.shape g.owed g.generation u g.beside)).pages ≡ (seen_of g).pages
read-same g u i k = told-same (all_told g.beside) (live_pages g.row) (live_pages u) (λ t. pages-are (read-holds k.each (pages-of g i t)) (look-live k.each i.live))

pub read-page : (g : Ground) (u : List Seat) (p : ℕ) (x out : List ℕ) {w : Bool} → IsGround g → Look p x g.row (Done w) u → p < g.shape.pages → (all_told g.beside ≡ true → x ≡ out) → ReadsPage (seen_of g).pages p out
read-page g u p x out i k l told =
    told-page (all_told g.beside) (live_pages g.row) p out
    (λ t. got-back (live_pages g.row) p out (subst (λ n. p < n) (sym (pages-length g i t)) l) (read-gives k.found.0 (pages-of g i t) ∙ told t))

pub read-calm : (shape : ImageShape) (o : Bool) (n : ℕ) (bs : List Beside) (t u : Tree) {p : ℕ} {x : List ℕ} → IsGround (ground shape o n (seats t) bs) → Reads p x t (Done true) u → IsCalm (seen_of (ground shape o n (seats t) bs)) (seen_of (ground shape o n (seats u) bs))
read-calm shape o n bs t u i r =
    let g : Ground = ground shape o n (seats t) bs in
    calm-by (seen_of g) (seen_of (ground shape o n (seats u) bs)) (steps i.counts (read-changes g (seats u) (reads-look r))) (apart i.counts i.differ) (answers-where i.counts (reads-answer r refl))

pub read-fault : (g : Ground) (u : List Seat) (f : StoreFault) {p : ℕ} {x : List ℕ} → IsGround g → Look p x g.row (Fault f.disk f.count) u → IsFault (seen_of g) (seen_of (ground g.shape g.owed g.generation u g.beside)) f
read-fault g u f i k = fault-by (seen_of g) (seen_of (ground g.shape g.owed g.generation u g.beside)) f (steps i.counts (read-changes g u k)) (apart i.counts i.differ) (rises i.counts (read-rose k.each)) (blamed i.counts k.found)

-- a write, which may owe a raise, and pays none
write-due : (o q : Bool) (g : ℕ) → (q ≡ false → o ≡ false) → g ≤ limit → due_of o g ≤ due_of q g
write-due true true g f l = omega arith
write-due true false g f l = let both : true ≡ false = f refl in cc
write-due false true g f l = omega (arith, l)
write-due false false g f l = omega arith

puts-each : {p : ℕ} {x : List ℕ} {o q : Bool} {s : Says} {xs ys : List Seat} → Puts p x o xs s q ys → Round (Write p x) xs s ys
puts-each (put_whole h) = h
puts-each (put_lost h) = h
puts-each (put_refused h) = h

put-pages : (s : Says) (g : Ground) (q : Bool) (u : List Seat) {p : ℕ} {x : List ℕ} → IsGround g → Puts p x g.owed g.row s q u → all_told g.beside ≡ true → (F : List (List ℕ)) × Every (HasPages F) u × (length F ≡ g.shape.pages)
put-pages (Done w) g q u {p} {x} i h t = let r = i.pages t in (set r.0 p x, write-holds (write_round (puts-each h)) r.1, length-set r.0 p x ∙ r.2)
put-pages (Fault d n) g q u i h t = let r = i.pages t in (r.0, refused-holds (write_round (puts-each h)) r.1, r.2)

put-live : (g : Ground) (q : Bool) (u : List Seat) {p : ℕ} {x : List ℕ} {s : Says} → IsGround g → Puts p x g.owed g.row s q u → all_told g.beside ≡ true → Every (HasPages (live_pages u)) u
put-live g q u {s = s} i h t = let r = put-pages s g q u i h t in subst (λ F. Every (HasPages F) u) (sym (pages-are r.1 (round-live (puts-each h) i.live))) r.1

put-changes : (g : Ground) (q : Bool) (u : List Seat) {p : ℕ} {x : List ℕ} {s : Says} → IsGround g → Puts p x g.owed g.row s q u → Changes g u
put-changes g q u i h = put-change (puts-each h).each (put-live g q u i h)

pub after-write : (g : Ground) (q : Bool) (u : List Seat) {p : ℕ} {x : List ℕ} {s : Says} → IsGround g → Puts p x g.owed g.row s q u → After g (ground g.shape q g.generation u g.beside)
after-write g q u {s = s} i h = next-ground g q g.generation u i (put-changes g q u i h) (round-live (puts-each h) i.live) (put-pages s g q u i h) (puts-near h i.near) (puts-even h i.even) i.within (omega arith) (write-due g.owed q g.generation (puts-owes h) i.within)

pub write-pages : (g : Ground) (q : Bool) (u : List Seat) (p : ℕ) (x : List ℕ) {w : Bool} → IsGround g → Puts p x g.owed g.row (Done w) q u → (seen_of (ground g.shape q g.generation u g.beside)).pages ≡ with_page p x (seen_of g).pages
write-pages g q u p x i h = told-set (all_told g.beside) (live_pages g.row) (live_pages u) p x (λ t. pages-are (write-holds (write_round (puts-each h)) (pages-of g i t)) (round-live (puts-each h) i.live))

pub write-same : (g : Ground) (q : Bool) (u : List Seat) {p : ℕ} {x : List ℕ} {d n : ℕ} → IsGround g → Puts p x g.owed g.row (Fault d n) q u → (seen_of (ground g.shape q g.generation u g.beside)).pages ≡ (seen_of g).pages
write-same g q u i h = told-same (all_told g.beside) (live_pages g.row) (live_pages u) (λ t. pages-are (refused-holds (write_round (puts-each h)) (pages-of g i t)) (round-live (puts-each h) i.live))

pub write-calm : (g : Ground) (q : Bool) (u : List Seat) {p : ℕ} {x : List ℕ} {w : Bool} → IsGround g → Puts p x g.owed g.row (Done w) q u → IsCalm (seen_of g) (seen_of (ground g.shape q g.generation u g.beside))
write-calm g q u i h = calm-by (seen_of g) (seen_of (ground g.shape q g.generation u g.beside)) (steps i.counts (put-changes g q u i h)) (apart i.counts i.differ) (calm-where i.counts (round-calm (puts-each h).each) (puts-each h).answer.0)

pub write-fault : (g : Ground) (q : Bool) (u : List Seat) (f : StoreFault) {p : ℕ} {x : List ℕ} → IsGround g → Puts p x g.owed g.row (Fault f.disk f.count) q u → IsFault (seen_of g) (seen_of (ground g.shape q g.generation u g.beside)) f
write-fault g q u f i h = fault-by (seen_of g) (seen_of (ground g.shape q g.generation u g.beside)) f (steps i.counts (put-changes g q u i h)) (apart i.counts i.differ) (rises i.counts (write-rose h)) (blamed i.counts (write-names h))

-- a flush lowers nothing that is due, also one that is refused: what stays owed is counted from the generation that it left
raised-due : (g h : ℕ) → g ≤ h → due_of true g ≤ due_of true h
raised-due g h l = omega (arith, l)

pays-due : {g h : ℕ} (s : Says) {xs ys : List Seat} → Pays g xs s h ys → g ≤ limit → due_of true g ≤ due_of (is_fault s) h
pays-due (Done w) h l = pays-up h refl l
pays-due {g = g} {h = n} (Fault d k) h l = raised-due g n (pays-bound h l).0

owed-later : (q : Bool) (g h : ℕ) → g ≤ h → h ≤ limit → g ≤ due_of q h
owed-later true g h l m = omega (arith, l, m)
owed-later false g h l m = l

pub flush-due : {o q : Bool} {g h : ℕ} {s : Says} {xs ys : List Seat} → Flushes o g xs s q h ys → g ≤ limit → due_of o g ≤ due_of q h
flush-due {s = s} (flush_owed h) l = pays-due s h l
flush-due (flush_even h) l = omega arith
flush-due {g = g} {h = n} {s = s} (flush_lost h i) l = let b = pays-bound i l in owed-later (is_fault s) g n b.0 b.1
flush-due (flush_none h) l = omega arith

-- once nothing is owed, nothing more is due
paid-due : (q : Bool) (g : ℕ) → q ≡ false → due_of q g ≤ g
paid-due true g e = cc
paid-due false g e = omega arith

flush-changes : (g : Ground) (q : Bool) (n : ℕ) (u : List Seat) {s : Says} → IsGround g → Flushes g.owed g.generation g.row s q n u → Changes g u
flush-changes g q n u i h = flush-change (flush_keeps h) (flushes-rise h i.within i.near) (pages-of g i)

pub after-flush : (g : Ground) (q : Bool) (n : ℕ) (u : List Seat) {s : Says} → IsGround g → Flushes g.owed g.generation g.row s q n u → After g (ground g.shape q n u g.beside)
after-flush g q n u i h = next-ground g q n u i (flush-changes g q n u i h) (flush-stay h i.live) (λ t. let r = i.pages t in (r.0, keeps-holds (flush_keeps h) r.1, r.2)) (flush-near h i.within i.near) (flush-even h i.within i.near i.even) (flush-bound h i.within).1 (flush-bound h i.within).0 (flush-due h i.within)

pub flush-same : (g : Ground) (q : Bool) (n : ℕ) (u : List Seat) {s : Says} → IsGround g → Flushes g.owed g.generation g.row s q n u → (seen_of (ground g.shape q n u g.beside)).pages ≡ (seen_of g).pages
flush-same g q n u i h = told-same (all_told g.beside) (live_pages g.row) (live_pages u) (λ t. pages-are (keeps-holds (flush_keeps h) (pages-of g i t)) (flush-stay h i.live))

pub flush-quiet : (g : Ground) (q : Bool) (n : ℕ) (u : List Seat) {w : Bool} → IsGround g → Flushes g.owed g.generation g.row (Done w) q n u → IsCalm (seen_of g) (seen_of (ground g.shape q n u g.beside))
flush-quiet g q n u i h = calm-by (seen_of g) (seen_of (ground g.shape q n u g.beside)) (steps i.counts (flush-changes g q n u i h)) (apart i.counts i.differ) (calm-where i.counts (flush-calm h refl) (flush-stay h i.live))

pub flush-fault : (g : Ground) (q : Bool) (n : ℕ) (u : List Seat) (f : StoreFault) → IsGround g → Flushes g.owed g.generation g.row (Fault f.disk f.count) q n u → IsFault (seen_of g) (seen_of (ground g.shape q n u g.beside)) f
flush-fault g q n u f i h = fault-by (seen_of g) (seen_of (ground g.shape q n u g.beside)) f (steps i.counts (flush-changes g q n u i h)) (apart i.counts i.differ) (rises i.counts (flush-rose h)) (blamed i.counts (flush-names h refl))

-- after a flush that was taken each live disk keeps the pages
keep-one : (T t : Bool) (F : List (List ℕ)) (k : Option Image) → (T ≡ true → claims.pages_in k ≡ Some F) → KeptAt (kept_told t k) (pages_told T F)
keep-one T false F k f = tt
keep-one false true F k f = tt
keep-one true true F None f = f refl
keep-one true true F (Some i) f = f refl

first : {F : List (List ℕ)} {y : Seat} {ys : List Seat} → Every (KeepsPages F) (y ∷ ys) → KeepsPages F y
first (every_more k i) = k

rest : {F : List (List ℕ)} {y : Seat} {ys : List Seat} → Every (KeepsPages F) (y ∷ ys) → Every (KeepsPages F) ys
rest (every_more k i) = i

kept-of : {F : List (List ℕ)} {c : Cell} → KeepsPages F (In true c) → claims.pages_in c.kept ≡ Some F
kept-of (keeping_live k) = k

keeps-one : (T : Bool) (F : List (List ℕ)) (b : Beside) (y : Seat) → (T ≡ true → KeepsPages F y) → (disk_seen b y).live ≡ true → KeptAt (disk_seen b y).kept (pages_told T F)
keeps-one T F b (In true c) f e = keep-one T b.told F c.kept (λ t. kept-of (f t))
keeps-one T F b (In false c) f e = cc
keeps-one T F b (Out l s) f e = cc

keeping : (T : Bool) (F : List (List ℕ)) {bs : List Beside} {ys : List Seat} → Pairs Counted bs ys → (T ≡ true → Every (KeepsPages F) ys) → Every (λ (d : DiskSeen). d.live ≡ true → KeptAt d.kept (pages_told T F)) (disks_seen bs ys)
keeping T F pairs_none f = every_none
keeping T F (pairs_more {x = b} {y = y} c h) f = every_more (keeps-one T F b y (λ t. first (f t))) (keeping T F h (λ t. rest (f t)))

-- and each opened disk has the pages, or is behind
held-is : (t : Bool) (now : Image) (i : Imaged) → image_told t (Some now) ≡ Some i → i ≡ as_imaged now
held-is true now i e = cc
held-is false now i e = cc

level-one : (g : ℕ) (b : Beside) (y : Seat) → HasLevel Direct g y → (disk_seen b y).live ≡ true → (i : Imaged) → (disk_seen b y).holds ≡ Some i → i.generation ≡ g
level-one g b (In true c) (has_live f) l i is = ap (λ (v : Imaged). v.generation) (held-is b.told c.now i is) ∙ f c.now shows_now
level-one g b (In false c) h l i is = cc
level-one g b (Out q s) h l i is = cc

abbrev Behind : Option (List (List ℕ)) → ℕ → Imaged → Type 0
Behind pages g j = Are pages j.pages ⊎ (j.generation < g) ⊎ (2 ^ 63 ≤ g + 1)

are-pages : (T : Bool) (F ps : List (List ℕ)) → (T ≡ true → ps ≡ F) → Are (pages_told T F) ps
are-pages true F ps f = f refl
are-pages false F ps f = tt

live-has : {F : List (List ℕ)} {c : Cell} → HasPages F (In true c) → c.now.pages ≡ F
live-has (pages_live e) = e

left-level : (g generation : ℕ) → min (generation + 1) limit ≤ g → (generation < g) ⊎ (2 ^ 63 ≤ g + 1)
left-level g generation l = by (nat_lt generation g) refl
  where
    by : (t : Bool) → nat_lt generation g ≡ t → (generation < g) ⊎ (2 ^ 63 ≤ g + 1)
    by true e = inl (grind (arith, nat_tests))
    by false e = inr (let not_below : g ≤ generation = grind (arith, nat_tests) in omega (arith, not_below, l))

behind-one : (T : Bool) (F : List (List ℕ)) (g : ℕ) (b : Beside) (y : Seat) → HasLevel Direct g y → (T ≡ true → HasPages F y) → (disk_seen b y).up ≡ true → (j : Imaged) → (disk_seen b y).holds ≡ Some j → Behind (pages_told T F) g j
behind-one T F g b (In true c) h p up j is = inl (are-pages T F j.pages (λ t. ap (λ (v : Imaged). v.pages) (held-is b.told c.now j is) ∙ live-has (p t)))
behind-one T F g b (In false c) (has_left f) p up j is = inr (left-level g j.generation (subst (λ (v : Imaged). min (v.generation + 1) limit ≤ g) (sym (held-is b.told c.now j is)) (f c.now shows_now)))
behind-one T F g b (Out q s) h p up j is = cc

first-has : {F : List (List ℕ)} {y : Seat} {ys : List Seat} → Every (HasPages F) (y ∷ ys) → HasPages F y
first-has (every_more k i) = k

rest-have : {F : List (List ℕ)} {y : Seat} {ys : List Seat} → Every (HasPages F) (y ∷ ys) → Every (HasPages F) ys
rest-have (every_more k i) = i

levels : (g : ℕ) {bs : List Beside} {ys : List Seat} → Pairs Counted bs ys → Every (HasLevel Direct g) ys → Every (λ (d : DiskSeen). d.live ≡ true → (i : Imaged) → d.holds ≡ Some i → i.generation ≡ g) (disks_seen bs ys)
levels g pairs_none every_none = every_none
levels g (pairs_more {x = b} {y = y} c h) (every_more k i) = every_more (level-one g b y k) (levels g h i)

behinds : (T : Bool) (F : List (List ℕ)) (g : ℕ) {bs : List Beside} {ys : List Seat} → Pairs Counted bs ys → Every (HasLevel Direct g) ys → (T ≡ true → Every (HasPages F) ys) → Every (λ (d : DiskSeen). d.up ≡ true → (j : Imaged) → d.holds ≡ Some j → Behind (pages_told T F) g j) (disks_seen bs ys)
behinds T F g pairs_none every_none p = every_none
behinds T F g (pairs_more {x = b} {y = y} c h) (every_more k i) p = every_more (behind-one T F g b y k (λ t. first-has (p t))) (behinds T F g h i (λ t. rest-have (p t)))

pub flush-kept : (g : Ground) (q : Bool) (n : ℕ) (u : List Seat) {w : Bool} → IsGround g → Flushes g.owed g.generation g.row (Done w) q n u → AllKept (seen_of (ground g.shape q n u g.beside)) (seen_of (ground g.shape q n u g.beside)).pages
flush-kept g q n u i h =
    let a = (after-flush g q n u i h).whole in
    let same : all_told g.beside ≡ true → live_pages u ≡ live_pages g.row = λ t. pages-are (keeps-holds (flush_keeps h) (pages-of g i t)) (flush-stay h i.live) in
    let at : Every (HasLevel Direct n) u = flush-levels h i.within i.near i.even in
    record {
      kept = kept-each (pages_told (all_told g.beside) (live_pages u)) (disks_seen g.beside u) (apart a.counts a.differ)
          (keeping (all_told g.beside) (live_pages u) a.counts (λ t. subst (λ F. Every (KeepsPages F) u) (sym (same t)) (flush-done h (pages-of g i t))));
      behind = λ disk other i j live up is holds.
          let level : i.generation ≡ n = live-each (λ (v : Imaged). v.generation ≡ n) (disks_seen g.beside u) (apart a.counts a.differ) (levels n a.counts at) disk i live is in
          subst (λ m. Behind (pages_told (all_told g.beside) (live_pages u)) m j) (sym level)
          (up-each (Behind (pages_told (all_told g.beside) (live_pages u)) n) (disks_seen g.beside u)
          (behinds (all_told g.beside) (live_pages u) n a.counts at (pages-of (ground g.shape q n u g.beside) a)) other j up holds);
      paid = paid-due q n (flush-paid h refl);
    }

-- each disk has the ground's pages
pub has-pages : {D H : Type 0} (shape : ImageShape) (page size : ℕ) (n : Node D H) → Every (λ (b : Beside). b.shape ≡ shape) (beside_in n) → page < shape.pages → size ≡ shape.page_size → calls.HasPages page size n
has-pages shape page size (Opened m d) (every_more e h) l q = (subst (λ (v : ImageShape). page < v.pages) (sym e) l, q ∙ ap (λ (v : ImageShape). v.page_size) (sym e))
has-pages shape page size (Shut s) h l q = tt
has-pages shape page size (Coherency' p t) h l q = has-pages shape page size t h l q
has-pages shape page size (Mirror' p a r b) h l q = (has-pages shape page size a (every-left (beside_in a) (beside_in b) h) l q, has-pages shape page size b (every-right (beside_in a) (beside_in b) h) l q)

-- the same of a ground that is told in other words
pub moved : {g h : Ground} {shape : ImageShape} {q : Bool} {n : ℕ} {u : List Seat} {bs cs : List Beside} (P : Ground → Ground → Type 0) → g ≡ h → cs ≡ bs → P g (ground shape q n u bs) → P h (ground shape q n u cs)
moved {g} {h} {shape} {q} {n} {u} {bs} {cs} P e b p = subst (λ v. P v (ground shape q n u cs)) e (subst (λ v. P g (ground shape q n u v)) (sym b) p)

pub moved-one : {shape : ImageShape} {q : Bool} {n : ℕ} {u : List Seat} {bs cs : List Beside} → cs ≡ bs → IsGround (ground shape q n u bs) → IsGround (ground shape q n u cs)
moved-one {shape} {q} {n} {u} b p = subst (λ v. IsGround (ground shape q n u v)) (sym b) p

-- what a write's round said
pub done-put : {p : ℕ} {x : List ℕ} {o q : Bool} {xs ys : List Seat} → ((s : Says) × (outcome s ≡ Done true) × Puts p x o xs s q ys) → (w : Bool) × Puts p x o xs (Done w) q ys
done-put {p} {x} {o} {q} {xs} {ys} h = by h.0 h.1 h.2
  where
    by : (s : Says) → outcome s ≡ Done true → Puts p x o xs s q ys → (w : Bool) × Puts p x o xs (Done w) q ys
    by (Done w) e k = (w, k)
    by (Fault d n) e k = cc

pub fault-put : {p : ℕ} {x : List ℕ} {o q : Bool} {d n : ℕ} {xs ys : List Seat} → ((s : Says) × (outcome s ≡ Fault d n) × Puts p x o xs s q ys) → Puts p x o xs (Fault d n) q ys
fault-put {p} {x} {o} {q} {d} {n} {xs} {ys} h = by h.0 h.1 h.2
  where
    by : (s : Says) → outcome s ≡ Fault d n → Puts p x o xs s q ys → Puts p x o xs (Fault d n) q ys
    by (Done w) e k = cc
    by (Fault f m) e k = subst (λ v. Puts p x o xs v q ys) e k

-- which pages the disks guard
told-is : (T : Bool) (P G : List (List ℕ)) → pages_told T P ≡ Some G → (T ≡ true) × (P ≡ G)
told-is true P G e = (refl, cc)
told-is false P G e = cc

ground-pages : (g : Ground) (G : List (List ℕ)) → IsGround g → (seen_of g).pages ≡ Some G → Every (HasPages G) g.row
ground-pages g G i e = let t = told-is (all_told g.beside) (live_pages g.row) G e in subst (λ v. Every (HasPages v) g.row) t.1 (pages-of g i t.0)

pub guards-flushed : (g : Ground) (q : Bool) (n : ℕ) (u : List Seat) {s : Says} → IsGround g → Flushes g.owed g.generation g.row s q n u → (v : Medium) (F : List (List ℕ)) (ws : List (ℕ × List ℕ)) (L : ℕ → Bool) (past : List Image) (G : List (List ℕ)) → (seen_of g).pages ≡ Some G
    → Within (Since_then F ws) G → Every (Near v g.generation) g.row → Guarding v (Since_then F ws) L past g.row → Guarding v (Since_then F ws) L past u
guards-flushed g q n u i h v F ws L past G e w m k = guards-flush h i.within m (ground-pages g G i e) w k

abbrev Begins : Ground → ℕ → List Seat → Type 0
Begins g n u =
    (v : Medium) (past : List Image) (G : List (List ℕ)) → (seen_of g).pages ≡ Some G → Every (Near v g.generation) g.row → Even v g.owed g.generation g.row → n < limit → Every (Lower n) u → ((i : Image) → IsIn past i → i.generation < n)
    → Guarding v (Since_then G []) (live_at u) past u

guards-begin : (g : Ground) (q : Bool) (n : ℕ) (u : List Seat) {w : Bool} → IsGround g → Flushes g.owed g.generation g.row (Done w) q n u → Begins g n u
guards-begin g q n u i h v past G e m k l lo p = guards-found h i.within m k (ground-pages g G i e) l lo p

-- the same, whatever the call answers
abbrev pub Answer : Type 0
Answer = Result (Unit {0}) StoreFault

pub read-looks : (r : Answer) (page : ℕ) (out : List ℕ) (t u : Tree) (bs : List Beside) → OnOk r (Taken page out t bs u) → IfErr r (Refused page t u) → (x : List ℕ) × Look page x (seats t) (answered r) (seats u)
read-looks (Ok v) page out t u bs h k = (h.0, reads-look h.1)
read-looks (Err e) page out t u bs h k = ([], reads-look (k []))

pub read-bytes : (r : Answer) (shape : ImageShape) (o : Bool) (n : ℕ) (bs : List Beside) (t u : Tree) (page : ℕ) (out : List ℕ) → IsGround (ground shape o n (seats t) bs) → page < shape.pages → OnOk r (Taken page out t bs u)
    → OnOk r (ReadsPage (seen_of (ground shape o n (seats t) bs)).pages page out)
read-bytes (Ok v) shape o n bs t u page out i l h = read-page (ground shape o n (seats t) bs) (seats u) page h.0 out i (reads-look h.1) l h.2
read-bytes (Err e) shape o n bs t u page out i l h = tt

pub read-calms : (r : Answer) (shape : ImageShape) (o : Bool) (n : ℕ) (bs : List Beside) (t u : Tree) (page : ℕ) (out : List ℕ) → IsGround (ground shape o n (seats t) bs) → OnOk r (Taken page out t bs u)
    → OnOk r (IsCalm (seen_of (ground shape o n (seats t) bs)) (seen_of (ground shape o n (seats u) bs)))
read-calms (Ok v) shape o n bs t u page out i h = read-calm shape o n bs t u i h.1
read-calms (Err e) shape o n bs t u page out i h = tt

pub read-faults : (r : Answer) (shape : ImageShape) (o : Bool) (n : ℕ) (bs : List Beside) (t u : Tree) (page : ℕ) → IsGround (ground shape o n (seats t) bs) → IfErr r (Refused page t u)
    → IfErr r (IsFault (seen_of (ground shape o n (seats t) bs)) (seen_of (ground shape o n (seats u) bs)))
read-faults (Ok v) shape o n bs t u page i h = tt
read-faults (Err e) shape o n bs t u page i h = read-fault (ground shape o n (seats t) bs) (seats u) e i (reads-look (h []))

abbrev Put : Answer → Ground → Bool → List Seat → ℕ → List ℕ → Type 0
Put r g q u p x = (s : Says) × (outcome s ≡ answered r) × Puts p x g.owed g.row s q u

pub write-oks : (r : Answer) (g : Ground) (q : Bool) (u : List Seat) (p : ℕ) (x : List ℕ) → IsGround g → Put r g q u p x → OnOk r ((seen_of (ground g.shape q g.generation u g.beside)).pages ≡ with_page p x (seen_of g).pages)
write-oks (Ok v) g q u p x i h = write-pages g q u p x i (done-put h).1
write-oks (Err e) g q u p x i h = tt

pub write-errs : (r : Answer) (g : Ground) (q : Bool) (u : List Seat) (p : ℕ) (x : List ℕ) → IsGround g → Put r g q u p x → OnErr r ((seen_of (ground g.shape q g.generation u g.beside)).pages ≡ (seen_of g).pages)
write-errs (Ok v) g q u p x i h = tt
write-errs (Err e) g q u p x i h = write-same g q u i (fault-put h)

pub write-calms : (r : Answer) (g : Ground) (q : Bool) (u : List Seat) (p : ℕ) (x : List ℕ) → IsGround g → Put r g q u p x → OnOk r (IsCalm (seen_of g) (seen_of (ground g.shape q g.generation u g.beside)))
write-calms (Ok v) g q u p x i h = write-calm g q u i (done-put h).1
write-calms (Err e) g q u p x i h = tt

pub write-faults : (r : Answer) (g : Ground) (q : Bool) (u : List Seat) (p : ℕ) (x : List ℕ) → IsGround g → Put r g q u p x → IfErr r (IsFault (seen_of g) (seen_of (ground g.shape q g.generation u g.beside)))
write-faults (Ok v) g q u p x i h = tt
write-faults (Err e) g q u p x i h = write-fault g q u e i (fault-put h)

pub flush-oks : (r : Answer) (g : Ground) (q : Bool) (n : ℕ) (u : List Seat) → IsGround g → Flushes g.owed g.generation g.row (answered r) q n u → OnOk r (AllKept (seen_of (ground g.shape q n u g.beside)) (seen_of (ground g.shape q n u g.beside)).pages)
flush-oks (Ok v) g q n u i h = flush-kept g q n u i h
flush-oks (Err e) g q n u i h = tt

pub flush-calms : (r : Answer) (g : Ground) (q : Bool) (n : ℕ) (u : List Seat) → IsGround g → Flushes g.owed g.generation g.row (answered r) q n u → OnOk r (IsCalm (seen_of g) (seen_of (ground g.shape q n u g.beside)))
flush-calms (Ok v) g q n u i h = flush-quiet g q n u i h
flush-calms (Err e) g q n u i h = tt

pub flush-faults : (r : Answer) (g : Ground) (q : Bool) (n : ℕ) (u : List Seat) → IsGround g → Flushes g.owed g.generation g.row (answered r) q n u → IfErr r (IsFault (seen_of g) (seen_of (ground g.shape q n u g.beside)))
flush-faults (Ok v) g q n u i h = tt
flush-faults (Err e) g q n u i h = flush-fault g q n u e i h

pub flush-begins : (r : Answer) (g : Ground) (q : Bool) (n : ℕ) (u : List Seat) → IsGround g → Flushes g.owed g.generation g.row (answered r) q n u
    → OnOk r (Begins g n u)
flush-begins (Ok v) g q n u i h = guards-begin g q n u i h
flush-begins (Err e) g q n u i h = tt
