-- What a write, a raise and a flush do to pages, and whose fault a refusal is.
use Rattle.std.proofs.Common.{◌≡◌, ℕ, ◌<◌, inl, inr, Bool, true, false, List, [], set, get_or, Some, refl, sym, ◌∙◌, ap, arith}
use Rattle.mirror_rules.specs.Tree.{Image, Cell, Seat}
use Rattle.mirror_rules.specs.Claims.{Pairs, pairs_none, pairs_more, Every, every_none, every_more, Has, has_here, has_later, HasPages, pages_live, pages_left, pages_out, pages_in, Same, Keeps, keeps_out, keeps_left, keeps_live, keeps_lost, Writes, writes_out, writes_left, writes_taken, writes_lost, writes_none, KeptOf, kept_live, kept_left, kept_out, Rose, rose_live, rose_left, rose_out, KeepsPages, keeping_live, keeping_left, keeping_out}
use Rattle.mirror_rules.specs.Steps.{Write, Raise, Flush, Says, Done, Fault, is_done, is_fault, write_taken, raise_taken, flush_taken, Refuses, refused, raise_unkept, raise_kept, flush_kept, Asked, asked_out, asked_stale, asked_took, asked_lost, asked_none, Looked, looked_out, looked_stale, looked_same, looked_refused, Named, named_here, named_later, Round, HasPage, page_live, Raised, raised_whole, raised_again, raised_none, Pays, pays_twice, pays_unraised, Flushes, flush_owed, flush_even, flush_lost, flush_none, Puts, put_whole, put_lost, put_refused}
use Rattle.mirror_rules.proofs.RoundLaws.{pairs-map}

-- one call after another, disk by disk
pub pairs-then : {A B C : Type 0} {R : A → B → Type 0} {S : B → C → Type 0} {T : A → C → Type 0} {xs : List A} {ys : List B} {zs : List C} → ((x : A) (y : B) (z : C) → R x y → S y z → T x z) → Pairs R xs ys → Pairs S ys zs → Pairs T xs zs
pairs-then f pairs_none pairs_none = pairs_none
pairs-then f (pairs_more {x = x} h i) (pairs_more {x = y} {y = z} k l) = pairs_more (f x y z h k) (pairs-then f i l)

pub pairs-every : {A B : Type 0} {R : A → B → Type 0} {P : A → Type 0} {Q : B → Type 0} {xs : List A} {ys : List B} → ((x : A) (y : B) → R x y → P x → Q y) → Pairs R xs ys → Every P xs → Every Q ys
pairs-every f pairs_none every_none = every_none
pairs-every f (pairs_more {x = x} {y = y} h i) (every_more p q) = every_more (f x y h p) (pairs-every f i q)

pub pairs-both : {A B : Type 0} {R S : A → B → Type 0} {P : A → Type 0} {xs : List A} {ys : List B} → ((x : A) (y : B) → R x y → P x → S x y) → Pairs R xs ys → Every P xs → Pairs S xs ys
pairs-both f pairs_none every_none = pairs_none
pairs-both f (pairs_more {x = x} {y = y} h i) (every_more p q) = pairs_more (f x y h p) (pairs-both f i q)

same-then : {c d e : Cell} → Same c d → Same d e → Same c e
same-then h i = record {
  disk = i.disk ∙ h.disk;
  pages = i.pages ∙ h.pages;
  kept = elim i.kept [ inl q ↦ elim h.kept [ inl z ↦ inl (q ∙ z) | inr z ↦ inr (q ∙ z) ] | inr q ↦ inr (q ∙ ap (λ (v : List (List ℕ)). Some v) h.pages) ];
  later = omega (arith, h.later, i.later);
}

keeps-then : {f g r : Bool} {x y z : Seat} → Keeps f false x y → Keeps g r y z → Keeps g r x z
keeps-then keeps_out keeps_out = keeps_out
keeps-then keeps_left keeps_left = keeps_left
keeps-then (keeps_live h a b) (keeps_live i c d) = keeps_live (same-then h i) c (λ e. omega (arith, h.later, d e))
keeps-then (keeps_live h a b) (keeps_lost i c) = keeps_lost (same-then h i) (omega (arith, h.later))
keeps-then (keeps_lost h a) keeps_left = keeps_lost h a

onward : {f g r : Bool} {xs ys zs : List Seat} → Pairs (Keeps f false) xs ys → Pairs (Keeps g r) ys zs → Pairs (Keeps g r) xs zs
onward h i = pairs-then (λ x y z. keeps-then) h i

raise-refused : {g : ℕ} {c d : Cell} → Refuses (Raise g) c d → Same c d × (c.faults < d.faults)
raise-refused (refused l) = (record { disk = refl; pages = refl; kept = inl refl; later = omega arith }, omega arith)
raise-refused (raise_unkept l) = (record { disk = refl; pages = refl; kept = inl refl; later = omega arith }, omega arith)
raise-refused (raise_kept l) = (record { disk = refl; pages = refl; kept = inr refl; later = omega arith }, omega arith)

flush-refused : {c d : Cell} → Refuses Flush c d → Same c d × (c.faults < d.faults)
flush-refused (refused l) = (record { disk = refl; pages = refl; kept = inl refl; later = omega arith }, omega arith)
flush-refused (flush_kept l) = (record { disk = refl; pages = refl; kept = inr refl; later = omega arith }, omega arith)

raise-keeps : {g : ℕ} {s : Says} {x y : Seat} → Asked (Raise g) s x y → Keeps (is_done s) (is_fault s) x y
raise-keeps asked_out = keeps_out
raise-keeps asked_stale = keeps_left
raise-keeps (asked_took raise_taken) = keeps_live (record { disk = refl; pages = refl; kept = inr refl; later = omega arith }) (λ e. refl) (λ e. cc)
raise-keeps (asked_lost h) = let r = raise-refused h in keeps_lost r.0 r.1
raise-keeps (asked_none h) = let r = raise-refused h in keeps_live r.0 (λ e. cc) (λ e. r.1)

flush-keeps : {s : Says} {x y : Seat} → Asked Flush s x y → Keeps (is_done s) (is_fault s) x y
flush-keeps asked_out = keeps_out
flush-keeps asked_stale = keeps_left
flush-keeps (asked_took flush_taken) = keeps_live (record { disk = refl; pages = refl; kept = inr refl; later = omega arith }) (λ e. refl) (λ e. cc)
flush-keeps (asked_lost h) = let r = flush-refused h in keeps_lost r.0 r.1
flush-keeps (asked_none h) = let r = flush-refused h in keeps_live r.0 (λ e. cc) (λ e. r.1)

pub raise_round : {g : ℕ} {s : Says} {xs ys : List Seat} → Round (Raise g) xs s ys → Pairs (Keeps (is_done s) (is_fault s)) xs ys
raise_round h = pairs-map (λ x y. raise-keeps) h.each

pub flush_round : {s : Says} {xs ys : List Seat} → Round Flush xs s ys → Pairs (Keeps (is_done s) (is_fault s)) xs ys
flush_round h = pairs-map (λ x y. flush-keeps) h.each

pub raised_keeps : {g h : ℕ} {s : Says} {xs ys : List Seat} → Raised g xs s h ys → Pairs (Keeps (is_done s) (is_fault s)) xs ys
raised_keeps (raised_whole h) = raise_round h
raised_keeps (raised_again h i) = onward (raise_round h) (raised_keeps i)
raised_keeps (raised_none h) = raise_round h

pub pays_keeps : {g h : ℕ} {s : Says} {xs ys : List Seat} → Pays g xs s h ys → Pairs (Keeps (is_done s) (is_fault s)) xs ys
pays_keeps (pays_twice h i) = onward (raised_keeps h) (raised_keeps i)
pays_keeps (pays_unraised h) = raised_keeps h

pub flush_keeps : {o q : Bool} {g h : ℕ} {s : Says} {xs ys : List Seat} → Flushes o g xs s q h ys → Pairs (Keeps (is_done s) (is_fault s)) xs ys
flush_keeps (flush_owed h) = pays_keeps h
flush_keeps (flush_even h) = flush_round h
flush_keeps (flush_lost h i) = onward (flush_round h) (pays_keeps i)
flush_keeps (flush_none h) = flush_round h

-- a raise and a flush keep the pages
pub keeps-holds : {F : List (List ℕ)} {f r : Bool} {xs ys : List Seat} → Pairs (Keeps f r) xs ys → Every (HasPages F) xs → Every (HasPages F) ys
keeps-holds h i = pairs-every (λ x y. one) h i where
  one : {F : List (List ℕ)} {f r : Bool} {x y : Seat} → Keeps f r x y → HasPages F x → HasPages F y
  one keeps_out p = pages_out
  one keeps_left p = pages_left
  one (keeps_live h a b) (pages_live e) = pages_live (h.pages ∙ e)
  one (keeps_lost h a) p = pages_left

-- the kept pages of each disk that is live then are those before, or the ground's at the start
pub flush-kept : {F : List (List ℕ)} {o q : Bool} {g h : ℕ} {s : Says} {xs ys : List Seat} → Flushes o g xs s q h ys → Every (HasPages F) xs → Pairs (KeptOf F) xs ys
flush-kept h i = pairs-both (λ x y. one) (flush_keeps h) i where
  one : {F : List (List ℕ)} {f r : Bool} {x y : Seat} → Keeps f r x y → HasPages F x → KeptOf F x y
  one keeps_out p = kept_out
  one keeps_left p = kept_left
  one (keeps_live {c = c} {d = d} h a b) (pages_live e) = kept_live {c = c} {d = d} (elim h.kept [ inl q ↦ inl q | inr q ↦ inr (q ∙ ap (λ (v : List (List ℕ)). Some v) e) ])
  one (keeps_lost h a) p = kept_left

-- a flush that answers Ok leaves the kept pages of each live disk at the ground's
pub flush-done : {F : List (List ℕ)} {o q w : Bool} {g h : ℕ} {xs ys : List Seat} → Flushes o g xs (Done w) q h ys → Every (HasPages F) xs → Every (KeepsPages F) ys
flush-done h i = pairs-every (λ x y. one) (flush_keeps h) i where
  one : {F : List (List ℕ)} {r : Bool} {x y : Seat} → Keeps true r x y → HasPages F x → KeepsPages F y
  one keeps_out p = keeping_out
  one keeps_left p = keeping_left
  one (keeps_live h a b) (pages_live e) = keeping_live (ap pages_in (a refl) ∙ ap (λ (v : List (List ℕ)). Some v) (h.pages ∙ e))
  one (keeps_lost h a) p = keeping_left

write-one : {p : ℕ} {x : List ℕ} {s : Says} {y z : Seat} → Asked (Write p x) s y z → Writes p x (is_done s) y z
write-one asked_out = writes_out
write-one asked_stale = writes_left
write-one (asked_took write_taken) = writes_taken refl refl refl refl refl
write-one (asked_lost (refused l)) = writes_lost refl refl refl l
write-one (asked_none (refused l)) = writes_none refl refl refl l

pub write_round : {p : ℕ} {x : List ℕ} {s : Says} {xs ys : List Seat} → Round (Write p x) xs s ys → Pairs (Writes p x (is_done s)) xs ys
write_round h = pairs-map (λ y z. write-one) h.each

pub puts_writes : {p : ℕ} {x : List ℕ} {o q : Bool} {s : Says} {xs ys : List Seat} → Puts p x o xs s q ys → Pairs (Writes p x (is_done s)) xs ys
puts_writes (put_whole h) = write_round h
puts_writes (put_lost h) = write_round h
puts_writes (put_refused h) = write_round h

-- a write that was taken changes the page on every live disk, and one that was refused changes none
pub write-holds : {F : List (List ℕ)} {p : ℕ} {x : List ℕ} {xs ys : List Seat} → Pairs (Writes p x true) xs ys → Every (HasPages F) xs → Every (HasPages (set F p x)) ys
write-holds h i = pairs-every (λ x y. one) h i where
  one : {F : List (List ℕ)} {p : ℕ} {v : List ℕ} {x y : Seat} → Writes p v true x y → HasPages F x → HasPages (set F p v) y
  one writes_out q = pages_out
  one writes_left q = pages_left
  one {p = p} {v = v} (writes_taken g a b t f) (pages_live e) = pages_live (a ∙ ap (λ (u : List (List ℕ)). set u p v) e)
  one (writes_lost a b t f) q = pages_left
  one (writes_none a b t f) q = cc

pub refused-holds : {F : List (List ℕ)} {p : ℕ} {x : List ℕ} {xs ys : List Seat} → Pairs (Writes p x false) xs ys → Every (HasPages F) xs → Every (HasPages F) ys
refused-holds h i = pairs-every (λ x y. one) h i where
  one : {F : List (List ℕ)} {p : ℕ} {v : List ℕ} {x y : Seat} → Writes p v false x y → HasPages F x → HasPages F y
  one writes_out q = pages_out
  one writes_left q = pages_left
  one (writes_taken g a b t f) q = cc
  one (writes_lost a b t f) q = pages_left
  one (writes_none a b t f) (pages_live e) = pages_live (ap (λ (v : Image). v.pages) a ∙ e)

-- a read changes no page, and gives the page of the live disks
pub read-holds : {F : List (List ℕ)} {s : Says} {xs ys : List Seat} → Pairs (Looked s) xs ys → Every (HasPages F) xs → Every (HasPages F) ys
read-holds h i = pairs-every (λ x y. one) h i where
  one : {F : List (List ℕ)} {s : Says} {x y : Seat} → Looked s x y → HasPages F x → HasPages F y
  one looked_out q = pages_out
  one looked_stale q = pages_left
  one (looked_same e) q = q
  one (looked_refused l) (pages_live e) = pages_live e

pub read-gives : {F : List (List ℕ)} {p : ℕ} {x : List ℕ} {xs : List Seat} → Has (HasPage p x) xs → Every (HasPages F) xs → get_or F p [] ≡ x
read-gives {p = p} (has_here (page_live e)) (every_more (pages_live h) i) = ap (λ (v : List (List ℕ)). get_or v p []) (sym h) ∙ e
read-gives (has_later h) (every_more a i) = read-gives h i

-- what a later part of the call names, the call names
named-before : {f r : Bool} {d n : ℕ} {xs ys zs : List Seat} → Pairs (Keeps f r) xs ys → Named d n ys zs → Named d n xs zs
named-before pairs_none k = elim k [ ]
named-before (pairs_more (keeps_live h a b) i) (named_here p q r) = named_here (sym h.disk ∙ p) (omega (arith, h.later)) r
named-before (pairs_more h i) (named_later k) = named_later (named-before i k)

pub raised-names : {g h : ℕ} {s : Says} {d n : ℕ} {xs ys : List Seat} → Raised g xs s h ys → s ≡ Fault d n → Named d n xs ys
raised-names (raised_whole h) e = cc
raised-names (raised_again h i) e = named-before (raise_round h) (raised-names i e)
raised-names {d = d} {n = n} (raised_none {d = e} {n = m} h) k = let a : e ≡ d = cc in let b : m ≡ n = cc in rw (← a, ← b) h.answer

pub pays-names : {g h : ℕ} {s : Says} {d n : ℕ} {xs ys : List Seat} → Pays g xs s h ys → s ≡ Fault d n → Named d n xs ys
pays-names (pays_twice h i) e = named-before (raised_keeps h) (raised-names i e)
pays-names (pays_unraised h) e = raised-names h e

pub flush-names : {o q : Bool} {g h : ℕ} {s : Says} {d n : ℕ} {xs ys : List Seat} → Flushes o g xs s q h ys → s ≡ Fault d n → Named d n xs ys
flush-names (flush_owed h) e = pays-names h e
flush-names (flush_even h) e = cc
flush-names (flush_lost h i) e = named-before (flush_round h) (pays-names i e)
flush-names {d = d} {n = n} (flush_none {d = e} {n = m} h) k = let a : e ≡ d = cc in let b : m ≡ n = cc in rw (← a, ← b) h.answer

-- a refused call names a live disk, and each live disk's count rose
pub flush-rose : {o q : Bool} {g h d n : ℕ} {xs ys : List Seat} → Flushes o g xs (Fault d n) q h ys → Pairs Rose xs ys
flush-rose h = pairs-map (λ x y. one) (flush_keeps h) where
  one : {x y : Seat} → Keeps false true x y → Rose x y
  one keeps_out = rose_out
  one keeps_left = rose_left
  one (keeps_live h a b) = rose_live (b refl)
  one (keeps_lost h a) = rose_live a

pub write-rose : {p : ℕ} {x : List ℕ} {o q : Bool} {d n : ℕ} {xs ys : List Seat} → Puts p x o xs (Fault d n) q ys → Pairs Rose xs ys
write-rose h = pairs-map (λ y z. one) (puts_writes h) where
  one : {p : ℕ} {x : List ℕ} {y z : Seat} → Writes p x false y z → Rose y z
  one writes_out = rose_out
  one writes_left = rose_left
  one (writes_taken g a b t f) = cc
  one (writes_lost a b t f) = rose_live f
  one (writes_none a b t f) = rose_live f

pub read-rose : {d n : ℕ} {xs ys : List Seat} → Pairs (Looked (Fault d n)) xs ys → Pairs Rose xs ys
read-rose h = pairs-map (λ x y. one) h where
  one : {d n : ℕ} {x y : Seat} → Looked (Fault d n) x y → Rose x y
  one looked_out = rose_out
  one looked_stale = rose_left
  one (looked_same e) = cc
  one (looked_refused l) = rose_live l

pub write-names : {p : ℕ} {x : List ℕ} {o q : Bool} {d n : ℕ} {xs ys : List Seat} → Puts p x o xs (Fault d n) q ys → Named d n xs ys
write-names (put_refused h) = h.answer
