-- What a disk's calls are to the machine of mirrors.
use Rattle.std.proofs.Common.{◌≡◌, ◌⊎◌, inl, inr, ℕ, zero, suc, ◌<◌, ◌≤◌, true, List, [], ◌∷◌, get_or, Option, Some, None, IfSome, refl, sym, ap, ◌∙◌, subst, arith}
use Rattle.std.specs.Prelude.{Contains, is_some, slice_get}
use Rattle.std.specs.Option.{option_map}
use Rattle.std.proofs.lemmas.Bool.{eq-eqb}
use Rattle.spr_io.specs.Content.{Content, written, flushed}
use Rattle.disk_format.specs.declared.shape.ImageShape.{ImageShape}
use Rattle.disk_format.specs.VersionOne.{header}
use Rattle.page_ground.specs.Seen.{Imaged}
use Rattle.disk_format.specs.Image.{image, pages_of}
use Rattle.page_ground.specs.declared.fault.StoreFault.{StoreFault}
use Rattle.page_ground.specs.Seen.{IsFault, ReadsPage, with_page}
use Rattle.disk_layer.specs.Disk.{Disk, HasImage, SameBut, seen_of, pages_on, kept_on, counting, headed, settled}
use Rattle.mirror_rules.specs.Tree.{Image, Cell, Leaf, In}
use Rattle.mirror_rules.specs.Steps.{Act, Write, Raise, Flush, Says, Done, Fault, faulted, kept_now, Takes, write_taken, raise_taken, flush_taken, Refuses, refused, raise_unkept, raise_kept, Passes, pass_taken, pass_refused, Reads, read_taken, read_refused}
use Rattle.mirror_rules.specs.Steps as steps
use Rattle.mirror_layer.specs.View.{Beside, told_pages, as_image, cell_from, cell_of, leaf_of, beside_of}
use Rattle.mirror_layer.specs.Calls.{ReadsLeaf}

-- a fault of one disk
one-live : (x n : ℕ) → Contains (x ∷ []) n → n ≡ x
one-live x n (zero, lt, is) = sym is
one-live x n (suc k, lt, is) = absurd (omega arith)

record Failed (a b : Disk) (f : StoreFault) : Type 0 where
  disk : f.disk ≡ a.disk
  above : a.faults < f.count
  exact : f.count ≡ b.faults

failed : (a b : Disk) (f : StoreFault) → b.disk ≡ a.disk → IsFault (seen_of a) (seen_of b) f → Failed a b f
failed a b f e h =
    let q = one-live a.disk f.disk h.named in
    record { disk = q; above = rw (eq-eqb f.disk a.disk q) at h.above; exact = rw (eq-eqb f.disk b.disk (q ∙ sym e)) at h.exact }

-- a refused call
refuses : {act : Act} (a b : Disk) (f : StoreFault) (d : Cell) → cell_of b ≡ d → Refuses act (cell_of a) d → d.faults ≡ b.faults → Failed a b f → Passes act (leaf_of a) (Fault f.disk f.count) (leaf_of b)
refuses {act} a b f d e r n h =
    let p : Passes act (leaf_of a) (Fault a.disk f.count) (Leaf (In true d)) = subst (λ v. Passes act (leaf_of a) (Fault a.disk v) (Leaf (In true d))) (n ∙ sym h.exact) (pass_refused r) in
    subst (λ v. Passes act (leaf_of a) (Fault v f.count) (leaf_of b)) (sym h.disk) (subst (λ v. Passes act (leaf_of a) (Fault a.disk f.count) (Leaf (In true v))) (sym e) p)

taken : {act : Act} (a b : Disk) (d : Cell) → cell_of b ≡ d → Takes act (cell_of a) d → Passes act (leaf_of a) (Done true) (leaf_of b)
taken {act} a b d e t = subst (λ v. Passes act (leaf_of a) (Done true) (Leaf (In true v))) (sym e) (pass_taken t)

still : (a b : Disk) (f : StoreFault) → b ≡ counting b.faults a → Failed a b f → (act : Act) → Passes act (leaf_of a) (Fault f.disk f.count) (leaf_of b)
still a b f e h act =
    let lt : a.faults < b.faults = omega (arith, h.above, h.exact) in
    refuses a b f (faulted b.faults (cell_of a)) (ap cell_of e) (refused lt) refl h

-- cells by their parts
cells : {d d2 g g2 n n2 : ℕ} {p p2 : Option (List (List ℕ))} {k k2 : Option (Option Imaged)} → d ≡ d2 → g ≡ g2 → p ≡ p2 → k ≡ k2 → n ≡ n2 → cell_from d g p k n ≡ cell_from d2 g2 p2 k2 n2
cells {d} {d2} {g} {g2} {n} {n2} {p} {p2} {k} {k2} a b c e f =
    ap (λ v. cell_from v g p k n) a ∙ ap (λ v. cell_from d2 v p k n) b ∙ ap (λ v. cell_from d2 g2 v k n) c ∙ ap (λ v. cell_from d2 g2 p2 v n) e ∙ ap (λ v. cell_from d2 g2 p2 k2 v) f

-- a write
with-written : (a : Disk) (p : ℕ) (x : List ℕ) (n : ℕ) → cell_from a.disk a.generation (with_page p x (pages_on a)) (kept_on a) n ≡ faulted n (steps.written p x (cell_of a))
with-written a p x n = by a.content
  where
    by : (content : Option Content)
        → cell_from a.disk a.generation (with_page p x (option_map {T = Content} (λ c. pages_of a.shape.page_size c.blocks a.entries) content)) (option_map {T = Content} (λ c. image a.shape c.kept) content) n
        ≡ faulted n (steps.written p x (cell_from a.disk a.generation (option_map {T = Content} (λ c. pages_of a.shape.page_size c.blocks a.entries) content) (option_map {T = Content} (λ c. image a.shape c.kept) content) a.faults))
    by None = refl
    by (Some c) = refl

pub write-took : (a b : Disk) (p : ℕ) (x : List ℕ) → SameBut a b → pages_on b ≡ with_page p x (pages_on a) → b.faults ≡ a.faults → Passes (Write p x) (leaf_of a) (Done true) (leaf_of b)
write-took a b p x s e n = taken a b (steps.written p x (cell_of a)) (cells s.disk s.generation e s.kept n ∙ with-written a p x a.faults) write_taken

pub write-refused : (a b : Disk) (p : ℕ) (x : List ℕ) (f : StoreFault) → SameBut a b → pages_on b ≡ pages_on a → IsFault (seen_of a) (seen_of b) f → Passes (Write p x) (leaf_of a) (Fault f.disk f.count) (leaf_of b)
write-refused a b p x f s e h =
    let r = failed a b f s.disk h in
    let lt : a.faults < b.faults = omega (arith, r.above, r.exact) in
    refuses a b f (faulted b.faults (cell_of a)) (cells s.disk s.generation e s.kept refl) (refused lt) refl r

abbrev besides : ℕ → ImageShape → Option (Option Imaged) → ℕ → Beside
besides disk shape kept opened = record { disk = disk; shape = shape; there = true; told = is_some kept; opened = opened }

pub write-beside : (a b : Disk) → SameBut a b → beside_of b ≡ beside_of a
write-beside a b s =
    ap (λ v. besides v b.shape (kept_on b) b.opened) s.disk
    ∙ ap (λ v. besides a.disk v (kept_on b) b.opened) s.shape
    ∙ ap (λ v. besides a.disk a.shape v b.opened) s.kept
    ∙ ap (λ v. besides a.disk a.shape (kept_on a) v) s.opened

-- a flush
flush-cell : (a : Disk) (n : ℕ) → HasImage (counting n (settled a)) → cell_of (counting n (settled a)) ≡ faulted n (kept_now (cell_of a))
flush-cell a n = by a.content
  where
    by : (content : Option Content)
        → IfSome (flushed content) (λ c. image a.shape c.blocks ≡ Some (record { generation = a.generation; pages = pages_of a.shape.page_size c.blocks a.entries }))
        → cell_from a.disk a.generation (option_map {T = Content} (λ c. pages_of a.shape.page_size c.blocks a.entries) (flushed content)) (option_map {T = Content} (λ c. image a.shape c.kept) (flushed content)) n
        ≡ faulted n (kept_now (cell_from a.disk a.generation (option_map {T = Content} (λ c. pages_of a.shape.page_size c.blocks a.entries) content) (option_map {T = Content} (λ c. image a.shape c.kept) content) a.faults))
    by None h = refl
    by (Some c) h =
        ap (λ (v : Option Imaged). let i : Image = record { generation = a.generation; pages = pages_of a.shape.page_size c.blocks a.entries } in let r : Cell = record { disk = a.disk; now = i; kept = option_map {T = Imaged} as_image v; faults = n } in r) h

kept-flushed : (a : Disk) (content : Option Content) → is_some (option_map {T = Content} (λ c. image a.shape c.kept) (flushed content)) ≡ is_some (option_map {T = Content} (λ c. image a.shape c.kept) content)
kept-flushed a None = refl
kept-flushed a (Some c) = refl

kept-written : (a : Disk) (k : ℕ) (x : List ℕ) (content : Option Content) → is_some (option_map {T = Content} (λ c. image a.shape c.kept) (written k x content)) ≡ is_some (option_map {T = Content} (λ c. image a.shape c.kept) content)
kept-written a k x None = refl
kept-written a k x (Some c) = refl

pub flush-took : (a b : Disk) → b ≡ counting b.faults (settled a) → b.faults ≡ a.faults → HasImage b → Passes Flush (leaf_of a) (Done true) (leaf_of b)
flush-took a b e n h =
    taken a b (kept_now (cell_of a)) (ap cell_of e ∙ flush-cell a b.faults (subst HasImage e h) ∙ ap (λ v. faulted v (kept_now (cell_of a))) n) flush_taken

pub flush-refused : (a b : Disk) (f : StoreFault) → b ≡ counting b.faults a → IsFault (seen_of a) (seen_of b) f → Passes Flush (leaf_of a) (Fault f.disk f.count) (leaf_of b)
flush-refused a b f e h = still a b f e (failed a b f (ap (λ (v : Disk). v.disk) e) h) Flush

pub still-beside : (a b : Disk) → b ≡ counting b.faults a → beside_of b ≡ beside_of a
still-beside a b e = ap beside_of e

pub flush-beside : (a b : Disk) → b ≡ counting b.faults (settled a) → beside_of b ≡ beside_of a
flush-beside a b e = ap beside_of e ∙ rw (kept-flushed a a.content) refl

-- a raise
pages-settled : (a : Disk) (content : Option Content) → option_map {T = Content} (λ c. pages_of a.shape.page_size c.blocks a.entries) (flushed content) ≡ option_map {T = Content} (λ c. pages_of a.shape.page_size c.blocks a.entries) content
pages-settled a None = refl
pages-settled a (Some c) = refl

raise-cell : (a : Disk) (g n : ℕ) → HasImage (counting n (settled (headed g a))) → pages_on (counting n (settled (headed g a))) ≡ pages_on a → cell_of (counting n (settled (headed g a))) ≡ faulted n (kept_now (steps.headed g (cell_of a)))
raise-cell a g n h e =
    let q : pages_on (headed g a) ≡ pages_on a = sym (pages-settled (headed g a) (headed g a).content) ∙ e in
    flush-cell (headed g a) n h
    ∙ ap (λ (v : Option (List (List ℕ))). let i : Image = record { generation = g; pages = told_pages v } in let r : Cell = record { disk = a.disk; now = i; kept = Some i; faults = n } in r) q

pub raise-took : (a b : Disk) (g : ℕ) → b ≡ counting b.faults (settled (headed g a)) → b.faults ≡ a.faults → HasImage b → pages_on b ≡ pages_on a → Passes (Raise g) (leaf_of a) (Done true) (leaf_of b)
raise-took a b g e n h p =
    taken a b (kept_now (steps.headed g (cell_of a)))
    (ap cell_of e ∙ raise-cell a g b.faults (subst HasImage e h) (subst (λ v. pages_on v ≡ pages_on a) e p) ∙ ap (λ v. faulted v (kept_now (steps.headed g (cell_of a)))) n)
    raise_taken

-- the header stands and was not flushed
half-raised : (a : Disk) (g n : ℕ) → pages_on (counting n (headed g a)) ≡ pages_on a → a.faults < n → Refuses (Raise g) (cell_of a) (cell_of (counting n (headed g a)))
half-raised a g n p lt = by a.content p
  where
    by : (content : Option Content)
        → option_map {T = Content} (λ c. pages_of a.shape.page_size c.blocks a.entries) (written 0 (header a.shape g) content) ≡ option_map {T = Content} (λ c. pages_of a.shape.page_size c.blocks a.entries) content
        → Refuses (Raise g) (cell_from a.disk a.generation (option_map {T = Content} (λ c. pages_of a.shape.page_size c.blocks a.entries) content) (option_map {T = Content} (λ c. image a.shape c.kept) content) a.faults)
        (cell_from a.disk g (option_map {T = Content} (λ c. pages_of a.shape.page_size c.blocks a.entries) (written 0 (header a.shape g) content)) (option_map {T = Content} (λ c. image a.shape c.kept) (written 0 (header a.shape g) content)) n)
    by None e = raise_kept lt
    by (Some c) e =
        let before = cell_from a.disk a.generation (Some (pages_of a.shape.page_size c.blocks a.entries)) (Some (image a.shape c.kept)) a.faults in
        subst (λ v. Refuses (Raise g) before (cell_from a.disk g v (Some (image a.shape c.kept)) n)) (sym e) (raise_unkept lt)

pub raise-refused : (a b : Disk) (g : ℕ) (f : StoreFault) → (b ≡ counting b.faults a) ⊎ (b ≡ counting b.faults (headed g a)) → pages_on b ≡ pages_on a → IsFault (seen_of a) (seen_of b) f
    → Passes (Raise g) (leaf_of a) (Fault f.disk f.count) (leaf_of b)
raise-refused a b g f (inl e) p h = still a b f e (failed a b f (ap (λ (v : Disk). v.disk) e) h) (Raise g)
raise-refused a b g f (inr e) p h =
    let r = failed a b f (ap (λ (v : Disk). v.disk) e) h in
    let lt : a.faults < b.faults = omega (arith, r.above, r.exact) in
    refuses a b f (cell_of (counting b.faults (headed g a))) (ap cell_of e) (half-raised a g b.faults (subst (λ v. pages_on v ≡ pages_on a) e p) lt) refl r

pub raise-beside : (a b : Disk) (g : ℕ) → b ≡ counting b.faults (settled (headed g a)) → beside_of b ≡ beside_of a
raise-beside a b g e = ap beside_of e ∙ rw (kept-flushed a (written 0 (header a.shape g) a.content), kept-written a 0 (header a.shape g) a.content) refl

pub half-beside : (a b : Disk) (g : ℕ) → (b ≡ counting b.faults a) ⊎ (b ≡ counting b.faults (headed g a)) → beside_of b ≡ beside_of a
half-beside a b g (inl e) = ap beside_of e
half-beside a b g (inr e) = ap beside_of e ∙ rw (kept-written a 0 (header a.shape g) a.content) refl

-- a read
got : (pages : List (List ℕ)) (p : ℕ) (out : List ℕ) → slice_get pages p ≡ Some out → get_or pages p [] ≡ out
got [] p out e = cc
got (x ∷ xs) zero out e = cc
got (x ∷ xs) (suc p) out e = got xs p out e

told-out : (a : Disk) (p : ℕ) (out : List ℕ) → ReadsPage (pages_on a) p out → is_some (kept_on a) ≡ true → get_or (told_pages (pages_on a)) p [] ≡ out
told-out a p out = by a.content
  where
    by : (content : Option Content) → ReadsPage (option_map {T = Content} (λ c. pages_of a.shape.page_size c.blocks a.entries) content) p out → is_some (option_map {T = Content} (λ c. image a.shape c.kept) content) ≡ true
        → get_or (told_pages (option_map {T = Content} (λ c. pages_of a.shape.page_size c.blocks a.entries) content)) p [] ≡ out
    by None r e = cc
    by (Some c) r e = got (pages_of a.shape.page_size c.blocks a.entries) p out r

pub read-took : (a b : Disk) (p : ℕ) (out : List ℕ) → b ≡ counting b.faults a → b.faults ≡ a.faults → ReadsPage (pages_on a) p out → ReadsLeaf p out a b
read-took a b p out e n r =
    let x : List ℕ = get_or (told_pages (pages_on a)) p [] in
    let same : cell_of b ≡ cell_of a = ap cell_of e ∙ ap (λ v. faulted v (cell_of a)) n in
    (x, subst (λ v. Reads p x (leaf_of a) (Done true) (Leaf (In true v))) (sym same) (read_taken refl), told-out a p out r)

pub read-refused : (a b : Disk) (p : ℕ) (f : StoreFault) → b ≡ counting b.faults a → IsFault (seen_of a) (seen_of b) f → (x : List ℕ) → Reads p x (leaf_of a) (Fault f.disk f.count) (leaf_of b)
read-refused a b p f e h x =
    let r = failed a b f (ap (λ (v : Disk). v.disk) e) h in
    let q : Reads p x (leaf_of a) (Fault a.disk f.count) (Leaf (In true (faulted b.faults (cell_of a)))) =
    subst (λ v. Reads p x (leaf_of a) (Fault a.disk f.count) (Leaf (In true (faulted v (cell_of a))))) r.exact (read_refused r.above) in
    subst (λ v. Reads p x (leaf_of a) (Fault v f.count) (leaf_of b)) (sym r.disk) (subst (λ v. Reads p x (leaf_of a) (Fault a.disk f.count) (Leaf (In true v))) (sym (ap cell_of e)) q)
