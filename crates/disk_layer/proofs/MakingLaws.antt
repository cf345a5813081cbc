-- A disk in the making: while block 0 is zeros it shows no image, and with its header it shows the whole one.
use Rattle.std.proofs.Common.{◌≡◌, ◌⊎◌, inl, inr, ℕ, zero, suc, ◌^◌, ◌<◌, ◌≤◌, true, List, [], ◌∷◌, length, get_or, set, replicate, Option, Some, None, IfSome, refl, ap, ◌∙◌, subst, sym, arith}
use Rattle.std.specs.Prelude.{is_some}
use Rattle.std.proofs.lemmas.Bool.{true≢false, ne_eqb}
use Rattle.spr_io.specs.Content.{Content, IsShaped, KeepsShape, HasNothingPending, written, flushed}
use Rattle.page_ground.specs.Pages.{are_zeros}
use Rattle.disk_format.specs.declared.shape.ImageShape.{ImageShape}
use Rattle.disk_format.specs.Shape.{IsShape, map_blocks, blocks_of}
use Rattle.disk_format.specs.VersionOne.{header}
use Rattle.disk_format.specs.Image.{pages_of}
use Rattle.disk_format.proofs.ShapeLaws.{size_low}
use Rattle.disk_format.proofs.MapLaws.{Sizes, sizes-all}
use Rattle.disk_format.proofs.PageLaws.{pages-header}
use Rattle.disk_format.proofs.ImageLaws.{head-header, map-header}
use Rattle.disk_format.proofs.FreshLaws.{header-reads}
use Rattle.disk_layer.specs.Front.{FrontSeen, IsMap, IsFresh, entries_on}
use Rattle.disk_layer.specs.Disk.{IsMapped, IsSound, Tied, IsBlank, HasMap, pages_named, first_in, formatted}
use Rattle.disk_layer.specs.Calls.{IsNone}
use Rattle.disk_layer.specs.Making.{StaysBlank, IsImageOf}
use Rattle.disk_layer.proofs.RenewLaws.{no-image, laid-first}
use Rattle.disk_layer.proofs.MappedLaws.{keeps-suits}
use Rattle.disk_layer.proofs.DiskLaws.{tied-image, sound-with, numbered, pages-holes}

zeros-are : (bytes : List ℕ) → are_zeros bytes ≡ true → bytes ≡ replicate (length bytes) 0
zeros-are [] e = refl
zeros-are (zero ∷ bytes) e = ap (λ l. 0 ∷ l) (zeros-are bytes e)
zeros-are (suc b ∷ bytes) e = absurd (true≢false (sym (rw (ne_eqb (suc b) 0 (λ q. omega arith)) at e)))

zero-block : (size : ℕ) (blocks : List (List ℕ)) → Sizes size blocks → 1 ≤ length blocks → are_zeros (get_or blocks 0 []) ≡ true → get_or blocks 0 [] ≡ replicate size 0
zero-block size [] sizes room e = absurd (omega arith)
zero-block size (b ∷ bs) sizes room e = zeros-are b e ∙ ap (λ n. replicate n 0) sizes.0

-- zeros in block 0 are no image
pub blank-none : (shape : ImageShape) (content : Option Content) → 64 ≤ shape.page_size → IsShaped shape.page_size (blocks_of shape) content → IsBlank content → IsNone shape content
blank-none shape None low h blank = tt
blank-none shape (Some c) low h blank =
    let sizes = sizes-all shape.page_size c.blocks h.sizes in
    let room : 1 ≤ length c.blocks = omega (arith, h.blocks) in
    no-image shape c.blocks low sizes room (zero-block shape.page_size c.blocks sizes room blank)

blank-first : (a b : Option Content) → first_in b ≡ first_in a → IsBlank a → IsBlank b
blank-first a None e h = tt
blank-first None (Some c) e h = cc
blank-first (Some a) (Some c) e h =
    let q : get_or c.blocks 0 [] ≡ get_or a.blocks 0 [] = cc in
    rw q h

-- block 0 is the same
pub stays-blank : (shape : ImageShape) (a b : Option Content) → 64 ≤ shape.page_size → IsShaped shape.page_size (blocks_of shape) b → first_in b ≡ first_in a → StaysBlank shape a b
stays-blank shape a b low h e = record {
  blank = λ blank. blank-first a b e blank;
  none = λ blank. blank-none shape b low h (blank-first a b e blank);
}

-- the map's blocks of a fresh image were written
pub first-formatted : (shape : ImageShape) (n : ℕ) (content : Option Content) → n ≤ map_blocks shape → first_in (formatted shape n content) ≡ first_in content
first-formatted shape n None le = refl
first-formatted shape n (Some c) le = ap Some (laid-first shape n c.blocks le)

pub told-formatted : (shape : ImageShape) (n : ℕ) (content : Option Content) → is_some (formatted shape n content) ≡ is_some content
told-formatted shape n None = refl
told-formatted shape n (Some c) = refl

pub fresh-pages : (f : FrontSeen) (content : Option Content) → IsFresh f → IfSome (pages_named f content) (λ ps. ps ≡ replicate f.shape.pages (replicate f.shape.page_size 0))
fresh-pages f None fresh = tt
fresh-pages f (Some c) fresh = ap (pages_of f.shape.page_size c.blocks) fresh.holes ∙ pages-holes f.shape.page_size f.shape.pages c.blocks

-- a flush
first-flushed : (content : Option Content) → first_in (flushed content) ≡ first_in content
first-flushed None = refl
first-flushed (Some c) = refl

told-flushed : (content : Option Content) → is_some (flushed content) ≡ is_some content
told-flushed None = refl
told-flushed (Some c) = refl

told-headed : (x : List ℕ) (content : Option Content) → is_some (written 0 x content) ≡ is_some content
told-headed x None = refl
told-headed x (Some c) = refl

pub nothing-pending : (content after : Option Content) → after ≡ flushed content → HasNothingPending after
nothing-pending None after e = rw e tt
nothing-pending (Some c) after e = rw e refl

-- two flushes with a header between them are one after it
pub flushed-headed : (x : List ℕ) (content : Option Content) → flushed (written 0 x (flushed content)) ≡ flushed (written 0 x content)
flushed-headed x None = refl
flushed-headed x (Some c) = refl

-- the header was written
abbrev Ties : FrontSeen → ℕ → Option Content → Type 0
Ties f g content = IfSome content (Tied f.shape g f.map)

ties-ended : (f : FrontSeen) (g : ℕ) (content : Option Content) → IsShape f.shape → 1 ≤ g → g < 2 ^ 63 → IsShaped f.shape.page_size (blocks_of f.shape) (flushed (written 0 (header f.shape g) content))
    → IfSome content (HasMap f.shape f.map) → Ties f g (flushed (written 0 (header f.shape g) content))
ties-ended f g None fit low high h t = tt
ties-ended f g (Some c) fit low high h t = record {
  shaped = h;
  header = rw (head-header c.blocks (header f.shape g) (omega (arith, t.shaped.blocks))) (header-reads f.shape g fit low high);
  map = rw (map-header c.blocks (header f.shape g)) t.map;
}

pub sound-ended : (f : FrontSeen) (g s n s2 n2 : ℕ) (draft : List ℕ) (content after : Option Content) → IsMapped f s n content → IsMap (record f { draft = draft }) → 1 ≤ g → g < 2 ^ 63
    → after ≡ flushed (written 0 (header f.shape g) content) → KeepsShape s n s2 n2 after → IsSound (record f { draft = draft }) g s2 n2 after
sound-ended f g s n s2 n2 draft content after u m low high e k =
    let c = keeps-suits f s n s2 n2 after u.suits k in
    let t = ties-ended f g content u.map.fit low high (subst (λ v. IsShaped f.shape.page_size (blocks_of f.shape) v) e c.told) u.told in
    sound-with (record f { draft = draft }) g s2 n2 after m (numbered g low high) c (subst (λ v. Ties f g v) (sym e) t)

-- what is left if a call of the end was refused
abbrev pub Left : ImageShape → ℕ → Option Content → Option Content → Type 0
Left shape g content left = (left ≡ content) ⊎ ((left ≡ flushed content) ⊎ (left ≡ written 0 (header shape g) (flushed content)))

abbrev Whole : FrontSeen → ℕ → Option Content → Option Content → Type 0
Whole f g content left = (IsBlank left × IsNone f.shape left) ⊎ IsImageOf f.shape g (pages_named f content) left

whole-headed : (f : FrontSeen) (g s n : ℕ) (content : Option Content) → IsMapped f s n content → 1 ≤ g → g < 2 ^ 63 → IsShaped f.shape.page_size (blocks_of f.shape) (written 0 (header f.shape g) (flushed content))
    → IsImageOf f.shape g (pages_named f content) (written 0 (header f.shape g) (flushed content))
whole-headed f g s n None u low high h = tt
whole-headed f g s n (Some c) u low high h =
    let d : Content = record { blocks = set c.blocks 0 (header f.shape g); kept = c.blocks } in
    tied-image f g d u.map
    (record {
      shaped = h;
      header = rw (head-header c.blocks (header f.shape g) (omega (arith, u.told.shaped.blocks))) (header-reads f.shape g u.map.fit low high);
      map = rw (map-header c.blocks (header f.shape g)) u.told.map;
    })
    ∙ ap (λ l. Some (record { generation = g; pages = l })) (pages-header f.shape.page_size c.blocks (header f.shape g) (entries_on f))

pub whole-or-blank : (f : FrontSeen) (g s n : ℕ) (content left : Option Content) → IsMapped f s n content → 1 ≤ g → g < 2 ^ 63 → IsShaped f.shape.page_size (blocks_of f.shape) left → Left f.shape g content left
    → IsBlank content → Whole f g content left
whole-or-blank f g s n content left u low high h (inl e) blank =
    let b = stays-blank f.shape content left (size_low f.shape u.map.fit) h (ap first_in e) in
    inl (b.blank blank, b.none blank)
whole-or-blank f g s n content left u low high h (inr (inl e)) blank =
    let b = stays-blank f.shape content left (size_low f.shape u.map.fit) h (ap first_in e ∙ first-flushed content) in
    inl (b.blank blank, b.none blank)
whole-or-blank f g s n content left u low high h (inr (inr e)) blank =
    inr (subst (IsImageOf f.shape g (pages_named f content)) (sym e) (whole-headed f g s n content u low high (subst (λ v. IsShaped f.shape.page_size (blocks_of f.shape) v) e h)))

pub told-left : (shape : ImageShape) (g : ℕ) (content left : Option Content) → Left shape g content left → is_some left ≡ is_some content
told-left shape g content left (inl e) = ap is_some e
told-left shape g content left (inr (inl e)) = ap is_some e ∙ told-flushed content
told-left shape g content left (inr (inr e)) = ap is_some e ∙ (told-headed (header shape g) (flushed content) ∙ told-flushed content)
