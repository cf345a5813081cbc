-- The pages of disks in mirrors that were opened are those of an image on one of their stores, so they have the file's size.
use Rattle.std.proofs.Common.{◌≡◌, ℕ, Bool, true, false, List, [], ◌∷◌, ◌++◌, Option, Some, None, IfSome, refl, sym, ap, subst, ◌∙◌}
use Rattle.std.specs.Prelude.{IsSome}
use Rattle.std.specs.Option.{option_map}
use Rattle.stack_accept.specs.Mount.{Mount}
use Rattle.spr_io.specs.Content.{Content, IsShaped}
use Rattle.disk_format.specs.declared.shape.ImageShape.{ImageShape}
use Rattle.disk_format.specs.Shape.{blocks_of}
use Rattle.page_ground.specs.Seen.{Imaged}
use Rattle.disk_format.specs.Image.{image}
use Rattle.disk_format.proofs.MapLaws.{sizes-all}
use Rattle.mirror_rules.specs.Tree.{Image, Seat, In, Out, Tree, Leaf, Coherent, Mirror, seats}
use Rattle.mirror_rules.specs.Tree as machine
use Rattle.mirror_rules.specs.Claims.{Pairs, pairs_none, pairs_more, Every, every_none, every_more, Has}
use Rattle.mirror_rules.specs.Opening.{DownedTree, Gives, Meets, downed, downed_below, downed_leaf, downed_mirror, downed_not, gives_below, gives_image, gives_left, gives_left_alone, gives_right, gives_right_alone, meets_bad, meets_blank, meets_down, meets_good}
use Rattle.mirror_layer.specs.View.{Beside, as_image}
use Rattle.mirror_layer.specs.Calls.{all_told}
use Rattle.mirror_layer.specs.Ground.{pages_told}
use Rattle.mirror_layer.specs.Stores.{Stored, stored}
use Rattle.mirror_layer.specs.Bringing.{Brought, Lies, brought, lies}
use Rattle.file_stores.specs.Keys.{EachAt}
use Rattle.file_stores.specs.Held.{StoreSeen}
use Rattle.file_stores.specs.Opening.{content_of, faults_of}
use Rattle.file_stores.proofs.GroundLists.{nth-get}
use Rattle.run_files.proofs.PageLaws.{ArePaged, image-paged}

-- a good disk has such pages
data Paged (Q : List (List ℕ) → Type 0) : Seat → Type 0 where
  paged_in : {b : Bool} {c : machine.Cell} → Q c.now.pages → Paged Q (In b c)
  paged_out : {b : machine.Why} {s : machine.Store} → Paged Q (Out b s)

every-first : {P : Seat → Type 0} (xs ys : List Seat) → Every P (xs ++ ys) → Every P xs
every-first [] ys h = every_none
every-first (x ∷ xs) ys (every_more p h) = every_more p (every-first xs ys h)

every-last : {P : Seat → Type 0} (xs ys : List Seat) → Every P (xs ++ ys) → Every P ys
every-last [] ys h = h
every-last (x ∷ xs) ys (every_more p h) = every-last xs ys h

every-both : {P : Seat → Type 0} (xs ys : List Seat) → Every P xs → Every P ys → Every P (xs ++ ys)
every-both [] ys every_none h = h
every-both (x ∷ xs) ys (every_more p g) h = every_more p (every-both xs ys g h)

gives-paged : {Q : List (List ℕ) → Type 0} {t : Tree} {g : ℕ} {F : List (List ℕ)} → Gives t g F → Every (Paged Q) (seats t) → Q F
gives-paged gives_image (every_more (paged_in q) h) = q
gives-paged (gives_below g) h = gives-paged g h
gives-paged (gives_left {l} {r} g i le) h = gives-paged g (every-first (seats l) (seats r) h)
gives-paged (gives_right {l} {r} g i lt) h = gives-paged i (every-last (seats l) (seats r) h)
gives-paged (gives_left_alone {l} {r} g none) h = gives-paged g (every-first (seats l) (seats r) h)
gives-paged (gives_right_alone {l} {r} none g) h = gives-paged g (every-last (seats l) (seats r) h)

downed-paged : {Q : List (List ℕ) → Type 0} {t u : Tree} → DownedTree t u → Every (Paged Q) (seats t) → Every (Paged Q) (seats u)
downed-paged (downed_leaf downed_not) h = h
downed-paged (downed_leaf (downed d i f)) h = every_more paged_out every_none
downed-paged (downed_below d) h = downed-paged d h
downed-paged (downed_mirror {l = l} {r = r} {m = m} {n = n} d e) h = every-both (seats m) (seats n) (downed-paged d (every-first (seats l) (seats r) h)) (downed-paged e (every-last (seats l) (seats r) h))

-- the pages of the image on a store that tells it
image-of : (mount : Mount) (shape : ImageShape) (content : Option Content) (i : Image) (m : Option Image) → IsShaped shape.page_size (blocks_of shape) content → IsSome content → m ≡ Some i → IfSome content (λ c. m ≡ option_map {T = Imaged} as_image (image shape c.blocks))
    → ArePaged shape i.pages
image-of mount shape None i m shaped some is now = absurd cc
image-of mount shape (Some c) i m shaped some is now = by (image shape c.blocks) refl (sym is ∙ now)
  where
    inner : {A : Type 0} {x y : A} → Some x ≡ Some y → x ≡ y
    inner e = cc

    by : (o : Option Imaged) → image shape c.blocks ≡ o → Some i ≡ option_map {T = Imaged} as_image o → ArePaged shape i.pages
    by None e h = absurd cc
    by (Some found) e h =
        subst (ArePaged shape) (ap (λ (v : Image). v.pages) (sym (inner h))) (image-paged shape c.blocks found (sizes-all shape.page_size c.blocks shaped.sizes) shaped.blocks e)

row-paged : (mount : Mount) (shape : ImageShape) {stores : List StoreSeen} {ns : List ℕ} {ss : List machine.Store} {row : List Seat} → EachAt (λ at s. IsShaped shape.page_size (blocks_of shape) s.state.content) stores → EachAt (λ at s. IsSome s.state.content) stores
    → Pairs (Brought content_of faults_of shape stores) ns ss → Pairs Meets ss row → Every (Paged (ArePaged shape)) row
row-paged mount shape shaped told pairs_none pairs_none = every_none
row-paged mount shape shaped told (pairs_more {x = n} (brought {t} p f) h) (pairs_more (meets_good {s = s} {i = i} e) m) =
    every_more (paged_in (image-of mount shape t.state.content i s.image (shaped n t (nth-get p)) (told n t (nth-get p)) e f.now)) (row-paged mount shape shaped told h m)
row-paged mount shape shaped told (pairs_more b h) (pairs_more (meets_blank e z) m) = every_more paged_out (row-paged mount shape shaped told h m)
row-paged mount shape shaped told (pairs_more b h) (pairs_more (meets_bad e z) m) = every_more paged_out (row-paged mount shape shaped told h m)
row-paged mount shape shaped told (pairs_more b h) (pairs_more (meets_down d i f) m) = every_more paged_out (row-paged mount shape shaped told h m)

-- a tree of these disks
abbrev chain : Seat → List Seat → Tree
chain x [] = Leaf x
chain x (y ∷ ys) = Mirror (Leaf x) (chain y ys)

chain-seats : (x : Seat) (xs : List Seat) → seats (chain x xs) ≡ x ∷ xs
chain-seats x [] = refl
chain-seats x (y ∷ ys) = ap (λ zs. x ∷ zs) (chain-seats y ys)

none-row : {stores : List StoreSeen} {shape : ImageShape} {ns : List ℕ} {ss : List machine.Store} {P : ℕ → Type 0} → Pairs (Brought content_of faults_of shape stores) ns ss → Pairs Meets ss [] → Has P ns → ⊥
none-row pairs_none pairs_none h = elim h [ ]
none-row (pairs_more b c) m h = elim m [ ]

-- what the disks of a row give has the size of their images
pub row-tree : {stores : List StoreSeen} {shape : ImageShape} {ns : List ℕ} {ss : List machine.Store} {row : List Seat} {P : ℕ → Type 0} → Pairs (Brought content_of faults_of shape stores) ns ss → Pairs Meets ss row → Has P ns → (t : Tree) × (seats t ≡ row)
row-tree {row = []} b m h = absurd (none-row b m h)
row-tree {row = x ∷ xs} b m h = (chain x xs, chain-seats x xs)

pub given-paged : (mount : Mount) (shape : ImageShape) {stores : List StoreSeen} {ns : List ℕ} {ss : List machine.Store} {row : List Seat} {t u : Tree} {g : ℕ} {F : List (List ℕ)} → EachAt (λ at s. IsShaped shape.page_size (blocks_of shape) s.state.content) stores
    → EachAt (λ at s. IsSome s.state.content) stores → Pairs (Brought content_of faults_of shape stores) ns ss → Pairs Meets ss row → seats t ≡ row → DownedTree t u → Gives u g F → ArePaged shape F
given-paged mount shape shaped told b m is d gives = gives-paged gives (downed-paged d (subst (Every (Paged (ArePaged shape))) (sym is) (row-paged mount shape shaped told b m)))

-- each disk tells what it holds, if its store does
pub lies-told : {stores : List StoreSeen} {shape : ImageShape} {ns : List ℕ} {bs : List Beside} → EachAt (λ at s. IsSome s.state.content) stores → Pairs (Lies content_of faults_of shape stores) ns bs → Every (λ b. b.told ≡ true) bs
lies-told told pairs_none = every_none
lies-told told (pairs_more {x = n} (lies {t} p e) h) = every_more (ap (λ (b : Beside). b.told) e ∙ told n t (nth-get p)) (lies-told told h)

-- all disks tell what they kept, so the ground tells its pages
pub told-all : (bs : List Beside) → Every (λ b. b.told ≡ true) bs → all_told bs ≡ true
told-all [] h = refl
told-all (b ∷ bs) (every_more p h) = rw p (told-all bs h)

pub pages-shown : (told : Bool) (pages F : List (List ℕ)) → told ≡ true → pages ≡ F → pages_told told pages ≡ Some F
pages-shown true pages F e is = ap (λ (ps : List (List ℕ)). Some ps) is
pages-shown false pages F e is = absurd cc

-- and so do the stores at its end
pub stored-told : {stores : List StoreSeen} {bs : List Beside} {ss : List machine.Store} → EachAt (λ at s. IsSome s.state.content) stores → Pairs (Stored content_of faults_of stores) bs ss → Every (λ b. b.told ≡ true) bs
stored-told told pairs_none = every_none
stored-told told (pairs_more {x = b} (stored {t} p f is later) h) = every_more (sym is ∙ told b.disk t (nth-get p)) (stored-told told h)
