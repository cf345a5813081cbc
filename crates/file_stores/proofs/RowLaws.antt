-- The disks of a ground in their row, by what is told of them: from the disks when it was opened to those when it was closed, and then their stores.
use Rattle.std.proofs.Common.{◌≡◌, ◌≢◌, ◌⊎◌, inl, inr, ℕ, zero, suc, ◌≤◌, Bool, true, false, List, [], ◌∷◌, length, map, Option, Some, None, refl, sym, ap, subst, ◌∙◌, arith}
use Rattle.std.specs.Prelude.{Contains, IfSome, is_some, slice_get}
use Rattle.std.specs.Option.{option_map}
use Rattle.std.proofs.lemmas.Bool.{eq-eqb, ne_eqb}
use Rattle.spr_io.specs.Content.{Content}
use Rattle.disk_format.specs.declared.shape.ImageShape.{ImageShape}
use Rattle.disk_format.specs.Image.{image}
use Rattle.page_ground.specs.Seen.{Imaged}
use Rattle.page_ground.specs.Seen.{DiskSeen, held_in, is_up_in, live_in}
use Rattle.mirror_rules.specs.Tree.{Image, Cell, Seat, In, Out}
use Rattle.mirror_rules.specs.Tree as machine
use Rattle.mirror_rules.specs.Claims.{Pairs, pairs_none, pairs_more, Every, every_more, Has, has_here, has_later, Nth, nth_here, nth_later}
use Rattle.mirror_rules.specs.Guards.{Direct, Leaves, leaves, leaves_none, shows_kept, shows_now, shows_out, Within, Among}
use Rattle.mirror_rules.specs.History.{Goes, goes_out, goes_same, goes_later}
use Rattle.mirror_rules.proofs.OpenLaws.{nth-same}
use Rattle.mirror_rules.proofs.GuardLaws.{every-nth}
use Rattle.mirror_rules.proofs.ChainLaws.{direct-not-caching}
use Rattle.mirror_layer.specs.View.{Beside, as_image}
use Rattle.mirror_layer.specs.Ground.{Counted, Differ, as_imaged, disk_seen, disks_seen, image_told}
use Rattle.mirror_layer.specs.Stores.{Stored, stored, Left, left}
use Rattle.file_stores.specs.Held.{StoreSeen}
use Rattle.file_stores.specs.Opening.{content_of, faults_of}
use Rattle.file_stores.proofs.GroundLists.{same-item}
use Rattle.file_stores.proofs.Lists.{some-is}
use Rattle.file_stores.proofs.SpotLaws.{imaged-twice, live-first, live-rest, other, seen-disk}

held-first : (a : DiskSeen) (ds : List DiskSeen) (n : ℕ) → n ≡ a.disk → held_in (a ∷ ds) n ≡ a.holds
held-first a ds n e = rw (eq-eqb n a.disk e) refl

held-rest : (a : DiskSeen) (ds : List DiskSeen) (n : ℕ) → n ≢ a.disk → held_in (a ∷ ds) n ≡ held_in ds n
held-rest a ds n e = rw (ne_eqb n a.disk e) refl

up-first : (a : DiskSeen) (ds : List DiskSeen) (n : ℕ) → n ≡ a.disk → is_up_in (a ∷ ds) n ≡ a.up
up-first a ds n e = rw (eq-eqb n a.disk e) refl

up-rest : (a : DiskSeen) (ds : List DiskSeen) (n : ℕ) → n ≢ a.disk → is_up_in (a ∷ ds) n ≡ is_up_in ds n
up-rest a ds n e = rw (ne_eqb n a.disk e) refl

-- THE DISK AT A PLACE is told under its number
pub held-at : {m : ℕ} {bs : List Beside} {xs : List Seat} {b : Beside} {x : Seat} → Pairs Counted bs xs → Differ bs → Nth m bs b → Nth m xs x → held_in (disks_seen bs xs) b.disk ≡ (disk_seen b x).holds
held-at pairs_none differ at seat = elim at [ ]
held-at {b = b} {x = x} (pairs_more {xs = bs} {ys = xs} c h) differ nth_here nth_here = held-first (disk_seen b x) (disks_seen bs xs) b.disk (sym (seen-disk b x c))
held-at {b = b} (pairs_more {x = a} {y = z} {xs = bs} {ys = xs} c h) differ (nth_later p) (nth_later q) =
    held-rest (disk_seen a z) (disks_seen bs xs) b.disk (λ e. every-nth differ.0 p (e ∙ seen-disk a z c)) ∙ held-at h differ.1 p q

pub up-at : {m : ℕ} {bs : List Beside} {xs : List Seat} {b : Beside} {x : Seat} → Pairs Counted bs xs → Differ bs → Nth m bs b → Nth m xs x → is_up_in (disks_seen bs xs) b.disk ≡ (disk_seen b x).up
up-at pairs_none differ at seat = elim at [ ]
up-at {b = b} {x = x} (pairs_more {xs = bs} {ys = xs} c h) differ nth_here nth_here = up-first (disk_seen b x) (disks_seen bs xs) b.disk (sym (seen-disk b x c))
up-at {b = b} (pairs_more {x = a} {y = z} {xs = bs} {ys = xs} c h) differ (nth_later p) (nth_later q) =
    up-rest (disk_seen a z) (disks_seen bs xs) b.disk (λ e. every-nth differ.0 p (e ∙ seen-disk a z c)) ∙ up-at h differ.1 p q

-- it is told as live if it is
pub live-told : {m : ℕ} {bs : List Beside} {xs : List Seat} {b : Beside} {x : Seat} → Pairs Counted bs xs → Nth m bs b → Nth m xs x → (disk_seen b x).live ≡ true → Contains (live_in (disks_seen bs xs)) b.disk
live-told pairs_none at seat e = elim at [ ]
live-told {b = b} {x = x} (pairs_more {xs = bs} {ys = xs} c h) nth_here nth_here e = live-first (disk_seen b x) (disks_seen bs xs) b.disk (sym (seen-disk b x c)) e
live-told {b = b} (pairs_more {x = a} {y = z} {xs = bs} {ys = xs} c h) (nth_later p) (nth_later q) e = live-rest (disk_seen a z) (disks_seen bs xs) b.disk (live-told h p q e)

-- a disk that is told as live stands in the row
pub live-seat : (bs : List Beside) (xs : List Seat) (k : ℕ) → Pairs Counted bs xs → Contains (live_in (disks_seen bs xs)) k → (m : ℕ) × (b : Beside) × (c : Cell) × Nth m bs b × Nth m xs (In true c) × (b.disk ≡ k)
live-seat _ _ k pairs_none h = absurd (omega (arith, h.1))
live-seat _ _ k (pairs_more {x = b} {y = In true c} {xs = bs} {ys = xs} e h) (zero, lt, is) = (zero, b, c, nth_here, nth_here, sym (seen-disk b (In true c) e) ∙ is)
live-seat _ _ k (pairs_more {x = b} {y = In true c} {xs = bs} {ys = xs} e h) (suc j, lt, is) = let r = live-seat bs xs k h (j, omega arith, is) in (suc r.0, r.1, r.2, nth_later r.3, nth_later r.4, r.5)
live-seat _ _ k (pairs_more {x = b} {y = In false c} {xs = bs} {ys = xs} e h) found = let r = live-seat bs xs k h found in (suc r.0, r.1, r.2, nth_later r.3, nth_later r.4, r.5)
live-seat _ _ k (pairs_more {x = b} {y = Out w s} {xs = bs} {ys = xs} e h) found = let r = live-seat bs xs k h found in (suc r.0, r.1, r.2, nth_later r.3, nth_later r.4, r.5)

-- one place has one number
number-apart : {m n : ℕ} {bs : List Beside} {b c : Beside} → Differ bs → Nth m bs b → Nth n bs c → b.disk ≡ c.disk → m ≡ n
number-apart d nth_here nth_here e = refl
number-apart d nth_here (nth_later q) e = absurd (every-nth d.0 q (sym e))
number-apart d (nth_later p) nth_here e = absurd (every-nth d.0 p e)
number-apart d (nth_later p) (nth_later q) e = ap suc (number-apart d.1 p q e)

pub told-live : {m : ℕ} {bs : List Beside} {xs : List Seat} {b : Beside} {x : Seat} → Pairs Counted bs xs → Differ bs → Nth m bs b → Nth m xs x → Contains (live_in (disks_seen bs xs)) b.disk → (disk_seen b x).live ≡ true
told-live {m} {bs} {xs} {b} {x} c d at seat live =
    let r = live-seat bs xs b.disk c live in
    let same : r.0 ≡ m = number-apart d r.3 at r.5 in
    ap (λ (y : Seat). (disk_seen b y).live) (nth-same seat (subst (λ n. Nth n xs (In true r.2)) same r.4))

-- THE IMAGE OF A SEAT
abbrev pub seat-image : Seat → Option Image
seat-image (In live c) = Some c.now
seat-image (Out w s) = s.image

pub seat-holds : (b : Beside) (x : Seat) → (disk_seen b x).holds ≡ image_told b.told (seat-image x)
seat-holds b (In live c) = refl
seat-holds b (Out w s) = refl

pub image-at : {m : ℕ} {bs : List Beside} {xs : List Seat} {b : Beside} {x : Seat} → Pairs Counted bs xs → Differ bs → b.told ≡ true → Nth m bs b → Nth m xs x → held_in (disks_seen bs xs) b.disk ≡ image_told true (seat-image x)
image-at {b = b} {x = x} c d told at seat = held-at c d at seat ∙ (seat-holds b x ∙ ap (λ (t : Bool). image_told t (seat-image x)) told)

-- what is true of all pairs of places
pub pairs-at : {A B : Type 0} {R : A → B → Type 0} (xs : List A) (ys : List B) → length ys ≡ length xs → ((m : ℕ) (x : A) (y : B) → Nth m xs x → Nth m ys y → R x y) → Pairs R xs ys
pairs-at [] [] many f = pairs_none
pairs-at [] (y ∷ ys) many f = absurd (omega (arith, many))
pairs-at (x ∷ xs) [] many f = absurd (omega (arith, many))
pairs-at (x ∷ xs) (y ∷ ys) many f = pairs_more (f zero x y nth_here nth_here) (pairs-at xs ys (omega (arith, many)) (λ m a b p q. f (suc m) a b (nth_later p) (nth_later q)))

pub pairs-many : {A B : Type 0} {R : A → B → Type 0} {xs : List A} {ys : List B} → Pairs R xs ys → length ys ≡ length xs
pairs-many pairs_none = refl
pairs-many (pairs_more r h) = ap suc (pairs-many h)

-- FROM THE OPENING TO THE END, by what is told under each number
pub record Told (V : ℕ → ℕ → List ℕ) (ds es : List DiskSeen) (n : ℕ) : Type 0 where
  pub up : is_up_in es n ≡ is_up_in ds n
  pub live : Contains (live_in es) n → Contains (live_in ds) n
  -- what was not opened holds what it held
  pub aside : is_up_in ds n ≡ false → held_in es n ≡ held_in ds n
  pub turned : (held_in es n ≡ held_in ds n) ⊎ ((i j : Imaged) × (held_in ds n ≡ Some i) × (held_in es n ≡ Some j) × (i.generation ≤ j.generation) × Within (Among (V ∷ [])) j.pages)

told-some : (i j : Image) → image_told true (Some i) ≡ image_told true (Some j) → i ≡ j
told-some i j e = ap (λ (v : Imaged). as_image v) (some-is (as_imaged i) (as_imaged j) e)

told-is : (i : Image) (j : Imaged) → image_told true (Some i) ≡ Some j → i ≡ as_image j
told-is i j e = ap (λ (v : Imaged). as_image v) (some-is (as_imaged i) j e)

told-same : (o p : Option Image) → image_told true o ≡ image_told true p → o ≡ p
told-same None None e = refl
told-same None (Some j) e = absurd cc
told-same (Some i) None e = absurd cc
told-same (Some i) (Some j) e = ap (λ (v : Image). Some v) (told-some i j e)

module _ (V : ℕ → ℕ → List ℕ) {bs cs : List Beside} {xs ys : List Seat} (before : Pairs Counted bs xs) (after : Pairs Counted cs ys) (apart : Differ bs) (still : Differ cs) (first : Every (λ b. b.told ≡ true) bs) (last : Every (λ b. b.told ≡ true) cs)
    (numbers : map (λ b. b.disk) cs ≡ map (λ b. b.disk) bs) (told : (n : ℕ) → Told V (disks_seen bs xs) (disks_seen cs ys) n) where
  -- one disk from the opening to the end
  gone : (b c : Beside) (x y : Seat) → (disk_seen c y).up ≡ (disk_seen b x).up → ((disk_seen c y).live ≡ true → (disk_seen b x).live ≡ true) → ((disk_seen b x).up ≡ false → image_told true (seat-image y) ≡ image_told true (seat-image x))
      → (image_told true (seat-image y) ≡ image_told true (seat-image x)) ⊎ ((i j : Imaged) × (image_told true (seat-image x) ≡ Some i) × (image_told true (seat-image y) ≡ Some j) × (i.generation ≤ j.generation) × Within (Among (V ∷ [])) j.pages) → Goes V x y
  gone b c (In a e) (In z f) up live aside (inl same) = goes_same live (told-some f.now e.now same)
  gone b c (In a e) (In z f) up live aside (inr t) =
      let i = t.0 in
      let j = t.1 in
      let old : e.now ≡ as_image i = told-is e.now i t.2 in
      let new : f.now ≡ as_image j = told-is f.now j t.3 in
      let low : e.now.generation ≡ i.generation = ap (λ (v : Image). v.generation) old in
      let high : f.now.generation ≡ j.generation = ap (λ (v : Image). v.generation) new in
      let later = t.4 in
      goes_later live (omega (arith, low, high, later)) (subst (λ (v : Image). Within (Among (V ∷ [])) v.pages) (sym new) t.5)
  gone b c (In a e) (Out w s) up live aside t = absurd (not-both up)
    where
      not-both : false ≡ true → ⊥
      not-both e = cc
  gone b c (Out w s) (In z f) up live aside t = absurd (not-both up)
    where
      not-both : true ≡ false → ⊥
      not-both e = cc
  gone b c (Out w s) (Out v t) up live aside h = goes_out (told-same t.image s.image (aside refl))

  number-at : {m : ℕ} {b c : Beside} {rs es : List Beside} → map (λ b. b.disk) es ≡ map (λ b. b.disk) rs → Nth m rs b → Nth m es c → c.disk ≡ b.disk
  number-at {rs = []} same at seat = elim at [ ]
  number-at {rs = a ∷ rs} {es = []} same at seat = elim seat [ ]
  number-at {rs = a ∷ rs} {es = e ∷ es} same nth_here nth_here = head-same same
    where
      head-same : map (λ b. b.disk) (e ∷ es) ≡ map (λ b. b.disk) (a ∷ rs) → e.disk ≡ a.disk
      head-same q = cc
  number-at {rs = a ∷ rs} {es = e ∷ es} same (nth_later p) (nth_later q) = number-at (tail-same same) p q
    where
      rest : List ℕ → List ℕ
      rest [] = []
      rest (n ∷ ns) = ns

      tail-same : map (λ b. b.disk) (e ∷ es) ≡ map (λ b. b.disk) (a ∷ rs) → map (λ b. b.disk) es ≡ map (λ b. b.disk) rs
      tail-same q = ap rest q

  place-goes : (m : ℕ) (b c : Beside) (x y : Seat) → Nth m bs b → Nth m cs c → Nth m xs x → Nth m ys y → Goes V x y
  place-goes m b c x y p q r s =
      let same : c.disk ≡ b.disk = number-at numbers p q in
      let t : Told V (disks_seen bs xs) (disks_seen cs ys) b.disk = told b.disk in
      let was = image-at before apart (every-nth first p) p r in
      let is : held_in (disks_seen cs ys) b.disk ≡ image_told true (seat-image y) = ap (λ n. held_in (disks_seen cs ys) n) (sym same) ∙ image-at after still (every-nth last q) q s in
      let up_was = up-at before apart p r in
      let up_is : is_up_in (disks_seen cs ys) b.disk ≡ (disk_seen c y).up = ap (λ n. is_up_in (disks_seen cs ys) n) (sym same) ∙ up-at after still q s in
      gone b c x y (sym up_is ∙ (t.up ∙ up_was))
      (λ e. told-live before apart p r (t.live (subst (λ n. Contains (live_in (disks_seen cs ys)) n) same (live-told after q s e))))
      (λ e. sym is ∙ (t.aside (up_was ∙ e) ∙ was))
      (elim t.turned [
        | inl e ↦ inl (sym is ∙ (e ∙ was))
        | inr h ↦ inr (h.0, h.1, sym was ∙ h.2, sym is ∙ h.3, h.4, h.5)
      ])

  count-same : (rs es : List Beside) → map (λ b. b.disk) es ≡ map (λ b. b.disk) rs → length es ≡ length rs
  count-same [] [] e = refl
  count-same [] (c ∷ es) e = absurd cc
  count-same (b ∷ rs) [] e = absurd cc
  count-same (b ∷ rs) (c ∷ es) e = ap suc (count-same rs es (ap rest e))
    where
      rest : List ℕ → List ℕ
      rest [] = []
      rest (n ∷ ns) = ns

  -- so each disk goes
  pub row-goes : Pairs (Goes V) xs ys
  row-goes =
      pairs-at xs ys (pairs-many after ∙ (count-same bs cs numbers ∙ sym (pairs-many before)))
      (λ m x y r s.
      let p = beside-of before r in
      let q = beside-of after s in
      place-goes m p.0 q.0 x y p.1 q.1 r s)
    where
      beside-of : {m : ℕ} {rs : List Beside} {zs : List Seat} {z : Seat} → Pairs Counted rs zs → Nth m zs z → (b : Beside) × Nth m rs b
      beside-of pairs_none at = elim at [ ]
      beside-of (pairs_more {x = b} c h) nth_here = (b, nth_here)
      beside-of (pairs_more c h) (nth_later at) = let r = beside-of h at in (r.0, nth_later r.1)

-- WHEN THE DISKS WERE CLOSED the store of this number reads as the image that its disk has, if it tells
seat-left : {x : Seat} {s : machine.Store} → Leaves Direct x s → s.image ≡ seat-image x
seat-left (leaves shows_now e) = e
seat-left (leaves (shows_kept q k) e) = absurd (direct-not-caching q)
seat-left (leaves (shows_out q) e) = e ∙ sym q
seat-left (leaves_none q e) = e ∙ sym q

held-image : (shape own : ImageShape) (content : Option Content) (told : Bool) (has : Option Image) (s : machine.Store) → own ≡ shape → is_some content ≡ told → s.image ≡ has → IfSome content (λ c. s.image ≡ option_map {T = Imaged} as_image (image own c.blocks))
    → IfSome content (λ c. image_told told has ≡ image shape c.blocks)
held-image shape own None told has s is t e h = tt
held-image shape own (Some c) true has s is t e h =
    ap (λ (o : Option Image). option_map {T = Image} as_imaged o) (sym e ∙ h) ∙ (imaged-twice (image own c.blocks) ∙ ap (λ (v : ImageShape). image v c.blocks) is)
held-image shape own (Some c) false has s is t e h = absurd cc

pub held-after : {stores : List StoreSeen} {bs : List Beside} {ss : List machine.Store} {xs : List Seat} (shape : ImageShape) (k : ℕ) (new : StoreSeen) → Pairs (Stored content_of faults_of stores) bs ss → Pairs Left xs ss
    → Pairs Counted bs xs → Every (λ b. b.shape ≡ shape) bs → Differ bs → Has (λ b. b.disk ≡ k) bs → slice_get stores k ≡ Some new → IfSome new.state.content (λ c. held_in (disks_seen bs xs) k ≡ image shape c.blocks)
held-after shape k new pairs_none i j q differ h is = elim h [ ]
held-after shape k new (pairs_more {x = b} {y = s} (stored {t = t} p f told later) h) (pairs_more {x = x} (left shows count kept) i) (pairs_more {xs = bs} {ys = xs} c j) (every_more own q) differ (has_here z) is =
    let here : k ≡ (disk_seen b x).disk = sym (seen-disk b x c ∙ z) in
    let same : t ≡ new = same-item new p z is in
    let tells : is_some new.state.content ≡ b.told = ap (λ (v : StoreSeen). is_some v.state.content) (sym same) ∙ told in
    let now : IfSome new.state.content (λ c. s.image ≡ option_map {T = Imaged} as_image (image b.shape c.blocks)) =
    subst (λ (v : StoreSeen). IfSome v.state.content (λ c. s.image ≡ option_map {T = Imaged} as_image (image b.shape c.blocks))) same f.now in
    subst (λ (o : Option Imaged). IfSome new.state.content (λ c. o ≡ image shape c.blocks)) (sym (held-first (disk_seen b x) (disks_seen bs xs) k here ∙ seat-holds b x)) (held-image shape b.shape new.state.content b.told (seat-image x) s own tells (seat-left shows) now)
held-after shape k new (pairs_more {x = b} p h) (pairs_more {x = x} q i) (pairs_more {xs = bs} {ys = xs} c j) (every_more own r) differ (has_later z) is =
    let ne : k ≢ b.disk = other k b.disk bs differ.0 z in
    subst (λ (o : Option Imaged). IfSome new.state.content (λ c. o ≡ image shape c.blocks)) (sym (held-rest (disk_seen b x) (disks_seen bs xs) k (λ e. ne (e ∙ seen-disk b x c)))) (held-after shape k new h i j r differ.1 z is)
