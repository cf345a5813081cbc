-- Where the store of a number stands in what disks in mirrors tell.
use Rattle.std.proofs.Common.{◌≡◌, ◌≢◌, ◌⊎◌, inl, inr, ℕ, zero, suc, ◌<◌, ◌≤◌, Bool, true, false, List, ◌∷◌, length, map, Option, Some, None, IfSome, if◌then◌else◌, refl, sym, ap, subst, ◌∙◌, arith}
use Rattle.std.specs.Prelude.{Contains, is_some, slice_get}
use Rattle.std.specs.Option.{option_map}
use Rattle.std.proofs.lemmas.Bool.{eq-eqb, ne_eqb}
use Rattle.spr_io.specs.Content.{Content}
use Rattle.disk_format.specs.declared.shape.ImageShape.{ImageShape}
use Rattle.page_ground.specs.Seen.{Imaged}
use Rattle.disk_format.specs.Image.{image}
use Rattle.page_ground.specs.Seen.{DiskSeen, faults_in, kept_in, live_in, numbers_in, opened_in}
use Rattle.mirror_rules.specs.Tree.{Image, Seat, In, Out, Bad}
use Rattle.mirror_rules.specs.Tree as machine
use Rattle.mirror_rules.specs.Claims.{Pairs, pairs_none, pairs_more, Every, every_none, every_more, Has, has_here, has_later, IsLive}
use Rattle.mirror_rules.specs.Fates.{Excused, excused_live, excused_left, excused_bad, faults_of}
use Rattle.mirror_layer.specs.View.{Beside, as_image}
use Rattle.mirror_layer.specs.Ground.{Counted, counted, Differ, as_imaged, disk_seen, disks_seen, kept_told}
use Rattle.mirror_layer.specs.Stores.{Stored, stored, Left, left, kept_of}
use Rattle.mirror_layer.specs.Bringing.{Brought, brought, Lies, lies}
use Rattle.file_stores.specs.Held.{StoreSeen}
use Rattle.file_stores.specs.Opening.{IsBadOn, bad_on, content_of}
use Rattle.file_stores.specs.Opening as opening
use Rattle.file_stores.proofs.GroundLists.{same-item}

-- THE DISKS THAT ARE TOLD, by cases on the first one

kept-first : (a : DiskSeen) (ds : List DiskSeen) (n : ℕ) → n ≡ a.disk → kept_in (a ∷ ds) n ≡ a.kept
kept-first a ds n e = rw (eq-eqb n a.disk e) refl

kept-rest : (a : DiskSeen) (ds : List DiskSeen) (n : ℕ) → n ≢ a.disk → kept_in (a ∷ ds) n ≡ kept_in ds n
kept-rest a ds n e = rw (ne_eqb n a.disk e) refl

faults-first : (a : DiskSeen) (ds : List DiskSeen) (n : ℕ) → n ≡ a.disk → faults_in (a ∷ ds) n ≡ a.faults
faults-first a ds n e = rw (eq-eqb n a.disk e) refl

faults-rest : (a : DiskSeen) (ds : List DiskSeen) (n : ℕ) → n ≢ a.disk → faults_in (a ∷ ds) n ≡ faults_in ds n
faults-rest a ds n e = rw (ne_eqb n a.disk e) refl

opened-first : (a : DiskSeen) (ds : List DiskSeen) (n : ℕ) → n ≡ a.disk → opened_in (a ∷ ds) n ≡ a.opened
opened-first a ds n e = rw (eq-eqb n a.disk e) refl

opened-rest : (a : DiskSeen) (ds : List DiskSeen) (n : ℕ) → n ≢ a.disk → opened_in (a ∷ ds) n ≡ opened_in ds n
opened-rest a ds n e = rw (ne_eqb n a.disk e) refl

pub live-first : (a : DiskSeen) (ds : List DiskSeen) (n : ℕ) → n ≡ a.disk → a.live ≡ true → Contains (live_in (a ∷ ds)) n
live-first a ds n is e = subst (Contains (live_in (a ∷ ds))) (sym is) (by a.live e)
  where
    by : (l : Bool) → l ≡ true → Contains (if l then a.disk ∷ live_in ds else live_in ds) a.disk
    by true e = (0, omega arith, refl)
    by false e = cc

pub live-rest : (a : DiskSeen) (ds : List DiskSeen) (n : ℕ) → Contains (live_in ds) n → Contains (live_in (a ∷ ds)) n
live-rest a ds n h = by a.live
  where
    by : (l : Bool) → Contains (if l then a.disk ∷ live_in ds else live_in ds) n
    by true = (suc h.0, omega (arith, h.1), h.2)
    by false = h

pub seen-disk : (b : Beside) (x : Seat) → Counted b x → (disk_seen b x).disk ≡ b.disk
seen-disk b (In live c) (counted e l) = e
seen-disk b (Out bad s) (counted e l) = e

seen-faults : (b : Beside) (x : Seat) → (disk_seen b x).faults ≡ faults_of x
seen-faults b (In live c) = refl
seen-faults b (Out bad s) = refl

seen-opened : (b : Beside) (x : Seat) → (disk_seen b x).opened ≡ b.opened
seen-opened b (In live c) = refl
seen-opened b (Out bad s) = refl

seen-kept : (b : Beside) (x : Seat) → (disk_seen b x).kept ≡ kept_told b.told (kept_of x)
seen-kept b (In live c) = refl
seen-kept b (Out bad s) = refl

told-kept : (told : Bool) (kept : Option Image) → is_some (kept_told told kept) ≡ told
told-kept true kept = refl
told-kept false kept = refl

-- another number than that of a disk that differs from all behind it
pub other : (k d : ℕ) (bs : List Beside) → Every (λ b. b.disk ≢ d) bs → Has (λ b. b.disk ≡ k) bs → k ≢ d
other k d _ every_none h = elim h [ ]
other k d bs (every_more p q) (has_here e) = λ is. p (e ∙ is)
other k d bs (every_more p q) (has_later h) = other k d _ q h

pub numbers-seen : {bs : List Beside} {xs : List Seat} → Pairs Counted bs xs → numbers_in (disks_seen bs xs) ≡ map (λ b. b.disk) bs
numbers-seen pairs_none = refl
numbers-seen (pairs_more {x = b} {y = x} {xs = bs} {ys = xs} c h) = ap (λ n. n ∷ numbers_in (disks_seen bs xs)) (seen-disk b x c) ∙ ap (λ ns. b.disk ∷ ns) (numbers-seen h)

-- WHEN THE DISKS WERE OPENED: the store of this number tells what it holds exactly if its disk's is told; its count was this one; and its
-- disk is live, or it failed in the opening, or it was found bad
pub record Before (k : ℕ) (old : StoreSeen) (ds : List DiskSeen) (xs : List Seat) : Type 0 where
  pub told : is_some (kept_in ds k) ≡ is_some old.state.content
  pub opened : opened_in ds k ≡ old.state.faults
  pub rose : Contains (live_in ds) k ⊎ (old.state.faults < faults_in ds k) ⊎ Has (IsBadOn k) xs

before-rest : (k : ℕ) (old : StoreSeen) (a : DiskSeen) (ds : List DiskSeen) (x : Seat) (xs : List Seat) → k ≢ a.disk → Before k old ds xs → Before k old (a ∷ ds) (x ∷ xs)
before-rest k old a ds x xs ne h = record {
  told = ap (λ (v : Option (Option Imaged)). is_some v) (kept-rest a ds k ne) ∙ h.told;
  opened = opened-rest a ds k ne ∙ h.opened;
  rose = elim h.rose [
    | inl live ↦ inl (live-rest a ds k live)
    | inr rest ↦ elim rest [
      | inl up ↦ inr (inl (subst (λ n. old.state.faults < n) (sym (faults-rest a ds k ne)) up))
      | inr bad ↦ inr (inr (has_later bad))
    ]
  ];
}

excused-seen : (b : Beside) (x : Seat) (s : machine.Store) → Counted b x → Excused s x → ((disk_seen b x).live ≡ true) ⊎ (s.faults < faults_of x) ⊎ IsBadOn b.disk x
excused-seen b x s c excused_live = inl refl
excused-seen b x s c (excused_left up) = inr (inl up)
excused-seen b x s (counted e l) (excused_bad a q) = inr (inr (bad_on e))

has-disk : {shape : ImageShape} {stores : List StoreSeen} {ns : List ℕ} {bs : List Beside} {k : ℕ} → Pairs (Lies content_of opening.faults_of shape stores) ns bs → Has (λ n. n ≡ k) ns → Has (λ b. b.disk ≡ k) bs
has-disk pairs_none h = elim h [ ]
has-disk (pairs_more (lies {t = t} p e) h) (has_here z) = has_here (ap (λ (b : Beside). b.disk) e ∙ z)
has-disk (pairs_more a h) (has_later z) = has_later (has-disk h z)

pub before-at : {shape : ImageShape} {stores : List StoreSeen} {ns : List ℕ} {bs : List Beside} {ss : List machine.Store} {xs : List Seat} (k : ℕ) (old : StoreSeen) → Pairs (Lies content_of opening.faults_of shape stores) ns bs
    → Pairs (Brought content_of opening.faults_of shape stores) ns ss → Pairs Excused ss xs → Pairs Counted bs xs → Differ bs → Has (λ n. n ≡ k) ns → slice_get stores k ≡ Some old → Before k old (disks_seen bs xs) xs
before-at k old pairs_none i j l differ h is = elim h [ ]
before-at k old (pairs_more {y = b} (lies {t = t} p e) h) (pairs_more {y = s} (brought {t = u} q f) i) (pairs_more {y = x} a j) (pairs_more {xs = bs} {ys = xs} c l) differ (has_here z) is =
    let d : DiskSeen = disk_seen b x in
    let ds : List DiskSeen = disks_seen bs xs in
    let here : k ≡ d.disk = sym (seen-disk b x c ∙ (ap (λ (v : Beside). v.disk) e ∙ z)) in
    let first : t ≡ old = same-item old p z is in
    let second : u ≡ old = same-item old q z is in
    let count : s.faults ≡ old.state.faults = f.count ∙ ap (λ (v : StoreSeen). v.state.faults) second in
    record {
      told = ap (λ (v : Option (Option Imaged)). is_some v) (kept-first d ds k here ∙ seen-kept b x)
          ∙ (told-kept b.told (kept_of x) ∙ (ap (λ (v : Beside). v.told) e ∙ ap (λ (v : StoreSeen). is_some v.state.content) first));
      opened = opened-first d ds k here ∙ (seen-opened b x ∙ (ap (λ (v : Beside). v.opened) e ∙ ap (λ (v : StoreSeen). v.state.faults) first));
      rose = elim (excused-seen b x s c a) [
        | inl live ↦ inl (live-first d ds k here live)
        | inr rest ↦ elim rest [
          | inl up ↦ inr (inl (omega (arith, up, count, faults-first d ds k here, seen-faults b x)))
          | inr bad ↦ inr (inr (has_here (subst (λ n. IsBadOn n x) (ap (λ (v : Beside). v.disk) e ∙ z) bad)))
        ]
      ];
    }
before-at k old (pairs_more {y = b} a h) (pairs_more p i) (pairs_more {y = x} q j) (pairs_more {xs = bs} {ys = xs} c l) differ (has_later z) is =
    let ne : k ≢ b.disk = other k b.disk bs differ.0 (has-disk h z) in
    before-rest k old (disk_seen b x) (disks_seen bs xs) x xs (λ e. ne (e ∙ seen-disk b x c)) (before-at k old h i j l differ.1 z is)

-- WHEN THE DISKS WERE CLOSED: the store of this number tells what it holds exactly if its disk's is told; its count is that of its disk, and
-- no lower than when that was opened; and what it kept is the image that its disk kept
pub record After (shape : ImageShape) (k : ℕ) (new : StoreSeen) (ds : List DiskSeen) : Type 0 where
  pub told : is_some (kept_in ds k) ≡ is_some new.state.content
  pub faults : faults_in ds k ≡ new.state.faults
  pub opened : opened_in ds k ≤ new.state.faults
  pub kept : IfSome new.state.content (λ c. kept_in ds k ≡ Some (image shape c.kept))

after-rest : (shape : ImageShape) (k : ℕ) (new : StoreSeen) (a : DiskSeen) (ds : List DiskSeen) → k ≢ a.disk → After shape k new ds → After shape k new (a ∷ ds)
after-rest shape k new a ds ne h = record {
  told = ap (λ (v : Option (Option Imaged)). is_some v) (kept-rest a ds k ne) ∙ h.told;
  faults = faults-rest a ds k ne ∙ h.faults;
  opened = subst (λ n. n ≤ new.state.faults) (sym (opened-rest a ds k ne)) h.opened;
  kept = by new.state.content h.kept;
}
  where
    by : (o : Option Content) → IfSome o (λ c. kept_in ds k ≡ Some (image shape c.kept)) → IfSome o (λ c. kept_in (a ∷ ds) k ≡ Some (image shape c.kept))
    by None e = tt
    by (Some c) e = kept-rest a ds k ne ∙ e

pub imaged-twice : (o : Option Imaged) → option_map {T = Image} as_imaged (option_map {T = Imaged} as_image o) ≡ o
imaged-twice None = refl
imaged-twice (Some i) = refl

kept-image : (shape own : ImageShape) (content : Option Content) (told : Bool) (kept : Option Image) (s : machine.Store) → own ≡ shape → is_some content ≡ told → s.kept ≡ kept → IfSome content (λ c. s.kept ≡ option_map {T = Imaged} as_image (image own c.kept))
    → IfSome content (λ c. kept_told told kept ≡ Some (image shape c.kept))
kept-image shape own None told kept s is t e h = tt
kept-image shape own (Some c) true kept s is t e h =
    ap (λ (o : Option Image). Some (option_map {T = Image} as_imaged o)) (sym e ∙ h) ∙ (ap (λ (o : Option Imaged). Some o) (imaged-twice (image own c.kept)) ∙ ap (λ (v : ImageShape). Some (image v c.kept)) is)
kept-image shape own (Some c) false kept s is t e h = absurd cc

pub after-at : {stores : List StoreSeen} {bs : List Beside} {ss : List machine.Store} {xs : List Seat} (shape : ImageShape) (k : ℕ) (new : StoreSeen) → Pairs (Stored content_of opening.faults_of stores) bs ss → Pairs Left xs ss
    → Pairs Counted bs xs → Every (λ b. b.shape ≡ shape) bs → Differ bs → Has (λ b. b.disk ≡ k) bs → slice_get stores k ≡ Some new → After shape k new (disks_seen bs xs)
after-at shape k new pairs_none i j q differ h is = elim h [ ]
after-at shape k new (pairs_more {x = b} {y = s} (stored {t = t} p f told later) h) (pairs_more {x = x} (left shows count kept) i) (pairs_more {xs = bs} {ys = xs} c j) (every_more own q) differ (has_here z) is =
    let d : DiskSeen = disk_seen b x in
    let ds : List DiskSeen = disks_seen bs xs in
    let here : k ≡ d.disk = sym (seen-disk b x c ∙ z) in
    let same : t ≡ new = same-item new p z is in
    let tells : is_some new.state.content ≡ b.told = ap (λ (v : StoreSeen). is_some v.state.content) (sym same) ∙ told in
    let number : faults_of x ≡ new.state.faults = sym count ∙ (f.count ∙ ap (λ (v : StoreSeen). v.state.faults) same) in
    let since : b.opened ≤ new.state.faults = subst (λ (v : StoreSeen). b.opened ≤ v.state.faults) same later in
    let last : IfSome new.state.content (λ c. s.kept ≡ option_map {T = Imaged} as_image (image b.shape c.kept)) =
    subst (λ (v : StoreSeen). IfSome v.state.content (λ c. s.kept ≡ option_map {T = Imaged} as_image (image b.shape c.kept))) same f.last in
    record {
      told = ap (λ (v : Option (Option Imaged)). is_some v) (kept-first d ds k here ∙ seen-kept b x) ∙ (told-kept b.told (kept_of x) ∙ sym tells);
      faults = faults-first d ds k here ∙ (seen-faults b x ∙ number);
      opened = subst (λ n. n ≤ new.state.faults) (sym (opened-first d ds k here ∙ seen-opened b x)) since;
      kept = subst (λ (v : Option (Option Imaged)). IfSome new.state.content (λ c. v ≡ Some (image shape c.kept))) (sym (kept-first d ds k here ∙ seen-kept b x))
          (kept-image shape b.shape new.state.content b.told (kept_of x) s own tells kept last);
    }
after-at shape k new (pairs_more {x = b} p h) (pairs_more {x = x} q i) (pairs_more {xs = bs} {ys = xs} c j) (every_more own r) differ (has_later z) is =
    let ne : k ≢ b.disk = other k b.disk bs differ.0 z in
    after-rest shape k new (disk_seen b x) (disks_seen bs xs) (λ e. ne (e ∙ seen-disk b x c)) (after-at shape k new h i j r differ.1 z is)

-- SOME DISK IS LIVE
pub live-some : (bs : List Beside) (xs : List Seat) → Pairs Counted bs xs → Has IsLive xs → 0 < length (live_in (disks_seen bs xs))
live-some _ _ pairs_none z = elim z [ ]
live-some _ _ (pairs_more {x = b} {y = In true c} {xs = bs} {ys = xs} k h) (has_here l) = omega arith
live-some _ _ (pairs_more {x = b} {y = In false c} {xs = bs} {ys = xs} k h) (has_here l) = elim l [ ]
live-some _ _ (pairs_more {x = b} {y = Out bad s} {xs = bs} {ys = xs} k h) (has_here l) = elim l [ ]
live-some _ _ (pairs_more {x = b} {y = x} {xs = bs} {ys = xs} k h) (has_later z) = more-live (disk_seen b x) (disks_seen bs xs) (live-some bs xs h z)
  where
    more-live : (a : DiskSeen) (ds : List DiskSeen) → 0 < length (live_in ds) → 0 < length (live_in (a ∷ ds))
    more-live a ds some = by a.live
      where
        by : (l : Bool) → 0 < length (if l then a.disk ∷ live_in ds else live_in ds)
        by true = omega arith
        by false = some

-- and each live one has a number below this
pub live-few : (bs : List Beside) (xs : List Seat) (n : ℕ) → Pairs Counted bs xs → Every (λ b. b.disk < n) bs → (k : ℕ) → Contains (live_in (disks_seen bs xs)) k → k < n
live-few _ _ n pairs_none every_none k h = absurd (omega (arith, h.1))
live-few _ _ n (pairs_more {x = b} {y = x} {xs = bs} {ys = xs} c i) (every_more p q) k h =
    first (disk_seen b x) (disks_seen bs xs) (subst (λ m. m < n) (sym (seen-disk b x c)) p) (λ j found. live-few bs xs n i q j found) h
  where
    first : (a : DiskSeen) (ds : List DiskSeen) → a.disk < n → ((j : ℕ) → Contains (live_in ds) j → j < n) → Contains (live_in (a ∷ ds)) k → k < n
    first a ds low rest found = by a.live found
      where
        by : (l : Bool) → Contains (if l then a.disk ∷ live_in ds else live_in ds) k → k < n
        by true (zero, inside, is) = omega (arith, is, low)
        by true (suc m, inside, is) = rest k (m, omega (arith, inside), is)
        by false there = rest k there
