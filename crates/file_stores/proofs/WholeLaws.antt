-- What a disk tells that is told with all that its store holds.
use Rattle.std.proofs.Common.{◌≡◌, ℕ, zero, suc, ◌≤◌, ◌==◌, cond, Bool, true, false, [], ◌∷◌, List, Option, Some, None, refl, sym, ap, arith}
use Rattle.std.specs.Prelude.{Contains}
use Rattle.std.specs.Option.{option_map}
use Rattle.std.proofs.lemmas.Bool.{eq-eqb}
use Rattle.spr_io.specs.Content.{Content}
use Rattle.page_ground.specs.Seen.{Imaged}
use Rattle.disk_layer.specs.Disk.{Disk, held_on, kept_on, seen_of}
use Rattle.page_ground.specs.Seen.{DiskSeen, Seen, Keeps, faults_in, held_in, kept_in, live_in, opened_in}
use Rattle.file_stores.specs.WholeDisk.{Alone, seen_whole}

-- what is said of the number of one disk alone
same-number : (n : ℕ) (m : ℕ) → cond (n == n) m 0 ≡ m
same-number n m = rw (eq-eqb n n refl) refl

-- a disk has no fewer faults than when it was opened
pub since-opened : (d : Disk) → Keeps (seen_of d) (seen_of d) → d.opened ≤ d.faults
since-opened d keeps =
    let since : cond (d.disk == d.disk) d.opened 0 ≤ cond (d.disk == d.disk) d.faults 0 = keeps.since d.disk in
    let opened = same-number d.disk d.opened in
    let faults = same-number d.disk d.faults in
    omega (arith, since, opened, faults)

-- what is found under its number
pub kept-under : (a : Alone) (n : ℕ) → n ≡ a.disk.disk → kept_in (seen_whole a).disks n ≡ kept_on a.disk
kept-under a n is = rw (eq-eqb n a.disk.disk is) refl

pub faults-under : (a : Alone) (n : ℕ) → n ≡ a.disk.disk → faults_in (seen_whole a).disks n ≡ a.disk.faults
faults-under a n is = rw (eq-eqb n a.disk.disk is) refl

pub opened-under : (a : Alone) (n : ℕ) → n ≡ a.disk.disk → opened_in (seen_whole a).disks n ≡ a.disk.opened
opened-under a n is = rw (eq-eqb n a.disk.disk is) refl

pub held-under : (a : Alone) (n : ℕ) → n ≡ a.disk.disk → held_in (seen_whole a).disks n ≡ held_on a.disk
held-under a n is = rw (eq-eqb n a.disk.disk is) refl

one-live : (x n : ℕ) → Contains (x ∷ []) n → n ≡ x
one-live x n (zero, lt, is) = sym is
one-live x n (suc k, lt, is) = absurd (omega arith)

pub is-live : (a : Alone) → Contains (live_in (seen_whole a).disks) a.disk.disk
is-live a = (0, omega arith, refl)

abbrev kept-at : ℕ → List DiskSeen → Option (Option Imaged)
kept-at n [] = None
kept-at zero (d ∷ ds) = d.kept
kept-at (suc n) (d ∷ ds) = kept-at n ds

abbrev faults-first : List DiskSeen → ℕ
faults-first [] = 0
faults-first (d ∷ ds) = d.faults

abbrev blocks-of : Option (Option Imaged) → List (List ℕ)
blocks-of None = []
blocks-of (Some None) = []
blocks-of (Some (Some i)) = i.pages

abbrev is-told : Option (Option Imaged) → Bool
is-told None = false
is-told (Some i) = true

differ : false ≡ true → ⊥
differ e = cc

same-content : (a b : Option Content) → is-told (option_map {T = Content} (λ c. let all : Imaged = record { generation = 0; pages = c.blocks } in Some all) a) ≡ is-told (option_map {T = Content} (λ c. let all : Imaged = record { generation = 0; pages = c.blocks } in Some all) b)
    → blocks-of (option_map {T = Content} (λ c. let all : Imaged = record { generation = 0; pages = c.blocks } in Some all) a) ≡ blocks-of (option_map {T = Content} (λ c. let all : Imaged = record { generation = 0; pages = c.blocks } in Some all) b)
    → blocks-of (option_map {T = Content} (λ c. let all : Imaged = record { generation = 0; pages = c.kept } in Some all) a) ≡ blocks-of (option_map {T = Content} (λ c. let all : Imaged = record { generation = 0; pages = c.kept } in Some all) b) → a ≡ b
same-content None None t p q = refl
same-content None (Some c) t p q = absurd (differ t)
same-content (Some c) None t p q = absurd (differ (sym t))
same-content (Some c) (Some e) t p q = λ i. Some (let x : Content = record { blocks = p i; kept = q i } in x)

-- disks that tell the same have stores that hold the same
pub whole-content : (a b : Alone) → seen_whole a ≡ seen_whole b → a.disk.content ≡ b.disk.content
whole-content a b same =
    same-content a.disk.content b.disk.content (ap (λ (s : Seen). is-told (kept-at 1 s.disks)) same) (ap (λ (s : Seen). blocks-of (kept-at 1 s.disks)) same) (ap (λ (s : Seen). blocks-of (kept-at 2 s.disks)) same)

pub whole-count : (a b : Alone) → seen_whole a ≡ seen_whole b → a.disk.faults ≡ b.disk.faults
whole-count a b same = ap (λ (s : Seen). faults-first s.disks) same
