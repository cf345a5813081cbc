-- Disks, mirrors and coherency layers as a tree of values; the disks of a tree in a row.
use Rattle.std.specs.Prelude.{ℕ, ◌+◌, ◌-◌, ◌^◌, min, Bool, true, false, ◌||◌, ltb, List, [], ◌∷◌, ◌++◌, length, map, Option, Some}

-- what a disk's blocks stand for
pub record Image : Type 0 where
  pub generation : ℕ
  pub pages : List (List ℕ)

-- a disk that was opened: its number, the image of its blocks, the image that its store kept at its last flush, if it kept one,
-- and its store's count of faults
pub record Cell : Type 0 where
  pub disk : ℕ
  pub now : Image
  pub kept : Option Image
  pub faults : ℕ

-- a closed disk: the image that the next opening will find, if it is one, the image that was kept, and whether block 0 is all
-- zeros; then there is no image
pub record Store : Type 0 where
  pub disk : ℕ
  pub image : Option Image
  pub kept : Option Image
  pub blank : Bool
  pub faults : ℕ

-- why a disk is not opened: block 0 is all zeros; or its blocks are no image for another reason; or it refused a call
pub data Why : Type 0 where
  Blank : Why
  Bad : Why
  Down : Why

-- a disk of a ground: opened, and then live or left out; or not opened
pub data Seat : Type 0 where
  In : (live : Bool) → Cell → Seat
  Out : (why : Why) → Store → Seat

pub data Tree : Type 0 where
  Leaf : Seat → Tree
  Coherent : Tree → Tree
  Mirror : Tree → Tree → Tree

-- the disks, from left to right
abbrev pub seats : Tree → List Seat
seats (Leaf s) = s ∷ []
seats (Coherent t) = seats t
seats (Mirror l r) = seats l ++ seats r

-- a side is live while a disk in it is
abbrev pub is_live : Tree → Bool
is_live (Leaf (In live c)) = live
is_live (Leaf (Out why s)) = false
is_live (Coherent t) = is_live t
is_live (Mirror l r) = is_live l || is_live r

abbrev pub left_out : Seat → Seat
left_out (In live c) = In false c
left_out (Out why s) = Out why s

-- the side becomes stale
abbrev pub stale : Tree → Tree
stale (Leaf s) = Leaf (left_out s)
stale (Coherent t) = Coherent (stale t)
stale (Mirror l r) = Mirror (stale l) (stale r)

-- how many disks are live
abbrev pub lives : List Seat → ℕ
lives [] = 0
lives (In true c ∷ xs) = 1 + lives xs
lives (In false c ∷ xs) = lives xs
lives (Out why s ∷ xs) = lives xs

-- the greatest generation that there may be
abbrev pub limit : ℕ
limit = 2 ^ 63 - 1

-- the number that a raise writes, where the ground has the generation g
abbrev pub next : ℕ → ℕ
next g = min (g + 1) limit

-- whether a ground that was just opened owes a raise: but for a ground of one disk whose generation is 1 it does. So a disk that
-- was in a mirror's sync owes one where it is run alone too
abbrev pub owes : List Seat → ℕ → Bool
owes xs g = ltb 1 (length xs) || ltb 1 g

-- what a ground leaves on its disks
abbrev pub closed : Seat → Store
closed (In live c) = record { disk = c.disk; image = Some c.now; kept = c.kept; blank = false; faults = c.faults }
closed (Out why s) = s

abbrev pub stores : List Seat → List Store
stores xs = map closed xs
