-- What an opening does to the disks, beside that it is an opening of the machine: so a run is a sitting of the machine's histories, and what is
-- proved of those holds of it. Disks are named by their places in the tree, from the left.
use Rattle.std.specs.Prelude.{◌≡◌, ℕ, Bool, true, List}
use Rattle.mirror_rules.specs.Tree.{Image, Store, Seat, Tree, seats}
use Rattle.mirror_rules.specs.Claims.{Pairs, Every, HasPages}
use Rattle.mirror_rules.specs.Opening.{DownedTree, Gives, Outcome, Good, BadImage, Lost, all_but_bad}
use Rattle.mirror_rules.specs.Fates.{Sized, Excused, Blamed, Calmly, OpeningEnd}
use Rattle.mirror_rules.specs.Guards.{Medium, Settled, Among, Guarded, Guarding, Within, live_at}
use Rattle.mirror_rules.specs.Levels.{Level}
use Rattle.mirror_rules.specs.History.{Up, either}

-- of disks that tell what they hold, from the stores and what the openings of the disks found to what became of them, whether or not the ground
-- was refused
pub record Lasting (pages : ℕ) (ss : List Store) (row us : List Seat) : Type 0 where
  -- each image has so many pages
  pub sized : Every (Sized pages) ss
  -- what became of each disk: one that was blank is so still or whole, and one that was bad is as it was
  pub ends : (v : Medium) → Every (Settled v) ss → OpeningEnd v ss row us
  -- the disks that guarded the pages of a sync guard them on, whoever was up
  pub guards : (v : Medium) (Vs : List (ℕ → ℕ → List ℕ)) (L : ℕ → Bool) (past : List Image) → Every (Settled v) ss → Guarded (Among Vs) L past ss → Guarding v (Among Vs) L past us

-- and if the ground was opened, with the generation g
pub record Given (ss : List Store) (row us : List Seat) (g : ℕ) : Type 0 where
  -- a guarding disk was up: the ground's pages are guarded ones, and all live disks guard them
  pub within : (Vs : List (ℕ → ℕ → List ℕ)) (L : ℕ → Bool) (past : List Image) → Up L row → Guarded (Among Vs) L past ss → (G : List (List ℕ)) × Every (HasPages G) us × Within (Among Vs) G
  pub joins : (v : Medium) (Vs : List (ℕ → ℕ → List ℕ)) (L : ℕ → Bool) (past : List Image) → Every (Settled v) ss → Up L row → Guarded (Among Vs) L past ss
      → Guarding v (Among Vs) (either L (live_at us)) past us
  -- the pages and the generation are what the tree of the disks gives, once those that gave way count as down
  pub gives : (t : Tree) → seats t ≡ row → (F : List (List ℕ)) × (u : Tree) × DownedTree t u × Every (HasPages F) us × Gives u g F
  -- what each live disk shows has this generation, and no other opened disk is above it
  pub level : (v : Medium) → Every (Settled v) ss → Every (Level v g) us

-- which disks failed, whatever they tell: each disk of an opened ground is live, or its store refused a call since, or its blocks were bad, and
-- it is as it was; if none failed, all are live but the bad ones
pub record Fair (ss : List Store) (us : List Seat) : Type 0 where
  pub excused : Pairs Excused ss us
  pub whole : Pairs Calmly ss us → all_but_bad us ≡ true

-- a ground that is refused names a store that refused a call in the opening, with its count after that
abbrev pub Blames : Outcome → List Store → List Seat → Type 0
Blames (Good owed g) ss us = Fair ss us
Blames (BadImage d) ss us = Unit {0}
Blames (Lost d k) ss us = Blamed d k ss us
