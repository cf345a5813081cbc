-- A blank disk is made. The disk is taken out of the ground meanwhile; at its place stands a disk that is out.
use Rattle.std.specs.Prelude.{◌≡◌, ℕ, ◌+◌, ◌<◌, ◌≤◌, List, [], ◌∷◌, set, replicate, Bool, true, false, Option, Some, None, IfSome, is_some, Result, Ok, Err}
use Rattle.spr_io.specs.Content.{Content, HasNothingPending}
use Rattle.disk_format.specs.declared.shape.ImageShape.{ImageShape}
use Rattle.disk_format.specs.Image.{image}
use Rattle.page_ground.specs.declared.fault.StoreFault.{StoreFault}
use Rattle.page_ground.specs.Seen.{with_page}
use Rattle.disk_layer.specs.Disk.{Disk, HasImage, IsBlank, pages_on}
use Rattle.disk_layer.specs.Calls.{Stored, IsNone}
use Rattle.disk_layer.specs.Making.{Making, pages_made}
use Rattle.mirror_rules.specs.Tree.{Seat, In, Out, Blank, Bad, Down}
use Rattle.mirror_rules.specs.Tree as machine
use Rattle.mirror_rules.specs.Claims.{Nth}
use Rattle.mirror_rules.specs.Steps.{Done, Fault, Look}
use Rattle.mirror_rules.specs.Opening.{Fills, Renews}
use Rattle.mirror_layer.specs.Shut.{ShutSeen}
use Rattle.mirror_layer.specs.Calls.{answered}

-- how many disks are blank
abbrev pub blanks : List Seat → ℕ
blanks [] = 0
blanks (In b c ∷ xs) = blanks xs
blanks (Out Blank s ∷ xs) = 1 + blanks xs
blanks (Out Bad s ∷ xs) = blanks xs
blanks (Out Down s ∷ xs) = blanks xs

-- block 0 is all zeros, and the blocks are no image, if they are told
abbrev pub IsUnmade : ImageShape → Option Content → Type 0
IsUnmade shape content = IsBlank content × IsNone shape content

-- a page of zeros
abbrev pub zero_page : ImageShape → List ℕ
zero_page shape = replicate shape.page_size 0

-- a page of a disk in the making is zeros: to write zeros there would change nothing
abbrev pub IsHole : ImageShape → ℕ → Option (List (List ℕ)) → Type 0
IsHole shape page pages = with_page page (zero_page shape) pages ≡ pages

-- one page: the ground's row and the disk in the making, before and after. The page that is told is the ground's
abbrev pub MakesPage : Bool → ℕ → List Seat → Making → Result Bool StoreFault → List Seat → Making → Type 0
MakesPage told p xs m (Ok true) ys k = (x out : List ℕ) × Look p x xs (Done true) ys × (told ≡ true → x ≡ out) × (pages_made k ≡ with_page p out (pages_made m)) × (k.faults ≡ m.faults)
MakesPage told p xs m (Ok false) ys k = (x : List ℕ) × Look p x xs (Done true) ys × (m.faults < k.faults)
MakesPage told p xs m (Err f) ys k = ((x : List ℕ) → Look p x xs (Fault f.disk f.count) ys) × (k.faults ≡ m.faults)

-- all n pages
abbrev pub MakesPages : Bool → ℕ → List Seat → Making → Result Bool StoreFault → List Seat → Making → Type 0
MakesPages told n xs m (Ok true) ys k = (F : List (List ℕ)) × Fills n 0 xs (Done true) F ys × (told ≡ true → IfSome (pages_made k) (λ ps. ps ≡ F)) × (k.faults ≡ m.faults)
MakesPages told n xs m (Ok false) ys k = (j : ℕ) × (F : List (List ℕ)) × (j ≤ n) × Fills j 0 xs (Done true) F ys × (m.faults < k.faults)
MakesPages told n xs m (Err f) ys k = (F : List (List ℕ)) × Fills n 0 xs (Fault f.disk f.count) F ys × (k.faults ≡ m.faults)

-- a store was made a disk of the generation g and the n pages of the ground, and everything is kept
pub record MadeDisk (told : Bool) (g n : ℕ) (xs ys : List Seat) (before : Stored) (d : Disk) : Type 0 where
  pub pages : List (List ℕ)
  pub fills : Fills n 0 xs (Done true) pages ys
  pub disk : d.disk ≡ before.disk
  pub shape : d.shape ≡ before.shape
  pub generation : d.generation ≡ g
  pub calm : d.faults ≡ before.faults
  pub opened : d.opened ≡ before.faults
  pub tells : is_some d.content ≡ is_some before.content
  pub stands : told ≡ true → IfSome (pages_on d) (λ ps. ps ≡ pages)
  pub image : HasImage d
  pub kept : HasNothingPending d.content

-- what is left of a store that was not made a disk, with its count. It refused a call, and is blank still, or has the whole image; or the
-- ground refused a read, and it is blank still
pub data LeftUnmade (told : Bool) (g n : ℕ) (xs ys : List Seat) (before : Stored) : Option StoreFault → Option Content → ℕ → Type 0 where
  left_blank : {j faults : ℕ} {F : List (List ℕ)} {left : Option Content} → j ≤ n → Fills j 0 xs (Done true) F ys → before.faults < faults → IsUnmade before.shape left → LeftUnmade told g n xs ys before None left faults
  left_whole : {faults : ℕ} {F : List (List ℕ)} {left : Option Content} → Fills n 0 xs (Done true) F ys → before.faults < faults
      → (told ≡ true → IfSome left (λ c. image before.shape c.blocks ≡ Some (record { generation = g; pages = F }))) → LeftUnmade told g n xs ys before None left faults
  left_gone : {f : StoreFault} {F : List (List ℕ)} {left : Option Content} → Fills n 0 xs (Fault f.disk f.count) F ys → IsUnmade before.shape left → LeftUnmade told g n xs ys before (Some f) left before.faults

abbrev pub stored : ShutSeen → Stored
stored s = record { disk = s.disk; shape = s.shape; content = s.content; faults = s.faults }

-- a blank disk that was taken out of the ground is made; or it refuses, and is no longer told as blank; or the ground does, and it stays blank
abbrev pub RenewsShut : Bool → ℕ → ℕ → List Seat → ShutSeen → Result (Option Disk) StoreFault → List Seat → ShutSeen → Type 0
RenewsShut told g n xs s (Ok (Some d)) ys t = MadeDisk told g n xs ys (stored s) d
RenewsShut told g n xs s (Ok None) ys t = (t ≡ record s { bad = None; content = t.content; faults = t.faults }) × (is_some t.content ≡ is_some s.content) × LeftUnmade told g n xs ys (stored s) None t.content t.faults
RenewsShut told g n xs s (Err f) ys t = (t ≡ record s { content = t.content; faults = t.faults }) × (is_some t.content ≡ is_some s.content) × LeftUnmade told g n xs ys (stored s) (Some f) t.content t.faults

-- a leaf is made if it is blank, at whatever place it was taken from
abbrev pub RenewsLeaf : Bool → ℕ → ℕ → List Seat → Seat → Result (Unit {0}) StoreFault → List Seat → Seat → Type 0
RenewsLeaf told g n xs x result ys y = (i : ℕ) (b : machine.Why) (s : machine.Store) → Nth i xs (Out b s) → Renews told g n i 1 (set xs i x) (answered result) (set ys i y)
