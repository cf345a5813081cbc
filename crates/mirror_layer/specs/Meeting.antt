-- The opening of each disk of a ground.
use Rattle.std.specs.Prelude.{◌≡◌, ◌≢◌, ◌⊎◌, ◌<◌, List, [], ◌∷◌, ◌++◌, true, false, Option, Some, None, IfSome, Result, Ok, Err}
use Rattle.spr_io.specs.Content.{Content}
use Rattle.disk_format.specs.declared.shape.ImageShape.{ImageShape}
use Rattle.disk_format.specs.declared.why.BadImage.{BadImage}
use Rattle.disk_format.specs.declared.why.ImageWhy.TheVariants.{Memory}
use Rattle.disk_format.specs.Image.{front_of}
use Rattle.disk_format.specs.VersionOne.{image_in}
use Rattle.disk_layer.specs.declared.refused.OpenWhy.{OpenWhy}
use Rattle.disk_layer.specs.declared.refused.OpenWhy.TheVariants as whys
use Rattle.disk_layer.specs.Disk.{Disk}
use Rattle.disk_layer.specs.Calls.{IsRefusal}
use Rattle.disk_layer.specs.Calls as calls
use Rattle.stack_accept.specs.Plan.{Plan, OnDisk, OnMirror, OnCoherency}
use Rattle.mirror_rules.specs.Tree.{Seat, Out, Down, Tree, Leaf, Coherent, Mirror}
use Rattle.mirror_rules.specs.Fates.{disk_of}
use Rattle.mirror_rules.specs.Tree as machine
use Rattle.mirror_rules.specs.Claims.{Pairs}
use Rattle.mirror_rules.specs.Opening.{Meets}
use Rattle.mirror_layer.specs.declared.node.Mark.TheVariants as mark
use Rattle.mirror_layer.specs.declared.node.Node.{Node, Opened, Shut, Coherency', Mirror'}
use Rattle.mirror_layer.specs.Shut.{ShutSeen}
use Rattle.mirror_layer.specs.Stores.{Finds}

-- a disk of which nothing is known yet: its store is there, with the count that it was taken with
pub record IsNew (s : ShutSeen) : Type 0 where
  pub there : s.there ≡ true
  pub unknown : s.bad ≡ None
  pub taken : s.opened ≡ s.faults

-- no disk was opened
abbrev pub AllNew : {D H : Type 0} → Node D H → Type 0
AllNew (Opened m d) = ⊥
AllNew (Shut s) = IsNew s
AllNew (Coherency' p t) = AllNew t
AllNew (Mirror' p l q r) = AllNew l × AllNew r

abbrev pub shuts_in : {D H : Type 0} → Node D H → List ShutSeen
shuts_in (Opened m d) = []
shuts_in (Shut s) = s ∷ []
shuts_in (Coherency' p t) = shuts_in t
shuts_in (Mirror' p l q r) = shuts_in l ++ shuts_in r

-- what the machine sees of a store before the opening
abbrev pub Found : ShutSeen → machine.Store → Type 0
Found s t = Finds s.shape s.disk s.content s.faults t

-- what the disks' openings found, where the stores were so
pub record Met (shuts : List ShutSeen) (row : List Seat) : Type 0 where
  pub seen : List machine.Store
  pub found : Pairs Found shuts seen
  pub meets : Pairs Meets seen row

-- the opening of one disk
abbrev pub MeetsLeaf : ShutSeen → Result (Option Disk) OpenWhy → ShutSeen → Type 0
MeetsLeaf s (Ok (Some d)) t = calls.Opened (record { disk = s.disk; shape = s.shape; content = s.content; faults = s.faults }) d
MeetsLeaf s (Ok None) t =
    (t ≡ record s { bad = t.bad; blank = t.blank; faults = t.faults })
    × (((t.bad ≡ None) × (s.faults < t.faults)) ⊎ ((b : BadImage) × (t.bad ≡ Some b) × IsRefusal (record { disk = s.disk; shape = s.shape; content = s.content; faults = s.faults }) t.faults (whys.BadImage b t.blank)))
MeetsLeaf s (Err e) t = Unit {0}

-- why blocks are no image, if they are told; it is never that memory ran out
abbrev pub IsBadOf : ImageShape → Option Content → BadImage → Type 0
IsBadOf shape content bad = (bad.why ≢ Memory) × IfSome content (λ c. image_in shape (front_of shape c.blocks) ≡ Err bad)

-- why the blocks of each disk are no image, where the opening found that
abbrev pub bads_in : {D H : Type 0} → Node D H → List (Option BadImage)
bads_in (Opened m d) = None ∷ []
bads_in (Shut s) = s.bad ∷ []
bads_in (Coherency' p t) = bads_in t
bads_in (Mirror' p l q r) = bads_in l ++ bads_in r

-- what the opening found of one disk is so
abbrev pub Reason : ShutSeen → Option BadImage → Type 0
Reason s found = IfSome found (λ bad. IsBadOf s.shape s.content bad)

-- and of each
abbrev pub Reasons : List ShutSeen → List (Option BadImage) → Type 0
Reasons shuts found = Pairs Reason shuts found

-- no store was written: a disk was opened, or not yet
pub data Rests (s : machine.Store) : Seat → Type 0 where
  rests_met : {x : Seat} → Meets s x → Rests s x
  rests_shut : Rests s (Out Down s)

pub record Rested (shuts : List ShutSeen) (row : List Seat) : Type 0 where
  pub seen : List machine.Store
  pub found : Pairs Found shuts seen
  pub rests : Pairs Rests seen row

-- the plan that a tree of disks is made by
abbrev pub planned : Tree → Plan
planned (Leaf x) = OnDisk (disk_of x)
planned (Coherent t) = OnCoherency (planned t)
planned (Mirror l r) = OnMirror (planned l) (planned r)

-- a disk whose store is not there yet
pub record IsEmpty (shape : ImageShape) (s : ShutSeen) : Type 0 where
  pub missing : s.there ≡ false
  pub shaped : s.shape ≡ shape
  pub unknown : s.bad ≡ None

abbrev pub AllEmpty : {D H : Type 0} → ImageShape → Node D H → Type 0
AllEmpty shape (Opened m d) = ⊥
AllEmpty shape (Shut s) = IsEmpty shape s
AllEmpty shape (Coherency' p t) = AllEmpty shape t
AllEmpty shape (Mirror' p l q r) = AllEmpty shape l × AllEmpty shape r

-- a disk that was opened is not live, and has not given way
abbrev pub AllLeft : {D H : Type 0} → Node D H → Type 0
AllLeft (Opened m d) = m ≡ mark.Left
AllLeft (Shut s) = Unit {0}
AllLeft (Coherency' p t) = AllLeft t
AllLeft (Mirror' p l q r) = AllLeft l × AllLeft r

-- each disk that was not opened has its store
abbrev pub AllThere : {D H : Type 0} → Node D H → Type 0
AllThere (Opened m d) = Unit {0}
AllThere (Shut s) = s.there ≡ true
AllThere (Coherency' p t) = AllThere t
AllThere (Mirror' p l q r) = AllThere l × AllThere r
