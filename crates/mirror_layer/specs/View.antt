-- A ground as the machine of mirrors sees it, and what a ground tells beside that.
use Rattle.std.specs.Prelude.{ℕ, List, [], ◌∷◌, ◌++◌, Bool, true, false, not, ◌||◌, is_some, Option, Some, None}
use Rattle.std.specs.Option.{option_map}
use Rattle.spr_io.specs.Content.{Content}
use Rattle.disk_format.specs.declared.shape.ImageShape.{ImageShape}
use Rattle.page_ground.specs.Seen.{Imaged}
use Rattle.disk_format.specs.declared.why.BadImage.{BadImage}
use Rattle.disk_format.specs.Image.{image}
use Rattle.disk_layer.specs.Disk.{is_blank, pages_on, kept_on}
use Rattle.disk_layer.specs.Disk as disk_layer
use Rattle.mirror_rules.specs.Tree.{Image, Cell, Store, Why, Blank, Bad, Down, Seat, In, Out, Tree, Leaf, closed}
use Rattle.mirror_rules.specs.Tree as machine
use Rattle.mirror_layer.specs.Shut.{ShutSeen}
use Rattle.mirror_layer.specs.declared.node.Mark.{Mark}
use Rattle.mirror_layer.specs.declared.node.Mark.TheVariants as mark
use Rattle.mirror_layer.specs.declared.node.Node.{Node, Opened, Shut, Coherency', Mirror'}

-- pages that are not told are none
abbrev pub told_pages : Option (List (List ℕ)) → List (List ℕ)
told_pages None = []
told_pages (Some pages) = pages

abbrev pub as_image : Imaged → Image
as_image i = record { generation = i.generation; pages = i.pages }

-- a store that does not tell what it keeps is taken to keep what it has
abbrev pub kept_image : Option (Option Imaged) → Image → Option Image
kept_image None now = Some now
kept_image (Some kept) now = option_map {T = Imaged} as_image kept

abbrev pub cell_from : ℕ → ℕ → Option (List (List ℕ)) → Option (Option Imaged) → ℕ → Cell
cell_from disk generation pages kept faults =
    let now : Image = record { generation = generation; pages = told_pages pages } in
    record { disk = disk; now = now; kept = kept_image kept now; faults = faults }

abbrev pub cell_of : disk_layer.Disk → Cell
cell_of d = cell_from d.disk d.generation (pages_on d) (kept_on d) d.faults

-- a live disk
abbrev pub leaf_of : disk_layer.Disk → Tree
leaf_of d = Leaf (In true (cell_of d))

abbrev pub seat_of : Mark → Cell → Seat
seat_of mark.Live c = In true c
seat_of mark.Left c = In false c
seat_of mark.Down c = Out Down (closed (In false c))

-- the image of blocks, if they are told
abbrev pub image_in : ImageShape → (Content → List (List ℕ)) → Option Content → Option Image
image_in shape blocks None = None
image_in shape blocks (Some c) = option_map {T = Imaged} as_image (image shape (blocks c))

-- whether block 0 is all zeros, if blocks are told; else what was found
abbrev pub is_blank_in : Bool → Option Content → Bool
is_blank_in found None = found
is_blank_in found (Some c) = is_blank c.blocks

-- why a disk is not opened
abbrev pub why_from : Option BadImage → Bool → Why
why_from None blank = Down
why_from (Some bad) true = Blank
why_from (Some bad) false = Bad

abbrev pub why_of : ShutSeen → Why
why_of s = why_from s.bad s.blank

abbrev pub store_of : ShutSeen → Store
store_of s = record {
  disk = s.disk;
  image = image_in s.shape (λ c. c.blocks) s.content;
  kept = image_in s.shape (λ c. c.kept) s.content;
  blank = is_blank_in s.blank s.content;
  faults = s.faults;
}

abbrev pub tree_of : {D H : Type 0} → Node D H → Tree
tree_of (Opened m d) = Leaf (seat_of m (cell_of d))
tree_of (Shut s) = Leaf (Out (why_of s) (store_of s))
tree_of (Coherency' p t) = machine.Coherent (tree_of t)
tree_of (Mirror' p l q r) = machine.Mirror (tree_of l) (tree_of r)

-- what no call changes: a disk's number, its shape, whether its store is there, and whether it tells what it holds if it is, and its count of faults when it
-- was opened
pub record Beside : Type 0 where
  pub disk : ℕ
  pub shape : ImageShape
  pub there : Bool
  pub told : Bool
  pub opened : ℕ

abbrev pub beside_of : disk_layer.Disk → Beside
beside_of d = record { disk = d.disk; shape = d.shape; there = true; told = is_some (kept_on d); opened = d.opened }

-- of a disk that was not opened
abbrev pub beside_of_shut : ShutSeen → Beside
beside_of_shut s = record { disk = s.disk; shape = s.shape; there = s.there; told = not s.there || is_some s.content; opened = s.opened }

abbrev pub beside_in : {D H : Type 0} → Node D H → List Beside
beside_in (Opened m d) = beside_of d ∷ []
beside_in (Shut s) = beside_of_shut s ∷ []
beside_in (Coherency' p t) = beside_in t
beside_in (Mirror' p l q r) = beside_in l ++ beside_in r
