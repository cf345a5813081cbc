-- How the pages of a file are read from what lies under it.
use Rattle.std.specs.Prelude.{◌≡◌, ℕ, ◌<◌, ◌≤◌, Bool, true, false, List, IfSome}
use Rattle.disk_format.specs.declared.shape.ImageShape.{ImageShape}
use Rattle.page_ground.specs.declared.fault.StoreFault.{StoreFault}
use Rattle.disk_layer.specs.Disk.{counting}
use Rattle.page_ground.specs.Pages.{cut}
use Rattle.mirror_rules.specs.Tree.{Cell, Store, Why, Seat, In, Out}
use Rattle.mirror_rules.specs.Claims.{Pairs}
use Rattle.mirror_rules.specs.Steps.{Named, faulted}
use Rattle.mirror_layer.specs.Ground.{Ground}
use Rattle.file_stores.specs.Under.{One, Many, Under, seen_under}

-- a disk while pages are read: only the count of a live one may rise, and does so if a read was refused
pub data Stays (refused : Bool) : Seat → Seat → Type 0 where
  stays_out : {b : Why} {s : Store} → Stays refused (Out b s) (Out b s)
  stays_left : {c : Cell} → Stays refused (In false c) (In false c)
  stays_same : {c : Cell} → refused ≡ false → Stays refused (In true c) (In true c)
  stays_failed : {c : Cell} {n : ℕ} → c.faults < n → Stays refused (In true c) (In true (faulted n c))

-- the disks in mirrors while pages are read
abbrev pub AllStay : Bool → Ground → Ground → Type 0
AllStay refused g h = (h ≡ record g { row = h.row }) × Pairs (Stays refused) g.row h.row

-- no read was refused; the one disk of a file is as it was
abbrev pub Calmly : Under → Under → Type 0
Calmly (One a) (One b) = b ≡ a
Calmly (One a) (Many h) = ⊥
Calmly (Many g) (One b) = ⊥
Calmly (Many g) (Many h) = AllStay false g h

-- all pages were read: these bytes are, if they are told, the pages, one after another
abbrev pub ReadsAll : Under → Under → List ℕ → Type 0
ReadsAll u v bytes = Calmly u v × IfSome (seen_under u).pages (λ ps. ps ≡ cut (seen_under u).page_size (seen_under u).number bytes)

-- a read was refused: each live disk failed in it, of which this is one, with its count after that
abbrev pub Fails : Under → Under → StoreFault → Type 0
Fails (One a) (One b) fault = (b ≡ record a { disk = counting b.disk.faults a.disk }) × (fault.disk ≡ a.disk.disk) × (a.disk.faults < fault.count) × (fault.count ≤ b.disk.faults)
Fails (One a) (Many h) fault = ⊥
Fails (Many g) (One b) fault = ⊥
Fails (Many g) (Many h) fault = AllStay true g h × Named fault.disk fault.count g.row h.row

-- the shape of the image
abbrev pub shape_under : Under → ImageShape
shape_under (One a) = a.disk.shape
shape_under (Many g) = g.shape
