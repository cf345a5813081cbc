-- A disk that was not opened.
use Rattle.std.specs.Prelude.{◌≡◌, ◌≤◌, ℕ, Bool, true, Option, Some, None}
use Rattle.spr_io.specs.Content.{Content}
use Rattle.disk_layer.specs.Disk.{Suits, IsBlank}
use Rattle.disk_format.specs.declared.shape.ImageShape.{ImageShape}
use Rattle.disk_format.specs.declared.why.BadImage.{BadImage}

-- a disk that was not opened: whether it has its store, which is seen as what it holds; why its blocks are no image, if they were found so
-- and no making of it was refused; and whether its block 0 was found to be all zeros
pub record ShutSeen : Type 0 where
  pub disk : ℕ
  pub shape : ImageShape
  pub there : Bool
  pub bad : Option BadImage
  pub blank : Bool
  pub content : Option Content
  pub faults : ℕ
  pub opened : ℕ

-- what a store holds, if there is one and it tells; and its count
abbrev pub content_in : {T : Type 0} → (T → Option Content) → Option T → Option Content
content_in content None = None
content_in content (Some store) = content store

abbrev pub faults_in : {T : Type 0} → (T → ℕ) → Option T → ℕ
faults_in faults None = 0
faults_in faults (Some store) = faults store

-- the store, if there is one, has the shape's blocks
abbrev pub Fits : ImageShape → {T : Type 0} → (T → ℕ) → (T → ℕ) → Option T → Type 0
Fits shape size number None = Unit {0}
Fits shape size number (Some store) = Suits shape (size store) (number store)

-- a disk whose blocks were found to be no image: if it was found blank, block 0 is all zeros, if blocks are told; and the count is the one that
-- the disk was taken with
pub record CanMake (blank : Bool) (opened : ℕ) (content : Option Content) (faults : ℕ) : Type 0 where
  pub zeros : blank ≡ true → IsBlank content
  pub calm : opened ≡ faults

-- such a disk has its store
abbrev pub CanRenew : Option BadImage → Bool → ℕ → {T : Type 0} → (T → Option Content) → (T → ℕ) → Option T → Type 0
CanRenew None blank opened content faults store = Unit {0}
CanRenew (Some bad) blank opened content faults None = ⊥
CanRenew (Some bad) blank opened content faults (Some store) = CanMake blank opened (content store) (faults store)

-- its store, if there is one, has no fewer faults than when it was taken
abbrev pub Since : ℕ → {T : Type 0} → (T → ℕ) → Option T → Type 0
Since opened faults None = Unit {0}
Since opened faults (Some store) = opened ≤ faults store
