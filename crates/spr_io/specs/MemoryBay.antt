-- A bay of stores in memory.
use Rattle.std.specs.Prelude.{ℕ, ◌≡◌, List, [], Option, Some, None, Bool, true, false, not, find, ◌&&◌, ◌||◌}
use Rattle.std.specs.Str.{bytes_eq}
use Rattle.spr_io.specs.Calls.{Calls, is_next_to_fail}
use Rattle.spr_io.specs.Berth.{Berth}
use Rattle.spr_io.specs.Content.{all_kept}
use Rattle.spr_io.specs.Memory.{Mem, new_store, fits_shape}

-- a place for the store of a disk and a file: it is empty while the store is out; and that store's count of faults
-- when it was put, taken, given back or lost last
pub record Slot : Type 0 where
  pub disk : List ℕ
  pub file : List ℕ
  pub store : Option Mem
  pub count : ℕ

-- whether a slot is that of a disk and a file
abbrev pub is_slot : List ℕ → List ℕ → Slot → Bool
is_slot disk file slot = bytes_eq slot.disk disk && bytes_eq slot.file file

-- a bay in memory: its slots, its calls so far, and its count of faults
pub record Bay : Type 0 where
  pub slots : List Slot
  pub takes : Calls
  pub gives : Calls
  pub faults : ℕ

-- the slot of a disk and a file
abbrev pub slot_of : List Slot → List ℕ → List ℕ → Option Slot
slot_of slots disk file = find (is_slot disk file) slots

-- the store that lies in a slot, if there is one
abbrev pub in_slot : Option Slot → Option Mem
in_slot None = None
in_slot (Some slot) = slot.store

-- the store that lies under a disk and a file, if there is one
abbrev pub stored : Bay → List ℕ → List ℕ → Option Mem
stored bay disk file = in_slot (slot_of bay.slots disk file)

-- what a slot tells
abbrev pub slot_berth : Option Slot → Berth
slot_berth None = record { holds = Some None; out = false; faults = 0 }
slot_berth (Some slot) = by_store slot.store where
  by_store : Option Mem → Berth
  by_store None = record { holds = Some None; out = true; faults = slot.count }
  by_store (Some store) = record { holds = Some (Some store.content); out = false; faults = store.count }

-- what the bay tells of a disk and a file
abbrev pub berth_of : Bay → List ℕ → List ℕ → Berth
berth_of bay disk file = slot_berth (slot_of bay.slots disk file)

-- the slot of a disk and a file is this one, and no other slot changes
pub record SetsSlot (disk file : List ℕ) (store : Option Mem) (count : ℕ) (before after : List Slot) : Type 0 where
  pub here : slot_of after disk file ≡ Some (record { disk = disk; file = file; store = store; count = count })
  pub others : (d f : List ℕ) → (d ≡ disk → f ≡ file → ⊥) → slot_of after d f ≡ slot_of before d f

-- whether the store of a slot is out
abbrev pub is_out : Option Slot → Bool
is_out slot = (slot_berth slot).out

-- whether a slot has a store of another shape, or its store is out
abbrev pub refuses_shape : ℕ → ℕ → Option Slot → Bool
refuses_shape size blocks None = false
refuses_shape size blocks (Some slot) = by_store slot.store where
  by_store : Option Mem → Bool
  by_store None = true
  by_store (Some store) = not (fits_shape size blocks store)

-- whether the next take fails: it is to fail, or the store is out or has another shape
abbrev pub take_fails : Bay → List ℕ → List ℕ → ℕ → ℕ → Bool
take_fails bay disk file size blocks = is_next_to_fail bay.takes || refuses_shape size blocks (slot_of bay.slots disk file)

-- whether the next give fails: it is to fail, or no store of this name is out
abbrev pub give_fails : Bay → List ℕ → List ℕ → Bool
give_fails bay disk file = is_next_to_fail bay.gives || not (is_out (slot_of bay.slots disk file))

-- the store that a take gives: the one that lies there, with all that it reads kept, or zeros
abbrev pub taken_store : ℕ → ℕ → Option Mem → Mem
taken_store size blocks None = new_store size blocks [] [] []
taken_store size blocks (Some store) = record store { content = all_kept store.content }
