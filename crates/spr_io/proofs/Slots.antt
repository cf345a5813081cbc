-- The slot of a disk and a file, before and after it is set.
use Rattle.std.proofs.Common.{◌≡◌, ℕ, List, [], ◌∷◌, ◌++◌, length, get_or, position, Bool, true, false, not, ◌&&◌, Option, Some, None, IfSome, refl, sym, ap, set, ◌∙◌}
use Rattle.std.specs.Option.{is_none}
use Rattle.std.proofs.lemmas.List.{set-get_or}
use Rattle.spr_io.specs.Memory.{Mem, fits_shape}
use Rattle.spr_io.specs.Content.{all_kept}
use Rattle.spr_io.specs.MemoryBay.{Slot, is_slot, slot_of, in_slot, is_out, refuses_shape, taken_store, SetsSlot}
use Rattle.spr_io.proofs.Found.{finds_none}
use Rattle.spr_io.proofs.Keyed.{key_at, key_passes, names_of, key_sets, key_adds, key_place_added}

-- the slot that stands at the first place of its name
pub slot_at : (disk file : List ℕ) (slots : List Slot) (i : ℕ) (slot : Slot) → position (is_slot disk file) slots ≡ Some i → slot ≡ get_or slots i slot → slot_of slots disk file ≡ Some slot
slot_at disk file slots i slot e is = key_at (is_slot disk file) slots i slot e is

pub none_at : (disk file : List ℕ) (slots : List Slot) → position (is_slot disk file) slots ≡ None → slot_of slots disk file ≡ None
none_at disk file slots e = finds_none (is_slot disk file) slots e

-- a slot that is set
pub sets : (disk file : List ℕ) (slots : List Slot) (i : ℕ) (slot : Slot) (store : Option Mem) (count : ℕ) → position (is_slot disk file) slots ≡ Some i → slot ≡ get_or slots i slot
    → SetsSlot disk file store count slots (set slots i (record slot { store = store; count = count }))
sets disk file slots i slot store count e is =
    let k = key_sets (λ (s : Slot). s.disk) (λ (s : Slot). s.file) disk file slots i slot (record slot { store = store; count = count }) e is refl refl in
    let names = names_of (λ (s : Slot). s.disk) (λ (s : Slot). s.file) disk file slot (key_passes (is_slot disk file) slots i slot e is) in
    record { here = k.here ∙ rw (names.0, names.1) refl; others = k.others }

-- a slot that is added
pub adds : (disk file : List ℕ) (slots : List Slot) (store : Option Mem) (count : ℕ) → position (is_slot disk file) slots ≡ None
    → SetsSlot disk file store count slots (slots ++ record { disk = disk; file = file; store = store; count = count } ∷ [])
adds disk file slots store count e =
    let k = key_adds (λ (s : Slot). s.disk) (λ (s : Slot). s.file) disk file slots (record { disk = disk; file = file; store = store; count = count }) e refl refl in
    record { here = k.here; others = k.others }

pub place_of_added : (disk file : List ℕ) (slots : List Slot) (store : Option Mem) (count : ℕ) → position (is_slot disk file) slots ≡ None
    → position (is_slot disk file) (slots ++ record { disk = disk; file = file; store = store; count = count } ∷ []) ≡ Some (length slots)
place_of_added disk file slots store count e = key_place_added (λ (s : Slot). s.disk) (λ (s : Slot). s.file) disk file slots (record { disk = disk; file = file; store = store; count = count }) e refl refl

-- one slot set after another of the same name
pub sets_again : (disk file : List ℕ) (s1 s2 : Option Mem) (c1 c2 : ℕ) (before between after : List Slot) → SetsSlot disk file s1 c1 before between → SetsSlot disk file s2 c2 between after → SetsSlot disk file s2 c2 before after
sets_again disk file s1 s2 c1 c2 before between after h k = record { here = k.here; others = λ d f differs. k.others d f differs ∙ h.others d f differs }

-- the store of a slot is out where it is empty
out_of : (disk file : List ℕ) (store : Option Mem) (count : ℕ) → is_out (Some (record { disk = disk; file = file; store = store; count = count })) ≡ is_none store
out_of disk file None count = refl
out_of disk file (Some store) count = refl

pub out_is_none : (slot : Slot) → is_out (Some slot) ≡ is_none slot.store
out_is_none slot = out_of slot.disk slot.file slot.store slot.count

-- whether a store of a slot is out, and what an answer to that says
pub gives_out : (slot : Option Slot) (s : Slot) (refused answer : Bool) → slot ≡ Some s → answer ≡ (is_none s.store && not refused) → answer ≡ (is_out slot && not refused)
gives_out slot s refused answer is e = e ∙ ap (λ (b : Bool). b && not refused) (sym (ap is_out is ∙ out_is_none s))

no_store : (store : Option Mem) → is_none store ≡ true → store ≡ None
no_store None h = refl
no_store (Some s) h = absurd cc

pub is_empty : (slot : Option Slot) (s : Slot) → slot ≡ Some s → is_out slot ≡ true → s.store ≡ None
is_empty slot s is out = no_store s.store (sym (ap is_out is ∙ out_is_none s) ∙ out)

-- a slot that is not changed
pub same_slots : (slots : List Slot) (i : ℕ) (slot new : Slot) → slot ≡ get_or slots i slot → new ≡ slot → set slots i new ≡ slots
same_slots slots i slot new is same = rw same (ap (λ (s : Slot). set slots i s) is ∙ set-get_or slots i slot)

filled : (store : Option Mem) (P : Type 0) → is_none store ≡ false → IfSome store (λ _. P) → P
filled None P h p = absurd cc
filled (Some s) P h p = p

pub is_filled : (slot : Option Slot) (s : Slot) (P : Type 0) → slot ≡ Some s → is_out slot ≡ false → IfSome s.store (λ _. P) → P
is_filled slot s P is out p = filled s.store P (sym (ap is_out is ∙ out_is_none s) ∙ out) p

-- what a slot refuses, and what lies there
pub refuses_of : (slot : Option Slot) (s : Slot) (store : Mem) (size blocks : ℕ) → slot ≡ Some s → s.store ≡ Some store → refuses_shape size blocks slot ≡ not (fits_shape size blocks store)
refuses_of slot s store size blocks is has = rw is (with_store s.disk s.file s.store s.count has) where
  with_store : (disk file : List ℕ) (o : Option Mem) (count : ℕ) → o ≡ Some store → refuses_shape size blocks (Some (record { disk = disk; file = file; store = o; count = count })) ≡ not (fits_shape size blocks store)
  with_store disk file o count e = rw e refl

pub lies_there : (slot : Option Slot) (s : Slot) (store : Mem) (size blocks : ℕ) → slot ≡ Some s → s.store ≡ Some store → taken_store size blocks (in_slot slot) ≡ record store { content = all_kept store.content }
lies_there slot s store size blocks is has = rw (is, has) refl
