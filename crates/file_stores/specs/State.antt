-- What becomes of stores that are taken from the bay and given back.
use Rattle.std.specs.Prelude.{◌≡◌, ℕ, ◌+◌, ◌-◌, ◌^◌, ◌≤◌, List, length, filter, Option, IfSome, IsSome, Bool, true, false, min}
use Rattle.stack_accept.specs.Mount.{Mount}
use Rattle.script_meaning.specs.declared.store.StoreKey.{StoreKey}
use Rattle.spr_io.specs.Content.{Content}
use Rattle.spr_io.specs.Berth.{Berth, BaySeen, Opens, taken, given, lost}
use Rattle.disk_format.specs.Shape.{blocks_of}
use Rattle.file_stores.specs.Keys.{EachAt, image_shape, berth_of, is_lost, SameOthers}

-- what a store holds, if that is told, and its count of faults
pub record StoreState : Type 0 where
  pub content : Option Content
  pub faults : ℕ

-- the store lay in the bay, and was in this state when it was taken
pub record Lay (mount : Mount) (bay : BaySeen) (key : StoreKey) (state : StoreState) : Type 0 where
  pub was_in : (berth_of mount key bay.berths).out ≡ false
  pub opens : Opens mount.page_size (blocks_of (image_shape mount key)) (berth_of mount key bay.berths).holds state.content
  pub count : state.faults ≡ (berth_of mount key bay.berths).faults

-- a store whose berth was so while it was out came back in this state, or the bay refused it and it is lost
abbrev pub BackFrom : Berth → Berth → Bool → StoreState → Type 0
BackFrom out after false state = after ≡ given state.content state.faults out
BackFrom out after true state = after ≡ lost state.faults out

-- A store was taken, with what became of it, and came back, or is lost. Its count of faults never falls, and what is told of
-- its content goes on being told.
pub record Turned (mount : Mount) (before after : BaySeen) (key : StoreKey) (gone : Bool) (Becomes : StoreState → StoreState → Type 0) : Type 0 where
  pub old : StoreState
  pub lay : Lay mount before key old
  pub new : StoreState
  pub becomes : Becomes old new
  pub later : old.faults ≤ new.faults
  pub told : IfSome old.content (λ _. IsSome new.content)
  pub back : BackFrom (taken (berth_of mount key before.berths)) (berth_of mount key after.berths) gone new

-- a count rose by this number, or stands at its type's end
abbrev pub RoseBy : ℕ → ℕ → ℕ → Type 0
RoseBy number before after = min (before + number) (2 ^ 64 - 1) ≤ after

-- These stores were taken, each with what became of it, and came back, but for those that are lost, in the same order. The bay
-- had a fault for each lost one, and no other berth changed.
pub record Returned (mount : Mount) (before after : BaySeen) (keys gone : List StoreKey) (Becomes : ℕ → StoreKey → StoreState → StoreState → Type 0) : Type 0 where
  pub each : EachAt (λ at key. Turned mount before after key (is_lost gone key) (Becomes at key)) keys
  pub some : gone ≡ filter (is_lost gone) keys
  pub paid : RoseBy (length gone) before.faults after.faults
  pub others : SameOthers mount keys before.berths after.berths

-- it came back as it was taken, and had no fault
abbrev pub AsTaken : ℕ → StoreKey → StoreState → StoreState → Type 0
AsTaken at key old new = new ≡ old
