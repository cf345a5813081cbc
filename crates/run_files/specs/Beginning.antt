-- What the files of a stack begin as, by their pages as they were read before any event.
use Rattle.std.specs.Prelude.{◌≡◌, ℕ, suc, ◌*◌, List, [], ◌∷◌, length, slice_get, take, Some, IfSome}
use Rattle.page_ground.specs.Pages.{cut}
use Rattle.tower_log.specs.declared.logged.Logged.TheVariants.{Noted}
use Rattle.stack_engine.specs.declared.refusal.StepErr.{StepErr}
use Rattle.stack_engine.specs.declared.refusal.StepErr.TheVariants as errors
use Rattle.stack_engine.specs.Engine.{events_in, file_in, log_in}
use Rattle.stack_engine.specs.Tower.{TowerSeen}
use Rattle.spr_volume.specs.Later.{IsLater}
use Rattle.spr_volume.specs.Passes.{IsBack}
use Rattle.file_stores.specs.declared.stop.Stop.{Stop}
use Rattle.file_stores.specs.declared.stop.Stop.TheVariants as stops

-- A FILE WHOSE PAGES WERE READ: it is the same file, nothing was entered or noted, and these are its bytes: if what lies under it tells its pages, so many
-- of them one after another
pub record IsRead (old new : TowerSeen) (bytes : List ℕ) : Type 0 where
  pub later : IsLater old.engine new.engine
  pub log : log_in new.engine ≡ log_in old.engine
  pub sized : length bytes ≡ (file_in old.engine).pages * (file_in old.engine).page_size
  pub told : IfSome old.engine.ground.pages (λ pages. take (file_in old.engine).pages pages ≡ cut (file_in old.engine).page_size (file_in old.engine).pages bytes)

-- each file was read
abbrev pub AreRead : List TowerSeen → List TowerSeen → List (List ℕ) → Type 0
AreRead [] [] [] = Unit {0}
AreRead (t ∷ ts) (u ∷ us) (b ∷ bs) = IsRead t u b × AreRead ts us bs
AreRead ts us bs = ⊥

-- a file of which pages may have been read for this caller: it is the same file, and no event was entered
pub record IsTried (caller : ℕ) (old new : TowerSeen) : Type 0 where
  pub back : IsBack (suc caller) old new
  pub events : events_in new.engine ≡ events_in old.engine

-- each of the files
abbrev pub AreTried : ℕ → List TowerSeen → List TowerSeen → Type 0
AreTried caller [] [] = Unit {0}
AreTried caller (t ∷ ts) (u ∷ us) = IsTried caller t u × AreTried caller ts us
AreTried caller ts us = ⊥

-- why the reading of a file without events was cut short: each live disk failed in a read, of which the note names one, or there was no room for a note
abbrev pub IsCut : ℕ → TowerSeen → StepErr → Type 0
IsCut caller new (errors.StoreFault disk count) = log_in new.engine ≡ Noted (record { caller = caller; disk = disk; count = count }) ∷ []
IsCut caller new errors.Memory = Unit {0}
IsCut caller new errors.TrailFull = ⊥

-- why a file without events was not read: memory ran out, or each live disk failed in a read, of which the note names one
pub data IsUnread (caller : ℕ) (new : TowerSeen) (stop : Stop) : Type 0 where
  no_room : stop ≡ stops.Memory → IsUnread caller new stop
  failed : (disk count : ℕ) → stop ≡ stops.Store (record { file = (file_in new.engine).number; disk = disk }) count
      → log_in new.engine ≡ Noted (record { caller = caller; disk = disk; count = count }) ∷ [] → IsUnread caller new stop

-- why files were not read: one was not
pub record AreUnread (caller : ℕ) (news : List TowerSeen) (stop : Stop) : Type 0 where
  pub at : ℕ
  pub new : TowerSeen
  pub there : slice_get news at ≡ Some new
  pub why : IsUnread caller new stop
