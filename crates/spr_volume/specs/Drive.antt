-- A caller's tries of one access, one after another, while nobody else steps.
use Rattle.std.specs.Prelude.{ℕ, suc}
use Rattle.hist_plain.specs.declared.event.Event.{Event}
use Rattle.hist_plain.specs.declared.event.Op.{Op}
use Rattle.stack_engine.specs.Tower.{Steps, TowerSeen}

-- so many tries of the access, each of which sent a message for it: nobody else stepped between two of them, and none was refused or waited
pub data Drives (caller node life : ℕ) (op : Op) : ℕ → TowerSeen → TowerSeen → Type 0 where
  drives_none : {t : TowerSeen} → Drives caller node life op 0 t t
  drives_one : {n : ℕ} {t u v : TowerSeen} {event : Event} → Steps caller node life op t u event → Drives caller node life op n u v → Drives caller node life op (suc n) t v
