-- What the command that looks at the disks did.
use Rattle.std.proofs.Common.{◌≡◌, ⊎_elim, ℕ, List, [], ◌∷◌, length, take, refl, sym, ◌∙◌}
use Rattle.stack_accept.specs.Mount.{Mount}
use Rattle.spr_io.specs.Berth.{BaySeen}
use Rattle.spr_io.specs.Texts.{SinkSeen}
use Rattle.spr_report.specs.declared.status.Status.{Status}
use Rattle.spr_report.specs.declared.status.Status.TheVariants as statuses
use Rattle.spr_report.specs.Writing.{Finishes}
use Rattle.file_stores.specs.declared.stop.Stop.TheVariants as stops
use Rattle.file_stores.specs.Keys.{stores_of}
use Rattle.file_stores.specs.Stop.{stop_text}
use Rattle.file_stores.specs.Written.{Written}
use Rattle.image_looks.specs.declared.found.Look.{Look}
use Rattle.image_looks.specs.Found.{AreLooks, stores_at}
use Rattle.image_looks.specs.Disks.{disk_lines, looks_status, lost_at, SaysDisks, told, untold, TellsLooks}
use Rattle.image_looks.proofs.LookLaws.{looks-none}

whole : {A : Type 0} (xs : List A) → take (length xs) xs ≡ xs
whole [] = refl
whole (x ∷ xs) = λ i. x ∷ whole xs i

-- what was found was told, or memory ran out
pub tells-of : (mount : Mount) (before after : BaySeen) (looks : List Look) (old new : SinkSeen) (result : Status) → AreLooks mount before after looks → stores_at looks ≡ stores_of mount → TellsLooks mount looks old new result
    → Written (SaysDisks mount before after) old new result
tells-of mount before after looks old new result are stores tells =
    ⊎_elim
    (λ done. record { text = disk_lines mount looks; status = looks_status looks; says = told looks are stores done.0 refl refl; ends = done.1 })
    (λ lacked. record {
      text = stop_text mount stops.Memory (lost_at looks);
      status = statuses.Memory;
      says = untold looks (length (stores_of mount)) are (stores ∙ sym (whole (stores_of mount))) refl refl;
      ends = lacked;
    })
    tells

-- memory ran out before any look
pub tells-none : (mount : Mount) (bay : BaySeen) (old new : SinkSeen) (result : Status) → Finishes old new (stop_text mount stops.Memory []) statuses.Memory result → Written (SaysDisks mount bay bay) old new result
tells-none mount bay old new result ends = record {
  text = stop_text mount stops.Memory [];
  status = statuses.Memory;
  says = untold [] 0 (looks-none mount bay) refl refl refl;
  ends = ends;
}
