-- A replicon object from what was read of it.
use Rattle.std.proofs.Common.{◌≡◌, ℕ, ◌+◌, List, length, Ok, sym, ap, subst, ◌∙◌, zero-add, arith}
use Rattle.marshal_buf.specs.declared.door.Door.{Door}
use Rattle.marshal_buf.specs.Numbers.{number_bytes}
use Rattle.marshal_buf.specs.Reading.{Reading, number_at, past, Takes}
use Rattle.domain_doors.specs.Doors.{Doors}
use Rattle.sub_core.proofs.Taken.{taken_both}
use Rattle.sub_replicon.specs.declared.TheConstants.{REPLICON}
use Rattle.sub_replicon.specs.Replicas.{Replicas, AreReplicas}
use Rattle.sub_replicon.specs.Forms.{doors_bytes, replicon_bytes}
use Rattle.sub_replicon.specs.Doors.{TakesDoors, replicas_at}
use Rattle.sub_replicon.specs.Calls.{Begins, Unmarshals}
use Rattle.sub_replicon.proofs.DoorLaws.{takes_behind}

-- an identifier, and then what stands behind it
behind_id : (n : ℕ) (old mid new : Reading) → mid ≡ past 2 0 old → Takes (number_bytes 2 REPLICON) 0 old mid → Takes (doors_bytes mid.next n) n mid new → Takes (replicon_bytes old.next n) n old new
behind_id n old mid new place first second =
    let both = taken_both (number_bytes 2 REPLICON) (doors_bytes mid.next n) 0 n old mid new first second in
    let none : old.next + 0 ≡ old.next = omega arith in
    let index : mid.next ≡ old.next = ap (λ (r : Reading). r.next) place ∙ none in
    let bytes : Takes (replicon_bytes old.next n) (0 + n) old new = subst (λ (k : ℕ). Takes (replicon_bytes k n) (0 + n) old new) index both in
    subst (λ (k : ℕ). Takes (replicon_bytes old.next n) k old new) (zero-add n) bytes

-- the object of the doors behind an identifier, which came into the domain
pub unmarshals : (id : ℕ) (old_domain new_domain : Doors) (old start mid new : Reading) (doors : List Door) (object : Replicas) → start ≡ old → number_at 2 old ≡ Ok REPLICON → Ok id ≡ number_at 2 start → mid ≡ past 2 0 start → Takes (number_bytes 2 id) 0 start mid → replicas_at mid ≡ Ok doors → AreReplicas doors → Takes (doors_bytes mid.next (length doors)) (length doors) mid new → TakesDoors doors mid new → Begins doors old_domain new_domain object → Unmarshals old_domain new_domain old new object
unmarshals id old_domain new_domain old start mid new doors object same next read place first value are second takes begins =
    let which : id ≡ REPLICON = cc (read, ap (number_at 2) same, next) in
    let behind : mid ≡ past 2 0 old = place ∙ ap (past 2 0) same in
    let head = rw (same, which) at first in
    record {
      doors = doors;
      read = ap replicas_at (sym behind) ∙ value;
      of = are;
      begins = begins;
      taken = behind_id (length doors) old mid new behind head second;
      there = takes_behind 2 old mid new doors behind takes;
    }
