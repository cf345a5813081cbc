-- Bytes that are taken one after the other.
use Rattle.std.proofs.Common.{◌≡◌, ℕ, ◌+◌, List, ◌++◌, length, Result, Ok, Err, sym, ap, ◌∙◌, add_assoc, add-zero, append_assoc, length-append}
use Rattle.marshal_buf.specs.declared.door.Door.{Door}
use Rattle.marshal_buf.specs.declared.why.BadDoor.{BadDoor}
use Rattle.marshal_buf.specs.Numbers.{number_bytes}
use Rattle.marshal_buf.specs.Reading.{Reading, rest_of, door_at, past, Takes}
use Rattle.sub_core.specs.declared.shape.Form.{Form}
use Rattle.sub_core.specs.Forms.{tail_bytes, object_bytes}
use Rattle.sub_core.specs.Fields.{tail_at, door_and, fields_from, fields_at}

pub past_past : (a d b e : ℕ) (r : Reading) → past b e (past a d r) ≡ past (a + b) (d + e) r
past_past a d b e r =
    ap (λ (n : ℕ). record r { at = n; next = (r.next + d) + e }) (add_assoc r.at a b)
    ∙ ap (λ (n : ℕ). record r { at = r.at + (a + b); next = n }) (add_assoc r.next d e)

pub taken_both : (a b : List ℕ) (m n : ℕ) (old mid new : Reading) → Takes a m old mid → Takes b n mid new → Takes (a ++ b) (m + n) old new
taken_both a b m n old mid new first second =
    record {
      taken = first.taken ∙ ap (λ (xs : List ℕ). a ++ xs) second.taken ∙ sym (append_assoc a b (rest_of new));
      place =
          second.place
          ∙ ap (λ (r : Reading). past (length b) n r) first.place
          ∙ past_past (length a) m (length b) n old
          ∙ ap (λ (k : ℕ). past k (m + n) old) (sym (length-append a b));
    }

-- an identifier, and then what stands behind it
pub object_taken : (id : ℕ) (form : Form) (tag : ℕ) (name : List ℕ) (old mid new : Reading) → mid ≡ past 2 0 old → Takes (number_bytes 2 id) 0 old mid → Takes (number_bytes 4 mid.next ++ tail_bytes form tag name) 1 mid new → Takes (object_bytes id form old.next tag name) 1 old new
object_taken id form tag name old mid new place first second =
    let joined = taken_both (number_bytes 2 id) (number_bytes 4 mid.next ++ tail_bytes form tag name) 0 1 old mid new first second in
    let index : mid.next ≡ old.next = ap (λ (r : Reading). r.next) place ∙ add-zero old.next in
    let same : number_bytes 2 id ++ (number_bytes 4 mid.next ++ tail_bytes form tag name) ≡ object_bytes id form old.next tag name =
    sym (append_assoc (number_bytes 2 id) (number_bytes 4 mid.next) (tail_bytes form tag name)) ∙ ap (λ (k : ℕ). object_bytes id form k tag name) index in
    rw same at joined

-- the fields, where the door was read
pub fields_at_door : (form : Form) (old mid : Reading) (door : Door) → Ok door ≡ door_at old → mid ≡ past 4 1 old → fields_at form old ≡ door_and door (tail_at form mid)
fields_at_door form old mid door read place =
    ap (λ (r : Result Door BadDoor). fields_from form (past 4 1 old) r) (sym read)
    ∙ ap (λ (r : Reading). door_and door (tail_at form r)) (sym place)

-- and where it cannot be
pub fields_at_bad_door : (form : Form) (old : Reading) (bad : BadDoor) → Err bad ≡ door_at old → fields_at form old ≡ Err bad.at
fields_at_bad_door form old bad read = ap (λ (r : Result Door BadDoor). fields_from form (past 4 1 old) r) (sym read)
