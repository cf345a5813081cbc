-- An object from what was read of it.
use Rattle.std.proofs.Common.{◌≡◌, ℕ, ◌++◌, Some, None, Ok, sym, ap, ◌∙◌}
use Rattle.marshal_buf.specs.Numbers.{number_bytes}
use Rattle.marshal_buf.specs.Reading.{Reading, number_at, past, Takes}
use Rattle.domain_doors.specs.Doors.{Doors, door_at, Updates}
use Rattle.sub_core.specs.declared.shape.Form.{Form}
use Rattle.sub_core.specs.declared.values.Object.{Object}
use Rattle.sub_core.specs.Forms.{tail_bytes, IsTagOf, IsNameOf}
use Rattle.sub_core.specs.Fields.{Fields, fields_at}
use Rattle.sub_core.specs.Received.{Unmarshals}
use Rattle.sub_core.proofs.Taken.{object_taken}

-- the object of an identifier and of the fields behind it, whose door came into the domain
pub unmarshals : (id read_id : ℕ) (form : Form) (old_domain new_domain : Doors) (old start mid new : Reading) (fields : Fields) (object : Object) → start ≡ old → number_at 2 old ≡ Ok id → Ok read_id ≡ number_at 2 start → mid ≡ past 2 0 start → Takes (number_bytes 2 read_id) 0 start mid → fields_at form mid ≡ Ok fields → IsTagOf form fields.tag → IsNameOf form fields.name → Takes (number_bytes 4 mid.next ++ tail_bytes form fields.tag fields.name) 1 mid new → object ≡ record { sub = id; door = object.door; tag = fields.tag; name = fields.name; life = 0 } → door_at old_domain object.door ≡ None → Updates old_domain new_domain object.door (Some fields.door) → Unmarshals id form old_domain new_domain old new object
unmarshals id read_id form old_domain new_domain old start mid new fields object same next read place first value is named second made vacant enters =
    let which : read_id ≡ id = cc (read, ap (number_at 2) same, next) in
    let behind : mid ≡ past 2 0 old = place ∙ ap (past 2 0) same in
    let tag : object.tag ≡ fields.tag = ap (λ (o : Object). o.tag) made in
    let name : object.name ≡ fields.name = ap (λ (o : Object). o.name) made in
    let head = rw (same, which) at first in
    let taken = object_taken id form fields.tag fields.name old mid new behind head second in
    record {
      fields = fields;
      read = ap (fields_at form) (sym behind) ∙ value;
      sub = ap (λ (o : Object). o.sub) made;
      tag = tag;
      name = name;
      of = record { tag = rw tag is; name = rw name named };
      life = ap (λ (o : Object). o.life) made;
      vacant = vacant;
      enters = enters;
      taken = rw (tag, name) taken;
    }
