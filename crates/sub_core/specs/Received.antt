-- What it is to receive an object.
use Rattle.std.specs.Prelude.{◌≡◌, ℕ, Bool, true, Some, None, Result, Ok, Err, IsOk}
use Rattle.marshal_buf.specs.Reading.{Reading, number_at, Takes}
use Rattle.domain_doors.specs.Doors.{Doors, door_at, Updates}
use Rattle.sub_core.specs.declared.shape.Form.{Form}
use Rattle.sub_core.specs.declared.values.Object.{Object}
use Rattle.sub_core.specs.declared.why.ObjectErr.{ObjectErr}
use Rattle.sub_core.specs.declared.why.ObjectErr.TheVariants as whys
use Rattle.sub_core.specs.declared.why.AnyErr.{AnyErr}
use Rattle.sub_core.specs.declared.why.AnyErr.TheVariants as any_whys
use Rattle.sub_core.specs.Forms.{object_bytes, IsOf}
use Rattle.sub_core.specs.Fields.{Fields, fields_behind}

-- an object of the subcontract and the form was read, behind which the reading goes on; its door is in the domain
-- under an identifier that was in no use
pub record Unmarshals (id : ℕ) (form : Form) (old_domain new_domain : Doors) (old new : Reading) (object : Object) : Type 0 where
  pub fields : Fields
  pub read : fields_behind form old ≡ Ok fields
  pub sub : object.sub ≡ id
  pub tag : object.tag ≡ fields.tag
  pub name : object.name ≡ fields.name
  pub of : IsOf form object
  pub life : object.life ≡ 0
  pub vacant : door_at old_domain object.door ≡ None
  pub enters : Updates old_domain new_domain object.door (Some fields.door)
  pub taken : Takes (object_bytes id form old.next object.tag object.name) 1 old new

-- the fields cannot be read, or memory ran out for an object whose fields can
abbrev pub Refuses : Result Fields ℕ → ObjectErr → Type 0
Refuses fields (whys.NoDoor id) = ⊥
Refuses fields (whys.BadObject at) = fields ≡ Err at
Refuses fields whys.Memory = IsOk fields

-- an object was read of the subcontract and the form that its identifier says, which is known
pub record UnmarshalsAny (has : ℕ → Bool) (form : ℕ → Form) (old_domain new_domain : Doors) (old new : Reading) (object : Object) : Type 0 where
  pub id : number_at 2 old ≡ Ok object.sub
  pub known : has object.sub ≡ true
  pub reads : Unmarshals object.sub (form object.sub) old_domain new_domain old new object

-- the fields of no known object can be read, or memory ran out for an object whose fields can
abbrev pub RefusesAny : Result Fields AnyErr → AnyErr → Type 0
RefusesAny fields (any_whys.BadObject at) = fields ≡ Err (any_whys.BadObject at)
RefusesAny fields (any_whys.UnknownSubcontract id) = fields ≡ Err (any_whys.UnknownSubcontract id)
RefusesAny fields any_whys.Memory = IsOk fields
