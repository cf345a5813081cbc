use Rattle.std.proofs.Common.{◌≡◌, ℕ, Bool, cond, ◌&&◌, ◌++◌, refl, ap, sym, subst, ◌∙◌, Some, None, Option, Ok, Err, true, false}
use Rattle.marshal_buf.specs.Numbers.{number_bytes}
use Rattle.marshal_buf.specs.Reading.{Takes}
use Rattle.sub_core.specs.declared.shape.Form.{Form}
use Rattle.sub_core.specs.Fields.{fields_at}
use Rattle.sub_core.specs.Forms.{tail_bytes}
use Rattle.client_objects.specs.declared.target.Target.{Target}
use Rattle.client_objects.specs.Kinds.{kind_of, form_of}
use Rattle.client_objects.specs.Stored.{leads, target_of}
use Rattle.client_objects.proofs.ReceivedLaws.{unread_is, received-fields, received-whole}
use Rattle.client_objects.proofs.reading.received_target.Goals as goal

pub returns-in_default-read_fields : goal.returns-in_default-read_fields
returns-in_default-read_fields c =
    let from = c.reader-from.ensures in
    let start = unread_is c.reader-from.result c.args.stored.now.bytes c.args.stored.now.doors from.input from.doors from.at from.next in
    let known : kind_of c.in-Ok.id ≡ Some c.in_ok-kind.kind = sym c.of.ensures ∙ c.in_ok-kind.was in
    let read = c.read_fields.ensures.value ∙ ap (λ (form : Form). fields_at form c.get_u16.new.self) c.form.ensures in
    received-fields c.args.mount.now c.args.stored.now.bytes c.args.stored.now.doors c.reader-from.result c.get_u16.new.self c.in-Ok.id c.in_ok-kind.kind (Err c.in_default-read_fields.field-0)
    start (sym c.in-Ok.is ∙ c.get_u16.ensures.value) c.in-Ok.ensures.place known (sym c.in_default-read_fields.is ∙ read)

pub returns-then-not-ends_there : goal.returns-then-not-ends_there
returns-then-not-ends_there c =
    let from = c.reader-from.ensures in
    let start = unread_is c.reader-from.result c.args.stored.now.bytes c.args.stored.now.doors from.input from.doors from.at from.next in
    let known : kind_of c.in-Ok.id ≡ Some c.in_ok-kind.kind = sym c.of.ensures ∙ c.in_ok-kind.was in
    let kind = c.in_ok-kind.kind in
    let fields = c.in-Ok-read_fields.fields in
    let read : Ok fields ≡ fields_at (form_of kind) c.get_u16.new.self =
    sym c.in-Ok-read_fields.is ∙ c.read_fields.ensures.value ∙ ap (λ (form : Form). fields_at form c.get_u16.new.self) c.form.ensures in
    let taken = subst (λ (form : Form). Takes (number_bytes 4 c.get_u16.new.self.next ++ tail_bytes form fields.tag fields.name) 1 c.get_u16.new.self c.read_fields.new.from) c.form.ensures c.in-Ok-read_fields.ensures.taken in
    let id = sym c.in-Ok.is ∙ c.get_u16.ensures.value in
    let law = received-whole c.args.mount.now c.args.stored.now.bytes c.args.stored.now.doors c.reader-from.result c.get_u16.new.self c.read_fields.new.from c.in-Ok.id kind fields
    c.ends_there.result (leads c.args.mount.now kind fields) start id c.in-Ok.ensures.place known read c.in-Ok.ensures.taken taken c.ends_there.ensures refl in
    ap (λ (b : Bool). cond (b && leads c.args.mount.now kind fields) (Some (target_of kind fields)) None) (sym c.if-not-ends_there.true) ∙ law

pub returns-then-not-leads : goal.returns-then-not-leads
returns-then-not-leads c =
    let from = c.reader-from.ensures in
    let start = unread_is c.reader-from.result c.args.stored.now.bytes c.args.stored.now.doors from.input from.doors from.at from.next in
    let known : kind_of c.in-Ok.id ≡ Some c.in_ok-kind.kind = sym c.of.ensures ∙ c.in_ok-kind.was in
    let kind = c.in_ok-kind.kind in
    let fields = c.in-Ok-read_fields.fields in
    let read : Ok fields ≡ fields_at (form_of kind) c.get_u16.new.self =
    sym c.in-Ok-read_fields.is ∙ c.read_fields.ensures.value ∙ ap (λ (form : Form). fields_at form c.get_u16.new.self) c.form.ensures in
    let taken = subst (λ (form : Form). Takes (number_bytes 4 c.get_u16.new.self.next ++ tail_bytes form fields.tag fields.name) 1 c.get_u16.new.self c.read_fields.new.from) c.form.ensures c.in-Ok-read_fields.ensures.taken in
    let id = sym c.in-Ok.is ∙ c.get_u16.ensures.value in
    let law = received-whole c.args.mount.now c.args.stored.now.bytes c.args.stored.now.doors c.reader-from.result c.get_u16.new.self c.read_fields.new.from c.in-Ok.id kind fields
    c.ends_there.result c.leads.result start id c.in-Ok.ensures.place known read c.in-Ok.ensures.taken taken c.ends_there.ensures c.leads.ensures in
    ap (λ (b : Bool). cond (true && b) (Some (target_of kind fields)) None) (sym c.if-not-leads.true)
    ∙ ap (λ (b : Bool). cond (b && c.leads.result) (Some (target_of kind fields)) None) (sym c.if-not-ends_there.false)
    ∙ law

pub returns : goal.returns
returns c =
    let from = c.reader-from.ensures in
    let start = unread_is c.reader-from.result c.args.stored.now.bytes c.args.stored.now.doors from.input from.doors from.at from.next in
    let known : kind_of c.in-Ok.id ≡ Some c.in_ok-kind.kind = sym c.of.ensures ∙ c.in_ok-kind.was in
    let kind = c.in_ok-kind.kind in
    let fields = c.in-Ok-read_fields.fields in
    let read : Ok fields ≡ fields_at (form_of kind) c.get_u16.new.self =
    sym c.in-Ok-read_fields.is ∙ c.read_fields.ensures.value ∙ ap (λ (form : Form). fields_at form c.get_u16.new.self) c.form.ensures in
    let taken = subst (λ (form : Form). Takes (number_bytes 4 c.get_u16.new.self.next ++ tail_bytes form fields.tag fields.name) 1 c.get_u16.new.self c.read_fields.new.from) c.form.ensures c.in-Ok-read_fields.ensures.taken in
    let id = sym c.in-Ok.is ∙ c.get_u16.ensures.value in
    let law = received-whole c.args.mount.now c.args.stored.now.bytes c.args.stored.now.doors c.reader-from.result c.get_u16.new.self c.read_fields.new.from c.in-Ok.id kind fields
    c.ends_there.result c.leads.result start id c.in-Ok.ensures.place known read c.in-Ok.ensures.taken taken c.ends_there.ensures c.leads.ensures in
    ap Some c.target_of.ensures
    ∙ ap (λ (b : Bool). cond (true && b) (Some (target_of kind fields)) None) (sym c.if-not-leads.false)
    ∙ ap (λ (b : Bool). cond (b && c.leads.result) (Some (target_of kind fields)) None) (sym c.if-not-ends_there.false)
    ∙ law
