use Rattle.sub_core.proofs.Receipt.{unmarshals}
use Rattle.sub_core.proofs.received.unmarshal_as.Goals as goal

pub returns-clause-ok : goal.returns-clause-ok
returns-clause-ok c =
    let id = c.in_ok-_id in
    let fields = c.in_ok-fields in
    let object = c.in_ok-object in
    unmarshals
    c.args.id
    id._id
    c.args.form
    c.args.domain.now
    c.hold.new.domain
    c.args.from.now
    c.copy-ahead.result
    c.get_u16.new.self
    c.get_fields.new.from
    fields.fields
    object.object
    c.copy-ahead.ensures.same
    c.requires
    id.ensures.value
    id.ensures.place
    id.ensures.taken
    fields.ensures.value
    fields.ensures.tag
    fields.ensures.name
    fields.ensures.taken
    object.ensures.object
    object.ensures.vacant
    object.ensures.enters
