use Rattle.sub_replicon.proofs.Receipt.{unmarshals}
use Rattle.sub_replicon.proofs.replicon.Replicon.unmarshal.Goals as goal

pub returns-clause-ok : goal.returns-clause-ok
returns-clause-ok c =
    unmarshals
    c.in_ok-_id._id
    c.args.domain.now
    c.new.new.domain
    c.args.from.now
    c.copy-ahead.result
    c.get_u16.new.self
    c.get_doors.new.from
    c.in_ok-doors.doors
    c.in_ok-replicon.replicon
    c.copy-ahead.ensures.same
    c.requires
    c.in_ok-_id.ensures.value
    c.in_ok-_id.ensures.place
    c.in_ok-_id.ensures.taken
    c.in_ok-doors.ensures.value
    c.in_ok-doors.ensures.of
    c.in_ok-doors.ensures.taken
    c.in_ok-doors.ensures.there
    (rw c.as_slice.ensures.value at c.in_ok-replicon.ensures.ok)
