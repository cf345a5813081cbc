use Rattle.sub_replicon.proofs.DomainLaws.{none_lacking}
use Rattle.sub_replicon.proofs.sent.send.Goals as goal

pub unreachable-requires : goal.unreachable-requires
unreachable-requires c = none_lacking c.args.domain.now c.args.doors.now c.in-Err.field-0 c.in_ok-held.ensures.held c.in-Err.ensures.why.first
