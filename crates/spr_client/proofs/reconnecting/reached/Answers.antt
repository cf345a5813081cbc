use Rattle.std.proofs.Common.{Some}
use Rattle.name_context.specs.Names.{kept_object}
use Rattle.spr_client.proofs.DoorLaws.{received-if}
use Rattle.spr_client.proofs.reconnecting.reached.Goals as goal

pub returns-in_default-clause-leads : goal.returns-in_default-clause-leads
returns-in_default-clause-leads c = received-if c.args.mount.now (Some (kept_object c.args.stored.now)) c.received_target.result c.received_target.ensures
