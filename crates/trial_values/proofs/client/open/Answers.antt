use Rattle.std.proofs.Common.{List, Some, sym, subst}
use Rattle.std.specs.List.{AllByRecursion}
use Rattle.name_context.specs.Names.{kept_object}
use Rattle.client_objects.specs.Objects.{OpenObject, IsOnStack}
use Rattle.client_objects.specs.Stored.{received_word}
use Rattle.client_objects.proofs.ReceivedLaws.{on_stack-opened}
use Rattle.trial_values.proofs.client.open.Goals as goal

pub returns : goal.returns
returns c =
    let got = c.in_ok-found.ensures in
    let now = c.set_life.ensures.last c.args.objects.now c.in_ok-clone.field-0 (received_word (Some (kept_object c.args.stored.now))) c.in_ok-found.found.target got.opened in
    subst (λ (os : List OpenObject). AllByRecursion (IsOnStack c.args.mounted.now) os) (sym now)
    (on_stack-opened c.args.mounted.now c.args.objects.now (Some (kept_object c.args.stored.now)) c.in_ok-found.found.target c.in_ok-clone.field-0 (received_word (Some (kept_object c.args.stored.now))) 7 c.requires.stack got.read)
