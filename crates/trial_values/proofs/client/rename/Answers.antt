use Rattle.std.proofs.Common.{List, sym, subst}
use Rattle.std.specs.List.{AllByRecursion}
use Rattle.client_objects.specs.Objects.{OpenObject, IsOnStack}
use Rattle.client_objects.proofs.OpenLaws.{on_stack-copy, on_stack-without}
use Rattle.trial_values.proofs.client.rename.Goals as goal

pub returns : goal.returns
returns c =
    let both = on_stack-copy c.args.mounted.now c.args.objects.now c.copy.new.self c.args.name.now c.in_ok-clone.field-0 c.requires.held c.requires.stack c.in_ok-copy.ensures.ok in
    subst (λ (os : List OpenObject). AllByRecursion (IsOnStack c.args.mounted.now) os) (sym c.remove.ensures) (on_stack-without c.args.mounted.now c.copy.new.self c.args.name.now both)
