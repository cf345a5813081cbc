use Rattle.std.proofs.Common.{ℕ, List, length, Some, refl, sym, ap, subst, ◌∙◌}
use Rattle.script_text.specs.declared.script.Reply.TheVariants as replies
use Rattle.name_context.specs.declared.entry.NameCall.TheVariants as names_calls
use Rattle.client_replicas.specs.Received.{stored_replicon}
use Rattle.script_meaning.specs.Plan.{binding_doors, ends, refused_as}
use Rattle.spr_client.specs.Names.{IsAt}
use Rattle.spr_client.proofs.BoundLaws.{has_parts}
use Rattle.spr_client.proofs.LineLaws.{done-lacks, names-end, names-refused}
use Rattle.spr_client.proofs.NamesLaws.{refused_at_part}
use Rattle.spr_client.proofs.replicas.bind_doors.Goals as goal

pub returns-in_default : goal.returns-in_default
returns-in_default g c = done-lacks c.args.common.now.mount.now c.args.client.now.caller c.args.client.now.state _ c.args.pass.now

pub returns-in_default-stored_replicon : goal.returns-in_default-stored_replicon
returns-in_default-stored_replicon g c = done-lacks c.args.common.now.mount.now c.args.client.now.caller c.args.client.now.state _ c.args.pass.now

pub bind-requires-clause-path : goal.bind-requires-clause-path
bind-requires-clause-path g c κs within = has_parts c.args.path.now c.requires.path

pub refused_names-requires : goal.refused_names-requires
refused_names-requires g c =
    subst (λ (ps : List (List ℕ)). IsAt (length ps) c.in-Err.err) (sym c.in-Ok.ensures)
    (refused_at_part c.args.common.now.volume.now c.args.client.now.caller names_calls.Bind c.args.path.now (Some (stored_replicon c.args.doors.now)) (Some c.in-Ok-stored_replicon.object) _ c.args.pass.now c.bind.new.pass c.in-Err.err (ap Some c.in-Ok-stored_replicon.ensures, c.in-Err.ensures.called))

pub returns-in-Ok-bind : goal.returns-in-Ok-bind
returns-in-Ok-bind g c =
    let state = c.args.client.now.state in
    names-end c.args.common.now.mount.now c.args.common.now.volume.now c.args.client.now.caller state _ (binding_doors c.args.path.now c.args.doors.now) (λ names. ends replies.Done state) (Some c.in-Ok-stored_replicon.object) _ c.args.pass.now c.bind.new.pass _ c.requires.may refl
    (ap Some c.in-Ok-stored_replicon.ensures, c.in-Ok-bind.ensures.called) (λ names tells. refl)

pub returns-in-Err : goal.returns-in-Err
returns-in-Err g c =
    let state = c.args.client.now.state in
    names-refused c.args.common.now.mount.now c.args.common.now.volume.now c.args.client.now.caller state _ (binding_doors c.args.path.now c.args.doors.now) (λ names. ends replies.Done state) (Some c.in-Ok-stored_replicon.object) _ c.args.pass.now c.bind.new.pass c.in-Err.err _ c.requires.may refl
    (ap Some c.in-Ok-stored_replicon.ensures, c.in-Err.ensures.called) (c.refused_names.ensures ∙ ap (λ (ps : List (List ℕ)). refused_as (Some ps) c.in-Err.err) c.in-Ok.ensures)
