use Rattle.std.proofs.Common.{ℕ, List, length, None, Some, refl, sym, ap, subst, ◌∙◌}
use Rattle.script_text.specs.declared.script.Reply.TheVariants as replies
use Rattle.name_context.specs.declared.entry.NameCall.TheVariants as names_calls
use Rattle.name_context.specs.Listed.{listed}
use Rattle.script_meaning.specs.Plan.{asking_names, ends, refused_as}
use Rattle.spr_client.specs.Names.{IsAt}
use Rattle.spr_client.proofs.LineLaws.{done-lacks, names-end, names-refused}
use Rattle.spr_client.proofs.NamesLaws.{refused_at_part}
use Rattle.spr_client.proofs.names.list_path.Goals as goal

pub returns-in_default : goal.returns-in_default
returns-in_default g c = done-lacks c.args.common.now.mount.now c.args.client.now.caller c.args.client.now.state _ c.args.pass.now

pub refused_names-requires : goal.refused_names-requires
refused_names-requires g c =
    subst (λ (ps : List (List ℕ)). IsAt (length ps) c.in-Err.err) (sym c.in-Ok.ensures)
    (refused_at_part c.args.common.now.volume.now c.args.client.now.caller names_calls.List c.args.path.now None None _ c.args.pass.now c.list.new.pass c.in-Err.err (refl, c.in-Err.ensures.called))

pub returns-in-Ok-list : goal.returns-in-Ok-list
returns-in-Ok-list g c =
    let state = c.args.client.now.state in
    names-end c.args.common.now.mount.now c.args.common.now.volume.now c.args.client.now.caller state _ (asking_names names_calls.List (Some c.args.path.now)) (λ names. ends (replies.Names (listed names (Some c.args.path.now))) state) None _ c.args.pass.now c.list.new.pass _ c.requires.may refl
    (refl, c.in-Ok-list.ensures.called) (λ names tells. ap (λ (ns : List (List ℕ)). ends (replies.Names ns) state) (sym (c.from_vec.ensures ∙ tells)))

pub returns-in-Err : goal.returns-in-Err
returns-in-Err g c =
    let state = c.args.client.now.state in
    names-refused c.args.common.now.mount.now c.args.common.now.volume.now c.args.client.now.caller state _ (asking_names names_calls.List (Some c.args.path.now)) (λ names. ends (replies.Names (listed names (Some c.args.path.now))) state) None _ c.args.pass.now c.list.new.pass c.in-Err.err _ c.requires.may refl
    (refl, c.in-Err.ensures.called) (c.refused_names.ensures ∙ ap (λ (ps : List (List ℕ)). refused_as (Some ps) c.in-Err.err) c.in-Ok.ensures)
