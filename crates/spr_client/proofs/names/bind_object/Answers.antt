use Rattle.std.proofs.Common.{ℕ, List, length, Some, refl, sym, ap, subst, ◌∙◌}
use Rattle.script_text.specs.declared.script.Reply.TheVariants as replies
use Rattle.text_words.specs.Words.{path_word}
use Rattle.name_context.specs.declared.entry.NameCall.TheVariants as names_calls
use Rattle.client_objects.specs.Stored.{bound_object}
use Rattle.script_meaning.specs.Plan.{binding, ends, refused_as}
use Rattle.spr_client.specs.Names.{IsAt}
use Rattle.client_objects.specs.Laws.{MayKeep}
use Rattle.spr_client.proofs.BoundLaws.{has_parts, may_keep}
use Rattle.spr_client.proofs.LineLaws.{done-lacks, names-end, names-refused}
use Rattle.spr_client.proofs.NamesLaws.{refused_at_part}
use Rattle.spr_client.proofs.names.bind_object.Goals as goal

pub returns-in_default : goal.returns-in_default
returns-in_default g c = done-lacks c.args.common.now.mount.now c.args.client.now.caller c.args.client.now.state _ c.args.pass.now

pub returns-in_default-bound_object : goal.returns-in_default-bound_object
returns-in_default-bound_object g c = done-lacks c.args.common.now.mount.now c.args.client.now.caller c.args.client.now.state _ c.args.pass.now

pub returns-in_default-word_of : goal.returns-in_default-word_of
returns-in_default-word_of g c = done-lacks c.args.common.now.mount.now c.args.client.now.caller c.args.client.now.state _ c.args.pass.now

pub bound_object-requires : goal.bound_object-requires
bound_object-requires g c = subst (MayKeep c.args.kind) (sym (c.as_str.ensures ∙ c.in-Ok-word_of.ensures)) (may_keep c.args.kind c.args.path.now c.requires.path)

pub bind-requires-clause-path : goal.bind-requires-clause-path
bind-requires-clause-path g c κs within = has_parts c.args.path.now c.requires.path

pub refused_names-requires : goal.refused_names-requires
refused_names-requires g c =
    let bound = c.in-Ok-bound_object.ensures ∙ ap (λ (w : List ℕ). bound_object c.args.kind w c.args.node c.args.file) (c.as_str.ensures ∙ c.in-Ok-word_of.ensures) in
    subst (λ (ps : List (List ℕ)). IsAt (length ps) c.in-Err.err) (sym c.in-Ok.ensures)
    (refused_at_part c.args.common.now.volume.now c.args.client.now.caller names_calls.Bind c.args.path.now (Some (bound_object c.args.kind (path_word c.args.path.now) c.args.node c.args.file)) (Some c.in-Ok-bound_object.object) _ c.args.pass.now c.bind.new.pass c.in-Err.err (ap Some bound, c.in-Err.ensures.called))

pub returns-in-Ok-bind : goal.returns-in-Ok-bind
returns-in-Ok-bind g c =
    let state = c.args.client.now.state in
    let bound = c.in-Ok-bound_object.ensures ∙ ap (λ (w : List ℕ). bound_object c.args.kind w c.args.node c.args.file) (c.as_str.ensures ∙ c.in-Ok-word_of.ensures) in
    names-end c.args.common.now.mount.now c.args.common.now.volume.now c.args.client.now.caller state _ (binding c.args.path.now c.args.kind c.args.node c.args.file) (λ names. ends replies.Done state) (Some c.in-Ok-bound_object.object) _ c.args.pass.now c.bind.new.pass _ c.requires.may refl
    (ap Some bound, c.in-Ok-bind.ensures.called) (λ names tells. refl)

pub returns-in-Err : goal.returns-in-Err
returns-in-Err g c =
    let state = c.args.client.now.state in
    let bound = c.in-Ok-bound_object.ensures ∙ ap (λ (w : List ℕ). bound_object c.args.kind w c.args.node c.args.file) (c.as_str.ensures ∙ c.in-Ok-word_of.ensures) in
    names-refused c.args.common.now.mount.now c.args.common.now.volume.now c.args.client.now.caller state _ (binding c.args.path.now c.args.kind c.args.node c.args.file) (λ names. ends replies.Done state) (Some c.in-Ok-bound_object.object) _ c.args.pass.now c.bind.new.pass c.in-Err.err _ c.requires.may refl
    (ap Some bound, c.in-Err.ensures.called) (c.refused_names.ensures ∙ ap (λ (ps : List (List ℕ)). refused_as (Some ps) c.in-Err.err) c.in-Ok.ensures)
