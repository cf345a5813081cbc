use Rattle.std.proofs.Common.{List, ℕ, None, refl, sym, ap, ◌∙◌}
use Rattle.script_text.specs.declared.script.Reply.TheVariants as replies
use Rattle.name_context.specs.declared.entry.NameCall.TheVariants as names_calls
use Rattle.name_context.specs.Listed.{listed}
use Rattle.script_meaning.specs.Plan.{asking_names, ends}
use Rattle.spr_client.proofs.LineLaws.{names-end, names-refused}
use Rattle.spr_client.proofs.NamesLaws.{root_memory}
use Rattle.spr_client.proofs.names.list_root.Goals as goal

pub returns-in-Ok : goal.returns-in-Ok
returns-in-Ok g c =
    let state = c.args.client.now.state in
    names-end c.args.common.now.mount.now c.args.common.now.volume.now c.args.client.now.caller state _ (asking_names names_calls.List None) (λ names. ends (replies.Names (listed names None)) state) None _ c.args.pass.now c.list.new.pass _ c.requires.may refl
    (refl, c.in-Ok.ensures.called) (λ names tells. ap (λ (ns : List (List ℕ)). ends (replies.Names ns) state) (sym (c.from_vec.ensures ∙ tells)))

pub returns-in-Err : goal.returns-in-Err
returns-in-Err g c =
    let state = c.args.client.now.state in
    names-refused c.args.common.now.mount.now c.args.common.now.volume.now c.args.client.now.caller state _ (asking_names names_calls.List None) (λ names. ends (replies.Names (listed names None)) state) None _ c.args.pass.now c.list.new.pass c.in-Err.field-0 _ c.requires.may refl
    (refl, c.in-Err.ensures.called) (root_memory c.args.common.now.volume.now c.args.client.now.caller None _ c.args.pass.now c.list.new.pass c.in-Err.field-0 (refl, c.in-Err.ensures.called))
