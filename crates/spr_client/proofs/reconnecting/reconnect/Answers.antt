use Rattle.std.proofs.Common.{List, length, None, Option, Some, ℕ, refl, sym, ap, subst, ◌∙◌}
use Rattle.script_text.specs.declared.script.Reply.{Reply}
use Rattle.name_context.specs.declared.entry.NameCall.TheVariants as names_calls
use Rattle.name_context.specs.Names.{Kept, kept_at}
use Rattle.client_objects.specs.declared.target.Found.{Found}
use Rattle.script_meaning.specs.Plan.{asking_names, plan_reopened, reached, refused_as}
use Rattle.spr_client.specs.Lines.{PlanDone}
use Rattle.spr_client.specs.Names.{IsAt}
use Rattle.spr_client.proofs.LineLaws.{plan-names-lacks, plan-names-refused, plan-names-then}
use Rattle.spr_client.proofs.NamesLaws.{refused_at_part}
use Rattle.spr_client.proofs.ReconnectLaws.{if-err, if-ok}
use Rattle.spr_client.proofs.reconnecting.reconnect.Goals as goal

pub returns-in_default-clause-err : goal.returns-in_default-clause-err
returns-in_default-clause-err g c = λ op go_on.
    let mount = c.args.common.now.mount.now in
    let state = c.args.client.now.state in
    let name = c.args.name.now in
    let path = c.args.path.now in
    plan-names-lacks mount c.args.client.now.caller state _ (asking_names names_calls.Resolve (Some path)) (λ names. plan_reopened mount name op go_on state (reached mount (kept_at names path))) c.args.pass.now refl

pub refused_names-requires : goal.refused_names-requires
refused_names-requires g c =
    subst (λ (ps : List (List ℕ)). IsAt (length ps) c.in-Err.err) (sym c.in-Ok.ensures)
    (refused_at_part c.args.common.now.volume.now c.args.client.now.caller names_calls.Resolve c.args.path.now None None _ c.args.pass.now c.resolve.new.pass c.in-Err.err (refl, c.in-Err.ensures.called))

pub returns-in-Ok-resolve-clause-ok : goal.returns-in-Ok-resolve-clause-ok
returns-in-Ok-resolve-clause-ok g c =
    let mount = c.args.common.now.mount.now in
    let caller = c.args.client.now.caller in
    let state = c.args.client.now.state in
    let name = c.args.name.now in
    let path = c.args.path.now in
    let stored = c.in-Ok-resolve.stored in
    let mid = c.resolve.new.pass in
    let ended = c.reopen.new.client.state in
    if-ok c.reopen.result c.reopen.ensures.ok (λ (found : Found) leads. λ op go_on new said left done.
    plan-names-then mount c.args.common.now.volume.now caller state _ (asking_names names_calls.Resolve (Some path)) (λ names. plan_reopened mount name op go_on state (reached mount (kept_at names path))) None _ c.args.pass.now mid new said left c.requires.may
    refl (refl, c.in-Ok-resolve.ensures.called)
    (λ names tells. subst (λ (k : Option Kept). PlanDone mount caller (plan_reopened mount name op go_on state (reached mount k)) mid new said left) (sym tells) (leads op go_on new said left done)))

pub returns-in-Ok-resolve-clause-err : goal.returns-in-Ok-resolve-clause-err
returns-in-Ok-resolve-clause-err g c =
    let mount = c.args.common.now.mount.now in
    let caller = c.args.client.now.caller in
    let state = c.args.client.now.state in
    let name = c.args.name.now in
    let path = c.args.path.now in
    let mid = c.resolve.new.pass in
    if-err c.reopen.result c.reopen.ensures.err (λ (reply : Reply) fails. λ op go_on.
    plan-names-then mount c.args.common.now.volume.now caller state _ (asking_names names_calls.Resolve (Some path)) (λ names. plan_reopened mount name op go_on state (reached mount (kept_at names path))) None _ c.args.pass.now mid c.reopen.new.pass reply c.reopen.new.client.state c.requires.may
    refl (refl, c.in-Ok-resolve.ensures.called)
    (λ names tells. subst (λ (k : Option Kept). PlanDone mount caller (plan_reopened mount name op go_on state (reached mount k)) mid c.reopen.new.pass reply c.reopen.new.client.state) (sym tells) (fails op go_on)))

pub returns-in-Err-clause-err : goal.returns-in-Err-clause-err
returns-in-Err-clause-err g c = λ op go_on.
    let mount = c.args.common.now.mount.now in
    let caller = c.args.client.now.caller in
    let state = c.args.client.now.state in
    let name = c.args.name.now in
    let path = c.args.path.now in
    plan-names-refused mount c.args.common.now.volume.now caller state _ (asking_names names_calls.Resolve (Some path)) (λ names. plan_reopened mount name op go_on state (reached mount (kept_at names path))) None _ c.args.pass.now c.resolve.new.pass c.in-Err.err _ c.requires.may
    refl (refl, c.in-Err.ensures.called) (c.refused_names.ensures ∙ ap (λ (ps : List (List ℕ)). refused_as (Some ps) c.in-Err.err) c.in-Ok.ensures)
