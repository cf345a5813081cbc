use Rattle.std.proofs.Common.{◌≡◌, ℕ, List, length, Option, None, Some, refl, sym, ap, subst, ◌∙◌}
use Rattle.name_context.specs.declared.entry.NameCall.TheVariants as names_calls
use Rattle.name_context.specs.Names.{Kept, kept_at, kept_object}
use Rattle.client_replicas.specs.Received.{received_doors}
use Rattle.script_meaning.specs.Plan.{asking_names, is_open, plan_received, refused_as}
use Rattle.spr_client.specs.Lines.{PlanDone}
use Rattle.spr_client.specs.Names.{IsAt}
use Rattle.spr_client.proofs.LineLaws.{done-none, done-lacks, names-refused, names-then, open-exists, open-new}
use Rattle.spr_client.proofs.NamesLaws.{refused_at_part}
use Rattle.spr_client.proofs.opening.open_line.Goals as goal

pub returns-then-is_open-clause-done : goal.returns-then-is_open-clause-done
returns-then-is_open-clause-done g c =
    let state = c.args.client.now.state in
    done-none c.args.common.now.mount.now c.args.client.now.caller state _ c.args.pass.now _ state
    (open-exists c.args.common.now.mount.now state c.args.name.now c.args.path.now (is_open c.args.name.now state) (sym c.is_open.ensures ∙ c.if-is_open.true))

pub returns-in_default-clause-done : goal.returns-in_default-clause-done
returns-in_default-clause-done g c = done-lacks c.args.common.now.mount.now c.args.client.now.caller c.args.client.now.state _ c.args.pass.now

pub returns-in_default-parts_of-clause-done : goal.returns-in_default-parts_of-clause-done
returns-in_default-parts_of-clause-done g c = done-lacks c.args.common.now.mount.now c.args.client.now.caller c.args.client.now.state _ c.args.pass.now

pub refused_names-requires : goal.refused_names-requires
refused_names-requires g c =
    subst (λ (ps : List (List ℕ)). IsAt (length ps) c.in-Err.err) (sym c.in-Ok-parts_of.ensures)
    (refused_at_part c.args.common.now.volume.now c.args.client.now.caller names_calls.Resolve c.args.path.now None None _ c.args.pass.now c.resolve.new.pass c.in-Err.err (refl, c.in-Err.ensures.called))

pub returns-in-Ok-resolve-clause-done : goal.returns-in-Ok-resolve-clause-done
returns-in-Ok-resolve-clause-done g c =
    let mount = c.args.common.now.mount.now in
    let caller = c.args.client.now.caller in
    let state = c.args.client.now.state in
    let name = c.args.name.now in
    let path = c.args.path.now in
    let mid = c.resolve.new.pass in
    let end = c.open_kept.new.pass in
    let left = c.open_kept.new.client.state in
    let kept = Some (kept_object c.in-Ok-resolve.stored) in
    let same : c.in-Ok.copy ≡ name = c.in-Ok.ensures ∙ c.as_str.ensures in
    let done : PlanDone mount caller (plan_received mount state name kept (received_doors mount kept)) mid end c.open_kept.result left =
    subst (λ (n : List ℕ). PlanDone mount caller (plan_received mount state n kept (received_doors mount kept)) mid end c.open_kept.result left) same c.open_kept.ensures.done in
    names-then mount c.args.common.now.volume.now caller state _ (asking_names names_calls.Resolve (Some path)) (λ names. plan_received mount state name (kept_at names path) (received_doors mount (kept_at names path))) None _ c.args.pass.now mid end c.open_kept.result left c.requires.may
    (open-new mount state name path (is_open name state) (sym c.is_open.ensures ∙ c.if-is_open.false))
    (refl, c.in-Ok-resolve.ensures.called)
    (λ names tells. subst (λ (k : Option Kept). PlanDone mount caller (plan_received mount state name k (received_doors mount k)) mid end c.open_kept.result left) (sym tells) done)

pub returns-in-Err-clause-done : goal.returns-in-Err-clause-done
returns-in-Err-clause-done g c =
    let mount = c.args.common.now.mount.now in
    let caller = c.args.client.now.caller in
    let state = c.args.client.now.state in
    let name = c.args.name.now in
    let path = c.args.path.now in
    names-refused mount c.args.common.now.volume.now caller state _ (asking_names names_calls.Resolve (Some path)) (λ names. plan_received mount state name (kept_at names path) (received_doors mount (kept_at names path))) None _ c.args.pass.now c.resolve.new.pass c.in-Err.err _ c.requires.may
    (open-new mount state name path (is_open name state) (sym c.is_open.ensures ∙ c.if-is_open.false))
    (refl, c.in-Err.ensures.called) (c.refused_names.ensures ∙ ap (λ (ps : List (List ℕ)). refused_as (Some ps) c.in-Err.err) c.in-Ok-parts_of.ensures)
