use Rattle.std.proofs.Common.{◌≡◌, ◌∷◌, ℕ, List, Bool, false, sym, ap, subst, ◌∙◌}
use Rattle.std.specs.List.{AllByRecursion}
use Rattle.script_text.specs.declared.script.Reply.TheVariants as replies
use Rattle.client_replicas.specs.declared.replicas.OpenReplicon.{OpenReplicon}
use Rattle.client_replicas.specs.Objects.{doors_of, with_replicon}
use Rattle.script_meaning.specs.Plan.{ends, is_open, plan_copy_doors, replicating}
use Rattle.spr_client.specs.Lines.{IsReplicatedOn}
use Rattle.spr_client.proofs.DoorLaws.{doors-on, on-replicating, on-with_replicon, some-doors}
use Rattle.spr_client.proofs.LineLaws.{done-lacks, done-left, done-none}
use Rattle.spr_client.proofs.replicas.copy_doors.Goals as goal

pub returns-then-is_open-clause-done : goal.returns-then-is_open-clause-done
returns-then-is_open-clause-done g c = λ door more is.
    let state = c.args.client.now.state in
    done-none c.args.common.now.mount.now c.args.client.now.caller state _ c.args.pass.now _ state
    (ap (λ (b : Bool). plan_copy_doors state c.args.other.now b door more) (sym c.is_open.ensures ∙ c.if-is_open.true))

pub returns-in_default-clause-done : goal.returns-in_default-clause-done
returns-in_default-clause-done g c = λ door more is. done-lacks c.args.common.now.mount.now c.args.client.now.caller c.args.client.now.state _ c.args.pass.now

pub returns-in-Ok-copy-clause-done : goal.returns-in-Ok-copy-clause-done
returns-in-Ok-copy-clause-done g c = λ door more is.
    let state = c.args.client.now.state in
    let other = c.args.other.now in
    let free : is_open other state ≡ false = sym c.is_open.ensures ∙ c.if-is_open.false in
    let second : c.in-Ok.second ≡ other = c.in-Ok.ensures ∙ c.as_str.ensures in
    let left : c.copy.new.self ≡ with_replicon state.replicas other (door ∷ more) = c.in-Ok-copy.ensures.ok (door ∷ more) is ∙ ap (λ (n : List ℕ). with_replicon state.replicas n (door ∷ more)) second in
    done-none c.args.common.now.mount.now c.args.client.now.caller state _ c.args.pass.now replies.Done (replicating state c.copy.new.self)
    (ap (λ (b : Bool). plan_copy_doors state other b door more) free ∙ ap (λ (rs : List OpenReplicon). ends replies.Done (replicating state rs)) (sym left))

pub returns-in-Ok-copy-clause-on : goal.returns-in-Ok-copy-clause-on
returns-in-Ok-copy-clause-on g c =
    let mount = c.args.common.now.mount.now in
    let state = c.args.client.now.state in
    let held = some-doors (doors_of c.args.name.now state.replicas) c.requires.held in
    on-replicating mount state c.copy.new.self c.requires.on
    (subst (λ (rs : List OpenReplicon). AllByRecursion (IsReplicatedOn mount) rs) (sym (c.in-Ok-copy.ensures.ok held.0 held.1))
    (on-with_replicon mount state.replicas c.in-Ok.second held.0 c.requires.on.replicas (doors-on mount c.args.name.now state.replicas held.0 c.requires.on.replicas held.1)))

pub returns-in-Err-clause-done : goal.returns-in-Err-clause-done
returns-in-Err-clause-done g c = λ door more is.
    let state = c.args.client.now.state in
    done-left c.args.common.now.mount.now c.args.client.now.caller state _ c.args.pass.now c.args.pass.now replies.Memory state (replicating state c.copy.new.self) (ap (replicating state) c.in-Err.ensures.err)
    (done-lacks c.args.common.now.mount.now c.args.client.now.caller state _ c.args.pass.now)
