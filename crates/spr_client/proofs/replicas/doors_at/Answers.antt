use Rattle.std.proofs.Common.{◌≡◌, ◌++◌, ◌∷◌, [], ◌+◌, ℕ, List, Option, None, Some, take, sym, ap, subst, ◌∙◌}
use Rattle.std.specs.Prelude.{IsSome}
use Rattle.std.proofs.lemmas.List.{take_more}
use Rattle.marshal_buf.specs.declared.door.Door.{Door}
use Rattle.script_meaning.specs.Plan.{doors_at}
use Rattle.spr_client.proofs.DoorLaws.{doors-snoc, view-there}
use Rattle.spr_client.proofs.replicas.doors_at.Goals as goal

pub unreachable-requires : goal.unreachable-requires
unreachable-requires c =
    let there = view-there c.args.mount.now c.args.file c.args.views.now c.loop-view.view-index c.view-item.result c.requires c.loop-view-test.true c.view-item.is in
    let none = sym c.view_of.ensures.node ∙ c.in_default.is in
    let never = subst (λ (o : Option ℕ). IsSome o) none there in
    absurd cc

pub loop-view-preserved : goal.loop-view-preserved
loop-view-preserved c =
    let door : Door = record { node = c.in-Some.node; file = c.args.file } in
    ap (doors_at c.args.mount.now c.args.file) (take_more c.args.views.now c.loop-view.view-index c.view-item.result c.loop-view-test.true ∙ ap (λ (v : List ℕ). take c.loop-view.view-index c.args.views.now ++ v ∷ []) (sym c.view-item.is))
    ∙ (doors-snoc c.args.mount.now c.args.file c.in-Some.node c.view-item.result (take c.loop-view.view-index c.args.views.now) c.loop-view.doors.items c.loop-view.invariant (sym c.view_of.ensures.node ∙ c.in-Some.is)
    ∙ ap (λ (ds : List Door). Some ds) (sym c.in_ok-push.ensures.items))
