use Rattle.std.proofs.Common.{◌≡◌, false, length, sym, subst}
use Rattle.mirror_rules.specs.Claims.{Every}
use Rattle.mirror_rules.proofs.RoundLaws.{live-tree, live-seats}
use Rattle.mirror_layer.specs.View.{Beside, tree_of}
use Rattle.mirror_layer.specs.Places.{first_beside}
use Rattle.mirror_layer.proofs.EnterSteps.{Visit, every-set, every-nth, visit-beside, visit-spare}
use Rattle.mirror_layer.proofs.RenewSteps.{blank-taken, blank-room, room-after, renews-live, visit-renews}
use Rattle.mirror_layer.proofs.renew.renew_at.Goals as goal

pub renew_leaf-answer-requires-clause-live : goal.renew_leaf-answer-requires-clause-live
renew_leaf-answer-requires-clause-live g c κs within s e = blank-taken c.args.node.now c.exchange_at.new.node c.exchange_at.ensures e c.requires.live

pub renew_leaf-answer-requires-clause-shapes : goal.renew_leaf-answer-requires-clause-shapes
renew_leaf-answer-requires-clause-shapes g c κs within = subst (λ bs. Every (λ (b : Beside). b.shape ≡ c.args.shape.now) bs) (sym c.exchange_at.ensures.besides) (every-set (first_beside c.args.spare.now) c.requires.spare.fits c.exchange_at.ensures.beside c.requires.shapes)

pub renew_leaf-answer-requires-clause-shape : goal.renew_leaf-answer-requires-clause-shape
renew_leaf-answer-requires-clause-shape g c κs within = every-nth {P = λ (b : Beside). b.shape ≡ c.args.shape.now} c.exchange_at.ensures.beside c.requires.shapes

pub returns-clause-renews : goal.returns-clause-renews
returns-clause-renews g c told h =
    let v : Visit c.args.place c.args.shape.now c.args.spare.now c.exchange_at.new.leaf c.renew_leaf-answer.new.leaf c.exchange_at-2.new.leaf c.args.node.now c.exchange_at.new.node c.renew_leaf-answer.new.node c.exchange_at-2.new.node =
    record { first = c.exchange_at.ensures; then = c.exchange_at-2.ensures; idle = c.requires.spare; beside = c.renew_leaf-answer.ensures.beside; own = c.renew_leaf-answer.ensures.own; out = c.renew_leaf-answer.ensures.out } in
    visit-renews c.renew_leaf-answer.result c.args.spare.now c.exchange_at.new.leaf c.renew_leaf-answer.new.leaf c.exchange_at-2.new.leaf c.args.node.now c.exchange_at.new.node c.renew_leaf-answer.new.node c.exchange_at-2.new.node v (c.renew_leaf-answer.ensures.renews told) h

pub returns-clause-live : goal.returns-clause-live
returns-clause-live g c =
    let v : Visit c.args.place c.args.shape.now c.args.spare.now c.exchange_at.new.leaf c.renew_leaf-answer.new.leaf c.exchange_at-2.new.leaf c.args.node.now c.exchange_at.new.node c.renew_leaf-answer.new.node c.exchange_at-2.new.node =
    record { first = c.exchange_at.ensures; then = c.exchange_at-2.ensures; idle = c.requires.spare; beside = c.renew_leaf-answer.ensures.beside; own = c.renew_leaf-answer.ensures.own; out = c.renew_leaf-answer.ensures.out } in
    let e = visit-renews c.renew_leaf-answer.result c.args.spare.now c.exchange_at.new.leaf c.renew_leaf-answer.new.leaf c.exchange_at-2.new.leaf c.args.node.now c.exchange_at.new.node c.renew_leaf-answer.new.node c.exchange_at-2.new.node v (c.renew_leaf-answer.ensures.renews false) (λ t. cc) in
    live-tree (tree_of c.exchange_at-2.new.node) (renews-live e (live-seats (tree_of c.args.node.now) c.requires.live))

pub returns-clause-spare : goal.returns-clause-spare
returns-clause-spare g c =
    let v : Visit c.args.place c.args.shape.now c.args.spare.now c.exchange_at.new.leaf c.renew_leaf-answer.new.leaf c.exchange_at-2.new.leaf c.args.node.now c.exchange_at.new.node c.renew_leaf-answer.new.node c.exchange_at-2.new.node =
    record { first = c.exchange_at.ensures; then = c.exchange_at-2.ensures; idle = c.requires.spare; beside = c.renew_leaf-answer.ensures.beside; own = c.renew_leaf-answer.ensures.own; out = c.renew_leaf-answer.ensures.out } in
    visit-spare c.args.spare.now c.exchange_at.new.leaf c.renew_leaf-answer.new.leaf c.exchange_at-2.new.leaf c.args.node.now c.exchange_at.new.node c.renew_leaf-answer.new.node c.exchange_at-2.new.node v

pub returns-clause-beside : goal.returns-clause-beside
returns-clause-beside g c =
    let v : Visit c.args.place c.args.shape.now c.args.spare.now c.exchange_at.new.leaf c.renew_leaf-answer.new.leaf c.exchange_at-2.new.leaf c.args.node.now c.exchange_at.new.node c.renew_leaf-answer.new.node c.exchange_at-2.new.node =
    record { first = c.exchange_at.ensures; then = c.exchange_at-2.ensures; idle = c.requires.spare; beside = c.renew_leaf-answer.ensures.beside; own = c.renew_leaf-answer.ensures.own; out = c.renew_leaf-answer.ensures.out } in
    visit-beside v

pub renew_leaf-answer-requires-clause-room : goal.renew_leaf-answer-requires-clause-room
renew_leaf-answer-requires-clause-room g c κs within s e = blank-room c.args.node.now c.exchange_at.ensures e c.requires.room

pub returns-clause-room : goal.returns-clause-room
returns-clause-room g c =
    let v : Visit c.args.place c.args.shape.now c.args.spare.now c.exchange_at.new.leaf c.renew_leaf-answer.new.leaf c.exchange_at-2.new.leaf c.args.node.now c.exchange_at.new.node c.renew_leaf-answer.new.node c.exchange_at-2.new.node =
    record { first = c.exchange_at.ensures; then = c.exchange_at-2.ensures; idle = c.requires.spare; beside = c.renew_leaf-answer.ensures.beside; own = c.renew_leaf-answer.ensures.own; out = c.renew_leaf-answer.ensures.out } in
    let e = visit-renews c.renew_leaf-answer.result c.args.spare.now c.exchange_at.new.leaf c.renew_leaf-answer.new.leaf c.exchange_at-2.new.leaf c.args.node.now c.exchange_at.new.node c.renew_leaf-answer.new.node c.exchange_at-2.new.node v (c.renew_leaf-answer.ensures.renews false) (λ t. cc) in
    room-after (length c.args.images.now.items) (length c.renew_leaf-answer.new.images.items) c.renew_leaf-answer.result c.exchange_at.new.leaf c.exchange_at.ensures.taken e c.exchange_at.ensures.seat c.requires.room c.renew_leaf-answer.ensures.room
