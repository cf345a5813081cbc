use Rattle.std.proofs.Common.{◌≡◌, true, false}
use Rattle.mirror_rules.specs.Tree.{seats}
use Rattle.mirror_layer.specs.Calls.{all_told}
use Rattle.mirror_layer.specs.View.{beside_in, cell_of, seat_of, store_of, tree_of}
use Rattle.mirror_layer.proofs.RenewSteps.{stays, mark-filled, other-at, blank-seat, gone-at, left-at, made-at, left-out, made-out, own-gone, own-left, own-made, shut-as}
use Rattle.mirror_layer.proofs.renew.renew_leaf.Goals as goal

pub returns-in-Opened-clause-renews : goal.returns-in-Opened-clause-renews
returns-in-Opened-clause-renews g c told h i b s k = rw c.in-Opened.is (stays (seat_of c.in-Opened.field-0 (cell_of c.in-Opened.field-1)) (mark-filled c.in-Opened.field-0 (cell_of c.in-Opened.field-1)) k)

pub returns-then-not-is_blank-clause-renews : goal.returns-then-not-is_blank-clause-renews
returns-then-not-is_blank-clause-renews g c told h i b s k = rw c.in-Shut.is (other-at c.in-Shut.kept c.kept.inside.shut c.is_blank.result c.kept.view_is c.is_blank.ensures.other c.if-not-is_blank.true k)

pub one_of-fresh-requires-clause-some : goal.one_of-fresh-requires-clause-some
one_of-fresh-requires-clause-some g c = c.requires.room (store_of c.in-Shut.kept) (rw c.in-Shut.is (blank-seat c.in-Shut.kept c.kept.inside.shut c.is_blank.result c.kept.view_is c.is_blank.ensures.blank c.if-not-is_blank.false))

pub renew_shut-requires-clause-live : goal.renew_shut-requires-clause-live
renew_shut-requires-clause-live g c κs within = c.requires.live (store_of c.in-Shut.kept) (rw c.in-Shut.is (blank-seat c.in-Shut.kept c.kept.inside.shut c.is_blank.result c.kept.view_is c.is_blank.ensures.blank c.if-not-is_blank.false))

pub returns-in-Err-clause-renews : goal.returns-in-Err-clause-renews
returns-in-Err-clause-renews g c told h i b s k =
    let l = rw c.in-Shut.is at h in
    rw c.in-Shut.is (gone-at c.in-Shut.kept c.kept.inside.shut c.renew_shut.new.shut c.is_blank.result (seats (tree_of c.args.node.now)) (seats (tree_of c.renew_shut.new.node)) c.kept.view_is c.is_blank.ensures.blank c.if-not-is_blank.false (c.in-Err.ensures.renews told (λ t. (l t).0)) k)

pub returns-in-Err-clause-out : goal.returns-in-Err-clause-out
returns-in-Err-clause-out g c i b s k = left-out (c.in-Err.ensures.renews false (λ t. cc)).2 i b s k

pub returns-in-Err-clause-own : goal.returns-in-Err-clause-own
returns-in-Err-clause-own g c = let r = c.in-Err.ensures.renews false (λ t. cc) in rw c.in-Shut.is (own-gone c.in-Shut.kept c.kept.inside.shut c.renew_shut.new.shut c.kept.view_is r.0 r.1)

pub returns-in-Ok-None-clause-renews : goal.returns-in-Ok-None-clause-renews
returns-in-Ok-None-clause-renews g c told h i b s k =
    let l = rw c.in-Shut.is at h in
    rw c.in-Shut.is (left-at {A = ◌≡◌ (all_told (beside_in c.args.node.now)) true} c.in-Shut.kept c.kept.inside.shut c.renew_shut.new.shut c.is_blank.result (seats (tree_of c.args.node.now)) (seats (tree_of c.renew_shut.new.node)) c.kept.view_is c.is_blank.ensures.blank c.if-not-is_blank.false c.renew_shut.ensures.there l
    (shut-as told c.args.generation c.args.shape.now.pages (seats (tree_of c.args.node.now)) c.kept.inside.shut (seats (tree_of c.renew_shut.new.node)) c.renew_shut.new.shut c.in-Ok-None.field-0-is (c.in-Ok-None.ensures.renews told (λ t. (l t).0))) k)

pub returns-in-Ok-None-clause-out : goal.returns-in-Ok-None-clause-out
returns-in-Ok-None-clause-out g c i b s k = left-out (shut-as false c.args.generation c.args.shape.now.pages (seats (tree_of c.args.node.now)) c.kept.inside.shut (seats (tree_of c.renew_shut.new.node)) c.renew_shut.new.shut c.in-Ok-None.field-0-is (c.in-Ok-None.ensures.renews false (λ t. cc))).2 i b s k

pub returns-in-Ok-None-clause-own : goal.returns-in-Ok-None-clause-own
returns-in-Ok-None-clause-own g c = let r = shut-as false c.args.generation c.args.shape.now.pages (seats (tree_of c.args.node.now)) c.kept.inside.shut (seats (tree_of c.renew_shut.new.node)) c.renew_shut.new.shut c.in-Ok-None.field-0-is (c.in-Ok-None.ensures.renews false (λ t. cc)) in rw c.in-Shut.is (own-left c.in-Shut.kept c.kept.inside.shut c.renew_shut.new.shut c.kept.view_is r.0 r.1)

pub returns-in-Ok-Some-clause-renews : goal.returns-in-Ok-Some-clause-renews
returns-in-Ok-Some-clause-renews g c told h i b s k =
    let l = rw c.in-Shut.is at h in
    rw (c.in-Shut.is, c.hold.ensures) (made-at {A = ◌≡◌ (all_told (beside_in c.args.node.now)) true} c.in-Shut.kept c.kept.inside.shut c.in-Ok-Some.disk c.is_blank.result (seats (tree_of c.args.node.now)) (seats (tree_of c.renew_shut.new.node)) c.kept.view_is c.is_blank.ensures.blank c.if-not-is_blank.false
    c.renew_shut.ensures.there l (shut-as told c.args.generation c.args.shape.now.pages (seats (tree_of c.args.node.now)) c.kept.inside.shut (seats (tree_of c.renew_shut.new.node)) c.renew_shut.new.shut c.in-Ok-Some.field-0-is (c.in-Ok-Some.ensures.renews told (λ t. (l t).0))) k)

pub returns-in-Ok-Some-clause-out : goal.returns-in-Ok-Some-clause-out
returns-in-Ok-Some-clause-out g c i b s k = made-out (shut-as false c.args.generation c.args.shape.now.pages (seats (tree_of c.args.node.now)) c.kept.inside.shut (seats (tree_of c.renew_shut.new.node)) c.renew_shut.new.shut c.in-Ok-Some.field-0-is (c.in-Ok-Some.ensures.renews false (λ t. cc))) i b s k

pub returns-in-Ok-Some-clause-own : goal.returns-in-Ok-Some-clause-own
returns-in-Ok-Some-clause-own g c = rw (c.in-Shut.is, c.hold.ensures) (own-made c.in-Shut.kept c.kept.inside.shut c.in-Ok-Some.disk c.kept.view_is c.renew_shut.ensures.there c.renew_shut.ensures.taken (shut-as false c.args.generation c.args.shape.now.pages (seats (tree_of c.args.node.now)) c.kept.inside.shut (seats (tree_of c.renew_shut.new.node)) c.renew_shut.new.shut c.in-Ok-Some.field-0-is (c.in-Ok-Some.ensures.renews false (λ t. cc))))
