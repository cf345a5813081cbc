use Rattle.std.proofs.Common.{◌≡◌, ◌-◌, ◌+◌, ◌||◌, suc, false, length, sym, ◌∙◌, ap, subst, arith}
use Rattle.mirror_rules.specs.Tree as machine
use Rattle.mirror_rules.specs.Claims.{Every}
use Rattle.mirror_rules.proofs.RoundLaws.{live-tree, live-seats}
use Rattle.mirror_layer.specs.View.{Beside, cell_of, tree_of}
use Rattle.mirror_layer.specs.declared.join.Copied.TheVariants.{Left, Gone}
use Rattle.mirror_layer.proofs.GroundLaws.{has-pages}
use Rattle.mirror_layer.proofs.JoinSteps.{tells-after, place-after, page-live, turn-same, turn-written, turn-left, turn-gone, turn-even, turn-settled}
use Rattle.mirror_layer.proofs.join.join.Goals as goal
use Rattle.mirror_layer.proofs.join.join.Goals.{in-Same, in-Written}

pub copy_page-requires-clause-suits : goal.copy_page-requires-clause-suits
copy_page-requires-clause-suits g c =
    has-pages c.args.shape.now c.loop-page.page (length c.loop-page.ours) c.loop-page.node (subst (λ bs. Every (λ (b : Beside). b.shape ≡ c.args.shape.now) bs) (sym c.loop-page.invariant.beside) c.requires.shapes) c.loop-page-test.true (c.loop-page.auto.ours ∙ c.requires.ours)

pub returns-in-Left-clause-joins : goal.returns-in-Left-clause-joins
returns-in-Left-clause-joins g c told h i b t k =
    let q : c.args.shape.now.pages - c.loop-page.page ≡ suc (c.args.shape.now.pages - (c.loop-page.page + 1)) = omega (arith, c.loop-page-test.true) in
    turn-left (cell_of c.args.disk.now) (cell_of c.loop-page.disk) (cell_of c.copy_page.new.disk) q (c.in-Left.ensures.copies told (tells-after c.args.disk.now c.loop-page.disk c.loop-page.invariant.beside c.loop-page.invariant.own h)) (c.loop-page.invariant.turns told h i b t k)

pub returns-in-Gone-clause-joins : goal.returns-in-Gone-clause-joins
returns-in-Gone-clause-joins g c told h i b t k =
    let q : c.args.shape.now.pages - c.loop-page.page ≡ suc (c.args.shape.now.pages - (c.loop-page.page + 1)) = omega (arith, c.loop-page-test.true) in
    turn-gone (cell_of c.args.disk.now) (cell_of c.loop-page.disk) (cell_of c.copy_page.new.disk) q (c.in-Gone.ensures.copies told (tells-after c.args.disk.now c.loop-page.disk c.loop-page.invariant.beside c.loop-page.invariant.own h)) (c.loop-page.invariant.turns told h i b t k)

pub loop-page-preserved : goal.loop-page-preserved
loop-page-preserved g c =
    let q : c.args.shape.now.pages - c.loop-page.page ≡ suc (c.args.shape.now.pages - (c.loop-page.page + 1)) = omega (arith, c.loop-page-test.true) in
    let v = c.loop-page.invariant in
    let alive = page-live c.loop-page.page (cell_of c.loop-page.disk) (cell_of c.copy_page.new.disk) c.copy_page.result (machine.seats (tree_of c.copy_page.new.node)) (c.copy_page.ensures.copies false (λ t. cc)) (live-seats (tree_of c.loop-page.node) v.live) in record {
      live = live-tree (tree_of c.copy_page.new.node) alive;
      beside = c.copy_page.ensures.beside ∙ v.beside;
      own = c.copy_page.ensures.own ∙ v.own;
      turns = λ told h i b t k. elim c.match-copy_page.branch [
        | in-Same w ↦ rw (w.even-is, w.wrote-is)
            (turn-same (cell_of c.args.disk.now) (cell_of c.loop-page.disk) (cell_of c.copy_page.new.disk) q (w.in-Same.ensures.copies told (tells-after c.args.disk.now c.loop-page.disk v.beside v.own h)) (v.turns told h i b t k))
        | in-Written w ↦ rw (w.even-is, w.wrote-is)
            (turn-written (cell_of c.args.disk.now) (cell_of c.loop-page.disk) (cell_of c.copy_page.new.disk) q (w.in-Written.ensures.copies told (tells-after c.args.disk.now c.loop-page.disk v.beside v.own h)) (v.turns told h i b t k))
      ];
    }

pub returns-then-even-clause-joins : goal.returns-then-even-clause-joins
returns-then-even-clause-joins g c told h i b t k =
    let q : c.args.shape.now.pages - c.loop-page.page ≡ 0 = omega (arith, c.loop-page-test.false) in
    turn-even (cell_of c.args.disk.now) (cell_of c.loop-page.disk) q c.if-even.true (c.loop-page.invariant.turns told h i b t k)

pub returns-then-wrote-clause-joins : goal.returns-then-wrote-clause-joins
returns-then-wrote-clause-joins g c told h i b t k =
    let q : c.args.shape.now.pages - c.loop-page.page ≡ 0 = omega (arith, c.loop-page-test.false) in
    turn-settled (cell_of c.args.disk.now) (cell_of c.loop-page.disk) (cell_of c.settle-settled.new.disk) q c.if-even.false (ap (λ o. o || c.settle-settled.result.wrote) c.if-wrote.true ∙ sym c.if-wrote.true) c.settle-settled.ensures.settles
    (c.loop-page.invariant.turns told h i b t k)

pub returns-else-wrote-clause-joins : goal.returns-else-wrote-clause-joins
returns-else-wrote-clause-joins g c told h i b t k =
    let q : c.args.shape.now.pages - c.loop-page.page ≡ 0 = omega (arith, c.loop-page-test.false) in
    turn-settled (cell_of c.args.disk.now) (cell_of c.loop-page.disk) (cell_of c.settle-settled.new.disk) q c.if-even.false (ap (λ o. o || c.settle-settled.result.wrote) c.if-wrote.false) c.settle-settled.ensures.settles
    (c.loop-page.invariant.turns told h i b t k)

pub returns-in-Left-clause-out : goal.returns-in-Left-clause-out
returns-in-Left-clause-out g c i b t k = place-after false c.loop-page.page (cell_of c.loop-page.disk) (cell_of c.copy_page.new.disk) Left (machine.seats (tree_of c.copy_page.new.node)) (c.in-Left.ensures.copies false (λ t. cc)) (c.loop-page.invariant.turns false (λ t. cc) i b t k).place

pub returns-in-Gone-clause-out : goal.returns-in-Gone-clause-out
returns-in-Gone-clause-out g c i b t k = place-after false c.loop-page.page (cell_of c.loop-page.disk) (cell_of c.copy_page.new.disk) (Gone c.in-Gone.fault) (machine.seats (tree_of c.copy_page.new.node)) (c.in-Gone.ensures.copies false (λ t. cc)) (c.loop-page.invariant.turns false (λ t. cc) i b t k).place

pub returns-then-even-clause-out : goal.returns-then-even-clause-out
returns-then-even-clause-out g c i b t k = (c.loop-page.invariant.turns false (λ t. cc) i b t k).place

pub returns-then-wrote-clause-out : goal.returns-then-wrote-clause-out
returns-then-wrote-clause-out g c i b t k = (c.loop-page.invariant.turns false (λ t. cc) i b t k).place

pub returns-else-wrote-clause-out : goal.returns-else-wrote-clause-out
returns-else-wrote-clause-out g c i b t k = (c.loop-page.invariant.turns false (λ t. cc) i b t k).place
