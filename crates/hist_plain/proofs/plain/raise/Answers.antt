use Rattle.std.proofs.Common.{◌+◌, ◌<◌, ◌^◌, length, get_or, arith}
use Rattle.std.proofs.lemmas.List.Elements.{All-get_or}
use Rattle.hist_plain.proofs.TreeLemmas.{raises, get_or_here, left_next, flag_le}
use Rattle.hist_plain.proofs.plain.raise.Goals as goal

pub overflow_add-lives : goal.overflow_add-lives
overflow_add-lives c =
    let lt : c.loop-node.node < length c.args.lives.now = c.loop-node-test.true in
    let here = get_or_here c.loop-node.lives c.args.lives.now c.loop-node.node (omega arith) lt c.loop-node.invariant.left in
    let small = All-get_or (λ life. life + 1 < 2 ^ 32) c.args.lives.now c.loop-node.node 0 lt c.requires.small in
    let fits = flag_le c.is_below.result (get_or c.args.lives.now c.loop-node.node 0) small in
    rw (here, c.from.ensures) (omega (arith, fits))

pub loop-node-preserved : goal.loop-node-preserved
loop-node-preserved c =
    let lt : c.loop-node.node < length c.args.lives.now = c.loop-node-test.true in
    let in_lives : c.loop-node.node < length c.loop-node.lives = omega arith in
    record {
      whole = rw c.from.ensures (raises c.args.parents.now c.args.top c.loop-node.node c.loop-node.lives _ c.is_below.result in_lives c.is_below.ensures c.loop-node.invariant.whole);
      left = left_next c.loop-node.lives c.args.lives.now c.loop-node.node _ in_lives lt c.loop-node.invariant.left;
    }
