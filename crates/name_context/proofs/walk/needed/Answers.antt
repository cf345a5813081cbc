use Rattle.std.proofs.Common.{◌+◌, drop, length-drop, arith}
use Rattle.name_context.proofs.WalkLaws.{needed_for-behind}
use Rattle.name_context.proofs.walk.needed.Goals as goal

pub returns-else-at-path : goal.returns-else-at-path
returns-else-at-path c =
    let not_last = c.if-at-path.false in
    needed_for-behind c.args.call (drop (c.args.at + 1) c.args.path.now) (omega (arith, length-drop (c.args.at + 1) c.args.path.now))
