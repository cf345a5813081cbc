use Rattle.std.proofs.Common.{◌<◌, ◌/◌, ◌%◌, arith}
use Rattle.std.proofs.lemmas.Nat.{mod_below}
use Rattle.script_gen.proofs.ShapeLaws.{page-sized}
use Rattle.script_gen.proofs.aim.offset_by.Goals as goal

pub nonzero_rem-result : goal.nonzero_rem-result
nonzero_rem-result c = let s = page-sized c.args.page_size c.requires in let low = s.low in omega arith

pub overflow_mul-result : goal.overflow_mul-result
overflow_mul-result c =
    let s = page-sized c.args.page_size c.requires in
    let low = s.low in
    let high = s.high in
    let below : c.args.drawn % (c.args.page_size / 4) < c.args.page_size / 4 = mod_below c.args.drawn (c.args.page_size / 4) (omega arith) in
    omega arith
