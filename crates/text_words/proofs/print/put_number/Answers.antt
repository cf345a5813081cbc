use Rattle.std.proofs.Common.{arith}
use Rattle.text_words.proofs.Printing.{most_digits}
use Rattle.text_words.proofs.print.put_number.Goals as goal

pub put_digits-requires : goal.put_digits-requires
put_digits-requires c =
    let most = most_digits c.args.number c.ranges.number.fits in
    let room = c.in_ok-reserve.ensures.ok in
    omega (arith, most, room)
