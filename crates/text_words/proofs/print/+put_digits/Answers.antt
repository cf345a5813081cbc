use Rattle.std.proofs.Common.{arith}
use Rattle.text_words.proofs.Printing.{number_put, two_longer}
use Rattle.text_words.proofs.print.+put_digits.Goals as goal

pub put_digits-requires : goal.put_digits-requires
put_digits-requires t c =
    let more = two_longer c.args.number c.if-number-lt100.false c.ranges.number.fits in
    (omega arith, omega (arith, more))

pub push_reserved-requires : goal.push_reserved-requires
push_reserved-requires t c =
    let more = two_longer c.args.number c.if-number-lt100.false c.ranges.number.fits in
    omega (arith, more)

pub push_reserved-requires-2 : goal.push_reserved-requires-2
push_reserved-requires-2 t c =
    let more = two_longer c.args.number c.if-number-lt100.false c.ranges.number.fits in
    omega (arith, more)

pub returns-clause-written : goal.returns-clause-written
returns-clause-written t c =
    number_put c.args.out.now.items c.put_digits.new.out.items c.push_reserved.new.self.items _ c.args.number c.if-number-lt100.false c.ranges.number.fits
    c.put_digits.ensures.written c.push_reserved.ensures.items c.push_reserved-2.ensures.items

pub returns-clause-len : goal.returns-clause-len
returns-clause-len t c =
    let more = two_longer c.args.number c.if-number-lt100.false c.ranges.number.fits in
    omega (arith, more)
