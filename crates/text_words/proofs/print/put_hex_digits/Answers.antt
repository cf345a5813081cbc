use Rattle.std.proofs.Common.{arith, sym, ◌∙◌}
use Rattle.text_words.proofs.Printing.{hex_put, hex_put_all}
use Rattle.text_words.proofs.print.put_hex_digits.Goals as goal

pub loop-byte-preserved : goal.loop-byte-preserved
loop-byte-preserved c = record {
  written =
      hex_put c.loop-byte.out.items c.push_reserved.new.self.items c.push_reserved-in-loop-byte.new.self.items c.args.bytes.now c.loop-byte.byte-index c.hex_digit.result c.hex_digit-in-loop-byte.result
      c.loop-byte-test.true c.hex_digit.ensures c.hex_digit-in-loop-byte.ensures c.push_reserved.ensures.items c.push_reserved-in-loop-byte.ensures.items
      ∙ c.loop-byte.invariant.written;
  room = omega arith;
}

pub returns : goal.returns
returns c = sym (hex_put_all c.loop-byte.out.items c.args.bytes.now c.loop-byte.byte-index c.loop-byte-test.false) ∙ c.loop-byte.invariant.written
