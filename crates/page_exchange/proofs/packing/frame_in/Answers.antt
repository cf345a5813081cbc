use Rattle.page_exchange.proofs.PacketLaws as packing
use Rattle.page_exchange.proofs.packing.frame_in.Goals as goal

pub unpacked-requires-clause-packet : goal.unpacked-requires-clause-packet
unpacked-requires-clause-packet c =
    let came = c.requires.came in
    (_, packing.packet_there c.args.from c.args.to came.0 c.ranges.from.fits c.ranges.to.fits c.if-from-to.false, packing.packet_came c.args.from c.args.to c.args.bytes.now came.0 c.if-from-to.false came.1)

pub returns-else-from-to : goal.returns-else-from-to
returns-else-from-to c = λ frame is.
    c.unpacked.ensures (record { from = c.args.from; to = c.args.to; frame = frame }) (packing.packet_there c.args.from c.args.to frame c.ranges.from.fits c.ranges.to.fits c.if-from-to.false) (packing.packet_came c.args.from c.args.to c.args.bytes.now frame c.if-from-to.false is)
