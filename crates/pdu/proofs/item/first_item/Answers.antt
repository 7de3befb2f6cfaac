use Rattle.std.proofs.Common.{◌+◌, ◌<◌, length, drop, arith}
use Rattle.byteorder.specs.Endian.{big_number}
use Rattle.pdu.proofs.FirstItemIsUnique.{begins_short, begins_started}
use Rattle.pdu.proofs.item.first_item.Goals as goal

pub returns-then-text-lt4 : goal.returns-then-text-lt4
returns-then-text-lt4 c = begins_short c.args.text.now (omega arith)

pub returns-then-text-size : goal.returns-then-text-size
returns-then-text-size c =
    let b = c.args.text.now in
    let short : length b < 4 + big_number 2 (drop 2 b) = omega (arith, c.content_length.ensures, c.from-size.ensures) in
    begins_started b short
