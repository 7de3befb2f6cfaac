-- Each digit has room.
use Rattle.std.proofs.Common.{◌-◌, get_or, refl, arith}
use Rattle.folder_filing.proofs.SevenDigitsFit.{one_more, room_for_one}
use Rattle.folder_filing.proofs.names.number_of.Goals as goal

pub overflow_mul-number : goal.overflow_mul-number
overflow_mul-number c =
    let room = room_for_one c.args.digits.now c.loop-byte.byte-index c.loop-byte.number (get_or c.args.digits.now c.loop-byte.byte-index 0 - 48) c.loop-byte-test.true c.if-byte-lt48.false c.if-byte-gt57.false refl c.loop-byte.invariant in
    omega arith

pub overflow_add-number : goal.overflow_add-number
overflow_add-number c =
    let room = room_for_one c.args.digits.now c.loop-byte.byte-index c.loop-byte.number c.from.result c.loop-byte-test.true c.if-byte-lt48.false c.if-byte-gt57.false c.from.ensures c.loop-byte.invariant in
    omega arith

pub loop-byte-preserved : goal.loop-byte-preserved
loop-byte-preserved c = one_more c.args.digits.now c.loop-byte.byte-index c.loop-byte.number c.from.result c.loop-byte-test.true c.if-byte-lt48.false c.if-byte-gt57.false c.from.ensures c.loop-byte.invariant
