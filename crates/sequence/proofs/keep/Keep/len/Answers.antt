use Rattle.std.proofs.Common.{arith}
use Rattle.sequence.proofs.WantedValues.OneRoom.{stored_bytes}
use Rattle.sequence.proofs.keep.Keep.len.Goals as goal

pub returns-clause-value : goal.returns-clause-value
returns-clause-value g c =
    let k = c.args.self.now in
    let s = stored_bytes k.wanted.list.items k.lengths k.bytes.items (omega (arith, k.counted)) in
    omega (arith, s, k.counted, c.len.ensures.value)
