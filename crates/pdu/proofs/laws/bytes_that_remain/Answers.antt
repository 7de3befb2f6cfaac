use Rattle.pdu.proofs.ShortStreamsAreMarked.{one_remaining, five_remaining, five_dropped, six_remaining}
use Rattle.pdu.proofs.laws.bytes_that_remain.Goals as goal

pub returns : goal.returns
returns c = record { one = one_remaining; five = five_remaining; dropped = five_dropped; six = six_remaining }
