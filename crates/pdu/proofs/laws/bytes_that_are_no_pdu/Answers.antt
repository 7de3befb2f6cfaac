use Rattle.pdu.proofs.ShortStreamsAreMarked.{unknown_type, not_yet}
use Rattle.pdu.proofs.laws.bytes_that_are_no_pdu.Goals as goal

pub returns : goal.returns
returns c = record { sixth = unknown_type; fifth = not_yet }
