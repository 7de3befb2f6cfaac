use Rattle.pdu.proofs.ShortStreamsAreMarked.{good_before_bad, good_at_once, does_not_wait}
use Rattle.pdu.proofs.laws.a_good_value_before_a_bad_one.Goals as goal

pub returns : goal.returns
returns c = record { whole = good_before_bad; at_once = good_at_once; no_waiting = does_not_wait }
