use Rattle.pdu.proofs.ShortStreamsAreMarked.{two_releases}
use Rattle.pdu.proofs.laws.two_frames.Goals as goal

pub returns : goal.returns
returns c = two_releases
