use Rattle.negotiate.proofs.AcceptedPeersTakeFragments.{accepted_maximum}
use Rattle.negotiate.proofs.laws.accepted_peers_take_fragments.Goals as goal

pub returns : goal.returns
returns c = accepted_maximum
