use Rattle.std.proofs.Common.{refl}
use Rattle.engine.proofs.association.Association.decision.Goals as goal

pub returns : goal.returns
returns g c = record { kept = refl; decided = λ inputs story failed store h. h.shows.frame.pends.decided_is }
