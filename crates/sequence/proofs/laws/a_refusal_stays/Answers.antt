use Rattle.sequence.proofs.Public.{refusal_stays}
use Rattle.sequence.proofs.laws.a_refusal_stays.Goals as goal

pub returns : goal.returns
returns c = refusal_stays
