use Rattle.sequence.proofs.Public.{refused_stands}
use Rattle.sequence.proofs.laws.a_refused_walker_stands.Goals as goal

pub returns : goal.returns
returns c = refused_stands
