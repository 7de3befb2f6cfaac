use Rattle.sequence.proofs.Public.{one_path}
use Rattle.sequence.proofs.laws.one_path.Goals as goal

pub returns : goal.returns
returns c = one_path
