use Rattle.sequence.proofs.Public.{both_bytes}
use Rattle.sequence.proofs.laws.bytes_are_joined.Goals as goal

pub returns : goal.returns
returns c = both_bytes
