use Rattle.sequence.proofs.Public.{unknown_content}
use Rattle.sequence.proofs.laws.unknown_content.Goals as goal

pub returns : goal.returns
returns c = unknown_content
