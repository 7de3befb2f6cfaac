use Rattle.sequence.proofs.Public.{past_its_item}
use Rattle.sequence.proofs.laws.a_header_past_its_item.Goals as goal

pub returns : goal.returns
returns c = past_its_item
