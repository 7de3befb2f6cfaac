use Rattle.sequence.proofs.Public.{whole_breaks_no_rule}
use Rattle.sequence.proofs.laws.whole_breaks_no_rule.Goals as goal

pub returns : goal.returns
returns c = whole_breaks_no_rule
