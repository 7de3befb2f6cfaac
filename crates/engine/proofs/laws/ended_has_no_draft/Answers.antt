use Rattle.engine.proofs.Public.{ended_has_no_draft}
use Rattle.engine.proofs.laws.ended_has_no_draft.Goals as goal

pub returns : goal.returns
returns c = ended_has_no_draft
