use Rattle.engine.proofs.WorkedRuns.OneCtStore.{a_filing_fails_once}
use Rattle.engine.proofs.laws.a_filing_fails_once.Goals as goal

pub returns : goal.returns
returns c = a_filing_fails_once
