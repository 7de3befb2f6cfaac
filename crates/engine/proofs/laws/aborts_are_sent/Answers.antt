use Rattle.engine.proofs.Public.{entries_abort, stories_abort}
use Rattle.engine.proofs.laws.aborts_are_sent.Goals as goal

pub returns-clause-entry : goal.returns-clause-entry
returns-clause-entry c = entries_abort

pub returns-clause-story : goal.returns-clause-story
returns-clause-story c = stories_abort
