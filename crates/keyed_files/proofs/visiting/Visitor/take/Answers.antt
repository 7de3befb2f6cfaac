-- What could not be opened is not read, and what was read and failed is not counted.
use Rattle.keyed_files.proofs.VisitsContinue.{fails_handled, fails_nothing}
use Rattle.keyed_files.proofs.visiting.Visitor.take.Goals as goal

pub returns-in_err-read-clause-fails : goal.returns-in_err-read-clause-fails
returns-in_err-read-clause-fails g c = fails_nothing g.T.Consumer.consumed _ _ _ c.from_residual.result c.in_err-read.ensures.none

pub returns-clause-fails : goal.returns-clause-fails
returns-clause-fails g c =
    fails_handled g.T.Consumer.consumed _ _ _ _ _ c.in_ok-read.read c.handle.result c.in_ok-read.ensures.read c.handle.ensures.same c.handle.ensures.counted c.handle.ensures.over
