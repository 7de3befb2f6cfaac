-- What could not be looked at is counted.
use Rattle.keyed_files.specs.Visiting.{none, unopened}
use Rattle.keyed_files.proofs.VisitsContinue.{fails_still, visited_counted}
use Rattle.keyed_files.proofs.visiting.Visitor.visit.Goals as goal

pub returns-clause-visited : goal.returns-clause-visited
returns-clause-visited g c = visited_counted g.T.Consumer.consumed _ c.report_unread.result none unopened c.report_unread.ensures.counted

pub returns-clause-fails : goal.returns-clause-fails
returns-clause-fails g c = fails_still g.T.Consumer.consumed _ _ _ _ _ c.report_unread.result unopened c.report_unread.ensures.same
