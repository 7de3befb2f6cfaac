-- What was visited so far and the next entry are one visit.
use Rattle.std.proofs.Common.{refl}
use Rattle.keyed_files.specs.Visiting.{none, unopened}
use Rattle.keyed_files.proofs.VisitsContinue.{stops_at, visited_same, visited_then}
use Rattle.keyed_files.proofs.visiting.Visitor.visit_folders.Goals as goal

pub returns-in_err-walk-clause-stops : goal.returns-in_err-walk-clause-stops
returns-in_err-walk-clause-stops g c = stops_at g.T.Consumer.consumed c.from_residual.result none unopened

pub loop-init : goal.loop-init
loop-init g c = visited_same g.T.Consumer.consumed refl

pub returns-in_err-entry-clause-stops : goal.returns-in_err-entry-clause-stops
returns-in_err-entry-clause-stops g c = stops_at g.T.Consumer.consumed c.from_residual-in_err-entry.result c.loop.invariant unopened

pub returns-in_err-visit-in-Some-clause-stops : goal.returns-in_err-visit-in-Some-clause-stops
returns-in_err-visit-in-Some-clause-stops g c =
    stops_at g.T.Consumer.consumed c.from_residual-in_err-visit-in-Some.result c.loop.invariant c.in_err-visit-in-Some.ensures.fails

pub loop-preserved : goal.loop-preserved
loop-preserved g c = visited_then g.T.Consumer.consumed c.loop.invariant c.in_ok-visit-in-Some.ensures.visited
