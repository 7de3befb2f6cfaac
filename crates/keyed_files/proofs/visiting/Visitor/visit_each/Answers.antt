-- The folders so far and the next one are one visit; one that can't be listed is counted.
use Rattle.keyed_files.specs.Visiting.{none}
use Rattle.keyed_files.proofs.VisitsContinue.{counted_after, visited_then}
use Rattle.keyed_files.proofs.visiting.Visitor.visit_each.Goals as goal
use Rattle.keyed_files.proofs.visiting.Visitor.visit_each.Goals.{in-Ok, in-Err+in_ok-report_failure-in-Err}

pub loop-dir-init : goal.loop-dir-init
loop-dir-init g c = none

pub loop-dir-preserved : goal.loop-dir-preserved
loop-dir-preserved g c = elim c.match-visit_folders.branch [
  | in-Ok w ↦ rw w.self-is (visited_then g.T.Consumer.consumed c.loop-dir.invariant w.in-Ok.ensures.visited)
  | in-Err+in_ok-report_failure-in-Err w ↦
      rw w.self-is (counted_after g.T.Consumer.consumed c.loop-dir.invariant w.in-Err.ensures.stops w.in_ok-report_failure-in-Err.ensures.counted)
]
