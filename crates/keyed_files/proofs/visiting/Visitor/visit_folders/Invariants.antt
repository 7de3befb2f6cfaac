-- What was visited so far is a visit.
use Rattle.keyed_files.specs.Visiting.{state_of_visit, Visited}
use Rattle.keyed_files.proofs.visiting.Visitor.visit_folders.Given as goal

abbrev pub invariant-loop : goal.invariant-loop
invariant-loop g l = Visited g.T.Consumer.consumed l.fn.consumer l.consumer (state_of_visit l.fn.self) (state_of_visit l.self)
