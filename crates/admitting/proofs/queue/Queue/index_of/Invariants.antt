-- Those before this one have other numbers.
use Rattle.std.proofs.Common.{take}
use Rattle.admitting.specs.Queues.{AllHaveOthers, waiting_in}
use Rattle.admitting.proofs.queue.Queue.index_of.Given as goal

abbrev pub invariant-loop-at : goal.invariant-loop-at
invariant-loop-at g l = AllHaveOthers l.fn.number (take l.at (waiting_in l.self))
