-- Those before this one get no slot, and nothing has changed.
use Rattle.std.proofs.Common.{◌≡◌, take}
use Rattle.admitting.specs.Queues.{AllGetNone, waiting_in}
use Rattle.admitting.proofs.queue.Queue.find.Given as goal

abbrev pub invariant-loop-at : goal.invariant-loop-at
invariant-loop-at g l = (l.slots ≡ l.fn.slots) × AllGetNone l.fn.slots (take l.at (waiting_in l.self))
