-- The slots that were counted and those to come are all of the peer's.
use Rattle.std.proofs.Common.{◌≡◌, ◌≤◌, ◌+◌, drop}
use Rattle.admitting.specs.Occupants.{slots_of}
use Rattle.admitting.proofs.slots.Slots.slots_of.Given as goal

abbrev pub invariant-loop-other : goal.invariant-loop-other
invariant-loop-other g l = (l.count ≤ l.other-index) × (l.count + slots_of l.peer (drop l.other-index l.other-items) ≡ slots_of l.peer l.other-items)
