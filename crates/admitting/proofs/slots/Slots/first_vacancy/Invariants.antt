-- The slots before this one are not free.
use Rattle.std.proofs.Common.{◌≡◌, drop}
use Rattle.admitting.specs.Occupants.{first_vacancy}
use Rattle.admitting.proofs.slots.Slots.first_vacancy.Given as goal

abbrev pub invariant-loop-slot : goal.invariant-loop-slot
invariant-loop-slot g l = first_vacancy l.slot (drop l.slot l.peer-items) ≡ first_vacancy 0 l.peer-items
