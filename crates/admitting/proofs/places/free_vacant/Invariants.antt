-- The slots of the places that were looked at are freed where there is no connection.
use Rattle.std.proofs.Common.{◌≡◌, map, take}
use Rattle.admitting.specs.Occupants.{after_freeing}
use Rattle.admitting.proofs.places.free_vacant.Given as goal

abbrev pub invariant-loop-slot : goal.invariant-loop-slot
invariant-loop-slot g l = l.slots ≡ after_freeing (take l.slot (map g.P.Occupiable.is_occupied l.places)) l.fn.slots
