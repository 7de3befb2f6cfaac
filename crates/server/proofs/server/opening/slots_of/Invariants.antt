-- As many slots are there as have been added.
use Rattle.std.proofs.Common.{◌≡◌, vec_len}
use Rattle.server.proofs.server.opening.slots_of.Given as goal

abbrev pub invariant-loop-added : goal.invariant-loop-added
invariant-loop-added g l = vec_len l.slots ≡ l.added
