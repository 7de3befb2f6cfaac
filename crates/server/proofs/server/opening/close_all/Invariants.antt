-- As many slots are left as have not been gone through; each that was is among those that were closed.
use Rattle.std.proofs.Common.{◌≡◌, ◌+◌, length, vec_len}
use Rattle.server.specs.Histories.{slots_in}
use Rattle.server.proofs.server.opening.close_all.Given as goal

abbrev pub invariant-loop-done : goal.invariant-loop-done
invariant-loop-done g l =
    record {
      remaining : vec_len l.slots + l.done ≡ l.count;
      closed : length (slots_in l.closed.history) ≡ length (slots_in l.fn.closed.history) + l.done;
    }
