use Rattle.std.proofs.Common.{◌≡◌, ◌≤◌, ◌-◌, ◌++◌, length, take}
use Rattle.sending.proofs.stream.fill.Given as goal

abbrev pub invariant-loop-at : goal.invariant-loop-at
invariant-loop-at g l = record {
  size : length l.room ≡ length l.fn.room;
  within : l.at ≤ length l.room;
  read : l.input.read.bytes ≡ l.fn.input.read.bytes ++ take l.at l.room;
  same : l.input.written ≡ l.fn.input.written;
}

abbrev pub decreases-loop-at : goal.decreases-loop-at
decreases-loop-at g l = length l.room - l.at
