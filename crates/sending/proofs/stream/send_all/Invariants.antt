use Rattle.std.proofs.Common.{◌≡◌, ◌++◌, length}
use Rattle.sending.proofs.stream.send_all.Given as goal

abbrev pub invariant-loop-rest : goal.invariant-loop-rest
invariant-loop-rest g l = record {
  sent : l.stream.written.bytes ++ l.rest ≡ l.fn.stream.written.bytes ++ l.bytes;
  same : l.stream.read ≡ l.fn.stream.read;
}

abbrev pub decreases-loop-rest : goal.decreases-loop-rest
decreases-loop-rest g l = length l.rest
