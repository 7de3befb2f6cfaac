use Rattle.std.proofs.Common.{◌≡◌, ◌≤◌, slice_range}
use Rattle.sending.proofs.DataInFragments.{Sending}
use Rattle.sending.proofs.buffers.Buffers.send_data.Given as goal

abbrev pub invariant-loop-turn : goal.invariant-loop-turn
invariant-loop-turn g l = record {
  headed : 12 ≤ l.start;
  ordered : l.start ≤ l.end;
  fits : l.end ≤ 65548;
  same : l.stream.read ≡ l.fn.stream.read;
  sending : Sending l.fn.route.context (slice_range l.fn.self.first l.fn.front.start l.fn.front.end) (slice_range l.self.first l.start l.end) l.fn.file.read.bytes l.file.read.bytes l.fn.stream.written.bytes l.stream.written.bytes;
}
