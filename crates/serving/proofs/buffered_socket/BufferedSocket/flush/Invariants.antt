-- What the socket consumed is gone from the outbox, and nothing else: one byte at least for each call.
use Rattle.std.proofs.Common.{◌≡◌, ◌+◌, ◌≤◌, length}
use Rattle.serving.specs.Wires.{pending_in, sent_over}
use Rattle.serving.proofs.buffered_socket.BufferedSocket.flush.Given as goal

abbrev pub invariant-loop-call : goal.invariant-loop-call
invariant-loop-call g l =
    (sent_over l.self ≡ sent_over l.fn.self) × (length (pending_in l.self.outbox) + l._call ≤ length (pending_in l.fn.self.outbox)) × (l.self.outbox.failures ≡ l.fn.self.outbox.failures) × (l.self.traced.read ≡ l.fn.self.traced.read) × (l.self.ends ≡ l.fn.self.ends) × (l.self.inbox ≡ l.fn.self.inbox)
