-- What contracts see of the bytes of one connection.
use Rattle.std.specs.Prelude.{◌≡◌, ℕ, ◌≤◌, ◌<◌, List, [], ◌++◌, length, slice_range, Some}
use Rattle.engine.specs.Inputs.{Received}
use Rattle.pdu.specs.Sent.{Line}
use Rattle.serving.specs.Closes.{ClosesWithSocket, HasClosed}
use Rattle.serving.specs.declared.buffered_socket.BufferedSocket.{BufferedSocket}
use Rattle.serving.specs.declared.inbox.Inbox.{Inbox}
use Rattle.serving.specs.declared.inbox.Arrival.{Arrival}
use Rattle.serving.specs.declared.inbox.Arrival.TheVariants as arrival
use Rattle.serving.specs.declared.outbox.Outbox.{Outbox}

-- the bytes that wait until the socket accepts them
abbrev pub pending_in : Outbox → List ℕ
pending_in outbox = outbox.bytes.items

-- an outbox as a wire
abbrev pub line_of : Outbox → Line
line_of outbox = record { sent = Some (pending_in outbox); failures = outbox.failures }

-- what an association has sent: what its socket accepted, and what waits
abbrev pub sent_over : {S : Type 0} → BufferedSocket S → List ℕ
sent_over socket = socket.traced.written.bytes ++ pending_in socket.outbox

-- the bytes that were read and wait until the association accepts them
abbrev pub unconsumed_in : Inbox → List ℕ
unconsumed_in inbox = slice_range inbox.bytes.value inbox.consumed inbox.read

-- what was read is these bytes, which were accepted, followed by what waits
abbrev pub IsConsumedOf : {S : Type 0} → List ℕ → BufferedSocket S → Type 0
IsConsumedOf consumed socket = consumed ++ unconsumed_in socket.inbox ≡ socket.traced.read.bytes

-- the socket of a connection has closed
abbrev pub IsClosed : {S : Type 0} → BufferedSocket S → Type 0
IsClosed socket = HasClosed (unconsumed_in socket.inbox) socket.ends (pending_in socket.outbox) socket.refusals

-- if the last of the inputs is the transport's close, the socket has closed
abbrev pub ClosesWith : {S : Type 0} → List Received → BufferedSocket S → Type 0
ClosesWith inputs socket = ClosesWithSocket inputs (unconsumed_in socket.inbox) socket.ends (pending_in socket.outbox) socket.refusals

-- the bytes that were read grow by those that arrived, and so do those that wait
abbrev pub ReadsMore : Arrival → List ℕ → List ℕ → List ℕ → List ℕ → Type 0
ReadsMore (arrival.Bytes n) pending pending_new old new = (more : List ℕ) × (length more ≡ n) × (pending_new ≡ pending ++ more) × (new ≡ old ++ more)
ReadsMore arrival.Nothing pending pending_new old new = (pending_new ≡ pending) × (new ≡ old)
ReadsMore (arrival.End end) pending pending_new old new = (pending_new ≡ pending) × (new ≡ old)

-- the socket reported its end at least once if no more bytes arrive, and no further time if nothing has arrived yet
abbrev pub CountsEnd : Arrival → ℕ → ℕ → Type 0
CountsEnd (arrival.Bytes n) old new = Unit {0}
CountsEnd arrival.Nothing old new = new ≡ old
CountsEnd (arrival.End end) old new = 0 < new

-- nothing more was read, and all that was read was accepted
abbrev pub NothingMore : {S : Type 0} → BufferedSocket S → BufferedSocket S → Type 0
NothingMore old new = (new.traced.read.bytes ≡ old.traced.read.bytes) × (unconsumed_in old.inbox ≡ []) × (unconsumed_in new.inbox ≡ [])

-- so many of the waiting bytes are to be accepted, at most as many as requested; the socket has nothing, or nothing
-- more, only if all that was read was accepted
abbrev pub Arrives : {S : Type 0} → ℕ → Arrival → BufferedSocket S → BufferedSocket S → Type 0
Arrives most (arrival.Bytes n) old new = (n ≤ length (unconsumed_in new.inbox)) × (n ≤ most) × ((consumed : List ℕ) → IsConsumedOf consumed old → IsConsumedOf consumed new)
Arrives most arrival.Nothing old new = NothingMore old new
Arrives most (arrival.End end) old new = NothingMore old new
