-- What contracts see of a connection.
use Rattle.std.specs.Prelude.{ℕ, Bool, List, Option}
use Rattle.std.specs.declared.time.Instant.{Instant}
use Rattle.acceptor.specs.declared.state.State.{State}
use Rattle.negotiate.specs.Settings.{Settings}
use Rattle.part10.specs.declared.filing.Filing
use Rattle.part10.specs.declared.settling.Settling
use Rattle.service.specs.declared.observer.Observer
use Rattle.engine.specs.Fields.{drafting_of, settings_in, state_of}
use Rattle.engine.specs.Inputs.{Received, inputs_of}
use Rattle.element.specs.declared.traced_stream.TracedStream.{TracedStream}
use Rattle.serving.specs.declared.moment.Moment.{Moment}
use Rattle.serving.specs.declared.open_connection.Connection.{Connection}
use Rattle.engine.specs.Held.{is_ended}
use Rattle.serving.specs.Causes.{is_to_close}
use Rattle.serving.specs.Own.{own_of}
use Rattle.serving.specs.TimeLimits.{TimeLimits}
use Rattle.serving.specs.Timed.{asked_at}
use Rattle.serving.specs.Wires.{IsClosed, pending_in, unconsumed_in}

-- the settings of a connection's association
abbrev pub settings_at : {S F B Y : Type 0} {G : Settling.Ghosts F Y} {H : Filing.Ghosts F} {O : Observer.Ghosts B} → Connection S F B Y G H O → Settings
settings_at c = settings_in c.association.value

-- the state of a connection's association
abbrev pub state_at : {S F B Y : Type 0} {G : Settling.Ghosts F Y} {H : Filing.Ghosts F} {O : Observer.Ghosts B} → Connection S F B Y G H O → State
state_at c = state_of c.association.value

-- whether a store of a connection's association has its draft in the filing
abbrev pub drafting_at : {S F B Y : Type 0} {G : Settling.Ghosts F Y} {H : Filing.Ghosts F} {O : Observer.Ghosts B} → Connection S F B Y G H O → Bool
drafting_at c = drafting_of c.association.value

-- the filing of a connection, as it was when the connection was opened
abbrev pub opening_of : {S F B Y : Type 0} {G : Settling.Ghosts F Y} {H : Filing.Ghosts F} {O : Observer.Ghosts B} → Connection S F B Y G H O → F
opening_of c = c.opened.value

-- the filing of a connection
abbrev pub filing_of : {S F B Y : Type 0} {G : Settling.Ghosts F Y} {H : Filing.Ghosts F} {O : Observer.Ghosts B} → Connection S F B Y G H O → F
filing_of c = c.filing

-- the socket of a connection, with what was read from it and what it accepted, and how often it reported its end and
-- accepted nothing
abbrev pub socket_of : {S F B Y : Type 0} {G : Settling.Ghosts F Y} {H : Filing.Ghosts F} {O : Observer.Ghosts B} → Connection S F B Y G H O → TracedStream S × (ℕ × ℕ)
socket_of c = (c.socket.traced, (c.socket.ends, c.socket.refusals))

-- the bytes that wait until the socket accepts them
abbrev pub waiting_at : {S F B Y : Type 0} {G : Settling.Ghosts F Y} {H : Filing.Ghosts F} {O : Observer.Ghosts B} → Connection S F B Y G H O → List ℕ
waiting_at c = pending_in c.socket.outbox

-- the bytes that were read and wait until the association accepts them
abbrev pub unconsumed_at : {S F B Y : Type 0} {G : Settling.Ghosts F Y} {H : Filing.Ghosts F} {O : Observer.Ghosts B} → Connection S F B Y G H O → List ℕ
unconsumed_at c = unconsumed_in c.socket.inbox

-- the socket of a connection has closed
abbrev pub IsClosedAt : {S F B Y : Type 0} {G : Settling.Ghosts F Y} {H : Filing.Ghosts F} {O : Observer.Ghosts B} → Connection S F B Y G H O → Type 0
IsClosedAt c = IsClosed c.socket

-- how many writes accepted nothing since the socket last accepted a byte
abbrev pub refusals_at : {S F B Y : Type 0} {G : Settling.Ghosts F Y} {H : Filing.Ghosts F} {O : Observer.Ghosts B} → Connection S F B Y G H O → ℕ
refusals_at c = c.socket.refusals

-- how long the peer of a connection is waited for
abbrev pub times_at : {S F B Y : Type 0} {G : Settling.Ghosts F Y} {H : Filing.Ghosts F} {O : Observer.Ghosts B} → Connection S F B Y G H O → TimeLimits
times_at c = c.deadlines

-- the inputs of a connection's association so far, in their order
abbrev pub inputs_at : {S F B Y : Type 0} {G : Settling.Ghosts F Y} {H : Filing.Ghosts F} {O : Observer.Ghosts B} → Connection S F B Y G H O → List Received
inputs_at c = inputs_of c.given.named

-- when these inputs occurred
abbrev pub moments_at : {S F B Y : Type 0} {G : Settling.Ghosts F Y} {H : Filing.Ghosts F} {O : Observer.Ghosts B} → Connection S F B Y G H O → List Moment
moments_at c = c.moments

-- how long the peer of a connection was waited for when it was opened
abbrev pub initial_of : {S F B Y : Type 0} {G : Settling.Ghosts F Y} {H : Filing.Ghosts F} {O : Observer.Ghosts B} → Connection S F B Y G H O → TimeLimits
initial_of c = c.initial.value

-- what a connection was opened with, which no call changes: the settings of its association, its filing as it was then,
-- and how long its peer was waited for
pub record Origin (F : Type 0) : Type 0 where
  pub settings : Settings
  pub filing : F
  pub initial : TimeLimits

abbrev pub origin_of : {S F B Y : Type 0} {G : Settling.Ghosts F Y} {H : Filing.Ghosts F} {O : Observer.Ghosts B} → Connection S F B Y G H O → Origin F
origin_of c = record { settings = settings_at c; filing = opening_of c; initial = initial_of c }

-- whether a connection has to end because its server does
abbrev pub stopped_at : {S F B Y : Type 0} {G : Settling.Ghosts F Y} {H : Filing.Ghosts F} {O : Observer.Ghosts B} → Connection S F B Y G H O → Bool
stopped_at c = c.is_stopped

-- whether a file of a connection was lost while it waited to be settled
abbrev pub lost_at : {S F B Y : Type 0} {G : Settling.Ghosts F Y} {H : Filing.Ghosts F} {O : Observer.Ghosts B} → Connection S F B Y G H O → Bool
lost_at c = c.is_lost

-- whether a connection is to be closed, by whether a file of its filing waits to be settled
abbrev pub is_to_close_at : {S F B Y : Type 0} {G : Settling.Ghosts F Y} {H : Filing.Ghosts F} {O : Observer.Ghosts B} → (F → Bool) → Connection S F B Y G H O → Bool
is_to_close_at has_pending c = is_to_close (is_ended (state_at c)) (lost_at c) (stopped_at c) (has_pending (filing_of c))

-- when a connection's association was aborted for its server, if it was
abbrev pub aborted_at : {S F B Y : Type 0} {G : Settling.Ghosts F Y} {H : Filing.Ghosts F} {O : Observer.Ghosts B} → Connection S F B Y G H O → Option Instant
aborted_at c = c.aborted

-- what a server itself did to a connection: the inputs of its own, when it requested aborts, when it aborted the
-- association, and whether the connection has to end because the server does
pub record Interventions : Type 0 where
  pub own : List Received
  pub asked : List ℕ
  pub aborted : Option Instant
  pub stopped : Bool

abbrev pub interventions_in : {S F B Y : Type 0} {G : Settling.Ghosts F Y} {H : Filing.Ghosts F} {O : Observer.Ghosts B} → Connection S F B Y G H O → Interventions
interventions_in c = record { own = own_of (inputs_at c); asked = asked_at (moments_at c); aborted = aborted_at c; stopped = stopped_at c }
