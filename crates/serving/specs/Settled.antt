-- The files of the replies were settled before the replies were sent.
use Rattle.std.specs.Prelude.{◌≡◌, ℕ, Bool, List, ◌++◌}
use Rattle.acceptor.specs.declared.state.State.{State}
use Rattle.negotiate.specs.Settings.{Settings}
use Rattle.part10.specs.Store.{Store}
use Rattle.engine.specs.Devices.{files_in, with_files}
use Rattle.engine.specs.Inputs.{Received}
use Rattle.engine.specs.Ran.{Run}
use Rattle.engine.specs.Timeline.{Happened}
use Rattle.serving.specs.Rooms.{served_rooms}
use Rattle.serving.specs.Served.{IsServed}
use Rattle.serving.specs.declared.exchange.Exchange.{Exchange}

-- The sent bytes are the first of those that the first of these inputs determine, and the filing then had the files
-- that these inputs determine.
pub record SentAfter (s : Settings) (all : List Received) (sent : List ℕ) (old settled : Store) : Type 0 where
  pub inputs : List Received
  pub later : List Received
  pub story : List Happened
  pub failed : Bool
  pub unsent : List ℕ
  pub files : List (List ℕ)
  pub state : State
  pub first : inputs ++ later ≡ all
  pub run : Run served_rooms s inputs story failed (sent ++ unsent) files state
  pub files_then : files_in settled ≡ with_files files (files_in old)

-- the bytes that the socket of a connection accepted
abbrev pub sent_by : {S : Type 0} → Exchange S → List ℕ
sent_by exchange = exchange.sent.trace.bytes

-- a connection kept the promise, and its filing was settled, with these files, when bytes were last written to its
-- socket
abbrev pub SettlesFirst : {S : Type 0} → Settings → Exchange S → Store → Store → Store → Type 0
SettlesFirst s exchange old settled new = (served : IsServed s exchange old new) × SentAfter s served.inputs (sent_by exchange) old settled
