-- What was exchanged over a connection so far, and its effect.
use Rattle.std.specs.Prelude.{◌≡◌, ℕ, ◌+◌, Bool, false, List, ◌++◌}
use Rattle.acceptor.specs.declared.state.State.{State}
use Rattle.negotiate.specs.Settings.{Settings}
use Rattle.part10.specs.Store.{Store, reported_after}
use Rattle.engine.specs.declared.report.Report.{Report}
use Rattle.engine.specs.Devices.{filed}
use Rattle.engine.specs.Held.{Held}
use Rattle.engine.specs.Inputs.{Received, stream_of}
use Rattle.engine.specs.Ran.{Run, EndsLast, standing_of}
use Rattle.engine.specs.Reached.{reached}
use Rattle.engine.specs.Run.{wire_failures, filing_failures}
use Rattle.engine.specs.Timeline.{Happened}
use Rattle.serving.specs.Closes.{ClosesWithSocket}
use Rattle.serving.specs.Rooms.{served_rooms}
use Rattle.serving.specs.declared.exchange.Exchange.{Exchange}
use Rattle.serving.specs.Wires.{pending_in, unconsumed_in}

-- There are inputs whose pieces, put together, are the bytes that were read except those that the association no longer
-- accepted. They determine the bytes that the socket accepted followed by those that it no longer accepted, the files,
-- how the association stands and what it holds. No input followed one that ended the association; if the last is the
-- transport's close, the socket has closed. No send failed, each failure of the filing is counted, and no draft
-- remains.
pub record ExchangedSoFar (s : Settings) (report : Report) (read unconsumed : List ℕ) (ends : ℕ) (sent unsent : List ℕ) (refusals : ℕ) (old new : Store) : Type 0 where
  pub inputs : List Received
  pub story : List Happened
  pub failed : Bool
  pub files : List (List ℕ)
  pub state : State
  pub pieces : stream_of inputs ++ unconsumed ≡ read
  pub run : Run served_rooms s inputs story failed (sent ++ unsent) files state
  pub last : EndsLast served_rooms s inputs story
  pub closed : ClosesWithSocket inputs unconsumed ends unsent refusals
  pub unfailed : wire_failures story ≡ 0
  pub standing : report.standing ≡ standing_of state
  pub held : Held served_rooms s (reached served_rooms s inputs story failed) report.held
  pub reported : new.reported ≡ reported_after (filed files) old.reported
  pub count : new.failures ≡ old.failures + filing_failures story failed
  pub no_draft : new.has_draft ≡ false

-- the promise for a connection, by its exchange and by its filing before and after
abbrev pub IsServed : {S : Type 0} → Settings → Exchange S → Store → Store → Type 0
IsServed s exchange old new =
    ExchangedSoFar s exchange.report exchange.read.trace.bytes (unconsumed_in exchange.unconsumed) exchange.read.stops
    exchange.sent.trace.bytes (pending_in exchange.unsent) exchange.sent.stops old new
