-- The number of held bytes is determined, and its bounds (this product's own profile).
use Rattle.std.specs.Prelude.{◌≡◌, ℕ, ◌+◌, ◌*◌, ◌≤◌, Bool, List, []}
use Rattle.acceptor.specs.declared.state.State.{State}
use Rattle.acceptor.specs.declared.state.State.TheVariants.{Sta6}
use Rattle.element.specs.Numbers.{IsBytes}
use Rattle.sequence.specs.Wanted.{level_size}
use Rattle.negotiate.specs.Settings.{Settings}
use Rattle.engine.specs.Held.{Held, accepted_most}
use Rattle.engine.specs.Inputs.{Received, stream_of}
use Rattle.engine.specs.Progress.{at_start}
use Rattle.engine.specs.Reached.{Reached, reached}
use Rattle.engine.specs.Run.{Rooms, progress_of}
use Rattle.engine.specs.Timeline.{Happened, entries, entries_of}

-- No state of an association has two numbers of held bytes.
abbrev pub HeldIsOne : Type 0
HeldIsOne = (rooms : Rooms) (s : Settings) (r : Reached) (n m : ℕ) → Held rooms s r n → Held rooms s r m → n ≡ m

-- the number of held bytes is within the limits: at most their sum, and in an established association at most 544 and
-- those of a message
pub record IsWithinRooms (rooms : Rooms) (state : State) (n : ℕ) : Type 0 where
  pub all : n ≤ rooms.request + rooms.command + rooms.values + level_size * rooms.depth
  pub accepted : state ≡ Sta6 → n ≤ accepted_most + rooms.command + rooms.values + level_size * rooms.depth

-- The number of held bytes is within the limits, for all inputs and all outcomes of the entries of their timeline. It
-- follows from the definitions alone: from what is held, and from which heads are rejected.
abbrev pub HeldIsWithinRooms : Type 0
HeldIsWithinRooms = (rooms : Rooms) (s : Settings) (inputs : List Received) (story : List Happened) (failed : Bool) (n : ℕ)
    → 256 ≤ rooms.request → 140 ≤ rooms.values → IsBytes (stream_of inputs) → entries_of story ≡ entries [] inputs
    → Held rooms s (reached rooms s inputs story failed) n → IsWithinRooms rooms (progress_of rooms s at_start story).state n
