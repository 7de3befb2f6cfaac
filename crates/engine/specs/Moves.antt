-- The effect of one more input on an association and its devices.
use Rattle.std.specs.Prelude.{◌≡◌, Bool, true, false, List, [], ◌∷◌, ◌++◌}
use Rattle.negotiate.specs.Settings.{Settings}
use Rattle.engine.specs.Devices.{Devices}
use Rattle.engine.specs.Gains.{Gains}
use Rattle.engine.specs.Inputs.{Received}
use Rattle.engine.specs.Timeline.{Happened}
use Rattle.engine.specs.Progress.{at_start}
use Rattle.engine.specs.Run.{Rooms, progress_of}
use Rattle.engine.specs.Drafts.{Drafts}
use Rattle.engine.specs.Stands.{Stands, drafting}
use Rattle.engine.specs.FrameFields.{Fields}

-- A failure of the filing after the last entry before the input is counted at the next entry, and so with the C-STORE
-- whose data set had been received; if the input causes no entry, it is still to be counted.
abbrev pub StaysCharged : Bool → List Happened → Bool → Type 0
StaysCharged false more failed_then = Unit {0}
StaysCharged true [] failed_then = failed_then ≡ true
StaysCharged true (h ∷ more) failed_then = h.1.filing ≡ true

-- The effect of one more input: some entries are appended to the story, the association is in the state that the
-- inputs determine, and the devices have changed by these entries.
pub record Moved (rooms : Rooms) (s : Settings) (inputs : List Received) (story : List Happened) (failed : Bool) (input : Received) (seen_old seen_new : Fields) (old new : Devices) : Type 0 where
  pub more : List Happened
  pub failed_then : Bool
  pub charged : StaysCharged failed more failed_then
  pub stands : Stands rooms s (inputs ++ input ∷ []) (story ++ more) failed_then seen_new new.store
  pub gains : Gains rooms s (progress_of rooms s at_start story) more failed failed_then old new
  pub drafts : Drafts (drafting seen_old) old.store (drafting seen_new) new.store

-- an association that has ended stays unchanged, and so do its devices (PS3.8 section 9.2.2: in Sta1 there is no
-- association)
pub record StaysEnded (seen_old seen_new : Fields) (old new : Devices) : Type 0 where
  pub seen : seen_new ≡ seen_old
  pub devices : new ≡ old
