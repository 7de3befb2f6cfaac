-- The effect of a call that handles an entry of the timeline, and of several entries, one after the other.
use Rattle.std.specs.Prelude.{◌≡◌, ℕ, ◌+◌, Bool, true, false, ◌||◌, List, [], ◌∷◌}
use Rattle.negotiate.specs.Settings.{Settings}
use Rattle.engine.specs.Timeline.{Entry, Outcome, Happened, entries_of}
use Rattle.engine.specs.Progress.{Progress, absorb}
use Rattle.engine.specs.Devices.{Devices, line_with, files_in, with_files}
use Rattle.engine.specs.Run.{Rooms, gives, progress_of, fails, counted}
use Rattle.engine.specs.Fair.{MayFail, IsFair, AreFair}
use Rattle.engine.specs.Gains.{Gains}
use Rattle.engine.specs.Kept.{Kept, Pends}

-- an entry was handled with a possible outcome: the fields are those of the state after it, and the wire and the
-- filing have got what it sends and stores
pub record Does (rooms : Rooms) (s : Settings) (p : Progress) (entry : Entry) (new : Kept) (body started : List ℕ) (devices_old devices_new : Devices) : Type 0 where
  pub outcome : Outcome
  pub fair : IsFair rooms s p (entry, outcome)
  pub pends : Pends new devices_new.store (gives rooms s p (entry, outcome)).next body started
  pub line : devices_new.line ≡ line_with (gives rooms s p (entry, outcome)).sent (fails outcome.wire) devices_old.line
  pub files : files_in devices_new.store ≡ with_files (gives rooms s p (entry, outcome)).files (files_in devices_old.store)
  pub count : devices_new.store.failures ≡ devices_old.store.failures + counted outcome.filing

-- these entries were handled, one after the other
pub record DoesAll (rooms : Rooms) (s : Settings) (p : Progress) (entries : List Entry) (new : Kept) (body started : List ℕ) (devices_old devices_new : Devices) : Type 0 where
  pub story : List Happened
  pub failed : Bool
  pub reported : entries_of story ≡ entries
  pub fair : AreFair rooms s p story
  pub last : failed ≡ true → MayFail (progress_of rooms s p story) (progress_of rooms s p story)
  pub pends : Pends new devices_new.store (absorb failed (progress_of rooms s p story)) body started
  pub gains : Gains rooms s p story false failed devices_old devices_new

-- a part of a fragment was handled: a call of the filing may have failed
pub record Appends (rooms : Rooms) (s : Settings) (p : Progress) (new : Kept) (body started : List ℕ) (devices_old devices_new : Devices) : Type 0 where
  pub failed : Bool
  pub last : failed ≡ true → MayFail p p
  pub pends : Pends new devices_new.store (absorb failed p) body started
  pub gains : Gains rooms s p [] false failed devices_old devices_new

-- a trace, with a failure of the filing from before it (`f`) counted at its first entry; and whether a failure
-- remains uncounted, because the trace is empty
abbrev pub push : Bool → List Happened → List Happened
push f [] = []
push f ((entry, o) ∷ story) = (entry, record o { filing = f || o.filing }) ∷ story

abbrev pub still_failed : Bool → List Happened → Bool → Bool
still_failed f [] g = f || g
still_failed f (h ∷ story) g = g
