-- How the devices of an association change along its timeline.
use Rattle.std.specs.Prelude.{◌≡◌, ◌+◌, Bool, List}
use Rattle.negotiate.specs.Settings.{Settings}
use Rattle.engine.specs.Devices.{Devices, line_with, files_in, with_files}
use Rattle.engine.specs.Timeline.{Happened}
use Rattle.engine.specs.Progress.{Progress}
use Rattle.engine.specs.Run.{Rooms, sent_of, files_of, wire_failures, counted, filing_failures}

-- The change of the devices along a part of the timeline: the bytes sent, the files stored, and the failures.
-- `failed` says whether a call of the filing had failed after the last entry before this part, which is counted
-- there, `failed_then` whether one has after its own last entry.
pub record Gains (rooms : Rooms) (s : Settings) (p : Progress) (story : List Happened) (failed failed_then : Bool) (old new : Devices) : Type 0 where
  pub line : new.line ≡ line_with (sent_of rooms s p story) (wire_failures story) old.line
  pub files : files_in new.store ≡ with_files (files_of rooms s p story) (files_in old.store)
  pub count : new.store.failures + counted failed ≡ old.store.failures + filing_failures story failed_then
