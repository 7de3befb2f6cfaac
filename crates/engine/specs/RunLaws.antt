-- Statements on C-STOREs in a whole run.
use Rattle.std.specs.Prelude.{◌≡◌, ℕ, Bool, List, ◌∷◌, ◌++◌, None}
use Rattle.acceptor.specs.declared.state.State.{State}
use Rattle.engine.specs.Requested.{request_record}
use Rattle.dimse.specs.Command.{CommandRecord}
use Rattle.dimse.specs.Messages.{Message}
use Rattle.dimse.specs.Reply.{reply_bytes}
use Rattle.dimse.specs.Status.{success}
use Rattle.negotiate.specs.declared.proposals.Context.{Context}
use Rattle.negotiate.specs.Settings.{Settings}
use Rattle.engine.specs.Inputs.{Received}
use Rattle.engine.specs.Timeline.{Happened}
use Rattle.engine.specs.Progress.{at_start}
use Rattle.engine.specs.Run.{Rooms, gives, progress_of, sent_of, files_of, wire_failures, filing_failures}
use Rattle.engine.specs.declared.report.Report.{Report}
use Rattle.engine.specs.Devices.{Devices}
use Rattle.engine.specs.Ran.{Run, Answered}
use Rattle.engine.specs.Laws.{DifferInCuts}
use Rattle.engine.specs.StoreLaws.{EndsAt, IsGoodImage, IsCalm, file_of}

-- In a run in which a good image ends and no device fails during its message, its file is stored between those of the
-- entries before and after, and so is the response with success sent.
pub record IsFiledBetween (rooms : Rooms) (s : Settings) (before : List Happened) (h : Happened) (after : List Happened)
    (m : Message) (command : CommandRecord) (context : Context) (sent : List ℕ) (files : List (List ℕ)) : Type 0 where
  pub files_are : files ≡ files_of rooms s at_start before
      ++ file_of command context.syntax (request_record (progress_of rooms s at_start before).request).calling m.set
      ∷ files_of rooms s (gives rooms s (progress_of rooms s at_start before) h).next after
  pub sent_is : sent ≡ sent_of rooms s at_start before
      ++ (reply_bytes command success None m.context (request_record (progress_of rooms s at_start before).request).maximum
      ++ sent_of rooms s (gives rooms s (progress_of rooms s at_start before) h).next after)

-- Every good image that a run has received whole, with no device failing during its message, is stored and answered
-- with success, whatever else its association received.
abbrev pub EveryGoodImageIsFiled : Type 0
EveryGoodImageIsFiled =
    (rooms : Rooms) (s : Settings) (inputs : List Received) (before after : List Happened) (h : Happened) (failed : Bool)
    (sent : List ℕ) (files : List (List ℕ)) (state : State) (m : Message) (command : CommandRecord) (context : Context)
    → Run rooms s inputs (before ++ h ∷ after) failed sent files state
    → EndsAt (progress_of rooms s at_start before) h m command context → IsGoodImage rooms.depth s.max_data context command m.set → IsCalm (progress_of rooms s at_start before) h
    → IsFiledBetween rooms s before h after m command context sent files

-- ---- a run without failures

-- no send and no call of the filing failed in this trace
pub record IsUnfailed (story : List Happened) (failed : Bool) : Type 0 where
  pub wire : wire_failures story ≡ 0
  pub filing : filing_failures story failed ≡ 0

-- The inputs determine the run in which no device fails: two lists that differ only in how bytes are divided into
-- pieces have the same sent bytes, the same files and the same state.
abbrev pub OneRun : Type 0
OneRun =
    (rooms : Rooms) (s : Settings) (a b : List Received) (story story2 : List Happened) (failed failed2 : Bool) (sent sent2 : List ℕ) (files files2 : List (List ℕ)) (state state2 : State)
    → DifferInCuts a b → Run rooms s a story failed sent files state → Run rooms s b story2 failed2 sent2 files2 state2
    → IsUnfailed story failed → IsUnfailed story2 failed2
    → (sent ≡ sent2) × (files ≡ files2) × (state ≡ state2)

-- no device failed between these two states of the devices
pub record NoneFailed (old new : Devices) : Type 0 where
  pub wire : new.line.failures ≡ old.line.failures
  pub filing : new.store.failures ≡ old.store.failures

-- two runs with the same bytes sent, the same files, the same state and the same number of held bytes
pub record SameOutcome (rooms : Rooms) (s : Settings) (a b : List Received) (one other : Report) (old new old2 new2 : Devices)
    (x : Answered rooms s a one old new) (y : Answered rooms s b other old2 new2) : Type 0 where
  pub sent : x.sent ≡ y.sent
  pub files : x.files ≡ y.files
  pub state : x.state ≡ y.state
  pub standing : one.standing ≡ other.standing
  pub held : one.held ≡ other.held

-- Two runs in which no device fails and whose inputs differ only in how bytes are divided into pieces send the same
-- bytes, store the same files, end in the same state and hold the same number of bytes.
abbrev pub CutsGiveTheSame : Type 0
CutsGiveTheSame =
    (rooms : Rooms) (s : Settings) (a b : List Received) (one other : Report) (old new old2 new2 : Devices)
    → DifferInCuts a b → (x : Answered rooms s a one old new) → (y : Answered rooms s b other old2 new2) → NoneFailed old new → NoneFailed old2 new2
    → SameOutcome rooms s a b one other old new old2 new2 x y
