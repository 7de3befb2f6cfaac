-- What survives a loss of power of the C-STOREs that the connections of a server have answered with success, by the
-- model of a disk of `folder_filing`. This product's own profile.
use Rattle.std.specs.Prelude.{◌≡◌, ◌≢◌, ℕ, true, List, [], ◌∷◌, ◌++◌, length}
use Rattle.std.specs.List.{AllZip}
use Rattle.dimse.specs.Command.{CommandRecord}
use Rattle.dimse.specs.Messages.{Message}
use Rattle.dimse.specs.Status.{success}
use Rattle.negotiate.specs.Settings.{Settings}
use Rattle.negotiate.specs.declared.proposals.Context.{Context}
use Rattle.folder_filing.specs.Crashes.{Disk, HasFile, MayLeave}
use Rattle.folder_filing.specs.Naming.{IsOrderly, Naming}
use Rattle.folder_filing.specs.States.{FolderState}
use Rattle.folder_filing.specs.Synced.{reports}
use Rattle.folder_filing.specs.declared.call.Call.{Call}
use Rattle.folder_filing.specs.declared.call.Call.TheVariants.{Reported}
use Rattle.folder_filing.specs.declared.location.Location.{Location}
use Rattle.engine.specs.Progress.{Progress, at_start}
use Rattle.engine.specs.Requested.{request_record}
use Rattle.engine.specs.Run.{files_of, progress_of}
use Rattle.engine.specs.StoreLaws.{EndsAt, file_of}
use Rattle.engine.specs.Timeline.{Happened}
use Rattle.serving.specs.Rooms.{served_rooms}
use Rattle.serving.specs.Settled.{SettlesFirst, sent_by}
use Rattle.serving.specs.declared.open_connection.ConnectionEnd.{ConnectionEnd}
use Rattle.server.specs.FolderStore.{folder_store}
use Rattle.server.specs.Histories.{ended_in, settings_in}
use Rattle.server.specs.declared.server.opening.history.SlotHistory.{SlotHistory}

-- ---- a success

-- a C-STORE that ends along a story: the entries before its last one, this, and those after it; its message, its command
-- and its presentation context
pub record StoreEnd : Type 0 where
  pub before : List Happened
  pub entry : Happened
  pub after : List Happened
  pub message : Message
  pub command : CommandRecord
  pub context : Context

-- the state of the association before the last entry of a C-STORE
abbrev pub progress_at : Settings → StoreEnd → Progress
progress_at s store = progress_of served_rooms s at_start store.before

-- along this story the C-STORE is answered with success
pub record IsSuccess (s : Settings) (story : List Happened) (store : StoreEnd) : Type 0 where
  pub story_is : story ≡ store.before ++ store.entry ∷ store.after
  pub ends : EndsAt (progress_at s store) store.entry store.message store.command store.context
  pub good : store.entry.1.finding.status ≡ success

-- the file of a C-STORE
abbrev pub file_of_success : Settings → StoreEnd → List ℕ
file_of_success s store = file_of store.command store.context.syntax (request_record (progress_at s store).request).calling store.message.set

-- the files before that of a C-STORE: those of its filing when the connection was opened, and those of the story so far
abbrev pub files_before : Settings → FolderState → StoreEnd → List (List ℕ)
files_before s opened store = opened.contents.files ++ files_of served_rooms s at_start store.before

-- ---- what survives

-- after so many others, the commit of the file of this location was reported
pub record IsReportAfter (count : ℕ) (location : Location) (calls : List Call) : Type 0 where
  pub later : List Call
  pub before : List Call
  pub calls_are : calls ≡ later ++ Reported location ∷ before
  pub count_is : reports before ≡ count

-- At each point of these system calls since the first ones, whatever disk a loss of power may leave there, this file has
-- the name of this location and all bytes that were written to it until its last sync.
abbrev pub SurvivesSince : List Call → List Call → Location → ℕ → Type 0
SurvivesSince first calls location file =
    (later since : List Call) → calls ≡ later ++ (since ++ first) → (written : ℕ → List ℕ) (disk : Disk) → MayLeave written (since ++ first) disk
    → HasFile written disk location file

-- a later state of a filing that syncs: it has its invariant, and has made further system calls after these
pub record IsLater (calls : List Call) (names : Naming) : Type 0 where
  pub orderly : IsOrderly names
  pub has_sync : names.has_sync ≡ true
  pub more : List Call
  pub calls_are : names.calls ≡ more ++ calls

-- The file of a success is one of the filing's when bytes were last sent, after these ones. After as many others the
-- commit of one file was reported. From then on this file survives: until bytes were last sent, and in each later state
-- of the filing.
pub record SuccessSurvives (s : Settings) (opened settled : FolderState) (store : StoreEnd) : Type 0 where
  pub newer : List (List ℕ)
  pub filed : settled.contents.files ≡ files_before s opened store ++ file_of_success s store ∷ newer
  pub location : Location
  pub file : ℕ
  pub reported : IsReportAfter (length (files_before s opened store)) location settled.names.calls
  pub survives : SurvivesSince (Reported location ∷ reported.before) settled.names.calls location file
  pub from_then : (names : Naming) → IsLater settled.names.calls names → SurvivesSince (Reported location ∷ reported.before) names.calls location file

-- The bytes that a connection sent are the first of those that a story gives, and each success of this story survives:
-- also each one of whose response the first byte was sent.
pub record SuccessesSurvive {S : Type 0} (s : Settings) (e : ConnectionEnd S FolderState) : Type 0 where
  pub settles : SettlesFirst s e.exchange (folder_store e.opened.value) (folder_store e.settled.value) (folder_store e.filing)
  pub each : (store : StoreEnd) → IsSuccess s settles.1.story store → SuccessSurvives s e.opened.value e.settled.value store

-- the successes of a connection survive, if it has sent anything, and its filing syncs
abbrev pub KeepsSuccesses : {S : Type 0} → Settings → ConnectionEnd S FolderState → Type 0
KeepsSuccesses s e = sent_by e.exchange ≢ [] → e.settled.value.names.has_sync ≡ true → ∥ SuccessesSurvive s e ∥₁

-- so do the successes of each connection that has ended in a slot
abbrev pub SlotKeepsSuccesses : SlotHistory FolderState → Type 0
SlotKeepsSuccesses slot = ∥ AllZip (λ s e. KeepsSuccesses s e) (settings_in slot) (ended_in slot) ∥₁
