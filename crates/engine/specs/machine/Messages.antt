-- The fields except those of the message, and the effect of calls on the unfinished message.
use Rattle.std.specs.Prelude.{◌≡◌, ◌⊎◌, ℕ, ◌+◌, ◌<◌, Bool, true, false, ◌||◌, List, [], length, Option, Some, Result, Ok, OnErr}
use Rattle.acceptor.specs.declared.state.State.TheVariants.{Sta6}
use Rattle.pdu.specs.declared.wire.WireFailed.{WireFailed}
use Rattle.engine.specs.Requested.{Requested, request_record}
use Rattle.pdu.specs.Sent.{Sends}
use Rattle.negotiate.specs.Settings.{Settings, settings_of}
use Rattle.dimse.specs.Command.{CommandRecord}
use Rattle.dimse.specs.Reading.{command_in}
use Rattle.dimse.specs.Messages.{Message, Started, NoMessage, InCommand, InSet}
use Rattle.dimse.specs.Joining.{Joining}
use Rattle.part10.specs.Store.{Store}
use Rattle.engine.specs.Held.{is_ended}
use Rattle.decisions.specs.declared.decision.Decision.{Decision}
use Rattle.engine.specs.Timeline.{Finding}
use Rattle.engine.specs.Progress.{Progress, absorb, is_established}
use Rattle.engine.specs.Devices.{Devices, files_in, with_files, line_after, IsFront}
use Rattle.engine.specs.Replies.{replied}
use Rattle.engine.specs.Run.{Rooms, rooms_of, cut, counted}
use Rattle.engine.specs.Fair.{InStore, IsVerdict}
use Rattle.engine.specs.Drafts.{IsDraft}
use Rattle.engine.specs.StoredData.{Stored, Nothing, Walks, drafting_in}
use Rattle.engine.specs.declared.messages.Origin.{Origin}
use Rattle.engine.specs.machine.Accepted.{IsPeerOf}
use Rattle.engine.specs.Kept.{Kept, Pends, Agreed, IsUnagreed, counted_body}

abbrev pub with_body : List ℕ → Kept → Kept
with_body body kept = record kept { body = body }

abbrev pub with_join : Joining → Kept → Kept
with_join join kept = record kept { join = join }

abbrev pub with_storing : Stored → Kept → Kept
with_storing stored kept = record kept { storing = stored }

-- the fields, except those of the message, are those of this state of the timeline, at the start of a PDU's body
pub record Aside (kept : Kept) (p : Progress) : Type 0 where
  pub state_is : kept.state ≡ p.state
  pub refused_is : is_ended p.state ≡ false → kept.refused ≡ p.refused
  pub decided_is : kept.decided ≡ p.decided
  pub body_is : kept.body ≡ counted_body p []
  pub agreed : p.state ≡ Sta6 → Agreed kept.caller kept.peer_max kept.table kept.additional (request_record p.request)
  pub unagreed : is_established p.state ≡ false → IsUnagreed kept.caller kept.peer_max kept.table
  pub none_remaining : is_established p.state ≡ false → p.message ≡ NoMessage

-- More of a message was received (`failed_before`: a call of the filing had failed in it before): its data set was
-- walked and is in the draft, no file was stored, and at most one call of the filing has failed now.
pub record Proceeds (depth most : ℕ) (request : Requested) (message : Started) (failed_before : Bool) (stored : Stored) (old new : Store) : Type 0 where
  pub failed : Bool
  pub may : failed ≡ true → (failed_before ≡ false) × InStore request message
  pub walks : Walks depth most request message stored
  pub draft : IsDraft request message (failed || failed_before) new (drafting_in stored)
  pub files : files_in new ≡ files_in old
  pub count : new.failures ≡ old.failures + counted failed

-- the settings of the association of a message
abbrev pub origin_settings : Origin → Settings
origin_settings origin = settings_of origin.config.now

-- the message was received in the association of this request
abbrev pub IsFrom : Requested → Origin → Type 0
IsFrom request origin = IsPeerOf origin.peer.now (origin_settings origin).additional (request_record request)

-- the effect of the end of a command set that announces a data set
abbrev pub BeginsData : ℕ → Origin → List ℕ → Stored → Stored → Store → Store → Type 0
BeginsData depth origin command stored_old stored_new old new = (request : Requested)
    → IsFrom request origin → stored_old ≡ Nothing → ((c : CommandRecord) → command_in command ≡ Ok c → c.with_data ≡ true)
    → Proceeds depth origin.config.now.max_data request (InSet origin.context command []) false stored_new old new

-- the received parts of a whole message: its command set and its data set, or its command set alone if it announces
-- none
abbrev pub HasReceived : Message → Started → Type 0
HasReceived m received = (received ≡ InSet m.context m.command m.set) ⊎ ((received ≡ InCommand m.context m.command) × ((c : CommandRecord) → command_in m.command ≡ Ok c → c.with_data ≡ false))

-- A whole message was answered, or the send failed: the bytes sent, the files stored and what is decided are those of
-- the finding on it.
pub record Ended (rooms : Rooms) (s : Settings) (p : Progress) (m : Message) (received : Started) (decided : Decision) (result : Result (Unit {0}) WireFailed) (devices_old devices_new : Devices) : Type 0 where
  pub finding : Finding
  pub decided_is : decided ≡ (replied p finding m (command_in m.command)).next.decided
  pub failed : Bool
  pub may : failed ≡ true → (p.filing_failed ≡ false) × InStore p.request received
  pub verdict : IsVerdict rooms s (absorb failed p) finding (Some m)
  pub sends : Sends (replied p finding m (command_in m.command)).sent result devices_old.line devices_new.line
  pub due : OnErr result (0 < length (replied p finding m (command_in m.command)).sent)
  pub files : files_in devices_new.store ≡ with_files (replied p finding m (command_in m.command)).files (files_in devices_old.store)
  pub count : devices_new.store.failures ≡ devices_old.store.failures + counted failed

-- the effect of the end of any message with this command set, in an association with these limits
abbrev pub EndsMessage : ℕ → ℕ → ℕ → Origin → List ℕ → Stored → Decision × Result (Unit {0}) WireFailed → Devices → Devices → Type 0
EndsMessage C V D origin command stored result d e = (A : ℕ) (p : Progress) (m : Message) (received : Started) → IsFrom p.request origin → HasReceived m received → command ≡ m.command → origin.context ≡ m.context
    → Walks D origin.config.now.max_data p.request received stored → IsDraft p.request received p.filing_failed d.store (drafting_in stored)
    → Ended (rooms_of A C V D) (origin_settings origin) p m received result.0 result.1 d e

-- the effect of the end of a message on the devices, and on the fields
pub record Concludes (rooms : Rooms) (s : Settings) (p : Progress) (m : Message) (received : Started) (new : Kept) (devices_old devices_new : Devices) : Type 0 where
  pub finding : Finding
  pub failed : Bool
  pub wire : Option ℕ
  pub may : failed ≡ true → (p.filing_failed ≡ false) × InStore p.request received
  pub verdict : IsVerdict rooms s (absorb failed p) finding (Some m)
  pub fair : IsFront wire (replied p finding m (command_in m.command)).sent
  pub pends : Pends new devices_new.store (cut wire p (replied p finding m (command_in m.command))).next [] []
  pub line : devices_new.line ≡ line_after wire (replied p finding m (command_in m.command)).sent devices_old.line
  pub files : files_in devices_new.store ≡ with_files (replied p finding m (command_in m.command)).files (files_in devices_old.store)
  pub count : devices_new.store.failures ≡ devices_old.store.failures + counted failed
