-- The possible outcomes of the entries of a timeline: the verdicts on its C-STOREs, and failures of the wire and of
-- the filing where they can happen (PS3.7 section 9.1.1, PS3.8 section 9.2.2; the profile of failures is this
-- product's own).
use Rattle.std.specs.Prelude.{◌≡◌, ℕ, Bool, true, false, not, ◌&&◌, ◌⊎◌, List, [], ◌∷◌, Option, Some, None, Ok, if◌then◌else◌}
use Rattle.engine.specs.Requested.{Requested, request_record}
use Rattle.pdu.specs.Marks.{Pdv}
use Rattle.negotiate.specs.Settings.{Settings}
use Rattle.negotiate.specs.declared.proposals.Context.{Context}
use Rattle.negotiate.specs.Contexts.{context_of}
use Rattle.dimse.specs.Command.{CommandRecord, c_store}
use Rattle.dimse.specs.Reading.{command_in}
use Rattle.dimse.specs.Messages.{Started, InSet, Message, ended}
use Rattle.engine.specs.Inputs.{Received}
use Rattle.engine.specs.Timeline.{Entry, At, Finding, Happened, entries, entries_of}
use Rattle.engine.specs.Devices.{IsFront}
use Rattle.engine.specs.Progress.{Progress, at_start, absorb, is_established}
use Rattle.engine.specs.Stores.{IsOfContext, Verdict}
use Rattle.engine.specs.Run.{Rooms, at_entry, gives, progress_of}

-- the DIMSE message that ends with this entry, if one does
-- e.g. message_at at_start Shut ≡ None
abbrev pub message_at : Progress → Entry → Option Message
message_at p (At (Pdv context control fragment)) =
    if is_established p.state && not p.refused then ended p.message (record { context = context; control = control; fragment = fragment }) else None
message_at p entry = None

-- if the message is a C-STORE, the finding (status and cause) is the verdict on it
abbrev pub IsVerdict : Rooms → Settings → Progress → Finding → Option Message → Type 0
IsVerdict rooms s p finding None = Unit {0}
IsVerdict rooms s p finding (Some m) = (command : CommandRecord) (context : Context) → command_in m.command ≡ Ok command → command.field ≡ c_store
    → context_of (request_record p.request) m.context ≡ Some context
    → Verdict rooms.depth s.max_data context command m.set p.filing_failed finding

-- The unfinished message is a C-STORE whose command set is complete and has the SOP class of its presentation
-- context, in the association of this request: its data set goes to the filing.
pub record InStore (request : Requested) (message : Started) : Type 0 where
  pub id : ℕ
  pub command : List ℕ
  pub set : List ℕ
  pub asked : CommandRecord
  pub context : Context
  pub started : message ≡ InSet id command set
  pub spelled : command_in command ≡ Ok asked
  pub accepted : context_of (request_record request) id ≡ Some context
  pub of_context : IsOfContext context asked

-- a call of the filing can fail between these two states of the association: none has failed in the message yet, and
-- it is a C-STORE that goes to the filing in one of them
abbrev pub MayFail : Progress → Progress → Type 0
MayFail p q = (p.filing_failed ≡ false) × (InStore p.request p.message ⊎ InStore q.request q.message)

-- the outcome of this entry is possible: the finding is the verdict on the C-STORE that ends with it, a send fails only
-- if something is sent, and a call of the filing only in a C-STORE (law `engine::the_echo_runs`)
pub record IsFair (rooms : Rooms) (s : Settings) (p : Progress) (h : Happened) : Type 0 where
  pub verdict : IsVerdict rooms s (absorb h.1.filing p) h.1.finding (message_at p h.0)
  -- a send fails only if the entry sends something
  pub wire : IsFront h.1.wire (at_entry rooms s (absorb h.1.filing p) h.1.finding h.0).sent
  -- a call of the filing fails only if there is a draft, or one is started
  pub filing : h.1.filing ≡ true → MayFail p (at_entry rooms s p h.1.finding h.0).next

-- each outcome of these entries is possible (law `engine::the_echo_runs`)
abbrev pub AreFair : Rooms → Settings → Progress → List Happened → Type 0
AreFair rooms s p [] = Unit {0}
AreFair rooms s p (h ∷ story) = IsFair rooms s p h × AreFair rooms s (gives rooms s p h).next story

-- A story of these inputs: the entries of their timeline, each with a possible outcome; and whether a call of the
-- filing has failed in the unfinished message after the last entry (law `engine::the_echo_runs`)
pub record IsStory (rooms : Rooms) (s : Settings) (inputs : List Received) (story : List Happened) (failed : Bool) : Type 0 where
  pub reported : entries_of story ≡ entries [] inputs
  pub fair : AreFair rooms s at_start story
  pub last : failed ≡ true → MayFail (progress_of rooms s at_start story) (progress_of rooms s at_start story)
