-- Statements on C-STOREs: each has one verdict; no good image is rejected; and the file of one depends only on its
-- own bytes and its sender's AE title.
use Rattle.std.specs.Prelude.{◌≡◌, ℕ, Bool, false, List, [], ◌∷◌, Some, None, Ok}
use Rattle.element.specs.Numbers.{IsBytes}
use Rattle.dictionary.specs.declared.transfer.Transfer.{Transfer}
use Rattle.part10.specs.Store.{or_nothing}
use Rattle.sequence.specs.Transfer.{coding_in}
use Rattle.engine.specs.Requested.{request_record}
use Rattle.dimse.specs.Command.{CommandRecord, c_store}
use Rattle.dimse.specs.Messages.{Message}
use Rattle.dimse.specs.Reading.{command_in}
use Rattle.dimse.specs.Reply.{reply_bytes}
use Rattle.dimse.specs.Status.{success}
use Rattle.negotiate.specs.declared.proposals.Context.{Context}
use Rattle.negotiate.specs.Contexts.{context_of}
use Rattle.negotiate.specs.Settings.{Settings}
use Rattle.part10.specs.File.{File}
use Rattle.sequence.specs.Wanted.{kept_of}
use Rattle.sequence.specs.Ending.{IsWholeDataSet}
use Rattle.engine.specs.Timeline.{Finding, Happened, good}
use Rattle.engine.specs.Progress.{Progress}
use Rattle.engine.specs.Stores.{IsOfContext, NamesUid, NamesInstance, Verdict, wanted, limits, class_tag}
use Rattle.engine.specs.Run.{Rooms, gives}
use Rattle.engine.specs.Fair.{IsFair, message_at}

-- ---- verdicts

-- every C-STORE has a verdict
abbrev pub AVerdictIsThere : Type 0
AVerdictIsThere = (depth most : ℕ) (context : Context) (command : CommandRecord) (data_set : List ℕ) (failed : Bool) → IsBytes data_set
    → (finding : Finding) × Verdict depth most context command data_set failed finding

-- no C-STORE has two verdicts
abbrev pub AVerdictIsOne : Type 0
AVerdictIsOne = (depth most : ℕ) (context : Context) (command : CommandRecord) (data_set : List ℕ) (failed : Bool) (one other : Finding) → IsBytes data_set
    → Verdict depth most context command data_set failed one → Verdict depth most context command data_set failed other → one ≡ other

-- ---- good images

-- a C-STORE ends at this entry: this message, with this command, in this accepted presentation context
pub record EndsAt (p : Progress) (h : Happened) (m : Message) (command : CommandRecord) (context : Context) : Type 0 where
  pub ended : message_at p h.0 ≡ Some m
  pub spelled : command_in m.command ≡ Ok command
  pub store : command.field ≡ c_store
  pub accepted : context_of (request_record p.request) m.context ≡ Some context

-- A good image: a whole data set within the limits, sent with its own SOP class and instance UIDs in an accepted
-- presentation context of that class.
pub record IsGoodImage (depth most : ℕ) (context : Context) (command : CommandRecord) (data_set : List ℕ) : Type 0 where
  pub of_context : IsOfContext context command
  pub whole : IsWholeDataSet (coding_in context.syntax) (limits depth most) data_set
  pub own_class : NamesUid (kept_of wanted whole.elements) class_tag command.class
  pub own_instance : NamesInstance (kept_of wanted whole.elements) command

-- no device has failed in the message up to the end of this entry
pub record IsCalm (p : Progress) (h : Happened) : Type 0 where
  pub before : p.filing_failed ≡ false
  pub filing : h.1.filing ≡ false
  pub wire : h.1.wire ≡ None

-- the file of a C-STORE of this data set, from a sender with this AE title
abbrev pub file_of : CommandRecord → Transfer → List ℕ → List ℕ → List ℕ
file_of command syntax title data_set = File (record { class = command.class; instance = or_nothing command.instance; syntax = syntax; calling = record { 0 = title } }) data_set

-- A good image is answered with success and stored, in any association, if no device fails: success is the only
-- possible verdict.
abbrev pub NoGoodImageIsRefused : Type 0
NoGoodImageIsRefused =
    (rooms : Rooms) (s : Settings) (p : Progress) (h : Happened) (m : Message) (command : CommandRecord) (context : Context)
    → EndsAt p h m command context → IsGoodImage rooms.depth s.max_data context command m.set → IsCalm p h → IsFair rooms s p h
    → (h.1.finding ≡ good)
    × ((gives rooms s p h).files ≡ file_of command context.syntax (request_record p.request).calling m.set ∷ [])
    × ((gives rooms s p h).sent ≡ reply_bytes command success None m.context (request_record p.request).maximum)

-- ---- what is filed

-- Two C-STOREs with the same bytes, in presentation contexts of the same transfer syntax, from senders with the same
-- AE title, give the same file if they succeed, whatever else their associations receive before or after.
abbrev pub FiledByItself : Type 0
FiledByItself =
    (rooms rooms2 : Rooms) (s s2 : Settings) (p p2 : Progress) (h h2 : Happened) (m m2 : Message) (command command2 : CommandRecord) (context context2 : Context)
    → EndsAt p h m command context → EndsAt p2 h2 m2 command2 context2
    → m.command ≡ m2.command → m.set ≡ m2.set → context.syntax ≡ context2.syntax → (request_record p.request).calling ≡ (request_record p2.request).calling
    → h.1.finding.status ≡ success → h2.1.finding.status ≡ success
    → (gives rooms s p h).files ≡ (gives rooms2 s2 p2 h2).files
