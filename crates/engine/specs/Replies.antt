-- The effect of presentation data values in an established association: messages and the responses to them (PS3.7
-- chapter 9, PS3.8 section 9.2 and annex E). For which faults the local user aborts is this product's own profile.
use Rattle.std.specs.Prelude.{ℕ, Bool, true, false, ◌&&◌, List, [], ◌∷◌, Option, Some, None, Result, Ok, Err, nat_eq, if◌then◌else◌}
use Rattle.acceptor.specs.declared.event.Event.TheVariants as event
use Rattle.dictionary.specs.declared.class.Class.{Class}
use Rattle.dictionary.specs.declared.class.Class.TheVariants.{Verification}
use Rattle.dictionary.specs.Classes.{class_of}
use Rattle.pdu.specs.Record.{RequestRecord}
use Rattle.engine.specs.Requested.{request_record}
use Rattle.negotiate.specs.declared.proposals.Context.{Context}
use Rattle.negotiate.specs.declared.proposals.Service.{Service}
use Rattle.negotiate.specs.declared.proposals.Service.TheVariants.{Known, Additional}
use Rattle.negotiate.specs.Contexts.{context_of}
use Rattle.dimse.specs.declared.fault.DimseFault.{DimseFault}
use Rattle.dimse.specs.Command.{CommandRecord, c_store, c_echo}
use Rattle.dimse.specs.Reading.{command_in, field_in}
use Rattle.pdu.specs.declared.head.PdvHead.{PdvHead}
use Rattle.pdu.specs.Heads.{is_command, is_last}
use Rattle.dimse.specs.declared.joined.Joined.{Joined}
use Rattle.dimse.specs.declared.joined.Joined.TheVariants as joined
use Rattle.dimse.specs.Joining.{command_bytes, continues, unfinished_of}
use Rattle.dimse.specs.Messages.{Pdv, Message, Started, NoMessage, refusal, Goes, Ends, Refuses, brought, with_fragment}
use Rattle.dimse.specs.Reply.{reply_bytes}
use Rattle.dimse.specs.Status.{success, class_not_supported}
use Rattle.part10.specs.File.{File}
use Rattle.part10.specs.Store.{or_nothing}
use Rattle.decisions.specs.declared.decision.Decision.{Decision}
use Rattle.decisions.specs.declared.decision.Decision.TheVariants as decision
use Rattle.engine.specs.Timeline.{Finding}
use Rattle.engine.specs.Progress.{Progress, Advance, deciding, nothing, done, refusing}
use Rattle.engine.specs.Heads.{invalid_parameter}

-- the effect of an invalid PDU: the service provider aborts, and the rest of the PDU is ignored
-- e.g. (invalid at_start).sent ≡ 7 ∷ 0 ∷ 0 ∷ 0 ∷ 0 ∷ 4 ∷ 0 ∷ 0 ∷ 0 ∷ 0 ∷ []
abbrev pub invalid : Progress → Advance
invalid p = refusing (done [] invalid_parameter p event.Invalid)

-- the effect of an abort of the local user; the rest of the PDU is ignored
-- e.g. (user_aborts (record at_start { state = Sta6 })).sent ≡ 7 ∷ 0 ∷ 0 ∷ 0 ∷ 0 ∷ 4 ∷ 0 ∷ 0 ∷ 0 ∷ 0 ∷ []
abbrev pub user_aborts : Progress → Advance
user_aborts p = refusing (done [] 0 p event.UserAborts)

-- the head of a presentation data value with this length, context ID and control byte
abbrev pub value_head : ℕ → ℕ → ℕ → PdvHead
value_head n context control = record { length = n; context = context; command = is_command control; last = is_last control }

-- the abort of the local user, if the head of the presentation data value is rejected
-- e.g. (aborted_if_refused (value_head 4 1 3) None at_start).sent ≡ []
abbrev pub aborted_if_refused : PdvHead → Option DimseFault → Progress → Advance
aborted_if_refused head None p = nothing (deciding (decision.Fragment head) p)
aborted_if_refused head (Some fault) p = user_aborts (deciding (decision.FragmentRefused head fault (unfinished_of p.message)) p)

-- the effect of the head of a presentation data value: with a presentation context that was not accepted it is invalid;
-- one that does not continue the message leads to an abort of the local user (law
-- `engine::a_good_pdv_before_a_bad_one`)
abbrev pub at_pdv_head : ℕ → Progress → ℕ → ℕ → ℕ → Advance
at_pdv_head room p n context control = elim (context_of (request_record p.request) context) [
  | None ↦ invalid (deciding (decision.ContextRefused (value_head n context control)) p)
  | Some accepted ↦ aborted_if_refused (value_head n context control) (refusal room p.message n context control) p
]

-- ---- replies

-- whether the class is Verification
-- e.g. is_verification (Some Verification) ≡ true
abbrev pub is_verification : Option Class → Bool
is_verification (Some Verification) = true
is_verification other = false

-- the class of the dictionary that a service is, if it is one
-- e.g. known_class (Known Verification) ≡ Some Verification; known_class (Additional (codes "1.2.3")) ≡ None
abbrev pub known_class : Service → Option Class
known_class (Known class) = Some class
known_class (Additional uid) = None

-- the SOP class of an accepted presentation context, if there is one
-- e.g. class_by (Some (record { class = Known Verification; syntax = Implicit })) ≡ Some Verification
abbrev pub class_by : Option Context → Option Class
class_by None = None
class_by (Some context) = known_class context.class

-- the status of a C-ECHO: success if both the command and its presentation context have the Verification SOP Class,
-- else SOP class not supported
-- e.g. echo_status None (record { class = codes "1.2.840.10008.1.1"; field = 0x0030; message = 1; with_data = false;
-- instance = None }) ≡ 0x0122
abbrev pub echo_status : Option Context → CommandRecord → ℕ
echo_status context command = if is_verification (class_of command.class) && is_verification (class_by context) then success else class_not_supported

-- the status and cause of the response to a command: of a C-ECHO its status, of a C-STORE the finding of the entry's
-- outcome
-- e.g. (finding_on None (record { class = codes "1.2.3"; field = 1; message = 7; with_data = true; instance = None })
-- good).status ≡ 0
abbrev pub finding_on : Option Context → CommandRecord → Finding → Finding
finding_on context command finding = if nat_eq command.field c_echo then record { status = echo_status context command; detail = None } else finding

-- the file of an instance that is stored in this accepted context, as a list of one (law `engine::the_file_of_a_store`)
abbrev pub file_in : RequestRecord → Option Context → CommandRecord → List ℕ → List (List ℕ)
file_in r None command data_set = []
file_in r (Some context) command data_set =
    File (record { class = command.class; instance = or_nothing command.instance; syntax = context.syntax; calling = record { 0 = r.calling } }) data_set ∷ []

-- the files that a whole message stores: one if it is a C-STORE and the finding is success, else none (law
-- `engine::a_store_is_filed`)
abbrev pub file_put : RequestRecord → ℕ → CommandRecord → List ℕ → Finding → List (List ℕ)
file_put r id command data_set finding =
    if nat_eq command.field c_store && nat_eq finding.status success then file_in r (context_of r id) command data_set else []

-- the state after the end of a message
-- e.g. (ended_message at_start).filing_failed ≡ false
abbrev pub ended_message : Progress → Progress
ended_message p = record p { message = NoMessage; filing_failed = false }

-- the effect of the last byte of a message: its response and, of a C-STORE with success, its file (law
-- `engine::a_store_is_filed`)
abbrev pub replied : Progress → Finding → Message → Result CommandRecord DimseFault → Advance
replied p finding m (Err fault) = nothing (deciding decision.Nothing (ended_message p))
replied p finding m (Ok command) =
    let r = request_record p.request in
    let f = finding_on (context_of r m.context) command finding in
    record {
      next = deciding (decision.Replied f.status f.detail) (ended_message p);
      sent = reply_bytes command f.status f.detail m.context r.maximum;
      files = file_put r m.context command m.set finding;
    }

-- what is decided when a fragment ends and the message continues: that a data set is due, or nothing more than at the
-- fragment's head
abbrev pub decided_on : Joined → Decision → Decision
decided_on joined.DataDue before = decision.DataDue
decided_on joined before = before

-- the state after a fragment after which the message is unfinished
-- e.g. (going_on (InCommand 1 (9 ∷ [])) at_start).message ≡ InCommand 1 (9 ∷ [])
abbrev pub going_on : Started → Progress → Progress
going_on started p = record p { message = started; decided = decided_on (continues p.message started) p.decided }

-- what is decided when a command set is rejected that is complete with this presentation data value
abbrev pub command_refused : Progress → Pdv → DimseFault → Decision
command_refused p pdv fault = decision.CommandRefused fault (field_in (command_bytes (with_fragment pdv.context pdv.fragment p.message)))

-- the effect of the last byte of a presentation data value, with the finding on the C-STORE that it may end (law
-- `engine::recorded_echo`)
abbrev pub at_pdv : Progress → Finding → Pdv → Advance
at_pdv p finding pdv = elim (brought p.message pdv) [
  | Goes started ↦ nothing (going_on started p)
  | Ends m ↦ replied p finding m (command_in m.command)
  | Refuses fault ↦ user_aborts (deciding (command_refused p pdv fault) p)
]
