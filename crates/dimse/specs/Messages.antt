-- Messages: the fragments of a command set up to the last one and then, where the command announces a data set, its
-- fragments up to the last one, all in one presentation context (PS3.7 section 6.3; PS3.8 annex E). The bytes of one
-- command set are at most `room` (this product's own profile).
use Rattle.std.specs.Prelude.{◌≡◌, ℕ, ◌+◌, ◌-◌, ◌≤◌, Bool, true, false, List, [], ◌∷◌, ◌++◌, length, Option, Some, None, Result, Ok, Err, nat_eq, nat_le, if◌then◌else◌}
use Rattle.pdu.specs.declared.head.PdvHead.{PdvHead}
use Rattle.pdu.specs.Sizes.{pdv_least}
use Rattle.pdu.specs.Heads.{is_command, is_last}
use Rattle.dimse.specs.declared.fault.DimseFault.{DimseFault}
use Rattle.dimse.specs.declared.fault.DimseFault.TheVariants.{CommandTooLong, WrongKind, OtherContext}
use Rattle.dimse.specs.Command.{CommandRecord}
use Rattle.dimse.specs.Reading.{command_in}

-- a presentation data value: its context, its control byte and its fragment
pub record Pdv : Type 0 where
  pub context : ℕ
  pub control : ℕ
  pub fragment : List ℕ

-- a whole message: its presentation context ID, its command set and its data set, which is empty if it has none
pub record Message : Type 0 where
  pub context : ℕ
  pub command : List ℕ
  pub set : List ℕ

-- ---- which fragments are a message

-- a fragment of a command set (true) or of a data set (false) in this context
abbrev pub IsFragment : ℕ → Bool → Pdv → Type 0
IsFragment context command p = (p.context ≡ context) × (is_command p.control ≡ command)

-- fragments of a command set (true) or of a data set (false) in this context, of which only the last is marked as the
-- last
abbrev pub AreFragments : ℕ → Bool → List Pdv → Type 0
AreFragments context command [] = ⊥
AreFragments context command (p ∷ []) = IsFragment context command p × (is_last p.control ≡ true)
AreFragments context command (p ∷ q ∷ ps) = IsFragment context command p × (is_last p.control ≡ false) × AreFragments context command (q ∷ ps)

abbrev pub fragments_of : List Pdv → List ℕ
fragments_of [] = []
fragments_of (p ∷ ps) = p.fragment ++ fragments_of ps

-- the fragments of the data set, which are there exactly if the command announces one
abbrev pub IsSet : Bool → Message → List Pdv → Type 0
IsSet false m sets = (sets ≡ []) × (m.set ≡ [])
IsSet true m sets = AreFragments m.context false sets × (m.set ≡ fragments_of sets)

-- the fragments of a message's command set and of its data set
pub record IsMessage (room : ℕ) (m : Message) (commands sets : List Pdv) : Type 0 where
  pub command : CommandRecord
  pub fragments : AreFragments m.context true commands
  pub fits : length m.command ≤ room
  pub joined : m.command ≡ fragments_of commands
  pub spells : command_in m.command ≡ Ok command
  pub set : IsSet command.with_data m sets

-- ---- one fragment after the other

-- an unfinished message: nothing; fragments of its command set, without the last; or its whole command set and
-- fragments of its data set, without the last
pub data Started : Type 0 where
  NoMessage : Started
  InCommand : (context : ℕ) (command : List ℕ) → Started
  InSet : (context : ℕ) (command set : List ℕ) → Started

-- ---- the head of a presentation data value

-- `CommandTooLong` if the command set would have more bytes than the limit
-- e.g. if_room 10 11 ≡ Some CommandTooLong; if_room 10 10 ≡ None
abbrev pub if_room : ℕ → ℕ → Option DimseFault
if_room room size = if nat_le size room then None else Some CommandTooLong

-- `OtherContext` if the presentation context IDs differ, else the other fault, if any
-- e.g. if_context 1 3 None ≡ Some OtherContext
abbrev pub if_context : ℕ → ℕ → Option DimseFault → Option DimseFault
if_context first context other = if nat_eq context first then other else Some OtherContext

-- Why the head of a presentation data value is rejected after this unfinished message, if it is: another presentation
-- context ID than the message's, a fragment of the wrong set, or a command set of more than `room` bytes. Of the
-- bytes that the length counts two belong to the head.
-- e.g. head_refusal 1024 (InCommand 1 []) (record { length = 3; context = 3; command = true; last = true }) ≡ Some
-- OtherContext
abbrev pub head_refusal : ℕ → Started → PdvHead → Option DimseFault
head_refusal room NoMessage h = if h.command then if_room room (h.length - pdv_least) else Some WrongKind
head_refusal room (InCommand first command) h =
    if_context first h.context (if h.command then if_room room (length command + (h.length - pdv_least)) else Some WrongKind)
head_refusal room (InSet first command set) h = if_context first h.context (if h.command then Some WrongKind else None)

-- why the head of a presentation data value with this length, context ID and control byte is rejected after the
-- unfinished message, if it is
-- e.g. refusal 1024 NoMessage 4 1 0 ≡ Some WrongKind; refusal 1024 NoMessage 4 1 3 ≡ None
abbrev pub refusal : ℕ → Started → ℕ → ℕ → ℕ → Option DimseFault
refusal room b n context control =
    head_refusal room b (record { length = n; context = context; command = is_command control; last = is_last control })

-- ---- the effect of a presentation data value

-- the unfinished message with one more fragment, or a part of one, of the set that must follow
abbrev pub with_fragment : ℕ → List ℕ → Started → Started
with_fragment context fragment NoMessage = InCommand context fragment
with_fragment context fragment (InCommand first command) = InCommand first (command ++ fragment)
with_fragment context fragment (InSet first command set) = InSet first command (set ++ fragment)

-- the result of a presentation data value, at its last byte
pub data Brought : Type 0 where
  -- the message is unfinished
  Goes : Started → Brought
  -- the message is whole
  Ends : Message → Brought
  -- the message is rejected
  Refuses : DimseFault → Brought

-- the result of a whole command set: the data set must follow if it announces one
-- e.g. with_command 1 [] (Err BadCommand) ≡ Refuses BadCommand
abbrev pub with_command : ℕ → List ℕ → Result CommandRecord DimseFault → Brought
with_command context command (Err fault) = Refuses fault
with_command context command (Ok c) = if c.with_data then Goes (InSet context command []) else Ends (record { context = context; command = command; set = [] })

-- the result of the last fragment of a set: the command set is whole, or with its data set the message
-- e.g. completed (InCommand 1 []) ≡ Refuses BadCommand
abbrev pub completed : Started → Brought
completed NoMessage = Goes NoMessage
completed (InCommand context command) = with_command context command (command_in command)
completed (InSet context command set) = Ends (record { context = context; command = command; set = set })

-- the result of a presentation data value whose head was accepted
-- e.g. brought NoMessage (record { context = 1; control = 1; fragment = 9 ∷ [] }) ≡ Goes (InCommand 1 (9 ∷ []))
-- e.g. brought (InSet 1 [] (8 ∷ [])) (record { context = 1; control = 2; fragment = 9 ∷ [] }) ≡ Ends (record { context
-- = 1; command = []; set = 8 ∷ 9 ∷ [] })
abbrev pub brought : Started → Pdv → Brought
brought b p = let received = with_fragment p.context p.fragment b in if is_last p.control then completed received else Goes received

-- the message that is complete with a presentation data value, if one is
-- e.g. message_by (Goes NoMessage) ≡ None
abbrev pub message_by : Brought → Option Message
message_by (Goes b) = None
message_by (Ends m) = Some m
message_by (Refuses fault) = None

-- the message that is complete with a presentation data value, if one is
-- e.g. ended (InSet 1 [] []) (record { context = 1; control = 2; fragment = 9 ∷ [] }) ≡ Some (record { context = 1;
-- command = []; set = 9 ∷ [] })
abbrev pub ended : Started → Pdv → Option Message
ended b p = message_by (brought b p)

-- ---- the messages of a list of presentation data values

-- the whole messages of a list of presentation data values, the unfinished one after them, and the fault, after which
-- no message is joined
pub record Messages : Type 0 where
  pub whole : List Message
  pub started : Started
  pub fault : Option DimseFault

abbrev pub unless_refused : Option DimseFault → Brought → Brought
unless_refused None b = b
unless_refused (Some fault) b = Refuses fault

abbrev pub next : ℕ → Started → Pdv → Brought
next room b p = unless_refused (refusal room b (length p.fragment + pdv_least) p.context p.control) (brought b p)

abbrev pub with_message : Message → Messages → Messages
with_message m ms = record { whole = m ∷ ms.whole; started = ms.started; fault = ms.fault }

-- the messages of a list, given the result of its first presentation data value and the messages of the later ones
abbrev pub with_later : Brought → (Started → Messages) → Messages
with_later (Goes b) later = later b
with_later (Ends m) later = with_message m (later NoMessage)
with_later (Refuses fault) later = record { whole = []; started = NoMessage; fault = Some fault }

unfoldable pub messages_from : ℕ → Started → List Pdv → Messages
messages_from room b [] = record { whole = []; started = b; fault = None }
messages_from room b (p ∷ ps) = with_later (next room b p) (λ more. messages_from room more ps)

unfoldable pub messages : ℕ → List Pdv → Messages
messages room ps = messages_from room NoMessage ps
