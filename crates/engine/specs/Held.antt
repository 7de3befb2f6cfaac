-- How many received bytes an association holds (this product's own profile).
use Rattle.std.specs.Prelude.{◌≡◌, ℕ, ◌+◌, ◌-◌, ◌*◌, Bool, true, false, not, ◌&&◌, List, [], length, nat_eq, nat_lt, if◌then◌else◌}
use Rattle.acceptor.specs.declared.state.State.{State}
use Rattle.acceptor.specs.declared.state.State.TheVariants.{Sta1}
use Rattle.sequence.specs.Transfer.{coding_in}
use Rattle.sequence.specs.declared.coding.Coding.{Coding}
use Rattle.element.specs.declared.tag.Tag.{Tag}
use Rattle.pdu.specs.Types.{associate_rq}
use Rattle.pdu.specs.Sizes.{head_size, title_size}
use Rattle.pdu.specs.Marks.{frame_kind}
use Rattle.engine.specs.Requested.{Requested, request_record}
use Rattle.pdu.specs.Record.{RequestRecord}
use Rattle.negotiate.specs.Settings.{Settings}
use Rattle.dimse.specs.Messages.{Started, NoMessage, InCommand, InSet}
use Rattle.sequence.specs.Tree.{Elements}
use Rattle.sequence.specs.Open.{PathEntry, Tail, in_header, Open}
use Rattle.sequence.specs.Rules.{Limits}
use Rattle.sequence.specs.Wanted.{held_of}
use Rattle.sequence.specs.FirstFault.{IsUnbroken, FirstFault}
use Rattle.negotiate.specs.ContextRows.{accepted_count}
use Rattle.engine.specs.Progress.{Progress, is_due, is_established}
use Rattle.engine.specs.Reached.{Reached, started_pdv, message_so_far}
use Rattle.engine.specs.Fair.{InStore}
use Rattle.engine.specs.Stores.{limits}
use Rattle.engine.specs.Run.{Rooms, heads_size}

-- whether the association has ended
-- e.g. is_ended Sta1 ≡ true; is_ended Sta6 ≡ false
abbrev pub is_ended : State → Bool
is_ended Sta1 = true
is_ended state = false

-- the number of these bytes if they are fewer than a head of six, else 0
-- e.g. unfinished (4 ∷ 0 ∷ []) ≡ 2
abbrev pub unfinished : List ℕ → ℕ
unfinished bytes = if nat_lt (length bytes) head_size then length bytes else 0

-- ---- the sizes of what is kept

-- how many bytes are held of an accepted request in addition to its contexts: the calling AE title and the maximum
-- length
-- e.g. peer_size ≡ 20
abbrev pub peer_size : ℕ
peer_size = title_size + 4

-- how many bytes are held of an accepted presentation context
-- e.g. row_size * 128 ≡ 512
abbrev pub row_size : ℕ
row_size = 4

-- the greatest number of bytes held of an accepted request, which has at most 128 presentation contexts: 532
abbrev pub request_most : ℕ
request_most = peer_size + row_size * 128

-- the greatest number of bytes held of heads and of an accepted request: 544
-- e.g. accepted_most ≡ 544
abbrev pub accepted_most : ℕ
accepted_most = heads_size + request_most

-- ---- the parts

-- how many bytes are held of the head of a PDU
-- e.g. of_head (record { progress = at_start; rest = 4 ∷ 0 ∷ [] }) ≡ 2
abbrev pub of_head : Reached → ℕ
of_head r = unfinished r.rest

-- how many bytes are held of the head of a presentation data value
-- e.g. of_pdv_head (record { progress = at_start; rest = [] }) ≡ 0
abbrev pub of_pdv_head : Reached → ℕ
of_pdv_head r = unfinished (started_pdv r)

-- how many bytes are held of an accepted request, until the association is released or aborted (law
-- `engine::held_during_the_echo`)
abbrev pub of_accepted : RequestRecord → ℕ
of_accepted request = peer_size + row_size * accepted_count request

-- how many bytes are held of a request: in Sta2 the received ones of its body, in an established association those of
-- the accepted one (law `engine::held_during_the_echo`)
abbrev pub of_request : Progress → List ℕ → ℕ
of_request p rest =
    if is_due p.state then (if not p.refused && nat_eq (frame_kind rest) associate_rq then length rest - head_size else 0)
    else (if is_established p.state then of_accepted (request_record p.request) else 0)

-- how many bytes are held of the command set of a message
-- e.g. of_command (InCommand 1 (9 ∷ [])) ≡ 1
abbrev pub of_command : Started → ℕ
of_command NoMessage = 0
of_command (InCommand context command) = length command
of_command (InSet context command set) = length command

-- how many bytes are held without the data set: of the heads of a PDU and of a presentation data value, of a request,
-- and of a command set; 0 once the association has ended (law `engine::held_during_the_echo`)
abbrev pub held_before_data : Reached → ℕ
held_before_data r =
    if is_ended r.progress.state then 0
    else (of_head r + of_pdv_head r + of_request r.progress r.rest + of_command (message_so_far r))

-- How many bytes the walker holds after these bytes of a data set: if they break no rule, the unfinished header, the
-- wanted values, the unfinished one included, and the open levels; else the values and the levels at the position of
-- the fault.
pub data IsHeldOfSet (syntax : Coding) (lim : Limits) (bytes : List ℕ) : ℕ → Type 0 where
  unbroken : {es : Elements} {path : List PathEntry} {last : ℕ} {tail : Tail} → IsUnbroken syntax lim bytes → Open syntax bytes es path last tail
      → IsHeldOfSet syntax lim bytes (held_of lim.wanted es path tail)
  faulty : {p u : List ℕ} {rule : ℕ} {tag : Tag} {es : Elements} {path : List PathEntry} {last : ℕ} → FirstFault syntax lim bytes p u rule tag
      → Open syntax p es path last (in_header []) → IsHeldOfSet syntax lim bytes (held_of lim.wanted es path (in_header []))

-- how many bytes are held of the data set of a message, in the association of this request: those that the walker holds
-- of a C-STORE of the SOP class of its presentation context, and none of any other (law `engine::the_request_is_held`)
pub data IsHeldOfMessage (rooms : Rooms) (s : Settings) (request : Requested) (message : Started) : ℕ → Type 0 where
  walked : {n : ℕ} → (store : InStore request message) → IsHeldOfSet (coding_in store.context.syntax) (limits rooms.depth s.max_data) store.set n → IsHeldOfMessage rooms s request message n
  not_walked : (InStore request message → ⊥) → IsHeldOfMessage rooms s request message 0

-- n bytes are held: the sum of all parts, with what the walker holds of the data set (law
-- `engine::the_request_is_held`)
pub record Held (rooms : Rooms) (s : Settings) (r : Reached) (n : ℕ) : Type 0 where
  pub of_set : ℕ
  pub walked : IsHeldOfMessage rooms s r.progress.request (message_so_far r) of_set
  pub sum : n ≡ held_before_data r + of_set
