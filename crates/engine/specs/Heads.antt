-- The event that the head of a PDU causes at its sixth byte, before its body is received (PS3.8 section 9.2; the
-- order of the checks and the bounds are this product's own profile).
use Rattle.std.specs.Prelude.{ℕ, Bool, true, false, not, ◌&&◌, ◌||◌, nat_eq, nat_le, nat_lt, if◌then◌else◌}
use Rattle.acceptor.specs.declared.state.State.{State}
use Rattle.acceptor.specs.declared.action.Action.{Action}
use Rattle.acceptor.specs.declared.action.Action.TheVariants.{Aa1, Aa7, Aa8}
use Rattle.acceptor.specs.declared.event.Event.{Event}
use Rattle.acceptor.specs.declared.event.Event.TheVariants as event
use Rattle.acceptor.specs.Table.{table}
use Rattle.decisions.specs.declared.head_fault.HeadFault.{HeadFault}
use Rattle.decisions.specs.declared.head_fault.HeadFault.TheVariants as fault
use Rattle.pdu.specs.Types.{associate_rq, associate_ac, associate_rj, p_data_tf, release_rq, release_rp, abort}
use Rattle.pdu.specs.Sizes.{pdv_head_size, short_body, request_head_size}
use Rattle.engine.specs.Progress.{is_due, is_established}

-- ---- reasons of an A-ABORT of the service provider (PS3.8 section 9.3.8, Table 9-26)

-- the reason unrecognized-PDU of an A-ABORT
abbrev pub unrecognized_pdu : ℕ
unrecognized_pdu = 1

-- the reason unexpected-PDU of an A-ABORT
abbrev pub unexpected_pdu : ℕ
unexpected_pdu = 2

-- the reason invalid-PDU-parameter-value of an A-ABORT
abbrev pub invalid_parameter : ℕ
invalid_parameter = 6

-- the reason of an A-ABORT for the fault of a head
-- e.g. abort_reason fault.ShortData ≡ 6
abbrev pub abort_reason : HeadFault → ℕ
abort_reason fault.Unrecognized = unrecognized_pdu
abort_reason fault.Unexpected = unexpected_pdu
abort_reason fault.OtherLength = invalid_parameter
abort_reason fault.ShortRequest = invalid_parameter
abort_reason (fault.LongData most) = invalid_parameter
abort_reason fault.ShortData = invalid_parameter

-- The event that a head causes: none; an event of the state table, for a fault; or the rejection of a request that is
-- longer than the limit.
pub data HeadEvent : Type 0 where
  NoEvent : HeadEvent
  AtOnce : (event : Event) (fault : HeadFault) → HeadEvent
  TooLong : HeadEvent

-- the event of the state table for a received PDU of this type
-- e.g. event_of 7 ≡ event.Abort; event_of 71 ≡ event.Invalid
abbrev pub event_of : ℕ → Event
event_of kind =
    if nat_eq kind associate_rq then event.AcceptableRq
    else (if nat_eq kind associate_ac then event.Ac
    else (if nat_eq kind associate_rj then event.Rj
    else (if nat_eq kind p_data_tf then event.Data
    else (if nat_eq kind release_rq then event.ReleaseRq
    else (if nat_eq kind release_rp then event.ReleaseRp
    else (if nat_eq kind abort then event.Abort
    else event.Invalid))))))

-- whether the type is one of the seven PDU types
-- e.g. is_known 7 ≡ true; is_known 71 ≡ false
abbrev pub is_known : ℕ → Bool
is_known kind = nat_le associate_rq kind && nat_le kind abort

-- the types of PDUs with a body of four bytes
-- e.g. has_four_bytes 5 ≡ true; has_four_bytes 4 ≡ false
abbrev pub has_four_bytes : ℕ → Bool
has_four_bytes kind = nat_eq kind associate_rj || nat_le release_rq kind

-- the actions that send an A-ABORT
-- e.g. is_abort Aa7 ≡ true
abbrev pub is_abort : Action → Bool
is_abort Aa1 = true
is_abort Aa7 = true
is_abort Aa8 = true
is_abort action = false

-- a PDU whose type leads to an A-ABORT in this state has its event at its head
-- e.g. out_of_place Sta6 2 ≡ AtOnce event.Ac fault.Unexpected
abbrev pub out_of_place : State → ℕ → HeadEvent
out_of_place state kind = if is_abort (table state (event_of kind)).0 then AtOnce (event_of kind) fault.Unexpected else NoEvent

-- the check of the length of a request: above the limit it is rejected, below the 68 bytes before its items it is
-- invalid
-- e.g. request_length 65524 65525 ≡ TooLong; request_length 65524 67 ≡ AtOnce event.Invalid fault.ShortRequest
-- e.g. request_length 65524 68 ≡ NoEvent
abbrev pub request_length : ℕ → ℕ → HeadEvent
request_length room n = if nat_lt room n then TooLong else (if nat_lt n request_head_size then AtOnce event.Invalid fault.ShortRequest else NoEvent)

-- the check of the length of a P-DATA-TF: at least the head of one presentation data value, at most the announced
-- maximum length
-- e.g. data_length 16384 16385 ≡ AtOnce event.Invalid (fault.LongData 16384); data_length 16384 6 ≡ NoEvent
abbrev pub data_length : ℕ → ℕ → HeadEvent
data_length most n =
    if nat_lt most n then AtOnce event.Invalid (fault.LongData most) else (if nat_lt n pdv_head_size then AtOnce event.Invalid fault.ShortData else NoEvent)

-- the event that the head of a PDU of this type and length causes in this state; the body of a request has at most
-- `room` bytes, a P-DATA-TF at most `most`
-- e.g. head_event 65524 16384 Sta2 71 0 ≡ AtOnce event.Invalid fault.Unrecognized
-- e.g. head_event 65524 16384 Sta6 5 4 ≡ NoEvent
abbrev pub head_event : ℕ → ℕ → State → ℕ → ℕ → HeadEvent
head_event room most state kind n =
    if not (is_known kind) then AtOnce event.Invalid fault.Unrecognized
    else (if has_four_bytes kind && not (nat_eq n short_body) then AtOnce event.Invalid fault.OtherLength
    else (if is_due state && nat_eq kind associate_rq then request_length room n
    else (if is_established state && nat_eq kind p_data_tf then data_length most n
    else out_of_place state kind)))
