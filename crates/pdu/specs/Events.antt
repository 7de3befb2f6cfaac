-- The tokens of a stream of PDUs, byte by byte, and the events that report them (PS3.8 section 9.3).
use Rattle.std.specs.Prelude.{◌≡◌, ℕ, ◌<◌, List, [], ◌∷◌, ◌++◌, length, map, Option, Some, None, nat_lt, if◌then◌else◌}
use Rattle.pdu.specs.declared.event.Event.{Event}
use Rattle.pdu.specs.declared.event.Event.TheVariants as event
use Rattle.pdu.specs.Frames.{rest_of}
use Rattle.pdu.specs.Sizes.{pdv_head_size}
use Rattle.pdu.specs.Heads.{is_command, is_last}
use Rattle.pdu.specs.Marks.{Mark, Head, PdvHead, Pdv, BadPdv, Leftover, End, new_marks}
use Rattle.pdu.specs.Spot.{Spot, Opening, Plain, InPdv, spot}

pub data Token : Type 0 where
  -- a byte of a body that has no further mark before its end
  OfBody : (byte : ℕ) → Token
  -- a byte of a fragment
  OfFragment : (byte : ℕ) → Token
  -- a mark, after the byte that completes it
  Completes : (mark : Mark) → Token

-- the tokens of these bytes themselves, at this spot: bytes of bodies and fragments are tokens, those of heads are
-- not
abbrev pub lent : Spot → List ℕ → List Token
lent Opening bytes = []
lent Plain bytes = map OfBody bytes
lent (InPdv part) bytes = if nat_lt (length part) pdv_head_size then [] else map OfFragment bytes

-- the tokens of the bytes of a piece that follows this stream
abbrev pub tokens : List ℕ → List ℕ → List Token
tokens stream [] = []
tokens stream (b ∷ piece) = lent (spot (rest_of stream)) (b ∷ []) ++ (map Completes (new_marks stream (b ∷ [])) ++ tokens (stream ++ b ∷ []) piece)

-- the marks among these tokens
abbrev pub marks_among : List Token → List Mark
marks_among [] = []
marks_among (OfBody byte ∷ ts) = marks_among ts
marks_among (OfFragment byte ∷ ts) = marks_among ts
marks_among (Completes mark ∷ ts) = mark ∷ marks_among ts

-- the event that reports a mark
abbrev pub event_of : Mark → Event
event_of (Head kind n) = event.PduHead (record { kind = kind; length = n })
event_of (PdvHead n context control) = event.PdvHead (record { length = n; context = context; command = is_command control; last = is_last control })
event_of (Pdv context control fragment) = event.PdvEnd
event_of BadPdv = event.BadPdv
event_of Leftover = event.Leftover
event_of (End kind body) = event.PduEnd kind

-- the event reports this one mark
pub record ReportsMark (e : Event) (ts : List Token) : Type 0 where
  pub mark : Mark
  pub one : ts ≡ Completes mark ∷ []
  pub same : e ≡ event_of mark

-- the slice `part` that the event has is these bytes, at least one, and the event reports them as the tokens ts
pub record Lends (part bytes : List ℕ) (all ts : List Token) : Type 0 where
  pub part_is : part ≡ bytes
  pub some : 0 < length bytes
  pub lent : ts ≡ all

-- of these bytes, the ones that were consumed, the event reports these tokens: one mark, or the bytes themselves
abbrev pub Reports : List ℕ → Option Event → List Token → Type 0
Reports consumed None ts = ts ≡ []
Reports consumed (Some (event.Body part)) ts = Lends part.now consumed (map OfBody consumed) ts
Reports consumed (Some (event.Fragment part)) ts = Lends part.now consumed (map OfFragment consumed) ts
Reports consumed (Some (event.PduHead head)) ts = ReportsMark (event.PduHead head) ts
Reports consumed (Some (event.PdvHead head)) ts = ReportsMark (event.PdvHead head) ts
Reports consumed (Some event.PdvEnd) ts = ReportsMark event.PdvEnd ts
Reports consumed (Some event.BadPdv) ts = ReportsMark event.BadPdv ts
Reports consumed (Some event.Leftover) ts = ReportsMark event.Leftover ts
Reports consumed (Some (event.PduEnd kind)) ts = ReportsMark (event.PduEnd kind) ts
