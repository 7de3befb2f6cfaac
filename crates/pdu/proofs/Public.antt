-- What the crates above cite of this crate's lemmas: the laws of `pdu::laws`, `pdu::part_laws` and
-- `pdu::deframer_laws`, which are their contracts, in the words of the definitions alone.
use Rattle.std.proofs.Common.{◌⊎◌, ◌≡◌, ℕ, ◌+◌, ◌-◌, ◌<◌, ◌≤◌, eqb, List, [], ◌∷◌, ◌++◌, length, map, Option, None, Some, Result, Err, Ok}
use Rattle.std.specs.Io.KnownBytes.{append_known}
use Rattle.std.specs.List.{AllByRecursion, IsDistinct}
use Rattle.byteorder.specs.Endian.{big_number}
use Rattle.element.specs.Numbers.{IsBytes}
use Rattle.pdu.specs.declared.wire.WireFailed.{WireFailed}
use Rattle.pdu.specs.Sent.{Line, sent_all, Sends}
use Rattle.pdu.specs.Record.{RequestRecord}
use Rattle.pdu.specs.Request.{RequestText, IsContextId, IsRequest}
use Rattle.pdu.specs.Items.{request_record}
use Rattle.pdu.specs.Refusal.{request_fault}
use Rattle.pdu.specs.Frames.{IsRest, rest_of}
use Rattle.pdu.specs.declared.position.Position.{Position}
use Rattle.pdu.specs.declared.event.Event.{Event}
use Rattle.pdu.specs.Events.{OfBody, OfFragment, marks_among, ReportsMark}
use Rattle.pdu.specs.Deframing.{At, Consumed, Skip, MarksWithin}
use Rattle.pdu.specs.Steps.{skip_of}
use Rattle.pdu.specs.Marks.{Mark, Head, BadPdv, pdv_size, head_mark, pdv_mark, frame_kind, frame_length, new_marks}
use Rattle.pdu.specs.Spot.{Opening, Plain, InPdv, spot, room_remaining}
use Rattle.pdu.specs.Parts.{SameFrame, SameHead, IsInData, IsUnfinishedPdv, Continues, Arrives, leftover_marks, leftover_spot, body_spot}
use Rattle.pdu.proofs.SendsAllOrFront as sending
use Rattle.pdu.proofs.BodySpellsOneRequest as requests
use Rattle.pdu.proofs.ContextIdsAreFew as ids
use Rattle.pdu.proofs.DataMarksAreComputed as values
use Rattle.pdu.proofs.FramesAreUnique as frames
use Rattle.pdu.proofs.EachPartIsMarked as parts
use Rattle.pdu.proofs.MarksWithinAPdu as within
use Rattle.pdu.proofs.CallFollowsTheMarks as calls
use Rattle.pdu.proofs.CallReportsNewMarks as steps

-- ---- wires: one text after another

pub known_nothing : (old : Option (List ℕ)) → append_known old [] ≡ old
known_nothing = sending.known_nothing

pub known_then : (old : Option (List ℕ)) (a b : List ℕ) → append_known (append_known old a) b ≡ append_known old (a ++ b)
known_then = sending.known_then

pub all_nothing : (old : Line) → sent_all [] old ≡ old
all_nothing = sending.all_nothing

pub all_then : (a b : List ℕ) (old : Line) → sent_all b (sent_all a old) ≡ sent_all (a ++ b) old
all_then = sending.all_then

pub sends_part : (a b : List ℕ) (f : WireFailed) (old new : Line) → Sends a (Err f) old new → Sends (a ++ b) (Err f) old new
sends_part = sending.sends_part

pub sends_then : (a b : List ℕ) (result : Result (Unit {0}) WireFailed) (old now new : Line) → Sends a (Ok tt) old now → Sends b result now new → Sends (a ++ b) result old new
sends_then = sending.sends_then

-- ---- requests

pub request_fits : (r : RequestRecord) (b : List ℕ) → RequestText r b → request_fault b ≡ None
request_fits = requests.request_fits

pub request_text : (b : List ℕ) → request_fault b ≡ None → RequestText (request_record b) b
request_text = requests.request_text

pub request_kept : (r : RequestRecord) (b : List ℕ) → IsBytes b → RequestText r b → IsRequest r
request_kept = requests.request_kept

pub few_ids : (ns : List ℕ) → AllByRecursion IsContextId ns → IsDistinct eqb ns → length ns ≤ 128
few_ids = ids.few_ids

-- ---- streams of PDUs

pub rest_is_rest : (s : List ℕ) → IsRest (rest_of s)
rest_is_rest = frames.rest_is_rest

pub rest_alone : (r : List ℕ) → IsRest r → rest_of r ≡ r
rest_alone = frames.rest_alone

pub rest_rest : (s p : List ℕ) → rest_of (s ++ p) ≡ rest_of (rest_of s ++ p)
rest_rest = frames.rest_rest

pub new_nothing : (s : List ℕ) → new_marks s [] ≡ []
new_nothing = frames.new_nothing

pub new_then : (s p q : List ℕ) → new_marks s (p ++ q) ≡ new_marks s p ++ new_marks (s ++ p) q
new_then = frames.new_then

pub new_rest : (s p : List ℕ) → new_marks s p ≡ new_marks (rest_of s) p
new_rest = frames.new_rest

-- ---- what further bytes mark, by where the unfinished PDU stands

pub same_frame : (f more : List ℕ) → 6 ≤ length f → SameFrame f more
same_frame = frames.same_frame

pub same_head : (bytes more : List ℕ) → 6 ≤ length bytes → SameHead bytes more
same_head = values.same_head

pub marks_within : (r c : List ℕ) → IsRest r → 6 ≤ length r → MarksWithin r c
marks_within = within.marks_within

pub spot_opening : (r : List ℕ) → length r < 6 → spot r ≡ Opening
spot_opening = parts.spot_opening

pub in_data : (r b : List ℕ) → IsRest r → spot r ≡ InPdv b → IsInData r
in_data = parts.in_data

pub unfinished_pdv : (r b : List ℕ) → IsRest r → spot r ≡ InPdv b → IsUnfinishedPdv (room_remaining r + length b) b
unfinished_pdv = parts.unfinished_pdv

pub head_part : (r c : List ℕ) → length (r ++ c) < 6 → Continues r c [] Opening
head_part = parts.head_part

pub head_done : (r c : List ℕ) → length r < 6 → length (r ++ c) ≡ 6 → Arrives r c (Head (frame_kind (r ++ c)) (frame_length (r ++ c)) ∷ []) (body_spot (frame_kind (r ++ c)))
head_done = parts.head_done

pub plain_part : (r c : List ℕ) → IsRest r → spot r ≡ Plain → Arrives r c [] Plain
plain_part = parts.plain_part

pub pdv_head_part : (r c b : List ℕ) → IsRest r → spot r ≡ InPdv b → length (b ++ c) < 6 → Arrives r c [] (InPdv (b ++ c))
pdv_head_part = parts.pdv_head_part

pub pdv_head_bad : (r c b : List ℕ) → IsRest r → spot r ≡ InPdv b → length b < 6 → length (b ++ c) ≡ 6
    → (big_number 4 (b ++ c) < 2) ⊎ (room_remaining r + length b < pdv_size (b ++ c)) → Arrives r c (BadPdv ∷ []) Plain
pdv_head_bad = parts.pdv_head_bad

pub pdv_head_done : (r c b : List ℕ) → IsRest r → spot r ≡ InPdv b → length b < 6 → length (b ++ c) ≡ 6 → 2 < big_number 4 (b ++ c)
    → pdv_size (b ++ c) ≤ room_remaining r + length b → Arrives r c (head_mark (b ++ c) ∷ []) (InPdv (b ++ c))
pdv_head_done = parts.pdv_head_done

pub pdv_head_whole : (r c b : List ℕ) → IsRest r → spot r ≡ InPdv b → length c ≤ room_remaining r → length b < 6 → length (b ++ c) ≡ 6 → big_number 4 (b ++ c) ≡ 2
    → Arrives r c (head_mark (b ++ c) ∷ pdv_mark (b ++ c) ∷ leftover_marks (room_remaining r - length c)) (leftover_spot (room_remaining r - length c))
pdv_head_whole = parts.pdv_head_whole

pub fragment_part : (r c b : List ℕ) → IsRest r → spot r ≡ InPdv b → 6 ≤ length b → length (b ++ c) < pdv_size b → Arrives r c [] (InPdv (b ++ c))
fragment_part = parts.fragment_part

pub fragment_done : (r c b : List ℕ) → IsRest r → spot r ≡ InPdv b → length c ≤ room_remaining r → 6 ≤ length b → length (b ++ c) ≡ pdv_size b
    → Arrives r c (pdv_mark (b ++ c) ∷ leftover_marks (room_remaining r - length c)) (leftover_spot (room_remaining r - length c))
fragment_done = parts.fragment_done

-- ---- what a deframer's call reports, as marks

pub marks_consumed : (new : Position) (r : List ℕ) (due : List Mark) (c : List ℕ) (e : Option Event) → (t : Consumed new r due c e) → due ++ new_marks r c ≡ marks_among t.reported ++ t.later
marks_consumed = steps.marks_consumed

pub mark_consumed : (new : Position) (r : List ℕ) (due : List Mark) (c : List ℕ) (e : Event) → (t : Consumed new r due c (Some e)) → (m : ReportsMark e t.reported) → due ++ new_marks r c ≡ m.mark ∷ t.later
mark_consumed = steps.mark_consumed

pub among_body : (bytes : List ℕ) → marks_among (map OfBody bytes) ≡ []
among_body = steps.among_body

pub among_fragment : (bytes : List ℕ) → marks_among (map OfFragment bytes) ≡ []
among_fragment = steps.among_fragment

pub skip_at : (q : Position) (r : List ℕ) (due : List Mark) → At q r due → Skip (skip_of q) r due
skip_at = calls.skip_at
