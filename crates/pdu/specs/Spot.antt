-- The position inside an unfinished PDU, or frame (PS3.8 section 9.3).
use Rattle.std.specs.Prelude.{ℕ, ◌+◌, ◌-◌, List, length, nat_eq, nat_lt, if◌then◌else◌}
use Rattle.pdu.specs.Types.{p_data_tf}
use Rattle.pdu.specs.Sizes.{head_size}
use Rattle.pdu.specs.Marks.{frame_kind, frame_length, frame_body}
use Rattle.pdu.specs.Pdvs.{DataSpot, Dropped, Within, data_spot}

-- the position inside an unfinished PDU: in its head, in a body without further marks before the end, or in a
-- presentation data value
pub data Spot : Type 0 where
  -- in the head
  Opening : Spot
  -- in a body with no further mark before its end: of a PDU other than P-DATA-TF, or after an invalid head or leftover
  -- bytes
  Plain : Spot
  -- in a presentation data value of a P-DATA-TF, with the bytes of it so far, possibly none
  InPdv : (part : List ℕ) → Spot

-- the position inside a PDU, for this position inside a P-DATA-TF
-- e.g. spot_of Dropped ≡ Plain
abbrev pub spot_of : DataSpot → Spot
spot_of Dropped = Plain
spot_of (Within room started) = InPdv started

-- the position inside the unfinished PDU with these bytes
-- e.g. spot (4 ∷ 0 ∷ 0 ∷ 0 ∷ 0 ∷ 8 ∷ 0 ∷ []) ≡ InPdv (0 ∷ []); spot (5 ∷ 0 ∷ []) ≡ Opening
unfoldable pub spot : List ℕ → Spot
spot r =
    if nat_lt (length r) head_size then Opening
    else (if nat_eq (frame_kind r) p_data_tf then spot_of (data_spot (frame_length r) (frame_body r))
    else Plain)

-- how many bytes of the frame remain, after its head
abbrev pub room_remaining : List ℕ → ℕ
room_remaining r = (head_size + frame_length r) - length r
