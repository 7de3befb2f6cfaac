-- The marks of the presentation data values of a P-DATA-TF PDU, and the position inside the PDU after the bytes so
-- far (PS3.8 section 9.3.5 and annex E.2).
use Rattle.std.specs.Prelude.{◌⊎◌, ◌≡◌, ℕ, zero, suc, ◌+◌, ◌-◌, ◌<◌, ◌≤◌, Bool, true, false, ◌&&◌, ◌||◌, List, [], ◌∷◌, ◌++◌, length, take, drop, get_or, nat_le, nat_lt, if◌then◌else◌}
use Rattle.std.specs.List.{flat_map}
use Rattle.byteorder.specs.Endian.{big_number}
use Rattle.pdu.specs.Sizes.{pdv_head_size, pdv_least}

-- What a byte of a stream of PDUs completes: a head, a presentation data value or a PDU. Marks of the same byte are in
-- the order of these lines.
pub data Mark : Type 0 where
  -- the head of a PDU, at its sixth byte: its type and the length of its body
  Head : (kind n : ℕ) → Mark
  -- the head of a presentation data value, at its sixth byte: its length, context ID and control byte
  PdvHead : (n context control : ℕ) → Mark
  -- a presentation data value, at its last byte
  Pdv : (context control : ℕ) (fragment : List ℕ) → Mark
  -- the head of a presentation data value whose length is below 2 or passes the PDU, at its sixth byte; the rest of
  -- the PDU has no marks but its end
  BadPdv : Mark
  -- one to five bytes of the PDU follow a presentation data value, at the last byte of the value; they have no marks
  -- but the PDU's end
  Leftover : Mark
  -- a whole PDU, at its last byte
  End : (kind : ℕ) (body : List ℕ) → Mark

-- the position inside a P-DATA-TF PDU
pub data DataSpot : Type 0 where
  -- after an invalid head or leftover bytes: the rest of this PDU is dropped
  Dropped : DataSpot
  -- in a presentation data value, with the bytes of it so far, possibly none; from its first byte on, the PDU has
  -- `room` bytes
  Within : (room : ℕ) (part : List ℕ) → DataSpot

-- ---- one presentation data value

-- the length in the head of a presentation data value: the number of bytes after that field
abbrev pub pdv_length : List ℕ → ℕ
pdv_length bytes = big_number 4 bytes

-- the presentation context ID of a PDV
abbrev pub pdv_context : List ℕ → ℕ
pdv_context bytes = get_or bytes 4 0

-- the control byte of a PDV
abbrev pub pdv_control : List ℕ → ℕ
pdv_control bytes = get_or bytes 5 0

-- what follows the head of a presentation data value
abbrev pub pdv_content : List ℕ → List ℕ
pdv_content bytes = drop pdv_head_size bytes

-- the size of a presentation data value in bytes: the four of its length field, and as many as that says
-- e.g. pdv_size (0 ∷ 0 ∷ 0 ∷ 2 ∷ []) ≡ 6
abbrev pub pdv_size : List ℕ → ℕ
pdv_size bytes = 4 + pdv_length bytes

-- the bytes begin with a valid head of a presentation data value, where `room` bytes of the PDU remain
pub record IsGoodHead (room : ℕ) (bytes : List ℕ) : Type 0 where
  pub headed : pdv_head_size ≤ length bytes
  pub least : pdv_least ≤ pdv_length bytes
  pub fits : pdv_size bytes ≤ room

-- the bytes begin with an invalid head of a presentation data value: its length is below 2 or passes the `room` bytes
-- that remain of the PDU
pub record IsBadHead (room : ℕ) (bytes : List ℕ) : Type 0 where
  pub headed : pdv_head_size ≤ length bytes
  pub why : (pdv_length bytes < pdv_least) ⊎ (room < pdv_size bytes)

-- the mark of the head of a presentation data value: its length, context ID and control byte
-- e.g. head_mark (0 ∷ 0 ∷ 0 ∷ 2 ∷ 1 ∷ 3 ∷ []) ≡ PdvHead 2 1 3
abbrev pub head_mark : List ℕ → Mark
head_mark bytes = PdvHead (pdv_length bytes) (pdv_context bytes) (pdv_control bytes)

-- the mark of a whole presentation data value: its context ID, control byte and fragment
-- e.g. pdv_mark (0 ∷ 0 ∷ 0 ∷ 3 ∷ 1 ∷ 3 ∷ 9 ∷ []) ≡ Pdv 1 3 (9 ∷ [])
abbrev pub pdv_mark : List ℕ → Mark
pdv_mark bytes = Pdv (pdv_context bytes) (pdv_control bytes) (take (pdv_length bytes - pdv_least) (pdv_content bytes))

-- a whole presentation data value
pub record IsPdv (v : List ℕ) : Type 0 where
  pub headed : pdv_head_size ≤ length v
  pub filled : length v ≡ pdv_size v

-- the marks of whole presentation data values, two each: the head and the whole value
abbrev pub marks_of_values : List (List ℕ) → List Mark
marks_of_values vs = flat_map (λ v. head_mark v ∷ pdv_mark v ∷ []) vs

-- whether one to five bytes of the PDU remain, too few for the head of a presentation data value
-- e.g. is_leftover 5 ≡ true; is_leftover 6 ≡ false
abbrev pub is_leftover : ℕ → Bool
is_leftover room = nat_le 1 room && nat_lt room pdv_head_size

-- ---- the marks

-- these bytes after the head of a P-DATA-TF, where so many bytes of it remain, have these marks and end at this
-- position
pub data Marked : ℕ → List ℕ → List Mark → DataSpot → Type 0 where
  -- less than a head
  too_short : {room : ℕ} {bytes : List ℕ} → length bytes < pdv_head_size → Marked room bytes [] (Within room bytes)
  -- an invalid head
  bad : {room : ℕ} {bytes : List ℕ} → IsBadHead room bytes → Marked room bytes (BadPdv ∷ []) Dropped
  -- a valid head, and less than a whole presentation data value
  unfinished : {room : ℕ} {bytes : List ℕ} → IsGoodHead room bytes → length bytes < pdv_size bytes → Marked room bytes (head_mark bytes ∷ []) (Within room bytes)
  -- a whole presentation data value, after which one to five bytes of the frame remain
  whole_and_leftover : {room : ℕ} {bytes : List ℕ} → IsGoodHead room bytes → pdv_size bytes ≤ length bytes → is_leftover (room - pdv_size bytes) ≡ true
      → Marked room bytes (head_mark bytes ∷ pdv_mark bytes ∷ Leftover ∷ []) Dropped
  -- a whole presentation data value, and what follows it
  whole_and_more : {room : ℕ} {bytes : List ℕ} {later : List Mark} {spot : DataSpot}
      → IsGoodHead room bytes → pdv_size bytes ≤ length bytes → is_leftover (room - pdv_size bytes) ≡ false
      → Marked (room - pdv_size bytes) (drop (pdv_size bytes) bytes) later spot
      → Marked room bytes (head_mark bytes ∷ pdv_mark bytes ∷ later) spot

-- ---- the marks, computed

-- the marks of the bytes after the head of a P-DATA-TF, and the position inside the PDU after them
pub record Pdvs : Type 0 where
  pub marks : List Mark
  pub spot : DataSpot

-- a whole presentation data value before later ones
abbrev pub with_pdv : List ℕ → Pdvs → Pdvs
with_pdv bytes later = record { marks = head_mark bytes ∷ pdv_mark bytes ∷ later.marks; spot = later.spot }

-- the marks of these bytes and the position after them, with at most k presentation data values: of less than a head,
-- an invalid head, less than a whole value, or a whole one and what follows it
-- e.g. pdvs_in 1 9 (0 ∷ 0 ∷ 0 ∷ 2 ∷ 1 ∷ []) ≡ record { marks = []; spot = Within 9 (0 ∷ 0 ∷ 0 ∷ 2 ∷ 1 ∷ []) }
-- e.g. pdvs_in 1 9 (0 ∷ 0 ∷ 0 ∷ 1 ∷ 1 ∷ 3 ∷ []) ≡ record { marks = BadPdv ∷ []; spot = Dropped }
-- e.g. pdvs_in 1 9 (0 ∷ 0 ∷ 0 ∷ 2 ∷ 1 ∷ 3 ∷ []) ≡ record { marks = PdvHead 2 1 3 ∷ Pdv 1 3 [] ∷ Leftover ∷ []; spot =
-- Dropped }
abbrev pub pdvs_in : ℕ → ℕ → List ℕ → Pdvs
pdvs_in zero room bytes = record { marks = []; spot = Within room bytes }
pdvs_in (suc k) room bytes =
    if nat_lt (length bytes) pdv_head_size then record { marks = []; spot = Within room bytes }
    else (if nat_lt (pdv_length bytes) pdv_least || nat_lt room (pdv_size bytes) then record { marks = BadPdv ∷ []; spot = Dropped }
    else (if nat_lt (length bytes) (pdv_size bytes) then record { marks = head_mark bytes ∷ []; spot = Within room bytes }
    else with_pdv bytes (if is_leftover (room - pdv_size bytes) then record { marks = Leftover ∷ []; spot = Dropped }
    else pdvs_in k (room - pdv_size bytes) (drop (pdv_size bytes) bytes))))

-- The marks of these bytes after the head of a P-DATA-TF of which `room` bytes remain, and the position after them.
-- There are at most as many presentation data values as bytes.
-- e.g. pdvs 6 [] ≡ record { marks = []; spot = Within 6 [] }
abbrev pub pdvs : ℕ → List ℕ → Pdvs
pdvs room bytes = pdvs_in (length bytes) room bytes

-- the marks of the bytes after the head of a P-DATA-TF
-- e.g. pdv_marks 6 (0 ∷ 0 ∷ 0 ∷ 2 ∷ 1 ∷ 3 ∷ []) ≡ PdvHead 2 1 3 ∷ Pdv 1 3 [] ∷ []
unfoldable pub pdv_marks : ℕ → List ℕ → List Mark
pdv_marks room bytes = (pdvs room bytes).marks

-- the position inside a P-DATA-TF after these bytes
-- e.g. data_spot 6 (0 ∷ []) ≡ Within 6 (0 ∷ [])
unfoldable pub data_spot : ℕ → List ℕ → DataSpot
data_spot room bytes = (pdvs room bytes).spot

-- the marks of the bytes of a piece that follow these bytes in a P-DATA-TF
unfoldable pub new_pdv_marks : ℕ → List ℕ → List ℕ → List Mark
new_pdv_marks room bytes piece = drop (length (pdv_marks room bytes)) (pdv_marks room (bytes ++ piece))
