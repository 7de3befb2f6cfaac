-- The frames of a stream: its whole PDUs, each a head of six bytes and a body of the length that the head says (PS3.8
-- section 9.3.1).
use Rattle.std.specs.Prelude.{ℕ, List, drop}
use Rattle.byteorder.specs.Endian.{big_number}
use Rattle.pdu.specs.Sizes.{head_size}
use Rattle.pdu.specs.Pieces.{PieceLayout, pieces_of}
use Rattle.pdu.specs.Pieces as pieces

-- the layout of a PDU: one byte type, one reserved, four bytes length, and a body of that length
-- e.g. frame.body (1 ∷ 0 ∷ 0 ∷ 0 ∷ 0 ∷ 4 ∷ []) ≡ 4
abbrev pub frame : PieceLayout
frame = record { head = head_size; body = λ text. big_number 4 (drop 2 text) }

abbrev pub IsFrame : List ℕ → Type 0
IsFrame f = pieces.IsWholePiece frame f

-- fewer bytes than a whole PDU
abbrev pub IsRest : List ℕ → Type 0
IsRest r = pieces.IsPartial frame r

-- the stream is these whole PDUs, followed by fewer bytes than a whole one
abbrev pub Splits : List ℕ → List (List ℕ) → List ℕ → Type 0
Splits stream frames rest = pieces.Splits frame stream frames rest

-- the whole PDUs of a stream
-- e.g. frames_of (5 ∷ 0 ∷ 0 ∷ 0 ∷ 0 ∷ 0 ∷ 7 ∷ 0 ∷ []) ≡ (5 ∷ 0 ∷ 0 ∷ 0 ∷ 0 ∷ 0 ∷ []) ∷ []
unfoldable pub frames_of : List ℕ → List (List ℕ)
frames_of stream = (pieces_of frame stream).0

-- the bytes of a stream after its whole PDUs: those of the unfinished PDU
-- e.g. rest_of (5 ∷ 0 ∷ 0 ∷ 0 ∷ 0 ∷ 0 ∷ 7 ∷ 0 ∷ []) ≡ 7 ∷ 0 ∷ []
unfoldable pub rest_of : List ℕ → List ℕ
rest_of stream = (pieces_of frame stream).1
