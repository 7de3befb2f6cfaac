-- The marks of a stream of PDUs: what its bytes complete, one after the other (PS3.8 section 9.3).
use Rattle.std.specs.Prelude.{ℕ, List, [], ◌∷◌, ◌++◌, length, drop, get_or, nat_eq, nat_lt, if◌then◌else◌}
use Rattle.std.specs.List.{flat_map}
use Rattle.byteorder.specs.Endian.{big_number}
use Rattle.pdu.specs.Types.{p_data_tf}
use Rattle.pdu.specs.Sizes.{head_size}
use Rattle.pdu.specs.Frames.{frames_of, rest_of}
pub use Rattle.pdu.specs.Pdvs.{Mark, Head, PdvHead, Pdv, BadPdv, Leftover, End, pdv_length, pdv_context, pdv_control, pdv_content, pdv_size, head_mark, pdv_mark, IsPdv, marks_of_values, is_leftover}
unfoldable pub use Rattle.pdu.specs.Pdvs.{pdv_marks}

-- the type of a PDU, the first byte of its head
-- e.g. frame_kind (5 ∷ []) ≡ 5
abbrev pub frame_kind : List ℕ → ℕ
frame_kind f = get_or f 0 0

-- the length of the body of a PDU, from its head
-- e.g. frame_length (4 ∷ 0 ∷ 0 ∷ 0 ∷ 1 ∷ 0 ∷ []) ≡ 256
abbrev pub frame_length : List ℕ → ℕ
frame_length f = big_number 4 (drop 2 f)

-- the body of a PDU, after its head
abbrev pub frame_body : List ℕ → List ℕ
frame_body f = drop head_size f

-- the marks inside a PDU, between its head and its end: those of the presentation data values of a P-DATA-TF
-- e.g. inner_marks (5 ∷ 0 ∷ 0 ∷ 0 ∷ 0 ∷ 4 ∷ 0 ∷ []) ≡ []
abbrev pub inner_marks : List ℕ → List Mark
inner_marks f = if nat_eq (frame_kind f) p_data_tf then pdv_marks (frame_length f) (frame_body f) else []

-- the marks of a whole PDU: its head, those inside it, its end
-- e.g. whole_marks (5 ∷ 0 ∷ 0 ∷ 0 ∷ 0 ∷ 1 ∷ 9 ∷ []) ≡ Head 5 1 ∷ End 5 (9 ∷ []) ∷ []
abbrev pub whole_marks : List ℕ → List Mark
whole_marks f = Head (frame_kind f) (frame_length f) ∷ (inner_marks f ++ End (frame_kind f) (frame_body f) ∷ [])

-- the marks of an unfinished PDU
-- e.g. unfinished_marks (5 ∷ 0 ∷ 0 ∷ 0 ∷ 0 ∷ []) ≡ []; unfinished_marks (5 ∷ 0 ∷ 0 ∷ 0 ∷ 0 ∷ 4 ∷ []) ≡ Head 5 4 ∷ []
abbrev pub unfinished_marks : List ℕ → List Mark
unfinished_marks r = if nat_lt (length r) head_size then [] else Head (frame_kind r) (frame_length r) ∷ inner_marks r

-- the marks of a stream
-- e.g. marks (5 ∷ 0 ∷ 0 ∷ 0 ∷ 0 ∷ 0 ∷ []) ≡ Head 5 0 ∷ End 5 [] ∷ []
unfoldable pub marks : List ℕ → List Mark
marks stream = flat_map whole_marks (frames_of stream) ++ unfinished_marks (rest_of stream)

-- the marks that the bytes of a piece complete
-- e.g. new_marks (5 ∷ 0 ∷ 0 ∷ 0 ∷ 0 ∷ []) (0 ∷ []) ≡ Head 5 0 ∷ End 5 [] ∷ []
unfoldable pub new_marks : List ℕ → List ℕ → List Mark
new_marks stream piece = drop (length (marks stream)) (marks (stream ++ piece))

-- the marks of these pieces, piece by piece
abbrev pub marks_by : List ℕ → List (List ℕ) → List Mark
marks_by stream [] = []
marks_by stream (piece ∷ pieces) = new_marks stream piece ++ marks_by (stream ++ piece) pieces
