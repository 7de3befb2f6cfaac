-- The marks of further bytes of a PDU, and the spot inside the PDU after them.
use Rattle.std.specs.Prelude.{◌≡◌, ℕ, ◌<◌, ◌≤◌, List, [], ◌∷◌, ◌++◌, length, nat_eq, true, if◌then◌else◌}
use Rattle.pdu.specs.Types.{p_data_tf}
use Rattle.pdu.specs.Sizes.{head_size, pdv_head_size, pdv_least}
use Rattle.pdu.specs.Frames.{IsFrame, IsRest, rest_of}
use Rattle.pdu.specs.Marks.{Mark, Leftover, End, pdv_length, pdv_context, pdv_control, pdv_content, pdv_size, is_leftover, frame_kind, frame_length, frame_body, new_marks}
use Rattle.pdu.specs.Spot.{Spot, Plain, InPdv, spot}

-- b are the first bytes of a presentation data value that is unfinished; from its first byte on the PDU has `room`
-- bytes
pub data IsUnfinishedPdv (room : ℕ) (b : List ℕ) : Type 0 where
  in_head : length b < pdv_head_size → IsUnfinishedPdv room b
  in_fragment : pdv_head_size ≤ length b → pdv_least ≤ pdv_length b → pdv_size b ≤ room → length b < pdv_size b → IsUnfinishedPdv room b

-- the marks after a presentation data value after which `room` bytes of its PDU remain: one to five are leftover
abbrev pub leftover_marks : ℕ → List Mark
leftover_marks room = if is_leftover room then Leftover ∷ [] else []

abbrev pub leftover_spot : ℕ → Spot
leftover_spot room = if is_leftover room then Plain else InPdv []

abbrev pub body_spot : ℕ → Spot
body_spot kind = if nat_eq kind p_data_tf then InPdv [] else Plain

abbrev pub end_mark : List ℕ → Mark
end_mark f = End (frame_kind f) (frame_body f)

-- after the bytes r of a PDU the bytes c have these marks and leave the PDU unfinished, at the spot s
pub record Continues (r c : List ℕ) (ms : List Mark) (s : Spot) : Type 0 where
  pub marks : new_marks r c ≡ ms
  pub rest : rest_of (r ++ c) ≡ r ++ c
  pub spot_is : spot (r ++ c) ≡ s

-- after the bytes r of a PDU the bytes c complete it: they have these marks, and that of its end
pub record Ends (r c : List ℕ) (ms : List Mark) : Type 0 where
  pub marks : new_marks r c ≡ ms ++ end_mark (r ++ c) ∷ []
  pub rest : rest_of (r ++ c) ≡ []

-- after the bytes r of a PDU the bytes c have these marks; the PDU is then unfinished, at the spot s, or it is
-- complete, and the mark of its end is the last
pub record Arrives (r c : List ℕ) (ms : List Mark) (s : Spot) : Type 0 where
  pub continues : IsRest (r ++ c) → Continues r c ms s
  pub ends : IsFrame (r ++ c) → Ends r c ms

-- the head of a PDU does not depend on the bytes after it
pub record SameFrame (f more : List ℕ) : Type 0 where
  pub kind : frame_kind (f ++ more) ≡ frame_kind f
  pub n : frame_length (f ++ more) ≡ frame_length f
  pub body : frame_body (f ++ more) ≡ frame_body f ++ more

-- the head of a presentation data value does not depend on the bytes after it
pub record SameHead (bytes more : List ℕ) : Type 0 where
  pub number : pdv_length (bytes ++ more) ≡ pdv_length bytes
  pub context : pdv_context (bytes ++ more) ≡ pdv_context bytes
  pub control : pdv_control (bytes ++ more) ≡ pdv_control bytes
  pub body : pdv_content (bytes ++ more) ≡ pdv_content bytes ++ more

-- the bytes r have the head of a PDU, with the type of P-DATA-TF
pub record IsInData (r : List ℕ) : Type 0 where
  pub headed : head_size ≤ length r
  pub kind : nat_eq (frame_kind r) p_data_tf ≡ true
