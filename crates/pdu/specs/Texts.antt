-- The PDUs that an acceptor sends in addition to A-ASSOCIATE-AC (PS3.8 sections 9.3.4 to 9.3.8). Reserved bytes are
-- zeros.
use Rattle.std.specs.Prelude.{ℕ, ◌+◌, Bool, List, [], ◌∷◌, ◌++◌, length, if◌then◌else◌}
use Rattle.element.specs.Numbers.{be}
use Rattle.pdu.specs.Types.{associate_rj, p_data_tf, release_rp, abort}
use Rattle.pdu.specs.Sizes.{pdv_least}

-- a PDU of this type with this body: type, reserved byte, length of four bytes, body
-- e.g. pdu_text 7 (0 ∷ []) ≡ 7 ∷ 0 ∷ 0 ∷ 0 ∷ 0 ∷ 1 ∷ 0 ∷ []
abbrev pub pdu_text : ℕ → List ℕ → List ℕ
pdu_text kind body = kind ∷ 0 ∷ (be (length body) 4 ++ body)

-- A-ASSOCIATE-RJ (PS3.8 section 9.3.4)
-- e.g. reject_text 1 1 7 ≡ 3 ∷ 0 ∷ 0 ∷ 0 ∷ 0 ∷ 4 ∷ 0 ∷ 1 ∷ 1 ∷ 7 ∷ []
abbrev pub reject_text : ℕ → ℕ → ℕ → List ℕ
reject_text result source reason = pdu_text associate_rj (0 ∷ result ∷ source ∷ reason ∷ [])

-- A-RELEASE-RP (PS3.8 section 9.3.7)
-- e.g. release_text ≡ 6 ∷ 0 ∷ 0 ∷ 0 ∷ 0 ∷ 4 ∷ 0 ∷ 0 ∷ 0 ∷ 0 ∷ []
abbrev pub release_text : List ℕ
release_text = pdu_text release_rp (0 ∷ 0 ∷ 0 ∷ 0 ∷ [])

-- A-ABORT (PS3.8 section 9.3.8)
-- e.g. abort_text 2 6 ≡ 7 ∷ 0 ∷ 0 ∷ 0 ∷ 0 ∷ 4 ∷ 0 ∷ 0 ∷ 2 ∷ 6 ∷ []
abbrev pub abort_text : ℕ → ℕ → List ℕ
abort_text source reason = pdu_text abort (0 ∷ 0 ∷ source ∷ reason ∷ [])

-- the control byte: bit 0 command, bit 1 last (PS3.8 annex E.2)
-- e.g. control_of true true ≡ 3; control_of false true ≡ 2
abbrev pub control_of : Bool → Bool → ℕ
control_of command last = (if command then 1 else 0) + (if last then 2 else 0)

-- a presentation data value: the length of what follows, context, control byte, fragment (PS3.8 section 9.3.5.1)
-- e.g. pdv_text 1 false true (9 ∷ []) ≡ 0 ∷ 0 ∷ 0 ∷ 3 ∷ 1 ∷ 2 ∷ 9 ∷ []
abbrev pub pdv_text : ℕ → Bool → Bool → List ℕ → List ℕ
pdv_text context command last fragment = be (length fragment + pdv_least) 4 ++ (context ∷ control_of command last ∷ fragment)

-- P-DATA-TF of one presentation data value (PS3.8 section 9.3.5)
-- e.g. data_text 1 true true (9 ∷ []) ≡ 4 ∷ 0 ∷ 0 ∷ 0 ∷ 0 ∷ 7 ∷ 0 ∷ 0 ∷ 0 ∷ 3 ∷ 1 ∷ 3 ∷ 9 ∷ []
abbrev pub data_text : ℕ → Bool → Bool → List ℕ → List ℕ
data_text context command last fragment = pdu_text p_data_tf (pdv_text context command last fragment)
