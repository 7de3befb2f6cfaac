-- Example streams for the definitions of marks.
use Rattle.std.specs.Prelude.{ℕ, List, [], ◌∷◌, drop}
use Rattle.pdu.specs.Marks.{Mark, Head, PdvHead, Pdv, BadPdv, End}
use Rattle.pdu.specs.Events.{Token, OfBody, OfFragment, Completes}

-- 'GET / ', the first bytes of an HTTP request and no PDU
abbrev pub no_pdu : List ℕ
no_pdu = 0x47 ∷ 0x45 ∷ 0x54 ∷ 0x20 ∷ 0x2F ∷ 0x20 ∷ []

-- P-DATA with a presentation data value whose fragment has two bytes, and then one whose length is 1
abbrev pub good_then_bad : List ℕ
good_then_bad = 4 ∷ 0 ∷ 0 ∷ 0 ∷ 0 ∷ 14 ∷ 0 ∷ 0 ∷ 0 ∷ 4 ∷ 1 ∷ 3 ∷ 0xAA ∷ 0xBB ∷ 0 ∷ 0 ∷ 0 ∷ 1 ∷ 1 ∷ 3 ∷ []

abbrev pub good_marks : List Mark
good_marks = Head 4 14 ∷ PdvHead 4 1 3 ∷ Pdv 1 3 (0xAA ∷ 0xBB ∷ []) ∷ []

abbrev pub good_then_bad_marks : List Mark
good_then_bad_marks = Head 4 14 ∷ PdvHead 4 1 3 ∷ Pdv 1 3 (0xAA ∷ 0xBB ∷ []) ∷ BadPdv ∷ End 4 (drop 6 good_then_bad) ∷ []

-- P-DATA of this length, up to the end of a presentation data value with an empty fragment
abbrev pub empty_pdv : ℕ → List ℕ
empty_pdv n = 4 ∷ 0 ∷ 0 ∷ 0 ∷ 0 ∷ n ∷ 0 ∷ 0 ∷ 0 ∷ 2 ∷ 1 ∷ 2 ∷ []

-- P-DATA of six bytes with a presentation data value of seven
abbrev pub past_the_end : List ℕ
past_the_end = 4 ∷ 0 ∷ 0 ∷ 0 ∷ 0 ∷ 6 ∷ 0 ∷ 0 ∷ 0 ∷ 3 ∷ 1 ∷ 3 ∷ []

-- A-RELEASE-RQ, and the head of another
abbrev pub release_twice : List ℕ
release_twice = 5 ∷ 0 ∷ 0 ∷ 0 ∷ 0 ∷ 4 ∷ 0 ∷ 0 ∷ 0 ∷ 0 ∷ 5 ∷ 0 ∷ 0 ∷ 0 ∷ 0 ∷ 4 ∷ []

-- the tokens of `release_twice`: the head, four bytes of the body, the end, and the head of the other PDU
abbrev pub release_twice_tokens : List Token
release_twice_tokens = Completes (Head 5 4) ∷ OfBody 0 ∷ OfBody 0 ∷ OfBody 0 ∷ OfBody 0 ∷ Completes (End 5 (0 ∷ 0 ∷ 0 ∷ 0 ∷ [])) ∷ Completes (Head 5 4) ∷ []

-- P-DATA of one presentation data value
abbrev pub one_value : List ℕ
one_value = 4 ∷ 0 ∷ 0 ∷ 0 ∷ 0 ∷ 8 ∷ 0 ∷ 0 ∷ 0 ∷ 4 ∷ 1 ∷ 3 ∷ 0xAA ∷ 0xBB ∷ []

-- the tokens of `one_value`: the heads of PDU and presentation data value, the two bytes of the fragment, and the
-- ends of both
abbrev pub one_value_tokens : List Token
one_value_tokens =
    Completes (Head 4 8) ∷ Completes (PdvHead 4 1 3) ∷ OfFragment 0xAA ∷ OfFragment 0xBB
    ∷ Completes (Pdv 1 3 (0xAA ∷ 0xBB ∷ [])) ∷ Completes (End 4 (drop 6 one_value)) ∷ []
