-- The effect of further bytes of a PDU inside a presentation data value.
use Rattle.std.specs.Prelude.{◌≡◌, ℕ, ◌<◌, ◌≤◌, ◌+◌, ◌-◌, ◌⊎◌, List, [], ◌∷◌, ◌++◌, length}
use Rattle.byteorder.specs.Endian.{big_number}
use Rattle.pdu.specs.Frames.{IsRest}
use Rattle.pdu.specs.Marks.{BadPdv, pdv_size, head_mark, pdv_mark}
use Rattle.pdu.specs.Spot.{Plain, InPdv, spot, room_remaining}
use Rattle.pdu.specs.Parts.{Arrives, leftover_marks, leftover_spot}

-- the sixth byte of a head whose length is below 2, or passes the PDU
abbrev pub BadPdvHeads : Type 0
BadPdvHeads = (r c b : List ℕ) → IsRest r → spot r ≡ InPdv b → length b < 6 → length (b ++ c) ≡ 6
    → (big_number 4 (b ++ c) < 2) ⊎ (room_remaining r + length b < pdv_size (b ++ c)) → Arrives r c (BadPdv ∷ []) Plain

-- the sixth byte of a head that a fragment follows
abbrev pub PdvHeads : Type 0
PdvHeads = (r c b : List ℕ) → IsRest r → spot r ≡ InPdv b → length b < 6 → length (b ++ c) ≡ 6 → 2 < big_number 4 (b ++ c)
    → pdv_size (b ++ c) ≤ room_remaining r + length b → Arrives r c (head_mark (b ++ c) ∷ []) (InPdv (b ++ c))

-- the sixth byte of a head whose fragment is empty
abbrev pub EmptyPdvs : Type 0
EmptyPdvs = (r c b : List ℕ) → IsRest r → spot r ≡ InPdv b → length c ≤ room_remaining r → length b < 6 → length (b ++ c) ≡ 6 → big_number 4 (b ++ c) ≡ 2
    → Arrives r c (head_mark (b ++ c) ∷ pdv_mark (b ++ c) ∷ leftover_marks (room_remaining r - length c)) (leftover_spot (room_remaining r - length c))

-- the last byte of a fragment
abbrev pub WholePdvs : Type 0
WholePdvs = (r c b : List ℕ) → IsRest r → spot r ≡ InPdv b → length c ≤ room_remaining r → 6 ≤ length b → length (b ++ c) ≡ pdv_size b
    → Arrives r c (pdv_mark (b ++ c) ∷ leftover_marks (room_remaining r - length c)) (leftover_spot (room_remaining r - length c))
