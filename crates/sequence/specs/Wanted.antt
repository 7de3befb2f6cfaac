-- The values that a walker keeps: those of the wanted tags among the elements of the data set itself, not inside its
-- sequences (this product's own profile).
use Rattle.std.specs.Prelude.{ℕ, ◌+◌, ◌*◌, Bool, true, ◌&&◌, List, [], ◌∷◌, length, Option, Some, None, is_some, nat_eq, nat_lt, if◌then◌else◌}
use Rattle.element.specs.Header.{number}
use Rattle.sequence.specs.declared.wanted.Want.{Want}
use Rattle.sequence.specs.Tree.{Elements, no_elements, value, sequence}
use Rattle.sequence.specs.Open.{PathEntry, Tail, in_header, in_value}

-- the greatest size in bytes of the value of this tag, if it is wanted
-- e.g. room_of (record { tag = record { 0 = 0; 1 = 8 }; room = 64 } ∷ []) 8 ≡ Some 64; room_of [] 8 ≡ None
abbrev pub room_of : List Want → ℕ → Option ℕ
room_of [] t = None
room_of (w ∷ ws) t = if nat_eq (number w.tag) t then Some w.room else room_of ws t

-- whether the value of this tag is wanted
-- e.g. is_wanted [] 8 ≡ false
abbrev pub is_wanted : List Want → ℕ → Bool
is_wanted ws t = is_some (room_of ws t)

-- the wanted tags are strictly ascending and above `last`
abbrev pub are_rising : ℕ → List Want → Bool
are_rising last [] = true
are_rising last (w ∷ ws) = nat_lt last (number w.tag) && are_rising (number w.tag) ws

-- the sum of the greatest sizes of all wanted values
abbrev pub rooms : List Want → ℕ
rooms [] = 0
rooms (w ∷ ws) = w.room + rooms ws

-- values, each with the number of its tag
abbrev pub Values : Type 0
Values = List (ℕ × List ℕ)

-- the value with this tag; none if there is none
-- e.g. value_of ((8, 1 ∷ []) ∷ []) 8 ≡ Some (1 ∷ []); value_of ((8, 1 ∷ []) ∷ []) 9 ≡ None
abbrev pub value_of : Values → ℕ → Option (List ℕ)
value_of [] t = None
value_of (one ∷ values) t = if nat_eq one.0 t then Some one.1 else value_of values t

-- the number of bytes of these values
-- e.g. size_of_values ((8, 1 ∷ 2 ∷ []) ∷ (9, 3 ∷ []) ∷ []) ≡ 3
abbrev pub size_of_values : Values → ℕ
size_of_values [] = 0
size_of_values (one ∷ values) = length one.1 + size_of_values values

-- the values of the wanted tags among these elements
-- e.g. kept_of [] no_elements ≡ []
abbrev pub kept_of : List Want → Elements → Values
kept_of ws no_elements = []
kept_of ws (value h v es) = if is_wanted ws (number h.tag) then (number h.tag, v) ∷ kept_of ws es else kept_of ws es
kept_of ws (sequence h is es) = kept_of ws es

-- how many bytes of an unfinished wanted value of the data set itself were read
-- e.g. started_bytes [] [] (in_header []) ≡ 0
abbrev pub started_bytes : List Want → List PathEntry → Tail → ℕ
started_bytes ws [] (in_value h v) = if is_wanted ws (number h.tag) then length v else 0
started_bytes ws [] (in_header t) = 0
started_bytes ws (e ∷ path) tail = 0

-- the number of bytes of an unfinished header
-- e.g. unfinished_bytes (in_header (8 ∷ 0 ∷ [])) ≡ 2
abbrev pub unfinished_bytes : Tail → ℕ
unfinished_bytes (in_header t) = length t
unfinished_bytes (in_value h v) = 0

-- how many bytes a walker holds for an open level
abbrev pub level_size : ℕ
level_size = 16

-- how many bytes a walker holds after a front: those of its unfinished header and of the wanted values, the
-- unfinished one included, and 16 for each open level
-- e.g. held_of [] no_elements [] (in_header (1 ∷ 2 ∷ [])) ≡ 2
abbrev pub held_of : List Want → Elements → List PathEntry → Tail → ℕ
held_of ws es path tail = unfinished_bytes tail + (size_of_values (kept_of ws es) + started_bytes ws path tail) + level_size * length path
