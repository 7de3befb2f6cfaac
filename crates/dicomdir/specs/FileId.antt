-- File IDs (PS3.10 section 8.2, PS3.3 section F.3.2.2).
use Rattle.std.specs.Prelude.{ℕ, Bool, ◌-◌, ◌&&◌, ◌||◌, List, [], ◌∷◌, ◌++◌, length, replicate, Option, Some, None, nat_eq, nat_le, if◌then◌else◌, ◌≡◌, true, take}
use Rattle.std.specs.List.{list_all}
use Rattle.element.specs.Padding.{is_space, without_trailing}

-- a character of a file ID: A to Z, 0 to 9 and the underscore
abbrev pub is_id_character : ℕ → Bool
is_id_character c = (nat_le 65 c && nat_le c 90) || (nat_le 48 c && nat_le c 57) || nat_eq c 95

-- whether the bytes are one to eight characters of a file ID
abbrev pub is_file_id_component : List ℕ → Bool
is_file_id_component text = nat_le 1 (length text) && nat_le (length text) 8 && list_all is_id_character text

-- a component put before the others
abbrev pub before_parts : ℕ → List (List ℕ) → List (List ℕ)
before_parts c [] = (c ∷ []) ∷ []
before_parts c (part ∷ parts) = (c ∷ part) ∷ parts

-- the parts of a value between its backslashes
abbrev pub parts_of : List ℕ → List (List ℕ)
parts_of [] = [] ∷ []
parts_of (c ∷ cs) = if nat_eq c 92 then [] ∷ parts_of cs else before_parts c (parts_of cs)

-- a valid file ID: one to eight components
abbrev pub is_file_id : List ℕ → Bool
is_file_id text = nat_le (length (parts_of text)) 8 && list_all is_file_id_component (parts_of text)

-- a file ID, with zero bytes up to 71, the length of the longest
abbrev pub filled : List ℕ → List ℕ
filled text = text ++ replicate (71 - length text) 0

-- these bytes, if they are a valid file ID; else none
abbrev pub if_file_id : List ℕ → Option (List ℕ)
if_file_id text = if is_file_id text then Some text else None

-- the file ID in a value, without spaces at its end; none if it is invalid
abbrev pub file_id_of : List ℕ → Option (List ℕ)
file_id_of value = if_file_id (without_trailing is_space value)

-- ---- the buffer of a file ID: 71 bytes, which are zero after its text

pub record IsKept (bytes : List ℕ) (size : ℕ) : Type 0 where
  pub rest_is_zero : filled (take size bytes) ≡ bytes
  pub size_fits : length (take size bytes) ≡ size
  pub is_one : is_file_id (take size bytes) ≡ true
