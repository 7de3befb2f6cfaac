-- Unique identifiers (PS3.5 section 9).
use Rattle.std.specs.Prelude.{ℕ, Bool, ◌&&◌, ◌||◌, List, length, Option, Some, None, nat_eq, nat_le, if◌then◌else◌}
use Rattle.std.specs.List.{list_all}
use Rattle.element.specs.Padding.{is_padding, padded, without_trailing}

-- a digit or a dot
-- e.g. is_uid_character 46 ≡ true; is_uid_character 65 ≡ false
abbrev pub is_uid_character : ℕ → Bool
is_uid_character c = (nat_le 48 c && nat_le c 57) || nat_eq c 46

-- 1 to 64 digits and dots
-- e.g. is_uid (codes "1.2.840") ≡ true; is_uid [] ≡ false
abbrev pub is_uid : List ℕ → Bool
is_uid text = nat_le 1 (length text) && nat_le (length text) 64 && list_all is_uid_character text

-- these bytes, if they are a valid UID; else none
-- e.g. if_uid (codes "1.a") ≡ None
abbrev pub if_uid : List ℕ → Option (List ℕ)
if_uid text = if is_uid text then Some text else None

-- the identifier that a value or a field of a PDU holds: trailing zero bytes and spaces are dropped first
-- e.g. uid_of (codes "1.2" ++ 0 ∷ []) ≡ Some (codes "1.2"); uid_of (0 ∷ []) ≡ None
abbrev pub uid_of : List ℕ → Option (List ℕ)
uid_of bytes = if_uid (without_trailing is_padding bytes)

-- an identifier as the value of an element of VR UI (PS3.5 section 9.1)
-- e.g. even_uid (codes "1.2") ≡ codes "1.2" ++ 0 ∷ []
abbrev pub even_uid : List ℕ → List ℕ
even_uid uid = padded 0 uid
