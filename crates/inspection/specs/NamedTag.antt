-- Tags as they are spelled on a command line: group and element in hexadecimal (PS3.6 section 6), as 00100020,
-- 0010,0020 or (0010,0020).
use Rattle.std.specs.Prelude.{ℕ, ◌+◌, ◌*◌, ◌-◌, Bool, ◌&&◌, ◌||◌, List, [], ◌∷◌, length, get_or, take, drop, Option, Some, None, nat_eq, nat_le, if◌then◌else◌}
use Rattle.element.specs.declared.tag.Tag.{Tag}

abbrev pub is_digit : ℕ → Bool
is_digit byte = nat_le 48 byte && nat_le byte 57 || nat_le 97 byte && nat_le byte 102 || nat_le 65 byte && nat_le byte 70

abbrev pub digit_of : ℕ → ℕ
digit_of byte = if nat_le byte 57 then byte - 48 else (if nat_le byte 70 then byte - 65 + 10 else byte - 97 + 10)

abbrev pub number_of : List ℕ → Option ℕ
number_of (a ∷ b ∷ c ∷ d ∷ []) =
    if is_digit a && is_digit b && is_digit c && is_digit d
    then Some ((digit_of a * 16 + digit_of b) * 256 + (digit_of c * 16 + digit_of d))
    else None
number_of _ = None

abbrev pub tag_with : Option ℕ → Option ℕ → Option Tag
tag_with (Some group) (Some element) = Some (record { 0 = group; 1 = element })
tag_with _ _ = None

abbrev pub tag_of : List ℕ → List ℕ → Option Tag
tag_of group element = tag_with (number_of group) (number_of element)

-- whether a text has this byte at this offset
abbrev pub is_at : List ℕ → ℕ → ℕ → Bool
is_at text offset byte = nat_eq (get_or text offset 0) byte

-- the tag that a text spells: alone, with a comma between group and element, or also in parentheses
abbrev pub tag_spelled : List ℕ → Option Tag
tag_spelled text =
    if nat_eq (length text) 8 then tag_of (take 4 text) (drop 4 text)
    else (if nat_eq (length text) 9 && is_at text 4 44 then tag_of (take 4 text) (drop 5 text)
    else (if nat_eq (length text) 11 && is_at text 0 40 && is_at text 5 44 && is_at text 10 41 then tag_of (take 4 (drop 1 text)) (take 4 (drop 6 text))
    else None))
