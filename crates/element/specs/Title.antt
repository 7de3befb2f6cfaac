-- Application entity titles (PS3.5 section 6.2, VR AE; PS3.8 section 9.3.2).
use Rattle.std.specs.Prelude.{ℕ, ◌-◌, Bool, not, ◌&&◌, List, ◌++◌, length, replicate, Option, Some, None, nat_eq, nat_le, if◌then◌else◌}
use Rattle.std.specs.List.{list_all}
use Rattle.element.specs.declared.title.AeTitle.{AeTitle}
use Rattle.element.specs.Padding.{is_space, without_leading, without_trailing}

-- the title without leading and trailing spaces, which are not significant
-- e.g. title_text (codes " SCANNER1  ") ≡ codes "SCANNER1"
abbrev pub title_text : List ℕ → List ℕ
title_text bytes = without_trailing is_space (without_leading is_space bytes)

-- a character of a title: 20H to 7EH without backslash
abbrev pub is_title_character : ℕ → Bool
is_title_character c = (nat_le 32 c && nat_le c 126) && not (nat_eq c 92)

-- 1 to 16 characters of a title, not all spaces
abbrev pub is_title : List ℕ → Bool
is_title text = (nat_le 1 (length text) && nat_le (length text) 16) && (list_all is_title_character text && not (list_all is_space text))

-- the 16 bytes of the title with this text, padded by spaces; none where the text is no title
abbrev pub title_of_text : List ℕ → Option (List ℕ)
title_of_text text = if is_title text then Some (text ++ replicate (16 - length text) 32) else None

-- the 16 bytes of an optional title
abbrev pub title_bytes : Option AeTitle → Option (List ℕ)
title_bytes None = None
title_bytes (Some title) = Some title.0
