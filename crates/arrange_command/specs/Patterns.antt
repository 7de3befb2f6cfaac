-- The pattern of the paths of files in the tree, and the path that it gives to a file (this product's own profile).
use Rattle.std.specs.Prelude.{◌≡◌, ◌≢◌, ◌<◌, ℕ, Bool, true, false, ◌&&◌, ◌||◌, not, All, List, [], ◌∷◌, ◌++◌, length, get_or, nat_eq, nat_le, nat_lt, codes, decimal, if◌then◌else◌, Option, Some, None, IfSome, ⊤}
use Rattle.std.specs.List.{AllByRecursion, flat_map}
use Rattle.element.specs.declared.tag.Tag.{Tag}
use Rattle.inspection.specs.NamedTag.{tag_spelled}
use Rattle.keyed_files.specs.Keys.{file_value}
use Rattle.keyed_files.specs.declared.keys.FileKeys.{FileKeys}
use Rattle.arrange_command.specs.Names.{IsNameByte, name_for}
use Rattle.arrange_command.specs.declared.pattern.Part.{Part}
use Rattle.arrange_command.specs.declared.pattern.Part.TheVariants.{Slash, Byte, Value}

-- whether the byte is between these two, and either of them
abbrev pub is_within : ℕ → ℕ → ℕ → Bool
is_within least most b = nat_le least b && nat_le b most

-- a byte that may stand in a name: a letter, a digit, `_`, `-`, `.` or a space
abbrev pub is_literal : ℕ → Bool
is_literal b = is_within 65 90 b || is_within 97 122 b || is_within 48 57 b || nat_eq b 95 || nat_eq b 45 || nat_eq b 46 || nat_eq b 32

abbrev pub is_slash : ℕ → Bool
is_slash b = nat_eq b 47

-- whether a text between slashes may be a name: it is not empty and does not begin with a dot
-- e.g. is_name (codes "a.b") ≡ true; is_name (codes "..") ≡ false; is_name [] ≡ false
abbrev pub is_name : List ℕ → Bool
is_name [] = false
is_name (b ∷ bs) = not (nat_eq b 46)

-- the text of a part in a pattern
abbrev pub spelled : Part → List ℕ
spelled Slash = 47 ∷ []
spelled (Byte b) = b ∷ []
spelled (Value name tag) = 123 ∷ name.now ++ 125 ∷ []

-- a part is valid: its byte may stand in a name, and its tag is the one that its text spells
abbrev pub IsPart : Part → Type 0
IsPart Slash = ⊤
IsPart (Byte b) = is_literal b ≡ true
IsPart (Value name tag) = IfSome (tag_spelled name.now) (λ spelt. spelt ≡ tag)

-- a text is that of a valid part and the rest
abbrev pub IsSplit : List ℕ → Part → List ℕ → Type 0
IsSplit text part rest = (text ≡ spelled part ++ rest) × IsPart part × (length rest < length text)

-- a text is that of these parts, which are valid
abbrev pub IsRead : List ℕ → List Part → Type 0
IsRead text parts = (flat_map spelled parts ≡ text) × All IsPart parts

-- the tag of a value
abbrev pub tags_in : Part → List Tag
tags_in Slash = []
tags_in (Byte b) = []
tags_in (Value name tag) = tag ∷ []

-- the name for the value of a file with this tag, and `UNKNOWN` if the file has none
abbrev pub name_of_value : Option (List ℕ) → List ℕ
name_of_value None = codes "UNKNOWN"
name_of_value (Some value) = name_for value

-- The path that the rest of a pattern gives, after these bytes of a name: each value is replaced by its name, and each
-- text between slashes by the name for it.
-- e.g. path_after (λ tag. Some (codes "P/1")) [] (Byte 65 ∷ Slash ∷ Byte 46 ∷ Byte 66 ∷ []) ≡ codes "A/_B"
abbrev pub path_after : (Tag → Option (List ℕ)) → List ℕ → List Part → List ℕ
path_after value_of name [] = name_for name
path_after value_of name (Slash ∷ parts) = name_for name ++ 47 ∷ path_after value_of [] parts
path_after value_of name (Byte b ∷ parts) = path_after value_of (name ++ b ∷ []) parts
path_after value_of name (Value text tag ∷ parts) = path_after value_of (name ++ name_of_value (value_of tag)) parts

-- the path that a pattern gives to a file
abbrev pub path_for : FileKeys → List Part → List ℕ
path_for keys parts = path_after (file_value keys) [] parts

-- a name of a path: it is not empty, does not begin with a dot, and has printable bytes other than `/`
abbrev pub IsName : List ℕ → Type 0
IsName name = (0 < length name) × (get_or name 0 0 ≢ 46) × AllByRecursion IsNameByte name

-- the path of a file with this number among those of the same path: `.dcm` is appended, and before it a number above 1
-- e.g. numbered (codes "a/b") 1 ≡ codes "a/b.dcm"
abbrev pub numbered : List ℕ → ℕ → List ℕ
numbered path number = if nat_lt 1 number then path ++ (codes "-" ++ (decimal number ++ codes ".dcm")) else path ++ codes ".dcm"
