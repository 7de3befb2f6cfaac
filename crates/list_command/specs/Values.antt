-- Which values an element has. How they are compared is this product's own profile.
use Rattle.std.specs.Prelude.{ℕ, Bool, true, false, ◌&&◌, List, [], ◌++◌, length, map, nat_eq, nat_lt, unwrap_or}
use Rattle.std.specs.Cmp.Lexicographic.{pointwise}
use Rattle.std.specs.List.{list_any, slice_split}
use Rattle.element.specs.declared.tag.Tag.{Tag}
use Rattle.element.specs.Padding.{is_padding, without_trailing}
use Rattle.keyed_files.specs.Keys.{file_text, file_value}
use Rattle.keyed_files.specs.declared.keys.FileKeys.{FileKeys}
use Rattle.list_command.specs.declared.columns.Column.{Column}
use Rattle.list_command.specs.declared.conditions.Condition.{Condition}

-- the byte that separates the values of an element (PS3.5 section 6.4)
abbrev pub is_separator : ℕ → Bool
is_separator byte = nat_eq byte 92

-- whether a text is one of the values, each without the padding at its end
abbrev pub has_value : List ℕ → List ℕ → Bool
has_value text values = list_any (λ value. pointwise nat_eq (without_trailing is_padding value) text) (slice_split is_separator values)

-- whether a file has one of the values of a condition, in an element that is not truncated; a missing element counts as
-- an empty value
abbrev pub meets : FileKeys → Condition → Bool
meets keys condition = nat_lt (length (unwrap_or (file_value keys condition.tag) [])) 256 && has_value condition.text.now (unwrap_or (file_value keys condition.tag) [])

-- the tags of the values that are read from each file
abbrev pub tags_to_read : List Tag → List Condition → List Column → List Tag
tags_to_read listed conditions columns = listed ++ (map (λ condition. condition.tag) conditions ++ map (λ column. column.tag) columns)

-- the further columns of a file are its values of these elements, in order, each without its padding
abbrev pub columns_of : FileKeys → List Column → List (List ℕ)
columns_of keys columns = map (λ column. file_text keys column.tag) columns

-- a file is added if it meets each condition; else nothing changes
abbrev pub Selects : Bool → Type 0 → Type 0 → Type 0
Selects true filed same = filed
Selects false filed same = same
