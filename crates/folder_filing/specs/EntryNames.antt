-- The names of received files, of their subfolders and of drafts. This product's own profile.
use Rattle.std.specs.Prelude.{ℕ, ◌+◌, ◌-◌, ◌*◌, ◌&&◌, ◌||◌, Bool, List, [], ◌∷◌, length, take, drop, codes, Option, Some, None, nat_eq, nat_lt, if◌then◌else◌}
use Rattle.std.specs.List.{list_all}
use Rattle.std.specs.Str.{bytes_eq}
use Rattle.element.specs.Values.{is_digit}
use Rattle.folder_filing.specs.declared.names.EntryKind.{EntryKind}
use Rattle.folder_filing.specs.declared.names.EntryKind.TheVariants.{File, Folder}

-- the first letter of a name: I of a file, S of a subfolder
abbrev pub first_letter : EntryKind → ℕ
first_letter File = 73
first_letter Folder = 83

-- the number that these decimal digits, appended to those of the number `before`, make; none if one is no digit
abbrev pub number_after : ℕ → List ℕ → Option ℕ
number_after before [] = Some before
number_after before (digit ∷ digits) = if nat_lt digit 48 || nat_lt 57 digit then None else number_after (before * 10 + (digit - 48)) digits

-- the number in a name of this kind: the letter of the kind, then seven digits; none for any other name
abbrev pub entry_number : EntryKind → List ℕ → Option ℕ
entry_number kind [] = None
entry_number kind (first ∷ digits) = if nat_eq first (first_letter kind) && nat_eq (length digits) 7 then number_after 0 digits else None

-- all bytes are decimal digits
abbrev pub are_digits : List ℕ → Bool
are_digits = list_all is_digit

-- the name of the draft of any filing but the first: DRAFT and at least one decimal digit
abbrev pub is_further_draft : List ℕ → Bool
is_further_draft name = nat_lt 5 (length name) && bytes_eq (take 5 name) (codes "DRAFT") && are_digits (drop 5 name)
