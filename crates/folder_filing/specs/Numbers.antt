-- The file of numbers: the greatest numbers that the files and subfolders of a folder were given. This product's own
-- profile.
use Rattle.std.specs.Prelude.{ℕ, Bool, ◌≡◌, ◌≤◌, ◌&&◌, List, [], ◌∷◌, take, drop, length, codes, Option, Some, None, nat_eq, nat_le, if◌then◌else◌}
use Rattle.std.specs.Str.{bytes_eq}
use Rattle.folder_filing.specs.EntryNames.{entry_number}
use Rattle.folder_filing.specs.declared.names.EntryKind.TheVariants.{File, Folder}
use Rattle.folder_filing.specs.declared.numbers.Numbers.{Numbers}
use Rattle.folder_filing.specs.declared.location.Layout.{Layout}
use Rattle.folder_filing.specs.declared.location.Layout.TheVariants.{Flat, Levels}
use Rattle.folder_filing.specs.declared.location.Location.{Location}

-- the pair of a file number and a folder number; none if one of them is missing
abbrev pub both_numbers : Option ℕ → Option ℕ → Option Numbers
both_numbers (Some file) (Some folder) = Some (record { file = file; folder = folder })
both_numbers (Some file) None = None
both_numbers None folder = None

-- the numbers in a line: the name of a file, a space, the name of a subfolder, and a line feed; none for any other
-- line
abbrev pub numbers_of : List ℕ → Option Numbers
numbers_of line =
    if nat_eq (length line) 18 && bytes_eq (take 1 (drop 8 line)) (codes " ") && bytes_eq (take 1 (drop 17 line)) (10 ∷ [])
    then both_numbers (entry_number File (take 8 line)) (entry_number Folder (take 8 (drop 9 line)))
    else None

-- whether these numbers cover that of this location: that of its file or, with subfolders, that of its subfolder
abbrev pub is_covered : Layout → Numbers → Location → Bool
is_covered Flat kept location = nat_le location.file kept.file
is_covered (Levels per) kept location = nat_le location.folder kept.folder

-- the second numbers cover all that the first cover
abbrev pub Keeps : Numbers → Numbers → Type 0
Keeps kept more = (kept.file ≤ more.file) × (kept.folder ≤ more.folder)

-- `last` is where numbering continues: not before the location that was found, and with no number after it that these
-- numbers cover
abbrev pub Continues : Layout → Numbers → Location → Location → Type 0
Continues Flat kept found last = (kept.file ≤ last.file) × (found.file ≤ last.file) × (last.folder ≡ found.folder)
Continues (Levels per) kept found last = (kept.folder ≤ last.folder) × (found.folder ≤ last.folder) × (last.file ≡ per)
