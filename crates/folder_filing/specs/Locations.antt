-- The order in which the files of a folder are numbered. This product's own profile.
use Rattle.std.specs.Prelude.{ℕ, ◌+◌, ◌*◌, Option, Some, None, nat_lt, if◌then◌else◌}
use Rattle.folder_filing.specs.declared.location.Layout.{Layout}
use Rattle.folder_filing.specs.declared.location.Layout.TheVariants.{Flat, Levels}
use Rattle.folder_filing.specs.declared.location.Location.{Location}

-- the greatest number of seven digits
abbrev pub greatest : ℕ
greatest = 9999999

-- the location after this one, while there are numbers: the next number; with subfolders of `per` files, after the last
-- file of one the first of the next
abbrev pub next_location : Layout → Location → Option Location
next_location Flat location =
    if nat_lt location.file greatest then Some (record { folder = location.folder; file = location.file + 1 }) else None
next_location (Levels per) location =
    if nat_lt location.file per then Some (record { folder = location.folder; file = location.file + 1 })
    else (if nat_lt location.folder greatest then Some (record { folder = location.folder + 1; file = 1 })
    else None)

-- a location as one number, by which locations are ordered: by the number of the folder, then by that of the file
abbrev pub order : Location → ℕ
order location = location.folder * 4294967296 + location.file
