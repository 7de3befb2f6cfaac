-- Which files have a row, and which have a reason why they have none. This product's own profile.
use Rattle.std.specs.Prelude.{ℕ, List, ◌++◌, map}
use Rattle.dicomdir_writing.specs.Row.{Row}
use Rattle.index_command.specs.declared.contents.Skipped.{Skipped}

-- the file IDs of the files with rows, and of those without
abbrev pub files_of : List Row → List Skipped → List (List ℕ)
files_of rows skipped = map (λ row. row.file_id) rows ++ map (λ file. file.id) skipped
