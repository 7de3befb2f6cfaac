-- How many files a directory leaves out. This product's own profile.
use Rattle.std.specs.Prelude.{ℕ, ◌+◌, ◌-◌, ◌^◌, length, min}
use Rattle.index_command.specs.declared.contents.Contents.{Contents}

-- the number of files without a row, of those that the present directory names and the new one does not, of those with
-- other names, and of duplicates, up to the greatest number of the type
abbrev pub left_out : {A : Type 0} → Contents A → ℕ → ℕ
left_out contents duplicates = min (length contents.skipped.items + contents.omitted + contents.others + duplicates) (2 ^ 64 - 1)
