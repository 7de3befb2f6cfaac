-- What a copy of a file has. This product's own profile.
use Rattle.std.specs.Prelude.{ℕ, List, Option, Some, None, ⊤}
use Rattle.std.specs.Io.KnownBytes.{Appends}

-- all bytes that a reader still had were written after those that a writer had
abbrev pub GetsAll : Option (List ℕ) → Option (List ℕ) → Option (List ℕ) → Type 0
GetsAll None old new = ⊤
GetsAll (Some bytes) old new = Appends old new bytes
