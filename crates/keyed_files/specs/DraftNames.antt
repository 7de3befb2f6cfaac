-- The names of files that are still being written. This product's own profile.
use Rattle.std.specs.Prelude.{◌&&◌, ◌||◌, ℕ, Bool, List, length, take, drop, codes, nat_lt}
use Rattle.std.specs.List.{list_all}
use Rattle.std.specs.Str.{bytes_eq}
use Rattle.element.specs.Values.{is_digit}

-- the name of the draft of a received file: DRAFT, and perhaps its number
abbrev pub is_received_draft : List ℕ → Bool
is_received_draft name = nat_lt 4 (length name) && bytes_eq (take 5 name) (codes "DRAFT") && list_all is_digit (drop 5 name)

-- the name of a draft: of a received file, of a DICOMDIR, or of a copy in a tree
abbrev pub is_draft : List ℕ → Bool
is_draft name = is_received_draft name || (bytes_eq name (codes "DIRDRAFT") || bytes_eq name (codes ".DRAFT"))
