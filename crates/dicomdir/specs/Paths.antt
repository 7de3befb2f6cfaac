-- Paths along the offsets of a directory (PS3.3 sections F.3 and F.4). An offset is the position of the first record
-- at the lower level or of the next record at the same level, or 0 for none.
use Rattle.std.specs.Prelude.{ℕ, zero, suc, Bool, true, false, List, [], ◌∷◌, ◌++◌, length, map, filter, nat_eq, if◌then◌else◌}
use Rattle.dicomdir.specs.Directory.{Record}
use Rattle.dicomdir.specs.Linked.{is_one_of, lower_at, next_at}

-- the links of a directory: the position of the root's first offset, that offset, and the records
pub record Links : Type 0 where
  pub offset : ℕ
  pub first : ℕ
  pub records : List Record

-- a record on a path, and whether the path continues from it by the offset of the lower level or by that of the next
-- record
pub record Turn : Type 0 where
  pub offset : ℕ
  pub lower : Bool

-- A path from the root is a list of records, the last one first: the root names the first record, and each record names
-- the one after it. The empty path is the root alone.

-- the offset at the end of a path: that of its last record by which it continues, or the root's first one for the
-- empty path
abbrev pub named_by : Links → List Turn → ℕ
named_by links [] = links.first
named_by links (t ∷ path) = if t.lower then lower_at links.records t.offset else next_at links.records t.offset

-- the position at which a fault of the offset at the end of a path is reported: the last record, or the element of the
-- root
abbrev pub reported_at : Links → List Turn → ℕ
reported_at links [] = links.offset
reported_at links (t ∷ path) = t.offset

-- the level of the record that a path leads to: 1 from the root, and one more for each offset of a lower level
abbrev pub level_of : List Turn → ℕ
level_of [] = 1
level_of (t ∷ path) = if t.lower then suc (level_of path) else level_of path

-- the positions of the records above the one that a path leads to
abbrev pub above : List Turn → List ℕ
above [] = []
above (t ∷ path) = if t.lower then t.offset ∷ above path else above path

-- the positions of the earlier siblings of the record that a path leads to
abbrev pub before : List Turn → List ℕ
before [] = []
before (t ∷ path) = if t.lower then [] else t.offset ∷ before path

-- the line of a path: the positions of its last record, of the earlier siblings of that, and of the records above;
-- not of the earlier siblings of those above
abbrev pub line_of : List Turn → List ℕ
line_of [] = []
line_of (t ∷ path) = t.offset ∷ (before path ++ above path)

-- a path makes a cycle if its offset leads to a record of its line
abbrev pub makes_cycle : Links → List Turn → Bool
makes_cycle links path = is_one_of (named_by links path) (line_of path)

-- a path and all that continue from it, by the offset of the lower level before that of the next record, with fewer
-- further records than the first number
abbrev pub paths_from : ℕ → Links → List Turn → List (List Turn)
paths_from zero links path = []
paths_from (suc most) links path =
    if nat_eq (named_by links path) 0 then []
    else path
    ∷ (paths_from most links (record { offset = named_by links path; lower = true } ∷ path)
    ++ paths_from most links (record { offset = named_by links path; lower = false } ∷ path))

-- the paths from the root, in order; any longer one has reached a record twice
abbrev pub paths_of : Links → List (List Turn)
paths_of links = paths_from (suc (length links.records)) links []

-- the positions that these paths lead to
abbrev pub reached_by : Links → List (List Turn) → List ℕ
reached_by links paths = map (named_by links) paths

-- the positions of the root's own records that these paths lead to
abbrev pub root_records : Links → List (List Turn) → List ℕ
root_records links paths = reached_by links (filter (λ path. nat_eq (level_of path) 1) paths)

-- the last number of a list, or `offset` if it is empty
abbrev pub last_from : ℕ → List ℕ → ℕ
last_from offset [] = offset
last_from offset (p ∷ positions) = last_from p positions
