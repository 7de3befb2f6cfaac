-- The planning of the records of a directory, from the last record to the first. Their offsets are counted from the
-- end of the file.
use Rattle.std.specs.Prelude.{◌≡◌, ℕ, ◌+◌, ◌-◌, ◌<◌, Bool, true, false, List, [], ◌∷◌, ◌++◌, length, nat_eq, if◌then◌else◌}
use Rattle.sequence.specs.Tree.{Elements, no_elements, no_items}
use Rattle.dicomdir.specs.declared.level.Level.{Level}
use Rattle.dicomdir_writing.specs.declared.build_plan.LaidRecord.{LaidRecord}
use Rattle.dicomdir_writing.specs.declared.build_plan.Stop.{Stop}
use Rattle.dicomdir_writing.specs.declared.build_plan.Stop.TheVariants.{TooLarge, OutOfMemory}
use Rattle.dicomdir.specs.Directory.{Record}
use Rattle.dicomdir_writing.specs.Record.{spelled, spelled_items, record_item, record_text, root_fields, records_header}
use Rattle.dicomdir_writing.specs.Positions.{forest_size, with_positions, first_record_offset, last_record_offset, root_size, duplicates_of}
use Rattle.dicomdir_writing.specs.Row.{Row}
use Rattle.dicomdir.specs.Forest.{Forest, no_nodes, node, count_of}
use Rattle.dicomdir_writing.specs.TreeOf.{group_node, TreeOf}
use Rattle.element.specs.Header.{header_bytes}
use Rattle.dicomdir_writing.specs.Built.{directory_header, too_large_fault, memory_fault}
use Rattle.dicomdir.specs.declared.fault.DirFault.{DirFault}

-- the reason why a directory of `size` bytes is not planned, if it may have at most `most`: it is too large, or
-- memory ran out
abbrev pub StopsFor : ℕ → ℕ → Stop → Type 0
StopsFor most size TooLarge = most < size
StopsFor most size OutOfMemory = Unit {0}

-- the fault for this reason
abbrev pub stop_fault : Stop → DirFault
stop_fault TooLarge = too_large_fault
stop_fault OutOfMemory = memory_fault

-- the position with this distance from the end of the file, 0 for the distance 0
abbrev pub offset_from_end : ℕ → ℕ → ℕ
offset_from_end total distance = if nat_eq distance 0 then 0 else total - distance

abbrev pub entry_text : {A : Type 0} → ℕ → LaidRecord A → List ℕ
entry_text total e = record_text e.level e.row.now (offset_from_end total e.next) (offset_from_end total e.lower)

-- the bytes of these records, in the order from the last of the list to the first
abbrev pub laid_text : {A : Type 0} → ℕ → List (LaidRecord A) → List ℕ
laid_text total [] = []
laid_text total (e ∷ es) = laid_text total es ++ entry_text total e

-- the bytes of the records of a tree, depth first
abbrev pub forest_text : Forest Record → List ℕ
forest_text no_nodes = []
forest_text (node r below next) =
    spelled_items (record_item (first_record_offset next) (first_record_offset below) r.elements no_items)
    ++ (forest_text below ++ forest_text next)

abbrev pub has_none : Forest Elements → Bool
has_none no_nodes = true
has_none (node es below next) = false

pub record Adds {A : Type 0} (level : Level) (row : Row) (next lower : ℕ) (old new : List (LaidRecord A)) : Type 0 where
  pub entry : LaidRecord A
  pub level_is : entry.level ≡ level
  pub row_is : entry.row.now ≡ row
  pub next_is : entry.next ≡ next
  pub lower_is : entry.lower ≡ lower
  pub last : new ≡ old ++ entry ∷ []

-- the nodes of groups of rows
abbrev pub groups_forest : (Row → Elements) → (List Row → Forest Elements) → List (List Row) → Forest Elements
groups_forest record_of below [] = no_nodes
groups_forest record_of below (group ∷ groups) = group_node record_of below group (groups_forest record_of below groups)

-- the records of the forest were planned before the existing ones: their sizes, their bytes and the positions of the
-- first and the last one, for each start of the records in the file
pub record Lays {A : Type 0} (forest : Forest Elements) (old new : List (LaidRecord A)) (old_size new_size first last : ℕ) : Type 0 where
  pub size : new_size ≡ old_size + forest_size forest
  pub count : length new ≡ length old + count_of forest
  pub text : (start : ℕ) → laid_text (start + new_size) new ≡ forest_text (with_positions start forest) ++ laid_text (start + new_size) old
  pub first_is : (start : ℕ) → offset_from_end (start + new_size) first ≡ first_record_offset (with_positions start forest)
  pub last_is : (start : ℕ) → offset_from_end (start + new_size) last ≡ last_record_offset (with_positions start forest)
  pub none : nat_eq first 0 ≡ has_none forest

-- ---- the invariant of a planned directory

-- the records, of `records_size` bytes, are the end of a file of `file_size` bytes; `duplicates` are the indices of the
-- rows that are left out as duplicates
pub record IsBuilt {A : Type 0} (uid : List ℕ) (rows : List Row) (entries : List (LaidRecord A)) (records_size first last file_size : ℕ) (duplicates : List ℕ) : Type 0 where
  pub laid : Lays (TreeOf rows) [] entries 0 records_size first last
  pub size : file_size ≡ length (directory_header uid) + root_size + records_size
  pub duplicates_are : duplicates ≡ duplicates_of rows

-- the bytes after the file header up to the first record: the elements with the offsets of the first and the last
-- record of the root, and the header of the sequence of records, of `size` bytes
unfoldable pub root_text : ℕ → ℕ → ℕ → List ℕ
root_text first last size = spelled (root_fields first last no_elements) ++ header_bytes (records_header size)
