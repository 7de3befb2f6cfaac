-- Statements that follow from the definitions; `src/laws.rt` has the functions whose contracts they are.
use Rattle.std.specs.Prelude.{◌≡◌, ℕ, true, List, Result, Ok, IsOk, ◌≤◌, length, false, None, [], ◌∷◌, map, unwrap_or}
use Rattle.dictionary.specs.declared.transfer.Transfer.{Transfer}
use Rattle.sequence.specs.Transfer.{coding_in}
use Rattle.sequence.specs.Tree.{Elements, DataSet, no_items}
use Rattle.sequence.specs.Within.{FitRooms, Within}
use Rattle.sequence.specs.Wanted.{kept_of}
use Rattle.dicomdir.specs.declared.level.Level.TheVariants.{Patient, Study}
use Rattle.dicomdir_writing.specs.declared.skip.Skip.{Skip}
use Rattle.dicomdir_writing.specs.Row.{Row}
use Rattle.dicomdir_writing.specs.Keys.{fits_rooms, checked_row, IsRow}
use Rattle.dicomdir_writing.specs.RecordTable.{keys_read}
use Rattle.dicomdir_writing.specs.RowOf.{RowOf, DescribedRow, row_wants, row_from, row_limits, is_allowed, HeaderFaultOf}
use Rattle.dicomdir_writing.specs.declared.record_table.RecordKeys.{RecordKeys}
use Rattle.dicomdir_writing.specs.declared.record_table.RecordKeys.TheVariants.{Needed}
use Rattle.dicomdir_writing.specs.declared.record_table.RecordRule.{RecordRule}
use Rattle.element.specs.Uid.{is_uid}
use Rattle.part10.specs.declared.meta.Meta.{Meta}
use Rattle.part10.specs.File.{File, meta_group}
use Rattle.part10.specs.declared.meta_fault.MetaFault.{MetaFault}
use Rattle.part10.specs.MetaText.{MetaFaultOf}
use Rattle.dicomdir.specs.DirFault.{directory_fault, fault, links_of}
use Rattle.dicomdir_writing.specs.TreeOf.{TreeOf}
use Rattle.dicomdir.specs.Directory.{records_of}
use Rattle.dicomdir.specs.Linked.{Linked, IsAllReached, carried_forest}
use Rattle.std.specs.List.{AllByRecursion}
use Rattle.dicomdir_writing.specs.Built.{directory_file, file_is_too_large}
use Rattle.dicomdir_writing.specs.Positions.{greatest_size}
use Rattle.dicomdir_writing.specs.Record.{record_item, root_elements, record_for}
use Rattle.dicomdir.specs.Paths.{Links, level_of, paths_of, reached_by}
use Rattle.dicomdir_writing.specs.Examples.{one_image_row, one_image_elements}

-- a file determines its row with these keys, or why it has none, for each choice of the accepted transfer syntaxes
abbrev pub OneRow : Type 0
OneRow =
    (additional : List Transfer) (rules : List RecordRule) (file file_id : List ℕ) (result other : Result Row Skip)
    → RowOf additional rules file file_id result → RowOf additional rules file file_id other → result ≡ other

-- a file determines its row with Series Description, too, or why it has none
abbrev pub OneDescribedRow : Type 0
OneDescribedRow = (additional : List Transfer) (file file_id : List ℕ) (result other : Result Row Skip)
    → DescribedRow additional file file_id result → DescribedRow additional file file_id other → result ≡ other

-- a file that has a row without Series Description has one with it, too
abbrev pub DescriptionsCostNoRow : Type 0
DescriptionsCostNoRow =
    (additional : List Transfer) (file file_id : List ℕ) (row : Row) (result : Result Row Skip)
    → RowOf additional (keys_read Needed) file file_id (Ok row) → DescribedRow additional file file_id result → IsOk result

-- if no transfer syntax is accepted in addition to the two native ones, a file header has the faults that it has for
-- those
abbrev pub NativeAloneAreAllowed : Type 0
NativeAloneAreAllowed = (file : List ℕ) (fault : MetaFault) → (HeaderFaultOf [] file fault → MetaFaultOf file fault) × (MetaFaultOf file fault → HeaderFaultOf [] file fault)

-- values that are within the limits with which a file is read are within those of a row
abbrev pub KeysFit : Type 0
KeysFit =
    (keys : RecordKeys) (file_id class instance : List ℕ) (s : Transfer) (elements : Elements)
    → FitRooms (row_wants (keys_read keys)) elements
    → fits_rooms (row_from (keys_read keys) file_id class instance s (kept_of (row_wants (keys_read keys)) elements)) ≡ true

-- ---- the row of a stored file (PS3.10 section 7.1)

-- the file of an instance in an accepted transfer syntax, with a whole data set within the limits of a row, gives the
-- row of that SOP class, SOP instance, transfer syntax and keys, or the first key of type 1 that is missing
abbrev pub FiledHasRow : Type 0
FiledHasRow =
    (additional : List Transfer) (rules : List RecordRule) (meta : Meta) (file_id back : List ℕ) (elements : Elements)
    → is_allowed additional meta.syntax ≡ true → is_uid meta.class ≡ true → is_uid meta.instance ≡ true → length meta.calling.0 ≡ 16 → length (meta_group meta) ≤ 360
    → DataSet (coding_in meta.syntax) 0 elements back → Within (coding_in meta.syntax) (row_limits rules) elements back
    → RowOf additional rules (File meta back) file_id (checked_row (row_from rules file_id meta.class meta.instance meta.syntax (kept_of (row_wants rules) elements)))

-- ---- what is true of each directory that this product writes

-- the file is a directory that is linked to the tree of the rows, which contains each record, and has no fault
pub record IsDirectoryOf (file : List ℕ) (rows : List Row) : Type 0 where
  pub linked : Linked file (carried_forest (TreeOf rows))
  pub all_reached : IsAllReached linked.linked
  pub no_fault : directory_fault linked.start linked.elements ≡ None

-- the file that is written for rows, with a valid SOP Instance UID, is such a directory, if it is not too large
abbrev pub WrittenIsLinked : Type 0
WrittenIsLinked =
    (uid : List ℕ) (rows : List Row)
    → is_uid uid ≡ true
    → AllByRecursion IsRow rows
    → file_is_too_large greatest_size uid rows ≡ false
    → IsDirectoryOf (directory_file (record { uid = uid; rows = rows })) rows

-- ---- the paths along the offsets of directories of these rows

abbrev pub links_in : ℕ → Elements → Links
links_in start es = links_of start es (unwrap_or (records_of start es) [])

abbrev pub one_image_links : Links
one_image_links = links_in 266 (one_image_elements 320 320 0 404 534 626)

-- a directory with two patients at bytes 320 and 404, and a study of the second at byte 488 with this next offset
abbrev pub two_patients : ℕ → Elements
two_patients next =
    root_elements 320 404
    (record_item 404 0 (record_for Patient one_image_row)
    (record_item 0 488 (record_for Patient one_image_row)
    (record_item next 0 (record_for Study one_image_row) no_items)))

-- the paths of the directory of one image lead to its records, each a level below the one before. With two patients
-- the next offset of the study may be 0; a cycle is one that leads to the patient above it or to the study itself,
-- and not one that leads to the first patient
abbrev pub PathsNameRecords : Type 0
PathsNameRecords =
    (reached_by one_image_links (paths_of one_image_links) ≡ 320 ∷ 404 ∷ 534 ∷ 626 ∷ [])
    × (map level_of (paths_of one_image_links) ≡ 1 ∷ 2 ∷ 3 ∷ 4 ∷ [])
    × (directory_fault 266 (two_patients 0) ≡ None)
    × (directory_fault 266 (two_patients 404) ≡ fault 61 488)
    × (directory_fault 266 (two_patients 488) ≡ fault 61 488)
    × (directory_fault 266 (two_patients 320) ≡ fault 62 488)
