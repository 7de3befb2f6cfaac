-- The first fault of a directory file (this product's own profile): in its root, then record by record, and then
-- along the offsets from the root.
use Rattle.std.specs.Prelude.{ℕ, Bool, not, ◌||◌, List, [], ◌∷◌, length, Option, Some, None, is_none, nat_eq, if◌then◌else◌, ◌≡◌, ◌+◌, ◌^◌}
use Rattle.sequence.specs.Tree.{Elements, DataSet}
use Rattle.dicomdir.specs.FaultNumbers.{bad_offset, cycle, twice_reached, unreached, wrong_level, bad_file_id, bad_record, out_of_memory}
use Rattle.dicomdir.specs.Directory.{Found, missing, value_at, items_at, found, Record, carried_node, first_offset, last_offset, records_of, or_zero, has_record, has_file_id, IsExplicitFile}
use Rattle.dicomdir.specs.Linked.{fits, is_one_of, record_at, elements_at}
use Rattle.dicomdir.specs.Paths.{Links, Turn, named_by, reported_at, level_of, makes_cycle, paths_of, reached_by, root_records, last_from}
use Rattle.sequence.specs.declared.coding.Coding.TheVariants as codings
use Rattle.element.specs.declared.syntax.Syntax.TheVariants.{Implicit}
use Rattle.element.specs.declared.tag.Tag.{Tag}
use Rattle.dictionary.specs.Syntaxes.{syntax_uid}
use Rattle.part10.specs.declared.meta_fault.MetaFault.{MetaFault}
use Rattle.part10.specs.MetaText.{MetaValues, HasMeta, MetaFaultOf, fault_number}
use Rattle.sequence.specs.Rules.{Limits, no_tag}
use Rattle.sequence.specs.FirstFault.{IsUnbroken, FirstFault, EndFault}
use Rattle.sequence.specs.Ending.{IsWholeDataSet}
use Rattle.dicomdir.specs.declared.fault.DirFault.{DirFault}

-- a fault: its number, and its position in the file
pub record Fault : Type 0 where
  pub number : ℕ
  pub offset : ℕ

-- a fault with this number at this position
abbrev pub fault : ℕ → ℕ → Option Fault
fault number offset = Some (record { number = number; offset = offset })

-- the first of two faults
infixr 20 ◌or_else◌
abbrev pub ◌or_else◌ : Option Fault → Option Fault → Option Fault
None or_else later = later
(Some first) or_else later = Some first

-- the fault of an offset of the root: a missing element is reported at the first byte of the data set, one of the
-- wrong size at its header
abbrev pub offset_fault : ℕ → Found → Option Fault
offset_fault start missing = fault bad_record start
offset_fault start (value_at offset v) = if nat_eq (length v) 4 then None else fault bad_record offset
offset_fault start (items_at offset h is) = fault bad_record offset

-- the fault of Directory Record Sequence itself
abbrev pub records_fault : ℕ → Found → Option Fault
records_fault start missing = fault bad_record start
records_fault start (value_at offset v) = fault bad_record offset
records_fault start (items_at offset h is) = None

-- the first fault of the root
abbrev pub root_fault : ℕ → Elements → Option Fault
root_fault start es =
    offset_fault start (found 0x00041200 start es)
    or_else offset_fault start (found 0x00041202 start es)
    or_else records_fault start (found 0x00041220 start es)

-- the fault of a record by itself: a missing or wrong element, or else its file ID
abbrev pub record_fault : Record → Option Fault
record_fault r =
    if not (has_record r.elements) then fault bad_record r.offset
    else (if not (has_file_id r.elements) then fault bad_file_id r.offset
    else None)

-- the first fault of these records, each by itself
abbrev pub each_fault : List Record → Option Fault
each_fault [] = None
each_fault (r ∷ records) = record_fault r or_else each_fault records

-- Then path by path. The position of a fault is that of the record, or of the root's element, that has the offset;
-- for a wrong level it is that of the record that the offset leads to.

-- the offset at the end of this path is not the position of a record
abbrev pub names_no_record : Links → List Turn → Bool
names_no_record links path = is_none (record_at (named_by links path) links.records)

-- the path leads to a record in use whose type does not fit its level
abbrev pub names_wrong_level : Links → List Turn → Bool
names_wrong_level links path = not (fits (level_of path) (carried_node (elements_at links.records (named_by links path))))

-- the fault of the offset at the end of a path, or of the record that it leads to; `reached` are the positions of the
-- records that earlier paths lead to
abbrev pub path_fault : Links → List ℕ → List Turn → Option Fault
path_fault links reached path =
    if names_no_record links path then fault bad_offset (reported_at links path)
    else (if is_one_of (named_by links path) reached then fault (if makes_cycle links path then cycle else twice_reached) (reported_at links path)
    else (if names_wrong_level links path then fault wrong_level (named_by links path)
    else None))

-- the fault of the first of these paths that has one
abbrev pub first_fault : Links → List ℕ → List (List Turn) → Option Fault
first_fault links reached [] = None
first_fault links reached (path ∷ paths) = path_fault links reached path or_else first_fault links (named_by links path ∷ reached) paths

-- the position of what was found
abbrev pub offset_in : Found → ℕ
offset_in missing = 0
offset_in (value_at offset v) = offset
offset_in (items_at offset h is) = offset

-- the fault of the root's offset of its last record, which must be the last that the root's own offsets lead to
abbrev pub last_fault : ℕ → Elements → Links → Option Fault
last_fault start es links =
    if nat_eq (or_zero (last_offset start es)) (last_from 0 (root_records links (paths_of links))) then None
    else fault bad_offset (offset_in (found 0x00041202 start es))

-- the fault of the first record in use that was not reached
abbrev pub unreached_fault : List ℕ → List Record → Option Fault
unreached_fault reached [] = None
unreached_fault reached (r ∷ records) =
    if not (carried_node r.elements).in_use || is_one_of r.offset reached then unreached_fault reached records else fault unreached r.offset

-- the first fault of the offsets of a directory: of the paths along them; then of the root's last offset; then the
-- first record in use that no path leads to
abbrev pub links_fault : ℕ → Elements → Links → Option Fault
links_fault start es links =
    first_fault links [] (paths_of links)
    or_else (last_fault start es links
    or_else unreached_fault (reached_by links (paths_of links)) links.records)

-- the links of a directory with these elements and records: the root's first offset, its position, and the records
abbrev pub links_of : ℕ → Elements → List Record → Links
links_of start es records =
    record { offset = offset_in (found 0x00041200 start es); first = or_zero (first_offset start es); records = records }

-- the first fault of the records, or else of their offsets
abbrev pub records_then_links : ℕ → Elements → Option (List Record) → Option Fault
records_then_links start es None = None
records_then_links start es (Some records) = each_fault records or_else links_fault start es (links_of start es records)

-- the first fault of the elements of a directory, the first of which is at position `start`
unfoldable pub directory_fault : ℕ → Elements → Option Fault
directory_fault start es = root_fault start es or_else records_then_links start es (records_of start es)

-- ---- the first fault of a file that should be a directory (this product's own profile)

-- the limits of the data set: 64 open levels and 2^48 bytes; no value of it is kept
abbrev pub check_limits : Limits
check_limits = record { wanted = []; depth = 64; bytes = 2 ^ 48 }

-- the file is a file header in Explicit VR Little Endian, followed by the bytes `back`
pub record HasHeader (file back : List ℕ) : Type 0 where
  pub front : List ℕ
  pub explicit : IsExplicitFile file front back

-- after such a file header the file is a whole data set within the limits
pub record HasDataSet (file : List ℕ) : Type 0 where
  pub back : List ℕ
  pub header : HasHeader file back
  pub whole : IsWholeDataSet codings.Explicit check_limits back

-- the position at which a fault of the file header is reported: 128, at the prefix DICM, for a missing prefix, else
-- 132, after it
abbrev pub offset_of_meta_fault : ℕ → ℕ
offset_of_meta_fault number = if nat_eq number 50 then 128 else 132

-- The fault of a file as a directory: its number, its position, and the tag of a fault of the data set. It is that of
-- the file header, for which Implicit is an unaccepted transfer syntax; else that of the data set; else that of the
-- directory.
pub data CheckFault (file : List ℕ) : ℕ → ℕ → Tag → Type 0 where
  in_header : (fault : MetaFault) → MetaFaultOf file fault → CheckFault file (fault_number fault) (offset_of_meta_fault (fault_number fault)) no_tag
  in_syntax : {said : MetaValues} → HasMeta said file → said.syntax ≡ syntax_uid Implicit → CheckFault file 53 132 no_tag
  in_data_set : {front back p u : List ℕ} {rule : ℕ} {tag : Tag} → IsExplicitFile file front back
      → FirstFault codings.Explicit check_limits back p u rule tag → CheckFault file rule (length front + length p) tag
  at_the_end : {front back : List ℕ} {tag : Tag} → IsExplicitFile file front back
      → EndFault codings.Explicit check_limits back tag → CheckFault file 20 (length file) tag
  in_directory : {front back : List ℕ} {elements : Elements} {f : Fault} → IsExplicitFile file front back
      → IsUnbroken codings.Explicit check_limits back → DataSet codings.Explicit 0 elements back
      → directory_fault (length front) elements ≡ Some f → CheckFault file f.number f.offset no_tag

-- the fault of memory that ran out has position 0 and no tag
abbrev pub IsAtNone : DirFault → Type 0
IsAtNone f = f.number ≡ out_of_memory → (f.offset ≡ 0) × (f.tag ≡ no_tag)
