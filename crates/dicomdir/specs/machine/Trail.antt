-- The current path while the offsets of a directory are followed, and the remaining paths. A mark (`Mark`) is a record
-- of the current path: its position, its next offset, whether it is the first of its chain of siblings, its level, and
-- whether no record above it is inactive. A step (`Step`) is the offset that is followed next.
use Rattle.std.specs.Prelude.{◌≡◌, ℕ, suc, ◌<◌, ◌-◌, min, Bool, true, false, ◌&&◌, List, [], ◌∷◌, ◌++◌, length, Option, Some, None, if◌then◌else◌, ◌≢◌, ◌≤◌, map, slice_index_or, not, ◌||◌, is_some, nat_eq}
use Rattle.dicomdir.specs.declared.links.Mark.{Mark}
use Rattle.dicomdir.specs.declared.links.Step.{Step}
use Rattle.dicomdir.specs.declared.records.ReadRecord.{ReadRecord}
use Rattle.dicomdir.specs.Directory.{records_at, Node, carried_node, found, Record, first_offset, last_offset, next_offset, lower_offset, has_record, has_file_id, or_zero, Found, number_in, records_of}
use Rattle.dicomdir.specs.Linked.{elements_at, next_at, record_at, is_one_of}
use Rattle.dicomdir.specs.NodesInUse.{LevelNode, node_of}
use Rattle.dicomdir.specs.Paths.{Links, Turn, named_by, level_of, paths_from, paths_of}
use Rattle.std.specs.List.{flat_map}
use Rattle.sequence.specs.Rules.{no_tag}
use Rattle.sequence.specs.declared.coding.Coding.{Coding}
use Rattle.sequence.specs.Tree.{Elements, Items}
use Rattle.dicomdir.specs.declared.fault.DirFault.{DirFault}
use Rattle.dicomdir.specs.declared.links.Root.{Root}
use Rattle.dicomdir.specs.declared.tree.TreeRecord.{TreeRecord}
use Rattle.dicomdir.specs.DirFault.{offset_in, links_of, links_fault, path_fault, unreached_fault, Fault, offset_fault, directory_fault}
use Rattle.std.specs.Str.{bytes_eq}
use Rattle.dicomdir.specs.declared.found.Element.{Element}
use Rattle.dicomdir.specs.machine.Texts.{got_none, HasItems}
use Rattle.dicomdir.specs.declared.level.Level.TheVariants.{Image}
use Rattle.dicomdir.specs.Level.{kind_of}

-- Lists of marks have the last mark first.

-- the path along the records of these marks, and then along the lower offset of the last one, or along its next one
abbrev pub path_along : Bool → List Mark → List Turn
path_along lower [] = []
path_along lower (m ∷ ms) = record { offset = m.offset; lower = lower } ∷ path_along m.begins ms

-- the position at which a fault of the offset at the end of that path is reported
abbrev pub reported_along : ℕ → List Mark → ℕ
reported_along root [] = root
reported_along root (m ∷ ms) = m.offset

-- the marks without the last chain of siblings
abbrev pub remaining_of : List Mark → List Mark
remaining_of [] = []
remaining_of (m ∷ ms) = if m.begins then ms else remaining_of ms

abbrev pub mark_of : ReadRecord → Step → Mark
mark_of e step = record { offset = e.offset; next = e.next; begins = step.begins; level = step.level; shown = step.shown }

-- no record above the one that a path leads to is inactive
abbrev pub is_shown : Links → List Turn → Bool
is_shown links [] = true
is_shown links (t ∷ path) = if t.lower then is_shown links path && (carried_node (elements_at links.records t.offset)).in_use else is_shown links path

-- the node of a record, if it is in use and no record above it is inactive (`shown`)
abbrev pub own_node : Bool → ℕ → ℕ → Node → List LevelNode
own_node shown level offset n = if shown && n.in_use then record { offset = offset; level = level; carries = n } ∷ [] else []

-- the node of the record that a path leads to
abbrev pub node_on : Links → List Turn → List LevelNode
node_on links path =
    own_node (is_shown links path) (level_of path) (named_by links path) (carried_node (elements_at links.records (named_by links path)))

-- a path and all paths that continue it, along lower and next offsets
abbrev pub paths_on : Links → List Turn → List (List Turn)
paths_on links path = paths_from (suc (length links.records) - length path) links path

-- the paths after those from the current path
abbrev pub later : Links → Bool → List Mark → List (List Turn)
later links lower [] = []
later links lower (m ∷ ms) =
    if lower then paths_on links (path_along false (m ∷ ms)) ++ later links m.begins ms else later links m.begins ms

-- the paths from the offset that is followed next
abbrev pub expected : Links → List Mark → Option Step → List (List Turn)
expected links ms None = []
expected links ms (Some step) = paths_on links (path_along step.begins ms) ++ later links step.begins ms

-- the level of a path is counted up to 5, which is the level of no record in use
abbrev pub IsCounted : Links → List Turn → ℕ → Bool → Type 0
IsCounted links path level shown = (level ≡ min (level_of path) 5) × (shown ≡ is_shown links path)

abbrev pub AreMarks : Links → List Mark → Type 0
AreMarks links [] = Unit {0}
AreMarks links (m ∷ ms) = (m.next ≡ next_at links.records m.offset) × IsCounted links (path_along m.begins ms) m.level m.shown × AreMarks links ms

abbrev pub IsStep : Links → List Mark → Option Step → Type 0
IsStep links ms None = Unit {0}
IsStep links ms (Some step) =
    (0 < step.link) × (step.link ≡ named_by links (path_along step.begins ms)) × IsCounted links (path_along step.begins ms) step.level step.shown

-- ---- the records that were read of a directory (entries)

-- the node of an entry
abbrev pub carried_by : ReadRecord → Node
carried_by e = record { in_use = e.in_use; kind = e.kind.now; file_id = e.file_id }

-- the entry has the position, the offsets, the in-use flag, the type and the file ID of the record, which has all
-- that are required
pub record EntrySays (e : ReadRecord) (r : Record) : Type 0 where
  pub offset : e.offset ≡ r.offset
  pub next : e.next ≡ or_zero (next_offset r.elements)
  pub lower : e.lower ≡ or_zero (lower_offset r.elements)
  pub carries : carried_by e ≡ carried_node r.elements
  pub has_record : has_record r.elements ≡ true

-- the same, and the record has the file ID that it needs
pub record IsEntry (e : ReadRecord) (r : Record) : Type 0 where
  pub says : EntrySays e r
  pub has_file_id : has_file_id r.elements ≡ true

-- each entry is of one record, in their order
pub data AreEntries : List ReadRecord → List Record → Type 0 where
  no_entries : AreEntries [] []
  entry_then : {e : ReadRecord} {r : Record} {es : List ReadRecord} {rs : List Record} → IsEntry e r → AreEntries es rs → AreEntries (e ∷ es) (r ∷ rs)

-- the entries of the records of a sequence were appended
abbrev pub AddsEntries : Coding → ℕ → List ℕ → List ReadRecord → List ReadRecord → Type 0
AddsEntries s first text old new =
    (items : Items) (before : List Record) → HasItems s items text → AreEntries old before → AreEntries new (before ++ records_at first items)

-- the positions are strictly ascending, and none is below `least`
abbrev pub Rise : ℕ → List Record → Type 0
Rise least [] = Unit {0}
Rise least (r ∷ records) = (least ≤ r.offset) × Rise (suc r.offset) records

-- the root and the entries are those of a directory with these elements, the first of which is at position `start`,
-- and with these records
pub record AreRead (root : Root) (entries : List ReadRecord) (start : ℕ) (es : Elements) (records : List Record) : Type 0 where
  pub first : root.first ≡ or_zero (first_offset start es)
  pub last : root.last ≡ or_zero (last_offset start es)
  pub first_position : root.first_position ≡ offset_in (found 0x00041200 start es)
  pub last_position : root.last_position ≡ offset_in (found 0x00041202 start es)
  pub entries_are : AreEntries entries records
  pub rise : Rise 0 records

-- the offsets of the directory have no fault, and the nodes of its records in use were appended
abbrev pub AreFollowed : Root → List ReadRecord → List TreeRecord → List TreeRecord → Type 0
AreFollowed root entries old new =
    (start : ℕ) (es : Elements) (records : List Record) → AreRead root entries start es records
    → (links_fault start es (links_of start es records) ≡ None)
    × (map node_of new ≡ map node_of old ++ flat_map (node_on (links_of start es records)) (paths_of (links_of start es records)))

-- memory ran out (67), or f is the first fault of the offsets
pub record FailsToFollow (root : Root) (entries : List ReadRecord) (f : DirFault) : Type 0 where
  pub tag : f.tag ≡ no_tag
  pub memory : f.number ≡ 67 → f.offset ≡ 0
  pub fault : (start : ℕ) (es : Elements) (records : List Record) → f.number ≢ 67 → AreRead root entries start es records
      → links_fault start es (links_of start es records) ≡ Some (record { number = f.number; offset = f.offset })

-- ---- the effects of the steps that follow the offsets

-- for each record, whether it was reached
abbrev pub flags_of : List ℕ → List Record → List Bool
flags_of reached records = map (λ r. is_one_of r.offset reached) records

pub record AreFlagged (entries : List ReadRecord) (flags : List Bool) (records : List Record) (reached : List ℕ) : Type 0 where
  pub are : AreEntries entries records
  pub rise : Rise 0 records
  pub flagged : flags ≡ flags_of reached records

-- no record is at this position
abbrev pub IsNoOffset : List ReadRecord → ℕ → Type 0
IsNoOffset entries offset = (records : List Record) → AreEntries entries records → Rise 0 records → record_at offset records ≡ None

-- the entry with index `at` is that of the record that the step leads to, which has no fault
pub record IsTarget (links : Links) (entries : List ReadRecord) (ms : List Mark) (step : Step) (reached : List ℕ) (at : ℕ) : Type 0 where
  pub offset : (d : ReadRecord) → (slice_index_or entries at d).offset ≡ step.link
  pub good : path_fault links reached (path_along step.begins ms) ≡ None

-- the step leads to the entry with index `at`, and its offset has no fault
abbrev pub LeadsTo : List ReadRecord → List Bool → List Mark → Step → ℕ → Type 0
LeadsTo entries flags ms step at =
    (links : Links) (positions : List ℕ) → AreFlagged entries flags links.records positions → IsStep links ms (Some step) → IsTarget links entries ms step positions at

-- the offset of the step has this fault
abbrev pub IsWrongOffset : ℕ → List ReadRecord → List Bool → List Mark → Step → DirFault → Type 0
IsWrongOffset root entries flags ms step f =
    (links : Links) (positions : List ℕ) → root ≡ links.offset → AreFlagged entries flags links.records positions → IsStep links ms (Some step)
    → path_fault links positions (path_along step.begins ms) ≡ Some (record { number = f.number; offset = f.offset })

-- the first step: the root's offset of its first record, or none if that is 0
abbrev pub Begins : Root → Option Step → Type 0
Begins root pending = (links : Links) → links.first ≡ root.first → (paths_of links ≡ expected links [] pending) × IsStep links [] pending

-- with the step `pending`, exactly these paths remain
pub record IsExpected (links : Links) (paths : List (List Turn)) (ms ms2 : List Mark) (pending : Option Step) : Type 0 where
  pub received : paths ≡ expected links ms2 pending
  pub fewer : length ms2 ≤ length ms
  pub marks : AreMarks links ms2
  pub step : IsStep links ms2 pending

-- the step after the record of the last mark and all records below it, if there is one
abbrev pub Climbs : List Mark → List Mark → Option Step → Type 0
Climbs ms ms2 pending = (links : Links) → AreMarks links ms → IsExpected links (later links true ms) ms ms2 pending

-- the step after the record e, to which `step` has led and which has the last mark, if there is one
abbrev pub Continues : List Mark → List Mark → Step → Option Step → ReadRecord → Type 0
Continues ms ms2 step pending e =
    (links : Links) (level : ℕ) → AreMarks links ms → e.lower ≡ named_by links (path_along true ms) → step.level ≡ min level 5 → level_of (path_along true ms) ≡ suc level
    → (step.shown && e.in_use) ≡ is_shown links (path_along true ms)
    → IsExpected links (paths_on links (path_along true ms) ++ later links true ms) ms ms2 pending

-- all records in use were reached
abbrev pub AreAllReached : List ReadRecord → List Bool → Type 0
AreAllReached entries flags = (records : List Record) (positions : List ℕ) → AreFlagged entries flags records positions → unreached_fault positions records ≡ None

-- f is the fault of the first record in use that was not reached
abbrev pub IsRemainder : List ReadRecord → List Bool → DirFault → Type 0
IsRemainder entries flags f =
    (records : List Record) (positions : List ℕ) → AreFlagged entries flags records positions
    → unreached_fault positions records ≡ Some (record { number = f.number; offset = f.offset })

-- ---- the results of reading the root and the records of a directory

-- memory ran out (67), or f is the fault `first`
pub record FailsAs (first : Option Fault) (f : DirFault) : Type 0 where
  pub tag : f.tag ≡ no_tag
  pub memory : f.number ≡ 67 → f.offset ≡ 0
  pub fault : f.number ≢ 67 → first ≡ Some (record { number = f.number; offset = f.offset })

-- an offset of the root and the position of the element that has it
pub record IsRootOffset (start : ℕ) (f : Found) (offset link : ℕ) : Type 0 where
  pub position_is : offset ≡ offset_in f
  pub link_is : number_in 4 f ≡ Some link
  pub good : offset_fault start f ≡ None

abbrev pub use_flag : Option ℕ → Option Bool
use_flag None = None
use_flag (Some flag) = if nat_eq flag 0xffff then Some true else (if nat_eq flag 0 then Some false else None)

-- whether an entry has the file ID that it needs; `found` is the element Referenced File ID of its record
abbrev pub entry_has_file_id : ReadRecord → Element → Bool
entry_has_file_id e found = not e.in_use || is_some e.file_id || (got_none found && not (bytes_eq e.kind.now (kind_of Image)))

-- the directory has no fault, and these nodes
pub record ChecksAs (start : ℕ) (es : Elements) (nodes : List LevelNode) : Type 0 where
  pub no_fault : directory_fault start es ≡ None
  pub records : List Record
  pub are : records_of start es ≡ Some records
  pub nodes_are : nodes ≡ flat_map (node_on (links_of start es records)) (paths_of (links_of start es records))
