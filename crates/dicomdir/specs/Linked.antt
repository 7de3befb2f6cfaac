-- When the records of a directory are linked to a tree: their offsets form that tree, from the root down (PS3.3
-- section F.4; that a directory has exactly these levels is this product's own profile).
use Rattle.std.specs.Prelude.{◌≡◌, ℕ, suc, Bool, true, not, ◌&&◌, ◌||◌, List, [], ◌∷◌, ◌++◌, Option, Some, None, nat_eq, if◌then◌else◌}
use Rattle.std.specs.List.{list_any, list_all}
use Rattle.std.specs.Str.{bytes_eq}
use Rattle.sequence.specs.Tree.{Elements, no_elements}
use Rattle.dicomdir.specs.Forest.{Forest, no_nodes, node}
use Rattle.dicomdir.specs.Directory.{IsDirectoryFile, Record, Node, carried_node, first_offset, last_offset, records_of, next_offset, lower_offset, or_zero, has_record, has_file_id}
use Rattle.dicomdir.specs.declared.level.Level.TheVariants.{Patient, Study, Series}
use Rattle.dicomdir.specs.Level.{kind_of}

-- the tree with the contents of its nodes in place of the elements of their records
abbrev pub carried_forest : Forest Elements → Forest Node
carried_forest no_nodes = no_nodes
carried_forest (node es below next) = node (carried_node es) (carried_forest below) (carried_forest next)

-- whether the record type is PATIENT, STUDY or SERIES
abbrev pub is_upper_kind : List ℕ → Bool
is_upper_kind kind = bytes_eq kind (kind_of Patient) || bytes_eq kind (kind_of Study) || bytes_eq kind (kind_of Series)

-- the type of a record fits its level: PATIENT, STUDY and SERIES on levels 1 to 3, any other type on level 4, the
-- lowest
abbrev pub fits_level : ℕ → List ℕ → Bool
fits_level level kind =
    if nat_eq level 1 then bytes_eq kind (kind_of Patient)
    else (if nat_eq level 2 then bytes_eq kind (kind_of Study)
    else (if nat_eq level 3 then bytes_eq kind (kind_of Series)
    else (nat_eq level 4 && not (is_upper_kind kind))))

-- a node fits a level by its type; an inactive one fits any
abbrev pub fits : ℕ → Node → Bool
fits level n = not n.in_use || fits_level level n.kind

-- the contents of a node, and the position of its record
pub record PlacedNode : Type 0 where
  pub offset : ℕ
  pub carries : Node

-- the tree without the positions of its records
abbrev pub nodes_of : Forest PlacedNode → Forest Node
nodes_of no_nodes = no_nodes
nodes_of (node n below next) = node n.carries (nodes_of below) (nodes_of next)

-- the positions of the records of a tree, depth first
abbrev pub offsets_of : Forest PlacedNode → List ℕ
offsets_of no_nodes = []
offsets_of (node n below next) = n.offset ∷ (offsets_of below ++ offsets_of next)

-- the position of the first of these siblings, 0 if there is none
abbrev pub first_position : Forest PlacedNode → ℕ
first_position no_nodes = 0
first_position (node n below next) = n.offset

-- the position of the last of these siblings, or `offset` if there is none
abbrev pub last_position_behind : ℕ → Forest PlacedNode → ℕ
last_position_behind offset no_nodes = offset
last_position_behind offset (node n below next) = last_position_behind n.offset next

-- the position of the last of these siblings, 0 if there is none
abbrev pub last_position : Forest PlacedNode → ℕ
last_position nodes = last_position_behind 0 nodes

-- whether the number is in the list
abbrev pub is_one_of : ℕ → List ℕ → Bool
is_one_of offset positions = list_any (nat_eq offset) positions

-- whether no number occurs twice in the list
abbrev pub is_distinct : List ℕ → Bool
is_distinct [] = true
is_distinct (offset ∷ positions) = not (is_one_of offset positions) && is_distinct positions

-- the elements of the record at this position, if there is one
abbrev pub record_at : ℕ → List Record → Option Elements
record_at offset [] = None
record_at offset (r ∷ records) = if nat_eq r.offset offset then Some r.elements else record_at offset records

-- the elements of the record at this position; none if no record is there
abbrev pub elements_at : List Record → ℕ → Elements
elements_at records offset = elim (record_at offset records) [ None ↦ no_elements | Some es ↦ es ]

-- the offset of the first record at the lower level, in the record at this position
abbrev pub lower_at : List Record → ℕ → ℕ
lower_at records offset = or_zero (lower_offset (elements_at records offset))

-- the offset of the next record at the same level, in the record at this position
abbrev pub next_at : List Record → ℕ → ℕ
next_at records offset = or_zero (next_offset (elements_at records offset))

-- one of the records is at the position of the node, has its type and file ID, fits the level, and has these two
-- offsets
pub record IsRecordOf (records : List Record) (level : ℕ) (n : PlacedNode) (lower next : ℕ) : Type 0 where
  pub elements : Elements
  pub stands : record_at n.offset records ≡ Some elements
  pub carries : carried_node elements ≡ n.carries
  pub fits_there : fits level n.carries ≡ true
  pub names_lower : lower_offset elements ≡ Some lower
  pub names_next : next_offset elements ≡ Some next

-- each record has the offsets of the first record below it and of its next sibling, or 0
abbrev pub AreLinked : List Record → ℕ → Forest PlacedNode → Type 0
AreLinked records level no_nodes = Unit {0}
AreLinked records level (node n below next) =
    IsRecordOf records level n (first_position below) (first_position next)
    × AreLinked records (suc level) below
    × AreLinked records level next

-- whether each record has its required elements and, if it needs one, a valid file ID
abbrev pub are_records : List Record → Bool
are_records records = list_all (λ r. has_record r.elements && has_file_id r.elements) records

-- the records of a directory with these elements, the first of which is at position `start`, are linked to the tree
pub record LinkedElements (start : ℕ) (elements : Elements) (tree : Forest Node) : Type 0 where
  pub records : List Record
  pub placed : Forest PlacedNode
  pub has_records : records_of start elements ≡ Some records
  pub good : are_records records ≡ true
  pub tree_is : nodes_of placed ≡ tree
  pub linked : AreLinked records 1 placed
  pub distinct : is_distinct (offsets_of placed) ≡ true
  pub names_first : first_offset start elements ≡ Some (first_position placed)
  pub names_last : last_offset start elements ≡ Some (last_position placed)

-- the file is a directory whose records are linked to the tree
pub record Linked (file : List ℕ) (tree : Forest Node) : Type 0 where
  pub start : ℕ
  pub elements : Elements
  pub is_file : IsDirectoryFile file start elements
  pub linked : LinkedElements start elements tree

-- each record in use is a node of the tree
abbrev pub IsAllReached : {start : ℕ} {elements : Elements} {tree : Forest Node} → LinkedElements start elements tree → Type 0
IsAllReached linked = list_all (λ r. not (carried_node r.elements).in_use || is_one_of r.offset (offsets_of linked.placed)) linked.records ≡ true
