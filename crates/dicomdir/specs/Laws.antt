-- Statements that follow from the definitions; `src/laws.rt` has the functions whose contracts they are.
use Rattle.std.specs.Prelude.{◌≡◌, ℕ, true, List, ◌≤◌, length, false, None, Some, suc, ◌+◌, []}
use Rattle.element.specs.Padding.{padded}
use Rattle.sequence.specs.declared.walker.Walker.{Walker}
use Rattle.sequence.specs.Consumed.{StandsAt, fault_of}
use Rattle.sequence.specs.Tree.{Elements}
use Rattle.element.specs.declared.tag.Tag.{Tag}
use Rattle.dicomdir.specs.FileId.{is_file_id, file_id_of}
use Rattle.dicomdir.specs.NodesInUse.{LevelNode, HasNodes}
use Rattle.dicomdir.specs.DirFault.{CheckFault, HasDataSet, directory_fault, first_fault, links_of}
use Rattle.dicomdir.specs.Forest.{Forest, count_of}
use Rattle.dicomdir.specs.Directory.{Node}
use Rattle.dicomdir.specs.Linked.{Linked, LinkedElements, IsAllReached, offsets_of, is_one_of}
use Rattle.dicomdir.specs.Paths.{Links, paths_from, paths_of, reached_by}

-- ---- file IDs

-- a valid file ID has at most 71 bytes
abbrev pub FileIdsAreShort : Type 0
FileIdsAreShort = (text : List ℕ) → is_file_id text ≡ true → length text ≤ 71

-- a valid file ID, padded to an even length, is read as itself
abbrev pub FileIdsAreReadBack : Type 0
FileIdsAreReadBack = (text : List ℕ) → is_file_id text ≡ true → file_id_of (padded 32 text) ≡ Some text

-- ---- the walk of a data set

-- a walker that has read no bytes has found no fault
abbrev pub WalkersStartWithoutFault : Type 0
WalkersStartWithoutFault = (V D : ℕ) (w : Walker V D) → StandsAt w [] → fault_of w ≡ None

-- ---- what a check finds is determined by the file

-- a directory whose records are linked to a tree that contains each record in use has no fault
abbrev pub AcceptedHasNoFault : Type 0
AcceptedHasNoFault = (file : List ℕ) (nodes : List LevelNode) (number offset : ℕ) (tag : Tag) → HasDataSet file → HasNodes file nodes → CheckFault file number offset tag → ⊥

-- a file has one first fault at most
abbrev pub OneCheckFault : Type 0
OneCheckFault = (file : List ℕ) (number number2 offset offset2 : ℕ) (tag tag2 : Tag)
    → CheckFault file number offset tag → CheckFault file number2 offset2 tag2 → (number ≡ number2) × (offset ≡ offset2) × (tag ≡ tag2)

-- a file determines the list of its records in use
abbrev pub OneListOfNodes : Type 0
OneListOfNodes = (file : List ℕ) (nodes other : List LevelNode) → HasNodes file nodes → HasNodes file other → nodes ≡ other

-- ---- the faults of a directory and its links (this product's own profile)

-- in a linked directory the tree has at most as many nodes as there are records, and no record is at position 0
abbrev pub NodesAreRecords : Type 0
NodesAreRecords =
    (start : ℕ) (elements : Elements) (tree : Forest Node) (linked : LinkedElements start elements tree)
    → (count_of linked.placed ≤ length linked.records) × (is_one_of 0 (offsets_of linked.placed) ≡ false)

-- a directory with these elements, whose records are linked to a tree that contains each record in use, has no fault
abbrev pub LinkedHasNoFault : Type 0
LinkedHasNoFault =
    (start : ℕ) (elements : Elements) (tree : Forest Node) (linked : LinkedElements start elements tree)
    → IsAllReached linked
    → directory_fault start elements ≡ None

-- the records are linked to a tree that contains each record in use
pub record IsSound (start : ℕ) (elements : Elements) : Type 0 where
  pub tree : Forest Node
  pub linked : LinkedElements start elements tree
  pub all_reached : IsAllReached linked

-- the records of a directory without a fault are linked to a tree that contains each record in use
abbrev pub NoFaultIsLinked : Type 0
NoFaultIsLinked = (start : ℕ) (elements : Elements) → directory_fault start elements ≡ None → IsSound start elements

-- a file is linked to at most one tree
abbrev pub OneTreeOfFile : Type 0
OneTreeOfFile = (file : List ℕ) (tree other : Forest Node) → Linked file tree → Linked file other → tree ≡ other

-- ---- longer paths change nothing; the records that paths lead to

-- following paths longer than the number of records finds no other first fault, and no further paths if there is no
-- fault
abbrev pub LongerPathsChangeNothing : Type 0
LongerPathsChangeNothing =
    (links : Links) (more : ℕ)
    → (first_fault links [] (paths_from (suc (length links.records) + more) links []) ≡ first_fault links [] (paths_of links))
    × (first_fault links [] (paths_of links) ≡ None → paths_from (suc (length links.records) + more) links [] ≡ paths_of links)

-- the paths along the offsets of a directory that is linked to a tree lead to its nodes, depth first
abbrev pub PathsNameNodes : Type 0
PathsNameNodes =
    (start : ℕ) (elements : Elements) (tree : Forest Node) (linked : LinkedElements start elements tree)
    → reached_by (links_of start elements linked.records) (paths_of (links_of start elements linked.records)) ≡ offsets_of linked.placed
