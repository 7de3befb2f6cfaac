-- The records in use of a linked directory, depth first, each with its position and level, and the files that the
-- directory references.
use Rattle.std.specs.Prelude.{◌≡◌, ℕ, suc, List, [], ◌∷◌, ◌++◌, if◌then◌else◌, Option, Some, None, true, map}
use Rattle.sequence.specs.Tree.{Elements}
use Rattle.dicomdir.specs.Forest.{Forest, no_nodes, node}
use Rattle.dicomdir.specs.Directory.{IsDirectoryFile, Node}
use Rattle.dicomdir.specs.Linked.{PlacedNode, LinkedElements, IsAllReached}
use Rattle.std.specs.Str.{bytes_eq}
use Rattle.dicomdir.specs.declared.tree.TreeRecord.{TreeRecord}
use Rattle.dicomdir.specs.declared.tree.Tree.{Tree}
use Rattle.dicomdir.specs.declared.level.Level.TheVariants.{Image}
use Rattle.dicomdir.specs.Level.{kind_of}

-- a record of the tree: its position, its level, from 1 for a patient to 4 for an image, and its contents
pub record LevelNode : Type 0 where
  pub offset : ℕ
  pub level : ℕ
  pub carries : Node

-- the records in use, without those below an inactive one
abbrev pub nodes_in_use : ℕ → Forest PlacedNode → List LevelNode
nodes_in_use level no_nodes = []
nodes_in_use level (node n below next) =
    if n.carries.in_use
    then record { offset = n.offset; level = level; carries = n.carries } ∷ (nodes_in_use (suc level) below ++ nodes_in_use level next)
    else nodes_in_use level next

-- the file is a directory whose records are linked to a tree that contains each record in use, and these are its
-- records in use, without those below an inactive one
pub record HasNodes (file : List ℕ) (nodes : List LevelNode) : Type 0 where
  pub start : ℕ
  pub elements : Elements
  pub tree : Forest Node
  pub is_file : IsDirectoryFile file start elements
  pub linked : LinkedElements start elements tree
  pub all_reached : IsAllReached linked
  pub nodes_are : nodes_in_use 1 linked.placed ≡ nodes

-- ---- a tree without its inactive records (PS3.3 section F.5.1), and its files

-- the tree without inactive nodes and those below them
abbrev pub pruned : Forest Node → Forest Node
pruned no_nodes = no_nodes
pruned (node n below next) = if n.in_use then node n (pruned below) (pruned next) else pruned next

-- an optional file ID as a list
abbrev pub listed : Option (List ℕ) → List (List ℕ)
listed None = []
listed (Some file_id) = file_id ∷ []

-- the file ID of an image record in use
abbrev pub file_id_of_image : Node → List (List ℕ)
file_id_of_image n = if bytes_eq n.kind (kind_of Image) then listed n.file_id else []

-- the file IDs of the images of a tree, depth first
abbrev pub images_of : Forest Node → List (List ℕ)
images_of no_nodes = []
images_of (node n below next) = file_id_of_image n ++ (images_of below ++ images_of next)

-- the file IDs of the images in use that have no inactive record above them
abbrev pub KeptOf : Forest Node → List (List ℕ)
KeptOf tree = images_of (pruned tree)

-- ---- the nodes of a tree that a check returned, and the files that they keep

-- a record of the tree, which is in use
abbrev pub node_of : TreeRecord → LevelNode
node_of r = record { offset = r.offset; level = r.level; carries = record { in_use = true; kind = r.kind.now; file_id = r.file_id } }

-- the records of a tree, depth first
abbrev pub tree_nodes : {A : Type 0} → Tree A → List LevelNode
tree_nodes tree = map node_of tree.records.items

-- the file IDs of the images among these nodes
abbrev pub kept_in : List LevelNode → List (List ℕ)
kept_in [] = []
kept_in (n ∷ nodes) = file_id_of_image n.carries ++ kept_in nodes
