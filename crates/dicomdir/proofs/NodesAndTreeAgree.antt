-- What is kept of the nodes of a file is what its tree keeps (`kept_of_nodes`), one node after another
-- (`kept_one_more`, `kept_whole`). Stands on the definitions alone.
use Rattle.std.proofs.Common.{◌≡◌, ℕ, suc, ◌+◌, ◌<◌, ◌≤◌, List, [], ◌∷◌, ◌++◌, length, drop, get_or, map, refl, sym, ap, ◌∙◌, arith}
use Rattle.std.proofs.lemmas.List.{append_assoc, append-nil, drop_more, drop_all}
use Rattle.dicomdir.specs.Forest.{Forest, no_nodes, node}
use Rattle.dicomdir.specs.Linked.{PlacedNode, nodes_of}
use Rattle.dicomdir.specs.NodesInUse.{LevelNode, nodes_in_use, HasNodes, file_id_of_image, KeptOf, kept_in, node_of}
use Rattle.dicomdir.specs.declared.tree.TreeRecord.{TreeRecord}
use Rattle.std.proofs.lemmas.Grind.{common_steps}

kept_append : (xs ys : List LevelNode) → kept_in (xs ++ ys) ≡ kept_in xs ++ kept_in ys
kept_append [] ys = refl
kept_append (x ∷ xs) ys = grind (arith, common_steps, kept_append xs ys, append_assoc (file_id_of_image x.carries) (kept_in xs) (kept_in ys))

kept_are_in_use : (level : ℕ) (placed : Forest PlacedNode) → KeptOf (nodes_of placed) ≡ kept_in (nodes_in_use level placed)
kept_are_in_use level no_nodes = refl
kept_are_in_use level (node n below next) = grind (arith, common_steps, kept_are_in_use (suc level) below, kept_are_in_use level next, kept_append (nodes_in_use (suc level) below) (nodes_in_use level next))

-- the files that the nodes of a file keep are those of the tree that it is linked to
pub kept_of_nodes : (file : List ℕ) (nodes : List LevelNode) (has : HasNodes file nodes) → kept_in nodes ≡ KeptOf has.tree
kept_of_nodes file nodes has = sym (ap kept_in has.nodes_are) ∙ (sym (kept_are_in_use 1 has.linked.placed) ∙ ap KeptOf has.linked.tree_is)

-- of the records from an index on
abbrev pub kept_from : ℕ → List TreeRecord → List (List ℕ)
kept_from i records = kept_in (map node_of (drop i records))

pub kept_one_more : (records : List TreeRecord) (i : ℕ) (d : TreeRecord) (kept one : List (List ℕ)) → i < length records
    → one ≡ file_id_of_image (node_of (get_or records i d)).carries → kept ++ kept_from i records ≡ kept_in (map node_of records)
    → (kept ++ one) ++ kept_from (i + 1) records ≡ kept_in (map node_of records)
kept_one_more records i d kept one within is all = grind (arith, common_steps, drop_more records i d within, append_assoc kept one (kept_from (i + 1) records))

pub kept_whole : (records : List TreeRecord) (kept : List (List ℕ)) (i : ℕ) → length records ≤ i → kept ++ kept_from i records ≡ kept_in (map node_of records) → kept ≡ kept_in (map node_of records)
kept_whole records kept i le all = grind (arith, common_steps, drop_all i records le, append-nil kept)
