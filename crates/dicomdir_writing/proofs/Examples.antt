-- Worked directories compute: what is linked (`one_image_is_linked`), the faults (`one_image_faults`, `record_faults`), the
-- offsets (`positions_are_assigned`), what is kept (`inactive_records`) and the paths (`paths_name_records`). Stands on Laid and
-- WrittenLinked.
use Rattle.std.proofs.Common.{◌≡◌, ℕ, false, List, [], ◌∷◌, ◌++◌, length, Option, Some, None, refl, subst, arith, codes}
use Rattle.element.specs.Vr.{is_short}
use Rattle.part10.specs.File.{identity_elements, implementation_elements, title_element}
use Rattle.part10.specs.MetaText.{SpellsMeta, meta_values_of}
use Rattle.sequence.specs.Tree.{Elements}
use Rattle.dicomdir.specs.Forest.{Forest, no_nodes, node}
use Rattle.dicomdir_writing.specs.TreeOf.{TreeOf}
use Rattle.dicomdir.specs.Directory.{carried_node, IsExplicitFile, IsDirectoryFile, Record, records_of}
use Rattle.dicomdir.specs.Linked.{LinkedElements, elements_at, nodes_of, Linked, PlacedNode, carried_forest, record_at, first_position, AreLinked}
use Rattle.dicomdir.specs.DirFault.{directory_fault}
use Rattle.dicomdir_writing.specs.Record.{spelled}
use Rattle.dicomdir_writing.specs.Examples.{one_image_row, one_image_header, one_image_file, one_image_elements, OneImageIsLinked, OneImageFaults, preamble_omitted, PreambleCounts, RecordFaults, no_rows_elements, NoRowsAreLinked, OneImageHasNodes, RowsAreGrouped, InactiveRecords, PositionsAreAssigned}
use Rattle.dicomdir_writing.proofs.Laid.{laid_elements}
use Rattle.dicomdir_writing.proofs.WrittenLinked.{header_read, written_is_linked}
use Rattle.dicomdir_writing.specs.Built.{directory_meta, directory_header, directory_file, file_is_too_large}
use Rattle.dicomdir_writing.specs.Keys.{IsRow}
use Rattle.dicomdir_writing.specs.Row.{Row}
use Rattle.std.specs.List.{AllByRecursion}
use Rattle.dicomdir_writing.specs.Positions.{greatest_size, directory_elements}
use Rattle.std.proofs.lemmas.Bool.Decides.{nat_tests}
use Rattle.dicomdir_writing.specs.Laws.{PathsNameRecords}

header_is : directory_header (codes "2.25.1") ≡ one_image_header
unfolding directory_header identity_elements implementation_elements title_element is_short
header_is = refl

elements_are : one_image_file ≡ one_image_header ++ spelled (one_image_elements 320 320 0 404 534 626)
unfolding is_short
elements_are = refl

pub one_image_faults : OneImageFaults
unfolding directory_fault is_short
one_image_faults = (refl, refl, refl, refl, refl, refl, refl)

-- behind that header stands the data set
explicit_file : (file back : List ℕ) → file ≡ one_image_header ++ back → IsExplicitFile file one_image_header back
explicit_file file back whole = record {
  said = meta_values_of (directory_meta (codes "2.25.1"));
  whole = whole;
  header = subst (λ b. SpellsMeta (meta_values_of (directory_meta (codes "2.25.1"))) b) header_is (header_read (codes "2.25.1") refl);
  syntax = refl;
}

records_or_none : Option (List Record) → List Record
records_or_none None = []
records_or_none (Some records) = records

the_elements : Elements
the_elements = one_image_elements 320 320 0 404 534 626

the_records : List Record
the_records = records_or_none (records_of 266 the_elements)

-- a directory that is written is linked
linked_as : (rows : List Row) (file : List ℕ) → AllByRecursion IsRow rows → file_is_too_large greatest_size (codes "2.25.1") rows ≡ false → directory_file (record { uid = codes "2.25.1"; rows = rows }) ≡ file
    → Linked file (carried_forest (TreeOf rows))
linked_as rows file all fits is = subst (λ f. Linked f (carried_forest (TreeOf rows))) is (written_is_linked (codes "2.25.1") rows refl all fits).linked

pub one_image_is_linked : OneImageIsLinked
unfolding directory_header directory_elements TreeOf identity_elements implementation_elements title_element is_short
one_image_is_linked = linked_as (one_image_row ∷ []) one_image_file (record { file_id = refl; class = refl; instance = refl; fits = refl; full = refl }, tt) refl refl

-- the record of that directory at a position, as a node
node_at : ℕ → PlacedNode
node_at offset = record { offset = offset; carries = carried_node (elements_at the_records offset) }

the_nodes : Forest PlacedNode
the_nodes = node (node_at 320) (node (node_at 404) (node (node_at 534) (node (node_at 626) no_nodes no_nodes) no_nodes) no_nodes) no_nodes

nodes_linked : LinkedElements 266 the_elements (nodes_of the_nodes)
unfolding records_or_none the_elements the_records node_at the_nodes is_short
nodes_linked = record {
  records = the_records;
  placed = the_nodes;
  has_records = refl;
  good = refl;
  tree_is = refl;
  linked = (
    record { elements = elements_at the_records 320; stands = refl; carries = refl; fits_there = refl; names_lower = refl; names_next = refl },
    (
      record { elements = elements_at the_records 404; stands = refl; carries = refl; fits_there = refl; names_lower = refl; names_next = refl },
      (
        record { elements = elements_at the_records 534; stands = refl; carries = refl; fits_there = refl; names_lower = refl; names_next = refl },
        (record { elements = elements_at the_records 626; stands = refl; carries = refl; fits_there = refl; names_lower = refl; names_next = refl }, tt, tt),
        tt,
      ),
      tt,
    ),
    tt,
  );
  distinct = refl;
  names_first = refl;
  names_last = refl;
}

pub one_image_has_nodes : OneImageHasNodes
unfolding records_or_none the_elements the_records node_at the_nodes nodes_linked is_short
one_image_has_nodes = record {
  start = 266;
  elements = the_elements;
  tree = nodes_of the_nodes;
  is_file = record {
    front = one_image_header;
    back = spelled the_elements;
    explicit = explicit_file one_image_file (spelled the_elements) elements_are;
    data_set = laid_elements 0 the_elements refl;
    begins = refl;
  };
  linked = nodes_linked;
  all_reached = refl;
  nodes_are = refl;
}

preamble_is_file : IsDirectoryFile (one_image_header ++ spelled preamble_omitted) 266 preamble_omitted
unfolding is_short
preamble_is_file = grind (arith, nat_tests, explicit_file (one_image_header ++ spelled preamble_omitted) (spelled preamble_omitted) refl, laid_elements 0 preamble_omitted refl)

preamble_records : List Record
preamble_records = records_or_none (records_of 266 preamble_omitted)

none_there : record_at 192 preamble_records ≡ None
unfolding preamble_records records_or_none is_short
none_there = refl

not_linked : (records : List Record) (placed : Forest PlacedNode) → records ≡ preamble_records → Some 192 ≡ Some (first_position placed) → AreLinked records 1 placed → ⊥
not_linked records no_nodes is first linked = absurd cc
not_linked records (node n below next) is first linked = grind (arith, nat_tests, none_there)

pub preamble_counts : PreambleCounts
unfolding preamble_records is_short
preamble_counts = grind (arith, nat_tests, not_linked, preamble_is_file)

pub rows_are_grouped : RowsAreGrouped
unfolding TreeOf
rows_are_grouped = (refl, refl, refl)

pub record_faults : RecordFaults
unfolding directory_fault is_short
record_faults = (refl, refl, refl, refl, refl, refl, refl, refl)

no_rows_size : length (one_image_header ++ spelled no_rows_elements) ≡ 320
unfolding is_short
no_rows_size = refl

no_rows_linked : Linked (one_image_header ++ spelled no_rows_elements) (carried_forest (TreeOf []))
unfolding directory_header directory_elements TreeOf identity_elements implementation_elements title_element is_short
no_rows_linked = linked_as [] _ tt refl refl

no_rows_fault : directory_fault 266 no_rows_elements ≡ None
unfolding directory_fault is_short
no_rows_fault = refl

pub no_rows_are_linked : NoRowsAreLinked
no_rows_are_linked = (no_rows_size, no_rows_linked, no_rows_fault)

-- ---- inactive records are followed, and what they keep computes

pub inactive_records : InactiveRecords
unfolding directory_fault directory_elements is_short
inactive_records = (refl, refl, refl, refl, refl, refl, refl, refl, refl, refl, refl)

-- ---- the offsets and the sizes of known directories compute

pub positions_are_assigned : PositionsAreAssigned
unfolding TreeOf directory_elements is_short
positions_are_assigned = (refl, refl, refl, refl, refl, refl, refl, refl, refl, refl, refl, refl, refl, refl)

-- ---- paths of known directories compute

pub paths_name_records : PathsNameRecords
unfolding directory_fault is_short
paths_name_records = (refl, refl, refl, refl, refl, refl)
