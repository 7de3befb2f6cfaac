-- The directory that is written of rows is linked to their tree, and so has no fault (`written_is_linked`). Stands on
-- DirectoryHasItsText, Laid, LaidRecords, Placed and the laws of `dicomdir` and `part10`.
use Rattle.element.specs.Header.{item_tag}
use Rattle.std.proofs.Common.{◌≡◌, ℕ, suc, ◌+◌, ◌%◌, ◌^◌, ◌<◌, ◌≤◌, true, false, List, ◌∷◌, ◌++◌, length, Some, None, refl, sym, ap, ◌∙◌, append_assoc, arith, nat_eq}
use Rattle.std.proofs.lemmas.Bool.Decides.{nat_tests}
use Rattle.std.proofs.lemmas.List.{append-nil}
use Rattle.std.specs.List.{AllByRecursion}
use Rattle.element.specs.Uid.{is_uid}
use Rattle.element.specs.Vr.{is_short}
use Rattle.part10.specs.File.{meta_group, identity_elements, implementation_elements, title_element}
use Rattle.part10.specs.MetaText.{SpellsMeta, meta_values_of}
use Rattle.part10.proofs.Public.{head_is_read}
use Rattle.sequence.specs.Shape.{undefined_length, is_undefined}
use Rattle.sequence.specs.Tree.{Elements, Items, no_items}
use Rattle.dicomdir_writing.specs.Built.{directory_meta, directory_header, directory_file, file_is_too_large}
use Rattle.dicomdir.specs.Directory.{Record, size_of, end_size, records_at, first_offset, last_offset, records_of}
use Rattle.dicomdir_writing.specs.Keys.{IsRow}
use Rattle.dicomdir_writing.specs.Record.{spelled, spelled_items, with_offsets, root_elements}
use Rattle.dicomdir.specs.Linked.{Linked, LinkedElements, IsAllReached, carried_forest, offsets_of}
use Rattle.dicomdir_writing.specs.Positions.{greatest_size, record_size, root_size, forest_size, with_positions, first_record_offset, last_record_offset, record_items, elements_with_offsets}
use Rattle.dicomdir_writing.specs.Row.{Row}
use Rattle.dicomdir.specs.Forest.{Forest, no_nodes, node}
use Rattle.dicomdir_writing.specs.TreeOf.{TreeOf}
use Rattle.dicomdir_writing.specs.Laws.{IsDirectoryOf, WrittenIsLinked}
use Rattle.dicomdir_writing.proofs.DirectoryHasItsText.{directory_text, root_size_is, items_size, offsets_size}
use Rattle.dicomdir_writing.proofs.Laid.{is_laid, are_laid, is_item, laid_elements, padded_short}
use Rattle.dicomdir_writing.proofs.LaidRecords.{number_back}
use Rattle.dicomdir.proofs.Public.{linked_has_no_fault}
use Rattle.dicomdir_writing.proofs.Placed.{AreNodes, written, placed, nodes_are, first_same, last_same, first_small, last_small, linked, distinct, reached, good_records, tree_nodes}
use Rattle.std.proofs.lemmas.Grind.{common_steps}

-- an item's header of an even length is good
item_good : (n : ℕ) → n < undefined_length → n % 2 ≡ 0 → is_item (record { tag = item_tag; vr = None; length = n }) ≡ true
item_good n short even = grind (arith, common_steps)

items_laid : (offset : ℕ) (tree : Forest Elements) (level : ℕ) (others : Items) → AreNodes level tree → offset + forest_size tree < 2 ^ 32 → are_laid others ≡ true
    → are_laid (record_items (with_positions offset tree) others) ≡ true
items_laid offset no_nodes level others nodes small laid = laid
items_laid offset (node es below next) level others nodes small laid =
    let after = offset + record_size es in
    let beyond = after + forest_size below in
    let b = with_positions after below in
    let n = with_positions beyond next in
    let own = with_offsets (first_record_offset n) (first_record_offset b) es in
    let good = nodes.0.good (first_record_offset n) (first_record_offset b) in
    let same = offsets_size (first_record_offset n) (first_record_offset b) es in
    let short : length (spelled own) < undefined_length = omega (arith, small, same) in
    let size : nat_eq (length (spelled own)) (length (spelled own)) ≡ true = grind (arith, nat_tests) in
    grind (arith, common_steps, item_good (length (spelled own)) short good.even, items_laid after below (suc level) (record_items n others) nodes.1 (omega (arith, small)) (items_laid beyond next level others nodes.2 (omega (arith, small)) laid))

forest_even : (tree : Forest Elements) (level : ℕ) → AreNodes level tree → forest_size tree % 2 ≡ 0
forest_even no_nodes level nodes = refl
forest_even (node es below next) level nodes = grind (arith, common_steps, forest_even below (suc level) nodes.1, forest_even next level nodes.2)

records_are : (offset : ℕ) (tree : Forest Elements) (level : ℕ) (others : Items) → AreNodes level tree → offset + forest_size tree < 2 ^ 32
    → records_at offset (record_items (with_positions offset tree) others) ≡ written (with_positions offset tree) ++ records_at (offset + forest_size tree) others
records_are offset no_nodes level others nodes small = let e : offset ≡ offset + 0 = omega arith in ap (λ (p : ℕ). records_at p others) e
records_are offset (node es below next) level others nodes small =
    let after = offset + record_size es in
    let beyond = after + forest_size below in
    let b = with_positions after below in
    let n = with_positions beyond next in
    let own = with_offsets (first_record_offset n) (first_record_offset b) es in
    let good = nodes.0.good (first_record_offset n) (first_record_offset b) in
    let same = offsets_size (first_record_offset n) (first_record_offset b) es in
    let defined : is_undefined (length (spelled own)) ≡ false = let short : length (spelled own) < undefined_length = omega (arith, small, same) in grind (arith, nat_tests) in
    let no_end : end_size (length (spelled own)) ≡ 0 = rw defined refl in
    let size = good.size in
    let next_position : offset + 8 + size_of own + end_size (length (spelled own)) ≡ after = omega (arith, no_end, size, same) in
    let total : beyond + forest_size next ≡ offset + (record_size es + forest_size below + forest_size next) = omega arith in
    let head : Record = record { offset = offset; elements = own } in
    let rest : records_at after (record_items b (record_items n others)) ≡ (written b ++ written n) ++ records_at (offset + (record_size es + forest_size below + forest_size next)) others =
    records_are after below (suc level) (record_items n others) nodes.1 (omega (arith, small))
    ∙ ap (λ (rs : List Record). written b ++ rs) (records_are beyond next level others nodes.2 (omega (arith, small)) ∙ ap (λ (p : ℕ). written n ++ records_at p others) total)
    ∙ sym (append_assoc (written b) (written n) (records_at (offset + (record_size es + forest_size below + forest_size next)) others)) in
    ap (λ (p : ℕ). head ∷ records_at p (record_items b (record_items n others))) next_position ∙ ap (λ (rs : List Record). head ∷ rs) rest

-- the root

root_laid : (first last : ℕ) (is : Items) → length (spelled_items is) < undefined_length → length (spelled_items is) % 2 ≡ 0 → are_laid is ≡ true → is_laid 0 (root_elements first last is) ≡ true
unfolding is_short
root_laid first last is short even laid = grind (arith, common_steps)

same_records : (a b : ℕ) (is : Items) → a ≡ b → Some (records_at a is) ≡ Some (records_at b is)
same_records a b is e = ap (λ (p : ℕ). Some (records_at p is)) e

root_records : (start first last : ℕ) (is : Items) → records_of start (root_elements first last is) ≡ Some (records_at (start + root_size) is)
unfolding is_short
root_records start first last is = same_records (start + 8 + 0 + 8 + 4 + 8 + 4 + 8 + 2 + 12) (start + root_size) is (omega arith)

root_first : (start first last : ℕ) (is : Items) → first < 2 ^ 32 → first_offset start (root_elements first last is) ≡ Some first
root_first start first last is small = number_back first small

root_last : (start first last : ℕ) (is : Items) → last < 2 ^ 32 → last_offset start (root_elements first last is) ≡ Some last
root_last start first last is small = number_back last small

-- the file header

group_short : (uid : List ℕ) → is_uid uid ≡ true → length (meta_group (directory_meta uid)) ≤ 360
unfolding identity_elements implementation_elements title_element is_short
group_short uid e = grind (arith, common_steps, padded_short 0 uid)

pub header_read : (uid : List ℕ) → is_uid uid ≡ true → SpellsMeta (meta_values_of (directory_meta uid)) (directory_header uid)
unfolding directory_header
header_read uid e = head_is_read (directory_meta uid) refl e refl (group_short uid e)

total_small : (uid : List ℕ) (rows : List Row) → file_is_too_large greatest_size uid rows ≡ false → length (directory_header uid) + root_size + forest_size (TreeOf rows) < 2 ^ 32
total_small uid rows fits = grind (arith, nat_tests)

module _ (uid : List ℕ) (rows : List Row) (is_one : is_uid uid ≡ true) (all : AllByRecursion IsRow rows) (fits : file_is_too_large greatest_size uid rows ≡ false) where
  abbrev start : ℕ
  start = length (directory_header uid)

  abbrev forest : Forest Record
  forest = with_positions (start + root_size) (TreeOf rows)

  abbrev elements : Elements
  elements = elements_with_offsets forest

  nodes : AreNodes 1 (TreeOf rows)
  nodes = tree_nodes rows all

  small : start + root_size + forest_size (TreeOf rows) < 2 ^ 32
  small = total_small uid rows fits

  laid : is_laid 0 elements ≡ true
  laid =
      let size = items_size (start + root_size) (TreeOf rows) no_items in
      let even = forest_even (TreeOf rows) 1 nodes in
      let total = small in
      let root = root_size_is in
      root_laid (first_record_offset forest) (last_record_offset forest) (record_items forest no_items) (omega (arith, size, total, root)) (omega (arith, size, even))
      (items_laid (start + root_size) (TreeOf rows) 1 no_items nodes small refl)

  linked_elements : LinkedElements start elements (carried_forest (TreeOf rows))
  linked_elements = record {
    records = written forest;
    placed = placed forest;
    has_records =
        root_records start (first_record_offset forest) (last_record_offset forest) (record_items forest no_items)
        ∙ ap (λ (rs : List Record). Some rs) (records_are (start + root_size) (TreeOf rows) 1 no_items nodes small ∙ append-nil (written forest));
    good = good_records (start + root_size) (TreeOf rows) 1 nodes;
    tree_is = nodes_are (start + root_size) (TreeOf rows);
    linked = linked (start + root_size) (TreeOf rows) 1 (written forest) nodes small (λ p es h. h);
    distinct = distinct (start + root_size) (TreeOf rows);
    names_first =
        root_first start (first_record_offset forest) (last_record_offset forest) (record_items forest no_items) (first_small (start + root_size) (TreeOf rows) small)
        ∙ ap (λ (n : ℕ). Some n) (sym (first_same forest));
    names_last =
        root_last start (first_record_offset forest) (last_record_offset forest) (record_items forest no_items) (last_small 0 (start + root_size) (TreeOf rows) (omega arith) small)
        ∙ ap (λ (n : ℕ). Some n) (sym (last_same 0 forest));
  }

  all_reached : IsAllReached linked_elements
  unfolding linked_elements
  all_reached = reached forest (offsets_of (placed forest)) (λ p h. h)

  linked_file : Linked (directory_file (record { uid = uid; rows = rows })) (carried_forest (TreeOf rows))
  linked_file = record {
    start = start;
    elements = elements;
    is_file = record {
      front = directory_header uid;
      back = spelled elements;
      explicit = record { said = meta_values_of (directory_meta uid); whole = directory_text (directory_header uid) rows; header = header_read uid is_one; syntax = refl };
      data_set = laid_elements 0 elements laid;
      begins = refl;
    };
    linked = linked_elements;
  }

  is_directory : IsDirectoryOf (directory_file (record { uid = uid; rows = rows })) rows
  unfolding linked_file
  is_directory = record {
    linked = linked_file;
    all_reached = all_reached;
    no_fault = linked_has_no_fault start elements (carried_forest (TreeOf rows)) linked_elements all_reached;
  }

pub written_is_linked : WrittenIsLinked
written_is_linked uid rows is_one all fits = is_directory uid rows is_one all fits
