-- The directory that this product builds from rows: the position of each record and its offsets (PS3.3 sections F.3
-- and F.4). Records are depth first, without gaps, which is this product's own profile.
use Rattle.std.specs.Prelude.{ℕ, suc, ◌+◌, ◌-◌, ◌^◌, Bool, List, [], ◌∷◌, ◌++◌, length, nat_lt, if◌then◌else◌}
use Rattle.std.specs.List.{list_any}
use Rattle.std.specs.Str.{bytes_eq}
use Rattle.sequence.specs.Tree.{Elements, Items, no_items}
use Rattle.dicomdir_writing.specs.Row.{Row}
use Rattle.dicomdir.specs.Forest.{Forest, no_nodes, node}
use Rattle.dicomdir_writing.specs.TreeOf.{TreeOf}
use Rattle.dicomdir.specs.Directory.{Record}
use Rattle.dicomdir_writing.specs.Record.{spelled, with_offsets, record_item, root_elements}

-- the size of a record in bytes, with the header of its item and its two offsets
abbrev pub record_size : Elements → ℕ
record_size es = 8 + length (spelled (with_offsets 0 0 es))

-- the size of the elements before the first record, in bytes
abbrev pub root_size : ℕ
root_size = length (spelled (root_elements 0 0 no_items))

-- the size of the records of a tree, in bytes
abbrev pub forest_size : Forest Elements → ℕ
forest_size no_nodes = 0
forest_size (node es below next) = record_size es + forest_size below + forest_size next

-- the tree with the positions of its records, the first at `offset`: after each record those below it, then its next
-- sibling
abbrev pub with_positions : ℕ → Forest Elements → Forest Record
with_positions offset no_nodes = no_nodes
with_positions offset (node es below next) =
    node (record { offset = offset; elements = es })
    (with_positions (offset + record_size es) below)
    (with_positions (offset + record_size es + forest_size below) next)

-- the records of a tree, depth first
abbrev pub flattened : Forest Record → List Record
flattened no_nodes = []
flattened (node r below next) = r ∷ (flattened below ++ flattened next)

abbrev pub offset_each : List Record → List ℕ
offset_each [] = []
offset_each (r ∷ records) = r.offset ∷ offset_each records

-- the position of the first of these sibling records, 0 if there is none
abbrev pub first_record_offset : Forest Record → ℕ
first_record_offset no_nodes = 0
first_record_offset (node r below next) = r.offset

-- the position of the last of these sibling records, or `offset` if there is none
abbrev pub last_record_offset_after : ℕ → Forest Record → ℕ
last_record_offset_after offset no_nodes = offset
last_record_offset_after offset (node r below next) = last_record_offset_after r.offset next

-- the position of the last of these sibling records, 0 if there is none
abbrev pub last_record_offset : Forest Record → ℕ
last_record_offset records = last_record_offset_after 0 records

-- the items of the records, depth first, before the other items; each record has the offsets of its next sibling and
-- of the first record below it
abbrev pub record_items : Forest Record → Items → Items
record_items no_nodes others = others
record_items (node r below next) others =
    record_item (first_record_offset next) (first_record_offset below) r.elements (record_items below (record_items next others))

-- the elements of the directory of these records
abbrev pub elements_with_offsets : Forest Record → Elements
elements_with_offsets records = root_elements (first_record_offset records) (last_record_offset records) (record_items records no_items)

-- the elements of the directory of a tree, the first at position `start`
unfoldable pub directory_elements : ℕ → Forest Elements → Elements
directory_elements start tree = elements_with_offsets (with_positions (start + root_size) tree)

-- the bytes of the directory of rows after this file header
abbrev pub directory_of : List ℕ → List Row → List ℕ
directory_of front rows = front ++ spelled (directory_elements (length front) (TreeOf rows))

-- the size of the directory of rows, in bytes (law `dicomdir_writing::sizes_are_true`)
abbrev pub directory_size : ℕ → List Row → ℕ
directory_size start rows = start + root_size + forest_size (TreeOf rows)

-- the greatest size of a directory, whose offsets have four bytes
abbrev pub greatest_size : ℕ
greatest_size = 2 ^ 32 - 1

-- the directory of these rows has more than `most` bytes, and is not built
abbrev pub is_too_large : ℕ → ℕ → List Row → Bool
is_too_large most start rows = nat_lt most (directory_size start rows)

-- the indices of the rows that are left out as duplicates, where the first of these rows has index `at`
abbrev pub duplicates_after : ℕ → List (List ℕ) → List Row → List ℕ
duplicates_after at before [] = []
duplicates_after at before (row ∷ rows) =
    if list_any (bytes_eq row.instance) before then at ∷ duplicates_after (suc at) before rows
    else duplicates_after (suc at) (before ++ row.instance ∷ []) rows

abbrev pub duplicates_of : List Row → List ℕ
duplicates_of rows = duplicates_after 0 [] rows
