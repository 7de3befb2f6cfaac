-- The file that is built and written has the text of the definitions (`directory_text`, `file_text`) and their size
-- (`sizes_are_true`), or is too large (`file_too_large`, `records_too_large`). Stands on TreeIsLaidDown.
use Rattle.std.proofs.lemmas.Bool.Decides.{nat_tests}
use Rattle.std.proofs.Common.{◌≡◌, sym, ℕ, ◌+◌, [], ◌++◌, length, codes, refl, arith, ◌<◌, ◌≤◌, true, false, List, ap, ◌∙◌, ◌-◌, Bool, take, get_or, Option, take-add, ltb-true, nat_lt}
use Rattle.std.proofs.lemmas.List.{length-append, append-nil, take_all, take_at, drop_at, take-append-le}
use Rattle.element.specs.Numbers.{le}
use Rattle.element.specs.Vr.{is_short}
use Rattle.element.specs.Header.{header_bytes}
use Rattle.sequence.specs.Tree.{Elements, no_elements, value, sequence, Items, no_items}
use Rattle.dicomdir.specs.Forest.{Forest, no_nodes, node, count_of}
use Rattle.dicomdir_writing.specs.TreeOf.{TreeOf, forest_for}
use Rattle.dicomdir_writing.specs.Record.{tag, field, spelled, spelled_items, with_offsets, root_elements}
use Rattle.dicomdir_writing.specs.Positions.{record_size, root_size, forest_size, with_positions, flattened, first_record_offset, record_items, directory_elements, last_record_offset, elements_with_offsets, directory_of}
use Rattle.dicomdir_writing.specs.Examples.{SizesAreTrue}
use Rattle.std.proofs.lemmas.Grind.{common_steps}
use Rattle.dicomdir_writing.specs.declared.build_plan.LaidRecord.{LaidRecord}
use Rattle.dicomdir.specs.declared.level.Level.TheVariants.{Patient}
use Rattle.dicomdir_writing.specs.Built.{directory_header, directory_file, file_is_too_large, AppendsFront, IsNotBuilt, too_large, no_memory, FailsAsTooLarge}
use Rattle.dicomdir.specs.declared.fault.DirFault.{DirFault}
use Rattle.dicomdir.specs.Directory.{Record}
use Rattle.dicomdir_writing.specs.declared.build_plan.Stop.{Stop}
use Rattle.dicomdir_writing.specs.declared.build_plan.Stop.TheVariants.{TooLarge, OutOfMemory}
use Rattle.dicomdir_writing.specs.machine.Building.{StopsFor, stop_fault, offset_from_end, laid_text, forest_text, Lays, entry_text, IsBuilt, root_text}
use Rattle.dicomdir_writing.specs.Row.{Row, without_duplicates}
use Rattle.std.proofs.lemmas.Bool.{ltb-false}
use Rattle.std.proofs.KnownBytes.{Appends-trans}
use Rattle.std.specs.Io.KnownBytes.{Appends}
use Rattle.dicomdir_writing.proofs.TreeIsLaidDown.{laid_push}

abbrev offset_field : ℕ → Elements → Elements
offset_field l es = field (tag 0x0004 0x1420) (codes "UL") (le l 4) es

pub offsets_size : (n l : ℕ) (es : Elements) → length (spelled (with_offsets n l es)) ≡ length (spelled (with_offsets 0 0 es))
unfolding is_short
offsets_size n l no_elements = refl
offsets_size n l (sequence h is es) = refl
offsets_size n l (value in_use flag es) = grind (arith, common_steps, length-append (header_bytes in_use) (flag ++ spelled (offset_field l es)), length-append flag (spelled (offset_field l es)), length-append (header_bytes in_use) (flag ++ spelled (offset_field 0 es)), length-append flag (spelled (offset_field 0 es)))

pub items_size : (offset : ℕ) (f : Forest Elements) (others : Items) → length (spelled_items (record_items (with_positions offset f) others)) ≡ forest_size f + length (spelled_items others)
items_size offset no_nodes others = omega arith
items_size offset (node es below next) others =
    let after = offset + record_size es in
    let lower = with_positions after below in
    let siblings = with_positions (after + forest_size below) next in
    let own = spelled (with_offsets (first_record_offset siblings) (first_record_offset lower) es) in
    grind (arith, common_steps, items_size (after + forest_size below) next others, items_size after below (record_items siblings others), length-append own (spelled_items (record_items lower (record_items siblings others))), offsets_size (first_record_offset siblings) (first_record_offset lower) es)

root_is : (first last : ℕ) (is : Items) → length (spelled (root_elements first last is)) ≡ root_size + length (spelled_items is)
unfolding is_short
root_is first last is = grind (arith, common_steps, length-append (spelled_items is) [])

count_is : (offset : ℕ) (f : Forest Elements) → length (flattened (with_positions offset f)) ≡ count_of f
count_is offset no_nodes = refl
count_is offset (node es below next) =
    let after = offset + record_size es in
    grind (arith, common_steps, count_is after below, count_is (after + forest_size below) next, length-append (flattened (with_positions after below)) (flattened (with_positions (after + forest_size below) next)))

elements_size : (start : ℕ) (tree : Forest Elements) → length (spelled (directory_elements start tree)) ≡ root_size + forest_size tree
unfolding directory_elements
elements_size start tree = grind (arith, common_steps, items_size (start + root_size) tree no_items)

pub sizes_are_true : SizesAreTrue
sizes_are_true front rows = grind (arith, common_steps, length-append front (spelled (directory_elements (length front) (TreeOf rows))), elements_size (length front) (TreeOf rows), count_is (length front + root_size) (TreeOf rows))

-- ---- the file that is built has the size and the text of the definitions

pub root_size_is : root_size ≡ 54
unfolding is_short
root_size_is = refl

tree_is : (rows : List Row) → forest_for Patient (without_duplicates [] rows) ≡ TreeOf rows
unfolding TreeOf
tree_is rows = refl

same_tree : (kept rows : List Row) → kept ≡ without_duplicates [] rows → forest_for Patient kept ≡ TreeOf rows
same_tree kept rows e = ap (forest_for Patient) e ∙ tree_is rows

-- records of more bytes are too large already without what stands before them
pub records_too_large : (most : ℕ) (uid : List ℕ) (rows kept : List Row) (old : ℕ) → kept ≡ without_duplicates [] rows → old ≡ 0 → most < old + forest_size (forest_for Patient kept)
    → file_is_too_large most uid rows ≡ true
records_too_large most uid rows kept old e none large = grind (arith, common_steps, same_tree kept rows e)

-- why no records are laid down is why no file is built
pub stopped : (most : ℕ) (uid : List ℕ) (rows kept : List Row) (old : ℕ) (stop : Stop) (f : DirFault) → kept ≡ without_duplicates [] rows → old ≡ 0
    → StopsFor most (old + forest_size (forest_for Patient kept)) stop → f ≡ stop_fault stop → IsNotBuilt most uid rows f
stopped most uid rows kept old TooLarge f e none large is = too_large (records_too_large most uid rows kept old e none large) is
stopped most uid rows kept old OutOfMemory f e none large is = no_memory is

-- and that is, where memory suffices, that it is too large
pub stop_is_large : (stop : Stop) (f : DirFault) → f ≡ stop_fault stop → FailsAsTooLarge f
stop_is_large TooLarge f e other = e
stop_is_large OutOfMemory f e other = absurd (other e)

-- what was laid down, and what stands before it
pub record Counts (uid : List ℕ) (rows : List Row) (header records : ℕ) : Type 0 where
  pub header_is : header ≡ length (directory_header uid)
  pub records_are : records ≡ forest_size (TreeOf rows)

total_is : (uid : List ℕ) (rows : List Row) (header records : ℕ) → Counts uid rows header records → length (directory_header uid) + root_size + forest_size (TreeOf rows) ≡ records + (header + 54)
total_is uid rows header records s = let root = root_size_is in let a = s.header_is in let b = s.records_are in omega (arith, a, b, root)

pub file_too_large : (most : ℕ) (uid : List ℕ) (rows : List Row) (header records : ℕ) → Counts uid rows header records → most < records + (header + 54) → file_is_too_large most uid rows ≡ true
file_too_large most uid rows header records s large = grind (arith, common_steps, total_is uid rows header records s)

pub file_fits : (most : ℕ) (uid : List ℕ) (rows : List Row) (header records : ℕ) → Counts uid rows header records → records + (header + 54) ≤ most → file_is_too_large most uid rows ≡ false
file_fits most uid rows header records s small = grind (arith, common_steps, total_is uid rows header records s)

-- what is no more than that is no more than the greatest size
pub fits_more : (most more : ℕ) (uid : List ℕ) (rows : List Row) → most ≤ more → file_is_too_large most uid rows ≡ false → file_is_too_large more uid rows ≡ false
fits_more most more uid rows le fits = grind (arith, nat_tests)

-- what fits is not too large
pub fits_not : (b : Bool) → b ≡ false → b ≡ true → ⊥
fits_not b fits large = absurd (let e : true ≡ false = sym large ∙ fits in cc)

pub at_least : (n m : ℕ) → (n < m → ⊥) → m ≤ n
at_least n m h = omega (arith, h)

pub size_with : (uid : List ℕ) (header records size : ℕ) → header ≡ length (directory_header uid) → size ≡ records + (header + 54) → size ≡ length (directory_header uid) + root_size + records
size_with uid header records size e s = let root = root_size_is in omega (arith, e, s, root)

pub lays_tree : {A : Type 0} (rows kept : List Row) (e0 e1 : List (LaidRecord A)) (s0 s1 first last : ℕ) → kept ≡ without_duplicates [] rows → e0 ≡ [] → s0 ≡ 0
    → Lays (forest_for Patient kept) e0 e1 s0 s1 first last → Lays (TreeOf rows) [] e1 0 s1 first last
lays_tree rows kept e0 e1 s0 s1 first last e none zero_is lays = rw (← same_tree kept rows e, ← none, ← zero_is) lays

-- the root's elements, and the text of the items
root_elements_are : (first last : ℕ) (is : Items) → spelled (root_elements first last is) ≡ root_text first last (length (spelled_items is)) ++ spelled_items is
unfolding root_text is_short
root_elements_are first last is = rw (append-nil (spelled_items is)) refl

items_are : (f : Forest Record) (others : Items) → spelled_items (record_items f others) ≡ forest_text f ++ spelled_items others
items_are no_nodes others = refl
items_are (node r below next) others = grind (arith, common_steps, items_are next others, items_are below (record_items next others))

placed_text : (tree : Forest Elements) (start : ℕ)
    → spelled (elements_with_offsets (with_positions start tree))
    ≡ root_text (first_record_offset (with_positions start tree)) (last_record_offset (with_positions start tree)) (forest_size tree) ++ forest_text (with_positions start tree)
placed_text tree start =
    let placed = with_positions start tree in
    grind (arith, common_steps, items_are placed no_items, append-nil (forest_text placed), items_size start tree no_items, root_elements_are (first_record_offset placed) (last_record_offset placed) (record_items placed no_items))

pub directory_text : (front : List ℕ) (rows : List Row)
    → directory_of front rows ≡ front ++ spelled (elements_with_offsets (with_positions (length front + root_size) (TreeOf rows)))
unfolding directory_elements
directory_text front rows = refl

-- the file is its header, its root, and the records that are laid down
pub file_text : {A : Type 0} {uid : List ℕ} {rows : List Row} {entries : List (LaidRecord A)} {records first last size : ℕ} {duplicates top root : List ℕ} → IsBuilt uid rows entries records first last size duplicates
    → top ≡ directory_header uid → root ≡ root_text (offset_from_end size first) (offset_from_end size last) records
    → directory_file (record { uid = uid; rows = rows }) ≡ top ++ (root ++ laid_text size entries)
file_text {uid = uid} {rows = rows} {entries = entries} {records = records} {first = first} {last = last} {size = size} b top_is root_is =
    let header = directory_header uid in
    let start = length header + root_size in
    let placed = with_positions start (TreeOf rows) in
    grind (arith, common_steps, append-nil (forest_text placed), directory_text header rows, placed_text (TreeOf rows) start)

-- ---- what a writer has after several texts, or after a beginning of the last one

take_past : (xs ys : List ℕ) (n : ℕ) → take (length xs + n) (xs ++ ys) ≡ xs ++ take n ys
take_past xs ys n = rw (take-add, take_at xs ys (length xs) refl, drop_at xs ys (length xs) refl) refl

-- the first text, and a beginning of the second
pub front_after : (a b c : Option (List ℕ)) (xs ys : List ℕ) → Appends a b xs → AppendsFront b c ys → AppendsFront a c (xs ++ ys)
front_after a b c xs ys p q = (length xs + q.0, rw (take_past xs ys q.0) (Appends-trans a b c xs (take q.0 ys) p q.1))

-- a beginning of the first text is one of both
pub front_more : (a b : Option (List ℕ)) (xs ys : List ℕ) → AppendsFront a b xs → AppendsFront a b (xs ++ ys)
front_more a b xs ys p = by (nat_lt p.0 (length xs)) refl
  where
    by : (t : Bool) → nat_lt p.0 (length xs) ≡ t → AppendsFront a b (xs ++ ys)
    by true e =
        let le : p.0 ≤ length xs = let lt = ltb-true p.0 (length xs) e in omega (arith, lt) in
        (p.0, rw (take-append-le p.0 xs ys le) p.1)
    by false e = (length xs, rw (take_at xs ys (length xs) refl, ← take_all p.0 xs (ltb-false p.0 (length xs) e)) p.1)

pub last_entry : {A : Type 0} (total : ℕ) (entries : List (LaidRecord A)) (at : ℕ) (e : LaidRecord A) → 0 < at → at ≤ length entries → e ≡ get_or entries (at - 1) e
    → laid_text total (take at entries) ≡ entry_text total e ++ laid_text total (take (at - 1) entries)
last_entry total entries at e some le is = grind (arith, common_steps, laid_push total (take (at - 1) entries) e)
