-- The tree of a directory (PS3.3 section F.4): patients, their studies, their series, their images.
use Rattle.std.specs.Prelude.{ℕ, List, [], ◌∷◌, ◌++◌, map, filter, Option, Some, None, if◌then◌else◌, Vec}
use Rattle.std.specs.List.{list_any, find}
use Rattle.std.specs.Str.{bytes_eq}
use Rattle.sequence.specs.Tree.{Elements}
use Rattle.dicomdir_writing.specs.declared.record_table.RecordRule.{RecordRule}
use Rattle.dicomdir.specs.declared.level.Level.{Level}
use Rattle.dicomdir.specs.declared.level.Level.TheVariants.{Patient, Study, Series, Image}
use Rattle.dicomdir_writing.specs.Row.{Row, key_in, without_duplicates}
use Rattle.dicomdir.specs.Directory.{key}
use Rattle.dicomdir.specs.Forest.{Forest, no_nodes, node}
use Rattle.dicomdir_writing.specs.RecordTable.{groups, key_table}
use Rattle.dicomdir_writing.specs.Record.{record_for}
use Rattle.std.specs.Borrow.{Bor}

-- these keys, and this one after them if it is new
abbrev pub with_key : List ℕ → List (List ℕ) → List (List ℕ)
with_key k keys = if list_any (bytes_eq k) keys then keys else (keys ++ k ∷ [])

-- these keys, followed by the new ones of a list, in the order in which they are first seen
abbrev pub seen_after : List (List ℕ) → List (List ℕ) → List (List ℕ)
seen_after keys [] = keys
seen_after keys (k ∷ ks) = seen_after (with_key k keys) ks

-- the rows with this value of the key
abbrev pub rows_with : (Row → List ℕ) → List ℕ → List Row → List Row
rows_with key_of k rows = filter (λ row. bytes_eq k (key_of row)) rows

-- the node of a group of rows, with the elements of its first row, before its next siblings
abbrev pub group_node : (Row → Elements) → (List Row → Forest Elements) → List Row → Forest Elements → Forest Elements
group_node record_for below [] next = next
group_node record_for below (row ∷ rows) next = node (record_for row) (below (row ∷ rows)) next

-- a node for each of these keys
abbrev pub group_nodes : (Row → List ℕ) → (Row → Elements) → (List Row → Forest Elements) → List Row → List (List ℕ) → Forest Elements
group_nodes key_of record_for below rows [] = no_nodes
group_nodes key_of record_for below rows (k ∷ keys) =
    group_node record_for below (rows_with key_of k rows) (group_nodes key_of record_for below rows keys)

-- a node for each group of rows with the same key, in the order in which the keys are first seen
abbrev pub grouped : (Row → List ℕ) → (Row → Elements) → (List Row → Forest Elements) → List Row → Forest Elements
grouped key_of record_for below rows = group_nodes key_of record_for below rows (seen_after [] (map key_of rows))

-- the value of this key in a row, or its SOP Instance UID if there is no key
abbrev pub key_or_instance : Row → Option RecordRule → List ℕ
key_or_instance row None = row.instance
key_or_instance row (Some rule) = key_in row.values rule.tag

-- the value by which rows are grouped at a level: Patient ID, Study Instance UID, Series Instance UID, SOP Instance
-- UID
abbrev pub key_for : Level → Row → List ℕ
key_for level row = key (key_or_instance row (find (groups level) key_table))

-- a node for each of these rows
abbrev pub images : List Row → Forest Elements
images [] = no_nodes
images (row ∷ rows) = node (record_for Image row) no_nodes (images rows)

-- the nodes of the series of these rows, each with its images below it
abbrev pub series : List Row → Forest Elements
series rows = grouped (key_for Series) (record_for Series) images rows

-- the nodes of the studies of these rows, each with its series below it
abbrev pub studies : List Row → Forest Elements
studies rows = grouped (key_for Study) (record_for Study) series rows

-- the nodes of the patients of these rows, each with its studies below it
abbrev pub patients : List Row → Forest Elements
patients rows = grouped (key_for Patient) (record_for Patient) studies rows

-- the tree of these rows; a node has the elements of its record, without the two offsets (law
-- `dicomdir_writing::rows_are_grouped`)
unfoldable pub TreeOf : List Row → Forest Elements
TreeOf rows = patients (without_duplicates [] rows)

-- ---- the levels of the tree that is built of rows (PS3.3 section F.4)

-- the nodes at a level and below it
abbrev pub forest_for : Level → List Row → Forest Elements
forest_for Patient rows = patients rows
forest_for Study rows = studies rows
forest_for Series rows = series rows
forest_for Image rows = images rows

-- the number of levels below this one
abbrev pub depth : Level → ℕ
depth Patient = 3
depth Study = 2
depth Series = 1
depth Image = 0

-- ---- the groups of rows that have the same key, in first-seen order (PS3.3 section F.4)

abbrev pub groups_of : (Row → List ℕ) → List Row → List (List Row)
groups_of key_of rows = map (λ k. rows_with key_of k rows) (seen_after [] (map key_of rows))

-- the rows that these references lead to
abbrev pub rows_at : List (Bor Row) → List Row
rows_at rows = map (λ row. row.now) rows

abbrev pub row_groups : {A : Type 0} → List (Vec (Bor Row) A) → List (List Row)
row_groups groups = map (λ group. rows_at group.items) groups
