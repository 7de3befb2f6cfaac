-- The records of a forest with offsets stand there (`before_none`, `after_none`), are distinct (`distinct`), and linked
-- (`linked`); those of rows are nodes (`tree_nodes`). Stands on LaidRecords.
use Rattle.std.proofs.Common.{◌≡◌, ℕ, suc, ◌+◌, ◌^◌, ◌<◌, ◌≤◌, Bool, true, false, not, ◌||◌, List, [], ◌∷◌, ◌++◌, map, Option, Some, None, refl, sym, ap, ◌∙◌, arith, nat_eq, nat_lt, ltb-true, if◌then◌else◌, filter, eq-eqb}
use Rattle.std.specs.List.{list_any, list_all, AllByRecursion}
use Rattle.std.proofs.lemmas.Bool.{not-true, and_from, and_parts, ltb-false, or_right, or_left, or_from}
use Rattle.std.proofs.lemmas.Bool.Decides.{nat_tests}
use Rattle.std.proofs.lemmas.List.Folds.{list_any-append, list_all-append}
use Rattle.sequence.specs.Tree.{Elements}
use Rattle.dicomdir.specs.Directory.{Record, carried_node}
use Rattle.dicomdir_writing.specs.Record.{with_offsets, record_for}
use Rattle.dicomdir.specs.Linked.{PlacedNode, carried_forest, nodes_of, offsets_of, first_position, last_position_behind, is_distinct, record_at, are_records, AreLinked, is_one_of}
use Rattle.dicomdir_writing.specs.Positions.{record_size, forest_size, with_positions, first_record_offset, last_record_offset_after}
use Rattle.dicomdir.specs.Forest.{Forest, no_nodes, node}
use Rattle.dicomdir_writing.specs.TreeOf.{key_for, rows_with, group_node, group_nodes, images, series, studies, TreeOf}
use Rattle.dicomdir_writing.proofs.LaidRecords.{IsNode, node_level, record_node}
use Rattle.std.proofs.lemmas.Grind.{common_steps}
use Rattle.std.specs.Str.{bytes_eq}
use Rattle.dicomdir_writing.specs.Keys.{IsRow}
use Rattle.dicomdir_writing.specs.Row.{Row, without_duplicates}
use Rattle.dicomdir.specs.declared.level.Level.{Level}
use Rattle.dicomdir.specs.declared.level.Level.TheVariants.{Patient, Study, Series, Image}

-- each record of the tree is one of its level
abbrev pub AreNodes : ℕ → Forest Elements → Type 0
AreNodes level no_nodes = Unit {0}
AreNodes level (node es below next) = IsNode level es × AreNodes (suc level) below × AreNodes level next

-- the records with their offsets, depth first
abbrev pub written : Forest Record → List Record
written no_nodes = []
written (node r below next) =
    record { offset = r.offset; elements = with_offsets (first_record_offset next) (first_record_offset below) r.elements }
    ∷ (written below ++ written next)

abbrev pub placed : Forest Record → Forest PlacedNode
placed no_nodes = no_nodes
placed (node r below next) = node (record { offset = r.offset; carries = carried_node r.elements }) (placed below) (placed next)

pub nodes_are : (offset : ℕ) (tree : Forest Elements) → nodes_of (placed (with_positions offset tree)) ≡ carried_forest tree
nodes_are offset no_nodes = refl
nodes_are offset (node es below next) = grind (arith, common_steps, nodes_are (offset + record_size es) below, nodes_are (offset + record_size es + forest_size below) next)

pub first_same : (f : Forest Record) → first_position (placed f) ≡ first_record_offset f
first_same v1 = grind (arith, nat_tests)

pub last_same : (offset : ℕ) (f : Forest Record) → last_position_behind offset (placed f) ≡ last_record_offset_after offset f
last_same offset no_nodes = refl
last_same offset (node r below next) = last_same r.offset next

some_size : (es : Elements) → 0 < record_size es
some_size es = omega arith

pub first_small : (offset : ℕ) (tree : Forest Elements) → offset + forest_size tree < 2 ^ 32 → first_record_offset (with_positions offset tree) < 2 ^ 32
first_small offset no_nodes lt = omega arith
first_small offset (node es below next) lt = omega (arith, lt)

pub last_small : (last offset : ℕ) (tree : Forest Elements) → last < 2 ^ 32 → offset + forest_size tree < 2 ^ 32 → last_record_offset_after last (with_positions offset tree) < 2 ^ 32
last_small last offset no_nodes small lt = small
last_small last offset (node es below next) small lt = grind (arith, common_steps, last_small offset (offset + record_size es + forest_size below) next (omega (arith, lt)) (omega (arith, lt)))

-- what stands at an offset

at_second : (p : ℕ) (xs ys : List Record) → record_at p xs ≡ None → record_at p (xs ++ ys) ≡ record_at p ys
at_second p [] ys e = refl
at_second p (x ∷ xs) ys e = grind (arith, nat_tests, at_second p xs ys)

at_first : (p : ℕ) (xs ys : List Record) (es : Elements) → record_at p xs ≡ Some es → record_at p (xs ++ ys) ≡ Some es
at_first p [] ys es e = absurd cc
at_first p (x ∷ xs) ys es e = grind (arith, nat_tests, at_first p xs ys es)

elsewhere : (p q : ℕ) (es : Elements) (rest : Option Elements) → nat_eq q p ≡ false → (if nat_eq q p then Some es else rest) ≡ rest
elsewhere p q es rest e = ap (λ (b : Bool). if b then Some es else rest) e

pub before_none : (p offset : ℕ) (tree : Forest Elements) → p < offset → record_at p (written (with_positions offset tree)) ≡ None
before_none p offset no_nodes lt = refl
before_none p offset (node es below next) lt =
    let after = offset + record_size es in
    grind (arith, common_steps, some_size es, before_none p (after + forest_size below) next (omega (arith, lt)), at_second p (written (with_positions after below)) (written (with_positions (after + forest_size below) next)) (before_none p after below (omega (arith, lt))), before_none p after below (omega (arith, lt)))

pub after_none : (p offset : ℕ) (tree : Forest Elements) → offset + forest_size tree ≤ p → record_at p (written (with_positions offset tree)) ≡ None
after_none p offset no_nodes le = refl
after_none p offset (node es below next) le =
    let after = offset + record_size es in
    grind (arith, common_steps, some_size es, after_none p (after + forest_size below) next (omega (arith, le)), at_second p (written (with_positions after below)) (written (with_positions (after + forest_size below) next)) (after_none p after below (omega (arith, le))), after_none p after below (omega (arith, le)))

-- a record that stands there is not before the first offset
not_before : (p offset : ℕ) (tree : Forest Elements) (es : Elements) → record_at p (written (with_positions offset tree)) ≡ Some es → offset ≤ p
not_before p offset tree es e = grind (arith, common_steps, before_none, ltb-false, ltb-true)

self : (p : ℕ) (es : Elements) (rest : Option Elements) → (if nat_eq p p then Some es else rest) ≡ Some es
self p es rest = let e : nat_eq p p ≡ true = grind (arith, nat_tests) in ap (λ (b : Bool). if b then Some es else rest) e

pub linked : (offset : ℕ) (tree : Forest Elements) (level : ℕ) (records : List Record) → AreNodes level tree → offset + forest_size tree < 2 ^ 32
    → ((p : ℕ) (es : Elements) → record_at p (written (with_positions offset tree)) ≡ Some es → record_at p records ≡ Some es)
    → AreLinked records level (placed (with_positions offset tree))
linked offset no_nodes level records nodes small whole = tt
linked offset (node es below next) level records nodes small whole =
    let after = offset + record_size es in
    let beyond = after + forest_size below in
    let b = with_positions after below in
    let n = with_positions beyond next in
    let some = some_size es in
    let own = with_offsets (first_record_offset n) (first_record_offset b) es in
    let is = nodes.0 in
    let first_below = first_same b in
    let first_next = first_same n in
    let small_below : first_record_offset b < 2 ^ 32 = first_small after below (omega (arith, small)) in
    let small_next : first_record_offset n < 2 ^ 32 = first_small beyond next (omega (arith, small)) in (
      record {
        elements = own;
        stands = whole offset own (self offset own (record_at offset (written b ++ written n)));
        carries = is.carries (first_record_offset n) (first_record_offset b);
        fits_there = is.fit;
        names_lower = is.names_lower (first_record_offset n) (first_record_offset b) small_below ∙ ap (λ (x : ℕ). Some x) (sym first_below);
        names_next = is.names_next (first_record_offset n) (first_record_offset b) small_next ∙ ap (λ (x : ℕ). Some x) (sym first_next);
      },
      linked after below (suc level) records nodes.1 (omega (arith, small))
          (λ p e h.
          let le = not_before p after below e h in
          let apart : offset < p = omega (arith, le, some) in
          let other : nat_eq offset p ≡ false = grind (arith, nat_tests) in
          whole p e (elsewhere p offset own (record_at p (written b ++ written n)) other ∙ at_first p (written b) (written n) e h)),
      linked beyond next level records nodes.2 (omega (arith, small))
          (λ p e h.
          let le = not_before p beyond next e h in
          let apart : offset < p = omega (arith, le, some) in
          let other : nat_eq offset p ≡ false = grind (arith, nat_tests) in
          whole p e (elsewhere p offset own (record_at p (written b ++ written n)) other ∙ at_second p (written b) (written n) (after_none p after below le) ∙ h)),
    )

-- the offsets are distinct

offsets_are : (f : Forest Record) → offsets_of (placed f) ≡ map (λ r. r.offset) (written f)
offsets_are no_nodes = refl
offsets_are (node r below next) = grind (arith, common_steps, offsets_are below, offsets_are next)

none_of : (p : ℕ) (records : List Record) → record_at p records ≡ None → is_one_of p (map (λ r. r.offset) records) ≡ false
none_of p [] e = refl
none_of p (r ∷ records) e = grind (arith, nat_tests, none_of p records)

one_before : (p offset : ℕ) (tree : Forest Elements) → p < offset → is_one_of p (offsets_of (placed (with_positions offset tree))) ≡ false
one_before p offset tree lt = ap (is_one_of p) (offsets_are (with_positions offset tree)) ∙ none_of p (written (with_positions offset tree)) (before_none p offset tree lt)

one_after : (p offset : ℕ) (tree : Forest Elements) → offset + forest_size tree ≤ p → is_one_of p (offsets_of (placed (with_positions offset tree))) ≡ false
one_after p offset tree le = ap (is_one_of p) (offsets_are (with_positions offset tree)) ∙ none_of p (written (with_positions offset tree)) (after_none p offset tree le)

join_distinct : (xs ys : List ℕ) → is_distinct xs ≡ true → is_distinct ys ≡ true → ((p : ℕ) → is_one_of p xs ≡ true → is_one_of p ys ≡ false) → is_distinct (xs ++ ys) ≡ true
join_distinct [] ys d e apart = e
join_distinct (x ∷ xs) ys d e apart =
    let parts = and_parts (not (is_one_of x xs)) (is_distinct xs) d in
    let other : is_one_of x ys ≡ false = apart x (or_left (nat_eq x x) (is_one_of x xs) (eq-eqb x x refl)) in
    let none : is_one_of x (xs ++ ys) ≡ false = list_any-append (nat_eq x) xs ys ∙ or_from _ _ (not-true (is_one_of x xs) parts.0) other in
    and_from _ _ (ap not none) (join_distinct xs ys parts.1 e (λ p h. apart p (or_right (nat_eq p x) (is_one_of p xs) h)))

pub distinct : (offset : ℕ) (tree : Forest Elements) → is_distinct (offsets_of (placed (with_positions offset tree))) ≡ true
distinct offset no_nodes = refl
distinct offset (node es below next) =
    let after = offset + record_size es in
    let beyond = after + forest_size below in
    let some = some_size es in
    let bs = offsets_of (placed (with_positions after below)) in
    let ns = offsets_of (placed (with_positions beyond next)) in
    let none : is_one_of offset (bs ++ ns) ≡ false =
    list_any-append (nat_eq offset) bs ns ∙ or_from _ _ (one_before offset after below (omega (arith, some))) (one_before offset beyond next (omega (arith, some))) in
    and_from _ _ (ap not none) (join_distinct bs ns (distinct after below) (distinct beyond next) (λ p h. by p h (nat_lt p beyond) refl))
  where
    by : (p : ℕ) → is_one_of p (offsets_of (placed (with_positions (offset + record_size es) below))) ≡ true → (b : Bool) → nat_lt p (offset + record_size es + forest_size below) ≡ b
        → is_one_of p (offsets_of (placed (with_positions (offset + record_size es + forest_size below) next))) ≡ false
    by p h true lt = one_before p (offset + record_size es + forest_size below) next (ltb-true p (offset + record_size es + forest_size below) lt)
    by p h false le = let none = one_after p (offset + record_size es) below (ltb-false p (offset + record_size es + forest_size below) le) in absurd cc

-- every record is reached

pub reached : (f : Forest Record) (all : List ℕ) → ((p : ℕ) → is_one_of p (offsets_of (placed f)) ≡ true → is_one_of p all ≡ true)
    → list_all (λ r. not (carried_node r.elements).in_use || list_any (nat_eq r.offset) all) (written f) ≡ true
reached no_nodes all sub = refl
reached (node r below next) all sub =
    let bs = offsets_of (placed below) in
    let ns = offsets_of (placed next) in
    and_from _ _
    (or_right _ _ (sub r.offset (or_left (nat_eq r.offset r.offset) (is_one_of r.offset (bs ++ ns)) (eq-eqb r.offset r.offset refl))))
    (list_all-append _ (written below) (written next)
    ∙ and_from _ _
    (reached below all (λ p h. sub p (ap (λ z. nat_eq p r.offset || z) (list_any-append (nat_eq p) bs ns) ∙ or_right (nat_eq p r.offset) (is_one_of p bs || is_one_of p ns) (or_left (is_one_of p bs) (is_one_of p ns) h))))
    (reached next all (λ p h. sub p (ap (λ z. nat_eq p r.offset || z) (list_any-append (nat_eq p) bs ns) ∙ or_right (nat_eq p r.offset) (is_one_of p bs || is_one_of p ns) (or_right (is_one_of p bs) (is_one_of p ns) h)))))

pub good_records : (offset : ℕ) (tree : Forest Elements) (level : ℕ) → AreNodes level tree → are_records (written (with_positions offset tree)) ≡ true
good_records offset no_nodes level nodes = refl
good_records offset (node es below next) level nodes =
    let after = offset + record_size es in
    let beyond = after + forest_size below in
    grind (arith, common_steps, good_records after below (suc level) nodes.1, good_records beyond next level nodes.2, and_from)

-- ---- each node of the tree of rows is a record of its level

abbrev AreRows : List Row → Type 0
AreRows rows = AllByRecursion IsRow rows

with_rows : (p : Row → Bool) (rows : List Row) → AreRows rows → AreRows (filter p rows)
with_rows p [] all = all
with_rows p (row ∷ rows) all = grind (arith, nat_tests, with_rows p rows all.1)

no_duplicates : (before : List (List ℕ)) (rows : List Row) → AreRows rows → AreRows (without_duplicates before rows)
no_duplicates before [] all = all
no_duplicates before (row ∷ rows) all = grind (arith, nat_tests, no_duplicates before rows all.1, no_duplicates (before ++ row.instance ∷ []) rows all.1)

images_are : (rows : List Row) → AreRows rows → AreNodes 4 (images rows)
images_are [] all = tt
images_are (row ∷ rows) all = (record_node Image row all.0, tt, images_are rows all.1)

module _ (level : Level) (below : List Row → Forest Elements) (are_below : (rows : List Row) → AreRows rows → AreNodes (suc (node_level level)) (below rows)) where
  group_is : (group : List Row) (next : Forest Elements) → AreRows group → AreNodes (node_level level) next → AreNodes (node_level level) (group_node (record_for level) below group next)
  group_is [] next all others = others
  group_is (row ∷ rows) next all others = (record_node level row all.0, are_below (row ∷ rows) all, others)

  groups_are : (rows : List Row) (keys : List (List ℕ)) → AreRows rows → AreNodes (node_level level) (group_nodes (key_for level) (record_for level) below rows keys)
  groups_are rows [] all = tt
  groups_are rows (k ∷ keys) all = group_is (rows_with (key_for level) k rows) _ (with_rows (λ row. bytes_eq k (key_for level row)) rows all) (groups_are rows keys all)

series_are : (rows : List Row) → AreRows rows → AreNodes 3 (series rows)
series_are rows all = groups_are Series images images_are rows _ all

studies_are : (rows : List Row) → AreRows rows → AreNodes 2 (studies rows)
studies_are rows all = groups_are Study series series_are rows _ all

pub tree_nodes : (rows : List Row) → AllByRecursion IsRow rows → AreNodes 1 (TreeOf rows)
unfolding TreeOf
tree_nodes rows all = groups_are Patient studies studies_are (without_duplicates [] rows) _ (no_duplicates [] rows all)
