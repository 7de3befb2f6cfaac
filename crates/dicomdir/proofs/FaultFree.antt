-- A directory without a fault is linked to the forest that following its offsets goes through (`no_fault_is_linked`), and
-- longer paths find no more (`longer_paths_change_nothing`). Stands on Distinct, NoFault and PathForests.
use Rattle.std.proofs.Common.{◌≡◌, ℕ, zero, suc, ◌+◌, ◌≤◌, Bool, true, false, not, ◌||◌, List, ◌∷◌, ◌++◌, length, map, Option, Some, None, is_some, is_none, refl, sym, ap, subst, ◌∙◌, arith, eqb-true, nat_eq, ◌&&◌, []}
use Rattle.std.specs.List.{list_all}
use Rattle.std.proofs.lemmas.Bool.{not-true, and_parts, or_right, or_left, or_from, cond-true, cond-false, and_from, false_from_ne_true}
use Rattle.std.proofs.lemmas.List.{length-map, map-append, append-nil, append_assoc}
use Rattle.std.proofs.lemmas.List.Folds.{list_any-append, list_all-append}
use Rattle.sequence.specs.Tree.{Elements, no_elements}
use Rattle.dicomdir.specs.Forest.{Forest, no_nodes, node}
use Rattle.dicomdir.specs.Directory.{Record, carried_node, lower_offset, next_offset, or_zero, Found, missing, value_at, items_at, found, number_in, header_size, records_at, records_in, first_offset, last_offset, records_of, has_record, has_file_id, Node}
use Rattle.dicomdir.specs.Linked.{PlacedNode, first_position, is_distinct, record_at, fits, AreLinked, is_one_of, elements_at, nodes_of, offsets_of, are_records, LinkedElements, IsAllReached}
use Rattle.dicomdir.specs.Paths.{Links, Turn, named_by, level_of, paths_from, reached_by, paths_of, root_records, last_from}
use Rattle.dicomdir.proofs.Distinct.{same_offset, not_offset, split_distinct, clash}
use Rattle.dicomdir.proofs.NoFault.{positions, length_offsets, no_more, stands_there}
use Rattle.dicomdir.proofs.PathForests.{forest_from, lower_path, next_path, paths_more, is_good, good_parts, forest_offsets, forest_last, both_none, are_free, paths_none, path_free}
use Rattle.std.proofs.lemmas.Bool.Decides.{nat_tests}
use Rattle.std.proofs.lemmas.Grind.{common_steps}
use Rattle.dicomdir.specs.DirFault.{◌or_else◌, offset_fault, records_fault, root_fault, record_fault, each_fault, unreached_fault, first_fault, last_fault, links_of, links_fault, records_then_links, directory_fault, Fault, path_fault}
use Rattle.dicomdir.specs.Laws.{NoFaultIsLinked, LongerPathsChangeNothing}

-- distinct offsets of records
pub record IsIn (records : List Record) (reached : List ℕ) : Type 0 where
  pub distinct : is_distinct reached ≡ true
  pub inside : (p : ℕ) → is_one_of p reached ≡ true → is_one_of p (positions records) ≡ true

pub one_more_in : (records : List Record) (reached : List ℕ) (link : ℕ) (es : Elements) → IsIn records reached → record_at link records ≡ Some es → is_one_of link reached ≡ false → IsIn records (link ∷ reached)
one_more_in records reached link es inside stands new = grind (arith, common_steps, positions records, stands_there link records es stands)

pub few_in : (records : List Record) (reached : List ℕ) → IsIn records reached → length reached ≤ length records
few_in records reached inside = grind (arith, common_steps, no_more reached (positions records) inside.distinct inside.inside, length_offsets records)

-- each record has its two offsets
abbrev pub HaveOffsets : List Record → Type 0
HaveOffsets records = (p : ℕ) (es : Elements) → record_at p records ≡ Some es → (is_some (lower_offset es) ≡ true) × (is_some (next_offset es) ≡ true)

some_is : (o : Option ℕ) → is_some o ≡ true → o ≡ Some (or_zero o)
some_is v1 e = grind (arith, nat_tests)

pub stands_is : (o : Option Elements) → is_none o ≡ false → o ≡ Some (elim o [ None ↦ no_elements | Some es ↦ es ])
stands_is v1 e = grind (arith, nat_tests)

pub not_false : (b : Bool) → not b ≡ false → b ≡ true
not_false v1 e = grind (arith, nat_tests)

-- paths that continue from one along distinct records, and name others
pub record Continue (links : Links) (path : List Turn) (paths : List (List Turn)) : Type 0 where
  pub along : IsIn links.records (map (λ t. t.offset) path)
  pub distinct : is_distinct (reached_by links paths) ≡ true
  pub apart : (p : ℕ) → is_one_of p (reached_by links paths) ≡ true → is_one_of p (map (λ t. t.offset) path) ≡ false
  pub good : list_all (is_good links) paths ≡ true

-- of such paths, those by the lower offset of the record that the first one names, and those by the next one
pub record GoDown (links : Links) (path : List Turn) (xs ys : List (List Turn)) : Type 0 where
  pub stands : record_at (named_by links path) links.records ≡ Some (elements_at links.records (named_by links path))
  pub fit : fits (level_of path) (carried_node (elements_at links.records (named_by links path))) ≡ true
  pub lower : Continue links (lower_path links path) xs
  pub next : Continue links (next_path links path) ys

pub go_down : (links : Links) (path : List Turn) (xs ys : List (List Turn)) → Continue links path (path ∷ (xs ++ ys)) → GoDown links path xs ys
go_down links path xs ys on =
    let o : ℕ = named_by links path in
    let joined : reached_by links (xs ++ ys) ≡ reached_by links xs ++ reached_by links ys = map-append (named_by links) xs ys in
    let parts = and_parts (not (is_one_of o (reached_by links (xs ++ ys)))) (is_distinct (reached_by links (xs ++ ys))) on.distinct in
    let none : is_one_of o (reached_by links (xs ++ ys)) ≡ false = not-true (is_one_of o (reached_by links (xs ++ ys))) parts.0 in
    let split = split_distinct (reached_by links xs) (reached_by links ys) (subst (λ z. is_distinct z ≡ true) joined parts.1) in
    let goods = and_parts (is_good links path) (list_all (is_good links) (xs ++ ys)) on.good in
    let both = and_parts (list_all (is_good links) xs) (list_all (is_good links) ys) (sym (list_all-append (is_good links) xs ys) ∙ goods.1) in
    let here = good_parts links path goods.0 in
    let stands = stands_is (record_at o links.records) here.0 in
    let new : is_one_of o (map (λ t. t.offset) path) ≡ false = on.apart o (or_left (nat_eq o o) (is_one_of o (reached_by links (xs ++ ys))) (same_offset o)) in
    let along = one_more_in links.records (map (λ t. t.offset) path) o (elements_at links.records o) on.along stands new in
    let among : (p : ℕ) → (is_one_of p (reached_by links xs) || is_one_of p (reached_by links ys)) ≡ true → is_one_of p (reached_by links (xs ++ ys)) ≡ true
    = λ p h. ap (λ z. is_one_of p z) joined ∙ (list_any-append (nat_eq p) (reached_by links xs) (reached_by links ys) ∙ h) in
    let away : (p : ℕ) → is_one_of p (reached_by links (xs ++ ys)) ≡ true → is_one_of p (o ∷ map (λ t. t.offset) path) ≡ false
    = λ p h. or_from (nat_eq p o) (is_one_of p (map (λ t. t.offset) path)) (not_offset p o (reached_by links (xs ++ ys)) none h)
    (on.apart p (or_right (nat_eq p o) (is_one_of p (reached_by links (xs ++ ys))) h)) in
    record {
      stands = stands;
      fit = not_false (fits (level_of path) (carried_node (elements_at links.records o))) here.1;
      lower = record {
        along = along;
        distinct = split.0;
        apart = λ p h. away p (among p (or_left (is_one_of p (reached_by links xs)) (is_one_of p (reached_by links ys)) h));
        good = both.0;
      };
      next = record {
        along = along;
        distinct = split.1;
        apart = λ p h. away p (among p (or_right (is_one_of p (reached_by links xs)) (is_one_of p (reached_by links ys)) h));
        good = both.1;
      };
    }

-- the forest from what a path names begins there, and is linked

abbrev pub LinksTo : Links → List Turn → Forest PlacedNode → Type 0
LinksTo links path f = (first_position f ≡ named_by links path) × AreLinked links.records (level_of path) f

node_links : (links : Links) (path : List Turn) (below next : Forest PlacedNode) (xs ys : List (List Turn)) → HaveOffsets links.records → GoDown links path xs ys
    → LinksTo links (lower_path links path) below → LinksTo links (next_path links path) next
    → LinksTo links path (node (record { offset = named_by links path; carries = carried_node (elements_at links.records (named_by links path)) }) below next)
node_links links path below next xs ys has down low nxt =
    let es : Elements = elements_at links.records (named_by links path) in
    let both = has (named_by links path) es down.stands in (
      refl,
      (
        record {
          elements = es;
          stands = down.stands;
          carries = refl;
          fits_there = down.fit;
          names_lower = some_is (lower_offset es) both.0 ∙ ap (λ z. Some z) (sym low.0);
          names_next = some_is (next_offset es) both.1 ∙ ap (λ z. Some z) (sym nxt.0);
        },
        low.1,
        nxt.1,
      ),
    )

pub links_to : (most : ℕ) (links : Links) (path : List Turn) → HaveOffsets links.records → length path + most ≡ suc (length links.records)
    → Continue links path (paths_from most links path) → LinksTo links path (forest_from most links.records (named_by links path))
links_to zero links path has size on = grind (arith, common_steps, few_in, length-map)
links_to (suc most) links path has size on =
    by (nat_eq (named_by links path) 0) refl
    (λ down. links_to most links (lower_path links path) has (omega (arith, size)) down)
    (λ down. links_to most links (next_path links path) has (omega (arith, size)) down)
  where
    by : (b : Bool) → nat_eq (named_by links path) 0 ≡ b
        → (Continue links (lower_path links path) (paths_from most links (lower_path links path)) → LinksTo links (lower_path links path) (forest_from most links.records (named_by links (lower_path links path))))
        → (Continue links (next_path links path) (paths_from most links (next_path links path)) → LinksTo links (next_path links path) (forest_from most links.records (named_by links (next_path links path))))
        → LinksTo links path (forest_from (suc most) links.records (named_by links path))
    by true is low nxt =
        let none : named_by links path ≡ 0 = eqb-true (named_by links path) 0 is in
        subst (λ z. LinksTo links path z) (sym (cond-true (nat_eq (named_by links path) 0) no_nodes _ is)) (sym none, tt)
    by false is low nxt =
        let down = go_down links path (paths_from most links (lower_path links path)) (paths_from most links (next_path links path)) (subst (λ z. Continue links path z) (paths_more most links path is) on) in
        subst (λ z. LinksTo links path z) (sym (cond-false (nat_eq (named_by links path) 0) no_nodes _ is))
        (node_links links path _ _ (paths_from most links (lower_path links path)) (paths_from most links (next_path links path)) has down (low down.lower) (nxt down.next))

-- ---- a directory without a fault is linked to a tree

offset_some : (start : ℕ) (f : Found) → offset_fault start f ≡ None → number_in 4 f ≡ Some (or_zero (number_in 4 f))
offset_some start missing e = absurd cc
offset_some start (value_at offset v) e = grind (arith, nat_tests)
offset_some start (items_at offset h is) e = absurd cc

pub record HasRecords (f : Found) : Type 0 where
  pub records : List Record
  pub are : records_in f ≡ Some records

records_some : (start : ℕ) (f : Found) → records_fault start f ≡ None → HasRecords f
records_some start missing e = absurd cc
records_some start (value_at offset v) e = absurd cc
records_some start (items_at offset h is) e = record { records = records_at (offset + header_size h) is; are = refl }

good_record : (r : Record) → record_fault r ≡ None → (has_record r.elements && has_file_id r.elements) ≡ true
good_record r e = grind (arith, nat_tests)

each_good : (records : List Record) → each_fault records ≡ None → are_records records ≡ true
each_good [] e = refl
each_good (r ∷ records) e =
    let parts = both_none (record_fault r) (each_fault records) e in
    and_from (has_record r.elements && has_file_id r.elements) (are_records records) (good_record r parts.0) (each_good records parts.1)

have_offsets : (records : List Record) → are_records records ≡ true → HaveOffsets records
have_offsets [] good p es e = absurd cc
have_offsets (r ∷ records) good p es e =
    let parts = and_parts (has_record r.elements && has_file_id r.elements) (are_records records) good in
    let both = and_parts (has_record r.elements) (has_file_id r.elements) parts.0 in
    grind (arith, nat_tests, have_offsets records parts.1 p es)

last_is : (start : ℕ) (es : Elements) (links : Links) → last_fault start es links ≡ None → or_zero (last_offset start es) ≡ last_from 0 (root_records links (paths_of links))
last_is start es links e = grind (arith, nat_tests)

all_there : (nodes : List ℕ) (records : List Record) → unreached_fault nodes records ≡ None → list_all (λ r. not (carried_node r.elements).in_use || is_one_of r.offset nodes) records ≡ true
all_there nodes [] e = refl
all_there nodes (r ∷ records) e = grind (arith, nat_tests, all_there nodes records)

-- the tree that the records are linked to is the one that following their offsets goes through
pub record IsSoundBy (start : ℕ) (es : Elements) (records : List Record) : Type 0 where
  pub tree : Forest Node
  pub linked : LinkedElements start es tree
  pub all_reached : IsAllReached linked
  pub placed_is : linked.placed ≡ forest_from (suc (length records)) records (or_zero (first_offset start es))

sound : (start : ℕ) (es : Elements) (records : List Record) → records_of start es ≡ Some records → first_offset start es ≡ Some (or_zero (first_offset start es))
    → last_offset start es ≡ Some (or_zero (last_offset start es)) → (each_fault records or_else links_fault start es (links_of start es records)) ≡ None → IsSoundBy start es records
sound start es records are first_some last_some e =
    let links : Links = links_of start es records in
    let parts = both_none (each_fault records) (links_fault start es links) e in
    let good = each_good records parts.0 in
    let most : ℕ = suc (length records) in
    let paths = both_none (first_fault links [] (paths_of links)) (last_fault start es links or_else unreached_fault (reached_by links (paths_of links)) records) parts.1 in
    let ends = both_none (last_fault start es links) (unreached_fault (reached_by links (paths_of links)) records) paths.1 in
    let free = are_free links [] (paths_of links) paths.0 in
    let placed : Forest PlacedNode = forest_from most records links.first in
    let names : offsets_of placed ≡ reached_by links (paths_of links) = forest_offsets most links [] in
    let linked : LinksTo links [] placed = links_to most links [] (have_offsets records good) (omega arith)
    (record { along = record { distinct = refl; inside = λ p h. absurd cc }; distinct = free.distinct; apart = λ p h. refl; good = free.good }) in
    record {
      tree = nodes_of placed;
      linked = record {
        records = records;
        placed = placed;
        has_records = are;
        good = good;
        tree_is = refl;
        linked = linked.1;
        distinct = ap is_distinct names ∙ free.distinct;
        names_first = first_some ∙ ap (λ z. Some z) (sym linked.0);
        names_last = last_some ∙ ap (λ z. Some z) (last_is start es links ends.0 ∙ sym (forest_last most links [] 0 refl));
      };
      all_reached = all_there (offsets_of placed) records (ap (λ z. unreached_fault z records) names ∙ ends.1);
      placed_is = refl;
    }

-- where no fault is found, with the records that there are
pub sound_by : (start : ℕ) (es : Elements) (records : List Record) → records_of start es ≡ Some records → directory_fault start es ≡ None → IsSoundBy start es records
unfolding directory_fault
sound_by start es records are e =
    let parts = both_none (root_fault start es) (records_then_links start es (records_of start es)) e in
    let root = both_none (offset_fault start (found 0x00041200 start es)) (offset_fault start (found 0x00041202 start es) or_else records_fault start (found 0x00041220 start es)) parts.0 in
    let rest = both_none (offset_fault start (found 0x00041202 start es)) (records_fault start (found 0x00041220 start es)) root.1 in
    let links : (each_fault records or_else links_fault start es (links_of start es records)) ≡ None = ap (λ z. records_then_links start es z) (sym are) ∙ parts.1 in
    sound start es records are (offset_some start (found 0x00041200 start es) root.0) (offset_some start (found 0x00041202 start es) rest.0) links

pub no_fault_is_linked : NoFaultIsLinked
unfolding directory_fault
no_fault_is_linked start es e =
    let parts = both_none (root_fault start es) (records_then_links start es (records_of start es)) e in
    let root = both_none (offset_fault start (found 0x00041200 start es)) (offset_fault start (found 0x00041202 start es) or_else records_fault start (found 0x00041220 start es)) parts.0 in
    let rest = both_none (offset_fault start (found 0x00041202 start es)) (records_fault start (found 0x00041220 start es)) root.1 in
    let has = records_some start (found 0x00041220 start es) rest.1 in
    let by = sound_by start es has.records has.are e in
    record { tree = by.tree; linked = by.linked; all_reached = by.all_reached }

-- ---- longer paths change nothing, and what paths name computes

abbrev records_on : List Turn → List ℕ
records_on path = map (λ t. t.offset) path

too_many : (links : Links) (path : List Turn) → IsIn links.records (records_on path) → length path + 0 ≡ suc (length links.records) → ⊥
too_many links path along size = grind (arith, common_steps, few_in links.records (records_on path) along)

-- paths that have a fault, or not

abbrev Among : List ℕ → List ℕ → Type 0
Among xs ys = (p : ℕ) → is_one_of p xs ≡ true → is_one_of p ys ≡ true

one_more_among : (o : ℕ) (xs ys : List ℕ) → Among xs ys → Among (o ∷ xs) (o ∷ ys)
one_more_among o xs ys among p h = grind (arith, common_steps)

-- what comes later has the same first fault, whatever was reached before
abbrev AreAlike : Links → List ℕ → List (List Turn) → List (List Turn) → Type 0
AreAlike links reached later later2 = (more : List ℕ) → Among reached more → first_fault links more later ≡ first_fault links more later2

abbrev Steady : ℕ → ℕ → Links → List Turn → Type 0
Steady most longer links path =
    (reached : List ℕ) (later later2 : List (List Turn)) → IsIn links.records (records_on path) → Among (records_on path) reached
    → length path + most ≡ suc (length links.records) → AreAlike links reached later later2
    → first_fault links reached (paths_from most links path ++ later) ≡ first_fault links reached (paths_from longer links path ++ later2)

not_among : (p : ℕ) (xs ys : List ℕ) → Among xs ys → is_one_of p ys ≡ false → is_one_of p xs ≡ false
not_among p xs ys among out = false_from_ne_true (is_one_of p xs) (λ h. clash (is_one_of p ys) (among p h) out)

step_steady : (most longer : ℕ) (links : Links) (path : List Turn) → Steady most longer links (lower_path links path) → Steady most longer links (next_path links path)
    → Steady (suc most) (suc longer) links path
step_steady most longer links path low nxt reached later later2 along among size alike = by (nat_eq (named_by links path) 0) refl
  where
    goes : (o : Option Fault) → path_fault links reached path ≡ o
        → (o or_else first_fault links (named_by links path ∷ reached) ((paths_from most links (lower_path links path) ++ paths_from most links (next_path links path)) ++ later))
        ≡ (o or_else first_fault links (named_by links path ∷ reached) ((paths_from longer links (lower_path links path) ++ paths_from longer links (next_path links path)) ++ later2))
    goes (Some f) is = refl
    goes None is =
        let at : ℕ = named_by links path in
        let free = path_free links reached path is in
        let new : is_one_of at (records_on path) ≡ false = not_among at (records_on path) reached among free.1 in
        let longer_along = one_more_in links.records (records_on path) at (elements_at links.records at) along (stands_is (record_at at links.records) free.0) new in
        let more_among = one_more_among at (records_on path) reached among in
        ap (λ z. first_fault links (at ∷ reached) z) (append_assoc (paths_from most links (lower_path links path)) (paths_from most links (next_path links path)) later)
        ∙ (low (at ∷ reached) (paths_from most links (next_path links path) ++ later) (paths_from longer links (next_path links path) ++ later2) longer_along more_among (omega (arith, size))
        (λ more inside. nxt more later later2 longer_along (λ p h. inside p (more_among p h)) (omega (arith, size)) (λ last within. alike last (λ p h. within p (inside p (or_right (nat_eq p at) (is_one_of p reached) h)))))
        ∙ ap (λ z. first_fault links (at ∷ reached) z) (sym (append_assoc (paths_from longer links (lower_path links path)) (paths_from longer links (next_path links path)) later2)))

    by : (b : Bool) → nat_eq (named_by links path) 0 ≡ b → first_fault links reached (paths_from (suc most) links path ++ later) ≡ first_fault links reached (paths_from (suc longer) links path ++ later2)
    by true is =
        let none : named_by links path ≡ 0 = eqb-true (named_by links path) 0 is in
        ap (λ z. first_fault links reached (z ++ later)) (paths_none (suc most) links path none)
        ∙ (alike reached (λ p h. h) ∙ ap (λ z. first_fault links reached (z ++ later2)) (sym (paths_none (suc longer) links path none)))
    by false is =
        ap (λ z. first_fault links reached (z ++ later)) (paths_more most links path is)
        ∙ (goes (path_fault links reached path) refl ∙ ap (λ z. first_fault links reached (z ++ later2)) (sym (paths_more longer links path is)))

steady : (most more : ℕ) (links : Links) (path : List Turn) → Steady most (most + more) links path
steady zero more links path reached later later2 along among size alike = absurd (too_many links path along size)
steady (suc most) more links path reached later later2 along among size alike =
    let shape : suc (most + more) ≡ suc most + more = omega arith in
    step_steady most (most + more) links path (steady most more links (lower_path links path)) (steady most more links (next_path links path)) reached later later2 along among size alike
    ∙ ap (λ z. first_fault links reached (paths_from z links path ++ later2)) shape

-- paths that have none

unchanged : (most more : ℕ) (links : Links) (path : List Turn) → length path + most ≡ suc (length links.records) → Continue links path (paths_from most links path)
    → paths_from (most + more) links path ≡ paths_from most links path
unchanged zero more links path size on = absurd (too_many links path on.along size)
unchanged (suc most) more links path size on =
    let shape : suc most + more ≡ suc (most + more) = omega arith in
    ap (λ z. paths_from z links path) shape
    ∙ by (nat_eq (named_by links path) 0) refl (unchanged most more links (lower_path links path) (omega (arith, size))) (unchanged most more links (next_path links path) (omega (arith, size)))
  where
    by : (b : Bool) → nat_eq (named_by links path) 0 ≡ b
        → (Continue links (lower_path links path) (paths_from most links (lower_path links path)) → paths_from (most + more) links (lower_path links path) ≡ paths_from most links (lower_path links path))
        → (Continue links (next_path links path) (paths_from most links (next_path links path)) → paths_from (most + more) links (next_path links path) ≡ paths_from most links (next_path links path))
        → paths_from (suc (most + more)) links path ≡ paths_from (suc most) links path
    by true is low nxt =
        let none : named_by links path ≡ 0 = eqb-true (named_by links path) 0 is in
        paths_none (suc (most + more)) links path none ∙ sym (paths_none (suc most) links path none)
    by false is low nxt =
        let down = go_down links path (paths_from most links (lower_path links path)) (paths_from most links (next_path links path)) (subst (λ z. Continue links path z) (paths_more most links path is) on) in
        let one = low down.lower in
        let two = nxt down.next in
        paths_more (most + more) links path is ∙ ((λ i. path ∷ (one i ++ two i)) ∙ sym (paths_more most links path is))

pub longer_paths_change_nothing : LongerPathsChangeNothing
longer_paths_change_nothing links more =
    let most : ℕ = suc (length links.records) in
    let none : IsIn links.records [] = record { distinct = refl; inside = λ p h. absurd cc } in (
      ap (λ z. first_fault links [] z) (sym (append-nil (paths_from (most + more) links [])))
          ∙ (sym (steady most more links [] [] [] [] none (λ p h. h) (omega arith) (λ later inside. refl)) ∙ ap (λ z. first_fault links [] z) (append-nil (paths_of links))),
      λ e.
          let free = are_free links [] (paths_of links) e in
          unchanged most more links [] (omega arith) (record { along = none; distinct = free.distinct; apart = λ p h. refl; good = free.good }),
    )
