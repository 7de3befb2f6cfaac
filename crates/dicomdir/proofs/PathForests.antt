-- The forest that following the offsets goes through has just the nodes that paths name, and paths without a fault are those
-- that each name a record of their level (`are_free`, `free_paths`). Stands on Distinct.
use Rattle.std.proofs.Common.{◌≡◌, ℕ, zero, suc, ◌<◌, Bool, true, false, ◌&&◌, List, [], ◌∷◌, ◌++◌, filter, refl, sym, ◌∙◌, arith, Option, Some, None, nat_eq, if◌then◌else◌, not}
use Rattle.std.specs.List.{flat_map, list_all}
use Rattle.std.proofs.lemmas.Bool.{not-true, or_parts, cond-false, and_parts, and_from, or_right, or_left, or_from, false_from_ne_true}
use Rattle.std.proofs.lemmas.Bool.Decides.{nat_tests}
use Rattle.std.proofs.lemmas.Grind.{common_steps}
use Rattle.std.proofs.lemmas.List.Folds.{list_any-append}
use Rattle.sequence.specs.Tree.{Elements, no_elements}
use Rattle.dicomdir.specs.Forest.{Forest, no_nodes, node, count_of}
use Rattle.dicomdir.specs.Directory.{Record, carried_node}
use Rattle.dicomdir.specs.Linked.{PlacedNode, offsets_of, first_position, last_position_behind, record_at, AreLinked, is_one_of, elements_at, lower_at, next_at, is_distinct}
use Rattle.dicomdir.specs.NodesInUse.{LevelNode, nodes_in_use}
use Rattle.dicomdir.specs.Paths.{Links, Turn, named_by, level_of, paths_from, reached_by, root_records, last_from}
use Rattle.dicomdir.specs.machine.Trail.{is_shown, node_on}
use Rattle.dicomdir.specs.DirFault.{Fault, ◌or_else◌, names_no_record, names_wrong_level, path_fault, first_fault}
use Rattle.dicomdir.proofs.Distinct.{same_offset, not_offset, clash, same_out, either_out}

-- the forest from an offset, with no more records one after or below the other than the first number says
abbrev pub forest_from : ℕ → List Record → ℕ → Forest PlacedNode
forest_from zero records link = no_nodes
forest_from (suc most) records link =
    if nat_eq link 0 then no_nodes
    else node (record { offset = link; carries = carried_node (elements_at records link) })
    (forest_from most records (lower_at records link))
    (forest_from most records (next_at records link))

-- the paths that continue from one along the record that it names

abbrev pub lower_path : Links → List Turn → List Turn
lower_path links path = record { offset = named_by links path; lower = true } ∷ path

abbrev pub next_path : Links → List Turn → List Turn
next_path links path = record { offset = named_by links path; lower = false } ∷ path

pub paths_none : (most : ℕ) (links : Links) (path : List Turn) → named_by links path ≡ 0 → paths_from most links path ≡ []
paths_none zero links path e = refl
paths_none (suc most) links path e = grind (arith, common_steps)

pub paths_more : (most : ℕ) (links : Links) (path : List Turn) → nat_eq (named_by links path) 0 ≡ false
    → paths_from (suc most) links path ≡ path ∷ (paths_from most links (lower_path links path) ++ paths_from most links (next_path links path))
paths_more most links path e = grind (arith, common_steps, cond-false (nat_eq (named_by links path) 0) [] (path ∷ (paths_from most links (lower_path links path) ++ paths_from most links (next_path links path))) e)

-- its offsets are those that the paths name

pub forest_offsets : (most : ℕ) (links : Links) (path : List Turn) → offsets_of (forest_from most links.records (named_by links path)) ≡ reached_by links (paths_from most links path)
forest_offsets zero links path = refl
forest_offsets (suc most) links path = grind (arith, common_steps, forest_offsets most links (lower_path links path), forest_offsets most links (next_path links path))

-- paths below the root's records name none of them, so the last of these is the forest's last offset

abbrev at_root : List Turn → Bool
at_root path = nat_eq (level_of path) 1

none_at_root : (most : ℕ) (links : Links) (path : List Turn) → 1 < level_of path → filter at_root (paths_from most links path) ≡ []
none_at_root zero links path low = refl
none_at_root (suc most) links path low = grind (arith, common_steps, none_at_root most links (lower_path links path) (omega (arith, low)), none_at_root most links (next_path links path) low)

pub forest_last : (most : ℕ) (links : Links) (path : List Turn) (last : ℕ) → level_of path ≡ 1
    → last_position_behind last (forest_from most links.records (named_by links path)) ≡ last_from last (root_records links (paths_from most links path))
forest_last zero links path last top = refl
forest_last (suc most) links path last top = grind (arith, common_steps, none_at_root most links (lower_path links path) (omega (arith, top)), forest_last most links (next_path links path) (named_by links path) top)

-- the nodes in use that no inactive record is above

abbrev pub shown_nodes : Bool → ℕ → Forest PlacedNode → List LevelNode
shown_nodes shown level f = if shown then nodes_in_use level f else []

none_shown : (shown : Bool) (level : ℕ) → [] ≡ shown_nodes shown level no_nodes
none_shown v1 level = grind (arith, nat_tests)

joined : (s u : Bool) (k : LevelNode) (bs ns : List LevelNode)
    → (if s && u then k ∷ [] else []) ++ ((if s && u then bs else []) ++ (if s then ns else [])) ≡ (if s then (if u then k ∷ (bs ++ ns) else ns) else [])
joined v1 u k bs ns = grind (arith, nat_tests)

pub forest_nodes : (most : ℕ) (links : Links) (path : List Turn)
    → flat_map (node_on links) (paths_from most links path) ≡ shown_nodes (is_shown links path) (level_of path) (forest_from most links.records (named_by links path))
forest_nodes zero links path = none_shown (is_shown links path) (level_of path)
forest_nodes (suc most) links path = grind (arith, common_steps, forest_nodes most links (lower_path links path), forest_nodes most links (next_path links path))

-- a forest that records are linked to is that one

pub elements_is : (o : Option Elements) (es : Elements) → o ≡ Some es → (elim o [ None ↦ no_elements | Some es ↦ es ]) ≡ es
elements_is v1 es e = grind (arith, nat_tests)

pub followed_is : (f : Forest PlacedNode) (most : ℕ) (records : List Record) (level : ℕ) → AreLinked records level f → is_one_of 0 (offsets_of f) ≡ false → count_of f < most
    → forest_from most records (first_position f) ≡ f
followed_is no_nodes zero records level linked nonzero few = refl
followed_is no_nodes (suc most) records level linked nonzero few = refl
followed_is (node n below next) zero records level linked nonzero few = absurd (omega (arith, few))
followed_is (node n below next) (suc most) records level linked nonzero few =
    let here = linked.0 in
    let zeros = or_parts (nat_eq 0 n.offset) (is_one_of 0 (offsets_of below ++ offsets_of next)) nonzero in
    let inside = or_parts (is_one_of 0 (offsets_of below)) (is_one_of 0 (offsets_of next)) (sym (list_any-append (nat_eq 0) (offsets_of below) (offsets_of next)) ∙ zeros.1) in
    grind (arith, common_steps, or_parts (nat_eq 0 n.offset) (is_one_of 0 (offsets_of below ++ offsets_of next)) nonzero, or_parts (is_one_of 0 (offsets_of below)) (is_one_of 0 (offsets_of next)) (sym (list_any-append (nat_eq 0) (offsets_of below) (offsets_of next)) ∙ zeros.1), elements_is (record_at n.offset records) here.elements here.stands, followed_is below most records (suc level) linked.1 inside.0 (omega (arith, few)), followed_is next most records level linked.2 inside.1 (omega (arith, few)), cond-false)

-- ---- paths have no fault where each names another record, which fits its level

abbrev pub is_good : Links → List Turn → Bool
is_good links path = not (names_no_record links path) && not (names_wrong_level links path)

-- the offsets that they name are distinct, and none of them was reached
pub record AreFree (links : Links) (reached : List ℕ) (paths : List (List Turn)) : Type 0 where
  pub distinct : is_distinct (reached_by links paths) ≡ true
  pub apart : (p : ℕ) → is_one_of p (reached_by links paths) ≡ true → is_one_of p reached ≡ false
  pub good : list_all (is_good links) paths ≡ true

pub both_none : (a b : Option Fault) → (a or_else b) ≡ None → (a ≡ None) × (b ≡ None)
both_none v1 b e = grind (arith, nat_tests)

pub or_some : (a b : Option Fault) (x : Fault) → a ≡ Some x → (a or_else b) ≡ Some x
or_some v1 b x e = grind (arith, nat_tests)

pub or_none : (a b : Option Fault) → a ≡ None → (a or_else b) ≡ b
or_none v1 b e = grind (arith, nat_tests)

pub two_none : (a b : Option Fault) → a ≡ None → b ≡ None → (a or_else b) ≡ None
two_none v1 b e f = grind (arith, nat_tests)

pub path_free : (links : Links) (reached : List ℕ) (path : List Turn) → path_fault links reached path ≡ None
    → (names_no_record links path ≡ false) × (is_one_of (named_by links path) reached ≡ false) × (names_wrong_level links path ≡ false)
path_free links reached path e = grind (arith, nat_tests)

pub free_path : (links : Links) (reached : List ℕ) (path : List Turn) → names_no_record links path ≡ false → is_one_of (named_by links path) reached ≡ false → names_wrong_level links path ≡ false
    → path_fault links reached path ≡ None
free_path links reached path a b c = rw (a, b, c) refl

pub are_free : (links : Links) (reached : List ℕ) (paths : List (List Turn)) → first_fault links reached paths ≡ None → AreFree links reached paths
are_free links reached [] e = record { distinct = refl; apart = λ p h. absurd cc; good = refl }
are_free links reached (path ∷ paths) e =
    let o : ℕ = named_by links path in
    let parts = both_none (path_fault links reached path) (first_fault links (o ∷ reached) paths) e in
    let here = path_free links reached path parts.0 in
    let rest = are_free links (o ∷ reached) paths parts.1 in
    let new : is_one_of o (reached_by links paths) ≡ false = false_from_ne_true (is_one_of o (reached_by links paths))
    (λ h. clash (is_one_of o (o ∷ reached)) (or_left (nat_eq o o) (is_one_of o reached) (same_offset o)) (rest.apart o h)) in
    let first : not (is_one_of o (reached_by links paths)) ≡ true = rw new refl in
    let well : is_good links path ≡ true = rw (here.0, here.2) refl in
    grind (arith, common_steps, both_none (path_fault links reached path) (first_fault links (o ∷ reached) paths) e, path_free links reached path parts.0, are_free links (o ∷ reached) paths parts.1, false_from_ne_true (is_one_of o (reached_by links paths)), or_left (nat_eq o o) (is_one_of o reached) (same_offset o), same_offset o, and_from (not (is_one_of o (reached_by links paths))) (is_distinct (reached_by links paths)) first rest.distinct, and_from (is_good links path) (list_all (is_good links) paths) well rest.good, clash, either_out, or_parts, same_out)

pub good_parts : (links : Links) (path : List Turn) → is_good links path ≡ true → (names_no_record links path ≡ false) × (names_wrong_level links path ≡ false)
good_parts links path e = grind (arith, common_steps, and_parts (not (names_no_record links path)) (not (names_wrong_level links path)) e)

pub free_paths : (links : Links) (reached : List ℕ) (paths : List (List Turn)) → AreFree links reached paths → first_fault links reached paths ≡ None
free_paths links reached [] free = refl
free_paths links reached (path ∷ paths) free =
    let o : ℕ = named_by links path in
    let apart = and_parts (not (is_one_of o (reached_by links paths))) (is_distinct (reached_by links paths)) free.distinct in
    let none : is_one_of o (reached_by links paths) ≡ false = not-true (is_one_of o (reached_by links paths)) apart.0 in
    let well = and_parts (is_good links path) (list_all (is_good links) paths) free.good in
    let here = good_parts links path well.0 in
    let new : is_one_of o reached ≡ false = free.apart o (or_left (nat_eq o o) (is_one_of o (reached_by links paths)) (same_offset o)) in
    two_none (path_fault links reached path) (first_fault links (o ∷ reached) paths) (free_path links reached path here.0 new here.1)
    (free_paths links (o ∷ reached) paths (record {
      distinct = apart.1;
      apart = λ p h. or_from (nat_eq p o) (is_one_of p reached) (not_offset p o (reached_by links paths) none h) (free.apart p (or_right (nat_eq p o) (is_one_of p (reached_by links paths)) h));
      good = well.1;
    }))
