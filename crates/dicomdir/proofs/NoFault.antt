-- The tree of a linked directory is the only one (`one_tree_of_file`), its nodes stand at records (`paths_name_nodes`), and
-- it has no fault (`linked_has_no_fault`). Stands on Distinct, PathForests and the laws of `part10` and `sequence`.
use Rattle.std.proofs.Common.{◌≡◌, ℕ, suc, ◌+◌, ◌<◌, ◌≤◌, Bool, true, false, not, ◌||◌, List, [], ◌∷◌, ◌++◌, length, Some, refl, sym, ap, ◌∙◌, arith, nat_eq, if◌then◌else◌, subst, zero, Option, None}
use Rattle.std.proofs.lemmas.Bool.{not-true, and_parts, or_right, or_left}
use Rattle.std.proofs.lemmas.List.{length-append, append_cancel_left}
use Rattle.std.proofs.lemmas.Bool.Decides.{nat_tests}
use Rattle.element.specs.declared.header.Header.{Header}
use Rattle.sequence.specs.Tree.{Elements, Items, no_items, item, fragment, DataSet}
use Rattle.dicomdir.specs.Forest.{Forest, no_nodes, node, count_of}
use Rattle.dicomdir.specs.Directory.{Found, missing, value_at, items_at, found, Record, header_size, size_of, end_size, records_at, records_in, Node, carried_node, first_offset, records_of, next_offset, lower_offset, IsExplicitFile, IsDirectoryFile, number_in, or_zero}
use Rattle.dicomdir.specs.Linked.{PlacedNode, offsets_of, is_distinct, record_at, AreLinked, is_one_of, LinkedElements, nodes_of, first_position, are_records}
use Rattle.dicomdir.specs.Laws.{NodesAreRecords, OneTreeOfFile, LinkedHasNoFault, PathsNameNodes, AcceptedHasNoFault, OneCheckFault, OneListOfNodes}
use Rattle.dicomdir.proofs.Distinct.{not_offset, same_offset, same_one, backwards}
use Rattle.std.proofs.lemmas.Grind.{common_steps}
use Rattle.sequence.specs.declared.coding.Coding.TheVariants as codings
use Rattle.element.specs.declared.syntax.Syntax.TheVariants.{Explicit, Implicit}
use Rattle.part10.specs.MetaText.{HasMeta, MetaValues, MetaFaultOf}
use Rattle.part10.proofs.Public.{one_header, one_verdict}
use Rattle.sequence.proofs.Public.{one_tree, one_fault, one_path, whole_breaks_no_rule}
use Rattle.std.specs.List.{list_all}
use Rattle.dicomdir.specs.Paths.{Links, Turn, named_by, level_of, paths_from, paths_of}
use Rattle.dicomdir.specs.DirFault.{fault, offset_fault, each_fault, unreached_fault, links_of, directory_fault, Fault, check_limits, in_header, in_syntax, in_data_set, at_the_end, in_directory}
use Rattle.dicomdir.proofs.PathForests.{forest_from, lower_path, next_path, forest_offsets, forest_last, followed_is, is_good, AreFree, free_paths, two_none}
use Rattle.element.specs.declared.tag.Tag.{Tag}
use Rattle.dictionary.specs.Syntaxes.{syntax_uid}
use Rattle.part10.specs.declared.meta_fault.MetaFault.{MetaFault}
use Rattle.sequence.specs.FirstFault.{IsUnbroken, FirstFault, EndFault, tag_of_tail}
use Rattle.dicomdir.specs.NodesInUse.{nodes_in_use}

-- distinct offsets that are all among others are no more than those

abbrev without : ℕ → List ℕ → List ℕ
without p [] = []
without p (q ∷ qs) = if nat_eq p q then qs else q ∷ without p qs

one_fewer : (p : ℕ) (qs : List ℕ) → is_one_of p qs ≡ true → length qs ≡ suc (length (without p qs))
one_fewer p [] e = absurd cc
one_fewer p (q ∷ qs) e = grind (arith, nat_tests, one_fewer p qs)

still_one : (x p : ℕ) (qs : List ℕ) → nat_eq x p ≡ false → is_one_of x qs ≡ true → is_one_of x (without p qs) ≡ true
still_one x p [] other e = absurd cc
still_one x p (q ∷ qs) other e = grind (arith, nat_tests, still_one x p qs other)

pub no_more : (ps qs : List ℕ) → is_distinct ps ≡ true → ((x : ℕ) → is_one_of x ps ≡ true → is_one_of x qs ≡ true) → length ps ≤ length qs
no_more [] qs distinct all = omega arith
no_more (p ∷ ps) qs distinct all =
    let parts = and_parts (not (is_one_of p ps)) (is_distinct ps) distinct in
    let here : is_one_of p qs ≡ true = all p (or_left (nat_eq p p) (is_one_of p ps) (same_offset p)) in
    grind (arith, common_steps, and_parts (not (is_one_of p ps)) (is_distinct ps) distinct, not-true (is_one_of p ps) parts.0, or_left (nat_eq p p) (is_one_of p ps) (same_offset p), same_offset p, one_fewer p qs here, no_more ps (without p qs) parts.1, not_offset, or_right, still_one)

-- the offsets of records

abbrev pub positions : List Record → List ℕ
positions [] = []
positions (r ∷ records) = r.offset ∷ positions records

pub length_offsets : (records : List Record) → length (positions records) ≡ length records
length_offsets [] = refl
length_offsets (r ∷ records) = ap suc (length_offsets records)

pub stands_there : (p : ℕ) (records : List Record) (es : Elements) → record_at p records ≡ Some es → is_one_of p (positions records) ≡ true
stands_there p [] es e = absurd cc
stands_there p (r ∷ records) es e = grind (arith, nat_tests, stands_there p records es)

pub either : (a b c : Bool) → (a ≡ true → c ≡ true) → (b ≡ true → c ≡ true) → (a || b) ≡ true → c ≡ true
either v1 b c f g e = grind (arith, nat_tests)

at_records : (f : Forest PlacedNode) (records : List Record) (level : ℕ) → AreLinked records level f
    → (x : ℕ) → is_one_of x (offsets_of f) ≡ true → is_one_of x (positions records) ≡ true
at_records no_nodes records level linked x h = absurd cc
at_records (node n below next) records level linked x h = grind (arith, common_steps, stands_there n.offset records linked.0.elements linked.0.stands, either (nat_eq x n.offset) (is_one_of x (offsets_of below ++ offsets_of next)) (is_one_of x (positions records)), either (is_one_of x (offsets_of below)) (is_one_of x (offsets_of next)) (is_one_of x (positions records)), at_records below records (suc level) linked.1 x, at_records next records level linked.2 x, same_one)

count_is : (f : Forest PlacedNode) → length (offsets_of f) ≡ count_of f
count_is no_nodes = refl
count_is (node n below next) = grind (arith, common_steps, count_is below, count_is next, length-append (offsets_of below) (offsets_of next))

-- no record stands at offset 0

header_some : (h : Header) → 0 < header_size h
header_some h = omega arith

none_at_zero : (offset : ℕ) (is : Items) → 0 < offset → is_one_of 0 (positions (records_at offset is)) ≡ false
none_at_zero offset no_items some = refl
none_at_zero offset (item h es is) some = grind (arith, common_steps, none_at_zero (offset + header_size h + size_of es + end_size h.length) is (omega (arith, some)))
none_at_zero offset (fragment h v is) some = none_at_zero (offset + header_size h + length v) is (omega (arith, some))

pub none_in : (f : Found) (records : List Record) → records_in f ≡ Some records → is_one_of 0 (positions records) ≡ false
none_in missing records e = absurd cc
none_in (value_at offset v) records e = absurd cc
none_in (items_at offset h is) records e =
    let same : records_at (offset + header_size h) is ≡ records = cc in
    let some = header_some h in
    ap (λ r. is_one_of 0 (positions r)) (sym same) ∙ none_at_zero (offset + header_size h) is (omega (arith, some))

pub nodes_are_records : NodesAreRecords
nodes_are_records start elements tree linked =
    let all = at_records linked.placed linked.records 1 linked.linked in
    grind (arith, common_steps, at_records linked.placed linked.records 1 linked.linked, no_more (offsets_of linked.placed) (positions linked.records) linked.distinct all, count_is linked.placed, length_offsets linked.records, backwards (is_one_of 0 (offsets_of linked.placed)) (is_one_of 0 (positions linked.records)) (all 0), none_in (found 0x00041220 start elements) linked.records linked.has_records)

-- ---- a file is linked to one tree at most

pub some_same : {A : Type 0} (x y : A) → Some x ≡ Some y → x ≡ y
some_same x y e = cc

not_zero : (records : List Record) (p : ℕ) (es : Elements) → is_one_of 0 (positions records) ≡ false → record_at p records ≡ Some es → 0 ≡ p → ⊥
not_zero records p es none stands zero_is = grind (arith, common_steps, stands_there p records es stands, positions records)

same_forest : (records : List Record) (level : ℕ) (f g : Forest PlacedNode) → is_one_of 0 (positions records) ≡ false
    → AreLinked records level f → AreLinked records level g → first_position f ≡ first_position g → f ≡ g
same_forest records level no_nodes no_nodes none l m e = refl
same_forest records level no_nodes (node n below next) none l m e = absurd (not_zero records n.offset m.0.elements none m.0.stands e)
same_forest records level (node n below next) no_nodes none l m e = absurd (not_zero records n.offset l.0.elements none l.0.stands (sym e))
same_forest records level (node n below next) (node k lower behind) none l m e =
    let both : Some l.0.elements ≡ Some m.0.elements = sym l.0.stands ∙ (ap (λ z. record_at z records) e ∙ m.0.stands) in
    let es : l.0.elements ≡ m.0.elements = some_same l.0.elements m.0.elements both in
    let low : first_position below ≡ first_position lower = some_same (first_position below) (first_position lower) (sym l.0.names_lower ∙ (ap (λ z. lower_offset z) es ∙ m.0.names_lower)) in
    let nxt : first_position next ≡ first_position behind = some_same (first_position next) (first_position behind) (sym l.0.names_next ∙ (ap (λ z. next_offset z) es ∙ m.0.names_next)) in
    grind (arith, common_steps, some_same l.0.elements m.0.elements both, same_forest records (suc level) below lower none l.1 m.1 low, same_forest records level next behind none l.2 m.2 nxt)

pub same_placed : (start start2 : ℕ) (es es2 : Elements) (tree other : Forest Node) → start ≡ start2 → es ≡ es2
    → (l : LinkedElements start es tree) (m : LinkedElements start2 es2 other) → l.placed ≡ m.placed
same_placed start start2 es es2 tree other begins same l m =
    let records_same : records_of start es ≡ records_of start2 es2 = λ i. records_of (begins i) (same i) in
    let firsts : first_offset start es ≡ first_offset start2 es2 = λ i. first_offset (begins i) (same i) in
    let records : m.records ≡ l.records = some_same m.records l.records (sym m.has_records ∙ (sym records_same ∙ l.has_records)) in
    let first : first_position l.placed ≡ first_position m.placed = some_same (first_position l.placed) (first_position m.placed) (sym l.names_first ∙ (firsts ∙ m.names_first)) in
    let none = none_in (found 0x00041220 start es) l.records l.has_records in
    let moved : AreLinked l.records 1 m.placed = subst (λ z. AreLinked z 1 m.placed) records m.linked in
    same_forest l.records 1 l.placed m.placed none l.linked moved first

abbrev pub meta_of : {file front back : List ℕ} (x : IsExplicitFile file front back) → HasMeta x.said file
meta_of {front = front} {back = back} x = record { front = front; back = back; whole = x.whole; spelled = x.header }

pub same_fronts : {file front back front2 back2 : List ℕ} → IsExplicitFile file front back → IsExplicitFile file front2 back2 → (front ≡ front2) × (back ≡ back2)
same_fronts {file = file} {front = front} {back = back} {front2 = front2} {back2 = back2} x y =
    let same : front ≡ front2 = (one_header file x.said y.said (meta_of x) (meta_of y)).1 in
    let whole : front ++ back ≡ front ++ back2 = sym x.whole ∙ (y.whole ∙ ap (λ z. z ++ back2) (sym same)) in
    (same, append_cancel_left front back back2 whole)

-- two readings of a file as a directory begin at one offset and have the same elements
pub same_files : {file : List ℕ} {start start2 : ℕ} {es es2 : Elements} → IsDirectoryFile file start es → IsDirectoryFile file start2 es2 → (start ≡ start2) × (es ≡ es2)
same_files {file = file} {start = start} {start2 = start2} {es = es} {es2 = es2} a b =
    let fronts = same_fronts a.explicit b.explicit in
    let moved : DataSet codings.Explicit 0 es2 a.back = subst (λ z. DataSet codings.Explicit 0 es2 z) (sym fronts.1) b.data_set in
    (a.begins ∙ (ap length fronts.0 ∙ sym b.begins), one_tree codings.Explicit 0 es es2 a.back a.data_set moved)

pub one_tree_of_file : OneTreeOfFile
one_tree_of_file file tree other a b =
    let same = same_files a.is_file b.is_file in
    let placed = same_placed a.start b.start a.elements b.elements tree other same.0 same.1 a.linked b.linked in
    sym a.linked.tree_is ∙ (ap nodes_of placed ∙ b.linked.tree_is)

-- ---- a directory whose records are linked, with none left out, has no fault

sized : (b : Bool) (x n offset : ℕ) → (if b then Some x else None) ≡ Some n → (if b then None else fault 68 offset) ≡ None
sized v1 x n offset e = grind (arith, nat_tests)

offset_none : (start : ℕ) (f : Found) (n : ℕ) → number_in 4 f ≡ Some n → offset_fault start f ≡ None
offset_none start missing n e = absurd cc
offset_none start (value_at offset v) n e = sized (nat_eq (length v) 4) _ n offset e
offset_none start (items_at offset h is) n e = absurd cc

each_none : (records : List Record) → are_records records ≡ true → each_fault records ≡ None
each_none [] e = refl
each_none (r ∷ records) e = grind (arith, common_steps, each_none records)

unreached_none : (positions : List ℕ) (records : List Record) → list_all (λ r. not (carried_node r.elements).in_use || is_one_of r.offset positions) records ≡ true → unreached_fault positions records ≡ None
unreached_none positions [] e = refl
unreached_none positions (r ∷ records) e = grind (arith, common_steps, unreached_none positions records)

-- the paths to the records of a linked forest name records that fit their levels

good_paths : (most : ℕ) (links : Links) (path : List Turn) → AreLinked links.records (level_of path) (forest_from most links.records (named_by links path))
    → list_all (is_good links) (paths_from most links path) ≡ true
good_paths zero links path linked = refl
good_paths (suc most) links path linked = grind (arith, common_steps, good_paths most links (lower_path links path), good_paths most links (next_path links path))

last_named : (o : Option ℕ) (last there offset : ℕ) → o ≡ Some last → last ≡ there → (if nat_eq (or_zero o) there then None else fault 60 offset) ≡ None
last_named o last there offset e f = grind (arith, common_steps)

followed : (start : ℕ) (elements : Elements) (tree : Forest Node) (linked : LinkedElements start elements tree)
    → forest_from (suc (length linked.records)) linked.records (or_zero (first_offset start elements)) ≡ linked.placed
followed start elements tree linked =
    let facts = nodes_are_records start elements tree linked in
    let few = facts.0 in
    grind (arith, common_steps, followed_is linked.placed (suc (length linked.records)) linked.records 1 linked.linked facts.1 (omega (arith, few)))

pub paths_name_nodes : PathsNameNodes
paths_name_nodes start elements tree linked = grind (arith, common_steps, forest_offsets (suc (length linked.records)) (links_of start elements linked.records) [], followed start elements tree linked)

pub linked_has_no_fault : LinkedHasNoFault
unfolding directory_fault
linked_has_no_fault start elements tree linked all =
    let most : ℕ = suc (length linked.records) in
    let links : Links = links_of start elements linked.records in
    let same : forest_from most linked.records links.first ≡ linked.placed = followed start elements tree linked in
    let names = paths_name_nodes start elements tree linked in
    let free : AreFree links [] (paths_of links) = record {
      distinct = ap is_distinct names ∙ linked.distinct;
      apart = λ p h. refl;
      good = good_paths most links [] (subst (λ z. AreLinked linked.records 1 z) (sym same) linked.linked);
    } in
    grind (arith, common_steps, forest_from most linked.records links.first, followed start elements tree linked, paths_name_nodes start elements tree linked, forest_last most links [] 0 refl, unreached_none (offsets_of linked.placed) linked.records all, free_paths links [] (paths_of links) free, each_none linked.records linked.good, good_paths, last_named, offset_none, two_none)

-- ---- the file header

header_is_consumed : {file front back : List ℕ} → IsExplicitFile file front back → (fault : MetaFault) → MetaFaultOf file fault → ⊥
header_is_consumed {file = file} x fault is = one_verdict.0 file fault (x.said, meta_of x, (Explicit, x.syntax)) is

implicit_is_allowed : {file : List ℕ} {said : MetaValues} → HasMeta said file → said.syntax ≡ syntax_uid Implicit → (fault : MetaFault) → MetaFaultOf file fault → ⊥
implicit_is_allowed {file = file} {said = said} has is fault wrong = one_verdict.0 file fault (said, has, (Implicit, is)) wrong

not_implicit : {file front back : List ℕ} {said : MetaValues} → IsExplicitFile file front back → HasMeta said file → said.syntax ≡ syntax_uid Implicit → ⊥
not_implicit {file = file} {said = said} x has is = grind (arith, common_steps, one_header file said x.said has (meta_of x))

-- ---- the data set

unbroken_there : (back back2 : List ℕ) → back ≡ back2 → IsUnbroken codings.Explicit check_limits back → IsUnbroken codings.Explicit check_limits back2
unbroken_there back back2 same unbroken = subst (λ z. IsUnbroken codings.Explicit check_limits z) same unbroken

no_first_fault : {b p u : List ℕ} {rule : ℕ} {tag : Tag} → IsUnbroken codings.Explicit check_limits b → FirstFault codings.Explicit check_limits b p u rule tag → ⊥
no_first_fault {p = p} {u = u} {rule = rule} {tag = tag} unbroken first = unbroken p u first.rest rule tag first.text first.breaks

no_end_fault : {b b2 : List ℕ} {elements : Elements} {tag : Tag} → b ≡ b2 → DataSet codings.Explicit 0 elements b → EndFault codings.Explicit check_limits b2 tag → ⊥
no_end_fault {elements = elements} same text end = end.unfinished elements (subst (λ z. DataSet codings.Explicit 0 elements z) same text)

pub accepted_has_no_fault : AcceptedHasNoFault
accepted_has_no_fault file nodes _ _ _ consumed has (in_header fault is) = header_is_consumed consumed.header.explicit fault is
accepted_has_no_fault file nodes _ _ _ consumed has (in_syntax meta is) = not_implicit consumed.header.explicit meta is
accepted_has_no_fault file nodes _ _ _ consumed has (in_data_set {back = back} x first) =
    let fronts = same_fronts consumed.header.explicit x in
    no_first_fault (unbroken_there consumed.back back fronts.1 (whole_breaks_no_rule codings.Explicit check_limits consumed.back consumed.whole)) first
accepted_has_no_fault file nodes _ _ _ consumed has (at_the_end x end) = no_end_fault (same_fronts consumed.header.explicit x).1 consumed.whole.text end
accepted_has_no_fault file nodes _ _ _ consumed has (in_directory {front = front} {back = back} {elements = elements} {f = f} x unbroken text reported) =
    let same = same_files has.is_file (record { front = front; back = back; explicit = x; data_set = text; begins = refl }) in
    let none = linked_has_no_fault has.start has.elements has.tree has.linked has.all_reached in
    let both : directory_fault has.start has.elements ≡ directory_fault (length front) elements = λ i. directory_fault (same.0 i) (same.1 i) in
    let no : None ≡ Some f = sym none ∙ (both ∙ reported) in
    absurd cc

pub one_list_of_nodes : OneListOfNodes
one_list_of_nodes file nodes other a b =
    let same = same_files a.is_file b.is_file in
    let placed = same_placed a.start b.start a.elements b.elements a.tree b.tree same.0 same.1 a.linked b.linked in
    sym a.nodes_are ∙ (ap (nodes_in_use 1) placed ∙ b.nodes_are)

-- ---- one fault

same_directory_faults : {file front back front2 back2 : List ℕ} {elements elements2 : Elements} {f f2 : Fault} → IsExplicitFile file front back → IsExplicitFile file front2 back2
    → DataSet codings.Explicit 0 elements back → DataSet codings.Explicit 0 elements2 back2
    → directory_fault (length front) elements ≡ Some f → directory_fault (length front2) elements2 ≡ Some f2 → f ≡ f2
same_directory_faults {front = front} {back = back} {front2 = front2} {back2 = back2} {elements = elements} {elements2 = elements2} {f = f} {f2 = f2} x y text text2 reported reported2 = grind (arith, common_steps, same_files (record { front = front; back = back; explicit = x; data_set = text; begins = refl }) (record { front = front2; back = back2; explicit = y; data_set = text2; begins = refl }))

same_ends : {b b2 : List ℕ} {tag tag2 : Tag} → b ≡ b2 → EndFault codings.Explicit check_limits b tag → EndFault codings.Explicit check_limits b2 tag2 → tag ≡ tag2
same_ends {b = b} {b2 = b2} {tag = tag} {tag2 = tag2} same end end2 =
    let moved : EndFault codings.Explicit check_limits b tag2 = subst (λ z. EndFault codings.Explicit check_limits z tag2) (sym same) end2 in
    let path = one_path codings.Explicit b end.elements moved.elements end.path moved.path end.last moved.last end.tail moved.tail end.front moved.front in
    end.tagged ∙ (ap tag_of_tail path.3 ∙ sym moved.tagged)

pub one_check_fault : OneCheckFault
one_check_fault file _ _ _ _ _ _ (in_header fault is) (in_header fault2 is2) = grind (arith, common_steps, one_verdict)
one_check_fault file _ _ _ _ _ _ (in_header fault is) (in_syntax meta implicit) = absurd (implicit_is_allowed meta implicit fault is)
one_check_fault file _ _ _ _ _ _ (in_header fault is) (in_data_set y first) = absurd (header_is_consumed y fault is)
one_check_fault file _ _ _ _ _ _ (in_header fault is) (at_the_end y end) = absurd (header_is_consumed y fault is)
one_check_fault file _ _ _ _ _ _ (in_header fault is) (in_directory y unbroken text reported) = absurd (header_is_consumed y fault is)
one_check_fault file _ _ _ _ _ _ (in_syntax meta implicit) (in_header fault is) = absurd (implicit_is_allowed meta implicit fault is)
one_check_fault file _ _ _ _ _ _ (in_syntax meta implicit) (in_syntax meta2 implicit2) = (refl, refl, refl)
one_check_fault file _ _ _ _ _ _ (in_syntax meta implicit) (in_data_set y first) = absurd (not_implicit y meta implicit)
one_check_fault file _ _ _ _ _ _ (in_syntax meta implicit) (at_the_end y end) = absurd (not_implicit y meta implicit)
one_check_fault file _ _ _ _ _ _ (in_syntax meta implicit) (in_directory y unbroken text reported) = absurd (not_implicit y meta implicit)
one_check_fault file _ _ _ _ _ _ (in_data_set x first) (in_header fault is) = absurd (header_is_consumed x fault is)
one_check_fault file _ _ _ _ _ _ (in_data_set x first) (in_syntax meta implicit) = absurd (not_implicit x meta implicit)
one_check_fault file _ _ _ _ _ _ (in_data_set {front = front} {back = back} {p = p} {u = u} {rule = rule} {tag = tag} x first) (in_data_set {front = front2} {p = p2} {u = u2} {rule = rule2} {tag = tag2} y first2) =
    let fronts = same_fronts x y in
    let moved = subst (λ z. FirstFault codings.Explicit check_limits z p2 u2 rule2 tag2) (sym fronts.1) first2 in
    let same = one_fault codings.Explicit check_limits back p p2 u u2 rule rule2 tag tag2 first moved in
    (same.2, (λ i. length (fronts.0 i) + length (same.0 i)), same.3)
one_check_fault file _ _ _ _ _ _ (in_data_set x first) (at_the_end {back = back} y end) =
    absurd (no_first_fault (unbroken_there back _ (same_fronts y x).1 end.unbroken) first)
one_check_fault file _ _ _ _ _ _ (in_data_set x first) (in_directory {back = back} y unbroken text reported) =
    absurd (no_first_fault (unbroken_there back _ (same_fronts y x).1 unbroken) first)
one_check_fault file _ _ _ _ _ _ (at_the_end x end) (in_header fault is) = absurd (header_is_consumed x fault is)
one_check_fault file _ _ _ _ _ _ (at_the_end x end) (in_syntax meta implicit) = absurd (not_implicit x meta implicit)
one_check_fault file _ _ _ _ _ _ (at_the_end {back = back} x end) (in_data_set y first) =
    absurd (no_first_fault (unbroken_there back _ (same_fronts x y).1 end.unbroken) first)
one_check_fault file _ _ _ _ _ _ (at_the_end x end) (at_the_end y end2) = (refl, refl, same_ends (same_fronts x y).1 end end2)
one_check_fault file _ _ _ _ _ _ (at_the_end x end) (in_directory y unbroken text reported) = absurd (no_end_fault (same_fronts y x).1 text end)
one_check_fault file _ _ _ _ _ _ (in_directory x unbroken text reported) (in_header fault is) = absurd (header_is_consumed x fault is)
one_check_fault file _ _ _ _ _ _ (in_directory x unbroken text reported) (in_syntax meta implicit) = absurd (not_implicit x meta implicit)
one_check_fault file _ _ _ _ _ _ (in_directory {back = back} x unbroken text reported) (in_data_set y first) =
    absurd (no_first_fault (unbroken_there back _ (same_fronts x y).1 unbroken) first)
one_check_fault file _ _ _ _ _ _ (in_directory x unbroken text reported) (at_the_end y end) = absurd (no_end_fault (same_fronts x y).1 text end)
one_check_fault file _ _ _ _ _ _ (in_directory x unbroken text reported) (in_directory y unbroken2 text2 reported2) = grind (arith, common_steps, same_directory_faults x y text text2 reported reported2)
