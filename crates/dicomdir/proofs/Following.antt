-- Following the links starts at the root (`starts`), continues from turn to turn (`turn`), and ends with a fault (`stops`) or
-- with all nodes (`nodes_of_all`). Stands on FaultFree, PathForests and Trails.
use Rattle.std.proofs.Common.{◌≡◌, ℕ, suc, ◌<◌, ◌≤◌, ◌-◌, min, Bool, true, false, ◌&&◌, ◌||◌, List, [], ◌∷◌, ◌++◌, length, replicate, set, get_or, Option, Some, None, Result, IfErr, refl, sym, ap, subst, ◌∙◌, arith, nat_eq, if◌then◌else◌}
use Rattle.std.proofs.lemmas.Bool.{cond-true, cond-false}
use Rattle.std.specs.List.{flat_map}
use Rattle.std.proofs.lemmas.Bool.Decides.{nat_tests}
use Rattle.std.proofs.lemmas.Grind.{flat_map-append, common_steps}
use Rattle.std.proofs.lemmas.List.{append-nil, append_assoc, map-append}
use Rattle.std.proofs.lemmas.List.Elements.{filter-append}
use Rattle.std.proofs.lemmas.List.Folds.{list_any-append}
use Rattle.sequence.specs.Tree.{Elements}
use Rattle.sequence.specs.Rules.{no_tag}
use Rattle.dicomdir.specs.declared.fault.DirFault.{DirFault}
use Rattle.dicomdir.specs.declared.links.Root.{Root}
use Rattle.dicomdir.specs.declared.links.Mark.{Mark}
use Rattle.dicomdir.specs.declared.links.Step.{Step}
use Rattle.dicomdir.specs.declared.records.ReadRecord.{ReadRecord}
use Rattle.dicomdir.specs.Directory.{found, Record, Node, carried_node, last_offset, or_zero}
use Rattle.dicomdir.specs.Linked.{record_at, fits, fits_level, is_one_of, elements_at, lower_at, next_at}
use Rattle.dicomdir.specs.Paths.{Links, Turn, named_by, level_of, paths_of, reached_by, root_records, last_from}
use Rattle.dicomdir.specs.DirFault.{Fault, fault, ◌or_else◌, path_fault, first_fault, unreached_fault, links_of, links_fault, offset_in}
use Rattle.dicomdir.specs.NodesInUse.{LevelNode}
use Rattle.dicomdir.specs.machine.Trail.{AreRead, FailsToFollow, carried_by, path_along, mark_of, own_node, node_on, paths_on, later, expected, AreMarks, IsStep, AreFlagged, LeadsTo, Continues}
use Rattle.dicomdir.proofs.PathForests.{lower_path, next_path, paths_more, elements_is, path_free, or_some}
use Rattle.dicomdir.proofs.FaultFree.{IsIn, not_false, one_more_in, few_in}
use Rattle.dicomdir.proofs.Trails.{length_along, AtEntry, at_entry, length_entries, none_flagged}

-- the paths that are gone had no fault, the rest is to come, and what was collected is of those that are gone
pub record Following (links : Links) (entries : List ReadRecord) (flags : List Bool) (ms : List Mark) (pending : Option Step) (before nodes : List LevelNode) (last : ℕ) : Type 0 where
  pub gone : List (List Turn)
  pub reached : List ℕ
  pub whole : paths_of links ≡ gone ++ expected links ms pending
  pub good : (more : List (List Turn)) → first_fault links [] (gone ++ more) ≡ first_fault links reached more
  pub members : (p : ℕ) → is_one_of p reached ≡ is_one_of p (reached_by links gone)
  pub nodes_are : before ++ flat_map (node_on links) gone ≡ nodes
  pub last_is : last_from 0 (root_records links gone) ≡ last
  pub is_in : IsIn links.records reached
  pub few : length ms ≤ length reached
  pub flagged : AreFlagged entries flags links.records reached
  pub marks : AreMarks links ms
  pub step : IsStep links ms pending

pub starts : (links : Links) (entries : List ReadRecord) (start : ℕ) (es : Elements) (root : Root) (flags : List Bool) (pending : Option Step) (nodes : List LevelNode)
    → AreRead root entries start es links.records → flags ≡ replicate (length entries) false
    → (paths_of links ≡ expected links [] pending) × IsStep links [] pending
    → Following links entries flags [] pending nodes nodes 0
starts links entries start es root flags pending nodes read none begins = record {
  gone = [];
  reached = [];
  whole = begins.0;
  good = λ more. refl;
  members = λ p. refl;
  nodes_are = append-nil nodes;
  last_is = refl;
  is_in = record { distinct = refl; inside = λ p h. absurd cc };
  few = omega arith;
  flagged = record {
    are = read.entries_are;
    rise = read.rise;
    flagged = none ∙ (ap (λ n. replicate n false) (length_entries entries links.records read.entries_are) ∙ sym (none_flagged links.records));
  };
  marks = tt;
  step = begins.1;
}

-- a record in use that fits its level stands on one of four

small_level : (level : ℕ) (kind : List ℕ) → fits_level level kind ≡ true → level ≤ 4
small_level level kind e = grind (arith, nat_tests)

same_level : (level real : ℕ) (n : Node) → n.in_use ≡ true → level ≡ min real 5 → fits real n ≡ true → real ≡ level
same_level level real n used is fit =
    let on : fits_level real n.kind ≡ true = rw used at fit in
    let small = small_level real n.kind on in
    omega (arith, small, is)

own_same : (shown : Bool) (level real offset : ℕ) (n : Node) → level ≡ min real 5 → fits real n ≡ true → own_node shown real offset n ≡ own_node shown level offset n
own_same shown level real offset n is fit = grind (arith, common_steps, same_level)

-- the path that is open, and those that continue from it

open_path : (links : Links) (lower : Bool) (ms : List Mark) (reached : List ℕ) → IsIn links.records reached → length ms ≤ length reached
    → nat_eq (named_by links (path_along lower ms)) 0 ≡ false
    → paths_on links (path_along lower ms)
    ≡ path_along lower ms ∷ (paths_on links (lower_path links (path_along lower ms)) ++ paths_on links (next_path links (path_along lower ms)))
open_path links lower ms reached inside few some =
    let path : List Turn = path_along lower ms in
    grind (arith, common_steps, few_in links.records reached inside, length_along lower ms, paths_more (suc (length links.records) - suc (length path)) links path some)

-- the entry of a target, as what its record says
pub record Turned (links : Links) (entries : List ReadRecord) (flags : List Bool) (path : List Turn) (reached : List ℕ) (e : ReadRecord) (at : ℕ) : Type 0 where
  pub offset : e.offset ≡ named_by links path
  pub carries : carried_by e ≡ carried_node (elements_at links.records (named_by links path))
  pub lower : e.lower ≡ lower_at links.records (named_by links path)
  pub next : e.next ≡ next_at links.records (named_by links path)
  pub flagged : AreFlagged entries (set flags at true) links.records (named_by links path ∷ reached)
  pub is_in : IsIn links.records (named_by links path ∷ reached)
  pub fit : fits (level_of path) (carried_node (elements_at links.records (named_by links path))) ≡ true

turned : (links : Links) (entries : List ReadRecord) (flags : List Bool) (path : List Turn) (reached : List ℕ) (e : ReadRecord) (at : ℕ)
    → IsIn links.records reached → AreFlagged entries flags links.records reached → path_fault links reached path ≡ None
    → ((d : ReadRecord) → (get_or entries at d).offset ≡ named_by links path)
    → e ≡ get_or entries at e → at < length entries → Turned links entries flags path reached e at
turned links entries flags path reached e at inside flagged good finds is fits_in =
    let o : ℕ = named_by links path in
    let free = path_free links reached path good in
    let there : AtEntry e links.records at 0 = subst (λ z. AtEntry z links.records at 0) (sym is) (at_entry entries links.records 0 at e flagged.are flagged.rise fits_in) in
    let offset : e.offset ≡ o = ap (λ z. z.offset) is ∙ finds e in
    let same_offset : there.of_it.offset ≡ o = sym there.is.says.offset ∙ offset in
    let stands : record_at o links.records ≡ Some there.of_it.elements = ap (λ z. record_at z links.records) (sym same_offset) ∙ there.stands in
    grind (arith, common_steps, path_free links reached path good, at_entry entries links.records 0 at e flagged.are flagged.rise fits_in, elements_is (record_at o links.records) there.of_it.elements stands, one_more_in links.records reached o there.of_it.elements inside stands free.1, not_false (fits (level_of path) (carried_node (elements_at links.records o))) free.2)

-- what was collected, with one more path

one_more_named : (a b : Bool) → (a || b) ≡ (b || (a || false))
one_more_named v1 v2 = grind (arith, nat_tests)

last_of_more : (n x : ℕ) (xs : List ℕ) → last_from n (xs ++ x ∷ []) ≡ x
last_of_more n x [] = refl
last_of_more n x (y ∷ xs) = last_of_more y x xs

last_root : (links : Links) (gone : List (List Turn)) (path : List Turn) (level last : ℕ) → level ≡ min (level_of path) 5 → last_from 0 (root_records links gone) ≡ last
    → last_from 0 (root_records links (gone ++ path ∷ [])) ≡ (if nat_eq level 1 then named_by links path else last)
last_root links gone path level last counted is = grind (arith, common_steps, last_of_more 0 (named_by links path) (root_records links gone), append-nil (root_records links gone), filter-append, map-append)

pub turn : (links : Links) (entries : List ReadRecord) (flags : List Bool) (ms marked ms2 : List Mark) (step : Step) (pending2 : Option Step) (before nodes nodes2 : List LevelNode) (last last2 : ℕ) (e : ReadRecord) (at : ℕ)
    → Following links entries flags ms (Some step) before nodes last
    → LeadsTo entries flags ms step at
    → e ≡ get_or entries at e → at < length entries
    → nodes2 ≡ nodes ++ own_node step.shown step.level e.offset (carried_by e) → marked ≡ mark_of e step ∷ ms
    → last2 ≡ (if nat_eq step.level 1 then e.offset else last)
    → Continues marked ms2 step pending2 e
    → Following links entries (set flags at true) ms2 pending2 before nodes2 last2
turn links entries flags ms marked ms2 step pending2 before nodes nodes2 last last2 e at f target is fits_in added shape ends after =
    let path : List Turn = path_along step.begins ms in
    let o : ℕ = named_by links path in
    let here : Continues (mark_of e step ∷ ms) ms2 step pending2 e = subst (λ z. Continues z ms2 step pending2 e) shape after in
    let found = target links f.reached f.flagged f.step in
    let got = turned links entries flags path f.reached e at f.is_in f.flagged found.good (λ d. found.offset d ∙ f.step.1) is fits_in in
    let some : nat_eq o 0 ≡ false = grind (arith, nat_tests, f.step.0, f.step.1) in
    let marks : AreMarks links (mark_of e step ∷ ms) = (got.next ∙ ap (λ z. next_at links.records z) (sym got.offset), f.step.2, f.marks) in
    let used : e.in_use ≡ (carried_node (elements_at links.records e.offset)).in_use = ap (λ z. z.in_use) got.carries ∙ ap (λ z. (carried_node (elements_at links.records z)).in_use) (sym got.offset) in
    let goes = here links (level_of path) marks (got.lower ∙ ap (λ z. lower_at links.records z) (sym got.offset)) f.step.2.0 refl (λ i. f.step.2.1 i && used i) in
    let few = f.few in
    let fewer = goes.fewer in
    let opened : expected links ms (Some step) ≡ path ∷ expected links ms2 pending2 =
    ap (λ z. z ++ later links step.begins ms) (open_path links step.begins ms f.reached f.is_in few some)
    ∙ (ap (λ z. path ∷ z) (append_assoc (paths_on links (lower_path links path)) (paths_on links (next_path links path)) (later links step.begins ms))
    ∙ ap (λ z. path ∷ z) ((λ i. paths_on links (record { offset = sym got.offset i; lower = true } ∷ path) ++ (paths_on links (record { offset = sym got.offset i; lower = false } ∷ path) ++ later links step.begins ms)) ∙ goes.received)) in
    let nodes_same : node_on links path ≡ own_node step.shown step.level e.offset (carried_by e) =
    (λ i. own_node (sym f.step.2.1 i) (level_of path) o (carried_node (elements_at links.records o)))
    ∙ (own_same step.shown step.level (level_of path) o (carried_node (elements_at links.records o)) f.step.2.0 got.fit
    ∙ (λ i. own_node step.shown step.level (sym got.offset i) (sym got.carries i))) in
    record {
      gone = f.gone ++ path ∷ [];
      reached = o ∷ f.reached;
      whole = f.whole ∙ (ap (λ z. f.gone ++ z) opened ∙ sym (append_assoc f.gone (path ∷ []) (expected links ms2 pending2)));
      good = λ more. ap (λ z. first_fault links [] z) (append_assoc f.gone (path ∷ []) more)
          ∙ (f.good (path ∷ more) ∙ ap (λ z. z or_else first_fault links (o ∷ f.reached) more) found.good);
      members = λ p. ap (λ z. nat_eq p o || z) (f.members p)
          ∙ (one_more_named (nat_eq p o) (is_one_of p (reached_by links f.gone))
          ∙ (sym (list_any-append (nat_eq p) (reached_by links f.gone) (o ∷ []))
          ∙ ap (λ z. is_one_of p z) (sym (map-append (named_by links) f.gone (path ∷ [])))));
      nodes_are = ap (λ z. before ++ z) (flat_map-append (node_on links) f.gone (path ∷ []))
          ∙ (sym (append_assoc before (flat_map (node_on links) f.gone) (node_on links path ++ []))
          ∙ ((λ i. f.nodes_are i ++ append-nil (node_on links path) i) ∙ (ap (λ z. nodes ++ z) nodes_same ∙ sym added)));
      last_is = last_root links f.gone path step.level last f.step.2.0 f.last_is ∙ ((λ i. if nat_eq step.level 1 then sym got.offset i else last) ∙ sym ends);
      is_in = got.is_in;
      few = omega (arith, few, fewer);
      flagged = got.flagged;
      marks = goes.marks;
      step = goes.step;
    }

-- where no offset comes next, the paths that are gone are all

pub stops : (start : ℕ) (es : Elements) (links : Links) (entries : List ReadRecord) (flags : List Bool) (ms : List Mark) (step : Step) (before nodes : List LevelNode) (last : ℕ) (f : Fault)
    → (at : Following links entries flags ms (Some step) before nodes last)
    → path_fault links at.reached (path_along step.begins ms) ≡ Some f
    → links_fault start es links ≡ Some f
stops start es links entries flags ms step before nodes last f at bad =
    let path : List Turn = path_along step.begins ms in
    let some : nat_eq (named_by links path) 0 ≡ false = grind (arith, nat_tests, at.step.0, at.step.1) in
    grind (arith, common_steps, open_path links step.begins ms at.reached at.is_in at.few some, or_some)

same_unreached : (more names : List ℕ) (records : List Record) → ((p : ℕ) → is_one_of p more ≡ is_one_of p names) → unreached_fault more records ≡ unreached_fault names records
same_unreached more names [] members = refl
same_unreached more names (r ∷ records) members = grind (arith, common_steps, same_unreached more names records members)

-- then the root's last offset, and what was not reached, decide
ends : (start : ℕ) (es : Elements) (links : Links) (entries : List ReadRecord) (flags : List Bool) (ms : List Mark) (before nodes : List LevelNode) (last : ℕ)
    → (at : Following links entries flags ms None before nodes last)
    → links_fault start es links
    ≡ ((if nat_eq (or_zero (last_offset start es)) last then None else fault 60 (offset_in (found 0x00041202 start es))) or_else unreached_fault at.reached links.records)
ends start es links entries flags ms before nodes last at = grind (arith, common_steps, append-nil at.gone, same_unreached at.reached (reached_by links at.gone) links.records at.members)

pub ends_elsewhere : (root : Root) (entries : List ReadRecord) (start : ℕ) (es : Elements) (records : List Record) (flags : List Bool) (ms : List Mark) (before nodes : List LevelNode) (last : ℕ)
    → AreRead root entries start es records → Following (links_of start es records) entries flags ms None before nodes last
    → (root.last ≡ last → ⊥) → links_fault start es (links_of start es records) ≡ fault 60 root.last_position
ends_elsewhere root entries start es records flags ms before nodes last read at other =
    let there : ℕ = or_zero (last_offset start es) in
    let differs : (there ≡ last) → ⊥ = λ same. other (read.last ∙ same) in
    let test : nat_eq there last ≡ false = grind (arith, nat_tests, differs) in
    grind (arith, common_steps, cond-false (nat_eq there last) None (fault 60 (offset_in (found 0x00041202 start es))) test, ends start es (links_of start es records) entries flags ms before nodes last at)

pub ends_there : (root : Root) (entries : List ReadRecord) (start : ℕ) (es : Elements) (records : List Record) (flags : List Bool) (ms : List Mark) (before nodes : List LevelNode) (last : ℕ)
    → AreRead root entries start es records → (at : Following (links_of start es records) entries flags ms None before nodes last)
    → root.last ≡ last → links_fault start es (links_of start es records) ≡ unreached_fault at.reached records
ends_there root entries start es records flags ms before nodes last read at same =
    let there : ℕ = or_zero (last_offset start es) in
    let is : there ≡ last = sym read.last ∙ same in
    let test : nat_eq there last ≡ true = grind (arith, nat_tests, is) in
    grind (arith, common_steps, cond-true (nat_eq there last) None (fault 60 (offset_in (found 0x00041202 start es))) test, ends start es (links_of start es records) entries flags ms before nodes last at)

pub nodes_of_all : (links : Links) (entries : List ReadRecord) (flags : List Bool) (ms : List Mark) (before nodes : List LevelNode) (last : ℕ)
    → Following links entries flags ms None before nodes last
    → nodes ≡ before ++ flat_map (node_on links) (paths_of links)
nodes_of_all links entries flags ms before nodes last at = grind (arith, common_steps, append-nil at.gone)

pub none_is : (o : Option Step) → ((s : Step) → o ≡ Some s → ⊥) → o ≡ None
none_is v1 other = grind (arith, nat_tests)

-- a fault of the links, and one of the allocator

pub fault_fails : (root : Root) (entries : List ReadRecord) (f : DirFault) → f.tag ≡ no_tag → (f.number ≡ 67 → ⊥)
    → ((start : ℕ) (es : Elements) (records : List Record) → AreRead root entries start es records → links_fault start es (links_of start es records) ≡ Some (record { number = f.number; offset = f.offset }))
    → FailsToFollow root entries f
fault_fails root entries f tag other fault = grind (arith, common_steps)

pub both_err : {A E : Type 0} (P Q R : E → Type 0) (r : Result A E) → IfErr r P → IfErr r Q → ((e : E) → P e → Q e → R e) → IfErr r R
both_err v1 v2 v3 v4 p q f = grind (arith, nat_tests)
