-- The faults of a directory come in order: of the file (`file_fails`), its elements (`fails_first`, `fails_last`), its
-- records (`fails_in_records`), their links (`fails_in_links`); without one its nodes are those of the file
-- (`file_nodes`). Stands on FaultFree, PathForests, RecordsAreAsSpelled and the laws of `sequence`.
use Rattle.std.proofs.Common.{◌≡◌, ◌≢◌, ℕ, suc, List, [], length, map, Option, Some, None, length-append, ◌-◌, refl, sym, ap, subst, ◌∙◌, arith}
use Rattle.std.proofs.lemmas.List.{append-nil}
use Rattle.sequence.specs.declared.coding.Coding.{Coding}
use Rattle.sequence.specs.declared.coding.Coding.TheVariants.{Explicit}
use Rattle.sequence.proofs.Public.{whole_breaks_no_rule}
use Rattle.sequence.specs.Ending.{IsWholeDataSet}
use Rattle.sequence.specs.Rules.{no_tag}
use Rattle.sequence.specs.Tree.{Elements, Items, DataSet}
use Rattle.dicomdir.specs.declared.fault.DirFault.{DirFault}
use Rattle.dicomdir.specs.declared.links.Root.{Root}
use Rattle.dicomdir.specs.declared.records.ReadRecord.{ReadRecord}
use Rattle.dicomdir.specs.declared.tree.TreeRecord.{TreeRecord}
use Rattle.dicomdir.specs.DirFault.{check_limits, CheckFault, HasHeader, in_directory, Fault, fault, ◌or_else◌, offset_fault, records_fault, root_fault, each_fault, links_of, links_fault, records_then_links, directory_fault}
use Rattle.dicomdir.specs.Directory.{found, Record, records_at, records_of}
use Rattle.dicomdir.specs.machine.Trail.{AreEntries, AreRead, AreFollowed, FailsToFollow, FailsAs, IsRootOffset, ChecksAs}
use Rattle.dicomdir.specs.NodesInUse.{LevelNode, nodes_in_use, HasNodes, node_of}
use Rattle.dicomdir.specs.machine.Texts.{HasElements, nothing_after, FindsItems}
use Rattle.dicomdir.proofs.FaultFree.{sound_by}
use Rattle.dicomdir.proofs.PathForests.{or_some, or_none, forest_nodes}
use Rattle.dicomdir.proofs.RecordsAreAsSpelled.{entries_good, records_rise}
use Rattle.std.proofs.lemmas.Grind.{common_steps}

-- ---- faults

pub fails_at : (o : Option Fault) (n offset : ℕ) (f : DirFault) → f ≡ record { number = n; offset = offset; tag = no_tag } → n ≢ 67 → o ≡ fault n offset → FailsAs o f
fails_at o n offset f is other at = grind (arith, common_steps)

fails_on : (o p : Option Fault) (f : DirFault) → FailsAs o f → ((x : Fault) → o ≡ Some x → p ≡ Some x) → FailsAs p f
fails_on o p f is on = record { tag = is.tag; memory = is.memory; fault = λ e. on (record { number = f.number; offset = f.offset }) (is.fault e) }

-- ---- the whole directory

pub whole_elements : {es : Elements} {text : List ℕ} → DataSet Explicit 0 es text → HasElements Explicit es text
whole_elements {text = text} d = record { more = []; after = nothing_after; spelled = record { native = refl; bytes = text; data_set = d; whole = sym (append-nil text) } }

pub fails_first : (start : ℕ) (es : Elements) (f : DirFault) → FailsAs (offset_fault start (found 0x00041200 start es)) f → FailsAs (directory_fault start es) f
unfolding directory_fault
fails_first start es f is = grind (arith, common_steps)

pub fails_last : (start : ℕ) (es : Elements) (f : DirFault) → offset_fault start (found 0x00041200 start es) ≡ None
    → FailsAs (offset_fault start (found 0x00041202 start es)) f → FailsAs (directory_fault start es) f
unfolding directory_fault
fails_last start es f first is = grind (arith, common_steps)

pub fails_without_records : (start : ℕ) (es : Elements) (f : DirFault) → offset_fault start (found 0x00041200 start es) ≡ None → offset_fault start (found 0x00041202 start es) ≡ None
    → FailsAs (records_fault start (found 0x00041220 start es)) f → FailsAs (directory_fault start es) f
unfolding directory_fault
fails_without_records start es f first last is = grind (arith, common_steps)

-- the records, where both offsets of the root are good
pub record HasRecords (start : ℕ) (es : Elements) (records : List Record) : Type 0 where
  pub are : records_of start es ≡ Some records
  pub good : root_fault start es ≡ None

directory_is : (start : ℕ) (es : Elements) (records : List Record) → HasRecords start es records → directory_fault start es ≡ (each_fault records or_else links_fault start es (links_of start es records))
unfolding directory_fault
directory_is start es records has = grind (arith, common_steps, or_none (root_fault start es) (records_then_links start es (records_of start es)) has.good)

pub has_records : (s : Coding) (start p first : ℕ) (es : Elements) (text : List ℕ) (finds : FindsItems p first s text (found 0x00041220 start es))
    → offset_fault start (found 0x00041200 start es) ≡ None → offset_fault start (found 0x00041202 start es) ≡ None
    → HasRecords start es (records_at first finds.items)
has_records s start p first es text finds first_good last_good = grind (arith, common_steps)

pub fails_in_records : (start : ℕ) (es : Elements) (records : List Record) (f : DirFault) → HasRecords start es records → FailsAs (each_fault records) f → FailsAs (directory_fault start es) f
fails_in_records start es records f has is = grind (arith, common_steps, fails_on (each_fault records) (directory_fault start es) f is, directory_is start es records has, or_some)

pub fails_in_links : (start : ℕ) (es : Elements) (records : List Record) (root : Root) (entries : List ReadRecord) (f : DirFault) → HasRecords start es records
    → AreRead root entries start es records → FailsToFollow root entries f → FailsAs (directory_fault start es) f
fails_in_links start es records root entries f has read fails = grind (arith, common_steps, directory_is start es records has, or_none (each_fault records) (links_fault start es (links_of start es records)) (entries_good read.entries_are), entries_good read.entries_are)

pub checks_as : (start : ℕ) (es : Elements) (records : List Record) (root : Root) (entries : List ReadRecord) (old new : List TreeRecord) (nodes : List LevelNode) → HasRecords start es records
    → AreRead root entries start es records → old ≡ [] → AreFollowed root entries old new → nodes ≡ map node_of new → ChecksAs start es nodes
checks_as start es records root entries old new nodes has read none followed same = grind (arith, common_steps, directory_is start es records has, or_none (each_fault records) (links_fault start es (links_of start es records)) (entries_good read.entries_are), entries_good read.entries_are)

-- ---- the file

pub file_fails : {file back : List ℕ} (h : HasHeader file back) (start : ℕ) (whole : IsWholeDataSet Explicit check_limits back) (f : DirFault) → start ≡ length file - length back
    → FailsAs (directory_fault start whole.elements) f → f.number ≢ 67 → CheckFault file f.number f.offset f.tag
file_fails {file = file} {back = back} h start whole f from fails other =
    let long = ap length h.explicit.whole ∙ length-append h.front back in
    let begins : start ≡ length h.front = omega (arith, long, from) in
    let reported : directory_fault (length h.front) whole.elements ≡ Some (record { number = f.number; offset = f.offset }) =
    ap (λ n. directory_fault n whole.elements) (sym begins) ∙ fails.fault other in
    subst (λ t. CheckFault file f.number f.offset t) (sym fails.tag)
    (in_directory h.explicit (whole_breaks_no_rule Explicit check_limits back whole) whole.text reported)

pub file_nodes : {file back : List ℕ} (h : HasHeader file back) (start : ℕ) (es : Elements) (nodes : List LevelNode) → start ≡ length file - length back
    → DataSet Explicit 0 es back → ChecksAs start es nodes → HasNodes file nodes
file_nodes {file = file} {back = back} h start es nodes from spelled checks =
    let long = ap length h.explicit.whole ∙ length-append h.front back in
    let by = sound_by start es checks.records checks.are checks.no_fault in
    let collected = forest_nodes (suc (length checks.records)) (links_of start es checks.records) [] in
    record {
      start = start;
      elements = es;
      tree = by.tree;
      is_file = record { front = h.front; back = back; explicit = h.explicit; data_set = spelled; begins = omega (arith, long, from) };
      linked = by.linked;
      all_reached = by.all_reached;
      nodes_are = ap (nodes_in_use 1) by.placed_is ∙ sym (checks.nodes_are ∙ collected);
    }

pub are_read : (start first : ℕ) (es : Elements) (items : Items) (root : Root) (entries : List ReadRecord)
    → IsRootOffset start (found 0x00041200 start es) root.first_position root.first → IsRootOffset start (found 0x00041202 start es) root.last_position root.last
    → AreEntries entries (records_at first items) → AreRead root entries start es (records_at first items)
are_read start first es items root entries one other are = grind (arith, common_steps, records_rise 0 first items (omega arith))
