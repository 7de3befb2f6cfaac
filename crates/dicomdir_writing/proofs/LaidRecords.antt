-- The record of a row is laid down as the standard has it, with any offsets (`record_node`), which are read back
-- (`number_back`). Stands on Laid, RecordIsItsElements and the laws of `dicomdir`.
use Rattle.std.proofs.Common.{◌≡◌, ℕ, ◌<◌, ◌≤◌, ◌^◌, Bool, true, false, not, cond, ◌&&◌, ◌||◌, List, [], ◌∷◌, nat_le, nat_lt, nat_eq, Option, Some, None, is_some, refl, sym, subst, ap, ◌∙◌, arith, codes, rules}
use Rattle.std.specs.List.{list_all}
use Rattle.std.specs.Str.{bytes_eq}
use Rattle.std.proofs.lemmas.Bool.{and_parts, leb-true}
use Rattle.std.proofs.lemmas.Bool.Decides.{nat_tests}
use Rattle.element.specs.declared.header.Header.{Header}
use Rattle.element.specs.declared.tag.Tag.{Tag}
use Rattle.element.specs.Header.{number}
use Rattle.std.proofs.lemmas.List.{append-nil}
use Rattle.byteorder.specs.Numbers.{little_number-reads_back}
use Rattle.byteorder.specs.Endian.{little_number}
use Rattle.element.specs.Numbers.{le}
use Rattle.element.specs.Padding.{padded}
use Rattle.element.specs.Vr.{is_short}
use Rattle.sequence.specs.Tree.{Elements, no_elements, value, sequence}
use Rattle.dicomdir_writing.specs.declared.record_table.RecordRule.{RecordRule}
use Rattle.dicomdir_writing.specs.declared.record_table.ElementType.{ElementType}
use Rattle.dicomdir.specs.declared.level.Level.{Level}
use Rattle.dicomdir.specs.declared.level.Level.TheVariants.{Patient, Study, Series, Image}
use Rattle.dicomdir.specs.Directory.{missing, found, carried_node, next_offset, lower_offset, has_record, has_file_id, key}
use Rattle.dicomdir.specs.FileId.{file_id_of}
use Rattle.dicomdir_writing.specs.RecordTable.{has_level, key_table, record_table}
use Rattle.dicomdir_writing.specs.Keys.{IsRow, optional_size}
use Rattle.dicomdir_writing.specs.machine.RowRecords.{values_with_offsets, fits_rule}
use Rattle.dicomdir_writing.specs.Record.{with_offsets, tag, field, padding_for, field_of, written, fields, own_values, says, record_for}
use Rattle.dicomdir.specs.Level.{kind_of, is_image}
use Rattle.dicomdir.specs.Linked.{fits}
use Rattle.dicomdir_writing.specs.Row.{Row}
use Rattle.dicomdir.proofs.Public.{file_id_back}
use Rattle.dicomdir_writing.proofs.Laid.{is_laid, is_header, is_element, IsGood, is_fixed, good_none, good_value}
use Rattle.dicomdir_writing.proofs.RecordIsItsElements.{record_fields, record_rooms}
use Rattle.std.proofs.lemmas.Grind.{common_steps}

rising_more : (last more : ℕ) (es : Elements) → last ≤ more → IsGood more es → IsGood last es
rising_more last more es le good = record { laid = later last more es le good.laid; size = good.size; even = good.even }
  where
    above : (last more n : ℕ) → last ≤ more → nat_lt more n ≡ true → nat_lt last n ≡ true
    above last more n le e = grind (arith, nat_tests)

    first : (a b c d : Bool) → (a ≡ true → b ≡ true) → ((a && c) && d) ≡ true → ((b && c) && d) ≡ true
    first v1 b c d f e = grind (arith, nat_tests)

    second : (a b c d : Bool) → (a ≡ true → b ≡ true) → ((c && a) && d) ≡ true → ((c && b) && d) ≡ true
    second v1 b c d f e = grind (arith, nat_tests)

    before : (last more : ℕ) (h : Header) → last ≤ more → is_element more h ≡ true → is_element last h ≡ true
    before last more h le e = second (nat_lt more (number h.tag)) (nat_lt last (number h.tag)) (is_header h) _ (above last more (number h.tag) le) e

    later : (last more : ℕ) (es : Elements) → last ≤ more → is_laid more es ≡ true → is_laid last es ≡ true
    later last more no_elements le e = refl
    later last more (value h v es) le e = first (is_element more h) (is_element last h) _ _ (before last more h le) e
    later last more (sequence h is es) le e = first (is_element more h) (is_element last h) _ _ (before last more h le) e

-- tags rise, VRs are short, and no value has more than 1024 bytes
abbrev are_fixed : ℕ → List RecordRule → Bool
are_fixed last [] = true
are_fixed last (rule ∷ rules) = (is_fixed last rule.tag rule.vr && nat_le rule.room 1024) && are_fixed (number rule.tag) rules

table_fixed : are_fixed 0 record_table ≡ true
unfolding is_short
table_fixed = refl

rises : (last : ℕ) (t : Tag) (vr : List ℕ) → is_fixed last t vr ≡ true → last ≤ number t
rises last t vr e = grind (arith, nat_tests)

either : {last : ℕ} {es others : Elements} (b : Bool) → IsGood last es → IsGood last others → IsGood last (cond b es others)
either v1 one other = grind (arith, nat_tests)

written_size : (kind : ElementType) (o : Option (List ℕ)) → optional_size (written kind o) ≤ optional_size o
written_size v1 o = grind (arith, nat_tests)

good_field_of : (last : ℕ) (rule : RecordRule) (o : Option (List ℕ)) (es : Elements) → is_fixed last rule.tag rule.vr ≡ true → optional_size o ≤ 1024 → IsGood (number rule.tag) es → IsGood last (field_of rule o es)
good_field_of last rule None es fixed short good = rising_more last (number rule.tag) es (rises last rule.tag rule.vr fixed) good
good_field_of last rule (Some v) es fixed short good = good_value last rule.tag rule.vr (padding_for rule.vr) v es fixed short good

good_fields : (level : Level) (last : ℕ) (rules : List RecordRule) (says : ℕ → Option (List ℕ)) → are_fixed last rules ≡ true → list_all (fits_rule says) rules ≡ true → IsGood last (fields level rules says)
good_fields level last [] says f e = good_none last
good_fields level last (rule ∷ rules) says f e =
    let parts = and_parts (is_fixed last rule.tag rule.vr && nat_le rule.room 1024) _ f in
    let here = and_parts (is_fixed last rule.tag rule.vr) (nat_le rule.room 1024) parts.0 in
    let fits = and_parts (fits_rule says rule) _ e in
    let more = good_fields level (number rule.tag) rules says parts.1 fits.1 in
    let room : rule.room ≤ 1024 = leb-true rule.room 1024 here.1 in
    let size : optional_size (says (number rule.tag)) ≤ rule.room = leb-true _ _ fits.0 in
    let less = written_size rule.kind (says (number rule.tag)) in
    either (has_level rule.levels level)
    (good_field_of last rule (written rule.kind (says (number rule.tag))) _ here.0 (omega (arith, room, size, less)) more)
    (rising_more last (number rule.tag) _ (rises last rule.tag rule.vr here.0) more)

good_record : (level : Level) (row : Row) (next lower : ℕ) → IsRow row → IsGood 0 (with_offsets next lower (record_for level row))
good_record level row next lower is =
    subst (λ es. IsGood 0 es) (sym (record_fields level row next lower))
    (good_fields level 0 record_table (says (values_with_offsets (le next 4) (le lower 4) level row) row.values) table_fixed (record_rooms level row next lower is))

-- no key is a file ID

abbrev are_others : List RecordRule → Bool
are_others rules = list_all (λ rule. not (nat_eq (number rule.tag) 0x00041500)) rules

no_file_id : (level : Level) (rules : List RecordRule) (says : ℕ → Option (List ℕ)) (offset : ℕ) → are_others rules ≡ true → found 0x00041500 offset (fields level rules says) ≡ missing
no_file_id level [] says offset e = refl
no_file_id level (rule ∷ rules) says offset e = grind (arith, common_steps, no_file_id level rules says)

-- what the tree's nodes are: with any offsets they are good, and say what they say without them
pub record IsNode (level : ℕ) (es : Elements) : Type 0 where
  pub good : (next lower : ℕ) → IsGood 0 (with_offsets next lower es)
  pub carries : (next lower : ℕ) → carried_node (with_offsets next lower es) ≡ carried_node es
  pub names_next : (next lower : ℕ) → next < 2 ^ 32 → next_offset (with_offsets next lower es) ≡ Some next
  pub names_lower : (next lower : ℕ) → lower < 2 ^ 32 → lower_offset (with_offsets next lower es) ≡ Some lower
  pub whole : (next lower : ℕ) → (has_record (with_offsets next lower es) && has_file_id (with_offsets next lower es)) ≡ true
  pub fit : fits level (carried_node es) ≡ true

pub number_back : (n : ℕ) → n < 2 ^ 32 → Some (little_number 4 (le n 4)) ≡ Some n
number_back n small = ap (λ (x : ℕ). Some x) (ap (little_number 4) (sym (append-nil (le n 4))) ∙ little_number-reads_back 4 n [] small)

abbrev pub node_level : Level → ℕ
node_level Patient = 1
node_level Study = 2
node_level Series = 3
node_level Image = 4

-- what the records of patients, studies and series say of themselves
own_fields : Level → Elements → Elements
own_fields level behind = field (tag 0x0004 0x1410) (codes "US") (le 0xffff 2) (field (tag 0x0004 0x1430) (codes "CS") (padded 32 (kind_of level)) behind)

-- a record that has no file ID
plain_node : (level : Level) (keys : Elements) → is_image level ≡ false → ((next lower : ℕ) → IsGood 0 (with_offsets next lower (own_fields level keys)))
    → ((offset : ℕ) → found 0x00041500 offset keys ≡ missing) → IsNode (node_level level) (own_fields level keys)
unfolding own_fields
plain_node level keys e good none = record {
  good = good;
  carries = λ n l. rw (none _, none _) refl;
  names_next = λ n l small. number_back n small;
  names_lower = λ n l small. number_back l small;
  whole = λ n l. rw (none _) (named level e);
  fit = fit level e;
}
  where
    named : (l : Level) → is_image l ≡ false → (not (bytes_eq (key (padded 32 (kind_of l))) []) && not (bytes_eq (key (padded 32 (kind_of l))) (codes "IMAGE"))) ≡ true
    named Patient e = refl
    named Study e = refl
    named Series e = refl
    named Image e = absurd cc

    fit : (l : Level) → is_image l ≡ false → fits (node_level l) (carried_node (own_fields l keys)) ≡ true
    fit Patient e = refl
    fit Study e = refl
    fit Series e = refl
    fit Image e = absurd cc

key_elements : Level → Row → Elements
key_elements level row = fields level key_table (says (own_values level row) row.values)

plain_is : (level : Level) (row : Row) → is_image level ≡ false → record_for level row ≡ own_fields level (key_elements level row)
unfolding own_fields key_elements
plain_is Patient row e = refl
plain_is Study row e = refl
plain_is Series row e = refl
plain_is Image row e = absurd cc

plain_row : (level : Level) (row : Row) → is_image level ≡ false → IsRow row → IsNode (node_level level) (record_for level row)
unfolding key_elements
plain_row level row e is =
    subst (λ es. IsNode (node_level level) es) (sym (plain_is level row e))
    (plain_node level (key_elements level row) e (λ n l. subst (λ es. IsGood 0 (with_offsets n l es)) (plain_is level row e) (good_record level row n l is))
    (λ offset. no_file_id level key_table (says (own_values level row) row.values) offset refl))

pub record_node : (level : Level) (row : Row) → IsRow row → IsNode (node_level level) (record_for level row)
record_node Patient row is = plain_row Patient row refl is
record_node Study row is = plain_row Study row refl is
record_node Series row is = plain_row Series row refl is
record_node Image row is = record {
  good = λ n l. good_record Image row n l is;
  carries = λ n l. refl;
  names_next = λ n l small. number_back n small;
  names_lower = λ n l small. number_back l small;
  whole = λ n l. by (file_id_of (padded 32 row.file_id)) (file_id_back row.file_id is.file_id);
  fit = refl;
}
  where
    by : (o : Option (List ℕ)) → o ≡ Some row.file_id → (is_some o || false) ≡ true
    by None e = absurd cc
    by (Some x) e = refl
