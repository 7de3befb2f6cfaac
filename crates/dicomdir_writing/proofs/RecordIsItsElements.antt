-- The bytes of a record are those of its elements, one after the other (`record_fields`), and have room
-- (`record_rooms`, `record_fits`). Stands on the laws of `dicomdir` and `dictionary`.
use Rattle.std.proofs.Common.{◌≡◌, ℕ, ◌≤◌, ◌<◌, ◌+◌, Bool, true, false, ◌&&◌, cond, if◌then◌else◌, nat_eq, nat_le, nat_lt, not, List, [], ◌∷◌, ◌++◌, length, get_or, drop, Option, Some, refl, ◌∙◌, arith, rules}
use Rattle.std.proofs.lemmas.Bool.{and_parts, le-leb}
use Rattle.std.proofs.lemmas.Bool.Decides.{nat_tests}
use Rattle.std.specs.List.{list_all}
use Rattle.std.proofs.lemmas.List.{append-nil, at_drop_more}
use Rattle.element.specs.declared.tag.Tag.{Tag}
use Rattle.dictionary.specs.declared.transfer.Transfer.{Transfer}
use Rattle.element.specs.Header.{number}
use Rattle.element.specs.Numbers.{le}
use Rattle.element.specs.Padding.{is_empty, without_trailing, is_padding, padded}
use Rattle.element.specs.Vr.{is_capital, is_short, is_short_vr, vr_of}
use Rattle.dictionary.specs.Transfers.{transfer_uid}
use Rattle.dictionary.proofs.Public.{transfer_short}
use Rattle.sequence.specs.Tree.{Elements, no_elements}
use Rattle.sequence.specs.Wanted.{Values}
use Rattle.dicomdir_writing.specs.declared.record_table.RecordRule.{RecordRule}
use Rattle.dicomdir.specs.declared.level.Level.{Level}
use Rattle.dicomdir.specs.declared.level.Level.TheVariants.{Patient, Study, Series, Image}
use Rattle.dicomdir_writing.specs.RecordTable.{has_level, key_table, record_table}
use Rattle.dicomdir_writing.specs.Keys.{IsRow, fits_room}
use Rattle.dicomdir_writing.specs.machine.RowRecords.{values_with_offsets, rule_room, rules_room, has_short_header, fits_rule}
use Rattle.dicomdir.proofs.Public.{file_id_room}
use Rattle.element.specs.Uid.{is_uid}
use Rattle.dicomdir_writing.specs.Record.{spelled, with_offsets, field, padding_for, field_of, written, fields, says, record_for}
use Rattle.dicomdir.specs.Level.{kind_of}
use Rattle.dicomdir_writing.specs.Row.{Row}
use Rattle.dicomdir.specs.Directory.{key}
use Rattle.dicomdir_writing.specs.Record as text
use Rattle.std.proofs.lemmas.Grind.{common_steps}

dropped_length : (b : Bool) (x n : ℕ) (rest : List ℕ) → length rest ≤ n → length (cond b [] (x ∷ rest)) ≤ n + 1
dropped_length v1 x n rest h = grind (arith, nat_tests)

trailing_length : (p : ℕ → Bool) (xs : List ℕ) → length (without_trailing p xs) ≤ length xs
trailing_length p [] = omega arith
trailing_length p (x ∷ xs) =
    let rest = without_trailing p xs in
    let h : length (cond (is_empty rest && p x) [] (x ∷ rest)) ≤ length xs + 1 = dropped_length (is_empty rest && p x) x (length xs) rest (trailing_length p xs) in
    omega (arith, h)

pub key_length : (v : List ℕ) → length (key v) ≤ length v
key_length v = trailing_length is_padding v

-- elements and their bytes
record Spells (es : Elements) (bytes : List ℕ) : Type 0 where
  pub is : spelled es ≡ bytes

field_then : (t : Tag) (vr v : List ℕ) {es : Elements} {rest : List ℕ} → Spells es rest → Spells (field t vr v es) (text.element_text t vr v ++ rest)
unfolding text.element_text
field_then t vr v {es} {rest} e = grind (arith, common_steps)

field_last : (t : Tag) (vr v : List ℕ) → Spells (field t vr v no_elements) (text.element_text t vr v)
field_last t vr v = record { is = (field_then t vr v {es = no_elements} {rest = []} (record { is = refl })).is ∙ append-nil (text.element_text t vr v) }

pub four_fields : (old : List ℕ) (t t2 t3 t4 : Tag) (vr v vr2 v2 vr3 v3 vr4 v4 : List ℕ)
    → (((old ++ text.element_text t vr v) ++ text.element_text t2 vr2 v2) ++ text.element_text t3 vr3 v3) ++ text.element_text t4 vr4 v4
    ≡ old ++ spelled (field t vr v (field t2 vr2 v2 (field t3 vr3 v3 (field t4 vr4 v4 no_elements))))
four_fields old t t2 t3 t4 vr v vr2 v2 vr3 v3 vr4 v4 = grind (arith, common_steps, field_then t vr v (field_then t2 vr2 v2 (field_then t3 vr3 v3 (field_last t4 vr4 v4))))

-- an element of a record, and those behind it

pub field_text : (rule : RecordRule) (v : List ℕ) → spelled (field_of rule (Some v) no_elements) ≡ text.element_text rule.tag rule.vr (padded (padding_for rule.vr) v)
field_text rule v = (field_last rule.tag rule.vr (padded (padding_for rule.vr) v)).is

-- one step of the loop over the elements of a record

abbrev own_text : RecordRule → (ℕ → Option (List ℕ)) → List ℕ
own_text rule says = spelled (field_of rule (written rule.kind (says (number rule.tag))) no_elements)

pub fields_more : (level : Level) (rules : List RecordRule) (says : ℕ → Option (List ℕ)) (out new whole : List ℕ) (i : ℕ) (d : RecordRule) → i < length rules
    → has_level (get_or rules i d).levels level ≡ true → new ≡ out ++ own_text (get_or rules i d) says
    → out ++ spelled (fields level (drop i rules) says) ≡ whole → new ++ spelled (fields level (drop (i + 1) rules) says) ≡ whole
fields_more level rules says out new whole i d lt has put h = grind (arith, common_steps)

pub fields_skip : (level : Level) (rules : List RecordRule) (says : ℕ → Option (List ℕ)) (out whole : List ℕ) (i : ℕ) (d : RecordRule) → i < length rules
    → has_level (get_or rules i d).levels level ≡ false
    → out ++ spelled (fields level (drop i rules) says) ≡ whole → out ++ spelled (fields level (drop (i + 1) rules) says) ≡ whole
fields_skip level rules says out whole i d lt has h = grind (arith, common_steps)

-- the room that the loop has left

room_step : (level : Level) (rules : List RecordRule) (i : ℕ) (d : RecordRule) → i < length rules
    → rules_room level (drop i rules) ≡ rule_room level (get_or rules i d) + rules_room level (drop (i + 1) rules)
room_step level rules i d lt = at_drop_more (λ r. rules_room level r) rules i d lt

pub room_more : (level : Level) (rules : List RecordRule) (i : ℕ) (d : RecordRule) (before after most : ℕ) → i < length rules
    → has_level (get_or rules i d).levels level ≡ true → after ≤ before + (get_or rules i d).room + 9
    → before + rules_room level (drop i rules) ≤ most → after + rules_room level (drop (i + 1) rules) ≤ most
room_more level rules i d before after most lt has put h = grind (arith, common_steps, room_step level rules i d lt)

pub room_skip : (level : Level) (rules : List RecordRule) (i : ℕ) (d : RecordRule) (before most : ℕ) → i < length rules → has_level (get_or rules i d).levels level ≡ false
    → before + rules_room level (drop i rules) ≤ most → before + rules_room level (drop (i + 1) rules) ≤ most
room_skip level rules i d before most lt has h = let step = room_step level rules i d lt in omega (arith, step, h)

-- a record with its offsets has them in the order of their tags

pub record_fields : (level : Level) (row : Row) (next lower : ℕ)
    → with_offsets next lower (record_for level row) ≡ fields level record_table (says (values_with_offsets (le next 4) (le lower 4) level row) row.values)
record_fields Patient row next lower = refl
record_fields Study row next lower = refl
record_fields Series row next lower = refl
record_fields Image row next lower = refl

-- what the longest record needs

pub record_fits : (level : Level) → rules_room level record_table ≤ 960
record_fits v1 = grind (arith, nat_tests)

pub short_table : list_all has_short_header record_table ≡ true
unfolding is_short
short_table = refl

-- what a record says fits the rooms

kind_fits : (level : Level) → nat_le (length (kind_of level)) 7 ≡ true
kind_fits v1 = grind (arith, nat_tests)

uid_fits : (text : List ℕ) → is_uid text ≡ true → nat_le (length text) 64 ≡ true
uid_fits text e = (and_parts _ _ (and_parts _ _ e).0).1

syntax_fits : (t : Transfer) → nat_le (length (transfer_uid t)) 64 ≡ true
syntax_fits t = let short = transfer_short t in le-leb _ _ (omega (arith, short))

-- keys are of groups above 0004
abbrev are_keys : List RecordRule → Bool
are_keys rules = list_all (λ rule. not (nat_lt (number rule.tag) 0x00050000)) rules

key_fits : (rule : RecordRule) (values : Values) (next lower : List ℕ) (level : Level) (row : Row) → not (nat_lt (number rule.tag) 0x00050000) ≡ true → fits_room row.values rule ≡ true
    → fits_rule (says (values_with_offsets next lower level row) row.values) rule ≡ true
key_fits rule values next lower level row above fits = grind (arith, nat_tests, common_steps, key_length)

keys_fit : (rules : List RecordRule) (next lower : List ℕ) (level : Level) (row : Row) → are_keys rules ≡ true → list_all (fits_room row.values) rules ≡ true
    → list_all (fits_rule (says (values_with_offsets next lower level row) row.values)) rules ≡ true
keys_fit [] next lower level row above fits = refl
keys_fit (rule ∷ rules) next lower level row above fits =
    let these = and_parts (not (nat_lt (number rule.tag) 0x00050000)) _ above in
    let those = and_parts (fits_room row.values rule) _ fits in
    rw (key_fits rule row.values next lower level row these.0 those.0) (keys_fit rules next lower level row these.1 those.1)

pub record_rooms : (level : Level) (row : Row) (next lower : ℕ) → IsRow row → list_all (fits_rule (says (values_with_offsets (le next 4) (le lower 4) level row) row.values)) record_table ≡ true
record_rooms level row next lower is =
    rw (kind_fits level, le-leb _ _ (file_id_room row.file_id is.file_id), uid_fits row.class is.class, uid_fits row.instance is.instance, syntax_fits row.syntax)
    (keys_fit key_table (le next 4) (le lower 4) level row refl is.fits)

-- the VRs with a length of two bytes are capital letters

one_of : {C : Type 0} (test here rest : Bool) → (test ≡ true → here ≡ true → C) → (rest ≡ true → C) → (if test then here else rest) ≡ true → C
one_of v1 here rest f g e = grind (arith, nat_tests)

short_capital : (a b : ℕ) → is_short a b ≡ true → (is_capital a && is_capital b) ≡ true
unfolding is_short
short_capital a b =
    one_of (nat_eq a 65) _ _ (λ p q. grind (arith, nat_tests))
    (one_of (nat_eq a 67) _ _ (λ p q. grind (arith, nat_tests))
    (one_of (nat_eq a 68) _ _ (λ p q. grind (arith, nat_tests))
    (one_of (nat_eq a 70) _ _ (λ p q. grind (arith, nat_tests))
    (one_of (nat_eq a 73) _ _ (λ p q. grind (arith, nat_tests))
    (one_of (nat_eq a 76) _ _ (λ p q. grind (arith, nat_tests))
    (one_of (nat_eq a 80) _ _ (λ p q. grind (arith, nat_tests))
    (one_of (nat_eq a 83) _ _ (λ p q. grind (arith, nat_tests))
    (one_of (nat_eq a 84) _ _ (λ p q. grind (arith, nat_tests))
    (one_of (nat_eq a 85) _ _ (λ p q. grind (arith, nat_tests))
    (λ e. absurd cc))))))))))

pub short_named : (vr : List ℕ) → is_short_vr vr ≡ true → vr_of vr ≡ Some vr
short_named vr e = rw (short_capital (get_or vr 0 0) (get_or vr 1 0) e) refl
