-- A file has one row (`one_row`, `one_described_row`), whose keys fit (`keys_fit`), and a file that was filed has one
-- (`filed_has_row`). Stands on OtherSyntaxesFail and the laws of `part10` and `sequence`.
use Rattle.std.proofs.Common.{◌≡◌, ◌≤◌, ◌<◌, ◌+◌, get_or, ℕ, Bool, true, false, cond, List, [], ◌∷◌, map, Some, None, Ok, Err, refl, ap, subst, eqb-true, nat_eq, arith, rules, ◌++◌, length, take, drop, Option, is_some, sym, ◌∙◌, append_assoc, codes, Result}
use Rattle.std.specs.List.{list_all, find}
use Rattle.std.specs.Prelude.{filter, nat_le, IfErr, IfOk}
use Rattle.std.proofs.lemmas.Bool.{and_parts, leb-true, le-leb}
use Rattle.element.specs.Header.{number}
use Rattle.element.specs.declared.tag.Tag.{Tag}
use Rattle.sequence.specs.Transfer.{coding_in}
use Rattle.sequence.specs.declared.coding.Coding.{Coding}
use Rattle.sequence.specs.Wanted.{Values, value_of, room_of, rooms, are_rising, is_wanted, kept_of}
use Rattle.dicomdir_writing.specs.declared.record_table.RecordRule.{RecordRule}
use Rattle.dicomdir_writing.specs.declared.record_table.RecordKeys.{RecordKeys}
use Rattle.dicomdir_writing.specs.declared.record_table.RecordKeys.TheVariants.{Needed, Described}
use Rattle.dicomdir_writing.specs.RecordTable.{key_table, want_of, is_read, keys_read}
use Rattle.dicomdir_writing.specs.declared.keys.Entry.{Entry}
use Rattle.dicomdir_writing.specs.Keys.{entry_value, optional_size, fits_room, fits_rooms, is_missing, first_empty, row_unless, checked_row, IsRow}
use Rattle.dicomdir_writing.specs.Row.{Row}
use Rattle.dicomdir_writing.specs.RowOf.{row_wants, row_limits, row_from, with_value, values_for, HeaderFaultOf, IsInstance, RowOf, in_header, in_data_set, of_values, is_too_long, described, undescribed}
use Rattle.std.proofs.lemmas.Bool.Decides.{nat_tests}
use Rattle.std.proofs.lemmas.Grind.{common_steps}
use Rattle.std.proofs.lemmas.List.{append_cancel_left, drop_at}
use Rattle.dictionary.specs.declared.transfer.Transfer.{Transfer}
use Rattle.dictionary.specs.Transfers.{transfer_uid}
use Rattle.part10.specs.File.{length_element, File, head}
use Rattle.part10.specs.declared.meta_fault.MetaFault.{MetaFault}
use Rattle.part10.specs.declared.meta_fault.MetaFault.TheVariants.{NotPart10, BadMeta, OtherSyntax, ReadFailed}
use Rattle.part10.specs.MetaText.{MetaValues, HasMeta, HasLetters, fault_number}
use Rattle.part10.proofs.Public.{one_header, head_is_read}
use Rattle.sequence.specs.declared.fault.Fault.{Fault}
use Rattle.sequence.specs.declared.wanted.Want.{Want}
use Rattle.sequence.specs.Tree.{Elements, no_elements, value, sequence, DataSet}
use Rattle.sequence.specs.Within.{FitRooms}
use Rattle.sequence.specs.Ending.{IsWholeDataSet, Fails, breaks_rule, ends_early}
use Rattle.sequence.specs.Rules.{Limits}
use Rattle.sequence.proofs.Public.{one_fault, one_tree, whole_breaks_no_rule}
use Rattle.dicomdir_writing.specs.Laws.{OneRow, OneDescribedRow, KeysFit, FiledHasRow}
use Rattle.dicomdir_writing.specs.declared.skip.Skip.{Skip}
use Rattle.dicomdir_writing.specs.declared.skip.Skip.TheVariants as skip
use Rattle.dicomdir_writing.proofs.OtherSyntaxesFail.{one_transfer}

pub too_long : (row : Row) → fits_rooms row ≡ false → checked_row row ≡ Err (skip.Fault 21)
too_long row e = ap (λ (b : Bool). cond b (row_unless row (first_empty row)) (Err (skip.Fault 21))) e

pub one_empty : (row : Row) (rule : RecordRule) → fits_rooms row ≡ true → find (is_missing row.values) key_table ≡ Some rule → checked_row row ≡ Err (skip.Missing rule.tag)
one_empty row rule e f = grind (arith, common_steps)

pub none_empty : (row : Row) → fits_rooms row ≡ true → find (is_missing row.values) key_table ≡ None → checked_row row ≡ Ok row
none_empty row e f = grind (arith, common_steps)

-- no value is longer than the room for its tag

kept_by : (values : Values) (rules : List RecordRule) (n room : ℕ) → list_all (fits_room values) rules ≡ true → room_of (map want_of rules) n ≡ Some room → optional_size (value_of values n) ≤ room
kept_by values [] n room e r = absurd cc
kept_by values (rule ∷ rules) n room e r =
    let parts = and_parts (fits_room values rule) _ e in
    by (nat_eq (number rule.tag) n) refl r parts.0 (λ r. kept_by values rules n room parts.1 r)
  where
    by : (b : Bool) → nat_eq (number rule.tag) n ≡ b → cond b (Some rule.room) (room_of (map want_of rules) n) ≡ Some room → fits_room values rule ≡ true
        → (room_of (map want_of rules) n ≡ Some room → optional_size (value_of values n) ≤ room)
        → optional_size (value_of values n) ≤ room
    by true same r one more =
        let is : rule.room ≡ room = cc in
        let le : optional_size (value_of values (number rule.tag)) ≤ rule.room = leb-true _ _ one in
        subst (λ z. optional_size (value_of values z) ≤ room) (eqb-true _ _ same) (subst (λ z. optional_size (value_of values (number rule.tag)) ≤ z) is le)
    by false other r one more = more r

pub room_kept : (row : Row) (n room : ℕ) → IsRow row → room_of (row_wants key_table) n ≡ Some room → optional_size (value_of row.values n) ≤ room
room_kept row n room is r = kept_by row.values key_table n room is.fits r

-- one step of the loop that looks for a value

pub value_here : {A : Type 0} (entries : List (Entry A)) (n i : ℕ) (d : Entry A) → i < length entries → number (get_or entries i d).tag ≡ n
    → value_of (map entry_value (drop i entries)) n ≡ Some (get_or entries i d).value.items
value_here entries n i d lt is = grind (arith, common_steps)

pub value_later : {A : Type 0} (entries : List (Entry A)) (n i : ℕ) (d : Entry A) → i < length entries → ¬ (number (get_or entries i d).tag ≡ n)
    → value_of (map entry_value (drop i entries)) n ≡ value_of (map entry_value (drop (i + 1) entries)) n
value_later entries n i d lt other = grind (arith, common_steps)

-- ---- the keys that are read

-- they are few, rise, and fit the room of a walker

pub wants_are_few : (keys : RecordKeys) → length (row_wants (keys_read keys)) ≤ 16
wants_are_few Needed = omega arith
wants_are_few Described = omega arith

pub wants_rise : (keys : RecordKeys) → are_rising 0 (row_wants (keys_read keys)) ≡ true
wants_rise Needed = refl
wants_rise Described = refl

pub wants_have_room : (keys : RecordKeys) → rooms (row_wants (keys_read keys)) + 12 ≤ 2048
wants_have_room Needed = omega arith
wants_have_room Described = omega arith

-- one step of the loop that consumes what a walk keeps for them

pub wants_more : (keys : RecordKeys) (rules : List RecordRule) (out new whole : List Want) (i : ℕ) (d : RecordRule) → i < length rules
    → is_read keys (get_or rules i d) ≡ true → new ≡ out ++ want_of (get_or rules i d) ∷ []
    → out ++ row_wants (filter (is_read keys) (drop i rules)) ≡ whole → new ++ row_wants (filter (is_read keys) (drop (i + 1) rules)) ≡ whole
wants_more keys rules out new whole i d lt is put h = grind (arith, common_steps)

pub wants_skip : (keys : RecordKeys) (rules : List RecordRule) (out whole : List Want) (i : ℕ) (d : RecordRule) → i < length rules
    → is_read keys (get_or rules i d) ≡ false
    → out ++ row_wants (filter (is_read keys) (drop i rules)) ≡ whole → out ++ row_wants (filter (is_read keys) (drop (i + 1) rules)) ≡ whole
wants_skip keys rules out whole i d lt is h = grind (arith, common_steps)

-- and of that which copies their values

pub values_more : (keys : RecordKeys) (rules : List RecordRule) (kept out new whole : Values) (i : ℕ) (d : RecordRule) → i < length rules
    → is_read keys (get_or rules i d) ≡ true
    → new ≡ out ++ with_value (number (get_or rules i d).tag) (value_of kept (number (get_or rules i d).tag)) []
    → out ++ values_for (filter (is_read keys) (drop i rules)) kept ≡ whole → new ++ values_for (filter (is_read keys) (drop (i + 1) rules)) kept ≡ whole
values_more keys rules kept out new whole i d lt is put h = grind (arith, common_steps)

pub values_skip : (keys : RecordKeys) (rules : List RecordRule) (kept out whole : Values) (i : ℕ) (d : RecordRule) → i < length rules
    → is_read keys (get_or rules i d) ≡ false
    → out ++ values_for (filter (is_read keys) (drop i rules)) kept ≡ whole → out ++ values_for (filter (is_read keys) (drop (i + 1) rules)) kept ≡ whole
values_skip keys rules kept out whole i d lt is h = grind (arith, common_steps)

-- ---- a file has one row

has_meta : {additional : List Transfer} {file : List ℕ} (is : IsInstance additional file) → HasMeta (record { class = is.class; instance = is.instance; syntax = transfer_uid is.syntax }) file
has_meta is = record { front = is.front; back = is.back; whole = is.whole; spelled = is.header }

has_letters : {said : MetaValues} {file : List ℕ} → HasMeta said file → HasLetters file
has_letters {file = file} has =
    let s = has.spelled in
    let behind : List ℕ = (length_element (length s.group) ++ s.group) ++ has.back in
    let parts : file ≡ s.preamble ++ (codes "DICM" ++ behind) = has.whole ∙ ap (λ z. z ++ has.back) s.whole ∙ simp append_assoc refl in
    ap (λ z. take 4 (drop 128 z)) parts ∙ ap (λ z. take 4 z) (drop_at s.preamble (codes "DICM" ++ behind) 128 s.preamble_size)

-- a file whose header names a transfer syntax that is accepted has no fault there
pub no_header_fault : {additional : List Transfer} {file : List ℕ} (is : IsInstance additional file) (fault : MetaFault) → HeaderFaultOf additional file fault → ⊥
unfolding has_meta
no_header_fault is NotPart10 f = f (has_letters (has_meta is))
no_header_fault is BadMeta f = f.1 (record { class = is.class; instance = is.instance; syntax = transfer_uid is.syntax }) (has_meta is)
no_header_fault {file = file} is OtherSyntax f =
    let same = one_header file f.0 (record { class = is.class; instance = is.instance; syntax = transfer_uid is.syntax }) f.1 (has_meta is) in
    f.2 is.syntax is.allowed (ap (λ z. z.syntax) same.0)
no_header_fault is ReadFailed f = f

one_header_fault : (additional : List Transfer) (file : List ℕ) (f g : MetaFault) → HeaderFaultOf additional file f → HeaderFaultOf additional file g → f ≡ g
one_header_fault additional file NotPart10 NotPart10 m n = refl
one_header_fault additional file NotPart10 BadMeta m n = absurd (m n.0)
one_header_fault additional file NotPart10 OtherSyntax m n = absurd (m (has_letters n.1))
one_header_fault additional file NotPart10 ReadFailed m n = absurd n
one_header_fault additional file BadMeta NotPart10 m n = absurd (n m.0)
one_header_fault additional file BadMeta BadMeta m n = refl
one_header_fault additional file BadMeta OtherSyntax m n = absurd (m.1 n.0 n.1)
one_header_fault additional file BadMeta ReadFailed m n = absurd n
one_header_fault additional file OtherSyntax NotPart10 m n = absurd (n (has_letters m.1))
one_header_fault additional file OtherSyntax BadMeta m n = absurd (n.1 m.0 m.1)
one_header_fault additional file OtherSyntax OtherSyntax m n = refl
one_header_fault additional file OtherSyntax ReadFailed m n = absurd n
one_header_fault additional file ReadFailed g m n = absurd m

pub record SameInstance {additional : List Transfer} {file : List ℕ} (a b : IsInstance additional file) : Type 0 where
  pub class : a.class ≡ b.class
  pub instance : a.instance ≡ b.instance
  pub syntax : a.syntax ≡ b.syntax
  pub back : a.back ≡ b.back

pub same_instance : {additional : List Transfer} {file : List ℕ} (a b : IsInstance additional file) → SameInstance a b
unfolding has_meta
same_instance {file = file} a b =
    grind (
      arith,
      common_steps,
      one_header file (record { class = a.class; instance = a.instance; syntax = transfer_uid a.syntax }) (record { class = b.class; instance = b.instance; syntax = transfer_uid b.syntax }) (has_meta a) (has_meta b),
      has_meta a,
      has_meta b,
      append_cancel_left,
      one_transfer,
    )

-- the number of what is wrong with a data set is one
one_number : {s : Coding} {lim : Limits} {b : List ℕ} {f g : Fault} → Fails s lim b f → Fails s lim b g → f.number ≡ g.number
one_number {s = s} {lim = lim} {b = b} (breaks_rule {p = p} {u = u} {rule = rule} {tag = t} first) (breaks_rule {p = p2} {u = u2} {rule = rule2} {tag = t2} second) = grind (arith, common_steps, one_fault s lim b p p2 u u2 rule rule2 t t2 first second)
one_number (breaks_rule {p = p} {u = u} {rule = rule} {tag = t} first) (ends_early end) = absurd (end.unbroken p u first.rest rule t first.text first.breaks)
one_number (ends_early end) (breaks_rule {p = p} {u = u} {rule = rule} {tag = t} first) = absurd (end.unbroken p u first.rest rule t first.text first.breaks)
one_number (ends_early end) (ends_early other) = refl

not_both : {s : Coding} {lim : Limits} {b : List ℕ} {f : Fault} → IsWholeDataSet s lim b → Fails s lim b f → ⊥
not_both {s = s} {lim = lim} {b = b} whole (breaks_rule {p = p} {u = u} {rule = rule} {tag = t} first) = whole_breaks_no_rule s lim b whole p u first.rest rule t first.text first.breaks
not_both whole (ends_early end) = end.unfinished whole.elements whole.text

-- of the same data set

pub fails_too : (rules : List RecordRule) {s t : Transfer} {b c : List ℕ} {f : Fault} → s ≡ t → b ≡ c → Fails (coding_in s) (row_limits rules) b f → Fails (coding_in t) (row_limits rules) c f
fails_too rules {s = s} {t = t} {b = b} {c = c} {f = f} e d x = subst (λ z. Fails (coding_in t) (row_limits rules) z f) d (subst (λ z. Fails (coding_in z) (row_limits rules) b f) e x)

pub spells_too : {s t : Transfer} {b c : List ℕ} {es : Elements} → s ≡ t → b ≡ c → DataSet (coding_in s) 0 es b → DataSet (coding_in t) 0 es c
spells_too {s = s} {t = t} {b = b} {c = c} {es = es} e d x = subst (λ z. DataSet (coding_in t) 0 es z) d (subst (λ z. DataSet (coding_in z) 0 es b) e x)

one_result : {additional : List Transfer} {file : List ℕ} (rules : List RecordRule) (file_id : List ℕ) (a b : IsInstance additional file) (es fs : Elements) → SameInstance a b → es ≡ fs
    → checked_row (row_from rules file_id a.class a.instance a.syntax (kept_of (row_wants rules) es)) ≡ checked_row (row_from rules file_id b.class b.instance b.syntax (kept_of (row_wants rules) fs))
one_result rules file_id a b es fs same e = grind (arith, common_steps)

pub one_row : OneRow
one_row additional rules file file_id r q (in_header f m e) (in_header g n d) = e ∙ ap (λ z. Err (skip.Fault (fault_number z))) (one_header_fault additional file f g m n) ∙ sym d
one_row additional rules file file_id r q (in_header f m e) (in_data_set b g n d) = absurd (no_header_fault b f m)
one_row additional rules file file_id r q (in_header f m e) (of_values b fs text within d) = absurd (no_header_fault b f m)
one_row additional rules file file_id r q (in_data_set a f m e) (in_header g n d) = absurd (no_header_fault a g n)
one_row additional rules file file_id r q (in_data_set a f m e) (in_data_set b g n d) =
    let same = same_instance a b in
    e ∙ ap (λ z. Err (skip.Fault z)) (one_number (fails_too rules same.syntax same.back m) n) ∙ sym d
one_row additional rules file file_id r q (in_data_set a f m e) (of_values b fs text within d) =
    let same = same_instance a b in
    absurd (not_both (record { elements = fs; text = text; within = within }) (fails_too rules same.syntax same.back m))
one_row additional rules file file_id r q (of_values a es text within e) (in_header g n d) = absurd (no_header_fault a g n)
one_row additional rules file file_id r q (of_values a es text within e) (in_data_set b g n d) =
    let same = same_instance b a in
    absurd (not_both (record { elements = es; text = text; within = within }) (fails_too rules same.syntax same.back n))
one_row additional rules file file_id r q (of_values a es text within e) (of_values b fs text2 within2 d) =
    let same = same_instance a b in
    e ∙ one_result rules file_id a b es fs same (one_tree (coding_in b.syntax) 0 es fs b.back (spells_too same.syntax same.back text) text2) ∙ sym d

-- ---- and one where Series Description is asked for

not_both_rows : (additional : List Transfer) (file file_id : List ℕ) (result : Result Row Skip) (reason : Skip) → RowOf additional (keys_read Described) file file_id result → IfErr result (λ reason. is_too_long reason ≡ false)
    → RowOf additional (keys_read Described) file file_id (Err reason) → is_too_long reason ≡ true → ⊥
not_both_rows additional file file_id result reason a fits b too_long =
    let same = one_row additional (keys_read Described) file file_id result (Err reason) a b in
    let short : is_too_long reason ≡ false = subst (λ z. IfErr z (λ reason. is_too_long reason ≡ false)) same fits in
    let never : false ≡ true = sym short ∙ too_long in
    absurd cc

pub one_described_row : OneDescribedRow
one_described_row additional file file_id r q (described a fits) (described b others) = one_row additional (keys_read Described) file file_id r q a b
one_described_row additional file file_id r q (described a fits) (undescribed reason b long d) = absurd (not_both_rows additional file file_id r reason a fits b long)
one_described_row additional file file_id r q (undescribed reason a long c) (described b fits) = absurd (not_both_rows additional file file_id q reason b fits a long)
one_described_row additional file file_id r q (undescribed reason a long c) (undescribed other b more d) = one_row additional (keys_read Needed) file file_id r q c d

-- ---- its keys fit

-- of one value and those behind it
one_fits : (ws : List Want) (n t room : ℕ) (w v : List ℕ) (others : Values) → ((r : ℕ) → room_of ws n ≡ Some r → length w ≤ r) → room_of ws t ≡ Some room
    → (value_of others t ≡ Some v → length v ≤ room) → value_of ((n, w) ∷ others) t ≡ Some v → length v ≤ room
one_fits ws n t room w v others fit r rest e = grind (arith, nat_tests)

some_fits : (ws : List Want) (n t room : ℕ) (w v : List ℕ) (others : Values) (b : Bool) → ((r : ℕ) → room_of ws n ≡ Some r → length w ≤ r) → room_of ws t ≡ Some room
    → (value_of others t ≡ Some v → length v ≤ room) → value_of (cond b ((n, w) ∷ others) others) t ≡ Some v → length v ≤ room
some_fits ws n t room w v others v8 fit r rest e = grind (arith, nat_tests, one_fits)

kept_fits : (ws : List Want) (es : Elements) (t room : ℕ) (v : List ℕ) → FitRooms ws es → room_of ws t ≡ Some room → value_of (kept_of ws es) t ≡ Some v → length v ≤ room
kept_fits ws no_elements t room v fit r e = absurd cc
kept_fits ws (sequence h is es) t room v fit r e = kept_fits ws es t room v fit r e
kept_fits ws (value h w es) t room v fit r e =
    some_fits ws (number h.tag) t room w v (kept_of ws es) (is_wanted ws (number h.tag)) fit.0 r (λ f. kept_fits ws es t room v fit.1 r f) e

-- what a row consumes of the values is among them
pub consumed_from : (rules : List RecordRule) (values : Values) (t : ℕ) (v : List ℕ) → value_of (values_for rules values) t ≡ Some v → value_of values t ≡ Some v
consumed_from [] values t v e = absurd cc
consumed_from (rule ∷ rules) values t v e = by (λ f. consumed_from rules values t v f) (value_of values (number rule.tag)) refl e
  where
    here : (value_of (values_for rules values) t ≡ Some v → value_of values t ≡ Some v) → (w : List ℕ) (b : Bool) → nat_eq (number rule.tag) t ≡ b → value_of values (number rule.tag) ≡ Some w
        → cond b (Some w) (value_of (values_for rules values) t) ≡ Some v → value_of values t ≡ Some v
    here more w true same is e = ap (λ z. value_of values z) (sym (eqb-true _ _ same)) ∙ is ∙ e
    here more w false other is e = more e

    by : (value_of (values_for rules values) t ≡ Some v → value_of values t ≡ Some v) → (o : Option (List ℕ)) → value_of values (number rule.tag) ≡ o → value_of (with_value (number rule.tag) o (values_for rules values)) t ≡ Some v → value_of values t ≡ Some v
    by more None is e = more e
    by more (Some w) is e = here more w (nat_eq (number rule.tag) t) refl is e

-- what is kept is wanted
only_wanted : (ws : List Want) (es : Elements) (t : ℕ) (v : List ℕ) → value_of (kept_of ws es) t ≡ Some v → is_wanted ws t ≡ true
only_wanted ws no_elements t v e = absurd cc
only_wanted ws (sequence h is es) t v e = only_wanted ws es t v e
only_wanted ws (value h w es) t v e = by (λ f. only_wanted ws es t v f) (is_wanted ws (number h.tag)) refl e
  where
    here : (value_of (kept_of ws es) t ≡ Some v → is_wanted ws t ≡ true) → (b : Bool) → nat_eq (number h.tag) t ≡ b → is_wanted ws (number h.tag) ≡ true
        → cond b (Some w) (value_of (kept_of ws es) t) ≡ Some v → is_wanted ws t ≡ true
    here more true same is e = subst (λ z. is_wanted ws z ≡ true) (eqb-true _ _ same) is
    here more false other is e = more e

    by : (value_of (kept_of ws es) t ≡ Some v → is_wanted ws t ≡ true) → (b : Bool) → is_wanted ws (number h.tag) ≡ b
        → value_of (cond b ((number h.tag, w) ∷ kept_of ws es) (kept_of ws es)) t ≡ Some v → is_wanted ws t ≡ true
    by more true is e = here more (nat_eq (number h.tag) t) refl is e
    by more false is e = more e

-- the room for a key, where it is wanted, is no greater than that of a row
abbrev is_within : Option ℕ → ℕ → Bool
is_within None room = true
is_within (Some wanted) room = nat_le wanted room

abbrev has_room : List Want → RecordRule → Bool
has_room ws rule = is_within (room_of ws (number rule.tag)) rule.room

one_has_room : (ws : List Want) (es : Elements) (consumed : List RecordRule) (rule : RecordRule) → FitRooms ws es → has_room ws rule ≡ true → fits_room (values_for consumed (kept_of ws es)) rule ≡ true
one_has_room ws es consumed rule fit has = by (value_of (values_for consumed (kept_of ws es)) (number rule.tag)) refl
  where
    size : (v : List ℕ) (r : Option ℕ) → room_of ws (number rule.tag) ≡ r → is_within r rule.room ≡ true → value_of (kept_of ws es) (number rule.tag) ≡ Some v → nat_le (length v) rule.room ≡ true
    size v None is within kept = let wanted : false ≡ true = sym (ap is_some is) ∙ only_wanted ws es (number rule.tag) v kept in absurd cc
    size v (Some r) is within kept = le-leb _ _ (let a = kept_fits ws es (number rule.tag) r v fit is kept in let b = leb-true _ _ within in omega (arith, a, b))

    by : (o : Option (List ℕ)) → value_of (values_for consumed (kept_of ws es)) (number rule.tag) ≡ o → nat_le (optional_size o) rule.room ≡ true
    by None is = le-leb 0 rule.room (omega arith)
    by (Some v) is = size v (room_of ws (number rule.tag)) refl has (consumed_from consumed (kept_of ws es) (number rule.tag) v is)

rooms_fit : (ws : List Want) (es : Elements) (consumed rules : List RecordRule) → FitRooms ws es → list_all (has_room ws) rules ≡ true → list_all (fits_room (values_for consumed (kept_of ws es))) rules ≡ true
rooms_fit ws es consumed [] fit e = refl
rooms_fit ws es consumed (rule ∷ rules) fit e =
    let parts = and_parts (has_room ws rule) _ e in
    rw (one_has_room ws es consumed rule fit parts.0) (rooms_fit ws es consumed rules fit parts.1)

all_have_room : (keys : RecordKeys) → list_all (has_room (row_wants (keys_read keys))) key_table ≡ true
all_have_room Needed = refl
all_have_room Described = refl

pub keys_fit : KeysFit
keys_fit keys file_id class instance s es fit = rooms_fit (row_wants (keys_read keys)) es (keys_read keys) key_table fit (all_have_room keys)

-- ---- the row of a file that was filed

pub filed_has_row : FiledHasRow
filed_has_row additional rules meta file_id rest elements consumed class instance title few set within =
    let is : IsInstance additional (File meta rest) = record {
      class = meta.class;
      instance = meta.instance;
      syntax = meta.syntax;
      allowed = consumed;
      front = head meta;
      back = rest;
      whole = refl;
      header = head_is_read meta class instance title few;
    } in
    of_values is elements set within refl

-- a row that is checked is of its file
checked_file : (row : Row) → IfOk (checked_row row) (λ checked. checked.file_id ≡ row.file_id)
checked_file row = by (fits_rooms row) (first_empty row) where
  by : (fits : Bool) (empty : Option Tag) → IfOk (cond fits (row_unless row empty) (Err (skip.Fault 21))) (λ checked. checked.file_id ≡ row.file_id)
  by true None = refl
  by true (Some t) = _
  by false empty = _

pub file_kept : (row : Row) (result : Result Row Skip) → result ≡ checked_row row → IfOk result (λ checked. checked.file_id ≡ row.file_id)
file_kept row result is = subst (λ checked. IfOk checked (λ r. r.file_id ≡ row.file_id)) (sym is) (checked_file row)
