-- Series Description costs no file its row (`no_row_is_lost`). Stands on RowLaws and the laws of `sequence`.
use Rattle.std.specs.Prelude.{IsOk, IfErr, ◌+◌, ◌%◌, option_map, nat_eq, nat_lt, nat_le, filter}
use Rattle.std.proofs.Common.{◌≡◌, ℕ, Bool, true, false, cond, not, ◌&&◌, ◌||◌, List, [], ◌∷◌, length, Some, None, Ok, Err, refl, ap, subst, sym, ◌∙◌, ◌<◌, ◌≤◌, arith, Option, Result, is_some, eqb-true, ltb-true, unwrap_or}
use Rattle.std.specs.List.{list_all, find}
use Rattle.std.proofs.lemmas.Bool.{and_parts}
use Rattle.element.specs.Header.{number}
use Rattle.element.specs.declared.tag.Tag.{Tag}
use Rattle.element.specs.declared.header.Header.{Header}
use Rattle.sequence.specs.declared.coding.Coding.{Coding}
use Rattle.sequence.specs.declared.fault.Fault.{Fault}
use Rattle.sequence.specs.declared.spot.Spot.{Spot}
use Rattle.sequence.specs.declared.wanted.Want.{Want}
use Rattle.sequence.specs.Transfer.{coding_in}
use Rattle.dictionary.specs.declared.transfer.Transfer.{Transfer}
use Rattle.sequence.specs.Ending.{IsWholeDataSet, Fails, breaks_rule, ends_early}
use Rattle.sequence.specs.FirstFault.{Breaks}
use Rattle.sequence.specs.Coding.{layout}
use Rattle.sequence.specs.Shape.{is_undefined, shape}
use Rattle.element.specs.Header.{is_marker, is_plain, tag_at, need, is_whole, header_at}
use Rattle.sequence.specs.Rules.{Limits, Broken, broken, broken_due, broken_tag, broken_need, broken_header, passes, is_long_mark, is_not_allowed, is_endless, is_value, opens, counted_length, delimiter_length, undefined_not_allowed, odd_length, overrun, too_long, too_deep, kept_too_long, is_too_long, ◌or_else◌, when}
use Rattle.sequence.specs.Tree.{Elements, no_elements, value, sequence, DataSet}
use Rattle.sequence.specs.Within.{Within}
use Rattle.sequence.specs.Wanted.{Values, value_of, room_of, is_wanted, are_rising, kept_of}
use Rattle.sequence.proofs.Public.{one_tree, whole_breaks_no_rule}
use Rattle.dicomdir_writing.specs.declared.record_table.RecordRule.{RecordRule}
use Rattle.dicomdir_writing.specs.declared.record_table.RecordKeys.TheVariants.{Needed, Described}
use Rattle.dicomdir_writing.specs.RecordTable.{key_table, is_read, keys_read}
use Rattle.dicomdir_writing.specs.Row.{Row, key_in}
use Rattle.dicomdir_writing.specs.Laws.{DescriptionsCostNoRow}
use Rattle.dicomdir_writing.proofs.RowLaws.{consumed_from, one_row, keys_fit, no_header_fault, same_instance, fails_too, spells_too}
use Rattle.dicomdir_writing.specs.Keys.{needs_value, is_missing, is_empty_key, fits_rooms, first_empty, row_unless, checked_row}
use Rattle.dicomdir_writing.specs.RowOf.{row_wants, row_limits, with_value, values_for, row_from, IsInstance, RowOf, in_header, in_data_set, of_values, DescribedRow, described, undescribed}
use Rattle.dicomdir_writing.specs.RowOf.{is_too_long as is_long_reason}
use Rattle.dicomdir_writing.specs.declared.skip.Skip.{Skip}
use Rattle.dicomdir_writing.specs.declared.skip.Skip.TheVariants as skip

-- ---- a fault that is no value too long for its room does not depend on what is wanted

abbrev plain : Limits
plain = row_limits (keys_read Needed)

abbrev all : Limits
all = row_limits (keys_read Described)

-- no tag at or below the last one is among tags that rise from there
none_below : (ws : List Want) (last n : ℕ) → are_rising last ws ≡ true → n ≤ last → room_of ws n ≡ None
none_below [] last n rising le = refl
none_below (w ∷ ws) last n rising le =
    let parts = and_parts (nat_lt last (number w.tag)) _ rising in
    let above : last < number w.tag = ltb-true _ _ parts.0 in
    by (nat_eq (number w.tag) n) refl (none_below ws (number w.tag) n parts.1 (omega (arith, above, le))) above
  where
    by : (b : Bool) → nat_eq (number w.tag) n ≡ b → room_of ws n ≡ None → last < number w.tag → cond b (Some w.room) (room_of ws n) ≡ None
    by true same rest above = let is = eqb-true (number w.tag) n same in absurd (omega (arith, is, above, le))
    by false other rest above = rest

-- what fits its room where all of these are wanted fits it where some of them are
fits_some : (p : RecordRule → Bool) (rules : List RecordRule) (last n size : ℕ) → are_rising last (row_wants rules) ≡ true
    → passes (room_of (row_wants rules) n) size ≡ false → passes (room_of (row_wants (filter p rules)) n) size ≡ false
fits_some p [] last n size rising fits = refl
fits_some p (rule ∷ rest) last n size rising fits =
    let rises = (and_parts (nat_lt last (number rule.tag)) _ rising).1 in
    by (λ f. fits_some p rest (number rule.tag) n size rises f) rises (p rule) refl (nat_eq (number rule.tag) n) refl fits
  where
    by : (passes (room_of (row_wants rest) n) size ≡ false → passes (room_of (row_wants (filter p rest)) n) size ≡ false) → are_rising (number rule.tag) (row_wants rest) ≡ true
        → (b : Bool) → p rule ≡ b → (c : Bool) → nat_eq (number rule.tag) n ≡ c → passes (cond c (Some rule.room) (room_of (row_wants rest) n)) size ≡ false
        → passes (room_of (row_wants (cond b (rule ∷ filter p rest) (filter p rest))) n) size ≡ false
    by more rises true consumed true same fits = rw same fits
    by more rises true consumed false other fits = rw other (more fits)
    by more rises false remaining true same fits =
        let is = eqb-true (number rule.tag) n same in
        let none = none_below (row_wants rest) (number rule.tag) n rises (omega (arith, is)) in
        more (ap (λ o. passes o size) none)
    by more rises false remaining false other fits = more fits

room_passes : (n size : ℕ) → passes (room_of all.wanted n) size ≡ false → passes (room_of plain.wanted n) size ≡ false
room_passes n size e = fits_some (is_read Needed) key_table 0 n size refl e

under : (b : Bool) (x y z w : Broken) → (y ≡ w → z ≡ w) → cond b x y ≡ w → cond b x z ≡ w
under true x y z w more e = e
under false x y z w more e = more e

or_more : (x y z w : Broken) → (y ≡ w → z ≡ w) → x or_else y ≡ w → x or_else z ≡ w
or_more (Some x) y z w more e = e
or_more None y z w more e = more e

when_more : (b : Bool) (y z w : Broken) → (y ≡ w → z ≡ w) → when b y ≡ w → when b z ≡ w
when_more true y z w more e = more e
when_more false y z w more e = e

abbrev number_of : Broken → ℕ
number_of None = 0
number_of (Some broken_rule) = broken_rule.0

apart : {X : Type 0} → true ≡ false → X
apart e = absurd cc

-- where a value is too long in neither, or the rule is another one
past_room : (a b : Bool) (t : Tag) (x : Broken) (rule : ℕ) (tag : Tag) → (a ≡ false → b ≡ false) → nat_eq rule 21 ≡ false
    → cond a (Some (kept_too_long, t)) x ≡ Some (rule, tag) → cond b (Some (kept_too_long, t)) x ≡ Some (rule, tag)
past_room true b t x rule tag fits other e =
    let is : kept_too_long ≡ rule = ap number_of e in
    apart (subst (λ n. nat_eq n 21 ≡ false) (sym is) other)
past_room false b t x rule tag fits other e = rw (fits refl) e

six_under : (a b c d e f : Bool) (x1 x2 x3 x4 x5 x6 y z w : Broken) → (y ≡ w → z ≡ w) → cond a x1 (cond b x2 (cond c x3 (cond d x4 (cond e x5 (cond f x6 y))))) ≡ w
    → cond a x1 (cond b x2 (cond c x3 (cond d x4 (cond e x5 (cond f x6 z))))) ≡ w
six_under a b c d e f x1 x2 x3 x4 x5 x6 y z w more =
    let f6 : cond f x6 y ≡ w → cond f x6 z ≡ w = under f x6 y z w more in
    let f5 = under e x5 (cond f x6 y) (cond f x6 z) w f6 in
    let f4 = under d x4 (cond e x5 (cond f x6 y)) (cond e x5 (cond f x6 z)) w f5 in
    let f3 = under c x3 (cond d x4 (cond e x5 (cond f x6 y))) (cond d x4 (cond e x5 (cond f x6 z))) w f4 in
    let f2 = under b x2 (cond c x3 (cond d x4 (cond e x5 (cond f x6 y)))) (cond c x3 (cond d x4 (cond e x5 (cond f x6 z)))) w f3 in
    under a x1 (cond b x2 (cond c x3 (cond d x4 (cond e x5 (cond f x6 y))))) (cond b x2 (cond c x3 (cond d x4 (cond e x5 (cond f x6 z))))) w f2

both : (here a b : Bool) → (a ≡ false → b ≡ false) → (here && a) ≡ false → (here && b) ≡ false
both true a b more e = more e
both false a b more e = refl

header_breaks : (spot : Spot) (size : ℕ) (h : Header) (rule : ℕ) (tag : Tag) → nat_eq rule 21 ≡ false → broken_header all spot size h ≡ Some (rule, tag) → broken_header plain spot size h ≡ Some (rule, tag)
unfolding broken_header
header_breaks spot size h rule tag other =
    let deep : Broken = cond (opens spot h && nat_le all.depth spot.depth) (Some (too_deep, h.tag)) None in
    let here = (nat_eq spot.depth 0 && not (is_marker h.tag)) && is_value (shape spot.syntax h) in
    six_under (is_long_mark h) (not (is_marker h.tag) && is_not_allowed (shape spot.syntax h)) (is_endless spot h) (not (is_undefined h.length) && nat_eq (h.length % 2) 1)
    (not (is_undefined h.length) && passes spot.near (size + h.length)) (nat_lt all.bytes (spot.offset + size + counted_length h.length))
    (Some (delimiter_length, h.tag)) (Some (undefined_not_allowed, h.tag)) (Some (undefined_not_allowed, h.tag)) (Some (odd_length, h.tag)) (Some (overrun, h.tag)) (Some (too_long, h.tag))
    (cond (is_too_long all spot h) (Some (kept_too_long, h.tag)) deep) (cond (is_too_long plain spot h) (Some (kept_too_long, h.tag)) deep) (Some (rule, tag))
    (past_room (is_too_long all spot h) (is_too_long plain spot h) h.tag deep rule tag
    (both here (passes (room_of all.wanted (number h.tag)) h.length) (passes (room_of plain.wanted (number h.tag)) h.length) (room_passes (number h.tag) h.length)) other)

three_or : (a b c y z w : Broken) → (y ≡ w → z ≡ w) → (a or_else (b or_else (c or_else y))) ≡ w → (a or_else (b or_else (c or_else z))) ≡ w
three_or a b c y z w more =
    let f3 = or_more c y z w more in
    let f2 = or_more b (c or_else y) (c or_else z) w f3 in
    or_more a (b or_else (c or_else y)) (b or_else (c or_else z)) w f2

text_breaks : (spot : Spot) (u : List ℕ) (rule : ℕ) (tag : Tag) → nat_eq rule 21 ≡ false → broken all spot u ≡ Some (rule, tag) → broken plain spot u ≡ Some (rule, tag)
unfolding broken
text_breaks spot u rule tag other =
    let whole = is_whole (layout spot.syntax) u in
    let h = header_at (layout spot.syntax) u in
    three_or (broken_due spot) (when (nat_le 4 (length u)) (broken_tag spot (tag_at u)))
    (when (nat_le 6 (length u) && not (is_plain (layout spot.syntax) (tag_at u))) (broken_need spot (need (layout spot.syntax) u) (tag_at u)))
    (when whole (broken_header all spot (length u) h)) (when whole (broken_header plain spot (length u) h)) (Some (rule, tag))
    (when_more whole (broken_header all spot (length u) h) (broken_header plain spot (length u) h) (Some (rule, tag)) (header_breaks spot (length u) h rule tag other))

pub no_other_fault : {s : Coding} {b : List ℕ} {f : Fault} → IsWholeDataSet s plain b → Fails s all b f → nat_eq f.number 21 ≡ false → ⊥
no_other_fault {s = s} {b = b} whole (breaks_rule {p = p} {u = u} {rule = rule} {tag = tag} first) other =
    let broken_by = first.breaks in
    let same : Breaks s plain p u rule tag = record {
      elements = broken_by.elements;
      path = broken_by.path;
      last = broken_by.last;
      due = broken_by.due;
      one_header = broken_by.one_header;
      breaks = text_breaks _ u rule tag other broken_by.breaks;
    } in
    whole_breaks_no_rule s plain b whole p u first.rest rule tag first.text same
no_other_fault whole (ends_early end) other = end.unfinished whole.elements whole.text

-- ---- the values of the keys that are needed are the same

-- the first value with a tag among elements
abbrev first_value : Elements → ℕ → Option (List ℕ)
first_value no_elements t = None
first_value (value h v es) t = cond (nat_eq (number h.tag) t) (Some v) (first_value es t)
first_value (sequence h is es) t = first_value es t

kept_value : (ws : List Want) (es : Elements) (t : ℕ) → is_wanted ws t ≡ true → value_of (kept_of ws es) t ≡ first_value es t
kept_value ws no_elements t wanted = refl
kept_value ws (sequence h is es) t wanted = kept_value ws es t wanted
kept_value ws (value h v es) t wanted = by (is_wanted ws (number h.tag)) refl (nat_eq (number h.tag) t) refl (kept_value ws es t wanted)
  where
    by : (b : Bool) → is_wanted ws (number h.tag) ≡ b → (c : Bool) → nat_eq (number h.tag) t ≡ c → value_of (kept_of ws es) t ≡ first_value es t
        → value_of (cond b ((number h.tag, v) ∷ kept_of ws es) (kept_of ws es)) t ≡ cond c (Some v) (first_value es t)
    by true is true same rest = rw same refl
    by true is false other rest = rw other rest
    by false is true same rest =
        let never : false ≡ true = sym is ∙ subst (λ z. is_wanted ws z ≡ true) (sym (eqb-true _ _ same)) wanted in
        absurd cc
    by false is false other rest = rest

consumed_value : (rules : List RecordRule) (values : Values) (t : ℕ) → is_wanted (row_wants rules) t ≡ true → value_of (values_for rules values) t ≡ value_of values t
consumed_value [] values t wanted = absurd cc
consumed_value (rule ∷ rest) values t wanted =
    by (λ f. consumed_value rest values t f) (value_of values (number rule.tag)) refl (nat_eq (number rule.tag) t) refl wanted
  where
    rest_none : (o : Option (List ℕ)) → value_of (values_for rest values) t ≡ o → value_of values t ≡ None → o ≡ None
    rest_none None is none = refl
    rest_none (Some v) is none = let never : None ≡ Some v = sym none ∙ consumed_from rest values t v is in absurd cc

    by : (is_wanted (row_wants rest) t ≡ true → value_of (values_for rest values) t ≡ value_of values t) → (o : Option (List ℕ)) → value_of values (number rule.tag) ≡ o
        → (c : Bool) → nat_eq (number rule.tag) t ≡ c → is_some (cond c (Some rule.room) (room_of (row_wants rest) t)) ≡ true
        → value_of (with_value (number rule.tag) o (values_for rest values)) t ≡ value_of values t
    by more None is true same wanted =
        let none : value_of values t ≡ None = ap (λ z. value_of values z) (sym (eqb-true _ _ same)) ∙ is in
        rest_none (value_of (values_for rest values) t) refl none ∙ sym none
    by more None is false other wanted = more wanted
    by more (Some v) is true same wanted = rw same (sym is ∙ ap (λ z. value_of values z) (eqb-true _ _ same))
    by more (Some v) is false other wanted = rw other (more wanted)

row_value : (rules : List RecordRule) (es : Elements) (t : ℕ) → is_wanted (row_wants rules) t ≡ true → value_of (values_for rules (kept_of (row_wants rules) es)) t ≡ first_value es t
row_value rules es t wanted = consumed_value rules (kept_of (row_wants rules) es) t wanted ∙ kept_value (row_wants rules) es t wanted

-- ---- so nothing is missing in the one row that is not missing in the other

abbrev values_with : List RecordRule → Elements → Values
values_with rules es = values_for rules (kept_of (row_wants rules) es)

-- a key that must have a value is read in either case
abbrev is_in_both : RecordRule → Bool
is_in_both rule = not (needs_value rule.kind) || (is_wanted plain.wanted (number rule.tag) && is_wanted all.wanted (number rule.tag))

same_missing : (rule : RecordRule) (es : Elements) → is_in_both rule ≡ true → is_missing (values_with (keys_read Described) es) rule ≡ is_missing (values_with (keys_read Needed) es) rule
same_missing rule es e = by (needs_value rule.kind) refl e
  where
    by : (b : Bool) → needs_value rule.kind ≡ b → (not b || (is_wanted plain.wanted (number rule.tag) && is_wanted all.wanted (number rule.tag))) ≡ true
        → (b && is_empty_key (key_in (values_with (keys_read Described) es) rule.tag)) ≡ (b && is_empty_key (key_in (values_with (keys_read Needed) es) rule.tag))
    by true is e =
        let parts = and_parts (is_wanted plain.wanted (number rule.tag)) _ e in
        let same = row_value (keys_read Described) es (number rule.tag) parts.1 ∙ sym (row_value (keys_read Needed) es (number rule.tag) parts.0) in
        ap (λ (o : Option (List ℕ)). is_empty_key (unwrap_or o [])) same
    by false is e = refl

same_first : (rules : List RecordRule) (es : Elements) → list_all is_in_both rules ≡ true
    → find (is_missing (values_with (keys_read Described) es)) rules ≡ find (is_missing (values_with (keys_read Needed) es)) rules
same_first [] es e = refl
same_first (rule ∷ rules) es e =
    let parts = and_parts (is_in_both rule) _ e in
    rw (same_missing rule es parts.0, same_first rules es parts.1) refl

-- ---- the row

row_is_full : (row other : Row) → checked_row row ≡ Ok other → first_empty row ≡ None
row_is_full row other e = by (fits_rooms row) (first_empty row) e
  where
    by : (b : Bool) (o : Option Tag) → cond b (row_unless row o) (Err (skip.Fault 21)) ≡ Ok other → o ≡ None
    by true None e = refl
    by true (Some t) e = absurd cc
    by false o e = absurd cc

row_is_allowed : (row : Row) → fits_rooms row ≡ true → first_empty row ≡ None → checked_row row ≡ Ok row
row_is_allowed row fits none = ap (λ (b : Bool). cond b (row_unless row (first_empty row)) (Err (skip.Fault 21))) fits ∙ ap (row_unless row) none

module _ {additional : List Transfer} {file : List ℕ} (file_id : List ℕ) (row : Row) (result : Result Row Skip) (is : IsInstance additional file) (es : Elements) (text : DataSet (coding_in is.syntax) 0 es is.back) (within : Within (coding_in is.syntax) plain es is.back)
    (e : Ok row ≡ checked_row (row_from (keys_read Needed) file_id is.class is.instance is.syntax (kept_of (row_wants (keys_read Needed)) es))) where
  with_description : RowOf additional (keys_read Described) file file_id result → IfErr result (λ reason. is_long_reason reason ≡ false) → IsOk result
  with_description (in_header f m err) fits = absurd (no_header_fault is f m)
  with_description (in_data_set b f m err) fits =
      let same = same_instance b is in
      let other : nat_eq f.number 21 ≡ false = subst (λ z. IfErr z (λ reason. is_long_reason reason ≡ false)) err fits in
      absurd (no_other_fault (record { elements = es; text = text; within = within }) (fails_too (keys_read Described) same.syntax same.back m) other)
  with_description (of_values b fs text2 within2 is_row) fits =
      let same = same_instance is b in
      let tree : es ≡ fs = one_tree (coding_in b.syntax) 0 es fs b.back (spells_too same.syntax same.back text) text2 in
      let consumed = row_from (keys_read Described) file_id b.class b.instance b.syntax (kept_of (row_wants (keys_read Described)) fs) in
      let full = row_is_full (row_from (keys_read Needed) file_id is.class is.instance is.syntax (kept_of (row_wants (keys_read Needed)) es)) row (sym e) in
      let none : first_empty consumed ≡ None =
      ap (option_map (λ rule. rule.tag)) (same_first key_table fs refl)
      ∙ subst (λ z. option_map (λ rule. rule.tag) (find (is_missing (values_with (keys_read Needed) z)) key_table) ≡ None) tree full in
      subst (λ z. IsOk z) (sym (is_row ∙ row_is_allowed consumed (keys_fit Described file_id b.class b.instance b.syntax fs within2.rooms) none)) refl

  allowed_anyway : DescribedRow additional file file_id result → IsOk result
  allowed_anyway (described a fits) = with_description a fits
  allowed_anyway (undescribed reason a long c) =
      subst (λ z. IsOk z) (sym (one_row additional (keys_read Needed) file file_id result (Ok row) c (of_values is es text within e))) refl

pub no_row_is_lost : DescriptionsCostNoRow
no_row_is_lost additional file file_id row result (in_header f m e) d = absurd cc
no_row_is_lost additional file file_id row result (in_data_set is f m e) d = absurd cc
no_row_is_lost additional file file_id row result (of_values is es text within e) d = allowed_anyway file_id row result is es text within e d
