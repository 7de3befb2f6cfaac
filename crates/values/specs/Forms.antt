-- The table of VRs (PS3.5 table 6.2-1), as far as the rules of element/specs/Values.antt don't have it.
use Rattle.std.specs.Prelude.{ℕ, ◌-◌, Bool, true, not, ◌&&◌, ◌||◌, List, [], ◌∷◌, length, get_or, take, Option, Some, None, nat_eq, nat_le, codes, if◌then◌else◌}
use Rattle.std.specs.List.{list_all, slice_split}
use Rattle.std.specs.Cmp.Lexicographic.{pointwise}
use Rattle.element.specs.Kinds.{is_words, is_longs, is_duplicates}
use Rattle.element.specs.Padding.{is_empty, is_space, without_trailing}
use Rattle.element.specs.Values.{is_backslash}
use Rattle.values.specs.Calendar.{is_date}
use Rattle.values.specs.Clock.{is_time}
use Rattle.values.specs.Moment.{has_date, has_time, is_offset, offset_part}
use Rattle.values.specs.Names.{is_name, groups_are_at_most}
use Rattle.values.specs.Numbers.{is_decimal, is_integer, fits_32_bits}
use Rattle.values.specs.Texts.{is_string_character, is_line_character, is_locator_character}
use Rattle.values.specs.declared.fault.FormFault.{FormFault}
use Rattle.values.specs.declared.fault.FormFault.TheVariants.{LongText, BadControl, NoSuchDate, NoSuchTime, NoSuchOffset, BadNumber, OutOfRange, BadName, BlankTitle, BadLocator}
use Rattle.values.specs.declared.rule.FormRule.{FormRule}
use Rattle.values.specs.declared.rule.FormRule.TheVariants.{AtMost, GroupsAtMost, String, Lines, Day, Clock, DayOfMoment, ClockOfMoment, OffsetOfMoment, Decimal, Integer, Range, Name, Title, Locator}

-- ---- the table: the rules of each VR

-- the rules of VRs with numbers, dates or times in text
abbrev pub rules_of_spelled : List ℕ → List FormRule
rules_of_spelled vr =
    if pointwise nat_eq vr (codes "DA") then AtMost 8 ∷ Day ∷ []
    else (if pointwise nat_eq vr (codes "DS") then AtMost 16 ∷ Decimal ∷ []
    else (if pointwise nat_eq vr (codes "DT") then AtMost 26 ∷ DayOfMoment ∷ ClockOfMoment ∷ OffsetOfMoment ∷ []
    else (if pointwise nat_eq vr (codes "IS") then AtMost 12 ∷ Integer ∷ Range ∷ []
    else (if pointwise nat_eq vr (codes "TM") then AtMost 14 ∷ Clock ∷ []
    else []))))

-- the rules of VRs whose elements may have several values, separated by backslash
abbrev pub rules_of_string : List ℕ → List FormRule
rules_of_string vr =
    if pointwise nat_eq vr (codes "AE") then AtMost 16 ∷ Title ∷ []
    else (if pointwise nat_eq vr (codes "CS") then AtMost 16 ∷ []
    else (if pointwise nat_eq vr (codes "LO") then AtMost 64 ∷ String ∷ []
    else (if pointwise nat_eq vr (codes "PN") then GroupsAtMost 64 ∷ String ∷ Name ∷ []
    else (if pointwise nat_eq vr (codes "SH") then AtMost 16 ∷ String ∷ []
    else (if pointwise nat_eq vr (codes "UC") then String ∷ []
    else rules_of_spelled vr)))))

abbrev pub rules_of : List ℕ → List FormRule
rules_of vr =
    if pointwise nat_eq vr (codes "LT") then AtMost 10240 ∷ Lines ∷ []
    else (if pointwise nat_eq vr (codes "ST") then AtMost 1024 ∷ Lines ∷ []
    else (if pointwise nat_eq vr (codes "UT") then Lines ∷ []
    else (if pointwise nat_eq vr (codes "UR") then Locator ∷ []
    else rules_of_string vr)))

-- an element of this VR has a single value, in which a backslash is an ordinary character
abbrev pub is_single : List ℕ → Bool
is_single vr = pointwise nat_eq vr (codes "LT") || pointwise nat_eq vr (codes "ST") || pointwise nat_eq vr (codes "UT") || pointwise nat_eq vr (codes "UR")

-- ---- what a rule says of one value

abbrev pub is_no_other_offset : List ℕ → Bool
is_no_other_offset offset = is_empty offset || is_offset offset

-- a text, not empty and without spaces at its end, obeys a rule
abbrev pub text_obeys : FormRule → List ℕ → Bool
text_obeys Day text = is_date text
text_obeys Clock text = is_time text
text_obeys DayOfMoment text = has_date text
text_obeys ClockOfMoment text = has_time text
text_obeys OffsetOfMoment text = is_no_other_offset (offset_part text)
text_obeys Decimal text = is_decimal text
text_obeys Integer text = is_integer text
text_obeys Range text = fits_32_bits text
text_obeys Name text = is_name text
text_obeys Locator text = list_all is_locator_character text
text_obeys _ text = true

-- a single value obeys a rule; an empty one obeys each, one of spaces alone those on form except that of a title
abbrev pub obeys : FormRule → List ℕ → Bool
obeys (AtMost most) part = nat_le (length part) most
obeys (GroupsAtMost most) part = groups_are_at_most most part
obeys String part = list_all is_string_character part
obeys Lines part = list_all is_line_character part
obeys Title part = is_empty part || not (is_empty (without_trailing is_space part))
obeys rule part = is_empty (without_trailing is_space part) || text_obeys rule (without_trailing is_space part)

abbrev pub fault_of_rule : FormRule → FormFault
fault_of_rule (AtMost most) = LongText
fault_of_rule (GroupsAtMost most) = LongText
fault_of_rule String = BadControl
fault_of_rule Lines = BadControl
fault_of_rule Day = NoSuchDate
fault_of_rule DayOfMoment = NoSuchDate
fault_of_rule Clock = NoSuchTime
fault_of_rule ClockOfMoment = NoSuchTime
fault_of_rule OffsetOfMoment = NoSuchOffset
fault_of_rule Decimal = BadNumber
fault_of_rule Integer = BadNumber
fault_of_rule Range = OutOfRange
fault_of_rule Name = BadName
fault_of_rule Title = BlankTitle
fault_of_rule Locator = BadLocator

-- ---- the values of an element

-- the value without one space at its end, which may be padding
abbrev pub without_last_space : List ℕ → List ℕ
without_last_space value =
    if nat_le 1 (length value) && is_space (get_or value (length value - 1) 0) then take (length value - 1) value else value

abbrev pub value_obeys : List ℕ → FormRule → List ℕ → Bool
value_obeys vr rule text = if is_single vr then obeys rule text else list_all (obeys rule) (slice_split is_backslash text)

-- the fault of the first of these rules that a value of the element breaks
abbrev pub first_broken : List ℕ → List FormRule → List ℕ → Option FormFault
first_broken vr [] text = None
first_broken vr (rule ∷ rules) text = if value_obeys vr rule text then first_broken vr rules text else Some (fault_of_rule rule)

unfoldable pub form_fault : List ℕ → List ℕ → Option FormFault
form_fault vr text = first_broken vr (rules_of vr) (without_last_space text)

-- the size of one value of a binary VR: 2, 4 or 8; 1 for any other VR
abbrev pub number_size : List ℕ → ℕ
number_size vr = if is_words vr then 2 else (if is_longs vr then 4 else (if is_duplicates vr then 8 else 1))

-- the number of a fault, which continue those of element/specs/Values.antt; its name follows
abbrev pub form_number : FormFault → ℕ
form_number LongText = 5
form_number BadControl = 6
form_number NoSuchDate = 7
form_number NoSuchTime = 8
form_number NoSuchOffset = 9
form_number BadNumber = 10
form_number OutOfRange = 11
form_number BadName = 12
form_number BlankTitle = 13
form_number BadLocator = 14

abbrev pub form_name : FormFault → List ℕ
form_name LongText = codes "LongText"
form_name BadControl = codes "BadControl"
form_name NoSuchDate = codes "NoSuchDate"
form_name NoSuchTime = codes "NoSuchTime"
form_name NoSuchOffset = codes "NoSuchOffset"
form_name BadNumber = codes "BadNumber"
form_name OutOfRange = codes "OutOfRange"
form_name BadName = codes "BadName"
form_name BlankTitle = codes "BlankTitle"
form_name BadLocator = codes "BadLocator"
