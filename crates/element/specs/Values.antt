-- What a value has to be by its VR (PS3.5 sections 6.2 and 9.1). A part is one of the values of a value field, which
-- backslashes separate (section 6.4). Which rules are checked, and in which order, is this product's own profile.
use Rattle.std.specs.Prelude.{ℕ, ◌%◌, Bool, true, false, not, ◌&&◌, ◌||◌, List, [], ◌∷◌, length, Option, Some, None, nat_eq, nat_le, codes, if◌then◌else◌}
use Rattle.std.specs.List.{list_all, slice_split}
use Rattle.element.specs.declared.kinds.Kind.{Kind}
use Rattle.element.specs.declared.kinds.Kind.TheVariants.{Words, Longs, Duplicates, Title, Code, Date, Time, Age, Integer, Decimal, Identifier, Free}
use Rattle.element.specs.declared.parts.PartRule.{PartRule}
use Rattle.element.specs.declared.parts.PartRule.TheVariants.{Size, Longest, Characters, Form}
use Rattle.element.specs.declared.values.ValueFault.{ValueFault}
use Rattle.element.specs.declared.values.ValueFault.TheVariants.{BadCharacter, WrongSize, TooLongValue, BadUid}
use Rattle.element.specs.Padding.{is_empty}
use Rattle.element.specs.Title.{title_text}
use Rattle.element.specs.Kinds.{kind_of}

-- ---- characters

abbrev pub is_digit : ℕ → Bool
is_digit c = nat_le 48 c && nat_le c 57

-- a space, an underscore, a capital letter or a digit
abbrev pub is_code_character : ℕ → Bool
is_code_character c = nat_eq c 32 || nat_eq c 95 || (nat_le 65 c && nat_le c 90) || is_digit c

abbrev pub is_sign : ℕ → Bool
is_sign c = nat_eq c 43 || nat_eq c 45

abbrev pub is_character : Kind → ℕ → Bool
is_character Title c = nat_le 32 c && nat_le c 126
is_character Code c = is_code_character c
is_character Date c = is_digit c
is_character Time c = is_digit c || nat_eq c 46 || nat_eq c 58
is_character Integer c = is_digit c || is_sign c
is_character Decimal c = is_digit c || is_sign c || nat_eq c 46 || nat_eq c 69 || nat_eq c 101
is_character Identifier c = is_digit c || nat_eq c 46
is_character _ c = true

-- D, W, M or Y
abbrev pub is_unit : ℕ → Bool
is_unit c = nat_eq c 68 || nat_eq c 87 || nat_eq c 77 || nat_eq c 89

-- three digits and a unit
abbrev pub is_age : List ℕ → Bool
is_age (a ∷ b ∷ c ∷ unit ∷ []) = is_digit a && is_digit b && is_digit c && is_unit unit
is_age _ = false

-- ---- the rules for a part, a single value

abbrev pub has_size : Kind → List ℕ → Bool
has_size Date part = nat_eq (length part) 8
has_size Age part = nat_eq (length part) 4
has_size _ part = true

abbrev pub is_short_enough : Kind → List ℕ → Bool
is_short_enough Title part = nat_le (length part) 16
is_short_enough Code part = nat_le (length part) 16
is_short_enough Time part = nat_le (length part) 16
is_short_enough Integer part = nat_le (length part) 12
is_short_enough Decimal part = nat_le (length part) 16
is_short_enough Identifier part = nat_le (length part) 64
is_short_enough _ part = true

abbrev pub has_characters : Kind → List ℕ → Bool
has_characters Age part = is_age part
has_characters kind part = list_all (is_character kind) part

-- `0`, or digits that do not begin with 0
abbrev pub is_component : List ℕ → Bool
is_component [] = false
is_component (c ∷ []) = true
is_component (c ∷ d ∷ more) = not (nat_eq c 48)

abbrev pub is_dot : ℕ → Bool
is_dot c = nat_eq c 46

abbrev pub has_form : Kind → List ℕ → Bool
has_form Identifier part = list_all is_component (slice_split is_dot part)
has_form _ part = true

-- whether a part obeys a rule; an empty one does
abbrev pub obeys : PartRule → Kind → List ℕ → Bool
obeys Size kind part = is_empty part || has_size kind part
obeys Longest kind part = is_empty part || is_short_enough kind part
obeys Characters kind part = is_empty part || has_characters kind part
obeys Form kind part = is_empty part || has_form kind part

-- ---- a value field and its parts

abbrev pub is_backslash : ℕ → Bool
is_backslash c = nat_eq c 92

-- without one zero byte at the end
abbrev pub without_last_zero : List ℕ → List ℕ
without_last_zero [] = []
without_last_zero (c ∷ []) = if nat_eq c 0 then [] else c ∷ []
without_last_zero (c ∷ d ∷ more) = c ∷ without_last_zero (d ∷ more)

-- the value field without its padding, as far as that is by kind
abbrev pub content : Kind → List ℕ → List ℕ
content Identifier value = without_last_zero value
content _ value = value

-- the part without the spaces at its ends, which count only in a UID
abbrev pub part_text : Kind → List ℕ → List ℕ
part_text Identifier part = part
part_text _ part = title_text part

-- whether each part obeys a rule; binary values have no parts
abbrev pub parts_obey : PartRule → Kind → List ℕ → Bool
parts_obey rule Words value = true
parts_obey rule Longs value = true
parts_obey rule Duplicates value = true
parts_obey rule Free value = true
parts_obey rule kind value = list_all (λ part. obeys rule kind (part_text kind part)) (slice_split is_backslash (content kind value))

-- whether the length is a multiple of the size of one binary value
abbrev pub is_whole_words : Kind → List ℕ → Bool
is_whole_words Words value = nat_eq (length value % 2) 0
is_whole_words Longs value = nat_eq (length value % 4) 0
is_whole_words Duplicates value = nat_eq (length value % 8) 0
is_whole_words _ value = true

-- the fault of a value field: the first rule that any of its parts breaks
abbrev pub fault_of : Kind → List ℕ → Option ValueFault
fault_of kind value =
    if not (is_whole_words kind value && parts_obey Size kind value) then Some WrongSize
    else (if not (parts_obey Longest kind value) then Some TooLongValue
    else (if not (parts_obey Characters kind value) then Some BadCharacter
    else (if not (parts_obey Form kind value) then Some BadUid
    else None)))

unfoldable pub value_fault : List ℕ → List ℕ → Option ValueFault
value_fault vr value = fault_of (kind_of vr) value

abbrev pub fault_number : ValueFault → ℕ
fault_number BadCharacter = 1
fault_number WrongSize = 2
fault_number TooLongValue = 3
fault_number BadUid = 4

abbrev pub fault_name : ValueFault → List ℕ
fault_name BadCharacter = codes "BadCharacter"
fault_name WrongSize = codes "WrongSize"
fault_name TooLongValue = codes "TooLongValue"
fault_name BadUid = codes "BadUid"
