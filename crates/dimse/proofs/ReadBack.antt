-- The command set of a reply reads back as its elements (`reply_again`): they rise, with even lengths (`reply_rises`).
-- Its field and its status read back as numbers (`field_again`, `status_again`), and the field is one of two
-- (`reads_field`). Stands on ReadCommandsNameUids, RepliesStayShort and TextSpellsOneCommand.
use Rattle.std.proofs.Common.{◌≡◌, ℕ, ◌+◌, ◌%◌, ◌<◌, ◌≤◌, ◌^◌, ◌⊎◌, Bool, true, false, ◌&&◌, List, [], ◌∷◌, ◌++◌, length, nat_eq, Option, Some, None, option_map, Ok, Err, if◌then◌else◌, codes, refl, sym, subst, append_assoc, arith, inl, inr}
use Rattle.std.specs.Prelude.{IfSome}
use Rattle.std.proofs.lemmas.Bool.{cases_Bool}
use Rattle.std.proofs.lemmas.Bool.Decides.{nat_tests}
use Rattle.std.proofs.lemmas.List.{length-append}
use Rattle.byteorder.specs.Endian.{little_number}
use Rattle.byteorder.specs.Numbers.{little_number-reads_back}
use Rattle.element.specs.declared.tag.Tag.{Tag}
use Rattle.element.specs.Numbers.{le}
use Rattle.element.specs.Padding.{padded}
use Rattle.element.specs.Uid.{is_uid, even_uid, uid_of}
use Rattle.dimse.specs.declared.detail.Detail.{Detail}
use Rattle.dimse.specs.declared.fault.DimseFault.TheVariants.{UnknownField, WrongKind}
use Rattle.dimse.specs.Detail.{cause_name, comment, comment_of, two_digits}
use Rattle.dimse.specs.Command.{CommandElement, CommandRecord, AreRising, IsCommandElement, c_echo, c_store, command_of, command_value, field_element, is_uid_or_none, needed, no_data_set, status_element, store_command, two_bytes}
use Rattle.dimse.specs.Reading.{set_of, command_in, command_in_set}
use Rattle.dimse.specs.Reply.{element, tag_elements, detail_elements, detail_carried, instance_elements, reply_elements, reply_command, response}
use Rattle.dimse.proofs.TextSpellsOneCommand.{set_again}
use Rattle.dimse.proofs.RepliesStayShort.{comment_is_short, elements_short, uid_length}
use Rattle.dimse.proofs.ReadCommandsNameUids.{reads_uids, went}

is_one : (number : ℕ) (value : List ℕ) → number < 2 ^ 16 → length value % 2 ≡ 0 → length value ≤ 66 → IsCommandElement (element number value)
is_one number value group even short = record { in_group = group; even = even; fits = omega (arith, short) }

even_by : (padding : ℕ) (value : List ℕ) → length (padded padding value) % 2 ≡ 0
even_by padding value = elim (cases_Bool (nat_eq (length value % 2) 0)) [
  | inl e ↦ rw e (grind (arith, nat_tests, e))
  | inr e ↦ rw e (grind (arith, nat_tests, e, length-append value (padding ∷ [])))
]

padded_within : (padding : ℕ) (value : List ℕ) → length (padded padding value) ≤ length value + 1
padded_within padding value = elim (cases_Bool (nat_eq (length value % 2) 0)) [
  | inl e ↦ rw e (omega arith)
  | inr e ↦ rw e (omega (arith, length-append value (padding ∷ [])))
]

uid_one : (number : ℕ) (uid : List ℕ) → number < 2 ^ 16 → is_uid uid ≡ true → IsCommandElement (element number (even_uid uid))
uid_one number uid group is = is_one number (even_uid uid) group (even_by 0 uid) (omega (arith, padded_within 0 uid, uid_length uid is))

number_one : (number n : ℕ) → number < 2 ^ 16 → IsCommandElement (element number (le n 2))
number_one number n group = is_one number (le n 2) group refl (omega arith)

-- ---- the last elements

instance_rises : (last : ℕ) (instance : Option (List ℕ)) → last < 0x1000 → is_uid_or_none instance ≡ true → AreRising last (instance_elements instance)
instance_rises last None lt is = tt
instance_rises last (Some uid) lt is = (uid_one 0x1000 uid (omega arith) is, lt, tt)

tag_rises : (t : Bool) (value : List ℕ) (rest : List CommandElement) → length value ≡ 4 → AreRising 0x0900 rest → AreRising 0x0901 rest → AreRising 0x0900 ((if t then [] else element 0x0901 value ∷ []) ++ rest)
tag_rises true value rest four low high = low
tag_rises false value rest four low high = (is_one 0x0901 value (omega arith) (omega (arith, four)) (omega (arith, four)), omega arith, high)

comment_rises : (last : ℕ) (text : List ℕ) (instance : Option (List ℕ)) → last < 0x0902 → length text % 2 ≡ 0 → length text ≤ 26 → is_uid_or_none instance ≡ true → AreRising last (element 0x0902 text ∷ instance_elements instance)
comment_rises last text instance lt even short is = (is_one 0x0902 text (omega arith) even (omega (arith, short)), lt, instance_rises 0x0902 instance (omega arith) is)

-- ---- the cause

abbrev Fits : Option (List ℕ) → Type 0
Fits text = IfSome text (λ bytes. (length bytes % 2 ≡ 0) × (length bytes ≤ 26))

fits_by : (number : ℕ) (name : Option (List ℕ)) → IfSome (option_map (comment number) name) (λ bytes. length bytes ≤ 26) → Fits (option_map (comment number) name)
fits_by number None short = tt
fits_by number (Some name) short = (even_by 32 (codes "fault " ++ (two_digits number ++ (32 ∷ name))), short)

comment_then : (tag : Tag) (text : Option (List ℕ)) (instance : Option (List ℕ)) → Fits text → is_uid_or_none instance ≡ true
    → AreRising 0x0900 ((elim text [ None ↦ [] | Some bytes ↦ tag_elements tag ++ element 0x0902 bytes ∷ [] ]) ++ instance_elements instance)
comment_then tag None instance fits is = instance_rises 0x0900 instance (omega arith) is
comment_then tag (Some text) instance fits is =
    subst (AreRising 0x0900) (sym (append_assoc (tag_elements tag) (element 0x0902 text ∷ []) (instance_elements instance)))
    (tag_rises (nat_eq tag.0 0 && nat_eq tag.1 0) (le tag.0 2 ++ le tag.1 2) (element 0x0902 text ∷ instance_elements instance) refl
    (comment_rises 0x0900 text instance (omega arith) fits.0 fits.1 is) (comment_rises 0x0901 text instance (omega arith) fits.0 fits.1 is))

detail_rises : (detail : Option Detail) (instance : Option (List ℕ)) → is_uid_or_none instance ≡ true → AreRising 0x0900 (detail_elements detail ++ instance_elements instance)
detail_rises None instance is = instance_rises 0x0900 instance (omega arith) is
detail_rises (Some detail) instance is = comment_then detail.tag (comment_of detail.number) instance (fits_by detail.number (cause_name detail.number) (comment_is_short detail.number)) is

-- ---- the whole command set

pub reply_rises : (command : CommandRecord) (status : ℕ) (detail : Option Detail) → is_uid command.class ≡ true → is_uid_or_none command.instance ≡ true → AreRising 0 (reply_elements command status detail)
reply_rises command status detail class instance = (
  uid_one 0x0002 command.class (omega arith) class,
  omega arith,
  (
    number_one 0x0100 (command.field + 0x8000) (omega arith),
    omega arith,
    (
      number_one 0x0120 command.message (omega arith),
      omega arith,
      (
        number_one 0x0800 0x0101 (omega arith),
        omega arith,
        (
          number_one 0x0900 status (omega arith),
          omega arith,
          detail_rises (detail_carried command.field status detail) command.instance instance,
        ),
      ),
    ),
  ),
)

pub reply_again : (text : List ℕ) (command : CommandRecord) (status : ℕ) (detail : Option Detail) → command_in text ≡ Ok command → set_of (reply_command command status detail) ≡ Some (reply_elements command status detail)
unfolding reply_command
reply_again text command status detail e =
    let uids = reads_uids text command e in
    set_again (reply_command command status detail) (reply_elements command status detail) (record {
      rising = reply_rises command status detail uids.0 uids.1;
      counted = omega (arith, elements_short command status detail uids.0 uids.1);
      whole = refl;
    })

-- ---- the numbers

number_again : (n : ℕ) → n < 2 ^ 16 → needed two_bytes (Some (le n 2)) ≡ Ok n
number_again n lt = let same : little_number 2 (le n 2) ≡ n = little_number-reads_back 2 n [] lt in rw same refl

abbrev IsField : CommandRecord → Type 0
IsField command = (command.field ≡ c_echo) ⊎ (command.field ≡ c_store)

store_field : (class : List ℕ) (message : ℕ) (es : List CommandElement) (command : CommandRecord) → store_command class message es ≡ Ok command → IsField command
unfolding store_command
store_field class message es command e =
    let w = went (needed uid_of (command_value 0x1000 es)) _ command e in
    let same : record { class = class; field = c_store; message = message; with_data = true; instance = Some w.value } ≡ command = cc w.next in
    subst IsField same (inr refl)

field_by : (echo store none : Bool) (class : List ℕ) (message : ℕ) (es : List CommandElement) (command : CommandRecord)
    → (if echo then (if none then Ok (record { class = class; field = c_echo; message = message; with_data = false; instance = None }) else Err WrongKind)
    else (if store then (if none then Err WrongKind else store_command class message es) else Err UnknownField)) ≡ Ok command → IsField command
field_by true store true class message es command e =
    let same : record { class = class; field = c_echo; message = message; with_data = false; instance = None } ≡ command = cc in
    subst IsField same (inl refl)
field_by true store false class message es command e = absurd cc
field_by false true true class message es command e = absurd cc
field_by false true false class message es command e = store_field class message es command e
field_by false false none class message es command e = absurd cc

field_of_set : (es : List CommandElement) (command : CommandRecord) → command_of es ≡ Ok command → IsField command
unfolding command_of
field_of_set es command e =
    let class = went (needed uid_of (command_value 0x0002 es)) _ command e in
    let field = went (needed two_bytes (command_value 0x0100 es)) _ command class.next in
    let message = went (needed two_bytes (command_value 0x0110 es)) _ command field.next in
    let kind = went (needed two_bytes (command_value 0x0800 es)) _ command message.next in
    field_by (nat_eq field.value c_echo) (nat_eq field.value c_store) (nat_eq kind.value no_data_set) class.value message.value es command kind.next

field_in_set : (set : Option (List CommandElement)) (command : CommandRecord) → command_in_set set ≡ Ok command → IsField command
field_in_set None command e = absurd cc
field_in_set (Some es) command e = field_of_set es command e

pub reads_field : (text : List ℕ) (command : CommandRecord) → command_in text ≡ Ok command → (command.field ≡ c_echo) ⊎ (command.field ≡ c_store)
unfolding command_in
reads_field text command e = field_in_set (set_of text) command e

field_small : (command : CommandRecord) → IsField command → command.field + response < 2 ^ 16
field_small command (inl e) = rw e (omega arith)
field_small command (inr e) = rw e (omega arith)

pub field_again : (text : List ℕ) (command : CommandRecord) (status : ℕ) (detail : Option Detail) → command_in text ≡ Ok command → needed two_bytes (command_value field_element (reply_elements command status detail)) ≡ Ok (command.field + response)
field_again text command status detail e = number_again (command.field + response) (field_small command (reads_field text command e))

pub status_again : (command : CommandRecord) (status : ℕ) (detail : Option Detail) → status < 2 ^ 16 → needed two_bytes (command_value status_element (reply_elements command status detail)) ≡ Ok status
status_again command status detail lt = number_again status lt
