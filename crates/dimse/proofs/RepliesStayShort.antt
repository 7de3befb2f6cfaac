-- The command set of a reply has 242 bytes at most (`command_short`), and the PDUs that carry it 1,706 in fragments of
-- two bytes or more (`reply_short`), 3,158 in any (`reply_bounded`). Stands on ReadCommandsNameUids, SetIsItsElements
-- and SetIsSentWhole.
use Rattle.std.proofs.Common.{◌≡◌, ℕ, zero, suc, ◌+◌, ◌-◌, ◌*◌, ◌/◌, ◌%◌, ◌≤◌, Bool, true, false, ◌&&◌, List, [], ◌∷◌, ◌++◌, length, take, drop, nat_eq, Option, Some, None, option_map, Ok, if◌then◌else◌, codes, arith, ap, inl, inr}
use Rattle.std.specs.Prelude.{IfSome}
use Rattle.std.proofs.lemmas.Bool.{cases_lt, cases_Bool, lt-leb, ne_eqb}
use Rattle.std.proofs.lemmas.Bool.Decides.{nat_tests}
use Rattle.std.proofs.lemmas.List.{length-append, length-take, length-drop}
use Rattle.element.specs.declared.tag.Tag.{Tag}
use Rattle.element.specs.Numbers.{le}
use Rattle.element.specs.Padding.{padded}
use Rattle.element.specs.Uid.{is_uid, even_uid}
use Rattle.pdu.specs.Texts.{data_text}
use Rattle.dimse.specs.declared.detail.Detail.{Detail}
use Rattle.element.specs.declared.rule.Rule.{Rule}
use Rattle.element.specs.declared.rule.Rule.TheVariants.{BadVr, OddLength, Order, BadGroup, UndefinedLength, UnexpectedTag, DelimiterLength, Overrun, TooDeep, TooLong, Truncated, KeptTooLong}
use Rattle.element.specs.RuleNames.{rule_of, text_of_rule}
use Rattle.dimse.specs.Detail.{is_limit, rule_cause, cause_name, comment, comment_of, two_digits}
use Rattle.dimse.specs.Command.{CommandElement, CommandRecord, command_element_bytes, command_elements_bytes, command_set_bytes, is_uid_or_none}
use Rattle.dimse.specs.Reading.{command_in}
use Rattle.dimse.specs.Reply.{IsMaximum, element, tag_elements, detail_elements, detail_carried, instance_elements, reply_elements, reply_command, fragment_size, fragments_in, fragments, command_pdus, reply_bytes}
use Rattle.dimse.proofs.SetIsItsElements.{element_length, elements_then}
use Rattle.dimse.proofs.SetIsSentWhole.{pdus_next, last_of}
use Rattle.dimse.proofs.ReadCommandsNameUids.{reads_uids}

-- ---- elements

one_more : (e : CommandElement) (es : List CommandElement) → length (command_elements_bytes (e ∷ es)) ≡ length (command_element_bytes e) + length (command_elements_bytes es)
one_more e es = length-append (command_element_bytes e) (command_elements_bytes es)

padded_short : (padding : ℕ) (value : List ℕ) (n : ℕ) → length value ≤ 2 * n → length (padded padding value) ≤ 2 * n
padded_short padding value n short = elim (cases_Bool (nat_eq (length value % 2) 0)) [
  | inl e ↦ rw e short
  | inr e ↦ rw e (grind (arith, nat_tests, e, length-append value (padding ∷ []), short))
]

pub uid_length : (uid : List ℕ) → is_uid uid ≡ true → length uid ≤ 64
uid_length uid e = grind (arith, nat_tests, e)

uid_short : (number : ℕ) (uid : List ℕ) → is_uid uid ≡ true → length (command_element_bytes (element number (even_uid uid))) ≤ 72
uid_short number uid e = omega (arith, element_length number (even_uid uid), padded_short 0 uid 32 (uid_length uid e))

tag_by : (t : Bool) (e : CommandElement) → length (command_element_bytes e) ≤ 12 → length (command_elements_bytes (if t then [] else e ∷ [])) ≤ 12
tag_by true e short = omega arith
tag_by false e short = omega (arith, one_more e [], short)

tag_short : (tag : Tag) → length (command_elements_bytes (tag_elements tag)) ≤ 12
tag_short tag = tag_by (nat_eq tag.0 0 && nat_eq tag.1 0) (element 0x0901 (le tag.0 2 ++ le tag.1 2)) (omega (arith, element_length 0x0901 (le tag.0 2 ++ le tag.1 2)))

-- ---- the error comment

abbrev pub Short : ℕ → Option (List ℕ) → Type 0
Short n text = IfSome text (λ bytes. length bytes ≤ n)

either : (t : Bool) (a b : Option (List ℕ)) → Short 16 a → Short 16 b → Short 16 (if t then a else b)
either true a b x y = x
either false a b x y = y

rule_short : (rule : Rule) → length (text_of_rule rule) ≤ 16
rule_short BadVr = omega arith
rule_short OddLength = omega arith
rule_short Order = omega arith
rule_short BadGroup = omega arith
rule_short UndefinedLength = omega arith
rule_short UnexpectedTag = omega arith
rule_short DelimiterLength = omega arith
rule_short Overrun = omega arith
rule_short TooDeep = omega arith
rule_short TooLong = omega arith
rule_short Truncated = omega arith
rule_short KeptTooLong = omega arith

cause_short : (rule : Option Rule) → Short 16 (rule_cause rule)
cause_short None = tt
cause_short (Some rule) = either (is_limit rule) None (Some (text_of_rule rule)) tt (rule_short rule)

name_short : (number : ℕ) → Short 16 (cause_name number)
name_short n = either (nat_eq n 45) _ _ (omega arith) (either (nat_eq n 46) _ _ (omega arith) (cause_short (rule_of n)))

comment_short : (number : ℕ) (name : Option (List ℕ)) → Short 16 name → Short 26 (option_map (comment number) name)
comment_short number None short = tt
comment_short number (Some name) short = padded_short 32 (codes "fault " ++ (two_digits number ++ (32 ∷ name))) 13 (omega (arith, short))

-- the comment of a cause that has a name
pub comment_is_short : (number : ℕ) → Short 26 (comment_of number)
comment_is_short number = comment_short number (cause_name number) (name_short number)

detail_by : (tag : Tag) (text : Option (List ℕ)) → Short 26 text → length (command_elements_bytes (elim text [ None ↦ [] | Some bytes ↦ tag_elements tag ++ element 0x0902 bytes ∷ [] ])) ≤ 46
detail_by tag None short = omega arith
detail_by tag (Some bytes) short =
    let last : List CommandElement = element 0x0902 bytes ∷ [] in
    omega (
      arith,
      ap length (elements_then (tag_elements tag) last),
      length-append (command_elements_bytes (tag_elements tag)) (command_elements_bytes last),
      one_more (element 0x0902 bytes) [],
      element_length 0x0902 bytes,
      tag_short tag,
      short,
    )

detail_short : (detail : Option Detail) → length (command_elements_bytes (detail_elements detail)) ≤ 46
detail_short None = omega arith
detail_short (Some detail) = detail_by detail.tag (comment_of detail.number) (comment_is_short detail.number)

instance_short : (instance : Option (List ℕ)) → is_uid_or_none instance ≡ true → length (command_elements_bytes (instance_elements instance)) ≤ 72
instance_short None e = omega arith
instance_short (Some uid) e = omega (arith, one_more (element 0x1000 (even_uid uid)) [], uid_short 0x1000 uid e)

-- ---- the command set

after_class : (a b c d : CommandElement) (es : List CommandElement)
    → length (command_element_bytes a) ≤ 10 → length (command_element_bytes b) ≤ 10 → length (command_element_bytes c) ≤ 10 → length (command_element_bytes d) ≤ 10
    → length (command_elements_bytes es) ≤ 118 → length (command_elements_bytes (a ∷ b ∷ c ∷ d ∷ es)) ≤ 158
after_class a b c d es la lb lc ld short =
    omega (arith, one_more a (b ∷ c ∷ d ∷ es), one_more b (c ∷ d ∷ es), one_more c (d ∷ es), one_more d es, la, lb, lc, ld, short)

number_short : (number n : ℕ) → length (command_element_bytes (element number (le n 2))) ≤ 10
number_short number n = omega (arith, element_length number (le n 2))

last_short : (command : CommandRecord) (detail : Option Detail) → is_uid_or_none command.instance ≡ true → length (command_elements_bytes (detail_elements detail ++ instance_elements command.instance)) ≤ 118
last_short command detail e =
    omega (
      arith,
      ap length (elements_then (detail_elements detail) (instance_elements command.instance)),
      length-append (command_elements_bytes (detail_elements detail)) (command_elements_bytes (instance_elements command.instance)),
      detail_short detail,
      instance_short command.instance e,
    )

pub elements_short : (command : CommandRecord) (status : ℕ) (detail : Option Detail) → is_uid command.class ≡ true → is_uid_or_none command.instance ≡ true → length (command_elements_bytes (reply_elements command status detail)) ≤ 230
elements_short command status detail class instance =
    let first = element 0x0002 (even_uid command.class) in
    let last = detail_elements (detail_carried command.field status detail) ++ instance_elements command.instance in
    let a = element 0x0100 (le (command.field + 0x8000) 2) in
    let b = element 0x0120 (le command.message 2) in
    let c = element 0x0800 (le 0x0101 2) in
    let d = element 0x0900 (le status 2) in
    omega (
      arith,
      one_more first (a ∷ b ∷ c ∷ d ∷ last),
      uid_short 0x0002 command.class class,
      after_class a b c d last (number_short 0x0100 (command.field + 0x8000)) (number_short 0x0120 command.message) (number_short 0x0800 0x0101) (number_short 0x0900 status) (last_short command (detail_carried command.field status detail) instance),
    )

set_length : (es : List CommandElement) → length (command_set_bytes es) ≡ 12 + length (command_elements_bytes es)
set_length es =
    let count = le (length (command_elements_bytes es)) 4 in
    omega (arith, length-append (command_element_bytes (element 0 count)) (command_elements_bytes es), element_length 0 count)

set_short : (command : CommandRecord) (status : ℕ) (detail : Option Detail) → is_uid command.class ≡ true → is_uid_or_none command.instance ≡ true → length (reply_command command status detail) ≤ 242
unfolding reply_command
set_short command status detail class instance = omega (arith, set_length (reply_elements command status detail), elements_short command status detail class instance)

-- ---- the PDUs

pdu_length : (context : ℕ) (last : Bool) (text : List ℕ) → length (data_text context true last text) ≡ 12 + length text
pdu_length context last text = omega arith

-- fragments of any size
pdus_length : (context more size : ℕ) (text : List ℕ) → length (command_pdus context (fragments_in more size text)) ≤ length text + 12 * (more + 1)
pdus_length context zero size text = omega (arith, pdu_length context true text)
pdus_length context (suc more) size text = elim (cases_lt size (length text)) [
  | inl lt ↦ rw (lt-leb (length text) size lt, pdus_next context (take size text) more size (drop size text)) (omega (
    arith,
    lt,
    length-append (data_text context true false (take size text)) (command_pdus context (fragments_in more size (drop size text))),
    pdu_length context false (take size text),
    length-take size text,
    length-drop size text,
    pdus_length context more size (drop size text),
  ))
  | inr le ↦ rw (last_of context size (suc more) text le) (omega (arith, pdu_length context true text))
]

-- fragments of two bytes or more
pdus_short : (context more size : ℕ) (text : List ℕ) → 2 ≤ size → length text ≤ more → length (command_pdus context (fragments_in more size text)) ≤ 7 * length text + 12
pdus_short context zero size text two few = omega (arith, pdu_length context true text)
pdus_short context (suc more) size text two few = elim (cases_lt size (length text)) [
  | inl lt ↦ rw (lt-leb (length text) size lt, pdus_next context (take size text) more size (drop size text)) (omega (
    arith,
    lt,
    two,
    length-append (data_text context true false (take size text)) (command_pdus context (fragments_in more size (drop size text))),
    pdu_length context false (take size text),
    length-take size text,
    length-drop size text,
    pdus_short context more size (drop size text) two (omega (arith, few, two, length-drop size text)),
  ))
  | inr le ↦ rw (last_of context size (suc more) text le) (omega (arith, pdu_length context true text))
]

sized : (context maximum : ℕ) (text : List ℕ) → IsMaximum maximum → length (command_pdus context (fragments (fragment_size maximum (length text)) text)) ≤ 7 * length text + 12
unfolding fragments
sized context maximum text (inl none) = rw (none, last_of context (length text) (length text) text (omega arith)) (omega (arith, pdu_length context true text))
sized context maximum text (inr least) =
    rw (ne_eqb maximum 0 (λ e. omega (arith, e, least))) (pdus_short context (length text) ((maximum - 6) / 2 * 2) text (omega (arith, least)) (omega arith))

any_length : (context maximum : ℕ) (text : List ℕ) → length (command_pdus context (fragments (fragment_size maximum (length text)) text)) ≤ 13 * length text + 12
unfolding fragments
any_length context maximum text = omega (arith, pdus_length context (length text) (fragment_size maximum (length text)) text)

-- ---- replies

pub command_short : (text : List ℕ) (command : CommandRecord) (status : ℕ) (detail : Option Detail) → command_in text ≡ Ok command → length (reply_command command status detail) ≤ 242
command_short text command status detail read = let u = reads_uids text command read in set_short command status detail u.0 u.1

pub reply_short : (text : List ℕ) (command : CommandRecord) (status : ℕ) (detail : Option Detail) (context maximum : ℕ)
    → command_in text ≡ Ok command → IsMaximum maximum → length (reply_bytes command status detail context maximum) ≤ 1706
unfolding reply_bytes
reply_short text command status detail context maximum read is =
    let set = reply_command command status detail in
    omega (arith, sized context maximum set is, command_short text command status detail read)

pub reply_bounded : (text : List ℕ) (command : CommandRecord) (status : ℕ) (detail : Option Detail) (context maximum : ℕ)
    → command_in text ≡ Ok command → length (reply_bytes command status detail context maximum) ≤ 3158
unfolding reply_bytes
reply_bounded text command status detail context maximum read =
    let set = reply_command command status detail in
    omega (arith, any_length context maximum set, command_short text command status detail read)
