-- A command that is read names unique identifiers (`reads_uids`). Stands on the definitions alone.
use Rattle.std.proofs.Common.{◌≡◌, ℕ, Bool, true, false, List, Option, Some, None, Result, Ok, Err, if◌then◌else◌, refl, subst, nat_eq, inl, inr}
use Rattle.std.proofs.lemmas.Bool.{cases_Bool}
use Rattle.std.specs.Prelude.{ok_or}
use Rattle.element.specs.Padding.{is_padding, without_trailing}
use Rattle.element.specs.Uid.{is_uid, if_uid, uid_of}
use Rattle.dimse.specs.declared.fault.DimseFault.{DimseFault}
use Rattle.dimse.specs.declared.fault.DimseFault.TheVariants.{BadCommand, UnknownField, WrongKind}
use Rattle.dimse.specs.Command.{CommandElement, CommandRecord, c_echo, c_store, no_data_set, command_value, needed, ◌>>=◌, store_command, command_of, is_uid_or_none, two_bytes}
use Rattle.dimse.specs.Reading.{set_of, command_in_set, command_in}

pub record Went (A : Type 0) (r : Result A DimseFault) (f : A → Result CommandRecord DimseFault) (command : CommandRecord) : Type 0 where
  pub value : A
  pub first : r ≡ Ok value
  pub next : f value ≡ Ok command

pub went : {A : Type 0} (r : Result A DimseFault) (f : A → Result CommandRecord DimseFault) (command : CommandRecord) → (r >>= f) ≡ Ok command → Went A r f command
went (Ok x) f command e = record { value = x; first = refl; next = e }
went (Err x) f command e = absurd cc

abbrev NamesUids : CommandRecord → Type 0
NamesUids command = (is_uid command.class ≡ true) × (is_uid_or_none command.instance ≡ true)

uid_by : (text uid : List ℕ) → ok_or (if_uid text) BadCommand ≡ Ok uid → is_uid uid ≡ true
uid_by text uid e = elim (cases_Bool (is_uid text)) [
  | inl is ↦ let same : text ≡ uid = cc (rw is at e) in subst (λ (u : List ℕ). is_uid u ≡ true) same is
  | inr other ↦ absurd (cc (rw other at e))
]

uid_needed : (value : Option (List ℕ)) (uid : List ℕ) → needed uid_of value ≡ Ok uid → is_uid uid ≡ true
uid_needed None uid e = absurd cc
uid_needed (Some bytes) uid e = uid_by (without_trailing is_padding bytes) uid e

store_names : (class : List ℕ) (message : ℕ) (es : List CommandElement) (command : CommandRecord) → is_uid class ≡ true → store_command class message es ≡ Ok command → NamesUids command
unfolding store_command
store_names class message es command is e =
    let w = went (needed uid_of (command_value 0x1000 es)) _ command e in
    let same : record { class = class; field = c_store; message = message; with_data = true; instance = Some w.value } ≡ command = cc w.next in
    subst NamesUids same (is, uid_needed (command_value 0x1000 es) w.value w.first)

echo_names : (t : Bool) (class : List ℕ) (message : ℕ) (command : CommandRecord) → is_uid class ≡ true
    → (if t then Ok (record { class = class; field = c_echo; message = message; with_data = false; instance = None }) else Err WrongKind) ≡ Ok command → NamesUids command
echo_names true class message command is e =
    let same : record { class = class; field = c_echo; message = message; with_data = false; instance = None } ≡ command = cc in
    subst NamesUids same (is, refl)
echo_names false class message command is e = absurd cc

kind_names : (t : Bool) (class : List ℕ) (message : ℕ) (es : List CommandElement) (command : CommandRecord) → is_uid class ≡ true
    → (if t then Err WrongKind else store_command class message es) ≡ Ok command → NamesUids command
kind_names true class message es command is e = absurd cc
kind_names false class message es command is e = store_names class message es command is e

field_names : (t : Bool) (class : List ℕ) (message kind : ℕ) (es : List CommandElement) (command : CommandRecord) → is_uid class ≡ true
    → (if t then (if nat_eq kind no_data_set then Err WrongKind else store_command class message es) else Err UnknownField) ≡ Ok command → NamesUids command
field_names true class message kind es command is e = kind_names (nat_eq kind no_data_set) class message es command is e
field_names false class message kind es command is e = absurd cc

request_by : (t : Bool) (class : List ℕ) (field message kind : ℕ) (es : List CommandElement) (command : CommandRecord) → is_uid class ≡ true
    → (if t then (if nat_eq kind no_data_set then Ok (record { class = class; field = c_echo; message = message; with_data = false; instance = None }) else Err WrongKind)
    else (if nat_eq field c_store then (if nat_eq kind no_data_set then Err WrongKind else store_command class message es) else Err UnknownField)) ≡ Ok command → NamesUids command
request_by true class field message kind es command is e = echo_names (nat_eq kind no_data_set) class message command is e
request_by false class field message kind es command is e = field_names (nat_eq field c_store) class message kind es command is e

names_uids : (es : List CommandElement) (command : CommandRecord) → command_of es ≡ Ok command → NamesUids command
unfolding command_of
names_uids es command e =
    let class = went (needed uid_of (command_value 0x0002 es)) _ command e in
    let field = went (needed two_bytes (command_value 0x0100 es)) _ command class.next in
    let message = went (needed two_bytes (command_value 0x0110 es)) _ command field.next in
    let kind = went (needed two_bytes (command_value 0x0800 es)) _ command message.next in
    request_by (nat_eq field.value c_echo) class.value field.value message.value kind.value es command (uid_needed (command_value 0x0002 es) class.value class.first) kind.next

set_names : (set : Option (List CommandElement)) (command : CommandRecord) → command_in_set set ≡ Ok command → NamesUids command
set_names None command e = absurd cc
set_names (Some es) command e = names_uids es command e

pub reads_uids : (text : List ℕ) (command : CommandRecord) → command_in text ≡ Ok command → (is_uid command.class ≡ true) × (is_uid_or_none command.instance ≡ true)
unfolding command_in
reads_uids text command e = set_names (set_of text) command e
