-- Command sets and the commands that they encode (PS3.7 sections 6.3.1, 9.3.1, 9.3.5 and annex E).
use Rattle.std.specs.Prelude.{◌≡◌, ℕ, ◌^◌, ◌<◌, ◌%◌, Bool, true, false, not, ◌&&◌, List, [], ◌∷◌, ◌++◌, length, Option, Some, None, Result, Ok, Err, nat_eq, ok_or, option_and_then, if◌then◌else◌, ◌⊎◌}
use Rattle.byteorder.specs.Endian.{little_number}
use Rattle.element.specs.Numbers.{le}
use Rattle.element.specs.Header.{header_bytes}
use Rattle.element.specs.Uid.{is_uid, uid_of}
use Rattle.dimse.specs.declared.fault.DimseFault.{DimseFault}
use Rattle.dimse.specs.declared.fault.DimseFault.TheVariants.{BadCommand, UnknownField, WrongKind}

-- an element of group 0000: its element number and its value
pub record CommandElement : Type 0 where
  pub number : ℕ
  pub value : List ℕ

-- the bytes of an element: tag, length and value, in Implicit VR Little Endian
-- e.g. command_element_bytes (record { number = 0x0900; value = 0 ∷ 0 ∷ [] }) ≡ 0 ∷ 0 ∷ 0 ∷ 9 ∷ 2 ∷ 0 ∷ 0 ∷ 0 ∷ 0 ∷ 0 ∷
-- []
unfoldable pub command_element_bytes : CommandElement → List ℕ
command_element_bytes e = header_bytes (record { tag = record { 0 = 0; 1 = e.number }; vr = None; length = length e.value }) ++ e.value

-- the bytes of the elements, one after the other
-- e.g. command_elements_bytes [] ≡ []
abbrev pub command_elements_bytes : List CommandElement → List ℕ
command_elements_bytes [] = []
command_elements_bytes (e ∷ es) = command_element_bytes e ++ command_elements_bytes es

-- the element number has two bytes; the length is even and fits four bytes, so it is never the undefined length
pub record IsCommandElement (e : CommandElement) : Type 0 where
  pub in_group : e.number < 2 ^ 16
  pub even : length e.value % 2 ≡ 0
  pub fits : length e.value < 2 ^ 32

-- elements with strictly ascending element numbers above `last`
abbrev pub AreRising : ℕ → List CommandElement → Type 0
AreRising last [] = Unit {0}
AreRising last (e ∷ es) = IsCommandElement e × (last < e.number) × AreRising e.number es

-- the bytes of a command set: Command Group Length (0000,0000), which is the number of bytes after it, and the other
-- elements
-- e.g. command_set_bytes [] ≡ 0 ∷ 0 ∷ 0 ∷ 0 ∷ 4 ∷ 0 ∷ 0 ∷ 0 ∷ 0 ∷ 0 ∷ 0 ∷ 0 ∷ []
abbrev pub command_set_bytes : List CommandElement → List ℕ
command_set_bytes es = command_element_bytes (record { number = 0; value = le (length (command_elements_bytes es)) 4 }) ++ command_elements_bytes es

-- the bytes are the command set of these elements
pub record SpellsSet (text : List ℕ) (es : List CommandElement) : Type 0 where
  pub rising : AreRising 0 es
  pub counted : length (command_elements_bytes es) < 2 ^ 32
  pub whole : text ≡ command_set_bytes es

-- the value of the element with this element number
-- e.g. command_value 5 (record { number = 5; value = 7 ∷ [] } ∷ []) ≡ Some (7 ∷ [])
abbrev pub command_value : ℕ → List CommandElement → Option (List ℕ)
command_value n [] = None
command_value n (e ∷ es) = if nat_eq e.number n then Some e.value else command_value n es

-- the number in a value of two bytes; none for a value of another length
-- e.g. two_bytes (1 ∷ 1 ∷ []) ≡ Some 257; two_bytes (1 ∷ []) ≡ None
abbrev pub two_bytes : List ℕ → Option ℕ
two_bytes value = if nat_eq (length value) 2 then Some (little_number 2 value) else None

-- ---- the numbers of elements

-- (0000,0002) Affected SOP Class UID
abbrev pub class_element : ℕ
class_element = 0x0002

-- (0000,0100) Command Field
abbrev pub field_element : ℕ
field_element = 0x0100

-- (0000,0110) Message ID
abbrev pub message_element : ℕ
message_element = 0x0110

-- (0000,0120) Message ID Being Responded To
abbrev pub answered_element : ℕ
answered_element = 0x0120

-- (0000,0800) Command Data Set Type
abbrev pub type_element : ℕ
type_element = 0x0800

-- (0000,0900) Status
abbrev pub status_element : ℕ
status_element = 0x0900

-- (0000,0901) Offending Element
abbrev pub offending_element : ℕ
offending_element = 0x0901

-- (0000,0902) Error Comment
abbrev pub comment_element : ℕ
comment_element = 0x0902

-- (0000,1000) Affected SOP Instance UID
abbrev pub instance_element : ℕ
instance_element = 0x1000

-- ---- commands

-- the command field of a C-STORE-RQ (PS3.7 E.1)
abbrev pub c_store : ℕ
c_store = 0x0001

-- the command field of a C-ECHO-RQ (PS3.7 E.1)
abbrev pub c_echo : ℕ
c_echo = 0x0030

-- the Command Data Set Type of a message without a data set (PS3.7 E.1)
abbrev pub no_data_set : ℕ
no_data_set = 0x0101

-- The contents of a C-STORE-RQ or C-ECHO-RQ. The UIDs have no padding; only a C-STORE has an instance and a data set.
pub record CommandRecord : Type 0 where
  pub class : List ℕ
  pub field : ℕ
  pub message : ℕ
  pub with_data : Bool
  pub instance : Option (List ℕ)

abbrev pub is_request : ℕ → Bool → Option (List ℕ) → Bool
is_request field with_data None = nat_eq field c_echo && not with_data
is_request field with_data (Some instance) = nat_eq field c_store && with_data

abbrev pub is_uid_or_none : Option (List ℕ) → Bool
is_uid_or_none None = true
is_uid_or_none (Some uid) = is_uid uid

-- the invariant of a command: valid UIDs, and an instance and a data set exactly if it is a C-STORE
pub record IsCommand (c : CommandRecord) : Type 0 where
  pub request : is_request c.field c.with_data c.instance ≡ true
  pub class : is_uid c.class ≡ true
  pub instance : is_uid_or_none c.instance ≡ true

-- the next step, with the value of the step before; the first fault ends all steps
infixl 10 ◌>>=◌
abbrev pub ◌>>=◌ : {A B : Type 0} → Result A DimseFault → (A → Result B DimseFault) → Result B DimseFault
(Ok x) >>= f = f x
(Err e) >>= f = Err e

-- the value of a required element, read by `reads`; `BadCommand` if it is missing or cannot be read
abbrev pub needed : {A : Type 0} → (List ℕ → Option A) → Option (List ℕ) → Result A DimseFault
needed reads value = ok_or (option_and_then reads value) BadCommand

-- the C-STORE of these elements: its Affected SOP Instance UID (0000,1000) must be a valid UID (law
-- `dimse::worked_commands`)
unfoldable pub store_command : List ℕ → ℕ → List CommandElement → Result CommandRecord DimseFault
store_command class message es = do
  instance ← needed uid_of (command_value instance_element es)
  Ok (record { class = class; field = c_store; message = message; with_data = true; instance = Some instance })

-- the request with this SOP class, Command Field, Message ID and Command Data Set Type, or its fault
-- e.g. request_of (codes "1.2") 0x0030 7 0x0101 [] ≡ Ok (record { class = codes "1.2"; field = 0x0030; message = 7;
-- with_data = false; instance = None })
-- e.g. request_of (codes "1.2") 0x0020 7 0x0101 [] ≡ Err UnknownField
abbrev pub request_of : List ℕ → ℕ → ℕ → ℕ → List CommandElement → Result CommandRecord DimseFault
request_of class field message kind es =
    if nat_eq field c_echo then
    (if nat_eq kind no_data_set then Ok (record { class = class; field = c_echo; message = message; with_data = false; instance = None })
    else Err WrongKind)
    else (if nat_eq field c_store then
    (if nat_eq kind no_data_set then Err WrongKind else store_command class message es)
    else Err UnknownField)

-- the command of the elements of a command set, or its fault
-- e.g. command_of [] ≡ Err BadCommand
unfoldable pub command_of : List CommandElement → Result CommandRecord DimseFault
command_of es = do
  class ← needed uid_of (command_value class_element es)
  field ← needed two_bytes (command_value field_element es)
  message ← needed two_bytes (command_value message_element es)
  kind ← needed two_bytes (command_value type_element es)
  request_of class field message kind es

-- the bytes are the command set of this command
abbrev pub CommandText : CommandRecord → List ℕ → Type 0
CommandText command text = (es : List CommandElement) × SpellsSet text es × (command_of es ≡ Ok command)

-- the fault of the bytes: they are no command set, or one that is no valid command
abbrev pub CommandFault : DimseFault → List ℕ → Type 0
CommandFault fault text = ((es : List CommandElement) × SpellsSet text es × (command_of es ≡ Err fault)) ⊎ ((fault ≡ BadCommand) × ¬ ((es : List CommandElement) × SpellsSet text es))
