-- Reads a command from its bytes, front to back: the function that the definitions of Command.antt determine.
use Rattle.std.specs.Prelude.{ℕ, zero, suc, ◌-◌, ◌%◌, Bool, ◌&&◌, List, [], ◌∷◌, length, take, drop, Option, Some, None, Result, Ok, Err, nat_eq, nat_le, nat_lt, if◌then◌else◌}
use Rattle.byteorder.specs.Endian.{little_number}
use Rattle.element.specs.Padding.{is_empty}
use Rattle.dimse.specs.declared.fault.DimseFault.{DimseFault}
use Rattle.dimse.specs.declared.fault.DimseFault.TheVariants.{BadCommand}
use Rattle.dimse.specs.Command.{CommandElement, CommandRecord, command_of, command_value, field_element, needed, two_bytes}

-- the bytes begin with an element of group 0000 and even length, all of it
-- e.g. is_element (0 ∷ 0 ∷ 0 ∷ 9 ∷ 2 ∷ 0 ∷ 0 ∷ 0 ∷ 0 ∷ 0 ∷ []) ≡ true
-- e.g. is_element (8 ∷ 0 ∷ 0 ∷ 9 ∷ 2 ∷ 0 ∷ 0 ∷ 0 ∷ 0 ∷ 0 ∷ []) ≡ false
abbrev pub is_element : List ℕ → Bool
is_element b =
    nat_le 8 (length b) && (nat_eq (little_number 2 b) 0 && (nat_eq (little_number 4 (drop 4 b) % 2) 0 && nat_le (little_number 4 (drop 4 b)) (length b - 8)))

-- the first element of the bytes, and the bytes after it; none if they do not begin with a whole element
-- e.g. element_at (0 ∷ 0 ∷ 0 ∷ 9 ∷ 2 ∷ 0 ∷ 0 ∷ 0 ∷ 7 ∷ 0 ∷ 1 ∷ []) ≡ Some (record { number = 0x0900; value = 7 ∷ 0 ∷ []
-- }, 1 ∷ [])
unfoldable pub element_at : List ℕ → Option (CommandElement × List ℕ)
element_at b =
    if is_element b then
    Some (record { number = little_number 2 (drop 2 b); value = take (little_number 4 (drop 4 b)) (drop 8 b) }, drop (little_number 4 (drop 4 b)) (drop 8 b))
    else None

-- one element put before the others
-- e.g. with_element (record { number = 2; value = [] }) (Some []) ≡ Some (record { number = 2; value = [] } ∷ [])
abbrev pub with_element : CommandElement → Option (List CommandElement) → Option (List CommandElement)
with_element e None = None
with_element e (Some es) = Some (e ∷ es)

-- the elements of at most `most` bytes, with strictly ascending element numbers above `last`; none if they are
-- anything else
-- e.g. elements_in 4 0 (1 ∷ []) ≡ None
unfoldable pub elements_in : ℕ → ℕ → List ℕ → Option (List CommandElement)
elements_in zero last b = if is_empty b then Some [] else None
elements_in (suc most) last b =
    if is_empty b then Some []
    else (elim (element_at b) [
      | None ↦ None
      | Some x ↦ if nat_lt last x.0.number then with_element x.0 (elements_in most x.0.number x.1) else None
    ])

-- the elements of these bytes; none if they are not whole elements with strictly ascending element numbers
-- e.g. elements_of [] ≡ Some []
unfoldable pub elements_of : List ℕ → Option (List CommandElement)
elements_of b = elements_in (length b) 0 b

-- the element is Command Group Length (0000,0000), and its value of four bytes is the number of bytes after it
-- e.g. counts (record { number = 0; value = 12 ∷ 0 ∷ 0 ∷ 0 ∷ [] }) 12 ≡ true
-- e.g. counts (record { number = 0; value = 12 ∷ 0 ∷ 0 ∷ 0 ∷ [] }) 13 ≡ false
abbrev pub counts : CommandElement → ℕ → Bool
counts e rest = nat_eq e.number 0 && (nat_eq (length e.value) 4 && nat_eq (little_number 4 e.value) rest)

-- the elements of a command set after Command Group Length; none if the bytes are no command set
-- e.g. set_of [] ≡ None
unfoldable pub set_of : List ℕ → Option (List CommandElement)
set_of text = elim (element_at text) [
  | None ↦ None
  | Some x ↦ if counts x.0 (length x.1) then elements_of x.1 else None
]

-- the command of these elements, or its fault; `BadCommand` if the bytes were no command set
-- e.g. command_in_set None ≡ Err BadCommand
abbrev pub command_in_set : Option (List CommandElement) → Result CommandRecord DimseFault
command_in_set None = Err BadCommand
command_in_set (Some es) = command_of es

-- the command of these bytes, or their fault
-- e.g. command_in [] ≡ Err BadCommand
unfoldable pub command_in : List ℕ → Result CommandRecord DimseFault
command_in text = command_in_set (set_of text)

-- the number, if one was read
abbrev pub if_read : Result ℕ DimseFault → Option ℕ
if_read (Ok number) = Some number
if_read (Err fault) = None

-- the Command Field of a command set, which need not be that of a valid command; none if the bytes are no command set
-- or have none
abbrev pub field_in_set : Option (List CommandElement) → Option ℕ
field_in_set None = None
field_in_set (Some es) = if_read (needed two_bytes (command_value field_element es))

-- the Command Field of a command set, which need not be that of a valid command; none if the bytes are no command set,
-- or have none (PS3.7 E.1)
unfoldable pub field_in : List ℕ → Option ℕ
field_in text = field_in_set (set_of text)
