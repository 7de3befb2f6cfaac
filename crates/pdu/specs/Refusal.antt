-- The fault of the body of an A-ASSOCIATE-RQ (PS3.8 section 9.3.2; the numbers of the faults and their order are this
-- product's own profile). Items are checked in their order; of an item that has several faults, that of the smallest
-- number counts.
use Rattle.std.specs.Prelude.{◌≡◌, ℕ, ◌%◌, Bool, true, false, not, ◌&&◌, List, [], ◌∷◌, length, drop, get_or, nat_eq, nat_lt, Option, Some, None, Result, Ok, Err, if◌then◌else◌}
use Rattle.std.specs.List.{list_any}
use Rattle.std.specs.Option.{option_or}
use Rattle.element.specs.Padding.{is_empty}
use Rattle.pdu.specs.Types.{application_context_item, proposed_context_item, abstract_syntax_item, transfer_syntax_item, user_information_item, maximum_length_item}
use Rattle.pdu.specs.Sizes.{request_head_size, context_head_size}
use Rattle.pdu.specs.declared.fault.PduFault.{PduFault}
use Rattle.pdu.specs.declared.fault.PduFault.TheVariants.{BadLength, BadItem, BadContextId, DoubleContext, Missing}
use Rattle.pdu.specs.Items.{items_of, remainder, is_kind, of_kind, item_content, parts, is_context}

-- the bytes are whole items and nothing else
-- e.g. are_whole_items (81 ∷ 0 ∷ 0 ∷ 2 ∷ 7 ∷ []) ≡ false
abbrev pub are_whole_items : List ℕ → Bool
are_whole_items text = is_empty (remainder text)

-- the fault of an application context item after these items: a second one is 32
-- e.g. application_fault ((16 ∷ []) ∷ []) ≡ Some BadItem; application_fault [] ≡ None
abbrev pub application_fault : List (List ℕ) → Option PduFault
application_fault before = if list_any (is_kind application_context_item) before then Some BadItem else None

-- there is at most one maximum length item, and it is of four bytes
-- e.g. is_maximum [] ≡ true; is_maximum ((81 ∷ 0 ∷ 0 ∷ 4 ∷ 0 ∷ 0 ∷ 64 ∷ 0 ∷ []) ∷ []) ≡ true
abbrev pub is_maximum : List (List ℕ) → Bool
is_maximum [] = true
is_maximum (m ∷ []) = nat_eq (length (item_content m)) 4
is_maximum (m ∷ n ∷ ms) = false

-- the fault of the sub-items of user information
-- e.g. information_part_fault (81 ∷ 0 ∷ 0 ∷ 1 ∷ 7 ∷ []) ≡ Some BadItem
abbrev pub information_part_fault : List ℕ → Option PduFault
information_part_fault text =
    if not (are_whole_items text) then Some BadLength
    else (if not (is_maximum (of_kind maximum_length_item (items_of text))) then Some BadItem
    else None)

-- the fault of a user information item after these items: that of its sub-items, or 32 for a second one
abbrev pub information_fault : List (List ℕ) → List ℕ → Option PduFault
information_fault before i = option_or (information_part_fault (item_content i)) (if list_any (is_kind user_information_item) before then Some BadItem else None)

-- there is one abstract syntax and at least one transfer syntax
-- e.g. has_syntaxes [] ≡ false
abbrev pub has_syntaxes : List (List ℕ) → Bool
has_syntaxes items = nat_eq (length (of_kind abstract_syntax_item items)) 1 && not (nat_eq (length (of_kind transfer_syntax_item items)) 0)

-- the ID of a proposed presentation context
-- e.g. id_of (32 ∷ 0 ∷ 0 ∷ 4 ∷ 3 ∷ []) ≡ 3
abbrev pub id_of : List ℕ → ℕ
id_of i = get_or i 4 0

-- the fault of the contents of a proposed presentation context: 31 without its ID and reserved bytes, 32 by its
-- sub-items, 33 by an even ID
-- e.g. context_part_fault (32 ∷ 0 ∷ 0 ∷ 0 ∷ []) ≡ Some BadLength
abbrev pub context_part_fault : List ℕ → Option PduFault
context_part_fault i =
    if not (is_context i) then Some BadLength
    else (if not (are_whole_items (drop context_head_size i)) then Some BadLength
    else (if not (has_syntaxes (parts i)) then Some BadItem
    else (if nat_eq (id_of i % 2) 0 then Some BadContextId
    else None)))

-- whether the item proposes a presentation context with this ID
-- e.g. has_id 3 (32 ∷ 0 ∷ 0 ∷ 4 ∷ 3 ∷ []) ≡ true
abbrev pub has_id : ℕ → List ℕ → Bool
has_id id i = is_kind proposed_context_item i && nat_eq (id_of i) id

-- the fault of a proposed presentation context after these items: that of its contents, or 34 for the ID of an
-- earlier one
abbrev pub context_fault : List (List ℕ) → List ℕ → Option PduFault
context_fault before i = option_or (context_part_fault i) (if list_any (has_id (id_of i)) before then Some DoubleContext else None)

-- the fault of an item after these items; items of other types are ignored
-- e.g. item_fault [] (99 ∷ 0 ∷ 0 ∷ 0 ∷ []) ≡ None
unfoldable pub item_fault : List (List ℕ) → List ℕ → Option PduFault
item_fault before i =
    if is_kind application_context_item i then application_fault before
    else (if is_kind proposed_context_item i then context_fault before i
    else (if is_kind user_information_item i then information_fault before i
    else None))

-- an application context, a proposed presentation context and user information are among the items
-- e.g. has_all [] ≡ false
abbrev pub has_all : List (List ℕ) → Bool
has_all items = list_any (is_kind application_context_item) items && (list_any (is_kind proposed_context_item) items && list_any (is_kind user_information_item) items)

-- the fault at the end of the items: bytes that are no whole item, or a required item that is missing
-- e.g. ending_fault [] [] ≡ Some Missing; ending_fault [] (1 ∷ []) ≡ Some BadLength
abbrev pub ending_fault : List (List ℕ) → List ℕ → Option PduFault
ending_fault items rest =
    if not (is_empty rest) then Some BadLength
    else (if has_all items then None
    else Some Missing)

-- the first fault of these items and of the bytes after them; `before` are the items before them, the last one first,
-- which have no fault
-- e.g. list_fault [] [] [] ≡ Some Missing
abbrev pub list_fault : List (List ℕ) → List (List ℕ) → List ℕ → Option PduFault
list_fault before [] rest = ending_fault before rest
list_fault before (i ∷ is) rest = option_or (item_fault before i) (list_fault (i ∷ before) is rest)

-- the first fault of the items of a request
-- e.g. items_fault [] ≡ Some Missing
unfoldable pub items_fault : List ℕ → Option PduFault
items_fault text = list_fault [] (items_of text) (remainder text)

-- the fault of the body of a request; none where it is valid
-- e.g. request_fault [] ≡ Some BadLength
abbrev pub request_fault : List ℕ → Option PduFault
request_fault b = if nat_lt (length b) request_head_size then Some BadLength else items_fault (drop request_head_size b)

abbrev pub RequestFault : List ℕ → PduFault → Type 0
RequestFault b f = request_fault b ≡ Some f

-- a result that fails with this fault, or succeeds where there is none
abbrev pub as_result : Option PduFault → Result (Unit {0}) PduFault
as_result None = Ok tt
as_result (Some f) = Err f
