-- The items of an association request, and the record that they make (PS3.8 sections 9.3.2.1 to 9.3.2.3 and annex D.1).
use Rattle.std.specs.Prelude.{◌≡◌, ◌<◌, ℕ, Bool, ◌&&◌, List, [], ◌∷◌, length, take, drop, map, get_or, nat_eq, nat_le, if◌then◌else◌}
use Rattle.std.specs.List.{filter}
use Rattle.byteorder.specs.Endian.{big_number}
use Rattle.element.specs.Padding.{is_padding, without_trailing}
use Rattle.pdu.specs.Types.{application_context_item, proposed_context_item, abstract_syntax_item, transfer_syntax_item, user_information_item, maximum_length_item}
use Rattle.pdu.specs.Sizes.{request_head_size, title_size, item_head_size, context_head_size}
use Rattle.pdu.specs.Pieces.{PieceLayout, pieces_of}
use Rattle.pdu.specs.Record.{Proposal, RequestRecord}

-- the layout of an item: one byte type, one reserved, two bytes length, and content of that length
-- e.g. item.body (16 ∷ 0 ∷ 0 ∷ 21 ∷ []) ≡ 21
abbrev pub item : PieceLayout
item = record { head = item_head_size; body = λ text. big_number 2 (drop 2 text) }

-- the whole items at the front of a text
-- e.g. items_of (81 ∷ 0 ∷ 0 ∷ 1 ∷ 7 ∷ []) ≡ (81 ∷ 0 ∷ 0 ∷ 1 ∷ 7 ∷ []) ∷ []
unfoldable pub items_of : List ℕ → List (List ℕ)
items_of text = (pieces_of item text).0

-- the bytes after the whole items at the front of a text
-- e.g. remainder (81 ∷ 0 ∷ 0 ∷ 2 ∷ 7 ∷ []) ≡ 81 ∷ 0 ∷ 0 ∷ 2 ∷ 7 ∷ []
unfoldable pub remainder : List ℕ → List ℕ
remainder text = (pieces_of item text).1

-- the text is the whole item f, followed by t
pub record Begins (text f t : List ℕ) : Type 0 where
  pub items : items_of text ≡ f ∷ items_of t
  pub rest : remainder text ≡ remainder t
  pub shorter : length t < length text

-- the text begins with no whole item
pub record BeginsNone (text : List ℕ) : Type 0 where
  pub items : items_of text ≡ []
  pub rest : remainder text ≡ text

-- the type of an item: its first byte
-- e.g. kind (81 ∷ 0 ∷ 0 ∷ 0 ∷ []) ≡ 81
abbrev pub kind : List ℕ → ℕ
kind i = get_or i 0 0

-- the content of an item, after its head of four bytes
-- e.g. item_content (81 ∷ 0 ∷ 0 ∷ 1 ∷ 7 ∷ []) ≡ 7 ∷ []
abbrev pub item_content : List ℕ → List ℕ
item_content i = drop item_head_size i

-- whether the item has this type
-- e.g. is_kind 81 (81 ∷ 0 ∷ 0 ∷ 0 ∷ []) ≡ true
abbrev pub is_kind : ℕ → List ℕ → Bool
is_kind k i = nat_eq (kind i) k

-- the items of this type, in their order
-- e.g. of_kind 81 ((80 ∷ []) ∷ (81 ∷ []) ∷ []) ≡ (81 ∷ []) ∷ []
abbrev pub of_kind : ℕ → List (List ℕ) → List (List ℕ)
of_kind k items = filter (is_kind k) items

-- the first item, or no bytes if there is none
-- e.g. first_or_none [] ≡ []
abbrev pub first_or_none : List (List ℕ) → List ℕ
first_or_none [] = []
first_or_none (i ∷ is) = i

-- the content of the first item of this type; none where there is no such item
-- e.g. content_in 81 ((81 ∷ 0 ∷ 0 ∷ 1 ∷ 7 ∷ []) ∷ []) ≡ 7 ∷ []; content_in 80 [] ≡ []
abbrev pub content_in : ℕ → List (List ℕ) → List ℕ
content_in k items = item_content (first_or_none (of_kind k items))

-- a UID is read without trailing zero bytes and spaces
-- e.g. unpadded (codes "1.2" ++ 0 ∷ []) ≡ codes "1.2"
abbrev pub unpadded : List ℕ → List ℕ
unpadded bytes = without_trailing is_padding bytes

-- a proposed presentation context: an item of type 20H with its ID and three reserved bytes
-- e.g. is_context (32 ∷ 0 ∷ 0 ∷ 0 ∷ []) ≡ false
abbrev pub is_context : List ℕ → Bool
is_context i = is_kind proposed_context_item i && nat_le context_head_size (length i)

-- the sub-items of a proposed presentation context, after the ID and the reserved bytes
abbrev pub parts : List ℕ → List (List ℕ)
parts i = items_of (drop context_head_size i)

-- the UID in an item, without padding
-- e.g. identifier (64 ∷ 0 ∷ 0 ∷ 4 ∷ codes "1.2" ++ 0 ∷ []) ≡ codes "1.2"
abbrev pub identifier : List ℕ → List ℕ
identifier i = unpadded (item_content i)

-- the UIDs of the items of type 40H, transfer syntax, in their order
-- e.g. syntaxes ((64 ∷ 0 ∷ 0 ∷ 3 ∷ codes "1.2") ∷ []) ≡ codes "1.2" ∷ []
abbrev pub syntaxes : List (List ℕ) → List (List ℕ)
syntaxes items = map identifier (of_kind transfer_syntax_item items)

-- the presentation context that an item proposes: its ID, the abstract syntax (30H) and the transfer syntaxes (40H)
-- (law `engine::recorded_echo`)
abbrev pub proposal_of : List ℕ → Proposal
proposal_of i = record {
  id = get_or i 4 0;
  abstract_syntax = unpadded (content_in abstract_syntax_item (parts i));
  transfer_syntaxes = syntaxes (parts i);
}

-- the presentation contexts that the items propose, in their order
-- e.g. proposals [] ≡ []
abbrev pub proposals : List (List ℕ) → List Proposal
proposals items = map proposal_of (filter is_context items)

-- the number of four bytes, or 0 for any other number of bytes: the peer's maximum length, 51H in 50H (PS3.8 annex
-- D.1.1)
-- e.g. four_or_none (0 ∷ 0 ∷ 64 ∷ 0 ∷ []) ≡ 16384; four_or_none [] ≡ 0
abbrev pub four_or_none : List ℕ → ℕ
four_or_none bytes = if nat_eq (length bytes) 4 then big_number 4 bytes else 0

-- the peer's maximum length, or 0 if the request has none
-- e.g. maximum_in [] ≡ 0
abbrev pub maximum_in : List (List ℕ) → ℕ
maximum_in items = four_or_none (content_in maximum_length_item (items_of (content_in user_information_item items)))

-- the record of a request, from its body: version 2, reserved 2, called title 16, calling title 16, reserved 32, items
-- (law `engine::recorded_echo`)
abbrev pub request_record : List ℕ → RequestRecord
request_record b = let items = items_of (drop request_head_size b) in record {
  version = big_number 2 b;
  called = take title_size (drop 4 b);
  calling = take title_size (drop 20 b);
  reserved = take 32 (drop 36 b);
  application_context = unpadded (content_in application_context_item items);
  contexts = proposals items;
  maximum = maximum_in items;
}
