-- The body of an A-ASSOCIATE-RQ: which bytes are the encoding of which request (PS3.8 section 9.3.2 and annex D.1).
use Rattle.std.specs.Prelude.{◌≡◌, ℕ, ◌≤◌, ◌<◌, ◌%◌, eqb, List, [], ◌∷◌, length}
use Rattle.std.specs.List.{AllByRecursion, IsDistinct}
use Rattle.byteorder.specs.Endian.{big_number}
use Rattle.pdu.specs.Types.{application_context_item, proposed_context_item, abstract_syntax_item, user_information_item, maximum_length_item}
use Rattle.pdu.specs.Sizes.{title_size}
use Rattle.pdu.specs.Record.{Proposal, RequestRecord, ids}
use Rattle.pdu.specs.Pieces.{IsWholePiece, joined}
use Rattle.pdu.specs.Items.{item, item_content, of_kind, identifier, syntaxes}

-- the list has exactly one element, and P holds of it
abbrev pub One : (List ℕ → Type 0) → List (List ℕ) → Type 0
One P [] = ⊥
One P (i ∷ []) = P i
One P (i ∷ j ∷ is) = ⊥

-- the items of type 51H give this maximum length: there is at most one, of four bytes; without one it is 0
abbrev pub MaximumText : ℕ → List (List ℕ) → Type 0
MaximumText maximum [] = maximum ≡ 0
MaximumText maximum (m ∷ []) = (length (item_content m) ≡ 4) × (maximum ≡ big_number 4 (item_content m))
MaximumText maximum (m ∷ n ∷ ms) = ⊥

-- user information (PS3.8 section 9.3.2.3): sub-items, of which 51H is the maximum length; others are ignored
pub record InformationText (maximum : ℕ) (i : List ℕ) : Type 0 where
  pub parts : List (List ℕ)
  pub whole : item_content i ≡ joined parts
  pub each : AllByRecursion (IsWholePiece item) parts
  pub maximum_is : MaximumText maximum (of_kind maximum_length_item parts)

-- a proposed presentation context (PS3.8 section 9.3.2.2): its ID, which is odd, three reserved bytes, and
-- sub-items: one 30H abstract syntax, one or more 40H transfer syntaxes; others are ignored
pub record ContextText (p : Proposal) (i : List ℕ) : Type 0 where
  pub a : ℕ
  pub b : ℕ
  pub c : ℕ
  pub parts : List (List ℕ)
  pub whole : item_content i ≡ p.id ∷ a ∷ b ∷ c ∷ joined parts
  pub each : AllByRecursion (IsWholePiece item) parts
  pub abstract_one : One (λ s. p.abstract_syntax ≡ identifier s) (of_kind abstract_syntax_item parts)
  pub transfer : p.transfer_syntaxes ≡ syntaxes parts
  pub some : 1 ≤ length p.transfer_syntaxes
  pub odd : p.id % 2 ≡ 1

-- item by item, the items are the encodings of these proposed presentation contexts
abbrev pub ContextTexts : List Proposal → List (List ℕ) → Type 0
ContextTexts [] [] = Unit {0}
ContextTexts [] (i ∷ is) = ⊥
ContextTexts (p ∷ ps) [] = ⊥
ContextTexts (p ∷ ps) (i ∷ is) = ContextText p i × ContextTexts ps is

-- the body b is an encoding of the request r: version, two reserved bytes, titles, 32 reserved bytes, and items in
-- any order, one of them 10H, one 50H, one or more 20H; others are ignored
pub record RequestText (r : RequestRecord) (b : List ℕ) : Type 0 where
  pub version : List ℕ
  pub unused : List ℕ
  pub items : List (List ℕ)
  pub whole : b ≡ joined (version ∷ unused ∷ r.called ∷ r.calling ∷ r.reserved ∷ items)
  pub version_size : length version ≡ 2
  pub unused_size : length unused ≡ 2
  pub called_size : length r.called ≡ title_size
  pub calling_size : length r.calling ≡ title_size
  pub reserved_size : length r.reserved ≡ 32
  pub version_is : r.version ≡ big_number 2 version
  pub each : AllByRecursion (IsWholePiece item) items
  pub application : One (λ i. r.application_context ≡ identifier i) (of_kind application_context_item items)
  pub information : One (InformationText r.maximum) (of_kind user_information_item items)
  pub contexts : ContextTexts r.contexts (of_kind proposed_context_item items)
  pub some : 1 ≤ length r.contexts
  pub distinct : IsDistinct eqb (ids r.contexts)

-- the ID of a presentation context: an odd number of one byte
abbrev pub IsContextId : ℕ → Type 0
IsContextId id = (id % 2 ≡ 1) × (id < 256)

-- what the type of a request guarantees: 32 reserved bytes, and IDs that are odd and distinct
pub record IsRequest (r : RequestRecord) : Type 0 where
  pub reserved_size : length r.reserved ≡ 32
  pub ids_odd : AllByRecursion IsContextId (ids r.contexts)
  pub ids_distinct : IsDistinct eqb (ids r.contexts)
