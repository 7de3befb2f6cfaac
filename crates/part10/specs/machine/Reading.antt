-- The effect of each part of the reading of File Meta Information: which bytes it read, or why the remaining bytes of
-- the reader cannot be such a part.
use Rattle.std.specs.Prelude.{◌≡◌, ◌≢◌, ℕ, ◌+◌, ◌%◌, ◌^◌, ◌<◌, ◌≤◌, Bool, List, ◌++◌, length, replicate, Option, Some, None, Result, Ok, Err, IfSome, ⊤, nat_eq, nat_lt, ◌&&◌, if◌then◌else◌, codes}
use Rattle.std.specs.Io.KnownBytes.{Consumes}
use Rattle.element.specs.declared.syntax.Syntax.TheVariants.{Explicit}
use Rattle.element.specs.declared.header.Header.{Header}
use Rattle.element.specs.Header.{SpellsHeader}
use Rattle.element.specs.Padding.{is_padding, is_empty, without_trailing}
use Rattle.element.specs.Uid.{uid_of}
use Rattle.dictionary.specs.Transfers.{transfer_of}
use Rattle.part10.specs.declared.meta_fault.MetaFault.{MetaFault}
use Rattle.part10.specs.declared.meta_fault.MetaFault.TheVariants.{NotPart10, BadMeta, OtherSyntax, ReadFailed}
use Rattle.part10.specs.declared.meta.Meta.{Meta}
use Rattle.part10.specs.declared.reading.Element.{Element}
use Rattle.part10.specs.declared.reading.Found.{Found}
use Rattle.part10.specs.File.{length_element}
use Rattle.part10.specs.MetaText.{HasLetters, MetaElement, MetaElements, uid_at}

-- bytes with the property P were read
abbrev pub Reads : Option (List ℕ) → Option (List ℕ) → (List ℕ → Type 0) → Type 0
Reads old new P = (text : List ℕ) × Consumes old new text × P text

-- a part fails: a read failed, or the remaining bytes have the property P (`BadMeta`)
abbrev pub Breaks : MetaFault → Option (List ℕ) → (List ℕ → Type 0) → Type 0
Breaks ReadFailed old P = ⊤
Breaks BadMeta old P = IfSome old P
Breaks NotPart10 old P = ⊥
Breaks OtherSyntax old P = ⊥

-- a preamble of any 128 bytes, and the prefix DICM
abbrev pub IsPrefix : List ℕ → Type 0
IsPrefix text = (preamble : List ℕ) × (length preamble ≡ 128) × (text ≡ preamble ++ codes "DICM")

abbrev pub NoLetters : MetaFault → Option (List ℕ) → Type 0
NoLetters ReadFailed old = ⊤
NoLetters NotPart10 old = IfSome old (λ file. ¬ HasLetters file)
NoLetters BadMeta old = ⊥
NoLetters OtherSyntax old = ⊥

abbrev pub NoSize : List ℕ → Type 0
NoSize rest = (n : ℕ) (back : List ℕ) → n < 2 ^ 32 → rest ≢ length_element n ++ back

-- a header of at most `remaining` bytes was read, and `size` is the number of its bytes
pub record HeaderRead (remaining : ℕ) (header : Header) (size : ℕ) (old new : Option (List ℕ)) : Type 0 where
  pub bytes : List ℕ
  pub spells : SpellsHeader Explicit header bytes
  pub consumed : Consumes old new bytes
  pub counted : length bytes ≡ size
  pub within : size ≤ remaining

abbrev pub NoHeader : ℕ → List ℕ → Type 0
NoHeader remaining rest = (h : Header) (bytes back : List ℕ) → SpellsHeader Explicit h bytes → rest ≡ bytes ++ back → length bytes ≤ remaining → ⊥

-- a text of `size` bytes; `padding` says whether they are padding alone
abbrev pub IsPart : ℕ → Bool → List ℕ → Type 0
IsPart size padding text = (length text ≡ size) × (padding ≡ is_empty (without_trailing is_padding text))

-- a value of `size` bytes, and the UID in it, if it is one
abbrev pub IsValue : ℕ → Option (List ℕ) → List ℕ → Type 0
IsValue size uid text = (length text ≡ size) × (uid ≡ uid_of text)

-- h is the header of an element of group 0002 with an element number above `last` and an even length
abbrev pub is_next : Header → ℕ → Bool
is_next h last = nat_eq h.tag.0 2 && nat_lt last h.tag.1 && nat_eq (h.length % 2) 0

-- an element of group 0002 with an element number above `last`: the bytes of its header h, and its value
pub record IsElement (last : ℕ) (h : Header) (bytes value : List ℕ) : Type 0 where
  pub spells : SpellsHeader Explicit h bytes
  pub group : h.tag.0 ≡ 2
  pub rises : last < h.tag.1
  pub even : h.length % 2 ≡ 0
  pub size : length value ≡ h.length

pub record ElementRead (last remaining : ℕ) (element : Element) (old new : Option (List ℕ)) : Type 0 where
  pub header : Header
  pub bytes : List ℕ
  pub value : List ℕ
  pub is : IsElement last header bytes value
  pub consumed : Consumes old new (bytes ++ value)
  pub number : element.number ≡ header.tag.1
  pub uid : element.uid ≡ uid_of value
  pub counted : length bytes + length value ≡ element.size
  pub within : element.size ≤ remaining

abbrev pub NoElement : ℕ → ℕ → List ℕ → Type 0
NoElement last remaining rest = (h : Header) (bytes value back : List ℕ) → IsElement last h bytes value → rest ≡ (bytes ++ value) ++ back → length bytes + length value ≤ remaining → ⊥

-- the UIDs that were found, after an element with this number
abbrev pub noted : ℕ → Option (List ℕ) → Found → Found
noted number uid found = record {
  class = if nat_eq number 0x0002 then uid else found.class;
  instance = if nat_eq number 0x0003 then uid else found.instance;
  syntax = if nat_eq number 0x0010 then uid else found.syntax;
}

-- `found` has the UIDs of these elements
pub record IsFound (found : Found) (elements : List MetaElement) : Type 0 where
  pub class : found.class ≡ uid_at 0x0002 elements
  pub instance : found.instance ≡ uid_at 0x0003 elements
  pub syntax : found.syntax ≡ uid_at 0x0010 elements

pub record GroupRead (size : ℕ) (found : Found) (old new : Option (List ℕ)) : Type 0 where
  pub group : List ℕ
  pub elements : List MetaElement
  pub consumed : Consumes old new group
  pub counted : length group ≡ size
  pub spelled : MetaElements 0 elements group
  pub is : IsFound found elements

abbrev pub NoGroup : ℕ → List ℕ → Type 0
NoGroup size rest = (elements : List MetaElement) (group back : List ℕ) → rest ≡ group ++ back → length group ≡ size → MetaElements 0 elements group → ⊥

-- the result of the File Meta Information with these UIDs: `BadMeta` if one is missing, `OtherSyntax` if its transfer
-- syntax is not supported
abbrev pub IsMeta : Found → Result Meta MetaFault → Type 0
IsMeta found (Ok meta) =
    (syntax : List ℕ) × (found.class ≡ Some meta.class) × (found.instance ≡ Some meta.instance)
    × (found.syntax ≡ Some syntax) × (transfer_of syntax ≡ Some meta.syntax) × (meta.calling.0 ≡ replicate 16 32)
IsMeta found (Err ReadFailed) = ⊥
IsMeta found (Err NotPart10) = ⊥
IsMeta found (Err BadMeta) = ¬ ((class instance syntax : List ℕ) × (found.class ≡ Some class) × (found.instance ≡ Some instance) × (found.syntax ≡ Some syntax))
IsMeta found (Err OtherSyntax) =
    (class instance syntax : List ℕ) × (found.class ≡ Some class) × (found.instance ≡ Some instance)
    × (found.syntax ≡ Some syntax) × (transfer_of syntax ≡ None)
