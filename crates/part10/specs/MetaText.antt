-- File Meta Information as it is read, and the fault of a file without it (PS3.10 section 7.1). That the preamble is
-- not checked, and the VRs after the first element are not, is this product's own profile. A file header is the
-- preamble, the prefix DICM and the File Meta Information.
use Rattle.std.specs.Prelude.{◌≡◌, ◌≢◌, ℕ, ◌%◌, ◌^◌, ◌<◌, List, [], ◌∷◌, ◌++◌, length, take, drop, Option, Some, None, IfSome, ⊤, ◌⊎◌, nat_eq, if◌then◌else◌, codes}
use Rattle.std.specs.Io.KnownBytes.{Consumes}
use Rattle.element.specs.declared.syntax.Syntax.{Syntax}
use Rattle.element.specs.declared.syntax.Syntax.TheVariants.{Explicit}
use Rattle.element.specs.declared.header.Header.{Header}
use Rattle.element.specs.Header.{SpellsHeader}
use Rattle.element.specs.Numbers.{IsBytes}
use Rattle.element.specs.Uid.{uid_of}
use Rattle.dictionary.specs.declared.transfer.Transfer.{Transfer}
use Rattle.dictionary.specs.Syntaxes.{syntax_uid}
use Rattle.dictionary.specs.Transfers.{transfer_uid}
use Rattle.part10.specs.declared.meta.Meta.{Meta}
use Rattle.part10.specs.declared.meta_fault.MetaFault.{MetaFault}
use Rattle.part10.specs.declared.meta_fault.MetaFault.TheVariants.{NotPart10, BadMeta, OtherSyntax, ReadFailed}
use Rattle.part10.specs.File.{length_element}

-- an element of group 0002: its element number and its value
pub record MetaElement : Type 0 where
  pub number : ℕ
  pub value : List ℕ

-- the first element of a text, and the bytes after it
abbrev pub meta_element_of : Header → List ℕ → MetaElement
meta_element_of h v = record { number = h.tag.1; value = v }

-- the bytes b are these elements of group 0002, with strictly ascending element numbers above `last`: each is a
-- header and as many bytes as its even, and so defined, length says
pub data MetaElements : ℕ → List MetaElement → List ℕ → Type 0 where
  no_more : {last : ℕ} → MetaElements last [] []
  element_then : {last : ℕ} {h : Header} {hb v : List ℕ} {es : List MetaElement} {b : List ℕ}
      → SpellsHeader Explicit h hb → h.tag.0 ≡ 2 → last < h.tag.1 → h.length % 2 ≡ 0 → length v ≡ h.length
      → MetaElements h.tag.1 es b
      → MetaElements last (meta_element_of h v ∷ es) (hb ++ (v ++ b))

-- the UID in the element with this element number; none if the element is missing or has no valid UID
abbrev pub uid_at : ℕ → List MetaElement → Option (List ℕ)
uid_at number [] = None
uid_at number (e ∷ es) = if nat_eq e.number number then uid_of e.value else uid_at number es

-- what a file header says of its instance: SOP class, SOP instance and transfer syntax
pub record MetaValues : Type 0 where
  pub class : List ℕ
  pub instance : List ℕ
  pub syntax : List ℕ

-- what the file header that is written for an instance says
abbrev pub meta_values_of : Meta → MetaValues
meta_values_of meta = record { class = meta.class; instance = meta.instance; syntax = transfer_uid meta.syntax }

-- the bytes b are a file header that says this: any preamble, the prefix DICM, and group 0002, which begins with its
-- length and has the SOP class, the SOP instance and the transfer syntax
pub record SpellsMeta (said : MetaValues) (b : List ℕ) : Type 0 where
  pub preamble : List ℕ
  pub group : List ℕ
  pub elements : List MetaElement
  pub preamble_size : length preamble ≡ 128
  pub group_size : length group < 2 ^ 32
  pub whole : b ≡ preamble ++ codes "DICM" ++ length_element (length group) ++ group
  pub spelled : MetaElements 0 elements group
  pub class : uid_at 0x0002 elements ≡ Some said.class
  pub instance : uid_at 0x0003 elements ≡ Some said.instance
  pub syntax : uid_at 0x0010 elements ≡ Some said.syntax

-- the file begins with a file header that says this
pub record HasMeta (said : MetaValues) (file : List ℕ) : Type 0 where
  pub front : List ℕ
  pub back : List ℕ
  pub whole : file ≡ front ++ back
  pub spelled : SpellsMeta said front

-- the file has the prefix DICM after 128 bytes
abbrev pub HasLetters : List ℕ → Type 0
HasLetters file = take 4 (drop 128 file) ≡ codes "DICM"

-- the number of a fault
abbrev pub fault_number : MetaFault → ℕ
fault_number NotPart10 = 50
fault_number BadMeta = 51
fault_number OtherSyntax = 53
fault_number ReadFailed = 54

-- the name of a fault
abbrev pub fault_name : MetaFault → List ℕ
fault_name NotPart10 = codes "NotPart10"
fault_name BadMeta = codes "BadMeta"
fault_name OtherSyntax = codes "OtherSyntax"
fault_name ReadFailed = codes "ReadFailed"

-- the fault of a file: no prefix DICM after 128 bytes; no file header; a transfer syntax other than the two native
-- ones. A failed read is no fault of the file
abbrev pub MetaFaultOf : List ℕ → MetaFault → Type 0
MetaFaultOf file NotPart10 = ¬ HasLetters file
MetaFaultOf file BadMeta = HasLetters file × ((said : MetaValues) → ¬ HasMeta said file)
MetaFaultOf file OtherSyntax = (said : MetaValues) × HasMeta said file × ((s : Syntax) → said.syntax ≢ syntax_uid s)
MetaFaultOf file ReadFailed = ⊥

-- reading consumed exactly a file header that says this
abbrev pub ConsumesMeta : MetaValues → Option (List ℕ) → Option (List ℕ) → Type 0
ConsumesMeta said old new = (header : List ℕ) × SpellsMeta said header × Consumes old new header

-- reading consumed exactly a file header with a transfer syntax other than the two native ones
abbrev pub NamesOther : Option (List ℕ) → Option (List ℕ) → Type 0
NamesOther old new = (said : MetaValues) × ConsumesMeta said old new × ((s : Syntax) → said.syntax ≢ syntax_uid s)

-- reading fails with this fault: a read failed, or it is the fault of the bytes that the reader had, if they are
-- known
abbrev pub FailsToRead : MetaFault → Option (List ℕ) → Type 0
FailsToRead ReadFailed old = ⊤
FailsToRead NotPart10 old = IfSome old (λ file. MetaFaultOf file NotPart10)
FailsToRead BadMeta old = IfSome old (λ file. MetaFaultOf file BadMeta)
FailsToRead OtherSyntax old = IfSome old (λ file. MetaFaultOf file OtherSyntax)

-- ---- the same if each transfer syntax of the dictionary is supported

-- the file has a file header with a transfer syntax that is not in the dictionary
abbrev pub NamesNone : List ℕ → Type 0
NamesNone file = (said : MetaValues) × HasMeta said file × ((t : Transfer) → said.syntax ≢ transfer_uid t)

abbrev pub NamesUnknown : Option (List ℕ) → Option (List ℕ) → Type 0
NamesUnknown old new = (said : MetaValues) × ConsumesMeta said old new × ((t : Transfer) → said.syntax ≢ transfer_uid t)

abbrev pub FailsToReadAny : MetaFault → Option (List ℕ) → Type 0
FailsToReadAny ReadFailed old = ⊤
FailsToReadAny NotPart10 old = IfSome old (λ file. MetaFaultOf file NotPart10)
FailsToReadAny BadMeta old = IfSome old (λ file. MetaFaultOf file BadMeta)
FailsToReadAny OtherSyntax old = IfSome old NamesNone

-- the file has a file header with one of the two native transfer syntaxes
abbrev pub IsConsumed : List ℕ → Type 0
IsConsumed file = (said : MetaValues) × HasMeta said file × ((s : Syntax) × (said.syntax ≡ syntax_uid s))

-- a file determines its file header: what it says and where it ends
abbrev pub OneHeader : Type 0
OneHeader = (file : List ℕ) (said reported : MetaValues) (has : HasMeta said file) (also : HasMeta reported file) → (said ≡ reported) × (has.front ≡ also.front)

-- every file is accepted or has a fault
abbrev pub ConsumedOrFaulty : Type 0
ConsumedOrFaulty = (file : List ℕ) → IsBytes file → IsConsumed file ⊎ ((fault : MetaFault) × MetaFaultOf file fault)

-- no file with a fault is accepted, and no file has two faults
abbrev pub OneVerdict : Type 0
OneVerdict =
    ((file : List ℕ) (fault : MetaFault) → IsConsumed file → ¬ MetaFaultOf file fault)
    × ((file : List ℕ) (fault other : MetaFault) → MetaFaultOf file fault → MetaFaultOf file other → fault ≡ other)
