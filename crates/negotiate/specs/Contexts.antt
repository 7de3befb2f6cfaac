-- The result of each proposed presentation context (PS3.8 sections 7.1.1.14 and 9.3.3.2).
use Rattle.std.specs.Prelude.{ℕ, Bool, true, false, not, ◌||◌, List, [], ◌∷◌, map, Option, Some, None, nat_eq, if◌then◌else◌, option_and_then}
use Rattle.std.specs.List.{list_any, filter, find}
use Rattle.std.specs.Cmp.Lexicographic.{pointwise}
use Rattle.element.specs.Uid.{uid_of}
use Rattle.element.specs.declared.syntax.Syntax.{Syntax}
use Rattle.element.specs.declared.syntax.Syntax.TheVariants.{Implicit, Explicit}
use Rattle.dictionary.specs.declared.class.Class.{Class}
use Rattle.dictionary.specs.declared.transfer.Transfer.{Transfer}
use Rattle.dictionary.specs.Classes.{class_of}
use Rattle.dictionary.specs.Syntaxes.{syntax_of}
use Rattle.dictionary.specs.Transfers.{is_encapsulated, is_text_of, native, transfer_of, transfer_uid}
use Rattle.pdu.specs.Record.{RequestRecord, Proposal}
use Rattle.negotiate.specs.declared.proposals.Context.{Context}
use Rattle.negotiate.specs.declared.proposals.Service.{Service}
use Rattle.negotiate.specs.declared.proposals.Service.TheVariants.{Known, Additional}
use Rattle.negotiate.specs.Allowed.{Allowed}

-- whether the syntax is Explicit VR Little Endian
-- e.g. is_explicit (Some Explicit) ≡ true
abbrev pub is_explicit : Option Syntax → Bool
is_explicit (Some Explicit) = true
is_explicit other = false

-- whether the syntax is Implicit VR Little Endian
-- e.g. is_implicit None ≡ false
abbrev pub is_implicit : Option Syntax → Bool
is_implicit (Some Implicit) = true
is_implicit other = false

-- whether Explicit VR Little Endian is among these transfer syntaxes
-- e.g. proposes_explicit (codes "1.2.840.10008.1.2" ∷ []) ≡ false
abbrev pub proposes_explicit : List (List ℕ) → Bool
proposes_explicit uids = list_any (λ uid. is_explicit (syntax_of uid)) uids

-- whether Implicit VR Little Endian is among these transfer syntaxes
-- e.g. proposes_implicit (codes "1.2.840.10008.1.2" ∷ []) ≡ true
abbrev pub proposes_implicit : List (List ℕ) → Bool
proposes_implicit uids = list_any (λ uid. is_implicit (syntax_of uid)) uids

-- the native transfer syntax that is chosen from those proposed: Explicit VR Little Endian before Implicit VR Little
-- Endian, and no other (this product's own profile)
-- e.g. chosen (codes "1.2.840.10008.1.2" ∷ codes "1.2.840.10008.1.2.1" ∷ []) ≡ Some Explicit
-- e.g. chosen (codes "1.2.840.10008.1.2.2" ∷ []) ≡ None
abbrev pub chosen : List (List ℕ) → Option Syntax
chosen uids = if proposes_explicit uids then Some Explicit else (if proposes_implicit uids then Some Implicit else None)

-- whether a known transfer syntax is accepted: Pixel Data is native in it, or it is one of the additional ones
abbrev pub is_allowed : List Transfer → Option Transfer → Bool
is_allowed transfers None = false
is_allowed transfers (Some transfer) = not (is_encapsulated transfer) || list_any (is_text_of (transfer_uid transfer)) transfers

-- the proposed transfer syntaxes, of which one that is not accepted counts as none
abbrev pub allowed_transfers : List Transfer → List (List ℕ) → List (List ℕ)
allowed_transfers transfers uids = filter (λ uid. is_allowed transfers (transfer_of uid)) uids

-- the first of two values that is present
abbrev pub or_later : Option Transfer → Option Transfer → Option Transfer
or_later None later = later
or_later (Some transfer) later = Some transfer

-- the first proposed transfer syntax that the dictionary has
abbrev pub first_known : List (List ℕ) → Option Transfer
first_known [] = None
first_known (uid ∷ uids) = or_later (transfer_of uid) (first_known uids)

-- a native transfer syntax if one is chosen, else the first that the dictionary has
abbrev pub agreed_by : Option Syntax → List (List ℕ) → Option Transfer
agreed_by (Some syntax) uids = Some (native syntax)
agreed_by None uids = first_known uids

-- the transfer syntax that is chosen from those proposed: a native one before any other, and then the first of the
-- proposal's list (this product's own profile)
abbrev pub agreed : List (List ℕ) → Option Transfer
agreed uids = agreed_by (chosen uids) uids

-- ---- services

-- an additional storage class, by its identifier
-- e.g. additional_by None ≡ None
abbrev pub additional_by : Option (List ℕ) → Option Service
additional_by None = None
additional_by (Some uid) = Some (Additional uid)

-- the service of a field: the class that the dictionary has of it, or else what its identifier names
abbrev pub service_by : Option Class → List ℕ → Option Service
service_by (Some class) bytes = Some (Known class)
service_by None bytes = additional_by (uid_of bytes)

-- the service that an abstract syntax or an affected SOP class names: a class of the dictionary, or an additional one
-- by its identifier
-- e.g. service_of (codes "1.2.840.10008.5.1.4.1.1.2") ≡ Some (Known Ct)
-- e.g. service_of (codes "1.2.3") ≡ Some (Additional (codes "1.2.3"))
abbrev pub service_of : List ℕ → Option Service
service_of bytes = service_by (class_of bytes) bytes

-- whether the text is this identifier
-- e.g. is_text (codes "1.2.3") (codes "1.2.3") ≡ true
abbrev pub is_text : List ℕ → List ℕ → Bool
is_text uid text = pointwise nat_eq text uid

-- whether the identifier is among the additional storage classes
-- e.g. is_among_additional (codes "1.2.3" ∷ []) (Some (codes "1.2.3")) ≡ true
abbrev pub is_among_additional : List (List ℕ) → Option (List ℕ) → Bool
is_among_additional additional None = false
is_among_additional additional (Some uid) = list_any (is_text uid) additional

-- an abstract syntax, or none if it is not accepted, by its class of the dictionary
abbrev pub allowed_by : Option Class → List (List ℕ) → List ℕ → List ℕ
allowed_by (Some class) additional bytes = bytes
allowed_by None additional bytes = if is_among_additional additional (uid_of bytes) then bytes else []

-- an abstract syntax, or none if it is not accepted: it is accepted if the dictionary has its class, or if it is one of
-- the additional storage classes
-- e.g. allowed_syntax [] (codes "1.2.3") ≡ []; allowed_syntax (codes "1.2.3" ∷ []) (codes "1.2.3") ≡ codes "1.2.3"
abbrev pub allowed_syntax : List (List ℕ) → List ℕ → List ℕ
allowed_syntax additional bytes = allowed_by (class_of bytes) additional bytes

-- a proposed context as the receiver reads it, with these additional storage classes and transfer syntaxes
abbrev pub seen : Allowed → Proposal → Proposal
seen additional p = record {
  id = p.id;
  abstract_syntax = allowed_syntax additional.classes p.abstract_syntax;
  transfer_syntaxes = allowed_transfers additional.transfers p.transfer_syntaxes;
}

-- what a request offers to a receiver that accepts these additional storage classes and transfer syntaxes
abbrev pub offered : Allowed → RequestRecord → RequestRecord
offered additional r = record {
  version = r.version;
  called = r.called;
  calling = r.calling;
  reserved = r.reserved;
  application_context = r.application_context;
  contexts = map (seen additional) r.contexts;
  maximum = r.maximum;
}

-- ---- results (PS3.8 Table 9-18)

-- Acceptance
abbrev pub acceptance : ℕ
acceptance = 0

-- abstract syntax not supported
abbrev pub abstract_syntax_not_supported : ℕ
abstract_syntax_not_supported = 3

-- transfer syntaxes not supported
abbrev pub transfer_syntaxes_not_supported : ℕ
transfer_syntaxes_not_supported = 4

-- the result for a class and a chosen transfer syntax
-- e.g. result_by (Some Ct) (Some Explicit) ≡ 0; result_by (Some Ct) (first_known []) ≡ 4
abbrev pub result_by : {A B : Type 0} → Option A → Option B → ℕ
result_by None syntax = abstract_syntax_not_supported
result_by (Some class) None = transfer_syntaxes_not_supported
result_by (Some class) (Some syntax) = acceptance

-- a rejected context carries Implicit VR Little Endian in its answer, which the peer ignores
-- e.g. carried_by None (Some (native Explicit)) ≡ native Implicit
abbrev pub carried_by : Option Service → Option Transfer → Transfer
carried_by (Some class) (Some syntax) = syntax
carried_by class syntax = native Implicit

-- the accepted context of a class and a chosen transfer syntax
-- e.g. accepted_by (Some (Known Ct)) None ≡ None
abbrev pub accepted_by : Option Service → Option Transfer → Option Context
accepted_by (Some class) (Some syntax) = Some (record { class = class; syntax = syntax })
accepted_by class syntax = None

-- the result of a proposed context
-- e.g. result_of (seen nothing_additional (record { id = 1; abstract_syntax = codes "1.2.3"; transfer_syntaxes = codes
-- "1.2.840.10008.1.2.1" ∷ [] })) ≡ 3
abbrev pub result_of : Proposal → ℕ
result_of p = result_by (service_of p.abstract_syntax) (agreed p.transfer_syntaxes)

-- the transfer syntax that the answer to a proposed context carries
-- e.g. carried (seen nothing_additional (record { id = 1; abstract_syntax = codes "1.2.3"; transfer_syntaxes = codes
-- "1.2.840.10008.1.2.1" ∷ [] })) ≡ native Implicit
abbrev pub carried : Proposal → Transfer
carried p = carried_by (service_of p.abstract_syntax) (agreed p.transfer_syntaxes)

-- the context, if it is accepted
-- e.g. accepted (seen nothing_additional (record { id = 1; abstract_syntax = codes "1.2.3"; transfer_syntaxes = codes
-- "1.2.840.10008.1.2" ∷ [] })) ≡ None
abbrev pub accepted : Proposal → Option Context
accepted p = accepted_by (service_of p.abstract_syntax) (agreed p.transfer_syntaxes)

-- the accepted context of this id (law `engine::recorded_echo`)
abbrev pub context_of : RequestRecord → ℕ → Option Context
context_of r id = option_and_then accepted (find (λ p. nat_eq p.id id) r.contexts)
