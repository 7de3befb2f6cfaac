-- C-STORE (PS3.7 section 9.1.1, PS3.4 annex B): the status of its response. Which fault has which status is this
-- product's own profile.
use Rattle.std.specs.Prelude.{◌≡◌, ◌⊎◌, ℕ, Bool, true, false, ◌||◌, List, [], ◌∷◌, Some, None, nat_eq, if◌then◌else◌}
use Rattle.sequence.specs.Transfer.{coding_in}
use Rattle.sequence.specs.declared.coding.Coding.{Coding}
use Rattle.element.specs.declared.tag.Tag.{Tag}
use Rattle.element.specs.Header.{number}
use Rattle.element.specs.Uid.{uid_of}
use Rattle.dictionary.specs.Classes.{is_storage}
use Rattle.negotiate.specs.declared.proposals.Service.{Service}
use Rattle.negotiate.specs.declared.proposals.Service.TheVariants.{Known, Additional}
use Rattle.negotiate.specs.Contexts.{service_of}
use Rattle.negotiate.specs.declared.proposals.Context.{Context}
use Rattle.dimse.specs.Command.{CommandRecord}
use Rattle.dimse.specs.Detail.{class_mismatch, instance_mismatch}
use Rattle.dimse.specs.Status.{class_not_supported, out_of_resources, data_set_mismatch, cannot_understand}
use Rattle.sequence.specs.declared.fault.Fault.{Fault}
use Rattle.sequence.specs.declared.wanted.Want.{Want}
use Rattle.sequence.specs.Rules.{Limits, too_deep, too_long}
use Rattle.sequence.specs.Wanted.{Values, kept_of, value_of}
use Rattle.sequence.specs.Tree.{Elements, DataSet}
use Rattle.sequence.specs.FirstFault.{IsUnbroken}
use Rattle.sequence.specs.Ending.{Fails}
use Rattle.engine.specs.Timeline.{Finding, good}

-- the tag of SOP Class UID, (0008,0016)
-- e.g. number class_tag ≡ 0x00080016
abbrev pub class_tag : Tag
class_tag = record { 0 = 0x0008; 1 = 0x0016 }

-- the tag of SOP Instance UID, (0008,0018)
-- e.g. number instance_tag ≡ 0x00080018
abbrev pub instance_tag : Tag
instance_tag = record { 0 = 0x0008; 1 = 0x0018 }

-- the greatest length of a UID (PS3.5 section 9.1)
-- e.g. uid_most ≡ 64
abbrev pub uid_most : ℕ
uid_most = 64

-- the values that a receiver keeps of a data set: SOP Class UID and SOP Instance UID, each of at most 64 bytes
-- e.g. length wanted ≡ 2
abbrev pub wanted : List Want
wanted = record { tag = class_tag; room = uid_most } ∷ record { tag = instance_tag; room = uid_most } ∷ []

-- the limits of a data set: the greatest number of open levels and of bytes
-- e.g. (limits 64 1024).depth ≡ 64
abbrev pub limits : ℕ → ℕ → Limits
limits depth bytes = record { wanted = wanted; depth = depth; bytes = bytes }

-- ---- the checks

-- What a C-STORE is judged by: its command and presentation context, its data set, the limits of that, its elements
-- if it is whole, and whether a call of the filing failed in the message.
pub record Submitted : Type 0 where
  pub context : Context
  pub command : CommandRecord
  pub data_set : List ℕ
  pub limits : Limits
  pub elements : Elements
  pub failed : Bool

-- whether the service is a storage class
-- e.g. is_storage_service (Additional (codes "1.2.3")) ≡ true
abbrev pub is_storage_service : Service → Bool
is_storage_service (Known class) = is_storage class
is_storage_service (Additional uid) = true

-- the SOP class of the command is a storage class, and that of the presentation context (law
-- `engine::verdicts_on_stores`)
pub record IsOfContext (context : Context) (command : CommandRecord) : Type 0 where
  pub named : service_of command.class ≡ Some context.class
  pub storage : is_storage_service context.class ≡ true

-- the value of this tag is this UID
abbrev pub NamesUid : Values → Tag → List ℕ → Type 0
NamesUid values tag uid = (value : List ℕ) × (value_of values (number tag) ≡ Some value) × (uid_of value ≡ Some uid)

-- the SOP Instance UID of the data set is that of the command (law `engine::verdicts_on_one_image`)
abbrev pub NamesInstance : Values → CommandRecord → Type 0
NamesInstance values command = (uid : List ℕ) × (command.instance ≡ Some uid) × NamesUid values instance_tag uid

-- the data set is whole, with these elements, and within its limits
pub record HasNoFault (syntax : Coding) (lim : Limits) (data_set : List ℕ) (elements : Elements) : Type 0 where
  pub whole : DataSet syntax 0 elements data_set
  pub unbroken : IsUnbroken syntax lim data_set

-- a check of a C-STORE: its SOP class is that of the presentation context; its data set is whole and valid; the SOP
-- class of the data set is the command's; so is the SOP instance; no call of the filing failed
pub data Check : Type 0 where
  OfContext WholeSet OwnClass OwnInstance Filed : Check

-- the checks, in the order in which they are made
-- e.g. length checks ≡ 5
abbrev pub checks : List Check
checks = OfContext ∷ WholeSet ∷ OwnClass ∷ OwnInstance ∷ Filed ∷ []

-- a C-STORE passes a check (law `engine::verdicts_on_one_image`)
abbrev pub Passes : Submitted → Check → Type 0
Passes x OfContext = IsOfContext x.context x.command
Passes x WholeSet = HasNoFault (coding_in x.context.syntax) x.limits x.data_set x.elements
Passes x OwnClass = NamesUid (kept_of wanted x.elements) class_tag x.command.class
Passes x OwnInstance = NamesInstance (kept_of wanted x.elements) x.command
Passes x Filed = x.failed ≡ false

-- ---- the findings

-- a finding with this status of failure, without a cause
-- e.g. (failure 0xa700).status ≡ 0xa700
abbrev pub failure : ℕ → Finding
failure status = record { status = status; detail = None }

-- a finding with this status of failure and its cause: a fault of the data set, or its mismatch with the command
-- e.g. (cause 0xc000 11 class_tag).status ≡ 0xc000
abbrev pub cause : ℕ → ℕ → Tag → Finding
cause status number tag = record { status = status; detail = Some (record { number = number; tag = tag }) }

-- the finding for a fault of the data set: A700 (out of resources) for too many open levels or bytes, else C000 (cannot
-- understand) with the fault as its cause (law `engine::verdicts_on_faults`)
-- e.g. (of_fault (record { number = 20; offset = 3; tag = class_tag })).status ≡ 0xc000
-- e.g. (of_fault (record { number = 18; offset = 3; tag = class_tag })).status ≡ 0xa700
abbrev pub of_fault : Fault → Finding
of_fault fault = if nat_eq fault.number too_deep || nat_eq fault.number too_long then failure out_of_resources else cause cannot_understand fault.number fault.tag

-- a C-STORE fails this check, with this finding (law `engine::verdicts_on_stores`)
abbrev pub FailsWith : Submitted → Check → Finding → Type 0
FailsWith x OfContext finding = (Passes x OfContext → ⊥) × (finding ≡ failure class_not_supported)
FailsWith x WholeSet finding = (fault : Fault) × Fails (coding_in x.context.syntax) x.limits x.data_set fault × (finding ≡ of_fault fault)
FailsWith x OwnClass finding = (Passes x OwnClass → ⊥) × (finding ≡ cause data_set_mismatch class_mismatch class_tag)
FailsWith x OwnInstance finding = (Passes x OwnInstance → ⊥) × (finding ≡ cause data_set_mismatch instance_mismatch instance_tag)
FailsWith x Filed finding = (Passes x Filed → ⊥) × (finding ≡ failure out_of_resources)

-- the finding of the first of these checks that a C-STORE fails; success if it passes all (law
-- `engine::verdicts_on_one_image`)
abbrev pub FirstFinding : Submitted → List Check → Finding → Type 0
FirstFinding x [] finding = finding ≡ good
FirstFinding x (check ∷ later) finding = FailsWith x check finding ⊎ (Passes x check × FirstFinding x later finding)

-- the finding on a C-STORE (the status of its response, and the cause of a failure): that of the first check that
-- fails, in their order; success if none does (law `engine::verdicts_on_one_image`)
pub record Verdict (depth bytes : ℕ) (context : Context) (command : CommandRecord) (data_set : List ℕ) (failed : Bool) (finding : Finding) : Type 0 where
  pub elements : Elements
  pub first : FirstFinding (record { context = context; command = command; data_set = data_set; limits = limits depth bytes; elements = elements; failed = failed }) checks finding
