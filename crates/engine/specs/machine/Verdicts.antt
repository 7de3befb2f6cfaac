-- The verdict on a whole data set, and the end of its draft.
use Rattle.std.specs.Prelude.{◌≡◌, ℕ, Bool, false, List, Result, Ok, Err, None}
use Rattle.sequence.specs.Transfer.{coding_in}
use Rattle.sequence.specs.declared.walker.Walker.{Walker}
use Rattle.sequence.specs.Tree.{Elements}
use Rattle.sequence.specs.Wanted.{Values, kept_of}
use Rattle.dimse.specs.Command.{CommandRecord}
use Rattle.dimse.specs.Status.{success, class_not_supported, out_of_resources, data_set_mismatch}
use Rattle.negotiate.specs.declared.proposals.Context.{Context}
use Rattle.part10.specs.Store.{Store, stepped, committed, failed}
use Rattle.engine.specs.declared.stores.StoreStatus.{StoreStatus}
use Rattle.dimse.specs.Detail.{class_mismatch, instance_mismatch}
use Rattle.engine.specs.Stores.{IsOfContext, HasNoFault, NamesUid, NamesInstance, Verdict, wanted, limits, class_tag, instance_tag, failure, cause}
pub use Rattle.engine.specs.Stores.{of_fault}
use Rattle.engine.specs.Timeline.{Finding, good}
use Rattle.engine.specs.StoredData.{Stored, Nothing, Walking, HasWalked}
use Rattle.engine.specs.machine.Storing.{EndsStore, finding_of}

-- the data set is whole and within its limits, and has the SOP class and instance UIDs of the command
pub record IsGood (depth most : ℕ) (context : Context) (command : CommandRecord) (set : List ℕ) : Type 0 where
  pub elements : Elements
  pub fault_free : HasNoFault (coding_in context.syntax) (limits depth most) set elements
  pub class : NamesUid (kept_of wanted elements) class_tag command.class
  pub instance : NamesInstance (kept_of wanted elements) command

-- the finding on a data set whose SOP class or instance UID differs from the command's
pub data Differs (values : Values) (command : CommandRecord) : Finding → Type 0 where
  other_class : (NamesUid values class_tag command.class → ⊥) → Differs values command (cause data_set_mismatch class_mismatch class_tag)
  other_instance : NamesUid values class_tag command.class → (NamesInstance values command → ⊥) → Differs values command (cause data_set_mismatch instance_mismatch instance_tag)

abbrev pub Compared : Values → CommandRecord → Result (Unit {0}) StoreStatus → Type 0
Compared values command (Ok u) = NamesUid values class_tag command.class × NamesInstance values command
Compared values command (Err s) = Differs values command (finding_of s)

-- the C-STORE fails with this finding, whether or not a call of the filing failed
abbrev pub FailsAs : ℕ → ℕ → Context → CommandRecord → List ℕ → Finding → Type 0
FailsAs depth most context command set finding = IsOfContext context command → (filing_failed : Bool) → Verdict depth most context command set filing_failed finding

-- the result of the check of a data set that a walker has read: it is good, or fails with the finding
abbrev pub WalkHasVerdict : {V D : ℕ} → Walker V D → CommandRecord → Result (Unit {0}) StoreStatus → Type 0
WalkHasVerdict walker command (Ok u) =
    (context : Context) (depth most : ℕ) (set : List ℕ) → HasWalked walker (coding_in context.syntax) (limits depth most) set → IsGood depth most context command set
WalkHasVerdict walker command (Err s) =
    (s.status ≡ success → ⊥)
    × ((context : Context) (depth most : ℕ) (set : List ℕ) → HasWalked walker (coding_in context.syntax) (limits depth most) set → FailsAs depth most context command set (finding_of s))

abbrev pub HasVerdict : CommandRecord → Stored → Result (Unit {0}) StoreStatus → Type 0
HasVerdict command Nothing result = result ≡ Err (record { status = class_not_supported; detail = None })
HasVerdict command (Walking walker drafting) result = WalkHasVerdict walker command result

-- the draft was committed, with success; or the commit failed (A700)
pub data Commits (finding : Finding) (old new : Store) : Type 0 where
  done : finding ≡ good → new ≡ stepped committed false old → Commits finding old new
  undone : finding ≡ failure out_of_resources → new ≡ failed old → Commits finding old new

-- the end of a C-STORE's data set, from its walker and whether it has a draft
abbrev pub EndsAs : CommandRecord → Finding → Store → Store → Stored → Type 0
EndsAs command finding old new Nothing = Unit {0}
EndsAs command finding old new (Walking walker drafting) =
    (context : Context) (depth most : ℕ) (set : List ℕ) → HasWalked walker (coding_in context.syntax) (limits depth most) set
    → EndsStore depth most context command set drafting finding old new
