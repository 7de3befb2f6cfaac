-- The effects of the calls on the data set of a message.
use Rattle.std.specs.Prelude.{◌≡◌, ℕ, Bool, true, false, not, ◌||◌, List, [], ◌++◌}
use Rattle.dictionary.specs.declared.transfer.Transfer.{Transfer}
use Rattle.sequence.specs.declared.coding.Coding.{Coding}
use Rattle.sequence.specs.Transfer.{coding_in}
use Rattle.element.specs.declared.title.AeTitle.{AeTitle}
use Rattle.sequence.specs.Rules.{Limits}
use Rattle.dimse.specs.Command.{CommandRecord}
use Rattle.dimse.specs.Status.{success}
use Rattle.negotiate.specs.declared.proposals.Context.{Context}
use Rattle.part10.specs.File.{head}
use Rattle.part10.specs.Store.{Store, stepped, appended, committed, without_draft, failed, or_nothing}
use Rattle.engine.specs.declared.stores.StoreStatus.{StoreStatus}
use Rattle.engine.specs.StoredData.{Stored, Nothing, Walking, HasWalked}
use Rattle.engine.specs.Stores.{IsOfContext, Verdict}
use Rattle.engine.specs.Timeline.{Finding}

abbrev pub finding_of : StoreStatus → Finding
finding_of s = record { status = s.status; detail = s.detail }

-- the bytes before the data set in the file of a C-STORE's instance, from this calling AE title
abbrev pub header_of : CommandRecord → Transfer → AeTitle → List ℕ
header_of command syntax caller = head (record { class = command.class; instance = or_nothing command.instance; syntax = syntax; calling = caller })

-- ---- calls

-- a draft was started and has these bytes (true); or a call of the filing failed (false)
abbrev pub Begins : List ℕ → Bool → Store → Store → Type 0
Begins header true old new = new ≡ stepped (λ shelf. record { files = shelf.files; draft = header }) true old
Begins header false old new = new ≡ failed old

-- the data set of a C-STORE begins, with a walker and a draft
abbrev pub BeginsStore : Coding → Limits → List ℕ → Stored → Store → Store → Type 0
BeginsStore syntax lim header Nothing old new = ⊥
BeginsStore syntax lim header (Walking walker drafting) old new = HasWalked walker syntax lim [] × Begins header drafting old new

-- the same, if the command announces a data set
abbrev pub BeginsAnnounced : CommandRecord → AeTitle → Transfer → Limits → Stored → Store → Store → Type 0
BeginsAnnounced command caller syntax lim stored old new = command.with_data ≡ true → BeginsStore (coding_in syntax) lim (header_of command syntax caller) stored old new

-- these bytes were appended to the draft, or a call of the filing failed; without a draft the filing is unchanged
abbrev pub Grows : List ℕ → Bool → Bool → Store → Store → Type 0
Grows bytes false drafting_new old new = (drafting_new ≡ false) × (new ≡ old)
Grows bytes true true old new = new ≡ stepped (appended bytes) true old
Grows bytes true false old new = new ≡ failed old

-- a part of the data set was received
abbrev pub Continues : List ℕ → Stored → Stored → Store → Store → Type 0
Continues part Nothing now old new = (now ≡ Nothing) × (new ≡ old)
Continues part (Walking before drafting) Nothing old new = ⊥
Continues part (Walking before drafting) (Walking after drafting_new) old new =
    ((coding : Coding) (lim : Limits) (set : List ℕ) → HasWalked before coding lim set → HasWalked after coding lim (set ++ part))
    × Grows part drafting drafting_new old new

-- the draft is dropped, if there is one
abbrev pub Drops : Bool → Store → Store → Type 0
Drops true old new = new ≡ stepped without_draft false old
Drops false old new = new ≡ old

-- the end of the draft of a C-STORE with this finding: committed with success; a failed commit, which leaves no
-- draft; else dropped
pub data EndsDraft (drafting : Bool) (finding : Finding) (old new : Store) : Bool → Type 0 where
  filed : drafting ≡ true → finding.status ≡ success → new ≡ stepped committed false old → EndsDraft drafting finding old new false
  commit_failed : drafting ≡ true → new ≡ failed old → EndsDraft drafting finding old new true
  dropped : (finding.status ≡ success → ⊥) → Drops drafting old new → EndsDraft drafting finding old new false

-- The end of the data set of a C-STORE: the finding is the verdict on it, and the draft ends accordingly.
-- `failed_then` says whether a call of the filing failed at the end; without a draft one had failed before.
pub record EndsStore (depth most : ℕ) (context : Context) (command : CommandRecord) (set : List ℕ) (drafting : Bool) (finding : Finding) (old new : Store) : Type 0 where
  pub failed_then : Bool
  pub draft : EndsDraft drafting finding old new failed_then
  pub verdict : IsOfContext context command → Verdict depth most context command set (failed_then || not drafting) finding
