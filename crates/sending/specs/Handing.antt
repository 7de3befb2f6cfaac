-- When a file loses its name: after the archive has filed what stood in it or, once the file has another name, after the
-- archive has refused it for good. This product's own profile.
use Rattle.std.specs.Prelude.{◌≡◌, ℕ, Bool, true, false, ◌⊎◌, List, [], ◌∷◌, ◌++◌, get_or}
use Rattle.sending.specs.Sending.{IsHandedOver, is_filed, is_refused}
use Rattle.sending.specs.Names.{MovesName}
use Rattle.sending.specs.declared.association.Association.{Association}
use Rattle.sending.specs.declared.removing.NameCall.{NameCall}
use Rattle.sending.specs.declared.removing.NameCall.TheVariants.{Removed}
use Rattle.sending.specs.declared.removing.Removals.{Removals}

-- what was done with the names of files so far, what was written and read in this association, and which of its
-- presentation contexts the archive has accepted
pub record HandState : Type 0 where
  pub calls : List NameCall
  pub written : List ℕ
  pub read : List ℕ
  pub accepted : List Bool

abbrev pub state_of : {S : Type 0} → Removals → Association S → HandState
state_of removals association = record {
  calls = removals.calls;
  written = association.stream.written.bytes;
  read = association.stream.read.bytes;
  accepted = association.accepted;
}

-- These bytes of a file were sent as the C-STORE of the instance that their file header names, and the status of the
-- response to it is one of these.
pub record IsAnsweredBy (statuses : ℕ → Bool) (file : List ℕ) (old new : HandState) : Type 0 where
  pub sent : List ℕ
  pub received : List ℕ
  pub status : ℕ
  pub written : new.written ≡ old.written ++ sent
  pub read : new.read ≡ old.read ++ received
  pub answered : statuses status ≡ true
  pub over : IsHandedOver file sent received status

-- the archive has not accepted the presentation context with this index
abbrev pub IsUnaccepted : ℕ → List Bool → Type 0
IsUnaccepted index accepted = get_or accepted index false ≡ false

-- The names are as before; or the name at this path was removed, as these bytes of its file are filed; or the file has
-- another name instead, as the archive refuses these bytes, or all of the presentation context with this index.
abbrev pub RemovesOnlyAnswered : (path file : List ℕ) → ℕ → (old new : HandState) → Type 0
RemovesOnlyAnswered path file index old new =
    (new.calls ≡ old.calls)
    ⊎ (((new.calls ≡ old.calls ++ Removed path ∷ []) × IsAnsweredBy is_filed file old new)
    ⊎ (MovesName path old.calls new.calls × (IsAnsweredBy is_refused file old new ⊎ IsUnaccepted index old.accepted)))
