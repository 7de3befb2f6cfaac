-- The effects of the steps that name a draft.
use Rattle.std.specs.Prelude.{◌≡◌, ℕ, ◌+◌, ◌<◌, ◌⊎◌, Bool, true, List, ◌∷◌, Option, Some, None, Result, Ok, Err, ⊤}
use Rattle.folder_filing.specs.declared.call.Call.{Call}
use Rattle.folder_filing.specs.declared.call.Call.TheVariants.{Refused}
use Rattle.folder_filing.specs.declared.naming.Attempt.{Attempt}
use Rattle.folder_filing.specs.declared.naming.Attempt.TheVariants.{Named, Met}
use Rattle.folder_filing.specs.declared.naming.Named.TheVariants.{Linked}
use Rattle.folder_filing.specs.declared.naming.Obstacle.{Obstacle}
use Rattle.folder_filing.specs.declared.location.Location.{Location}
use Rattle.folder_filing.specs.Naming.{IsAfterAll, IsNameSynced, IsWritten, LosesNone, Naming, Own, is_unreported, is_written, refusals, standing, was_written}

-- the calls after an attempt: with this one if it succeeded, the same after an obstacle, else with a failed one
abbrev pub TriesLeave : {E : Type 0} → Call → Result (Option Obstacle) E → List Call → List Call → Type 0
TriesLeave call (Ok None) old new = new ≡ call ∷ old
TriesLeave call (Ok (Some obstacle)) old new = new ≡ old
TriesLeave call (Err error) old new = new ≡ Refused ∷ old

-- this location is after all that have files
abbrev pub IsNew : Location → List Call → Type 0
IsNew location calls = IsAfterAll location (standing calls)

-- after the calls `new`, which extend the calls `old`, the files have these locations, `refused` calls have failed, and
-- no file is lost where the draft with this number was synced, if that is asked for, and the location is after all that
-- had files
pub record Attempted (has_sync : Bool) (draft : ℕ) (location : Location) (names : List Location) (refused : ℕ) (old new : List Call) : Type 0 where
  pub standing : standing new ≡ names
  pub refusals : refusals new ≡ refused
  pub loses : (own : Own) → own.draft ≡ draft → IsWritten has_sync old → IsNew location old → LosesNone has_sync own old → LosesNone has_sync own new

-- the effect of an attempt to name a file: one more named location, in addition to the draft's name if it was linked,
-- or the same ones; after an error one failed call more
abbrev pub NameLeaves : {E : Type 0} → Bool → ℕ → Location → Result Attempt E → List Call → List Call → Type 0
NameLeaves has_sync draft location (Ok (Named file)) old new =
    Attempted has_sync draft location (location ∷ standing old) (refusals old) old new × (file.location ≡ location) × (file.how ≡ Linked → was_written new ≡ is_written old)
    × (is_unreported new ≡ true)
NameLeaves has_sync draft location (Ok (Met obstacle)) old new = Attempted has_sync draft location (standing old) (refusals old) old new × (is_written new ≡ is_written old)
NameLeaves has_sync draft location (Err error) old new = Attempted has_sync draft location (standing old) (refusals old + 1) old new

-- after an error: the same locations are named, and the last location is the same; or the new name could not be
-- removed, and its location is the last one
abbrev pub LeavesLocation : Location → Naming → Naming → Type 0
LeavesLocation location old new =
    ((standing new.calls ≡ standing old.calls) × (new.last ≡ old.last)) ⊎ ((standing new.calls ≡ location ∷ standing old.calls) × (new.last ≡ location))

-- the effect of an attempt to name a file on the state of the numbering: a location that was named is the last one
abbrev pub LocationLeaves : {E : Type 0} → Location → Result Attempt E → Naming → Naming → Type 0
LocationLeaves location (Ok (Named file)) old new =
    (standing new.calls ≡ location ∷ standing old.calls) × (refusals new.calls ≡ refusals old.calls) × (new.last ≡ location) × (is_unreported new.calls ≡ true)
LocationLeaves location (Ok (Met obstacle)) old new =
    (standing new.calls ≡ standing old.calls) × (refusals new.calls ≡ refusals old.calls) × (new.last ≡ old.last) × (is_written new.calls ≡ is_written old.calls)
LocationLeaves location (Err error) old new = LeavesLocation location old new × (refusals old.calls < refusals new.calls)

-- the name of a file was synced, if the file got one
abbrev pub SyncsName : {E : Type 0} → Result Attempt E → List Call → Type 0
SyncsName (Ok (Named file)) new = IsNameSynced new
SyncsName (Ok (Met obstacle)) new = ⊤
SyncsName (Err error) new = ⊤

-- the layout of the folder (with or without subfolders), the numbers in the file of numbers, whether names are synced,
-- and what is the filing's own stay the same
abbrev pub SameTerms : Naming → Naming → Type 0
SameTerms old new = (new.layout ≡ old.layout) × (new.kept ≡ old.kept) × (new.has_sync ≡ old.has_sync) × (new.own ≡ old.own)
