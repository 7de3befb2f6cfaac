-- The system calls of a filing over a folder, the newest first, and what holds of the names that it has given to
-- files. This product's own profile.
use Rattle.std.specs.Prelude.{◌≡◌, ◌≢◌, ℕ, ◌+◌, ◌<◌, ◌≤◌, ◌⊎◌, Bool, true, false, List, [], ◌∷◌, drop, Option, Some, None, ⊤}
use Rattle.std.specs.List.{AllByRecursion}
use Rattle.folder_filing.specs.declared.call.Call.{Call}
use Rattle.folder_filing.specs.declared.call.Call.TheVariants.{Created, Written, Linked, SeenFree, Renamed, Removed, Synced, Reported, Refused, Replaced}
use Rattle.folder_filing.specs.declared.folder_identity.FolderIdentity.{FolderIdentity}
use Rattle.folder_filing.specs.declared.folder_identity.NumberedFolder.{NumberedFolder}
use Rattle.folder_filing.specs.declared.kept_numbers.KeptNumbers.{KeptNumbers}
use Rattle.folder_filing.specs.declared.location.Layout.{Layout}
use Rattle.folder_filing.specs.declared.location.Location.{Location}
use Rattle.folder_filing.specs.Folders.{is_covered_by}
use Rattle.folder_filing.specs.Numbers.{Keeps, is_covered}
use Rattle.folder_filing.specs.Locations.{next_location, order}

-- the locations of the files that a filing has named, newest first: those that it has linked or renamed, without those
-- that it has removed again
abbrev pub standing : List Call → List Location
standing [] = []
standing (Linked draft location ∷ before) = location ∷ standing before
standing (Renamed draft location ∷ before) = location ∷ standing before
standing (Removed location file ∷ before) = drop 1 (standing before)
standing (call ∷ before) = standing before

-- how many calls failed, or found another folder at the path
abbrev pub refusals : List Call → ℕ
refusals [] = 0
refusals (Refused ∷ before) = refusals before + 1
refusals (Replaced ∷ before) = refusals before + 1
refusals (call ∷ before) = refusals before

-- the last call found the name of this location free
abbrev pub FoundFree : Location → List Call → Type 0
FoundFree location [] = ⊥
FoundFree location (SeenFree free ∷ before) = free ≡ location
FoundFree location (call ∷ before) = ⊥

-- the identity of the file that was created last, if there is one
abbrev pub created_file : List Call → Option FolderIdentity
created_file [] = None
created_file (Created draft file ∷ before) = Some file
created_file (call ∷ before) = created_file before

-- the file of the draft with this number was created, and no other call was made
abbrev pub IsCreated : ℕ → List Call → List Call → Type 0
IsCreated draft old new = (file : FolderIdentity) × (new ≡ Created draft file ∷ old)

-- what a removal took, if it took a file, is the file that was created last
abbrev pub IsOwnFile : Option FolderIdentity → List Call → Type 0
IsOwnFile None before = ⊤
IsOwnFile (Some file) before = created_file before ≡ Some file

-- the file that was named last has this location
abbrev pub IsNewest : Location → List Location → Type 0
IsNewest location [] = ⊥
IsNewest location (newest ∷ before) = newest ≡ location

-- the draft was synced after it was created, and has not been named since, or only by links that were removed again;
-- and the same before the last call, by which it was linked
abbrev mutual
  pub is_written : List Call → Bool
  is_written [] = false
  is_written (Created draft file ∷ before) = false
  is_written (Written ∷ before) = true
  is_written (Linked draft location ∷ before) = false
  is_written (Renamed draft location ∷ before) = false
  is_written (Removed location file ∷ before) = was_written before
  is_written (call ∷ before) = is_written before

  -- the draft was synced before it was linked, by the last call
  pub was_written : List Call → Bool
  was_written [] = false
  was_written (Linked draft location ∷ before) = is_written before
  was_written (call ∷ before) = false

-- the file that was named last was neither reported nor removed since
abbrev pub is_unreported : List Call → Bool
is_unreported [] = false
is_unreported (Linked draft location ∷ before) = true
is_unreported (Renamed draft location ∷ before) = true
is_unreported (Removed location file ∷ before) = false
is_unreported (Reported location ∷ before) = false
is_unreported (call ∷ before) = is_unreported before

-- this location is after all of these in the order of locations
abbrev pub IsAfterAll : Location → List Location → Type 0
IsAfterAll location = AllByRecursion (λ other. order other < order location)

-- with syncs, the draft was synced
abbrev pub IsWritten : Bool → List Call → Type 0
IsWritten has_sync calls = has_sync ≡ true → is_written calls ≡ true

-- a sync of this folder after these calls covers the file that was named last
abbrev pub IsNewestIn : NumberedFolder → List Call → List Location → Type 0
IsNewestIn folder calls [] = ⊥
IsNewestIn folder calls (newest ∷ before) = is_covered_by newest folder calls ≡ true

-- the last call, but for reports, synced the folder of the file that was named last
abbrev pub IsNameSynced : List Call → Type 0
IsNameSynced [] = ⊥
IsNameSynced (Synced folder ∷ before) = IsNewestIn folder before (standing before)
IsNameSynced (Reported location ∷ before) = IsNameSynced before
IsNameSynced (call ∷ before) = ⊥

-- what is a filing's own: the number of its draft, and the locations of the files whose commits were reported, newest
-- first
pub record Own : Type 0 where
  pub draft : ℕ
  pub reported : List Location

-- No file is overwritten or lost: with syncs, a file gets its name only after its bytes were synced, and its commit is
-- reported only once, after its folder was synced, with that name; a file is renamed only to a name that the call before
-- found free; a location that is given is after all that have files; no file is removed but the one that was created
-- last, and no name but the one that was given last, before its commit is reported; and no draft is created or named
-- but the filing's own.
abbrev pub LosesNone : Bool → Own → List Call → Type 0
LosesNone has_sync own [] = own.reported ≡ []
LosesNone has_sync own (Created draft file ∷ before) = (draft ≡ own.draft) × LosesNone has_sync own before
LosesNone has_sync own (Linked draft location ∷ before) =
    (draft ≡ own.draft) × IsWritten has_sync before × IsAfterAll location (standing before) × LosesNone has_sync own before
LosesNone has_sync own (Renamed draft location ∷ before) =
    (draft ≡ own.draft) × FoundFree location before × IsWritten has_sync before × IsAfterAll location (standing before) × LosesNone has_sync own before
LosesNone has_sync own (Removed location file ∷ before) =
    IsNewest location (standing before) × (is_unreported before ≡ true) × IsOwnFile file before × LosesNone has_sync own before
LosesNone has_sync own (Reported location ∷ before) =
    IsNewest location (standing before) × (is_unreported before ≡ true) × (has_sync ≡ true → IsNameSynced before)
    × (own.reported ≡ location ∷ drop 1 own.reported) × LosesNone has_sync (record own { reported = drop 1 own.reported }) before
LosesNone has_sync own (call ∷ before) = LosesNone has_sync own before

-- each location in this list, newest first, is after all older ones in the order of locations
abbrev pub Rises : List Location → Type 0
Rises [] = ⊤
Rises (location ∷ before) = IsAfterAll location before × Rises before

-- no location occurs twice in this list
abbrev pub AreApart : List Location → Type 0
AreApart [] = ⊤
AreApart (location ∷ before) = AllByRecursion (λ other. other ≢ location) before × AreApart before

-- the file of numbers, if one is in use, covers the number of this location
abbrev pub IsKept : Layout → Option KeptNumbers → Location → Type 0
IsKept layout None location = ⊤
IsKept layout (Some kept) location = is_covered layout kept.numbers location ≡ true

-- the file of numbers, if one is in use, was synced with its numbers, and then its folder
abbrev pub AreOnDisk : Option KeptNumbers → Type 0
AreOnDisk None = ⊤
AreOnDisk (Some kept) = kept.is_on_disk ≡ true

-- the file of numbers, if one is in use, still covers each number that it covered
abbrev pub KeepsAll : Option KeptNumbers → Option KeptNumbers → Type 0
KeepsAll None None = ⊤
KeepsAll None (Some more) = ⊥
KeepsAll (Some kept) None = ⊥
KeepsAll (Some kept) (Some more) = Keeps kept.numbers more.numbers

-- the state of a filing's numbering, as contracts see it: what is its own; the layout of the folder; the location after
-- which the next file is numbered; the contents of the file of numbers, if one is in use; whether files and names are
-- synced; and the system calls so far, newest first
pub record Naming : Type 0 where
  pub own : Own
  pub layout : Layout
  pub last : Location
  pub kept : Option KeptNumbers
  pub has_sync : Bool
  pub calls : List Call

-- the invariant of a filing's numbering
pub record IsOrderly (naming : Naming) : Type 0 where
  pub loses : LosesNone naming.has_sync naming.own naming.calls
  pub rises : Rises (standing naming.calls)
  pub behind : AllByRecursion (λ location. order location ≤ order naming.last) (standing naming.calls)
  pub kept : AllByRecursion (IsKept naming.layout naming.kept) (standing naming.calls)

-- no location follows the last one: all numbers are in use
abbrev pub NoneIsRemaining : Naming → Type 0
NoneIsRemaining naming = next_location naming.layout naming.last ≡ None

-- after the calls `new`, which extend the calls `old`, the files have these locations, `refused` calls have failed, no
-- commit was reported and no file is lost
pub record Asks (names : List Location) (refused : ℕ) (old new : List Call) : Type 0 where
  pub standing : standing new ≡ names
  pub refusals : refusals new ≡ refused
  pub unreported : is_unreported new ≡ is_unreported old
  pub loses : (has_sync : Bool) (own : Own) → LosesNone has_sync own old → LosesNone has_sync own new

-- why a name was not given: a call failed or found another folder, or all numbers are in use
abbrev pub WasRefused : Naming → Naming → Type 0
WasRefused old new = (refusals old.calls < refusals new.calls) ⊎ NoneIsRemaining new

-- the second list is the first with one more location
abbrev pub IsOneMore : List Location → List Location → Type 0
IsOneMore old new = (location : Location) × (new ≡ location ∷ old)

-- a commit was reported: one more location has a name, and is the last one that was reported
abbrev pub IsCommitted : Naming → Naming → Type 0
IsCommitted old new = (location : Location) × (standing new.calls ≡ location ∷ standing old.calls) × (new.own ≡ record old.own { reported = location ∷ old.own.reported })

-- after a failed commit: the same files have names, or one more, whose name could not be removed again
abbrev pub LeavesNames : List Location → List Location → Type 0
LeavesNames old new = (new ≡ old) ⊎ IsOneMore old new
