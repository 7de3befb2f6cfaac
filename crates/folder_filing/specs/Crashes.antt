-- What a loss of power leaves of the files that a filing has named: a model of the disk. This product's own profile.
use Rattle.std.specs.Prelude.{◌≡◌, ◌⊎◌, ℕ, Bool, ◌||◌, true, false, List, [], ◌∷◌, ◌++◌, Option, Some, None, nat_eq, if◌then◌else◌, ⊤}
use Rattle.folder_filing.specs.declared.call.Call.{Call}
use Rattle.folder_filing.specs.declared.call.Call.TheVariants.{Written, Linked, Renamed, Removed, Synced}
use Rattle.folder_filing.specs.declared.location.Location.{Location}
use Rattle.folder_filing.specs.Folders.{is_covered_by, is_same}
use Rattle.folder_filing.specs.Synced.{created, file_of, was_reported}

-- a disk: which file has the name of a location, if there is one, and the bytes of each file. Files are numbered in the
-- order in which the filing created them, from 1; any other file has the number 0.
pub record Disk : Type 0 where
  pub names : Location → Option ℕ
  pub bytes : ℕ → List ℕ

-- the first fact if this is true, else the second one
abbrev pub Whether : Bool → Type 0 → Type 0 → Type 0
Whether true first second = first
Whether false first second = second

-- while nothing is lost, the name of this location leads to this file, or to none: to the one that was given the name
-- last, unless it was removed. Before all calls it may lead to any.
abbrev pub Leads : Location → Option ℕ → List Call → Type 0
Leads location found [] = ⊤
Leads location found (Linked draft other ∷ before) = Whether (is_same location other) (found ≡ Some (file_of draft before)) (Leads location found before)
Leads location found (Renamed draft other ∷ before) = Whether (is_same location other) (found ≡ Some (file_of draft before)) (Leads location found before)
Leads location found (Removed other taken ∷ before) = Whether (is_same location other) (found ≡ None) (Leads location found before)
Leads location found (call ∷ before) = Leads location found before

-- after a loss of power the name of this location may lead to this file, or to none: as it did when its folder was last
-- synced, a subfolder after its own entry, or as any later call has left it. Each of these calls may have reached the
-- disk or not, in any order.
abbrev pub MayLead : Location → Option ℕ → List Call → Type 0
MayLead location found [] = ⊤
MayLead location found (Linked draft other ∷ before) = ((is_same location other ≡ true) × (found ≡ Some (file_of draft before))) ⊎ MayLead location found before
MayLead location found (Renamed draft other ∷ before) = ((is_same location other ≡ true) × (found ≡ Some (file_of draft before))) ⊎ MayLead location found before
MayLead location found (Removed other taken ∷ before) = ((is_same location other ≡ true) × (found ≡ None)) ⊎ MayLead location found before
MayLead location found (Synced folder ∷ before) = Whether (is_covered_by location folder before) (Leads location found before) (MayLead location found before)
MayLead location found (call ∷ before) = MayLead location found before

-- the bytes of this file were synced
abbrev pub is_whole : ℕ → List Call → Bool
is_whole file [] = false
is_whole file (Written ∷ before) = nat_eq (created before) file || is_whole file before
is_whole file (call ∷ before) = is_whole file before

-- A loss of power right after these calls may leave this disk. A file that was synced has the bytes that were written to
-- it until its last sync, as `written` gives them by its number; any other file may have any bytes.
pub record MayLeave (written : ℕ → List ℕ) (calls : List Call) (disk : Disk) : Type 0 where
  pub names : (location : Location) → MayLead location (disk.names location) calls
  pub bytes : (file : ℕ) → is_whole file calls ≡ true → disk.bytes file ≡ written file

-- the file that was last given the name of this location
abbrev pub file_at : Location → List Call → ℕ
file_at location [] = 0
file_at location (Linked draft other ∷ before) = if is_same location other then file_of draft before else file_at location before
file_at location (Renamed draft other ∷ before) = if is_same location other then file_of draft before else file_at location before
file_at location (call ∷ before) = file_at location before

-- the disk has this file, with all of its bytes, under the name of this location
abbrev pub HasFile : (ℕ → List ℕ) → Disk → Location → ℕ → Type 0
HasFile written disk location file = (disk.names location ≡ Some file) × (disk.bytes file ≡ written file)

-- At each point of these calls, whatever disk a loss of power may leave there, each file whose commit was reported until
-- then has its name and all of its bytes.
abbrev pub SurvivesPowerLoss : List Call → Type 0
SurvivesPowerLoss calls =
    (later before : List Call) → calls ≡ later ++ before → (written : ℕ → List ℕ) (disk : Disk) → MayLeave written before disk
    → (location : Location) → was_reported location before ≡ true → HasFile written disk location (file_at location before)
