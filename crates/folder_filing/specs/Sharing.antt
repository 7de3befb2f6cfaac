-- What a loss of power leaves of the files of a filing whose folder has other filings. This product's own profile.
use Rattle.std.specs.Prelude.{◌≡◌, ◌⊎◌, ℕ, Bool, ◌&&◌, not, true, List, [], ◌∷◌, ◌++◌, Option, Some, None, ⊤}
use Rattle.folder_filing.specs.declared.call.Call.{Call}
use Rattle.folder_filing.specs.declared.call.Call.TheVariants.{Linked, Renamed, Removed, Synced}
use Rattle.folder_filing.specs.declared.location.Location.{Location}
use Rattle.folder_filing.specs.Crashes.{Disk, HasFile, Whether, file_at, is_whole}
use Rattle.folder_filing.specs.Folders.{is_covered_by, is_same}
use Rattle.folder_filing.specs.Synced.{file_of, was_reported}

-- a call of the filing itself, or of another filing of its folder
pub data Step : Type 0 where
  Own : (call : Call) → Step
  Other : (call : Call) → Step

-- the calls of the filing itself
abbrev pub own_calls : List Step → List Call
own_calls [] = []
own_calls (Own call ∷ before) = call ∷ own_calls before
own_calls (Other call ∷ before) = own_calls before

-- where the name of a location leads while nothing is lost; a file that another filing has named has the number 0
abbrev pub LeadsAmong : Location → Option ℕ → List Step → Type 0
LeadsAmong location found [] = ⊤
LeadsAmong location found (Own (Linked draft other) ∷ before) =
    Whether (is_same location other) (found ≡ Some (file_of draft (own_calls before))) (LeadsAmong location found before)
LeadsAmong location found (Own (Renamed draft other) ∷ before) =
    Whether (is_same location other) (found ≡ Some (file_of draft (own_calls before))) (LeadsAmong location found before)
LeadsAmong location found (Own (Removed other taken) ∷ before) = Whether (is_same location other) (found ≡ None) (LeadsAmong location found before)
LeadsAmong location found (Own call ∷ before) = LeadsAmong location found before
LeadsAmong location found (Other (Linked draft other) ∷ before) = Whether (is_same location other) (found ≡ Some 0) (LeadsAmong location found before)
LeadsAmong location found (Other (Renamed draft other) ∷ before) = Whether (is_same location other) (found ≡ Some 0) (LeadsAmong location found before)
LeadsAmong location found (Other (Removed other taken) ∷ before) = Whether (is_same location other) (found ≡ None) (LeadsAmong location found before)
LeadsAmong location found (Other call ∷ before) = LeadsAmong location found before

-- where it may lead after a loss of power: a sync of the folder by any filing covers the calls of all
abbrev pub MayLeadAmong : Location → Option ℕ → List Step → Type 0
MayLeadAmong location found [] = ⊤
MayLeadAmong location found (Own (Linked draft other) ∷ before) =
    ((is_same location other ≡ true) × (found ≡ Some (file_of draft (own_calls before)))) ⊎ MayLeadAmong location found before
MayLeadAmong location found (Own (Renamed draft other) ∷ before) =
    ((is_same location other ≡ true) × (found ≡ Some (file_of draft (own_calls before)))) ⊎ MayLeadAmong location found before
MayLeadAmong location found (Own (Removed other taken) ∷ before) = ((is_same location other ≡ true) × (found ≡ None)) ⊎ MayLeadAmong location found before
MayLeadAmong location found (Own (Synced folder) ∷ before) =
    Whether (is_covered_by location folder (own_calls before)) (LeadsAmong location found before) (MayLeadAmong location found before)
MayLeadAmong location found (Own call ∷ before) = MayLeadAmong location found before
MayLeadAmong location found (Other (Linked draft other) ∷ before) = ((is_same location other ≡ true) × (found ≡ Some 0)) ⊎ MayLeadAmong location found before
MayLeadAmong location found (Other (Renamed draft other) ∷ before) = ((is_same location other ≡ true) × (found ≡ Some 0)) ⊎ MayLeadAmong location found before
MayLeadAmong location found (Other (Removed other taken) ∷ before) = ((is_same location other ≡ true) × (found ≡ None)) ⊎ MayLeadAmong location found before
MayLeadAmong location found (Other (Synced folder) ∷ before) =
    Whether (is_covered_by location folder (own_calls before)) (LeadsAmong location found before) (MayLeadAmong location found before)
MayLeadAmong location found (Other call ∷ before) = MayLeadAmong location found before

-- a loss of power right after these steps may leave this disk; the files are those that the filing itself has created
pub record MayLeaveAmong (written : ℕ → List ℕ) (steps : List Step) (disk : Disk) : Type 0 where
  pub names : (location : Location) → MayLeadAmong location (disk.names location) steps
  pub bytes : (file : ℕ) → is_whole file (own_calls steps) ≡ true → disk.bytes file ≡ written file

-- no other filing gives a file this location, or removes it
abbrev pub is_left_alone : Location → List Step → Bool
is_left_alone location [] = true
is_left_alone location (Own call ∷ before) = is_left_alone location before
is_left_alone location (Other (Linked draft other) ∷ before) = not (is_same location other) && is_left_alone location before
is_left_alone location (Other (Renamed draft other) ∷ before) = not (is_same location other) && is_left_alone location before
is_left_alone location (Other (Removed other taken) ∷ before) = not (is_same location other) && is_left_alone location before
is_left_alone location (Other call ∷ before) = is_left_alone location before

-- At each point of these steps, whatever disk a loss of power may leave there, each file whose commit the filing has
-- reported until then has its name and all of its bytes, if the other filings leave its location alone.
abbrev pub SurvivesAmong : List Step → Type 0
SurvivesAmong steps =
    (later before : List Step) → steps ≡ later ++ before → (written : ℕ → List ℕ) (disk : Disk) → MayLeaveAmong written before disk
    → (location : Location) → was_reported location (own_calls before) ≡ true → is_left_alone location before ≡ true
    → HasFile written disk location (file_at location (own_calls before))
