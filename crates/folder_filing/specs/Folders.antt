-- Which sync of a folder covers the name of a file. This product's own profile.
use Rattle.std.specs.Prelude.{◌≡◌, Bool, ◌&&◌, ◌||◌, not, true, false, List, [], ◌∷◌, nat_eq, if◌then◌else◌}
use Rattle.folder_filing.specs.declared.call.Call.{Call}
use Rattle.folder_filing.specs.declared.call.Call.TheVariants.{Entered, Linked, Renamed, Synced}
use Rattle.folder_filing.specs.declared.folder_identity.FolderIdentity.{FolderIdentity}
use Rattle.folder_filing.specs.declared.folder_identity.NumberedFolder.{NumberedFolder}
use Rattle.folder_filing.specs.declared.location.Location.{Location}

-- two locations are the same
abbrev pub is_same : Location → Location → Bool
is_same location other = nat_eq location.folder other.folder && nat_eq location.file other.file

-- two identities are those of the same folder
abbrev pub is_identical : FolderIdentity → FolderIdentity → Bool
is_identical identity other = nat_eq identity.device other.device && nat_eq identity.inode other.inode

-- after its file was named, this location was found in the subfolder with this identity, whose own entry was on the disk
abbrev pub is_entered : Location → FolderIdentity → List Call → Bool
is_entered location identity [] = false
is_entered location identity (Linked draft other ∷ before) = not (is_same location other) && is_entered location identity before
is_entered location identity (Renamed draft other ∷ before) = not (is_same location other) && is_entered location identity before
is_entered location identity (Entered other found ∷ before) = (is_same location other && is_identical identity found) || is_entered location identity before
is_entered location identity (call ∷ before) = is_entered location identity before

-- after these calls a sync of this folder covers the name of the file at this location: it has the number of the
-- location's folder and, if it is a subfolder, it is the one with the file, and its own entry is on the disk
abbrev pub is_covered_by : Location → NumberedFolder → List Call → Bool
is_covered_by location folder before =
    nat_eq folder.number location.folder && (nat_eq folder.number 0 || is_entered location folder.identity before)

-- the last call synced the folder itself, and so the entries of its subfolders
abbrev pub IsParentSynced : List Call → Type 0
IsParentSynced [] = ⊥
IsParentSynced (Synced folder ∷ before) = folder.number ≡ 0
IsParentSynced (call ∷ before) = ⊥

-- the calls after a sync of the folder itself, if it was asked for
abbrev pub after_drafts : Bool → NumberedFolder → List Call → List Call
after_drafts false drafts before = before
after_drafts true drafts before = Synced drafts ∷ before

-- the last two calls synced the folder itself and then another one
abbrev pub IsSwept : List Call → Type 0
IsSwept (Synced folder ∷ Synced drafts ∷ before) = drafts.number ≡ 0
IsSwept calls = ⊥

-- the calls after the file at this location was found in this folder, which is recorded for a subfolder
abbrev pub entering : Location → NumberedFolder → List Call → List Call
entering location folder before = if nat_eq location.folder 0 then before else Entered location folder.identity ∷ before
