-- Which names of files are on the disk. This product's own profile.
use Rattle.std.specs.Prelude.{ℕ, ◌+◌, Bool, ◌&&◌, ◌||◌, not, true, false, List, [], ◌∷◌, nat_eq, if◌then◌else◌}
use Rattle.std.specs.List.{list_any}
use Rattle.folder_filing.specs.declared.call.Call.{Call}
use Rattle.folder_filing.specs.declared.call.Call.TheVariants.{Created, Linked, Renamed, Removed, Synced, Reported}
use Rattle.folder_filing.specs.declared.location.Location.{Location}
use Rattle.folder_filing.specs.declared.named_file.NamedFile.{NamedFile}
use Rattle.folder_filing.specs.declared.naming.Named.{Named}
use Rattle.folder_filing.specs.declared.naming.Named.TheVariants as how
use Rattle.folder_filing.specs.declared.entered_file.EnteredFile.{EnteredFile}
use Rattle.folder_filing.specs.declared.folder_identity.NumberedFolder.{NumberedFolder}
use Rattle.folder_filing.specs.Folders.{is_covered_by, is_identical, is_same}
use Rattle.folder_filing.specs.Naming.{is_written}

-- a folder; files that were named in it; and the system calls after that
pub record FolderNames : Type 0 where
  pub folder : NumberedFolder
  pub files : List EnteredFile
  pub calls : List Call

-- two folders have the same number and identity
abbrev pub is_same_folder : NumberedFolder → NumberedFolder → Bool
is_same_folder folder other = nat_eq folder.number other.number && is_identical folder.identity other.identity

-- the system has synced this folder
abbrev pub was_synced : NumberedFolder → List Call → Bool
was_synced folder [] = false
was_synced folder (Synced other ∷ before) = is_same_folder other folder || was_synced folder before
was_synced folder (call ∷ before) = was_synced folder before

-- a file was renamed, and not linked
abbrev pub is_renamed : Named → Bool
is_renamed how.Linked = false
is_renamed how.Renamed = true

-- the draft of a file was renamed from the folder itself to a subfolder
abbrev pub is_moved : NamedFile → Bool
is_moved file = not (nat_eq file.location.folder 0) && is_renamed file.how

-- the system has synced the folder itself
abbrev pub was_parent_synced : List Call → Bool
was_parent_synced [] = false
was_parent_synced (Synced folder ∷ before) = nat_eq folder.number 0 || was_parent_synced before
was_parent_synced (call ∷ before) = was_parent_synced before

-- a file has this location, in this folder
abbrev pub is_at : Location → NumberedFolder → EnteredFile → Bool
is_at location folder file = is_same file.file.location location && is_same_folder file.folder folder

-- the draft of one of these files was renamed from the folder itself to a subfolder
abbrev pub have_moved : List EnteredFile → Bool
have_moved = list_any (λ file. is_moved file.file)

-- the system has synced this folder, and the folder itself if drafts were renamed from there
abbrev pub are_synced : FolderNames → Bool
are_synced names = was_synced names.folder names.calls && (not (have_moved names.files) || was_parent_synced names.calls)

-- the file of this location is one of these, and the system has synced its folder after it was named
abbrev pub is_synced_in : Location → FolderNames → Bool
is_synced_in location names =
    nat_eq names.folder.number location.folder && list_any (is_at location names.folder) names.files && are_synced names

-- the file of this location is one of those whose folders the system has synced after they were named
abbrev pub is_synced : Location → List FolderNames → Bool
is_synced location synced = list_any (is_synced_in location) synced

-- how many files were created
abbrev pub created : List Call → ℕ
created [] = 0
created (Created draft file ∷ before) = created before + 1
created (call ∷ before) = created before

-- the file of the draft with this number: the last one that was created as this draft. Files are numbered in the order
-- in which they were created, from 1.
abbrev pub file_of : ℕ → List Call → ℕ
file_of draft [] = 0
file_of draft (Created other file ∷ before) = if nat_eq other draft then created before + 1 else file_of draft before
file_of draft (call ∷ before) = file_of draft before

-- the draft with this number was synced, and is the file that was created last
abbrev pub is_complete : ℕ → List Call → Bool
is_complete draft calls = is_written calls && nat_eq (file_of draft calls) (created calls)

-- the file of this location got its name after its bytes were synced, and still has it
abbrev pub was_named : Location → List Call → Bool
was_named location [] = false
was_named location (Linked draft other ∷ before) = if is_same location other then is_complete draft before else was_named location before
was_named location (Renamed draft other ∷ before) = if is_same location other then is_complete draft before else was_named location before
was_named location (Removed other file ∷ before) = not (is_same location other) && was_named location before
was_named location (call ∷ before) = was_named location before

-- the file of this location is on the disk: its folder was synced after it got its name, and that after its bytes were
-- synced; and it still has its name
abbrev pub is_durable : Location → List Call → Bool
is_durable location [] = false
is_durable location (Linked draft other ∷ before) = not (is_same location other) && is_durable location before
is_durable location (Renamed draft other ∷ before) = not (is_same location other) && is_durable location before
is_durable location (Removed other file ∷ before) = not (is_same location other) && is_durable location before
is_durable location (Synced folder ∷ before) = (is_covered_by location folder before && was_named location before) || is_durable location before
is_durable location (call ∷ before) = is_durable location before

-- the commit of a file of this location was reported
abbrev pub was_reported : Location → List Call → Bool
was_reported location [] = false
was_reported location (Reported other ∷ before) = is_same location other || was_reported location before
was_reported location (call ∷ before) = was_reported location before

-- each commit was reported once, of a file that was on the disk then, and the name of no such file was removed, or given
-- to another one
abbrev pub are_kept : List Call → Bool
are_kept [] = true
are_kept (Linked draft location ∷ before) = not (was_reported location before) && are_kept before
are_kept (Renamed draft location ∷ before) = not (was_reported location before) && are_kept before
are_kept (Removed location file ∷ before) = not (was_reported location before) && are_kept before
are_kept (Reported location ∷ before) = not (was_reported location before) && (is_durable location before && are_kept before)
are_kept (call ∷ before) = are_kept before

-- how many commits were reported
abbrev pub reports : List Call → ℕ
reports [] = 0
reports (Reported location ∷ before) = reports before + 1
reports (call ∷ before) = reports before

-- 1 for yes, 0 for no
abbrev pub one_if : Bool → ℕ
one_if true = 1
one_if false = 0
