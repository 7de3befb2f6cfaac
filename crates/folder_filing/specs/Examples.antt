-- Example calls for the definitions of the names that a filing over a folder has given, and of what a loss of power leaves.
use Rattle.std.specs.Prelude.{◌≡◌, ℕ, true, false, List, [], ◌∷◌, Option, Some, None}
use Rattle.folder_filing.specs.Crashes.{Disk, MayLeave}
use Rattle.folder_filing.specs.Naming.{LosesNone, Own, Rises, refusals, standing}
use Rattle.folder_filing.specs.declared.call.Call.{Call}
use Rattle.folder_filing.specs.declared.call.Call.TheVariants.{Created, Written, Linked, Entered, SeenFree, Renamed, Removed, Synced, Reported, Refused}
use Rattle.folder_filing.specs.declared.folder_identity.FolderIdentity.{FolderIdentity}
use Rattle.folder_filing.specs.declared.folder_identity.NumberedFolder.{NumberedFolder}
use Rattle.folder_filing.specs.declared.location.Location.{Location}

-- a location in a folder without subfolders
abbrev pub flat : ℕ → Location
flat number = record { folder = 0; file = number }

-- the first location in a subfolder
abbrev pub first_inside : Location
first_inside = record { folder = 1; file = 1 }

-- the identity of the file or folder with this inode, and that folder with this number
abbrev pub identity_of : ℕ → FolderIdentity
identity_of number = record { device = 1; inode = number }

abbrev pub numbered : ℕ → ℕ → NumberedFolder
numbered number node = record { number = number; identity = identity_of node }

-- what is a filing's own with this draft, once the commits of these files were reported
abbrev pub own : ℕ → List Location → Own
own draft reported = record { draft = draft; reported = reported }

-- the identities of a file of the filing and of a file of another program
abbrev pub mine : FolderIdentity
mine = identity_of 2

abbrev pub another : FolderIdentity
another = identity_of 3

-- the system calls, newest first: a file was linked and another one renamed; a third one was linked, syncing its
-- folder failed, and it was removed
abbrev pub worked_calls : List Call
worked_calls =
    Removed (flat 3) (Some mine) ∷ Refused ∷ Linked 1 (flat 3) ∷ Written ∷ Created 1 mine ∷ Renamed 1 (flat 2) ∷ SeenFree (flat 2) ∷ Written ∷ Created 1 mine ∷ Linked 1 (flat 1) ∷ Written ∷ Created 1 mine ∷ []

-- a file was synced and linked in a subfolder
abbrev pub linked_inside : List Call
linked_inside = Linked 1 first_inside ∷ Written ∷ Created 1 mine ∷ []

-- After these calls two files have names, one call failed, and no file was lost. A file could be lost by a name that it
-- gets before its bytes are synced, by a rename without the check right before it, by the removal of a file that is not
-- the last one, or of one that another program has put in its place, and by a filing that names the draft of another. A
-- draft may be named again once the link that named it was removed, as when its folder was moved; not while it has
-- another name, and not after a rename, after which there is no draft. A commit is reported after its folder was
-- synced: not without that, nor where it was synced before the file had its name, or another folder was; and not a second
-- time. In a subfolder the file was found in it before it was synced: not in another one that had its number. Locations
-- with the same number twice are not strictly ascending.
pub record WorkedNames : Type 0 where
  pub names : standing worked_calls ≡ flat 2 ∷ flat 1 ∷ []
  pub count : refusals worked_calls ≡ 1
  pub loses : LosesNone true (own 1 []) worked_calls
  pub rises : Rises (standing worked_calls)
  pub unwritten : ¬ (LosesNone true (own 1 []) (Linked 1 (flat 1) ∷ Created 1 mine ∷ Written ∷ []))
  pub unseen : ¬ (LosesNone false (own 1 []) (Renamed 1 (flat 2) ∷ Created 1 mine ∷ SeenFree (flat 2) ∷ []))
  pub other : ¬ (LosesNone false (own 1 []) (Renamed 1 (flat 2) ∷ SeenFree (flat 1) ∷ []))
  pub earlier : ¬ (LosesNone false (own 1 []) (Removed (flat 1) (Some mine) ∷ Linked 1 (flat 2) ∷ Linked 1 (flat 1) ∷ []))
  pub replaced : ¬ (LosesNone true (own 1 []) (Removed (flat 1) (Some another) ∷ Linked 1 (flat 1) ∷ Written ∷ Created 1 mine ∷ []))
  pub moved : LosesNone true (own 1 []) (Removed (flat 1) None ∷ Linked 1 (flat 1) ∷ Written ∷ Created 1 mine ∷ [])
  pub again : LosesNone true (own 1 []) (Linked 1 (flat 2) ∷ Removed (flat 1) (Some mine) ∷ Linked 1 (flat 1) ∷ Written ∷ Created 1 mine ∷ [])
  pub both : ¬ (LosesNone true (own 1 []) (Linked 1 (flat 2) ∷ Linked 1 (flat 1) ∷ Written ∷ Created 1 mine ∷ []))
  pub gone : ¬ (LosesNone true (own 1 []) (Linked 1 (flat 2) ∷ Removed (flat 1) (Some mine) ∷ Renamed 1 (flat 1) ∷ SeenFree (flat 1) ∷ Written ∷ []))
  pub foreign : ¬ (LosesNone false (own 2 []) (Linked 1 (flat 1) ∷ Created 2 mine ∷ []))
  pub reported : LosesNone true (own 1 (flat 1 ∷ [])) (Reported (flat 1) ∷ Synced (numbered 0 7) ∷ Linked 1 (flat 1) ∷ Written ∷ Created 1 mine ∷ [])
  pub unsynced : ¬ (LosesNone true (own 1 (flat 1 ∷ [])) (Reported (flat 1) ∷ Linked 1 (flat 1) ∷ Written ∷ Created 1 mine ∷ []))
  pub early : ¬ (LosesNone true (own 1 (flat 1 ∷ [])) (Reported (flat 1) ∷ Linked 1 (flat 1) ∷ Synced (numbered 0 7) ∷ Written ∷ Created 1 mine ∷ []))
  pub elsewhere : ¬ (LosesNone true (own 1 (flat 1 ∷ [])) (Reported (flat 1) ∷ Synced (numbered 1 8) ∷ Linked 1 (flat 1) ∷ Written ∷ Created 1 mine ∷ []))
  pub inside : LosesNone true (own 1 (first_inside ∷ [])) (Reported first_inside ∷ Synced (numbered 1 8) ∷ Entered first_inside (identity_of 8) ∷ linked_inside)
  pub outside : ¬ (LosesNone true (own 1 (first_inside ∷ [])) (Reported first_inside ∷ Synced (numbered 1 8) ∷ linked_inside))
  pub remade : ¬ (LosesNone true (own 1 (first_inside ∷ [])) (Reported first_inside ∷ Synced (numbered 1 8) ∷ Entered first_inside (identity_of 9) ∷ linked_inside))
  pub repeated : ¬ (LosesNone true (own 1 (flat 1 ∷ flat 1 ∷ [])) (Reported (flat 1) ∷ Reported (flat 1) ∷ Synced (numbered 0 7) ∷ Linked 1 (flat 1) ∷ Written ∷ Created 1 mine ∷ []))
  pub twice : ¬ (Rises (flat 1 ∷ flat 2 ∷ flat 1 ∷ []))

-- a disk on which each name leads to this file, or to none, and each file has these bytes
abbrev pub disk_of : Option ℕ → List ℕ → Disk
disk_of found bytes = record { names = λ location. found; bytes = λ file. bytes }

-- a file was synced and linked
abbrev pub linked_calls : List Call
linked_calls = Linked 1 (flat 1) ∷ Written ∷ Created 1 mine ∷ []

-- what a loss of power may leave after these calls, where the byte 7 is written to each file
abbrev pub Leaves : List Call → Option ℕ → List ℕ → Type 0
Leaves calls found bytes = MayLeave (λ file. 7 ∷ []) calls (disk_of found bytes)

-- A file may be gone although its commit was reported, if its folder was not synced, or before the file was linked, or
-- another one was. A file may have other bytes if it was linked before they were synced. A name that was removed may lead
-- to its file again until its folder is synced. After a sync of the folder the file is there, with its bytes; in a subfolder
-- only if it was found in that one, whose own entry is on the disk.
pub record WorkedCrashes : Type 0 where
  pub gone : Leaves (Reported (flat 1) ∷ linked_calls) None (7 ∷ [])
  pub early : Leaves (Reported (flat 1) ∷ Linked 1 (flat 1) ∷ Synced (numbered 0 7) ∷ Written ∷ Created 1 mine ∷ []) None (7 ∷ [])
  pub elsewhere : Leaves (Reported (flat 1) ∷ Synced (numbered 1 8) ∷ linked_calls) None (7 ∷ [])
  pub wrong : Leaves (Synced (numbered 0 7) ∷ Linked 1 (flat 1) ∷ Created 1 mine ∷ []) (Some 1) (8 ∷ [])
  pub removed : Leaves (Removed (flat 1) (Some mine) ∷ Synced (numbered 0 7) ∷ linked_calls) None (7 ∷ [])
  pub back : Leaves (Removed (flat 1) (Some mine) ∷ Synced (numbered 0 7) ∷ linked_calls) (Some 1) (7 ∷ [])
  pub remains : ¬ (Leaves (Synced (numbered 0 7) ∷ linked_calls) None (7 ∷ []))
  pub whole : ¬ (Leaves (Synced (numbered 0 7) ∷ linked_calls) (Some 1) (8 ∷ []))
  pub outside : Leaves (Synced (numbered 1 8) ∷ linked_inside) None (7 ∷ [])
  pub remade : Leaves (Synced (numbered 1 8) ∷ Entered first_inside (identity_of 9) ∷ linked_inside) None (7 ∷ [])
  pub inside : ¬ (Leaves (Synced (numbered 1 8) ∷ Entered first_inside (identity_of 8) ∷ linked_inside) None (7 ∷ []))
  pub reported : ¬ (LosesNone true (own 1 (flat 1 ∷ [])) (Removed (flat 1) (Some mine) ∷ Reported (flat 1) ∷ Synced (numbered 0 7) ∷ linked_calls))
  pub again : ¬ (LosesNone true (own 1 (flat 1 ∷ [])) (Linked 1 (flat 1) ∷ Written ∷ Created 1 mine ∷ Reported (flat 1) ∷ Synced (numbered 0 7) ∷ linked_calls))
