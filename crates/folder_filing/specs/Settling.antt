-- How the commits of a filing over a folder are settled in groups. This product's own profile.
use Rattle.std.specs.Prelude.{◌≡◌, ◌+◌, ◌<◌, ◌⊎◌, ℕ, Bool, ◌&&◌, ◌||◌, not, nat_eq, true, false, List, ◌∷◌, drop, length, ⊤}
use Rattle.folder_filing.specs.declared.call.Call.{Call}
use Rattle.folder_filing.specs.declared.call.Call.TheVariants.{Reported, Synced}
use Rattle.folder_filing.specs.declared.folder_identity.NumberedFolder.{NumberedFolder}
use Rattle.folder_filing.specs.declared.location.Location.{Location}
use Rattle.folder_filing.specs.declared.pending.Pending.{Pending}
use Rattle.folder_filing.specs.declared.pending.Pending.TheVariants.{Settled, Unnamed, Named, Lost}
use Rattle.folder_filing.specs.Folders.{entering}
use Rattle.folder_filing.specs.Synced.{FolderNames, are_kept, is_synced, one_if, reports}
use Rattle.folder_filing.specs.States.{FolderState}
use Rattle.folder_filing.specs.Naming.{IsNewest, LeavesNames, Naming, WasRefused, is_unreported, refusals, standing}

-- a commit waits to be settled, or its file was lost
abbrev pub is_waiting : Pending → Bool
is_waiting Settled = false
is_waiting Unnamed = true
is_waiting (Named location) = true
is_waiting Lost = true

-- each of so many committed files was reported, except the last one while it waits or if it was lost
abbrev pub AreReported : ℕ → Pending → Naming → Type 0
AreReported files pending names = files ≡ length names.own.reported + one_if (is_waiting pending)

-- all files are on the disk: with syncs, so many commits were reported, each of another file, which was on the disk then
-- and has kept its name since
abbrev pub are_durable : ℕ → Naming → Bool
are_durable files names = not names.has_sync || (are_kept names.calls && nat_eq (reports names.calls) files)

-- a filing waits: its last commit is not settled, or not all of its files are on the disk
abbrev pub is_unsettled : FolderState → Bool
is_unsettled filing = is_waiting filing.pending || not (are_durable (length filing.contents.files) filing.names)

-- the file that waits, once it has a name, is the one that the filing has named last, and was not reported
abbrev pub IsNamedLast : Pending → List Call → Type 0
IsNamedLast Settled calls = ⊤
IsNamedLast Unnamed calls = ⊤
IsNamedLast (Named location) calls = IsNewest location (standing calls) × (is_unreported calls ≡ true)
IsNamedLast Lost calls = ⊤

-- the effect of writing a file out that has no name: it has got one, or it is lost, and then the same files have names,
-- or one more, whose name could not be removed again
abbrev pub IsWrittenOut : Pending → Naming → Naming → Type 0
IsWrittenOut Settled old new = ⊥
IsWrittenOut Unnamed old new = ⊥
IsWrittenOut (Named location) old new =
    (standing new.calls ≡ location ∷ standing old.calls) × (refusals new.calls ≡ refusals old.calls) × (new.has_sync ≡ old.has_sync) × (new.own ≡ old.own)
IsWrittenOut Lost old new = LeavesNames (standing old.calls) (standing new.calls) × WasRefused old new × (new.has_sync ≡ old.has_sync) × (new.own ≡ old.own)

-- the effect of writing out the last commit, which was in the first state and is in the second one: nothing, except for
-- a file that has no name yet
abbrev pub WritesOut : Pending → Pending → Naming → Naming → Type 0
WritesOut Settled pending old new = (pending ≡ Settled) × (new ≡ old)
WritesOut Unnamed pending old new = IsWrittenOut pending old new
WritesOut (Named location) pending old new = (pending ≡ Named location) × (new ≡ old)
WritesOut Lost pending old new = (pending ≡ Lost) × (new ≡ old)

-- the file that waits has its name on the disk, by this sync of names
abbrev pub is_on_disk : Pending → List FolderNames → Bool
is_on_disk Settled synced = false
is_on_disk Unnamed synced = false
is_on_disk (Named location) synced = is_synced location synced
is_on_disk Lost synced = false

-- the state of the last commit after it was settled, if its name is on the disk (true) or could not be synced
abbrev pub settled : Bool → Pending → Pending
settled are_named Settled = Settled
settled are_named Unnamed = Unnamed
settled true (Named location) = Settled
settled false (Named location) = Lost
settled are_named Lost = Lost

-- the name of a file that is lost is removed, or it could not be
abbrev pub TakesBack : Naming → Naming → Type 0
TakesBack old new =
    ((standing new.calls ≡ drop 1 (standing old.calls)) × (refusals new.calls ≡ refusals old.calls))
    ⊎ ((standing new.calls ≡ standing old.calls) × (refusals old.calls < refusals new.calls))

-- the folder in which the file of this location was named was synced, after the file was found in it
abbrev pub IsSyncedBy : Location → List Call → List Call → Type 0
IsSyncedBy location old new = (folder : NumberedFolder) × (folder.number ≡ location.folder) × (new ≡ Synced folder ∷ entering location folder old)

-- a commit was reported, after the sync of the folder in which its file has this location
abbrev pub IsReported : Location → Naming → Naming → Type 0
IsReported location old new =
    (calls : List Call) × IsSyncedBy location old.calls calls
    × (new ≡ record old { own = record old.own { reported = location ∷ old.own.reported }; calls = Reported location ∷ calls })

-- the effect of settling the last commit on the names: it is reported, or a file whose name could not be synced loses
-- it
abbrev pub SettlesNames : Bool → Pending → Naming → Naming → Type 0
SettlesNames are_named Settled old new = new ≡ old
SettlesNames are_named Unnamed old new = new ≡ old
SettlesNames true (Named location) old new = IsReported location old new
SettlesNames false (Named location) old new = TakesBack old new × (new.has_sync ≡ old.has_sync) × (new.own ≡ old.own)
SettlesNames are_named Lost old new = new ≡ old
