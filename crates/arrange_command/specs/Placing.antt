-- What `arrange` does with a file at a name of the tree, by its system calls on that name, the newest first. This
-- product's own profile.
use Rattle.std.specs.Prelude.{◌≡◌, ◌≢◌, ℕ, Bool, true, false, List, [], ◌∷◌, Option, Some, None, ⊤}
use Rattle.arrange_command.specs.declared.comparing.Present.{Present}
use Rattle.arrange_command.specs.declared.comparing.Present.TheVariants.{Nothing, Same}
use Rattle.arrange_command.specs.declared.placing.Placed.{Placed}
use Rattle.arrange_command.specs.declared.placing.Placed.TheVariants.{Put, PassedOver, Renamed as Numbered}
use Rattle.arrange_command.specs.declared.tree_calls.TreeCall.{TreeCall}
use Rattle.arrange_command.specs.declared.tree_calls.TreeCall.TheVariants.{Found, Linked, Renamed}

-- the newest call found this at the name
abbrev pub HasFound : Present → List TreeCall → Type 0
HasFound present [] = ⊥
HasFound present (Found found ∷ before) = found ≡ present
HasFound present (Linked ∷ before) = ⊥
HasFound present (Renamed ∷ before) = ⊥

-- the newest call gave the name to the file, and the name was free before: a link fails if the name exists, and a
-- rename followed right after the name was found free
abbrev pub HasGiven : List TreeCall → Type 0
HasGiven [] = ⊥
HasGiven (Found found ∷ before) = ⊥
HasGiven (Linked ∷ before) = ⊤
HasGiven (Renamed ∷ before) = HasFound Nothing before

-- no call replaced a file that had the name
abbrev pub TakesNone : List TreeCall → Type 0
TakesNone [] = ⊤
TakesNone (Found found ∷ before) = TakesNone before
TakesNone (Linked ∷ before) = TakesNone before
TakesNone (Renamed ∷ before) = HasFound Nothing before × TakesNone before

-- the file has the name now; in a dry run, no file has it
abbrev pub GetsName : Bool → List TreeCall → Type 0
GetsName false calls = HasGiven calls
GetsName true calls = HasFound Nothing calls

-- The outcome for a file at the name with this number: the file is skipped if the same file or the same bytes were
-- found, placed there if the name was free, and else a further number is tried.
abbrev pub IsPlaced : Bool → ℕ → Option Placed → List TreeCall → Type 0
IsPlaced dry_run number None calls = ⊤
IsPlaced dry_run number (Some PassedOver) calls = HasFound Same calls
IsPlaced dry_run number (Some Put) calls = (number ≡ 1) × GetsName dry_run calls
IsPlaced dry_run number (Some Numbered) calls = (number ≢ 1) × GetsName dry_run calls
