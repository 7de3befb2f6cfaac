-- The folder of the file that was named last is synced, after the file was found in it (`name_synced`, `in_its_folder`), and
-- its commit is reported (`is_reported`); finding it names no file and loses none (`enters`, `synced_by`). Stands on
-- ReportsAreDurable.
use Rattle.std.proofs.Common.{◌≡◌, Bool, true, false, nat_eq, eq-eqb, if◌then◌else◌, List, [], ◌∷◌, refl, subst, sym}
use Rattle.std.proofs.Math.Logic.{∥∥₁_elim}
use Rattle.std.specs.Coded.{Coded-set, coded_bool}
use Rattle.folder_filing.specs.declared.call.Call.{Call}
use Rattle.folder_filing.specs.declared.call.Call.TheVariants.{Entered, Reported}
use Rattle.folder_filing.specs.declared.folder_identity.FolderIdentity.{FolderIdentity}
use Rattle.folder_filing.specs.declared.folder_identity.NumberedFolder.{NumberedFolder}
use Rattle.folder_filing.specs.declared.location.Location.{Location}
use Rattle.folder_filing.specs.Folders.{entering, is_covered_by}
use Rattle.folder_filing.specs.Naming.{Asks, IsNameSynced, IsNewest, IsNewestIn, Naming, refusals, standing}
use Rattle.folder_filing.specs.Settling.{IsReported, IsSyncedBy}
use Rattle.folder_filing.proofs.ReportsAreDurable.{both, or_left, or_right, same_location}

newest_in : (location : Location) (folder : NumberedFolder) (calls : List Call) (locations : List Location) → ∥ IsNewest location locations ∥₁
    → is_covered_by location folder calls ≡ true → IsNewestIn folder calls locations
newest_in location folder calls [] newest covered = absurd (∥∥₁_elim newest (λ a b. absurd a) (λ a. a))
newest_in location folder calls (other ∷ locations) newest covered =
    ∥∥₁_elim newest (Coded-set coded_bool _ _) (λ is. subst (λ z. is_covered_by z folder calls ≡ true) (sym is) covered)

covered_if : (b : Bool) (location : Location) (folder : NumberedFolder) (calls : List Call) → (b ≡ true → nat_eq folder.number 0 ≡ true) → nat_eq folder.number location.folder ≡ true
    → is_covered_by location folder (if b then calls else Entered location folder.identity ∷ calls) ≡ true
covered_if true location folder calls zero number = both _ _ number (or_left _ _ (zero refl))
covered_if false location folder calls zero number =
    let same = both _ _ (eq-eqb folder.identity.device _ refl) (eq-eqb folder.identity.inode _ refl) in
    both _ _ number (or_right _ _ (or_left _ _ (both _ _ (same_location location) same)))

enters_if : (b : Bool) (location : Location) (folder : FolderIdentity) (calls : List Call)
    → Asks (standing calls) (refusals calls) calls (if b then calls else Entered location folder ∷ calls)
enters_if true location folder calls = record { standing = refl; refusals = refl; unreported = refl; loses = λ has_sync own h. h }
enters_if false location folder calls = record { standing = refl; refusals = refl; unreported = refl; loses = λ has_sync own h. h }

-- A file was found in its folder.
pub enters : (location : Location) (folder : NumberedFolder) (calls : List Call) → Asks (standing calls) (refusals calls) calls (entering location folder calls)
enters location folder calls = enters_if (nat_eq location.folder 0) location folder.identity calls

-- The folder of the file that was named last was synced, after the file was found in it.
pub name_synced : (location : Location) (folder : NumberedFolder) (calls : List Call) → folder.number ≡ location.folder → ∥ IsNewest location (standing calls) ∥₁
    → IsNewestIn folder (entering location folder calls) (standing (entering location folder calls))
name_synced location folder calls number newest =
    subst (λ z. IsNewestIn folder (entering location folder calls) z) (sym (enters location folder calls).standing)
    (newest_in location folder (entering location folder calls) (standing calls) newest
    (covered_if (nat_eq location.folder 0) location folder calls (λ zero. subst (λ z. nat_eq z 0 ≡ true) (sym number) zero) (eq-eqb folder.number location.folder number)))

pub synced_by : (location : Location) (old new : List Call) → IsSyncedBy location old new → Asks (standing old) (refusals old) old new
synced_by location old new by =
    let asked = enters location by.0 old in
    subst (λ z. Asks (standing old) (refusals old) old z) (sym by.2) (record { standing = asked.standing; refusals = asked.refusals; unreported = asked.unreported; loses = asked.loses })

pub in_its_folder : (location : Location) (old new : List Call) → ∥ IsNewest location (standing old) ∥₁ → IsSyncedBy location old new → IsNameSynced new
in_its_folder location old new newest by = subst IsNameSynced (sym by.2) (name_synced location by.0 old by.1 newest)

-- The commit is reported after that sync.
pub is_reported : (location : Location) (inside names new : Naming) (calls : List Call) → inside ≡ names → IsSyncedBy location inside.calls calls
    → new ≡ record inside { own = record inside.own { reported = location ∷ inside.own.reported }; calls = Reported location ∷ calls } → IsReported location names new
is_reported location inside names new calls same by is = subst (λ z. IsReported location z new) same (calls, by, is)
