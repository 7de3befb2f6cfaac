-- The file that waits is the newest, the one that was named last (`same_last`, `just_named`, `is_newest`, `none_reported`), and the
-- names stay orderly where its name is removed, or where that fails (`takes_back_or_fails`), or where its commit is reported
-- (`one_reported`, `one_more_reported`, `still_reported`). Stands on
-- NamesStayOrderly and ReportsAreDurable.
use Rattle.std.proofs.Common.{◌≡◌, ◌≤◌, ◌∙◌, ℕ, suc, ◌+◌, true, List, [], ◌∷◌, ◌++◌, Some, map, Result, Ok, Err, ap, arith, drop, length, refl, subst, sym}
use Rattle.std.proofs.Math.Logic.{∥∥₁_elim, ∥∥₁_map}
use Rattle.std.proofs.lemmas.List.{length-append, map-append}
use Rattle.std.specs.Coded.{Coded-set, coded_bool}
use Rattle.std.specs.Result.{IfOk, OnErr}
use Rattle.std.specs.List.{AllByRecursion}
use Rattle.folder_filing.specs.declared.call.Call.{Call}
use Rattle.folder_filing.specs.declared.call.Call.TheVariants.{Refused, Removed}
use Rattle.folder_filing.specs.declared.folder_identity.FolderIdentity.{FolderIdentity}
use Rattle.folder_filing.specs.Naming.{IsKept, IsNewest, IsOrderly, Naming, Own, created_file, is_unreported, standing}
use Rattle.folder_filing.specs.Locations.{order}
use Rattle.folder_filing.specs.declared.location.Location.{Location}
use Rattle.folder_filing.specs.declared.pending.Pending.{Pending}
use Rattle.folder_filing.specs.declared.pending.Pending.TheVariants.{Settled, Unnamed, Named, Lost}
use Rattle.folder_filing.specs.Settling.{IsNamedLast, is_waiting}
use Rattle.folder_filing.specs.Synced.{one_if}
use Rattle.folder_filing.specs.machine.Naming.{SameTerms}
use Rattle.folder_filing.proofs.NamesStayOrderly.{continues, keeps_same}
use Rattle.folder_filing.proofs.ReportsAreDurable.{rises_drop}

-- The file that waits is the one that was named last, as the same files have names.
pub same_last : (pending : Pending) (old new : List Call) → standing new ≡ standing old → is_unreported new ≡ is_unreported old
    → ∥ IsNamedLast pending old ∥₁ → ∥ IsNamedLast pending new ∥₁
same_last Settled old new same unreported last = ∣ tt ∣₁
same_last Unnamed old new same unreported last = ∣ tt ∣₁
same_last (Named location) old new same unreported last = ∥∥₁_map last (λ is. (subst (λ z. IsNewest location z) (sym same) is.0, unreported ∙ is.1))
same_last Lost old new same unreported last = ∣ tt ∣₁

-- No file that waits has a name.
pub none_waits : (pending : Pending) (calls : List Call) → pending ≡ Settled → ∥ IsNamedLast pending calls ∥₁
none_waits pending calls is = subst (λ z. ∥ IsNamedLast z calls ∥₁) (sym is) ∣ tt ∣₁

pub none_has_its_name : (pending : Pending) (calls : List Call) → pending ≡ Unnamed → ∥ IsNamedLast pending calls ∥₁
none_has_its_name pending calls is = subst (λ z. ∥ IsNamedLast z calls ∥₁) (sym is) ∣ tt ∣₁

-- The file that has just been named is the one that was named last.
pub just_named : (location : Location) (old : List Location) (new : List Call) → standing new ≡ location ∷ old → is_unreported new ≡ true → ∥ IsNamedLast (Named location) new ∥₁
just_named location old new is unreported = ∣ (subst (λ z. IsNewest location z) (sym is) refl, unreported) ∣₁

-- The file that waits and has its name was named last.
pub is_newest : (pending : Pending) (location : Location) (calls : List Call) → pending ≡ Named location → ∥ IsNamedLast pending calls ∥₁ → ∥ IsNewest location (standing calls) ∥₁
is_newest pending location calls is last = ∥∥₁_map (subst (λ z. ∥ IsNamedLast z calls ∥₁) is last) (λ both. both.0)

-- Its commit was not reported.
pub none_reported : (pending : Pending) (location : Location) (calls : List Call) → pending ≡ Named location → ∥ IsNamedLast pending calls ∥₁ → is_unreported calls ≡ true
none_reported pending location calls is last = ∥∥₁_elim (subst (λ z. ∥ IsNamedLast z calls ∥₁) is last) (Coded-set coded_bool _ _) (λ both. both.1)

all_drop : (P : Location → Type 0) (locations : List Location) → AllByRecursion P locations → AllByRecursion P (drop 1 locations)
all_drop P [] all = tt
all_drop P (location ∷ locations) all = all.1

-- The name that was given last is removed.
pub takes_back : (old new : Naming) (location : Location) (file : FolderIdentity) → SameTerms old new → new.last ≡ old.last
    → new.calls ≡ Removed location (Some file) ∷ old.calls → created_file old.calls ≡ Some file → IsNewest location (standing old.calls) → is_unreported old.calls ≡ true
    → IsOrderly old → IsOrderly new
takes_back old new location file terms last calls own newest unreported was =
    let same : standing new.calls ≡ drop 1 (standing old.calls) = ap standing calls in
    let behind : AllByRecursion (λ other. order other ≤ order new.last) (drop 1 (standing old.calls)) = rw last (all_drop _ _ was.behind) in
    let all : AllByRecursion (IsKept new.layout new.kept) (drop 1 (standing old.calls)) = rw (terms.0, terms.1) (all_drop _ _ was.kept) in
    record {
      loses = rw (terms.2, terms.3, calls) (newest, unreported, own, was.loses);
      rises = rw same (rises_drop _ was.rises);
      behind = rw same behind;
      kept = rw same all;
    }

-- The name that was given last is removed, or the call failed.
pub takes_back_or_fails : {E : Type 0} (result : Result FolderIdentity E) (old new : Naming) (location : Location) (before : List Call) → SameTerms old new → new.last ≡ old.last
    → before ≡ old.calls → IfOk result (λ file. (new.calls ≡ Removed location (Some file) ∷ before) × (created_file before ≡ Some file)) → OnErr result (new.calls ≡ Refused ∷ before)
    → IsNewest location (standing old.calls) → is_unreported old.calls ≡ true → IsOrderly old → IsOrderly new
takes_back_or_fails (Ok file) old new location before terms last same removed refused newest unreported was =
    takes_back old new location file terms last (removed.0 ∙ ap (λ z. Removed location (Some file) ∷ z) same) (subst (λ z. created_file z ≡ Some file) same removed.1) newest unreported was
takes_back_or_fails (Err error) old new location before terms last same removed refused newest unreported was =
    let calls : new.calls ≡ Refused ∷ old.calls = refused ∙ ap (λ z. Refused ∷ z) same in
    continues old new terms.0 (rw last (omega arith)) (rw terms.1 (keeps_same old.kept)) (rw calls refl) (λ l. rw (terms.2, terms.3, calls) l) was

-- The folder of the file that was named last.
-- The commit that waits is reported.
pub one_reported : (files : ℕ) (pending : Pending) (location : Location) (old new : List Location) → pending ≡ Named location → files ≡ length old + one_if (is_waiting pending)
    → new ≡ location ∷ old → files ≡ length new + 0
one_reported files pending location old new is counted more =
    let has_pending : files ≡ length old + 1 = subst (λ z. files ≡ length old + one_if (is_waiting z)) is counted in
    let longer : length new ≡ length old + 1 = ap length more ∙ (let next : suc (length old) ≡ length old + 1 = omega arith in next) in
    omega (arith, has_pending, longer)

-- The same commits are reported.
pub still_reported : (files waiting : ℕ) (old new : Own) → new ≡ old → files ≡ length old.reported + waiting → files ≡ length new.reported + waiting
still_reported files waiting old new same counted = subst (λ z. files ≡ length z.reported + waiting) (sym same) counted

-- One file more was committed, and its commit is reported.
pub one_more_reported : {X Y : Type 0} (f : X → Y) (kept more : List X) (x : X) (waiting : ℕ) (location : Location) (old same new : List Location) → more ≡ kept ++ x ∷ []
    → length (map f kept) ≡ length old + waiting → same ≡ old → new ≡ location ∷ same → length (map f more) ≡ length new + waiting
one_more_reported f kept more x waiting location old same new is counted now reported =
    let longer : length (map f more) ≡ length (map f kept) + 1 = ap (λ z. length (map f z)) is ∙ ap length (map-append f kept (x ∷ [])) ∙ length-append (map f kept) (f x ∷ []) in
    let next : length new ≡ length old + 1 = ap length (reported ∙ ap (λ z. location ∷ z) now) ∙ (let one : suc (length old) ≡ length old + 1 = omega arith in one) in
    omega (arith, counted, longer, next)
