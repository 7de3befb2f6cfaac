-- Each commit that was reported is of a file that was on the disk, with its name, and has kept it (`reports_are_kept`), and
-- so a filing waits where its last commit does (`waits_as`). Stands on the definitions alone.
use Rattle.std.proofs.Common.{◌≡◌, ◌∙◌, ◌+◌, ◌<◌, ◌||◌, ◌&&◌, not, nat_eq, if◌then◌else◌, ℕ, suc, Bool, true, false, List, [], ◌∷◌, length, drop, refl, sym, ap, subst, arith, eq-eqb}
use Rattle.std.proofs.Math.Logic.{∥∥₁_elim}
use Rattle.std.specs.Coded.{Coded-set, coded_bool}
use Rattle.std.specs.List.{list_any}
use Rattle.folder_filing.specs.declared.call.Call.{Call}
use Rattle.folder_filing.specs.declared.call.Call.TheVariants.{Created, Linked, Renamed, Removed, Synced, Reported}
use Rattle.folder_filing.specs.declared.folder_identity.NumberedFolder.{NumberedFolder}
use Rattle.folder_filing.specs.declared.location.Location.{Location}
use Rattle.folder_filing.specs.declared.pending.Pending.{Pending}
use Rattle.folder_filing.specs.declared.pending.Pending.TheVariants.{Settled, Unnamed, Named, Lost}
use Rattle.folder_filing.specs.Locations.{order}
use Rattle.folder_filing.specs.Naming.{IsAfterAll, IsNameSynced, IsNewest, IsNewestIn, IsOrderly, LosesNone, Naming, Own, Rises, is_unreported, is_written, standing}
use Rattle.folder_filing.specs.Settling.{AreReported, are_durable, is_waiting}
use Rattle.folder_filing.specs.Folders.{is_covered_by, is_same}
use Rattle.folder_filing.specs.Synced.{are_kept, created, file_of, is_complete, is_durable, reports, was_named, was_reported}

pub or_left : (x y : Bool) → x ≡ true → (x || y) ≡ true
or_left true y h = refl
or_left false y h = absurd cc

pub or_right : (x y : Bool) → y ≡ true → (x || y) ≡ true
or_right true y h = refl
or_right false y h = h

pub both : (x y : Bool) → x ≡ true → y ≡ true → (x && y) ≡ true
both true y h k = k
both false y h k = absurd cc

pub not_false : (x : Bool) → x ≡ false → not x ≡ true
not_false true h = absurd cc
not_false false h = refl

pub false_if : (x : Bool) → (x ≡ true → ⊥) → x ≡ false
false_if true h = absurd (h refl)
false_if false h = refl

-- the first holds with what is so, or the second follows where the first does not hold
if_so : (x y w z : Bool) → w ≡ true → (y ≡ true → z ≡ true) → (x || y) ≡ true → (if x then w else z) ≡ true
if_so true y w z is after h = is
if_so false y w z is after h = after h

pub same_location : (location : Location) → is_same location location ≡ true
same_location location = both _ _ (eq-eqb location.folder location.folder refl) (eq-eqb location.file location.file refl)

same_order : (location other : Location) → is_same location other ≡ true → order location ≡ order other
same_order location other same = grind arith

abbrev has : Location → List Location → Bool
has location locations = list_any (is_same location) locations

newest_has : (location : Location) (locations : List Location) → IsNewest location locations → has location locations ≡ true
newest_has location [] newest = absurd newest
newest_has location (other ∷ locations) newest = or_left _ _ (subst (λ z. is_same location z ≡ true) (sym newest) (same_location location))

in_folder : (location : Location) (folder : NumberedFolder) (calls : List Call) (locations : List Location) → IsNewest location locations → IsNewestIn folder calls locations
    → is_covered_by location folder calls ≡ true
in_folder location folder calls [] newest is = absurd newest
in_folder location folder calls (other ∷ locations) newest is = subst (λ z. is_covered_by z folder calls ≡ true) newest is

-- one of these locations is before one that is after all of them
or_before : (x y : Bool) (A : Type 0) → (x ≡ true → A) → (y ≡ true → A) → (x || y) ≡ true → A
or_before true y A first second h = first refl
or_before false y A first second h = second h

before_it : (location other : Location) (locations : List Location) → IsAfterAll other locations → has location locations ≡ true → order location < order other
before_it location other [] after h = absurd cc
before_it location other (one ∷ locations) after h =
    or_before (is_same location one) (has location locations) (order location < order other) (λ same. let is = same_order location one same in omega (arith, is, after.0)) (λ more. before_it location other locations after.1 more) h

-- a location that has files before one that is after all is not the same
not_it : (location other : Location) (locations : List Location) → IsAfterAll other locations → has location locations ≡ true → is_same location other ≡ false
not_it location other locations after h =
    false_if _ (λ same. let is = same_order location other same in let less = before_it location other locations after h in omega (arith, is, less))

pub rises_drop : (locations : List Location) → Rises locations → Rises (drop 1 locations)
rises_drop [] rises = tt
rises_drop (location ∷ locations) rises = rises.1

-- the locations that have files rise
rises_now : (has_sync : Bool) (own : Own) (calls : List Call) → LosesNone has_sync own calls → Rises (standing calls)
rises_now has_sync own [] loses = tt
rises_now has_sync own (Created draft taken ∷ before) loses = rises_now has_sync own before loses.1
rises_now has_sync own (Linked draft location ∷ before) loses = (loses.2, rises_now has_sync own before loses.3)
rises_now has_sync own (Renamed draft location ∷ before) loses = (loses.3, rises_now has_sync own before loses.4)
rises_now has_sync own (Removed location taken ∷ before) loses = rises_drop _ (rises_now has_sync own before loses.3)
rises_now has_sync own (Reported location ∷ before) loses = rises_now has_sync (record own { reported = drop 1 own.reported }) before loses.4
rises_now has_sync own (call ∷ before) loses = rises_now has_sync own before loses

-- a location that still has a file after the newest was removed is another one, and had it before
dropped : (location newest : Location) (locations : List Location) → IsNewest newest locations → Rises locations → has location (drop 1 locations) ≡ true
    → (is_same location newest ≡ false) × (has location locations ≡ true)
dropped location newest [] is rises h = absurd is
dropped location newest (other ∷ locations) is rises h =
    (subst (λ z. is_same location z ≡ false) is (not_it location other locations rises.0 h), or_right (is_same location other) _ h)

-- the file of the only draft is the one that was created last
own_file : (has_sync : Bool) (own : Own) (calls : List Call) → LosesNone has_sync own calls → file_of own.draft calls ≡ created calls
own_file has_sync own [] loses = refl
own_file has_sync own (Created draft taken ∷ before) loses =
    ap (λ z. if z then created before + 1 else file_of own.draft before) (eq-eqb draft own.draft loses.0)
own_file has_sync own (Linked draft location ∷ before) loses = own_file has_sync own before loses.3
own_file has_sync own (Renamed draft location ∷ before) loses = own_file has_sync own before loses.4
own_file has_sync own (Removed location taken ∷ before) loses = own_file has_sync own before loses.3
own_file has_sync own (Reported location ∷ before) loses = own_file has_sync (record own { reported = drop 1 own.reported }) before loses.4
own_file has_sync own (call ∷ before) loses = own_file has_sync own before loses

complete : (own : Own) (draft : ℕ) (calls : List Call) → draft ≡ own.draft → is_written calls ≡ true → LosesNone true own calls → is_complete draft calls ≡ true
complete own draft calls is written loses =
    both _ _ written (eq-eqb _ _ (ap (λ z. file_of z calls) is ∙ own_file true own calls loses))

-- a file that has a name got it after its bytes were synced
named_after : (location : Location) (own : Own) (calls : List Call) → LosesNone true own calls → has location (standing calls) ≡ true → was_named location calls ≡ true
named_after location own [] loses h = absurd cc
named_after location own (Created draft taken ∷ before) loses h = named_after location own before loses.1 h
named_after location own (Linked draft other ∷ before) loses h =
    if_so (is_same location other) _ _ _ (complete own draft before loses.0 (loses.1 refl) loses.3) (named_after location own before loses.3) h
named_after location own (Renamed draft other ∷ before) loses h =
    if_so (is_same location other) _ _ _ (complete own draft before loses.0 (loses.2 refl) loses.4) (named_after location own before loses.4) h
named_after location own (Removed other taken ∷ before) loses h =
    let is = dropped location other (standing before) loses.0 (rises_now true own before loses.3) h in
    both _ _ (not_false _ is.0) (named_after location own before loses.3 is.1)
named_after location own (Reported other ∷ before) loses h = named_after location (record own { reported = drop 1 own.reported }) before loses.4 h
named_after location own (call ∷ before) loses h = named_after location own before loses h

-- the file that was named last is on the disk, where its folder was synced since
synced_after : (location : Location) (own : Own) (calls : List Call) → LosesNone true own calls → IsNewest location (standing calls) → IsNameSynced calls → is_durable location calls ≡ true
synced_after location own [] loses newest synced = absurd synced
synced_after location own (Synced folder ∷ before) loses newest synced =
    or_left _ _ (both _ _ (in_folder location folder before (standing before) newest synced) (named_after location own before loses (newest_has location (standing before) newest)))
synced_after location own (Reported other ∷ before) loses newest synced = synced_after location (record own { reported = drop 1 own.reported }) before loses.4 newest synced
synced_after location own (call ∷ before) loses newest synced = absurd synced

removed_stays : (location newest : Location) (locations : List Location) → IsNewest newest locations → has location locations ≡ true → is_same location newest ≡ false
    → has location (drop 1 locations) ≡ true
removed_stays location newest [] is h apart = absurd is
removed_stays location newest (other ∷ locations) is h apart =
    or_before (is_same location other) (has location locations) (has location locations ≡ true)
    (λ same. absurd (let other_is : is_same location other ≡ false = subst (λ z. is_same location z ≡ false) (sym is) apart in cc)) (λ more. more) h

same_then : (location other : Location) → is_same location other ≡ true → location ≡ other
same_then location other same = grind arith

-- A file whose commit was reported still has its name; the file that was named last and not reported since has a
-- location for which none was reported.
mutual
  reported_stand : (location : Location) (own : Own) (calls : List Call) → LosesNone true own calls → was_reported location calls ≡ true → has location (standing calls) ≡ true
  reported_stand location own [] loses h = absurd cc
  reported_stand location own (Created draft taken ∷ before) loses h = reported_stand location own before loses.1 h
  reported_stand location own (Linked draft other ∷ before) loses h = or_right (is_same location other) _ (reported_stand location own before loses.3 h)
  reported_stand location own (Renamed draft other ∷ before) loses h = or_right (is_same location other) _ (reported_stand location own before loses.4 h)
  reported_stand location own (Removed other taken ∷ before) loses h =
      let apart : is_same location other ≡ false =
      false_if _ (λ same. let none = unreported_newest other own before loses.3 loses.1 loses.0 in let is = same_then location other same in
      let reported : was_reported other before ≡ true = subst (λ z. was_reported z before ≡ true) is h in absurd cc) in
      removed_stays location other (standing before) loses.0 (reported_stand location own before loses.3 h) apart
  reported_stand location own (Reported other ∷ before) loses h =
      or_before (is_same location other) (was_reported location before) (has location (standing before) ≡ true)
      (λ same. newest_has location (standing before) (subst (λ z. IsNewest z (standing before)) (sym (same_then location other same)) loses.0))
      (λ more. reported_stand location (record own { reported = drop 1 own.reported }) before loses.4 more) h
  reported_stand location own (call ∷ before) loses h = reported_stand location own before loses h

  unreported_newest : (location : Location) (own : Own) (calls : List Call) → LosesNone true own calls → is_unreported calls ≡ true → IsNewest location (standing calls)
      → was_reported location calls ≡ false
  unreported_newest location own [] loses is newest = refl
  unreported_newest location own (Created draft taken ∷ before) loses is newest = unreported_newest location own before loses.1 is newest
  unreported_newest location own (Linked draft other ∷ before) loses is newest = subst (λ z. was_reported z before ≡ false) newest (false_if _ (λ reported. let less = before_it other other (standing before) loses.2 (reported_stand other own before loses.3 reported) in omega (arith, less)))
  unreported_newest location own (Renamed draft other ∷ before) loses is newest = subst (λ z. was_reported z before ≡ false) newest (false_if _ (λ reported. let less = before_it other other (standing before) loses.3 (reported_stand other own before loses.4 reported) in omega (arith, less)))
  unreported_newest location own (Removed other taken ∷ before) loses is newest = absurd cc
  unreported_newest location own (Reported other ∷ before) loses is newest = absurd cc
  unreported_newest location own (call ∷ before) loses is newest = unreported_newest location own before loses is newest

pub unreported_before : (location : Location) (own : Own) (calls : List Call) → LosesNone true own calls → IsAfterAll location (standing calls) → was_reported location calls ≡ false
unreported_before location own calls loses after =
    false_if _ (λ reported. let less = before_it location location (standing calls) after (reported_stand location own calls loses reported) in omega (arith, less))

-- no file whose commit was reported loses its name
pub reports_are_kept : (own : Own) (calls : List Call) → LosesNone true own calls → are_kept calls ≡ true
reports_are_kept own [] loses = refl
reports_are_kept own (Created draft taken ∷ before) loses = reports_are_kept own before loses.1
reports_are_kept own (Linked draft location ∷ before) loses = both _ _ (not_false _ (unreported_before location own before loses.3 loses.2)) (reports_are_kept own before loses.3)
reports_are_kept own (Renamed draft location ∷ before) loses = both _ _ (not_false _ (unreported_before location own before loses.4 loses.3)) (reports_are_kept own before loses.4)
reports_are_kept own (Removed location taken ∷ before) loses = both _ _ (not_false _ (unreported_newest location own before loses.3 loses.1 loses.0)) (reports_are_kept own before loses.3)
reports_are_kept own (Reported location ∷ before) loses =
    let rest : Own = record own { reported = drop 1 own.reported } in
    both _ _ (not_false _ (unreported_newest location rest before loses.4 loses.1 loses.0))
    (both _ _ (synced_after location rest before loses.4 loses.0 (loses.2 refl)) (reports_are_kept rest before loses.4))
reports_are_kept own (call ∷ before) loses = reports_are_kept own before loses

pub reports_are_own : (own : Own) (calls : List Call) → LosesNone true own calls → reports calls ≡ length own.reported
reports_are_own own [] loses = sym (ap length loses)
reports_are_own own (Created draft taken ∷ before) loses = reports_are_own own before loses.1
reports_are_own own (Linked draft location ∷ before) loses = reports_are_own own before loses.3
reports_are_own own (Renamed draft location ∷ before) loses = reports_are_own own before loses.4
reports_are_own own (Removed location taken ∷ before) loses = reports_are_own own before loses.3
reports_are_own own (Reported location ∷ before) loses =
    let rest : Own = record own { reported = drop 1 own.reported } in
    let more : length own.reported ≡ suc (length rest.reported) = ap length loses.3 in
    let older : reports before ≡ length rest.reported = reports_are_own rest before loses.4 in omega (arith, more, older)
reports_are_own own (call ∷ before) loses = reports_are_own own before loses

durable_then : (has_sync : Bool) (own : Own) (calls : List Call) (files : ℕ) → LosesNone has_sync own calls → files ≡ length own.reported + 0
    → (not has_sync || (are_kept calls && nat_eq (reports calls) files)) ≡ true
durable_then false own calls files loses is = refl
durable_then true own calls files loses is =
    both _ _ (reports_are_kept own calls loses) (eq-eqb _ _ (reports_are_own own calls loses ∙ (let same : length own.reported ≡ files = omega (arith, is) in same)))

-- A filing waits where its last commit does.
pub waits_as : (files : ℕ) (pending : Pending) (names : Naming) → ∥ IsOrderly names ∥₁ → AreReported files pending names
    → (is_waiting pending || not (are_durable files names)) ≡ is_waiting pending
waits_as files Settled names orderly reported =
    ap not (∥∥₁_elim orderly (Coded-set coded_bool _ _) (λ o. durable_then names.has_sync names.own names.calls files o.loses reported))
waits_as files Unnamed names orderly reported = refl
waits_as files (Named location) names orderly reported = refl
waits_as files Lost names orderly reported = refl
