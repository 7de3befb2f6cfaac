-- A file whose commit was reported survives a loss of power: where a name is on the disk, each loss of power leaves it, with
-- all bytes of its file (`durable_survives`), and reported files stay on the disk (`kept_survives`). Stands on
-- ReportsAreDurable.
use Rattle.std.proofs.Common.{◌≡◌, ◌⊎◌, inl, inr, ◌||◌, ◌&&◌, not, nat_eq, if◌then◌else◌, ℕ, Bool, true, false, List, [], ◌∷◌, ◌++◌, Option, Some, None, refl, sym, ap, subst, arith, eq-eqb, length}
use Rattle.folder_filing.specs.declared.call.Call.{Call}
use Rattle.folder_filing.specs.declared.call.Call.TheVariants.{Created, Written, Linked, Renamed, Removed, Entered, Synced, Reported}
use Rattle.folder_filing.specs.declared.folder_identity.NumberedFolder.{NumberedFolder}
use Rattle.folder_filing.specs.declared.location.Location.{Location}
use Rattle.folder_filing.specs.Crashes.{Disk, HasFile, Leads, MayLead, MayLeave, SurvivesPowerLoss, Whether, file_at, is_whole}
use Rattle.folder_filing.specs.Examples.{WorkedCrashes, first_inside, flat, identity_of, linked_inside, mine, numbered}
use Rattle.folder_filing.specs.Naming.{IsOrderly, LosesNone, Naming, is_written, was_written}
use Rattle.folder_filing.specs.Settling.{is_unsettled, is_waiting}
use Rattle.folder_filing.specs.States.{FolderState}
use Rattle.folder_filing.specs.Folders.{is_covered_by, is_same}
use Rattle.folder_filing.specs.Synced.{are_kept, created, file_of, is_complete, is_durable, reports, was_named, was_reported}
use Rattle.folder_filing.proofs.ReportsAreDurable.{or_left, or_right, reports_are_kept}

first_of : (x y : Bool) → (x && y) ≡ true → x ≡ true
first_of true y h = refl
first_of false y h = absurd cc

second_of : (x y : Bool) → (x && y) ≡ true → y ≡ true
second_of true y h = h
second_of false y h = absurd cc

eqb_is : (x y : ℕ) → nat_eq x y ≡ true → x ≡ y
eqb_is x y h = grind arith

-- a draft that was synced is whole
mutual
  written_whole : (calls : List Call) → is_written calls ≡ true → is_whole (created calls) calls ≡ true
  written_whole [] h = absurd cc
  written_whole (Created draft taken ∷ before) h = absurd cc
  written_whole (Written ∷ before) h = or_left _ _ (eq-eqb (created before) (created before) refl)
  written_whole (Linked draft location ∷ before) h = absurd cc
  written_whole (Renamed draft location ∷ before) h = absurd cc
  written_whole (Removed location taken ∷ before) h = was_whole before h
  written_whole (call ∷ before) h = written_whole before h

  was_whole : (calls : List Call) → was_written calls ≡ true → is_whole (created calls) calls ≡ true
  was_whole [] h = absurd cc
  was_whole (Linked draft location ∷ before) h = written_whole before h
  was_whole (call ∷ before) h = absurd cc

complete_whole : (draft : ℕ) (calls : List Call) → is_complete draft calls ≡ true → is_whole (file_of draft calls) calls ≡ true
complete_whole draft calls h =
    subst (λ z. is_whole z calls ≡ true) (sym (eqb_is (file_of draft calls) (created calls) (second_of _ _ h))) (written_whole calls (first_of _ _ h))

-- the name leads to this file, which is whole
abbrev pub LeadsTo : (ℕ → Bool) → Option ℕ → ℕ → Type 0
LeadsTo whole found file = (found ≡ Some file) × (whole file ≡ true)

named_one : (same complete named : Bool) (whole : ℕ → Bool) (found : Option ℕ) (one older : ℕ) (Older : Type 0) → (complete ≡ true → whole one ≡ true)
    → (named ≡ true → Older → LeadsTo whole found older) → (if same then complete else named) ≡ true → Whether same (found ≡ Some one) Older
    → LeadsTo whole found (if same then one else older)
named_one true complete named whole found one older Older new old h leads = (leads, new h)
named_one false complete named whole found one older Older new old h leads = old h leads

pub removed_one : (same named : Bool) (A Older P : Type 0) → (named ≡ true → Older → P) → (not same && named) ≡ true → Whether same A Older → P
removed_one true named A Older P old h leads = absurd cc
removed_one false named A Older P old h leads = old h leads

-- a name that was given after the bytes were synced leads to a whole file
named_leads : (location : Location) (found : Option ℕ) (calls : List Call) → was_named location calls ≡ true → Leads location found calls
    → LeadsTo (λ file. is_whole file calls) found (file_at location calls)
named_leads location found [] h leads = absurd cc
named_leads location found (Written ∷ before) h leads =
    let is = named_leads location found before h leads in (is.0, or_right _ _ is.1)
named_leads location found (Linked draft other ∷ before) h leads =
    named_one (is_same location other) _ _ (λ file. is_whole file before) found (file_of draft before) (file_at location before) _ (complete_whole draft before) (named_leads location found before) h leads
named_leads location found (Renamed draft other ∷ before) h leads =
    named_one (is_same location other) _ _ (λ file. is_whole file before) found (file_of draft before) (file_at location before) _ (complete_whole draft before) (named_leads location found before) h leads
named_leads location found (Removed other taken ∷ before) h leads =
    removed_one (is_same location other) _ _ _ _ (named_leads location found before) h leads
named_leads location found (call ∷ before) h leads = named_leads location found before h leads

not_same : (same durable complete named : Bool) → (durable ≡ true → named ≡ true) → (not same && durable) ≡ true → (if same then complete else named) ≡ true
not_same true durable complete named after h = absurd cc
not_same false durable complete named after h = after h

still : (same durable named : Bool) → (durable ≡ true → named ≡ true) → (not same && durable) ≡ true → (not same && named) ≡ true
still true durable named after h = absurd cc
still false durable named after h = after h

one_of : (folder named durable : Bool) → (durable ≡ true → named ≡ true) → ((folder && named) || durable) ≡ true → named ≡ true
one_of folder true durable after h = refl
one_of true false durable after h = after h
one_of false false durable after h = after h

durable_named : (location : Location) (calls : List Call) → is_durable location calls ≡ true → was_named location calls ≡ true
durable_named location [] h = absurd cc
durable_named location (Linked draft other ∷ before) h = not_same (is_same location other) _ _ _ (durable_named location before) h
durable_named location (Renamed draft other ∷ before) h = not_same (is_same location other) _ _ _ (durable_named location before) h
durable_named location (Removed other taken ∷ before) h = still (is_same location other) _ _ (durable_named location before) h
durable_named location (Synced folder ∷ before) h = one_of (is_covered_by location folder before) _ _ (durable_named location before) h
durable_named location (call ∷ before) h = durable_named location before h

other_one : (same durable : Bool) (whole : ℕ → Bool) (found : Option ℕ) (one older : ℕ) (A May : Type 0) → (durable ≡ true → May → LeadsTo whole found older)
    → (not same && durable) ≡ true → ((same ≡ true) × A) ⊎ May → LeadsTo whole found (if same then one else older)
other_one true durable whole found one older A May old h may = absurd cc
other_one false durable whole found one older A May old h (inl is) = absurd (let same = is.0 in cc)
other_one false durable whole found one older A May old h (inr may) = old h may

pub not_removed : (same durable : Bool) (A May P : Type 0) → (durable ≡ true → May → P) → (not same && durable) ≡ true → ((same ≡ true) × A) ⊎ May → P
not_removed true durable A May P old h may = absurd cc
not_removed false durable A May P old h (inl is) = absurd (let same = is.0 in cc)
not_removed false durable A May P old h (inr may) = old h may

synced_one : (folder named durable : Bool) (Now May P : Type 0) → (named ≡ true → Now → P) → (durable ≡ true → named ≡ true) → (durable ≡ true → May → P)
    → ((folder && named) || durable) ≡ true → Whether folder Now May → P
synced_one true named durable Now May P now is older h may = now (one_of true named durable is h) may
synced_one false named durable Now May P now is older h may = older h may

-- where a file is on the disk, each loss of power leaves its name, and the file is whole
pub durable_leads : (location : Location) (found : Option ℕ) (calls : List Call) → is_durable location calls ≡ true → MayLead location found calls
    → LeadsTo (λ file. is_whole file calls) found (file_at location calls)
durable_leads location found [] h may = absurd cc
durable_leads location found (Written ∷ before) h may =
    let is = durable_leads location found before h may in (is.0, or_right _ _ is.1)
durable_leads location found (Linked draft other ∷ before) h may =
    other_one (is_same location other) _ (λ file. is_whole file before) found (file_of draft before) (file_at location before) _ _ (durable_leads location found before) h may
durable_leads location found (Renamed draft other ∷ before) h may =
    other_one (is_same location other) _ (λ file. is_whole file before) found (file_of draft before) (file_at location before) _ _ (durable_leads location found before) h may
durable_leads location found (Removed other taken ∷ before) h may =
    not_removed (is_same location other) _ _ _ _ (durable_leads location found before) h may
durable_leads location found (Synced folder ∷ before) h may =
    synced_one (is_covered_by location folder before) _ _ _ _ _ (named_leads location found before) (durable_named location before) (durable_leads location found before) h may
durable_leads location found (call ∷ before) h may = durable_leads location found before h may

pub durable_survives : (written : ℕ → List ℕ) (disk : Disk) (calls : List Call) (location : Location) → MayLeave written calls disk → is_durable location calls ≡ true
    → HasFile written disk location (file_at location calls)
durable_survives written disk calls location may h =
    let is = durable_leads location (disk.names location) calls h (may.names location) in (is.0, may.bytes _ is.1)

-- a location that is not one of which a commit was reported is another one
apart : (same reported durable older : Bool) → (same ≡ true → older ≡ reported) → older ≡ true → (durable ≡ true) → not reported ≡ true → (not same && durable) ≡ true
apart true true durable older is h kept none = absurd cc
apart true false durable older is h kept none = absurd (let same = is refl in cc)
apart false reported durable older is h kept none = kept

same_reported : (location other : Location) (calls : List Call) → is_same location other ≡ true → was_reported location calls ≡ was_reported other calls
same_reported location other calls same = let is : location ≡ other = grind arith in ap (λ z. was_reported z calls) is

same_durable : (location other : Location) (calls : List Call) → is_same location other ≡ true → is_durable other calls ≡ true → is_durable location calls ≡ true
same_durable location other calls same h = let is : location ≡ other = grind arith in subst (λ z. is_durable z calls ≡ true) (sym is) h

or_then : (x y w : Bool) → (x ≡ true → w ≡ true) → (y ≡ true → w ≡ true) → (x || y) ≡ true → w ≡ true
or_then true y w first second h = first refl
or_then false y w first second h = second h

-- a file whose commit was reported is on the disk
pub kept_durable : (location : Location) (calls : List Call) → are_kept calls ≡ true → was_reported location calls ≡ true → is_durable location calls ≡ true
kept_durable location [] kept h = absurd cc
kept_durable location (Linked draft other ∷ before) kept h =
    apart (is_same location other) _ _ _ (same_reported location other before) h (kept_durable location before (second_of _ _ kept) h) (first_of _ _ kept)
kept_durable location (Renamed draft other ∷ before) kept h =
    apart (is_same location other) _ _ _ (same_reported location other before) h (kept_durable location before (second_of _ _ kept) h) (first_of _ _ kept)
kept_durable location (Removed other taken ∷ before) kept h =
    apart (is_same location other) _ _ _ (same_reported location other before) h (kept_durable location before (second_of _ _ kept) h) (first_of _ _ kept)
kept_durable location (Synced folder ∷ before) kept h = or_right _ _ (kept_durable location before kept h)
kept_durable location (Reported other ∷ before) kept h =
    let once = second_of _ _ kept in
    or_then (is_same location other) (was_reported location before) _ (λ same. same_durable location other before same (first_of _ _ once))
    (kept_durable location before (second_of _ _ once)) h
kept_durable location (call ∷ before) kept h = kept_durable location before kept h

pub kept_before : (later before : List Call) → are_kept (later ++ before) ≡ true → are_kept before ≡ true
kept_before [] before kept = kept
kept_before (Linked draft other ∷ later) before kept = kept_before later before (second_of _ _ kept)
kept_before (Renamed draft other ∷ later) before kept = kept_before later before (second_of _ _ kept)
kept_before (Removed other taken ∷ later) before kept = kept_before later before (second_of _ _ kept)
kept_before (Reported other ∷ later) before kept = kept_before later before (second_of _ _ (second_of _ _ kept))
kept_before (call ∷ later) before kept = kept_before later before kept

pub kept_survives : (calls : List Call) → are_kept calls ≡ true → SurvivesPowerLoss calls
kept_survives calls kept = λ later before is written disk may location reported.
    let kept_then : are_kept before ≡ true = kept_before later before (subst (λ z. are_kept z ≡ true) is kept) in
    durable_survives written disk before location may (kept_durable location before kept_then reported)

pub orderly_survives : (names : Naming) → IsOrderly names → names.has_sync ≡ true → SurvivesPowerLoss names.calls
orderly_survives names orderly has_sync = kept_survives names.calls (reports_are_kept names.own names.calls (subst (λ z. LosesNone z names.own names.calls) has_sync orderly.loses))

settled_is : (waiting has_sync kept all : Bool) → (waiting || not (not has_sync || (kept && all))) ≡ false → has_sync ≡ true → (kept ≡ true) × (all ≡ true)
settled_is true has_sync kept all h is = absurd cc
settled_is false true true true h is = (refl, refl)
settled_is false true true false h is = absurd cc
settled_is false true false all h is = absurd cc
settled_is false false kept all h is = absurd cc

pub settled_survives : (filing : FolderState) → is_unsettled filing ≡ false → filing.names.has_sync ≡ true
    → SurvivesPowerLoss filing.names.calls × (reports filing.names.calls ≡ length filing.contents.files)
settled_survives filing settled has_sync =
    let is = settled_is (is_waiting filing.pending) filing.names.has_sync (are_kept filing.names.calls) (nat_eq (reports filing.names.calls) (length filing.contents.files)) settled has_sync in
    (kept_survives filing.names.calls is.0, eqb_is _ _ is.1)

pub whether : (b : Bool) (A C : Type 0) → A → C → Whether b A C
whether true A C a c = a
whether false A C a c = c

gone_after : (same folder : Bool) (A B C : Type 0) → A → C → ((same ≡ true) × A) ⊎ Whether folder (Whether same B C) (((same ≡ true) × B) ⊎ C)
gone_after true folder A B C a c = inl (refl, a)
gone_after false folder A B C a c = inr (whether folder _ _ c (inr c))

not_covered : (b : Bool) (A C : Type 0) → (b ≡ true → ⊥) → C → Whether b A C
not_covered true A C never c = absurd (never refl)
not_covered false A C never c = c

-- a sync that does not cover a name leaves it what it may have been
uncovered : (location : Location) (found : Option ℕ) (folder : NumberedFolder) (before : List Call) → (is_covered_by location folder before ≡ true → ⊥) → MayLead location found before
    → MayLead location found (Synced folder ∷ before)
uncovered location found folder before never may =
    not_covered (is_covered_by location folder before) (Leads location found before) (MayLead location found before) never may

not_inside : (x y : Bool) → (x && (y && false)) ≡ true → ⊥
not_inside true true h = absurd cc
not_inside true false h = absurd cc
not_inside false y h = absurd cc

not_remade : (x y z : Bool) → (x && ((y && false) || (z && false))) ≡ true → ⊥
not_remade true true true h = absurd cc
not_remade true true false h = absurd cc
not_remade true false true h = absurd cc
not_remade true false false h = absurd cc
not_remade false y z h = absurd cc

-- a file that was not found in the subfolder that was synced may be lost
lost_outside : (location other : Location) → MayLead location None (Synced (numbered 1 8) ∷ Linked 1 other ∷ Written ∷ Created 1 mine ∷ [])
lost_outside location other =
    uncovered location None (numbered 1 8) (Linked 1 other ∷ Written ∷ Created 1 mine ∷ []) (λ covered. not_inside (nat_eq 1 location.folder) (not (is_same location other)) covered) (inr tt)

lost_remade : (location : Location) → MayLead location None (Synced (numbered 1 8) ∷ Entered first_inside (identity_of 9) ∷ linked_inside)
lost_remade location =
    uncovered location None (numbered 1 8) (Entered first_inside (identity_of 9) ∷ linked_inside)
    (λ covered. not_remade (nat_eq 1 location.folder) (is_same location first_inside) (not (is_same location first_inside)) covered) (inr tt)

pub worked_crashes : WorkedCrashes
worked_crashes =
    record {
      gone = record { names = λ location. inr tt; bytes = λ file whole. refl };
      early = record { names = λ location. inr (whether _ _ _ tt tt); bytes = λ file whole. refl };
      elsewhere = record { names = λ location. lost_outside location (flat 1); bytes = λ file whole. refl };
      wrong = record { names = λ location. whether _ _ _ (whether _ _ _ refl tt) (inr tt); bytes = λ file whole. absurd cc };
      removed = record { names = λ location. gone_after _ _ _ _ _ refl tt; bytes = λ file whole. refl };
      back = record { names = λ location. inr (whether _ _ _ (whether _ _ _ refl tt) (inr tt)); bytes = λ file whole. refl };
      remains = λ may. absurd (let none = may.names (flat 1) in cc);
      whole = λ may. absurd (let same = may.bytes 1 refl in cc);
      outside = record { names = λ location. lost_outside location first_inside; bytes = λ file whole. refl };
      remade = record { names = λ location. lost_remade location; bytes = λ file whole. refl };
      inside = λ may. absurd (let none = may.names first_inside in cc);
      reported = λ loses. absurd (let same = loses.1 in cc);
      again = λ loses. absurd (let less = loses.2.0 in omega (arith, less));
    }
