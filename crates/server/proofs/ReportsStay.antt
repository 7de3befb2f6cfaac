-- Where no loss of power may take a file whose commit was reported, its location leads to the same file at each later
-- point (`same_file`), which so survives from its report on (`survives_since`); each number of a report has one
-- (`report_at`). Stands on the definitions alone.
use Rattle.std.proofs.Common.{◌≡◌, ◌∙◌, ◌⊎◌, inl, inr, ◌<◌, ◌||◌, nat_eq, if◌then◌else◌, ℕ, Bool, true, false, List, [], ◌∷◌, ◌++◌, Option, Some, None, refl, sym, ap, subst, arith, eq-eqb, append_assoc, eq-or-lt_of_le}
use Rattle.folder_filing.specs.Crashes.{Disk, HasFile, Leads, MayLead, MayLeave, SurvivesPowerLoss, Whether, file_at}
use Rattle.folder_filing.specs.Folders.{is_covered_by, is_same}
use Rattle.folder_filing.specs.Synced.{file_of, reports, was_reported}
use Rattle.folder_filing.specs.declared.call.Call.{Call}
use Rattle.folder_filing.specs.declared.call.Call.TheVariants.{Created, Written, Linked, SeenFree, Renamed, Removed, Entered, Synced, Reported, Refused, Replaced}
use Rattle.folder_filing.specs.declared.location.Location.{Location}
use Rattle.server.specs.PowerLoss.{IsReportAfter, SurvivesSince}

-- ---- a disk that a loss of power may leave: the one that there is

-- where the name of a location leads while nothing is lost; before all calls to no file
abbrev now_at : Location → List Call → Option ℕ
now_at location [] = None
now_at location (Linked draft other ∷ before) = if is_same location other then Some (file_of draft before) else now_at location before
now_at location (Renamed draft other ∷ before) = if is_same location other then Some (file_of draft before) else now_at location before
now_at location (Removed other taken ∷ before) = if is_same location other then None else now_at location before
now_at location (call ∷ before) = now_at location before

whether : (b : Bool) (A C : Type 0) → A → C → Whether b A C
whether true A C a c = a
whether false A C a c = c

chosen : (same : Bool) (x y : Option ℕ) (P : Option ℕ → Type 0) → P y → Whether same ((if same then x else y) ≡ x) (P (if same then x else y))
chosen true x y P p = refl
chosen false x y P p = p

either : (same : Bool) (x y : Option ℕ) (P : Option ℕ → Type 0) → P y → ((same ≡ true) × ((if same then x else y) ≡ x)) ⊎ P (if same then x else y)
either true x y P p = inl (refl, refl)
either false x y P p = inr p

leads_now : (location : Location) (calls : List Call) → Leads location (now_at location calls) calls
leads_now location [] = tt
leads_now location (Created draft mine ∷ before) = leads_now location before
leads_now location (Written ∷ before) = leads_now location before
leads_now location (Linked draft other ∷ before) = chosen (is_same location other) (Some (file_of draft before)) (now_at location before) (λ found. Leads location found before) (leads_now location before)
leads_now location (SeenFree other ∷ before) = leads_now location before
leads_now location (Renamed draft other ∷ before) = chosen (is_same location other) (Some (file_of draft before)) (now_at location before) (λ found. Leads location found before) (leads_now location before)
leads_now location (Removed other taken ∷ before) = chosen (is_same location other) None (now_at location before) (λ found. Leads location found before) (leads_now location before)
leads_now location (Entered other folder ∷ before) = leads_now location before
leads_now location (Synced folder ∷ before) = leads_now location before
leads_now location (Reported other ∷ before) = leads_now location before
leads_now location (Refused ∷ before) = leads_now location before
leads_now location (Replaced ∷ before) = leads_now location before

may_lead_now : (location : Location) (calls : List Call) → MayLead location (now_at location calls) calls
may_lead_now location [] = tt
may_lead_now location (Created draft mine ∷ before) = may_lead_now location before
may_lead_now location (Written ∷ before) = may_lead_now location before
may_lead_now location (Linked draft other ∷ before) = either (is_same location other) (Some (file_of draft before)) (now_at location before) (λ found. MayLead location found before) (may_lead_now location before)
may_lead_now location (SeenFree other ∷ before) = may_lead_now location before
may_lead_now location (Renamed draft other ∷ before) = either (is_same location other) (Some (file_of draft before)) (now_at location before) (λ found. MayLead location found before) (may_lead_now location before)
may_lead_now location (Removed other taken ∷ before) = either (is_same location other) None (now_at location before) (λ found. MayLead location found before) (may_lead_now location before)
may_lead_now location (Entered other folder ∷ before) = may_lead_now location before
may_lead_now location (Synced folder ∷ before) = whether (is_covered_by location folder before) _ _ (leads_now location before) (may_lead_now location before)
may_lead_now location (Reported other ∷ before) = may_lead_now location before
may_lead_now location (Refused ∷ before) = may_lead_now location before
may_lead_now location (Replaced ∷ before) = may_lead_now location before

-- no file has bytes: which ones it has does not matter
abbrev disk_now : List Call → Disk
disk_now calls = record { names = λ location. now_at location calls; bytes = λ file. [] }

abbrev no_bytes : ℕ → List ℕ
no_bytes file = []

-- ---- one file

one_of : (found : Option ℕ) (x y : ℕ) → found ≡ Some x → found ≡ Some y → x ≡ y
one_of found x y is other = cc

-- where the disk before a call may remain after it, a reported file is the same
same_after : (location : Location) (call : Call) (before : List Call) → SurvivesPowerLoss (call ∷ before)
    → MayLeave no_bytes before (disk_now before) → MayLeave no_bytes (call ∷ before) (disk_now before)
    → was_reported location before ≡ true → was_reported location (call ∷ before) ≡ true → file_at location (call ∷ before) ≡ file_at location before
same_after location call before survives may after reported still =
    one_of (now_at location before) _ _ (survives [] (call ∷ before) refl no_bytes (disk_now before) after location still).0
    (survives (call ∷ []) before refl no_bytes (disk_now before) may location reported).0

left_now : (calls : List Call) → MayLeave no_bytes calls (disk_now calls)
left_now calls = record { names = λ location. may_lead_now location calls; bytes = λ file whole. refl }

same_linked : (location : Location) (draft : ℕ) (other : Location) (before : List Call) → SurvivesPowerLoss (Linked draft other ∷ before) → was_reported location before ≡ true
    → file_at location (Linked draft other ∷ before) ≡ file_at location before
same_linked location draft other before survives reported =
    same_after location (Linked draft other) before survives (left_now before) (record { names = λ l. inr (may_lead_now l before); bytes = λ file whole. refl }) reported reported

same_renamed : (location : Location) (draft : ℕ) (other : Location) (before : List Call) → SurvivesPowerLoss (Renamed draft other ∷ before) → was_reported location before ≡ true
    → file_at location (Renamed draft other ∷ before) ≡ file_at location before
same_renamed location draft other before survives reported =
    same_after location (Renamed draft other) before survives (left_now before) (record { names = λ l. inr (may_lead_now l before); bytes = λ file whole. refl }) reported reported

or_right : (x y : Bool) → y ≡ true → (x || y) ≡ true
or_right true y h = refl
or_right false y h = h

reported_later : (location : Location) (later before : List Call) → was_reported location before ≡ true → was_reported location (later ++ before) ≡ true
reported_later location [] before h = h
reported_later location (Created draft mine ∷ later) before h = reported_later location later before h
reported_later location (Written ∷ later) before h = reported_later location later before h
reported_later location (Linked draft other ∷ later) before h = reported_later location later before h
reported_later location (SeenFree other ∷ later) before h = reported_later location later before h
reported_later location (Renamed draft other ∷ later) before h = reported_later location later before h
reported_later location (Removed other taken ∷ later) before h = reported_later location later before h
reported_later location (Entered other folder ∷ later) before h = reported_later location later before h
reported_later location (Synced folder ∷ later) before h = reported_later location later before h
reported_later location (Reported other ∷ later) before h = or_right _ _ (reported_later location later before h)
reported_later location (Refused ∷ later) before h = reported_later location later before h
reported_later location (Replaced ∷ later) before h = reported_later location later before h

-- what survives at each point of calls survives at each point of the first ones
survives_before : (later before : List Call) → SurvivesPowerLoss (later ++ before) → SurvivesPowerLoss before
survives_before later before survives = λ more first is. survives (later ++ more) first (ap (λ calls. later ++ calls) is ∙ sym (append_assoc later more first))

same_file : (location : Location) (later before : List Call) → SurvivesPowerLoss (later ++ before) → was_reported location before ≡ true
    → file_at location (later ++ before) ≡ file_at location before
same_file location [] before survives h = refl
same_file location (Created draft mine ∷ later) before survives h = same_file location later before (survives_before (Created draft mine ∷ []) (later ++ before) survives) h
same_file location (Written ∷ later) before survives h = same_file location later before (survives_before (Written ∷ []) (later ++ before) survives) h
same_file location (Linked draft other ∷ later) before survives h =
    same_linked location draft other (later ++ before) survives (reported_later location later before h)
    ∙ same_file location later before (survives_before (Linked draft other ∷ []) (later ++ before) survives) h
same_file location (SeenFree other ∷ later) before survives h = same_file location later before (survives_before (SeenFree other ∷ []) (later ++ before) survives) h
same_file location (Renamed draft other ∷ later) before survives h =
    same_renamed location draft other (later ++ before) survives (reported_later location later before h)
    ∙ same_file location later before (survives_before (Renamed draft other ∷ []) (later ++ before) survives) h
same_file location (Removed other taken ∷ later) before survives h = same_file location later before (survives_before (Removed other taken ∷ []) (later ++ before) survives) h
same_file location (Entered other folder ∷ later) before survives h = same_file location later before (survives_before (Entered other folder ∷ []) (later ++ before) survives) h
same_file location (Synced folder ∷ later) before survives h = same_file location later before (survives_before (Synced folder ∷ []) (later ++ before) survives) h
same_file location (Reported other ∷ later) before survives h = same_file location later before (survives_before (Reported other ∷ []) (later ++ before) survives) h
same_file location (Refused ∷ later) before survives h = same_file location later before (survives_before (Refused ∷ []) (later ++ before) survives) h
same_file location (Replaced ∷ later) before survives h = same_file location later before (survives_before (Replaced ∷ []) (later ++ before) survives) h

pub survives_since : (first calls : List Call) (location : Location) → SurvivesPowerLoss calls → was_reported location first ≡ true → SurvivesSince first calls location (file_at location first)
survives_since first calls location survives reported = λ later since is written disk may.
    let at_then : SurvivesPowerLoss (since ++ first) = survives_before later (since ++ first) (subst SurvivesPowerLoss is survives) in
    let has = survives later (since ++ first) is written disk may location (reported_later location since first reported) in
    subst (HasFile written disk location) (same_file location since first at_then reported) has

-- ---- the report of a number

same_number : (n : ℕ) → nat_eq n n ≡ true
same_number n = eq-eqb n n refl

pub just_reported : (location : Location) (before : List Call) → was_reported location (Reported location ∷ before) ≡ true
just_reported location before = rw (same_number location.folder, same_number location.file) refl

one_more : (call : Call) (count : ℕ) (calls : List Call) → (location : Location) × IsReportAfter count location calls → (location : Location) × IsReportAfter count location (call ∷ calls)
one_more call count calls (location, report) =
    (location, record { later = call ∷ report.later; before = report.before; calls_are = ap (λ all. call ∷ all) report.calls_are; count_is = report.count_is })

this_or_before : (location : Location) (count : ℕ) (before : List Call) → (count ≡ reports before) ⊎ (count < reports before)
    → (count < reports before → (found : Location) × IsReportAfter count found before) → (found : Location) × IsReportAfter count found (Reported location ∷ before)
this_or_before location count before (inl is) older = (location, record { later = []; before = before; calls_are = refl; count_is = sym is })
this_or_before location count before (inr less) older = one_more (Reported location) count before (older less)

pub report_at : (count : ℕ) (calls : List Call) → count < reports calls → (location : Location) × IsReportAfter count location calls
report_at count [] less = absurd (omega (arith, less))
report_at count (Created draft mine ∷ before) less = one_more (Created draft mine) count before (report_at count before less)
report_at count (Written ∷ before) less = one_more Written count before (report_at count before less)
report_at count (Linked draft other ∷ before) less = one_more (Linked draft other) count before (report_at count before less)
report_at count (SeenFree other ∷ before) less = one_more (SeenFree other) count before (report_at count before less)
report_at count (Renamed draft other ∷ before) less = one_more (Renamed draft other) count before (report_at count before less)
report_at count (Removed other taken ∷ before) less = one_more (Removed other taken) count before (report_at count before less)
report_at count (Entered other folder ∷ before) less = one_more (Entered other folder) count before (report_at count before less)
report_at count (Synced folder ∷ before) less = one_more (Synced folder) count before (report_at count before less)
report_at count (Reported other ∷ before) less = this_or_before other count before (eq-or-lt_of_le (omega (arith, less))) (λ fewer. report_at count before fewer)
report_at count (Refused ∷ before) less = one_more Refused count before (report_at count before less)
report_at count (Replaced ∷ before) less = one_more Replaced count before (report_at count before less)
