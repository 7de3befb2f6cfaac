-- The files of a filing survive a loss of power also where its folder has other filings, which leave their locations alone
-- (`survives_among`). Stands on ReportsAreDurable, ReportsSurvive.
use Rattle.std.proofs.Common.{◌≡◌, ◌∙◌, ◌⊎◌, inl, inr, ℕ, Bool, true, false, List, [], ◌∷◌, ◌++◌, Option, refl, ap, subst}
use Rattle.folder_filing.specs.declared.call.Call.{Call}
use Rattle.folder_filing.specs.declared.call.Call.TheVariants.{Linked, Renamed, Removed, Synced}
use Rattle.folder_filing.specs.declared.location.Location.{Location}
use Rattle.folder_filing.specs.Crashes.{Leads, MayLead, Whether}
use Rattle.folder_filing.specs.Naming.{IsOrderly, LosesNone, Naming}
use Rattle.folder_filing.specs.Sharing.{LeadsAmong, MayLeadAmong, Step, Own, Other, SurvivesAmong, is_left_alone, own_calls}
use Rattle.folder_filing.specs.Folders.{is_covered_by, is_same}
use Rattle.folder_filing.specs.Synced.{are_kept}
use Rattle.folder_filing.proofs.ReportsAreDurable.{reports_are_kept}
use Rattle.folder_filing.proofs.ReportsSurvive.{durable_leads, kept_before, kept_durable, not_removed, removed_one, whether}

same_first : (b : Bool) (A B C : Type 0) → (B → C) → Whether b A B → Whether b A C
same_first true A B C f w = w
same_first false A B C f w = f w

in_each : (b : Bool) (A B C D : Type 0) → (A → B) → (C → D) → Whether b A C → Whether b B D
in_each true A B C D f g w = f w
in_each false A B C D f g w = g w

in_either : (b : Bool) (A B C : Type 0) → (A → C) → (B → C) → Whether b A B → C
in_either true A B C f g w = f w
in_either false A B C f g w = g w

first_or : (b : Bool) (A B C : Type 0) → (B → C) → Whether b A B → ((b ≡ true) × A) ⊎ C
first_or true A B C f w = inl (refl, w)
first_or false A B C f w = inr (f w)

second_or : (A B C : Type 0) → (B → C) → A ⊎ B → A ⊎ C
second_or A B C f (inl a) = inl a
second_or A B C f (inr b) = inr (f b)

-- nothing may be lost
leads_may : (location : Location) (found : Option ℕ) (calls : List Call) → Leads location found calls → MayLead location found calls
leads_may location found [] leads = tt
leads_may location found (Linked draft other ∷ before) leads = first_or (is_same location other) _ _ _ (leads_may location found before) leads
leads_may location found (Renamed draft other ∷ before) leads = first_or (is_same location other) _ _ _ (leads_may location found before) leads
leads_may location found (Removed other taken ∷ before) leads = first_or (is_same location other) _ _ _ (leads_may location found before) leads
leads_may location found (Synced folder ∷ before) leads = whether (is_covered_by location folder before) _ _ leads (leads_may location found before leads)
leads_may location found (call ∷ before) leads = leads_may location found before leads

leads_own : (location : Location) (found : Option ℕ) (steps : List Step) → is_left_alone location steps ≡ true → LeadsAmong location found steps → Leads location found (own_calls steps)
leads_own location found [] alone leads = tt
leads_own location found (Own (Linked draft other) ∷ before) alone leads = same_first (is_same location other) _ _ _ (leads_own location found before alone) leads
leads_own location found (Own (Renamed draft other) ∷ before) alone leads = same_first (is_same location other) _ _ _ (leads_own location found before alone) leads
leads_own location found (Own (Removed other taken) ∷ before) alone leads = same_first (is_same location other) _ _ _ (leads_own location found before alone) leads
leads_own location found (Own call ∷ before) alone leads = leads_own location found before alone leads
leads_own location found (Other (Linked draft other) ∷ before) alone leads = removed_one (is_same location other) _ _ _ _ (leads_own location found before) alone leads
leads_own location found (Other (Renamed draft other) ∷ before) alone leads = removed_one (is_same location other) _ _ _ _ (leads_own location found before) alone leads
leads_own location found (Other (Removed other taken) ∷ before) alone leads = removed_one (is_same location other) _ _ _ _ (leads_own location found before) alone leads
leads_own location found (Other call ∷ before) alone leads = leads_own location found before alone leads

may_own : (location : Location) (found : Option ℕ) (steps : List Step) → is_left_alone location steps ≡ true → MayLeadAmong location found steps → MayLead location found (own_calls steps)
may_own location found [] alone may = tt
may_own location found (Own (Linked draft other) ∷ before) alone may = second_or _ _ _ (may_own location found before alone) may
may_own location found (Own (Renamed draft other) ∷ before) alone may = second_or _ _ _ (may_own location found before alone) may
may_own location found (Own (Removed other taken) ∷ before) alone may = second_or _ _ _ (may_own location found before alone) may
may_own location found (Own (Synced folder) ∷ before) alone may =
    in_each (is_covered_by location folder (own_calls before)) _ _ _ _ (leads_own location found before alone) (may_own location found before alone) may
may_own location found (Own call ∷ before) alone may = may_own location found before alone may
may_own location found (Other (Linked draft other) ∷ before) alone may = not_removed (is_same location other) _ _ _ _ (may_own location found before) alone may
may_own location found (Other (Renamed draft other) ∷ before) alone may = not_removed (is_same location other) _ _ _ _ (may_own location found before) alone may
may_own location found (Other (Removed other taken) ∷ before) alone may = not_removed (is_same location other) _ _ _ _ (may_own location found before) alone may
may_own location found (Other (Synced folder) ∷ before) alone may =
    in_either (is_covered_by location folder (own_calls before)) _ _ _ (λ leads. leads_may location found (own_calls before) (leads_own location found before alone leads)) (may_own location found before alone) may
may_own location found (Other call ∷ before) alone may = may_own location found before alone may

own_append : (later before : List Step) → own_calls (later ++ before) ≡ own_calls later ++ own_calls before
own_append [] before = refl
own_append (Own call ∷ later) before = ap (λ z. call ∷ z) (own_append later before)
own_append (Other call ∷ later) before = own_append later before

pub survives_among : (naming : Naming) (steps : List Step) → IsOrderly naming → naming.has_sync ≡ true → naming.calls ≡ own_calls steps → SurvivesAmong steps
survives_among naming steps orderly has_sync own = λ later before is written disk may location reported alone.
    let kept : are_kept naming.calls ≡ true = reports_are_kept naming.own naming.calls (subst (λ z. LosesNone z naming.own naming.calls) has_sync orderly.loses) in
    let cut : naming.calls ≡ own_calls later ++ own_calls before = own ∙ ap own_calls is ∙ own_append later before in
    let kept_then : are_kept (own_calls before) ≡ true = kept_before (own_calls later) (own_calls before) (subst (λ z. are_kept z ≡ true) cut kept) in
    let durable = kept_durable location (own_calls before) kept_then reported in
    let leads = durable_leads location (disk.names location) (own_calls before) durable (may_own location (disk.names location) before alone (may.names location)) in
    (leads.0, may.bytes _ leads.1)
