-- Each success of a connection that has ended survives a loss of power from its report on, where its filing syncs
-- (`slots_keep_successes`). Stands on ReportsStay and SuccessesAreFiles.
use Rattle.std.proofs.Common.{◌≡◌, ◌∙◌, ◌<◌, ℕ, true, false, List, [], ◌∷◌, ◌++◌, length, Option, Some, sym, ap, arith, append_assoc, length-append}
use Rattle.std.proofs.Math.Logic.{∥∥₁_map}
use Rattle.std.specs.List.{All, AllZip}
use Rattle.negotiate.specs.Settings.{Settings}
use Rattle.folder_filing.specs.Crashes.{SurvivesPowerLoss, file_at}
use Rattle.folder_filing.specs.Naming.{IsOrderly, Naming}
use Rattle.folder_filing.specs.Settling.{is_unsettled}
use Rattle.folder_filing.specs.States.{FolderState}
use Rattle.folder_filing.specs.Synced.{reports}
use Rattle.folder_filing.specs.declared.call.Call.{Call}
use Rattle.folder_filing.specs.declared.call.Call.TheVariants.{Reported}
use Rattle.folder_filing.specs.declared.location.Location.{Location}
use Rattle.engine.specs.Inputs.{Received}
use Rattle.serving.specs.Settled.{SentAfter, sent_by}
use Rattle.serving.specs.declared.open_connection.ConnectionEnd.{ConnectionEnd}
use Rattle.server.specs.Configuration.{Configuration, with_settings}
use Rattle.server.specs.FolderStore.{folder_store}
use Rattle.server.specs.Histories.{AllEnded, ClosedBy, ended_in, settings_in}
use Rattle.server.specs.PowerLoss.{IsReportAfter, IsSuccess, KeepsSuccesses, SlotKeepsSuccesses, StoreEnd, SuccessSurvives, file_of_success, files_before}
use Rattle.server.specs.declared.server.opening.history.SlotHistory.{SlotHistory}
use Rattle.server.specs.declared.socket.Socket.{Socket}
use Rattle.server.proofs.ReportsStay.{just_reported, report_at, survives_since}
use Rattle.server.proofs.SuccessesAreFiles.{newer_files, success_is_filed}

-- what the laws of `folder_filing` say of a filing that syncs: it survives while it keeps its invariant, and while it is
-- settled, and then each of its files was reported
abbrev pub OrderlySurvive : Type 0
OrderlySurvive = (naming : Naming) → IsOrderly naming → naming.has_sync ≡ true → SurvivesPowerLoss naming.calls

abbrev pub SettledSurvive : Type 0
SettledSurvive = (filing : FolderState) → is_unsettled filing ≡ false → filing.names.has_sync ≡ true → SurvivesPowerLoss filing.names.calls × (reports filing.names.calls ≡ length filing.contents.files)

same_lists : (xs ys : List (List ℕ)) → ◌≡◌ {A = Option (List (List ℕ))} (Some xs) (Some ys) → xs ≡ ys
same_lists xs ys is = cc

-- the filing's files with a success among them
success_in : (s : Settings) (all : List Received) (text : List ℕ) (opened settled : FolderState) (sent : SentAfter s all text (folder_store opened) (folder_store settled)) (store : StoreEnd) → IsSuccess s sent.story store
    → settled.contents.files ≡ files_before s opened store ++ file_of_success s store ∷ newer_files s store
success_in s all text opened settled sent store is =
    same_lists settled.contents.files (opened.contents.files ++ sent.files) sent.files_then
    ∙ ap (λ (fs : List (List ℕ)). opened.contents.files ++ fs) (sent.run.files_are ∙ success_is_filed s sent.story store is)
    ∙ sym (append_assoc opened.contents.files _ _)

fewer : (xs ys all : List (List ℕ)) (y : List ℕ) (reports : ℕ) → all ≡ xs ++ y ∷ ys → reports ≡ length all → length xs < reports
fewer xs ys all y reports is count = omega (arith, ap length is, length-append xs (y ∷ ys), count)

survives_with : OrderlySurvive → (s : Settings) (opened settled : FolderState) (store : StoreEnd) → SurvivesPowerLoss settled.names.calls
    → settled.contents.files ≡ files_before s opened store ++ file_of_success s store ∷ newer_files s store
    → (location : Location) × IsReportAfter (length (files_before s opened store)) location settled.names.calls → SuccessSurvives s opened settled store
survives_with orderly s opened settled store survives filed (location, report) =
    let first : List Call = Reported location ∷ report.before in
    record {
      newer = newer_files s store;
      filed = filed;
      location = location;
      file = file_at location first;
      reported = report;
      survives = survives_since first settled.names.calls location survives (just_reported location report.before);
      from_then = λ names later. survives_since first names.calls location (orderly names later.orderly later.has_sync) (just_reported location report.before);
    }

success_survives : OrderlySurvive → SettledSurvive → (s : Settings) (all : List Received) (text : List ℕ) (opened settled : FolderState) (sent : SentAfter s all text (folder_store opened) (folder_store settled))
    → is_unsettled settled ≡ false → settled.names.has_sync ≡ true → (store : StoreEnd) → IsSuccess s sent.story store → SuccessSurvives s opened settled store
success_survives orderly settling s all text opened settled sent rested syncs store is =
    let both = settling settled rested syncs in
    let filed = success_in s all text opened settled sent store is in
    survives_with orderly s opened settled store both.0 filed
    (report_at (length (files_before s opened store)) settled.names.calls (fewer (files_before s opened store) (newer_files s store) settled.contents.files (file_of_success s store) (reports settled.names.calls) filed both.1))

keeps_successes : OrderlySurvive → SettledSurvive → (t : Configuration) (s : Settings) (e : ConnectionEnd Socket FolderState) → ClosedBy folder_store is_unsettled (with_settings t s) e → KeepsSuccesses s e
keeps_successes orderly settling t s e closed = λ some syncs. ∥∥₁_map closed.sent (λ settles. record {
  settles = settles;
  each = success_survives orderly settling s settles.0.inputs (sent_by e.exchange) e.opened.value e.settled.value settles.1 (closed.rested some) syncs;
})

zip_map : {A B : Type 0} (P Q : A → B → Type 0) (xs : List A) (ys : List B) → ((x : A) (y : B) → P x y → Q x y) → AllZip P xs ys → AllZip Q xs ys
zip_map P Q [] [] f zip = tt
zip_map P Q [] (y ∷ ys) f zip = absurd zip
zip_map P Q (x ∷ xs) [] f zip = absurd zip
zip_map P Q (x ∷ xs) (y ∷ ys) f zip = (f x y zip.0, zip_map P Q xs ys f zip.1)

slot_keeps : OrderlySurvive → SettledSurvive → (allows : Settings → Type 0) (t : Configuration) (slot : SlotHistory FolderState) → AllEnded folder_store is_unsettled allows t slot → SlotKeepsSuccesses slot
slot_keeps orderly settling allows t slot ended =
    ∥∥₁_map ended.closed (λ each. zip_map (λ s e. ClosedBy folder_store is_unsettled (with_settings t s) e) (λ s e. KeepsSuccesses s e) (settings_in slot) (ended_in slot) (keeps_successes orderly settling t) each)

pub slots_keep_successes : OrderlySurvive → SettledSurvive → (allows : Settings → Type 0) (t : Configuration) (slots : List (SlotHistory FolderState)) → ∥ All (AllEnded folder_store is_unsettled allows t) slots ∥₁ → ∥ All SlotKeepsSuccesses slots ∥₁
slots_keep_successes orderly settling allows t slots ended = ∥∥₁_map ended (λ all k d less. slot_keeps orderly settling allows t _ (all k d less))
