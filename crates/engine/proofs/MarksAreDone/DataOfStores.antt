-- The value after which data are due begins a store, or none, as its entry says (`does_due`), and a part of a fragment goes
-- on with it (`does_append`). Stands on PdvJoined, FieldsShow/TriedIsDone and StoresAreKept/DraftAndWalk.
use Rattle.std.proofs.Common.{◌≡◌, ◌⊎◌, ℕ, ◌≤◌, Bool, true, false, ◌||◌, List, [], ◌++◌, length, drop, get_or, Option, Some, None, option_map, Result, Ok, Err, refl, ap, sym, subst, ◌∙◌, arith, inl, inr}
use Rattle.std.proofs.lemmas.Grind.{common_steps}
use Rattle.std.proofs.lemmas.List.{append-nil}
use Rattle.acceptor.specs.declared.state.State.TheVariants.{Sta6}
use Rattle.sequence.specs.Transfer.{coding_in}
use Rattle.sequence.specs.declared.coding.Coding.{Coding}
use Rattle.pdu.specs.Sent.{Line}
use Rattle.engine.specs.Requested.{Requested, request_record}
use Rattle.negotiate.specs.Settings.{Settings}
use Rattle.negotiate.specs.declared.proposals.Context.{Context}
use Rattle.negotiate.specs.Contexts.{context_of}
use Rattle.part10.specs.File.{head, File}
use Rattle.part10.specs.Store.{Shelf, Store, reported_after}
use Rattle.dimse.specs.declared.fault.DimseFault.{DimseFault}
use Rattle.dimse.specs.Command.{CommandRecord}
use Rattle.dimse.specs.Reading.{command_in}
use Rattle.dimse.specs.Messages.{Started, InSet, Goes, brought, with_fragment}
use Rattle.dimse.specs.Joining.{Joining, ShowsMessage, pdv_of, with_pdv}
use Rattle.engine.specs.Timeline.{At, good}
use Rattle.engine.specs.Devices.{Devices, devices, files_in, with_files, line_with}
use Rattle.engine.specs.Drafts.{IsDraft, HasDraft, ReportsDraft, draft_due, none_due}
use Rattle.engine.specs.Progress.{Progress, Advance, nothing, absorb, is_established}
use Rattle.engine.specs.Reached.{accepts_pdvs}
use Rattle.decisions.specs.declared.decision.Decision.TheVariants as decision
use Rattle.dimse.specs.declared.joined.Joined.{Joined}
use Rattle.dimse.specs.declared.joined.Joined.TheVariants as joined
use Rattle.dimse.specs.Joining.{continues}
use Rattle.engine.specs.Replies.{going_on, decided_on}
use Rattle.engine.specs.Stores.{IsOfContext, limits}
use Rattle.engine.specs.Run.{Rooms, at_entry}
use Rattle.engine.specs.Fair.{InStore}
use Rattle.engine.specs.Held.{is_ended}
use Rattle.engine.specs.Kept.{Kept, Pends, counted_pdv}
use Rattle.engine.specs.machine.Messages.{Proceeds}
use Rattle.engine.specs.StoredData.{Stored, Nothing, Walking, HasWalked, walked, drafting_in}
use Rattle.engine.specs.machine.Storing.{BeginsStore, Continues}
use Rattle.engine.specs.machine.Does.{Does}
use Rattle.engine.proofs.StoresAreKept.DraftAndWalk.{Carried, none_carried, meta_by, due_file}
use Rattle.engine.proofs.FieldsShow.TriedIsDone.{if_nothing, line_same, line_gained, filed_nothing, sent_nothing}
use Rattle.engine.proofs.MarksAreDone.PdvJoined.{entry_of, pdv_consumed, pdv_arrives, verdict_by, consumed_state}
use Rattle.engine.specs.Fair.{MayFail}
use Rattle.std.specs.Io.KnownBytes.{append_known}
use Rattle.std.proofs.lemmas.List.{length-append}
use Rattle.sequence.specs.Rules.{Limits}
use Rattle.engine.specs.Drafts.{Drafts}
use Rattle.engine.specs.machine.Does.{Appends}
use Rattle.engine.proofs.StoresAreKept.DraftAndWalk.{so_far, carried, files_kept, part_more, pdv_store, continues_so}
use Rattle.engine.proofs.MarksAreDone.PdvJoined.{counted_consumed, aside_of, aside_absorbed, pends_joined, IsDataDue}
use Rattle.pdu.specs.Heads.{pdv_head_of}

-- ---- the data of a store begin

reported_started : (reported : Option Shelf) (bytes file : List ℕ) → bytes ≡ file → ReportsDraft (reported_after (λ shelf. record { files = shelf.files; draft = bytes }) reported) file
reported_started reported bytes file h = grind (arith, common_steps)

reported_files : (reported : Option Shelf) (bytes : List ℕ) → option_map (λ (shelf : Shelf). shelf.files) (reported_after (λ shelf. record { files = shelf.files; draft = bytes }) reported) ≡ option_map (λ (shelf : Shelf). shelf.files) reported
reported_files reported bytes = grind (arith, common_steps)

-- which commands are none of a store that is walked

pub unread_store : (request : Requested) (id : ℕ) (command : List ℕ) (f : DimseFault) → command_in command ≡ Err f → InStore request (InSet id command []) → ⊥
unread_store request id command f e s =
    let same : command ≡ s.command = let x : InSet id command [] ≡ InSet s.id s.command s.set = s.started in cc in
    let wrong : ◌≡◌ {A = Result CommandRecord DimseFault} (Ok s.asked) (Err f) = sym s.spelled ∙ ap command_in (sym same) ∙ e in
    cc

pub unaccepted_store : (request : Requested) (id : ℕ) (command : List ℕ) → context_of (request_record request) id ≡ None → InStore request (InSet id command []) → ⊥
unaccepted_store request id command e s =
    let same : id ≡ s.id = let x : InSet id command [] ≡ InSet s.id s.command s.set = s.started in cc in
    let wrong : Some s.context ≡ None = sym s.accepted ∙ ap (context_of (request_record request)) (sym same) ∙ e in
    cc

pub other_store : (request : Requested) (id : ℕ) (command : List ℕ) (c : CommandRecord) (context : Context) → command_in command ≡ Ok c → context_of (request_record request) id ≡ Some context → (IsOfContext context c → ⊥)
    → InStore request (InSet id command []) → ⊥
other_store request id command c context e accepted none s =
    let started : InSet id command [] ≡ InSet s.id s.command s.set = s.started in
    let same : id ≡ s.id = cc in
    let text : command ≡ s.command = cc in
    let contexts : Some s.context ≡ Some context = sym s.accepted ∙ ap (context_of (request_record request)) (sym same) ∙ accepted in
    let asked : ◌≡◌ {A = Result CommandRecord DimseFault} (Ok s.asked) (Ok c) = sym s.spelled ∙ ap command_in (sym text) ∙ e in
    let one : s.context ≡ context = cc in
    let two : s.asked ≡ c = cc in
    none (subst (λ (x : Context). IsOfContext x c) one (subst (λ (a : CommandRecord). IsOfContext s.context a) two s.of_context))

pub begins_drafts : (syntax : Coding) (lim : Limits) (bytes : List ℕ) (stored : Stored) (drafting : Bool) (old new : Store) → BeginsStore syntax lim bytes stored old new → Drafts drafting old (drafting_in stored) new
begins_drafts syntax lim bytes Nothing drafting old new h = absurd h
begins_drafts syntax lim bytes (Walking walker true) drafting old new (accepts, step) =
    let there : new.has_draft ≡ true = ap (λ (x : Store). x.has_draft) step in record { there = λ e. there; own = λ e. there }
begins_drafts syntax lim bytes (Walking walker false) drafting old new (accepts, step) = record { there = λ e. absurd cc; own = λ e. ap (λ (x : Store). x.has_draft) step }

-- nothing is kept
pub idle_proceeds : (depth most : ℕ) (request : Requested) (m : Started) (stored : Stored) (store : Store) → stored ≡ Nothing → (InStore request m → ⊥) → Proceeds depth most request m false stored store store
idle_proceeds depth most request m stored store e none =
    let c = none_carried depth most stored store request m false e none in
    record { failed = false; may = λ x. absurd cc; walks = c.0; draft = c.1; files = refl; count = omega arith }

pub started_proceeds : (depth most : ℕ) (request : Requested) (m : Started) (s : InStore request m) (bytes : List ℕ) (stored : Stored) (old new : Store) → s.set ≡ [] → bytes ≡ head (meta_by request s.context s.asked)
    → BeginsStore (coding_in s.context.syntax) (limits depth most) bytes stored old new → Proceeds depth most request m false stored old new
started_proceeds depth most request m s bytes Nothing old new none is h = absurd h
started_proceeds depth most request m s bytes (Walking walker true) old new none is (accepts, step) =
    let file : bytes ≡ File (meta_by request s.context s.asked) s.set = is ∙ sym (append-nil (head (meta_by request s.context s.asked))) ∙ ap (λ (xs : List ℕ). head (meta_by request s.context s.asked) ++ xs) (sym none) in
    record {
      failed = false;
      may = λ x. absurd cc;
      walks = walked s (subst (λ (xs : List ℕ). HasWalked walker (coding_in s.context.syntax) (limits depth most) xs) (sym none) accepts);
      draft = draft_due (due_file request m false s refl)
          (subst (λ (x : Store). HasDraft x (File (meta_by request s.context s.asked) s.set)) (sym step) (record { there = refl; bytes = reported_started old.reported bytes _ file }));
      files = ap files_in step ∙ reported_files old.reported bytes;
      count = ap (λ (x : Store). x.failures) step ∙ omega arith;
    }
started_proceeds depth most request m s bytes (Walking walker false) old new none is (accepts, step) =
    record {
      failed = true;
      may = λ x. (refl, s);
      walks = walked s (subst (λ (xs : List ℕ). HasWalked walker (coding_in s.context.syntax) (limits depth most) xs) (sym none) accepts);
      draft = none_due (λ file due. let x : true ≡ false = due.unfailed in absurd cc);
      files = ap files_in step ∙ files_kept old.reported;
      count = ap (λ (x : Store). x.failures) step;
    }

either_failed : (f g : Bool) → (f || g) ≡ true → (f ≡ true) ⊎ (g ≡ true)
either_failed f g h = grind (arith, common_steps)

pub does_due : (rooms : Rooms) (s : Settings) (p : Progress) (started : List ℕ) (room : ℕ) (k : Kept) (j : Joining) (z : Stored) (l : Line) (so sn : Store) (later : Started) → Pends k so p [] started → accepts_pdvs p ≡ true
    → brought p.message (pdv_of started) ≡ Goes later → ShowsMessage k.room j later [] → IsDataDue room p.message (pdv_head_of started) (drop 6 started) later → joined.DataDue ≡ continues p.message later
    → Proceeds k.depth k.most p.request later false z so sn
    → Does rooms s p (At (entry_of started)) (record k { join = j; storing = z; decided = decision.DataDue }) [] [] (devices l so) (devices l sn)
does_due rooms s p started room k j z l so sn later h consumed goes shows due announced x =
    let q = absorb x.failed p in
    let six = consumed_state p consumed in
    let unended : is_ended p.state ≡ false = ap is_ended six in
    let unfailed : p.filing_failed ≡ false = never p.filing_failed refl (λ e. due.none_before p.request (h.failed_in unended e)) in
    let is : at_entry rooms s q good (At (entry_of started)) ≡ nothing (going_on later q) = pdv_consumed rooms s q good started consumed ∙ pdv_arrives q good started (Goes later) goes in
    let plain : at_entry rooms s p good (At (entry_of started)) ≡ nothing (going_on later p) = pdv_consumed rooms s p good started consumed ∙ pdv_arrives p good started (Goes later) goes in
    let nil : counted_pdv (going_on later q) [] ≡ [] = if_nothing (accepts_pdvs q) in
    let now : so_far (going_on later q) [] ≡ later = ap (λ (xs : List ℕ). with_pdv xs later) nil in
    let draft : IsDraft p.request later (x.failed || p.filing_failed) sn (drafting_in z) = subst (λ (b : Bool). IsDraft p.request later (x.failed || b) sn (drafting_in z)) (sym unfailed) x.draft in
    let c = subst (λ (m : Started). Carried k.depth k.most z sn p.request m (x.failed || p.filing_failed)) (sym now) (x.walks, draft) in
    let pends : Pends (record k { join = j; storing = z; decided = decision.DataDue }) sn (going_on later q) [] [] = record {
      state_is = h.state_is;
      refused_is = h.refused_is;
      decided_is = ap (λ (y : Joined). decided_on y p.decided) announced;
      body_is = h.body_is;
      join_is = subst (λ (xs : List ℕ). ShowsMessage k.room j later xs) (sym nil) shows;
      agreed = h.agreed;
      none_remaining = λ e. let wrong : is_established Sta6 ≡ false = sym (ap is_established six) ∙ e in absurd cc;
      unagreed = h.unagreed;
      walks = c.0;
      draft = c.1;
      failed_in = λ n e. failed_now x unfailed e;
    } in
    record {
      outcome = record { wire = None; filing = x.failed; finding = good };
      fair = record {
        verdict = verdict_by rooms s p q good started (Goes later) consumed goes tt;
        wire = tt;
        filing = λ y. subst (λ (g : Advance). MayFail p g.next) (sym plain) (unfailed, inr (x.may y).1);
      };
      pends = subst (λ (g : Advance). Pends (record k { join = j; storing = z; decided = decision.DataDue }) sn g.next [] []) (sym is) pends;
      line = line_same l ∙ line_gained None p (nothing (going_on later q)) l ∙ ap (λ (g : Advance). line_with g.sent 0 l) (sym is);
      files = x.files ∙ filed_nothing (files_in so) ∙ ap (λ (g : Advance). with_files g.files (files_in so)) (sym is);
      count = x.count;
    } where
      never : (b : Bool) → p.filing_failed ≡ b → (p.filing_failed ≡ true → ⊥) → p.filing_failed ≡ false
      never true e clear = absurd (clear e)
      never false e clear = e

      failed_now : (x : Proceeds k.depth k.most p.request later false z so sn) → p.filing_failed ≡ false → (x.failed || p.filing_failed) ≡ true → InStore p.request later
      failed_now x unfailed e = by (either_failed x.failed p.filing_failed e) where
        by : (x.failed ≡ true) ⊎ (p.filing_failed ≡ true) → InStore p.request later
        by (inl y) = (x.may y).1
        by (inr y) = let wrong : true ≡ false = sym y ∙ unfailed in absurd cc

-- ---- and continue

pub appends_none : (rooms : Rooms) (s : Settings) (p : Progress) (k : Kept) (started : List ℕ) (d : Devices) → Pends k d.store p [] started → Appends rooms s p k [] started d d
appends_none rooms s p k started d h = record {
  failed = false;
  last = λ e. absurd cc;
  pends = h;
  gains = record {
    line = ap (λ (y : Option (List ℕ)). record { sent = y; failures = d.line.failures }) (sent_nothing d.line.sent) ∙ ap (λ (n : ℕ). record { sent = append_known d.line.sent []; failures = n }) (omega arith);
    files = filed_nothing (files_in d.store);
    count = omega arith;
  };
}

pub does_append : (rooms : Rooms) (s : Settings) (p : Progress) (started part : List ℕ) (k : Kept) (j : Joining) (z : Stored) (l : Line) (so sn : Store) → Pends k so p [] started → accepts_pdvs p ≡ true → 6 ≤ length started
    → ShowsMessage k.room j p.message (started ++ part) → Continues part k.storing z so sn → Appends rooms s p (record k { join = j; storing = z }) [] (started ++ part) (devices l so) (devices l sn)
does_append rooms s p started part k j z l so sn h consumed six shows g =
    let old = subst (λ (xs : List ℕ). Carried k.depth k.most k.storing so p.request (with_pdv xs p.message) p.filing_failed) (counted_consumed p started consumed) (carried k so p [] started h) in
    let x = continues_so k.depth k.most p.request (with_pdv started p.message) p.filing_failed (get_or started 4 0) part so sn k.storing z old g in
    let more = part_more started part p.message six in
    let counts = counted_consumed p (started ++ part) consumed in
    let now : so_far p (started ++ part) ≡ with_fragment (get_or started 4 0) part (with_pdv started p.message) = ap (λ (xs : List ℕ). with_pdv xs p.message) counts ∙ more in
    let longer : 6 ≤ length (started ++ part) = omega (arith, length-append started part) in
    let store : x.failed ≡ true → InStore p.request p.message =
    λ y. pdv_store p.request (started ++ part) p.message longer (subst (λ (m : Started). InStore p.request m) (sym more) (x.may y).1) in
    let c = subst (λ (m : Started). Carried k.depth k.most z sn p.request m (x.failed || p.filing_failed)) (sym now) (x.walks, x.draft) in
    record {
      failed = x.failed;
      last = λ y. ((x.may y).0, inl (store y));
      pends = pends_joined k sn (absorb x.failed p) j z (started ++ part) (aside_absorbed k p x.failed (aside_of k so p started h)) (subst (λ (xs : List ℕ). ShowsMessage k.room j p.message xs) (sym counts) shows) c
          (λ n e. by n store (either_failed x.failed p.filing_failed e));
      gains = record {
        line = ap (λ (y : Option (List ℕ)). record { sent = y; failures = l.failures }) (sent_nothing l.sent) ∙ ap (λ (n : ℕ). record { sent = append_known l.sent []; failures = n }) (omega arith);
        files = x.files ∙ filed_nothing (files_in so);
        count = omega (arith, x.count);
      };
    } where
      by : {f : Bool} → is_ended p.state ≡ false → (f ≡ true → InStore p.request p.message) → (f ≡ true) ⊎ (p.filing_failed ≡ true) → InStore p.request p.message
      by n store (inl y) = store y
      by n store (inr y) = h.failed_in n y
