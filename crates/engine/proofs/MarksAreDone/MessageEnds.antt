-- A message that ends does what its entry gives (`does_concluded`): a store is judged, filed or dropped, and answered
-- (`walked_ends`, `store_ended`), an echo answered (`echo_ended`). Stands on PdvJoined, FieldsShow and StoresAreKept.
use Rattle.std.proofs.Common.{◌≡◌, ◌⊎◌, nat_lt, ℕ, zero, suc, ◌+◌, ◌<◌, ◌≤◌, Bool, true, false, not, ◌&&◌, ◌||◌, List, [], ◌∷◌, ◌++◌, length, take, drop, Option, Some, None, option_map, Result, Ok, Err, OnErr, nat_eq, nat_le, refl, ap, sym, subst, ◌∙◌, arith, if◌then◌else◌, inl, inr}
use Rattle.std.proofs.lemmas.Grind.{common_steps}
use Rattle.std.proofs.lemmas.Bool.Decides.{nat_tests}
use Rattle.acceptor.specs.declared.state.State.{State}
use Rattle.acceptor.specs.declared.state.State.TheVariants.{Sta1, Sta6}
use Rattle.pdu.specs.declared.wire.WireFailed.{WireFailed}
use Rattle.pdu.specs.Sent.{Line, Sends}
use Rattle.engine.specs.Requested.{Requested, request_record}
use Rattle.pdu.specs.Record.{RequestRecord}
use Rattle.negotiate.specs.Settings.{Settings}
use Rattle.negotiate.specs.declared.proposals.Context.{Context}
use Rattle.negotiate.specs.Contexts.{context_of}
use Rattle.part10.specs.File.{File}
use Rattle.part10.specs.Store.{Shelf, Store, committed, reported_after}
use Rattle.dimse.specs.declared.detail.Detail.{Detail}
use Rattle.dimse.specs.declared.fault.DimseFault.{DimseFault}
use Rattle.dimse.specs.Command.{CommandRecord, is_request}
use Rattle.dimse.specs.Reading.{command_in}
use Rattle.sequence.specs.Tree.{no_elements}
use Rattle.dimse.specs.Status.{success, class_not_supported, out_of_resources, data_set_mismatch}
use Rattle.dimse.specs.Messages.{Message, Started, NoMessage, InSet, Ends, brought}
use Rattle.dimse.specs.Joining.{Joining, ShowsMessage, pdv_of, with_pdv}
use Rattle.dimse.specs.Reply.{reply_bytes, reply_command, fragment_size, command_pdus, fragments, fragments_in}
use Rattle.engine.specs.Timeline.{At, Finding, good}
use Rattle.engine.specs.Devices.{Devices, devices, files_in, with_files, line_with, IsFront}
use Rattle.engine.specs.Drafts.{IsDraft, ReportsDraft}
use Rattle.engine.specs.Progress.{Progress, Advance, absorb, remaining, deciding}
use Rattle.engine.specs.Reached.{accepts_pdvs}
use Rattle.decisions.specs.declared.decision.Decision.{Decision}
use Rattle.decisions.specs.declared.decision.Decision.TheVariants as decision
use Rattle.engine.specs.Replies.{replied, ended_message, finding_on, echo_status, file_in, file_put}
use Rattle.engine.specs.Stores.{IsOfContext, Submitted, Check, OfContext, WholeSet, OwnClass, OwnInstance, Filed, Passes, FailsWith, FirstFinding, Verdict}
use Rattle.engine.specs.Run.{Rooms, at_entry, fails, counted}
use Rattle.engine.specs.Run as run
use Rattle.engine.specs.Fair.{InStore}
use Rattle.engine.specs.Kept.{Kept, Pends, counted_pdv}
use Rattle.engine.specs.machine.Messages.{Aside, HasReceived, Ended, Concludes}
use Rattle.engine.specs.machine.Storing as storing
use Rattle.engine.specs.StoredData.{Stored, Nothing, Walks, not_walked, walked, drafting_in}
use Rattle.engine.specs.machine.Storing.{BeginsStore, Begins, Drops, EndsDraft, commit_failed, dropped, EndsStore}
use Rattle.engine.specs.machine.Verdicts.{EndsAs}
use Rattle.engine.specs.machine.PerformsReaction.{Reaches, Unfiled, is_remaining}
use Rattle.engine.specs.machine.Does.{Does}
use Rattle.engine.proofs.StoresAreKept.DraftAndWalk.{none_carried, meta_by, file_due, undrafted, drafted, drops_unfiled, files_kept}
use Rattle.engine.proofs.FieldsShow.AfterAnEvent.{settled_failed, pends_decided}
use Rattle.engine.proofs.FieldsShow.TriedIsDone.{if_nothing, line_same, line_gained, files_cut, filed_nothing}
use Rattle.engine.proofs.MarksAreDone.PdvJoined.{entry_of, pdv_consumed, pdv_arrives, verdict_by}
use Rattle.engine.proofs.FieldsShow.NothingCounts.{no_store}
use Rattle.engine.proofs.StoresAreKept.WalkIsJudged.{fault_is_failure}

-- ---- replies

pdus_some : (context : ℕ) (f : List ℕ) (fs : List (List ℕ)) → 0 < length (command_pdus context (f ∷ fs))
pdus_some context f fs = grind (arith, common_steps)

fragments_some : (context k size : ℕ) (text : List ℕ) → 0 < length (command_pdus context (fragments_in k size text))
fragments_some context zero size text = pdus_some context text []
fragments_some context (suc k) size text = by (nat_le (length text) size) where
  by : (t : Bool) → 0 < length (command_pdus context (if t then text ∷ [] else (take size text ∷ fragments_in k size (drop size text))))
  by true = pdus_some context text []
  by false = pdus_some context (take size text) (fragments_in k size (drop size text))

pub reply_some : (c : CommandRecord) (status : ℕ) (detail : Option Detail) (context maximum : ℕ) → 0 < length (reply_bytes c status detail context maximum)
unfolding reply_bytes fragments
reply_some c status detail context maximum =
    fragments_some context (length (reply_command c status detail)) (fragment_size maximum (length (reply_command c status detail))) (reply_command c status detail)

pub on_failure : (r : Result (Unit {0}) WireFailed) (n : ℕ) → 0 < n → OnErr r (0 < n)
on_failure r n h = grind (arith, common_steps)

-- what is sent is the reply to the command, in the words of the code
pub replied_sent : (p : Progress) (f : Finding) (m : Message) (c : CommandRecord) (id maximum : ℕ) (accepted : Option Context) → command_in m.command ≡ Ok c
    → accepted ≡ context_of (request_record p.request) m.context → id ≡ m.context → maximum ≡ (request_record p.request).maximum
    → reply_bytes c (finding_on accepted c f).status (finding_on accepted c f).detail id maximum ≡ (replied p f m (command_in m.command)).sent
replied_sent p f m c id maximum accepted e a i x =
    ap (λ (o : Option Context). reply_bytes c (finding_on o c f).status (finding_on o c f).detail id maximum) a
    ∙ ap (λ (n : ℕ). reply_bytes c (finding_on (context_of (request_record p.request) m.context) c f).status (finding_on (context_of (request_record p.request) m.context) c f).detail n maximum) i
    ∙ ap (λ (n : ℕ). reply_bytes c (finding_on (context_of (request_record p.request) m.context) c f).status (finding_on (context_of (request_record p.request) m.context) c f).detail m.context n) x
    ∙ ap (λ (r : Result CommandRecord DimseFault). (replied p f m r).sent) (sym e)

replied_next : (p : Progress) (f : Finding) (m : Message) (r : Result CommandRecord DimseFault) → (replied p f m r).next ≡ deciding (replied p f m r).next.decided (ended_message p)
replied_next p f m (Ok c) = refl
replied_next p f m (Err fault) = refl

-- and so is what is decided
replied_decided : (p : Progress) (f : Finding) (m : Message) (c : CommandRecord) (accepted : Option Context) → command_in m.command ≡ Ok c → accepted ≡ context_of (request_record p.request) m.context
    → decision.Replied (finding_on accepted c f).status (finding_on accepted c f).detail ≡ (replied p f m (command_in m.command)).next.decided
replied_decided p f m c accepted e a =
    ap (λ (o : Option Context). decision.Replied (finding_on o c f).status (finding_on o c f).detail) a ∙ ap (λ (r : Result CommandRecord DimseFault). (replied p f m r).next.decided) (sym e)

replied_absorbed : (p : Progress) (b : Bool) (f : Finding) (m : Message) (r : Result CommandRecord DimseFault) → replied (absorb b p) f m r ≡ replied p f m r
replied_absorbed p b f m r = grind (arith, common_steps)

-- ---- a command that does not read, and an echo

module _ (rooms : Rooms) (s : Settings) (p : Progress) (m : Message) (received : Started) (store : Store) where
  pub unread_ended : (l : Line) (f : DimseFault) → command_in m.command ≡ Err f → Ended rooms s p m received decision.Nothing (Ok tt) (devices l store) (devices l store)
  unread_ended l f e = record {
    finding = good;
    decided_is = ap (λ (r : Result CommandRecord DimseFault). (replied p good m r).next.decided) (sym e);
    failed = false;
    may = λ x. absurd cc;
    verdict = λ c context is field. let wrong : ◌≡◌ {A = Result CommandRecord DimseFault} (Ok c) (Err f) = sym is ∙ e in absurd cc;
    sends = subst (λ (r : Result CommandRecord DimseFault). Sends (replied p good m r).sent (Ok tt) l l) (sym e) (line_same l);
    due = tt;
    files = subst (λ (r : Result CommandRecord DimseFault). files_in store ≡ with_files (replied p good m r).files (files_in store)) (sym e) (filed_nothing (files_in store));
    count = omega arith;
  }

  echo_files : (c : CommandRecord) → command_in m.command ≡ Ok c → c.field ≡ 0x0030 → (replied p good m (command_in m.command)).files ≡ []
  echo_files c e field = ap (λ (r : Result CommandRecord DimseFault). (replied p good m r).files) e
      ∙ ap (λ (n : ℕ). if nat_eq n 0x0001 && true then file_in (request_record p.request) (context_of (request_record p.request) m.context) c m.set else []) field

  pub echo_ended : (r : Result (Unit {0}) WireFailed) (lo ln : Line) (c : CommandRecord) (status id maximum : ℕ) (accepted : Option Context) → command_in m.command ≡ Ok c → c.field ≡ 0x0030
      → status ≡ echo_status accepted c → accepted ≡ context_of (request_record p.request) m.context → id ≡ m.context → maximum ≡ (request_record p.request).maximum
      → Sends (reply_bytes c status None id maximum) r lo ln → Ended rooms s p m received (decision.Replied status None) r (devices lo store) (devices ln store)
  echo_ended r lo ln c status id maximum accepted e field st a i x sends =
      let is : finding_on accepted c good ≡ record { status = echo_status accepted c; detail = None } = ap (λ (n : ℕ). if nat_eq n 0x0030 then record { status = echo_status accepted c; detail = None } else good) field in
      let text : reply_bytes c status None id maximum ≡ (replied p good m (command_in m.command)).sent =
      ap (λ (n : ℕ). reply_bytes c n None id maximum) st ∙ ap (λ (f : Finding). reply_bytes c f.status f.detail id maximum) (sym is) ∙ replied_sent p good m c id maximum accepted e a i x in
      record {
        finding = good;
        decided_is = ap (λ (n : ℕ). decision.Replied n None) st ∙ ap (λ (f : Finding). decision.Replied f.status f.detail) (sym is) ∙ replied_decided p good m c accepted e a;
        failed = false;
        may = λ y. absurd cc;
        verdict = λ d context is other. let same : ◌≡◌ {A = Result CommandRecord DimseFault} (Ok d) (Ok c) = sym is ∙ e in let one : d ≡ c = cc in
            let wrong : 0x0001 ≡ 0x0030 = sym other ∙ ap (λ (q : CommandRecord). q.field) one ∙ field in absurd (omega (arith, wrong));
        sends = subst (λ (t : List ℕ). Sends t r lo ln) text sends;
        due = subst (λ (t : List ℕ). OnErr r (0 < length t)) text (on_failure r _ (reply_some c status None id maximum));
        files = filed_nothing (files_in store) ∙ ap (λ (fs : List (List ℕ)). with_files fs (files_in store)) (sym (echo_files c e field));
        count = omega arith;
      }

-- ---- a store

check_unfiled : (x : Submitted) (check : Check) (f : Finding) → FailsWith x check f → f.status ≡ success → ⊥
check_unfiled x OfContext f k e = let z : class_not_supported ≡ success = sym (ap (λ (y : Finding). y.status) k.1) ∙ e in cc
check_unfiled x WholeSet f k e = fault_is_failure k.0 (sym (ap (λ (y : Finding). y.status) k.2) ∙ e)
check_unfiled x OwnClass f k e = let z : data_set_mismatch ≡ success = sym (ap (λ (y : Finding). y.status) k.1) ∙ e in cc
check_unfiled x OwnInstance f k e = let z : data_set_mismatch ≡ success = sym (ap (λ (y : Finding). y.status) k.1) ∙ e in cc
check_unfiled x Filed f k e = let z : out_of_resources ≡ success = sym (ap (λ (y : Finding). y.status) k.1) ∙ e in cc

-- a store that is filed passes the last check
last_passes : (x : Submitted) (checks : List Check) (f : Finding) → FirstFinding x (checks ++ Filed ∷ []) f → f.status ≡ success → Passes x Filed
last_passes x [] f (inl k) e = absurd (check_unfiled x Filed f k e)
last_passes x [] f (inr k) e = k.0
last_passes x (check ∷ later) f (inl k) e = absurd (check_unfiled x check f k e)
last_passes x (check ∷ later) f (inr k) e = last_passes x later f k.1 e

-- a store in which a filing call failed is none that is filed
failed_store : {depth most : ℕ} {context : Context} {c : CommandRecord} {set : List ℕ} {f : Finding} → Verdict depth most context c set true f → f.status ≡ success → ⊥
failed_store {f = f} v e = let passes : true ≡ false = last_passes _ (OfContext ∷ WholeSet ∷ OwnClass ∷ OwnInstance ∷ []) f v.first e in cc

is_zero : (n : ℕ) (t : Bool) → nat_eq n 0 ≡ t → (n ≡ 0 → ⊥) → t ≡ false
is_zero n true e h = absurd (h (grind (arith, nat_tests)))
is_zero n false e h = refl

and_false : (t : Bool) → (t && false) ≡ false
and_false t = grind (arith, common_steps)

not_put : (r : RequestRecord) (id : ℕ) (c : CommandRecord) (set : List ℕ) (f : Finding) → (f.status ≡ success → ⊥) → file_put r id c set f ≡ []
not_put r id c set f h =
    ap (λ (t : Bool). if nat_eq c.field 0x0001 && t then file_in r (context_of r id) c set else []) (is_zero f.status (nat_eq f.status success) refl h)
    ∙ ap (λ (t : Bool). if t then file_in r (context_of r id) c set else []) (and_false (nat_eq c.field 0x0001))

put : (r : RequestRecord) (id : ℕ) (c : CommandRecord) (set : List ℕ) (f : Finding) (context : Context) → c.field ≡ 0x0001 → f.status ≡ success → context_of r id ≡ Some context
    → file_put r id c set f ≡ file_in r (Some context) c set
put r id c set f context field ok accepted =
    ap (λ (n : ℕ). if nat_eq n 0x0001 && nat_eq f.status success then file_in r (context_of r id) c set else []) field
    ∙ ap (λ (n : ℕ). if nat_eq n success then file_in r (context_of r id) c set else []) ok ∙ ap (λ (o : Option Context). file_in r o c set) accepted

reported_put : (reported : Option Shelf) (file : List ℕ) → ReportsDraft reported file → option_map (λ (shelf : Shelf). shelf.files) (reported_after committed reported) ≡ with_files (file ∷ []) (option_map (λ (shelf : Shelf). shelf.files) reported)
reported_put None file h = refl
reported_put (Some shelf) file h = ap (λ (xs : List ℕ). Some (shelf.files ++ xs ∷ [])) h

-- the store is judged, and this became of its draft
pub record StoreEnds (depth most : ℕ) (request : Requested) (m : Message) (received : Started) (c : CommandRecord) (before : Bool) (f : Finding) (old new : Store) : Type 0 where
  pub failed_then : Bool
  pub may : failed_then ≡ true → (before ≡ false) × InStore request received
  pub verdict : (context : Context) → context_of (request_record request) m.context ≡ Some context → Verdict depth most context c m.set (failed_then || before) f
  pub files : files_in new ≡ with_files (file_put (request_record request) m.context c m.set f) (files_in old)
  pub count : new.failures ≡ old.failures + counted failed_then

module _ (depth most : ℕ) (request : Requested) (m : Message) (received : Started) (c : CommandRecord) (before : Bool) (f : Finding) (old new : Store) where
  kept_files : (f.status ≡ success → ⊥) → files_in new ≡ files_in old → files_in new ≡ with_files (file_put (request_record request) m.context c m.set f) (files_in old)
  kept_files h e = e ∙ filed_nothing (files_in old) ∙ ap (λ (fs : List (List ℕ)). with_files fs (files_in old)) (sym (not_put (request_record request) m.context c m.set f h))

  -- nothing was walked
  pub unwalked_ends : received ≡ InSet m.context m.command m.set → command_in m.command ≡ Ok c → (InStore request received → ⊥) → f ≡ record { status = class_not_supported; detail = None } → new ≡ old
      → StoreEnds depth most request m received c before f old new
  unwalked_ends is e none found same = record {
    failed_then = false;
    may = λ x. absurd cc;
    verdict = λ context accepted. subst (λ (x : Finding). Verdict depth most context c m.set before x) (sym found) (record {
      elements = no_elements;
      first = inl (λ of. none (record { id = m.context; command = m.command; set = m.set; asked = c; context = context; started = is; spelled = e; accepted = accepted; of_context = of }), refl);
    });
    files = kept_files (λ ok. let wrong : class_not_supported ≡ success = sym (ap (λ (x : Finding). x.status) found) ∙ ok in absurd cc) (ap files_in same);
    count = ap (λ (x : Store). x.failures) same ∙ omega arith;
  }

  module _ (is : received ≡ InSet m.context m.command m.set) (e : command_in m.command ≡ Ok c) (field : c.field ≡ 0x0001) (store : InStore request received) (drafting : Bool) (h : IsDraft request received before old drafting)
      (ends : EndsStore depth most store.context c store.set drafting f old new) where
    same_message : InSet store.id store.command store.set ≡ InSet m.context m.command m.set
    same_message = sym store.started ∙ is

    same_id : store.id ≡ m.context
    same_id = let x = same_message in cc

    same_command : store.command ≡ m.command
    same_command = let x = same_message in cc

    same_set : store.set ≡ m.set
    same_set = let x = same_message in cc

    same_asked : store.asked ≡ c
    same_asked = let x : ◌≡◌ {A = Result CommandRecord DimseFault} (Ok store.asked) (Ok c) = sym store.spelled ∙ ap command_in same_command ∙ e in cc

    of_context : IsOfContext store.context c
    of_context = subst (λ (a : CommandRecord). IsOfContext store.context a) same_asked store.of_context

    accepted_here : context_of (request_record request) m.context ≡ Some store.context
    accepted_here = ap (context_of (request_record request)) (sym same_id) ∙ store.accepted

    judged : Verdict depth most store.context c m.set (ends.failed_then || before) f
    judged = subst (λ (b : Bool). Verdict depth most store.context c m.set (ends.failed_then || b) f) (undrafted request received before old drafting h store)
        (subst (λ (xs : List ℕ). Verdict depth most store.context c xs (ends.failed_then || not drafting) f) same_set (ends.verdict of_context))

    by : (b : Bool) → b ≡ ends.failed_then → EndsDraft drafting f old new b
        → (b ≡ true → (before ≡ false) × InStore request received) × (files_in new ≡ with_files (file_put (request_record request) m.context c m.set f) (files_in old)) × (new.failures ≡ old.failures + counted b)
    by _ eq (storing.filed d ok step) =
        let due = drafted request received before old drafting h d in
        let file : due.0 ≡ File (meta_by request store.context c) m.set =
        file_due request received before due.0 due.1 store ∙ ap (λ (a : CommandRecord). File (meta_by request store.context a) store.set) same_asked ∙ ap (λ (xs : List ℕ). File (meta_by request store.context c) xs) same_set in
        let one : file_put (request_record request) m.context c m.set f ≡ due.0 ∷ [] = put (request_record request) m.context c m.set f store.context field ok accepted_here ∙ ap (λ (xs : List ℕ). xs ∷ []) (sym file) in
        (λ x. absurd cc, ap files_in step ∙ reported_put old.reported due.0 due.2.bytes ∙ ap (λ (fs : List (List ℕ)). with_files fs (files_in old)) (sym one), ap (λ (x : Store). x.failures) step ∙ omega arith)
    by _ eq (commit_failed d step) =
        let due = drafted request received before old drafting h d in
        let bad = subst (λ (b : Bool). Verdict depth most store.context c m.set (b || before) f) (sym eq) judged in
        (λ x. (due.1.unfailed, store), kept_files (failed_store bad) (ap files_in step ∙ files_kept old.reported), ap (λ (x : Store). x.failures) step)
    by _ eq (dropped n step) =
        let u = drops_unfiled drafting old new step in
        (λ x. absurd cc, kept_files n u.files, u.count ∙ omega arith)

    pub walked_ends : StoreEnds depth most request m received c before f old new
    walked_ends =
        let r = by ends.failed_then refl ends.draft in
        record {
          failed_then = ends.failed_then;
          may = r.0;
          verdict = λ context accepted. let one : Some store.context ≡ Some context = sym accepted_here ∙ accepted in let same : store.context ≡ context = cc in
              subst (λ (x : Context). Verdict depth most x c m.set (ends.failed_then || before) f) same judged;
          files = r.1;
          count = r.2;
        }

-- the store is answered
pub store_ended : (rooms : Rooms) (s : Settings) (p : Progress) (m : Message) (received : Started) (c : CommandRecord) (f : Finding) (old new : Store) (r : Result (Unit {0}) WireFailed) (lo ln : Line) (id maximum : ℕ)
    → command_in m.command ≡ Ok c → c.field ≡ 0x0001 → id ≡ m.context → maximum ≡ (request_record p.request).maximum → StoreEnds rooms.depth s.max_data p.request m received c p.filing_failed f old new
    → Sends (reply_bytes c f.status f.detail id maximum) r lo ln → Ended rooms s p m received (decision.Replied f.status f.detail) r (devices lo old) (devices ln new)
store_ended rooms s p m received c f old new r lo ln id maximum e field i x ends sends =
    let accepted = context_of (request_record p.request) m.context in
    let is : finding_on accepted c f ≡ f = ap (λ (n : ℕ). if nat_eq n 0x0030 then record { status = echo_status accepted c; detail = None } else f) field in
    let text : reply_bytes c f.status f.detail id maximum ≡ (replied p f m (command_in m.command)).sent =
    ap (λ (g : Finding). reply_bytes c g.status g.detail id maximum) (sym is) ∙ replied_sent p f m c id maximum accepted e refl i x in
    let files : (replied p f m (command_in m.command)).files ≡ file_put (request_record p.request) m.context c m.set f = ap (λ (q : Result CommandRecord DimseFault). (replied p f m q).files) e in
    record {
      finding = f;
      decided_is = ap (λ (g : Finding). decision.Replied g.status g.detail) (sym is) ∙ replied_decided p f m c accepted e refl;
      failed = ends.failed_then;
      may = ends.may;
      verdict = λ d context is one accepted. let same : ◌≡◌ {A = Result CommandRecord DimseFault} (Ok c) (Ok d) = sym e ∙ is in let eq : c ≡ d = cc in
          subst (λ (q : CommandRecord). Verdict rooms.depth s.max_data context q m.set (ends.failed_then || p.filing_failed) f) eq (ends.verdict context accepted);
      sends = subst (λ (t : List ℕ). Sends t r lo ln) text sends;
      due = subst (λ (t : List ℕ). OnErr r (0 < length t)) text (on_failure r _ (reply_some c f.status f.detail id maximum));
      files = ends.files ∙ ap (λ (fs : List (List ℕ)). with_files fs (files_in old)) (sym files);
      count = ends.count;
    }

pub judged_store : (depth most : ℕ) (request : Requested) (m : Message) (received : Started) (c : CommandRecord) (before : Bool) (f : Finding) (old new : Store) (stored : Stored) → Walks depth most request received stored
    → IsDraft request received before old (drafting_in stored) → HasReceived m received → command_in m.command ≡ Ok c → (c.field ≡ 0x0001) × (c.with_data ≡ true)
    → (stored ≡ Nothing → (f ≡ record { status = class_not_supported; detail = None }) × (new ≡ old))
    → EndsAs c f old new stored → StoreEnds depth most request m received c before f old new
judged_store depth most request m received c before f old new stored w h (inr (is, alone)) e (field, with_set) none ends = let wrong : true ≡ false = sym with_set ∙ alone c e in absurd cc
judged_store depth most request m received c before f old new _ (not_walked idle) h (inl is) e (field, with_set) none ends = unwalked_ends depth most request m received c before f old new is e idle (none refl).0 (none refl).1
judged_store depth most request m received c before f old new _ (walked {drafting = drafting} store accepts) h (inl is) e (field, with_set) none ends =
    walked_ends depth most request m received c before f old new is e field store drafting h (ends store.context depth most store.set accepts)

-- a request that is no echo is a store, and has data
pub is_store : (field : ℕ) (announced : Bool) (instance : Option (List ℕ)) → is_request field announced instance ≡ true → (field ≡ 0x0030 → ⊥) → (field ≡ 0x0001) × (announced ≡ true)
is_store field announced None e n = by (nat_eq field 0x0030) refl e where
  by : (t : Bool) → nat_eq field 0x0030 ≡ t → (t && not announced) ≡ true → (field ≡ 0x0001) × (announced ≡ true)
  by true is x = absurd (n (grind (arith, nat_tests)))
  by false is x = absurd cc
is_store field announced (Some instance) e n = by (nat_eq field 0x0001) refl announced e where
  by : (t : Bool) → nat_eq field 0x0001 ≡ t → (d : Bool) → (t && d) ≡ true → (field ≡ 0x0001) × (d ≡ true)
  by true is true x = (grind (arith, nat_tests), refl)
  by true is false x = absurd cc
  by false is d x = absurd cc

-- what a kept maximum is
pub is_maximum : (n : ℕ) → (n < 8 → n ≡ 0) → (n ≡ 0) ⊎ (8 ≤ n)
is_maximum n h = by (nat_lt n 8) refl where
  by : (t : Bool) → nat_lt n 8 ≡ t → (n ≡ 0) ⊎ (8 ≤ n)
  by true e = inl (h (grind (arith, nat_tests)))
  by false e = inr (grind (arith, nat_tests))

-- ---- the message is left

ended_pends : (p : Progress) (old : Kept) (j : Joining) (z : Stored) (store : Store) → Aside old p → old.state ≡ Sta6 → ShowsMessage old.room j NoMessage [] → z ≡ Nothing
    → Pends (record old { join = j; storing = z; state = Sta6 }) store (ended_message p) [] []
ended_pends p old j z store h six quiet none =
    let nil : counted_pdv (ended_message p) [] ≡ [] = if_nothing (accepts_pdvs p) in
    let c = none_carried old.depth old.most z store p.request (with_pdv (counted_pdv (ended_message p) []) NoMessage) false none
    (no_store p.request (with_pdv (counted_pdv (ended_message p) []) NoMessage) (ap (λ (xs : List ℕ). with_pdv xs NoMessage) nil)) in
    record {
      state_is = sym six ∙ h.state_is;
      refused_is = h.refused_is;
      decided_is = h.decided_is;
      body_is = h.body_is;
      join_is = subst (λ (xs : List ℕ). ShowsMessage old.room j NoMessage xs) (sym nil) quiet;
      agreed = h.agreed;
      none_remaining = λ e. refl;
      unagreed = h.unagreed;
      walks = c.0;
      draft = c.1;
      failed_in = λ n e. absurd cc;
    }

pub concludes : (rooms : Rooms) (s : Settings) (p : Progress) (m : Message) (received : Started) (d : Decision) (r : Result (Unit {0}) WireFailed) (old new : Kept) (j : Joining) (z : Stored) (lo ln : Line) (so sm sl sn : Store)
    → Aside old p → old.state ≡ Sta6 → ShowsMessage old.room j NoMessage [] → z ≡ Nothing → Ended rooms s p m received d r (devices lo so) (devices ln sm) → Unfiled sm sl
    → Reaches Sta6 r (record old { join = j; storing = z; decided = d }) new sl sn → Concludes rooms s p m received new (devices lo so) (devices ln sn)
concludes rooms s p m received d (Ok u) old new j z lo ln so sm sl sn h six quiet none e gone settles = record {
  finding = e.finding;
  failed = e.failed;
  wire = None;
  may = e.may;
  verdict = e.verdict;
  fair = tt;
  pends = subst (λ (q : Progress). Pends new sn q [] []) (ap (λ (x : Decision). deciding x (ended_message p)) e.decided_is ∙ sym (replied_next p e.finding m (command_in m.command)))
      (subst (λ (k : Kept). Pends k sn (deciding d (ended_message p)) [] []) (sym (settles.same (ap is_remaining settles.state_is) ∙ ap (λ (st : State). record old { join = j; storing = z; decided = d; state = st }) settles.state_is))
      (pends_decided d (record old { join = j; storing = z; state = Sta6 }) sn (ended_message p) [] [] (ended_pends p old j z sn h six quiet none)));
  line = e.sends;
  files = settles.unfiled.files ∙ gone.files ∙ e.files;
  count = settles.unfiled.count ∙ gone.count ∙ e.count;
}
concludes rooms s p m received d (Err x) old new j z lo ln so sm sl sn h six quiet none e gone settles = record {
  finding = e.finding;
  failed = e.failed;
  wire = Some e.sends.count;
  may = e.may;
  verdict = e.verdict;
  fair = (e.due, e.sends.few);
  pends = subst (λ (y : Decision). Pends new sn (remaining Sta1 (deciding y p)) [] []) e.decided_is (settled_failed p d Sta6 x (record old { join = j; storing = z; decided = d }) new sl sn [] [] refl settles);
  line = e.sends.line;
  files = settles.unfiled.files ∙ gone.files ∙ e.files;
  count = settles.unfiled.count ∙ gone.count ∙ e.count;
}

pub does_concluded : (rooms : Rooms) (s : Settings) (p : Progress) (started : List ℕ) (m : Message) (received : Started) (k : Kept) (old new : Devices) → accepts_pdvs p ≡ true → brought p.message (pdv_of started) ≡ Ends m
    → (InStore p.request received → InStore p.request p.message) → Concludes rooms s p m received k old new → Does rooms s p (At (entry_of started)) k [] [] old new
does_concluded rooms s p started m received k old new consumed e to x =
    let q = absorb x.failed p in
    let is : at_entry rooms s q x.finding (At (entry_of started)) ≡ replied p x.finding m (command_in m.command) =
    pdv_consumed rooms s q x.finding started consumed ∙ pdv_arrives q x.finding started (Ends m) e ∙ replied_absorbed p x.failed x.finding m (command_in m.command) in
    record {
      outcome = record { wire = x.wire; filing = x.failed; finding = x.finding };
      fair = record {
        verdict = verdict_by rooms s p q x.finding started (Ends m) consumed e x.verdict;
        wire = subst (λ (g : Advance). IsFront x.wire g.sent) (sym is) x.fair;
        filing = λ y. ((x.may y).0, inl (to (x.may y).1));
      };
      pends = subst (λ (g : Advance). Pends k new.store (run.cut x.wire p g).next [] []) (sym is) x.pends;
      line = x.line ∙ line_gained x.wire p (replied p x.finding m (command_in m.command)) old.line ∙ ap (λ (g : Advance). line_with (run.cut x.wire p g).sent (fails x.wire) old.line) (sym is);
      files = x.files ∙ ap (λ (fs : List (List ℕ)). with_files fs (files_in old.store)) (sym (files_cut x.wire p (at_entry rooms s q x.finding (At (entry_of started))) ∙ ap (λ (g : Advance). g.files) is));
      count = x.count;
    }
