-- A whole association request is accepted or rejected as its entry says (`request_tries`), and a release request answered
-- (`release_tries`). Stands on FieldsShow and StoresAreKept/DraftAndWalk.
use Rattle.std.proofs.Common.{◌≡◌, ℕ, ◌<◌, ◌≤◌, Bool, true, false, not, ◌&&◌, List, [], length, Option, Some, None, Result, Ok, Err, OnErr, nat_eq, refl, ap, sym, subst, ◌∙◌, if◌then◌else◌, ◌⊎◌, inl, inr}
use Rattle.acceptor.specs.declared.state.State.{State}
use Rattle.acceptor.specs.declared.state.State.TheVariants.{Sta1, Sta2, Sta6, Sta8, Sta13}
use Rattle.acceptor.specs.declared.action.Action.{Action}
use Rattle.acceptor.specs.declared.event.Event.TheVariants as event
use Rattle.acceptor.specs.Table.{table}
use Rattle.pdu.specs.declared.wire.WireFailed.{WireFailed}
use Rattle.pdu.specs.declared.fault.PduFault.{PduFault}
use Rattle.pdu.specs.Sent.{Line, Sends, sent_all, cut_after}
use Rattle.part10.specs.Store.{Store}
use Rattle.dimse.specs.Joining.{ShowsMessage, with_pdv}
use Rattle.pdu.specs.Texts.{release_text}
use Rattle.pdu.specs.Record.{RequestRecord}
use Rattle.pdu.specs.Items.{request_record}
use Rattle.pdu.specs.Refusal.{request_fault}
use Rattle.pdu.specs.Texts.{reject_text}
use Rattle.negotiate.specs.declared.answer.Answer.{Answer}
use Rattle.negotiate.specs.declared.answer.Answer.TheVariants.{Accept, Reject}
use Rattle.negotiate.specs.Settings.{Settings}
use Rattle.negotiate.specs.Answer.{judged}
use Rattle.negotiate.specs.Accept.{accept_text, answer_bytes, text_by}
use Rattle.dimse.specs.Messages.{Started, NoMessage}
use Rattle.engine.specs.Requested as requested
use Rattle.engine.specs.Requested.{Requested}
use Rattle.decisions.specs.declared.decision.Decision.{Decision}
use Rattle.decisions.specs.declared.decision.Decision.TheVariants as decision
use Rattle.engine.specs.Progress.{Progress, Advance, at_start, remaining, deciding, done, is_due, is_established}
use Rattle.engine.specs.Held.{is_ended}
use Rattle.engine.specs.Requests.{keeping, accepting, declined, judged_so, at_request}
use Rattle.engine.specs.Devices.{devices}
use Rattle.engine.specs.Run.{released}
use Rattle.engine.specs.Kept.{Kept, Pends, Agreed, counted_pdv}
use Rattle.engine.specs.StoredData.{Nothing}
use Rattle.engine.specs.machine.PerformsReaction.{PerformsReaction, Reaches, step_text, is_remaining, rejected_state, rejected_text}
use Rattle.engine.proofs.StoresAreKept.DraftAndWalk.{so_far, none_carried}
use Rattle.engine.proofs.FieldsShow.AfterAnEvent.{pends_remaining, settled_failed}
use Rattle.engine.proofs.FieldsShow.TriedIsDone.{none_counted_pdv, if_nothing}
use Rattle.engine.proofs.FieldsShow.NothingCounts.{no_store}
use Rattle.negotiate.specs.Allowed.{Allowed}

-- ---- which of them it is

-- what a request comes to, by its fault and its answer
abbrev by_fault : Settings → List ℕ → Progress → Option PduFault → Answer → Advance
by_fault s body p (Some fault) a = done [] 6 (deciding (decision.RequestInvalid fault) p) event.Invalid
by_fault s body p None a = judged_so s body p a

elim_is : (s : Settings) (p : Progress) (body : List ℕ) (o : Option PduFault) →
    ◌≡◌ {A = Advance} (elim o [ Some fault ↦ done [] 6 (deciding (decision.RequestInvalid fault) p) event.Invalid | None ↦ judged_so s body p (judged s (request_record body)) ])
    (by_fault s body p o (judged s (request_record body)))
elim_is s p body None = refl
elim_is s p body (Some fault) = refl

request_is : (s : Settings) (p : Progress) (body : List ℕ) → at_request s p body ≡ by_fault s body p (request_fault body) (judged s (request_record body))
request_is s p body = elim_is s p body (request_fault body)

module _ (s : Settings) (body : List ℕ) (none : request_fault body ≡ None) where
  good_request : (p : Progress) → at_request s p body ≡ judged_so s body p (judged s (request_record body))
  good_request p = request_is s p body ∙ ap (λ (o : Option PduFault). by_fault s body p o (judged s (request_record body))) none

  pub accepted_request : (p : Progress) → judged s (request_record body) ≡ Accept → at_request s p body ≡ accepting (keeping s body (deciding (decision.RequestJudged Accept) p)) (accept_text s (request_record body))
  accepted_request p e = good_request p ∙ ap (judged_so s body p) e

  pub rejected_request : (p : Progress) (x b c : ℕ) → judged s (request_record body) ≡ Reject x b c
      → at_request s p body ≡ (if nat_eq b 2 then done (reject_text x b c) 0 (keeping s body (deciding (decision.RequestJudged (Reject x b c)) p)) event.UnacceptableRq else declined (keeping s body (deciding (decision.RequestJudged (Reject x b c)) p)) (reject_text x b c))
  rejected_request p x b c e = good_request p ∙ ap (judged_so s body p) e

-- ---- the code's steps from Sta2

module _ (s : Settings) (body : List ℕ) (st : State) (due : st ≡ Sta2) (none : request_fault body ≡ None) where
  pub accepted_state : (x : Action × State) (n : State) → x ≡ table st event.AcceptableRq → n ≡ (table x.1 event.UserAccepts).1 → judged s (request_record body) ≡ Accept
      → n ≡ (at_request s at_start body).next.state
  accepted_state x n e f accept =
      f ∙ ap (λ (y : Action × State). (table y.1 event.UserAccepts).1) e ∙ ap (λ (y : State). (table (table y event.AcceptableRq).1 event.UserAccepts).1) due
      ∙ ap (λ (g : Advance). g.next.state) (sym (accepted_request s body none at_start accept))

  pub accepted_sent : (x : Action × State) (q : RequestRecord) → x ≡ table st event.AcceptableRq → q ≡ request_record body → judged s (request_record body) ≡ Accept
      → step_text x.1 event.UserAccepts 0 (answer_bytes s q) ≡ (at_request s at_start body).sent
  accepted_sent x q e f accept =
      ap (λ (y : Action × State). step_text y.1 event.UserAccepts 0 (answer_bytes s q)) e ∙ ap (λ (y : State). step_text (table y event.AcceptableRq).1 event.UserAccepts 0 (answer_bytes s q)) due
      ∙ ap (λ (r : RequestRecord). answer_bytes s r) f ∙ ap (λ (a : Answer). text_by a s (request_record body)) accept
      ∙ ap (λ (g : Advance). g.sent) (sym (accepted_request s body none at_start accept))

  if_state : (t : Bool) (text : List ℕ) (q : Progress) → q.state ≡ Sta2
      → (if t then (table st event.UnacceptableRq).1 else (table (table st event.AcceptableRq).1 event.UserRefuses).1) ≡ (if t then done text 0 q event.UnacceptableRq else declined q text).next.state
  if_state true text q e = ap (λ (y : State). (table y event.UnacceptableRq).1) due ∙ sym (ap (λ (y : State). (done text 0 (record q { state = y }) event.UnacceptableRq).next.state) e)
  if_state false text q e = ap (λ (y : State). (table (table y event.AcceptableRq).1 event.UserRefuses).1) due ∙ sym (ap (λ (y : State). (declined (record q { state = y }) text).next.state) e)

  if_sent : (t : Bool) (text : List ℕ) (q : Progress) → q.state ≡ Sta2
      → (if t then step_text st event.UnacceptableRq 0 text else step_text (table st event.AcceptableRq).1 event.UserRefuses 0 text) ≡ (if t then done text 0 q event.UnacceptableRq else declined q text).sent
  if_sent true text q e = ap (λ (y : State). step_text y event.UnacceptableRq 0 text) due ∙ sym (ap (λ (y : State). (done text 0 (record q { state = y }) event.UnacceptableRq).sent) e)
  if_sent false text q e = ap (λ (y : State). step_text (table y event.AcceptableRq).1 event.UserRefuses 0 text) due ∙ sym (ap (λ (y : State). (declined (record q { state = y }) text).sent) e)

  pub rejection_state : (x b c : ℕ) → judged s (request_record body) ≡ Reject x b c → rejected_state st b ≡ (at_request s at_start body).next.state
  rejection_state x b c e = if_state (nat_eq b 2) (reject_text x b c) (keeping s body (deciding (decision.RequestJudged (Reject x b c)) at_start)) refl ∙ ap (λ (g : Advance). g.next.state) (sym (rejected_request s body none at_start x b c e))

  pub rejection_sent : (x b c : ℕ) (q : RequestRecord) → q ≡ request_record body → judged s (request_record body) ≡ Reject x b c → rejected_text st b (answer_bytes s q) ≡ (at_request s at_start body).sent
  rejection_sent x b c q f e =
      ap (λ (r : RequestRecord). rejected_text st b (answer_bytes s r)) f ∙ ap (λ (a : Answer). rejected_text st b (text_by a s (request_record body))) e
      ∙ if_sent (nat_eq b 2) (reject_text x b c) (keeping s body (deciding (decision.RequestJudged (Reject x b c)) at_start)) refl ∙ ap (λ (g : Advance). g.sent) (sym (rejected_request s body none at_start x b c e))

  -- what is decided, whatever it is
  if_decided : (t : Bool) (text : List ℕ) (d : Decision) → d ≡ (if t then done text 0 (keeping s body (deciding d at_start)) event.UnacceptableRq else declined (keeping s body (deciding d at_start)) text).next.decided
  if_decided true text d = refl
  if_decided false text d = refl

  pub rejection_decided : (x b c : ℕ) → judged s (request_record body) ≡ Reject x b c → decision.RequestJudged (Reject x b c) ≡ (at_request s at_start body).next.decided
  rejection_decided x b c e = if_decided (nat_eq b 2) (reject_text x b c) (decision.RequestJudged (Reject x b c)) ∙ ap (λ (g : Advance). g.next.decided) (sym (rejected_request s body none at_start x b c e))

  pub accepted_decided : judged s (request_record body) ≡ Accept → decision.RequestJudged Accept ≡ (at_request s at_start body).next.decided
  accepted_decided e = ap (λ (g : Advance). g.next.decided) (sym (accepted_request s body none at_start e))

pub invalid_decided : (s : Settings) (body : List ℕ) (fault : PduFault) → request_fault body ≡ Some fault → decision.RequestInvalid fault ≡ (at_request s at_start body).next.decided
invalid_decided s body fault e =
    ap (λ (o : Option PduFault). (by_fault s body at_start o (judged s (request_record body))).next.decided) (sym e) ∙ ap (λ (g : Advance). g.next.decided) (sym (request_is s at_start body))

-- ---- in any progress that awaits a request

-- a request to a receiver that accepts these further storage classes
abbrev pub asked : Allowed → List ℕ → Requested
asked additional body = record { additional = additional; body = body }

-- the association is left, or established with this request
abbrev pub LeavesOrStands : Allowed → List ℕ → Progress → Advance → Advance → Type 0
LeavesOrStands additional body p g first =
    (g.sent ≡ first.sent) × (g.files ≡ []) × (((first.next.state ≡ Sta13) × (g.next ≡ remaining Sta13 (deciding first.next.decided p)))
    ⊎ ((first.next.state ≡ Sta6) × (g.next ≡ record p { state = Sta6; request = asked additional body; decided = first.next.decided })))

rejects : (s : Settings) (body : List ℕ) (p : Progress) (d : Decision) (t : Bool) (text : List ℕ) → p.state ≡ Sta2
    → LeavesOrStands s.additional body p (if t then done text 0 (keeping s body (deciding d p)) event.UnacceptableRq else declined (keeping s body (deciding d p)) text)
    (if t then done text 0 (keeping s body (deciding d at_start)) event.UnacceptableRq else declined (keeping s body (deciding d at_start)) text)
rejects s body p d true text e = subst (λ (y : State). LeavesOrStands s.additional body (record p { state = y }) (done text 0 (keeping s body (deciding d (record p { state = y }))) event.UnacceptableRq) (done text 0 (keeping s body (deciding d at_start)) event.UnacceptableRq)) (sym e) (refl, refl, inl (refl, refl))
rejects s body p d false text e = subst (λ (y : State). LeavesOrStands s.additional body (record p { state = y }) (declined (keeping s body (deciding d (record p { state = y }))) text) (declined (keeping s body (deciding d at_start)) text)) (sym e) (refl, refl, inl (refl, refl))

reaches : (s : Settings) (body : List ℕ) (p : Progress) (o : Option PduFault) (a : Answer) → p.state ≡ Sta2 → LeavesOrStands s.additional body p (by_fault s body p o a) (by_fault s body at_start o a)
reaches s body p (Some f) a e = subst (λ (y : State). LeavesOrStands s.additional body (record p { state = y }) (by_fault s body (record p { state = y }) (Some f) a) (by_fault s body at_start (Some f) a)) (sym e) (refl, refl, inl (refl, refl))
reaches s body p None Accept e = subst (λ (y : State). LeavesOrStands s.additional body (record p { state = y }) (by_fault s body (record p { state = y }) None Accept) (by_fault s body at_start None Accept)) (sym e) (refl, refl, inr (refl, refl))
reaches s body p None (Reject x b c) e = rejects s body p (decision.RequestJudged (Reject x b c)) (nat_eq b 2) (reject_text x b c) e

pub request_arrives : (s : Settings) (body : List ℕ) (p : Progress) → p.state ≡ Sta2 → LeavesOrStands s.additional body p (at_request s p body) (at_request s at_start body)
request_arrives s body p e =
    subst (λ (g : Advance). LeavesOrStands s.additional body p g (at_request s at_start body)) (sym (request_is s p body))
    (subst (λ (g : Advance). LeavesOrStands s.additional body p (by_fault s body p (request_fault body) (judged s (request_record body))) g) (sym (request_is s at_start body))
    (reaches s body p (request_fault body) (judged s (request_record body)) e))

-- the association is established with this request, and nothing of a message has come
pub record IsEstablishedBy (kept : Kept) (r : RequestRecord) : Type 0 where
  pub body : kept.body ≡ []
  pub join : ShowsMessage kept.room kept.join NoMessage []
  pub storing : kept.storing ≡ Nothing
  pub agreed : Agreed kept.caller kept.peer_max kept.table kept.additional r

not_consumed : (st : State) (r : Bool) → ◌≡◌ {A = List ℕ} (if is_established st && not r then [] else []) []
not_consumed st r = if_nothing (is_established st && not r)

pends_due : (p : Progress) (old : Kept) (store : Store) (body : List ℕ) → Pends old store p body [] → old.state ≡ Sta2 → p.refused ≡ false → old.body ≡ body
pends_due p old store body h due r =
    h.body_is ∙ ap (λ (y : State). if is_due y && not p.refused then body else []) (sym h.state_is ∙ due) ∙ ap (λ (t : Bool). if not t then body else []) r

-- no message has started where none was received
quiet_between : (p : Progress) → p.message ≡ NoMessage → so_far p [] ≡ NoMessage
quiet_between p none = ap (λ (xs : List ℕ). with_pdv xs p.message) (none_counted_pdv p) ∙ none

stood : (additional : Allowed) (p : Progress) (d : Decision) (body : List ℕ) (old given new : Kept) (store : Store) → Pends old store p body [] → old.state ≡ Sta2 → given.refused ≡ old.refused → given.decided ≡ d
    → new ≡ record given { state = Sta6 } → IsEstablishedBy given (requested.request_record (asked additional body)) → Pends new store (record p { state = Sta6; request = asked additional body; decided = d }) body []
stood additional p d body old given new store h due same reported is fresh =
    let q = record p { state = Sta6; request = asked additional body; decided = d } in
    let two : p.state ≡ Sta2 = sym h.state_is ∙ due in
    let none = h.none_remaining (ap is_established two) in
    let c = none_carried given.depth given.most given.storing store (asked additional body) (so_far q []) p.filing_failed fresh.storing (no_store (asked additional body) (so_far q []) (quiet_between q none)) in
    subst (λ (k : Kept). Pends k store q body []) (sym is)
    (record {
      state_is = refl;
      refused_is = λ n. same ∙ h.refused_is (ap is_ended two);
      decided_is = reported;
      body_is = fresh.body;
      join_is = subst (λ (m : Started). ShowsMessage given.room given.join m (counted_pdv q [])) (sym none) (subst (λ (xs : List ℕ). ShowsMessage given.room given.join NoMessage xs) (sym (not_consumed Sta6 p.refused)) fresh.join);
      agreed = λ six. fresh.agreed;
      none_remaining = λ e. none;
      unagreed = λ e. absurd cc;
      walks = c.0;
      draft = c.1;
      failed_in = λ n e. absurd (no_store p.request p.message none (h.failed_in (ap is_ended two) e));
    })

-- the request that is whole was answered, or the wire failed
module _ (additional : Allowed) (p : Progress) (g first : Advance) (body : List ℕ) (n : State) (old given new : Kept) (lo ln : Line) (so sn : Store) where
  answered_decided : LeavesOrStands additional body p g first → g.next.decided ≡ first.next.decided
  answered_decided (sent, files, inl (st, is)) = ap (λ (q : Progress). q.decided) is
  answered_decided (sent, files, inr (st, is)) = ap (λ (q : Progress). q.decided) is

  pends_answered : Pends old so p body [] → old.state ≡ Sta2 → given.refused ≡ old.refused → given.decided ≡ first.next.decided → LeavesOrStands additional body p g first → n ≡ first.next.state → Reaches n (Ok tt) given new so sn
      → (n ≡ Sta6 → IsEstablishedBy given (requested.request_record (asked additional body))) → Pends new sn g.next body []
  pends_answered h due same reported (sent, files, inl (st, is)) e settles fresh =
      let gone : is_remaining new.state ≡ true = ap is_remaining (settles.state_is ∙ e ∙ st) in
      subst (λ (q : Progress). Pends new sn q body []) (sym is)
      (pends_remaining Sta13 (deciding first.next.decided p) new sn body [] refl (settles.state_is ∙ e ∙ st) (settles.refused ∙ same ∙ h.refused_is (ap is_ended (sym h.state_is ∙ due))) (settles.decided ∙ reported) (settles.remaining gone))
  pends_answered h due same reported (sent, files, inr (st, is)) e settles fresh =
      let six : new.state ≡ Sta6 = settles.state_is ∙ e ∙ st in
      subst (λ (x : Store). Pends new x g.next body []) (sym (settles.store_same (ap is_remaining six)))
      (subst (λ (q : Progress). Pends new so q body []) (sym is)
      (stood additional p first.next.decided body old given new so h due same reported (settles.same (ap is_remaining six) ∙ ap (λ (y : State). record given { state = y }) six) (fresh (e ∙ st))))

  tries_answered : (r : Result (Unit {0}) WireFailed) → Pends old so p body [] → old.state ≡ Sta2 → given.refused ≡ old.refused → given.decided ≡ first.next.decided → LeavesOrStands additional body p g first → n ≡ first.next.state → Reaches n r given new so sn
      → (n ≡ Sta6 → IsEstablishedBy given (requested.request_record (asked additional body)))
      → Sends first.sent r lo ln → OnErr r (0 < length first.sent) → PerformsReaction p g new body [] (devices lo so) (devices ln sn)
  tries_answered (Ok u) h due same reported c e settles fresh sends some =
      record { wire = None; fair = tt; pends = pends_answered h due same reported c e settles fresh; line = sends ∙ ap (λ (t : List ℕ). sent_all t lo) (sym c.0); unfiled = settles.unfiled }
  tries_answered (Err f) h due same reported c e settles fresh sends some =
      record {
        wire = Some sends.count;
        fair = subst (λ (t : List ℕ). (0 < length t) × (sends.count ≤ length t)) (sym c.0) (some, sends.few);
        pends = subst (λ (d : Decision). Pends new sn (remaining Sta1 (deciding d p)) body []) (sym (answered_decided c)) (settled_failed p first.next.decided n f given new so sn body [] reported settles);
        line = sends.line ∙ ap (λ (t : List ℕ). cut_after sends.count t lo) (sym c.0);
        unfiled = settles.unfiled;
      }

-- `given` is what is kept before the answer's result is known
pub request_tries : (s : Settings) (p : Progress) (body : List ℕ) (n : State) (r : Result (Unit {0}) WireFailed) (old given new : Kept) (lo ln : Line) (so sn : Store)
    → Pends old so p body [] → old.state ≡ Sta2 → p.refused ≡ false → given.refused ≡ old.refused → given.decided ≡ (at_request s at_start old.body).next.decided → n ≡ (at_request s at_start old.body).next.state → Reaches n r given new so sn
    → (n ≡ Sta6 → IsEstablishedBy given (requested.request_record (asked s.additional old.body)))
    → Sends (at_request s at_start old.body).sent r lo ln → OnErr r (0 < length (at_request s at_start old.body).sent)
    → PerformsReaction p (at_request s p body) new body [] (devices lo so) (devices ln sn)
request_tries s p body n r old given new lo ln so sn h due unrefused kept reported state settles fresh sends some =
    let same = pends_due p old so body h due unrefused in
    tries_answered s.additional p (at_request s p body) (at_request s at_start body) body n old given new lo ln so sn r h due kept (reported ∙ ap (λ (b : List ℕ). (at_request s at_start b).next.decided) same) (request_arrives s body p (sym h.state_is ∙ due))
    (state ∙ ap (λ (b : List ℕ). (at_request s at_start b).next.state) same) settles
    (λ six. subst (λ (b : List ℕ). IsEstablishedBy given (requested.request_record (asked s.additional b))) same (fresh six))
    (subst (λ (b : List ℕ). Sends (at_request s at_start b).sent r lo ln) same sends)
    (subst (λ (b : List ℕ). OnErr r (0 < length (at_request s at_start b).sent)) same some)

-- ---- a release

tries_remaining : (p : Progress) (g : Advance) (n : State) (r : Result (Unit {0}) WireFailed) (old new : Kept) (body started : List ℕ) (lo ln : Line) (so sn : Store) → Pends old so p body started → p.state ≡ Sta6
    → n ≡ Sta13 → g.next ≡ remaining Sta13 p → Reaches n r old new so sn → Sends g.sent r lo ln → OnErr r (0 < length g.sent) → PerformsReaction p g new body started (devices lo so) (devices ln sn)
tries_remaining p g n (Ok u) old new body started lo ln so sn h six e next settles sends some =
    let gone : is_remaining new.state ≡ true = ap is_remaining (settles.state_is ∙ e) in
    record {
      wire = None;
      fair = tt;
      pends = subst (λ (q : Progress). Pends new sn q body started) (sym next)
          (pends_remaining Sta13 p new sn body started refl (settles.state_is ∙ e) (settles.refused ∙ h.refused_is (ap is_ended six)) (settles.decided ∙ h.decided_is) (settles.remaining gone));
      line = sends;
      unfiled = settles.unfiled;
    }
tries_remaining p g n (Err f) old new body started lo ln so sn h six e next settles sends some =
    record { wire = Some sends.count; fair = (some, sends.few); pends = settled_failed p g.next.decided n f old new so sn body started (h.decided_is ∙ sym (ap (λ (q : Progress). q.decided) next)) settles; line = sends.line; unfiled = settles.unfiled }

release_arrives : (p : Progress) → p.state ≡ Sta6 → ((released p).next ≡ remaining Sta13 p) × ((released p).sent ≡ release_text)
release_arrives p e = subst (λ (y : State). ((released (record p { state = y })).next ≡ remaining Sta13 (record p { state = y })) × ((released (record p { state = y })).sent ≡ release_text)) (sym e) (refl, refl)

pub release_tries : (p : Progress) (x : Action × State) (n : State) (r : Result (Unit {0}) WireFailed) (old new : Kept) (body started : List ℕ) (lo ln : Line) (so sn : Store) → Pends old so p body started → old.state ≡ Sta6
    → x ≡ table old.state event.ReleaseRq → n ≡ (table x.1 event.UserReleases).1 → Reaches n r old new so sn → Sends (step_text x.1 event.UserReleases 0 []) r lo ln
    → OnErr r (0 < length (step_text x.1 event.UserReleases 0 [])) → PerformsReaction p (released p) new body started (devices lo so) (devices ln sn)
release_tries p x n r old new body started lo ln so sn h six e f settles sends some =
    let c = release_arrives p (sym h.state_is ∙ six) in
    let asked : x.1 ≡ Sta8 = ap (λ (y : Action × State). y.1) e ∙ ap (λ (y : State). (table y event.ReleaseRq).1) six in
    let state : n ≡ Sta13 = f ∙ ap (λ (y : State). (table y event.UserReleases).1) asked in
    let text : step_text x.1 event.UserReleases 0 [] ≡ (released p).sent = ap (λ (y : State). step_text y event.UserReleases 0 []) asked ∙ sym c.1 in
    tries_remaining p (released p) n r old new body started lo ln so sn h (sym h.state_is ∙ six) state c.0 settles (subst (λ (t : List ℕ). Sends t r lo ln) text sends) (subst (λ (t : List ℕ). OnErr r (0 < length t)) text some)

-- it leaves the association
pub release_stays : (x : Action × State) (n st : State) → x ≡ table Sta6 event.ReleaseRq → n ≡ (table x.1 event.UserReleases).1 → is_remaining n ≡ false → n ≡ st
release_stays x n st e f l =
    let thirteen : n ≡ Sta13 = f ∙ ap (λ (y : Action × State). (table y.1 event.UserReleases).1) e in
    let wrong : is_remaining Sta13 ≡ false = sym (ap is_remaining thirteen) ∙ l in absurd cc
