-- By the context, and by whether the PDV continues with the message.
use Rattle.std.proofs.Common.{◌≡◌, ◌∙◌, ◌&&◌, Bool, not, ap, sym, subst, refl, [], get_or, None, Some}
use Rattle.acceptor.specs.declared.event.Event.TheVariants as event
use Rattle.pdu.specs.declared.head.PdvHead.{PdvHead}
use Rattle.pdu.specs.Heads.{pdv_head_of}
use Rattle.negotiate.specs.Contexts.{context_of}
use Rattle.negotiate.specs.ContextRows.{context_in}
use Rattle.dimse.specs.Messages.{head_refusal}
use Rattle.dimse.specs.declared.unfinished.Unfinished.{Unfinished}
use Rattle.dimse.specs.Joining.{Joining, ShowsMessage, unfinished_of}
use Rattle.engine.specs.Requested.{request_record}
use Rattle.engine.specs.declared.sending.Answering.TheVariants as answering
use Rattle.decisions.specs.declared.decision.Decision.TheVariants as decision
use Rattle.engine.specs.Progress.{deciding, nothing}
use Rattle.engine.specs.Replies.{invalid, user_aborts}
use Rattle.engine.proofs.FieldsShow.AfterAnEvent.{pends_decided}
use Rattle.engine.specs.Kept.{Pends, kept_of, settings_in}
use Rattle.engine.specs.machine.Messages.{with_join}
use Rattle.engine.specs.Run.{rooms_of}
use Rattle.engine.proofs.FieldsShow.NothingCounts.{accepts_shown}
use Rattle.engine.proofs.FieldsShow.TriedIsDone.{stays_invalid, stays_aborts}
use Rattle.engine.proofs.FieldsShow.ReactionIsPerformed.{leaves_due, leaves_refused}
use Rattle.engine.proofs.MarksAreDone.PdvJoined.{head_consumed, head_dropped, head_unaccepted, head_accepted, pends_dropped, context_shown, join_between, judged_none, judged_some, pends_headed, unfinished_kept}
use Rattle.engine.proofs.MarksAreDone.StoreAsked.{not_accepting}
use Rattle.engine.proofs.FieldsShow.KeptInPhases.{refused_pdvs, kept_by, unestablished}
use Rattle.engine.proofs.provider.Provider.on_pdv_head.Goals as goal

pub returns-then-self-clause-due : goal.returns-then-self-clause-due
returns-then-self-clause-due g c = λ store p started six head h.
    let rooms = rooms_of g.row.A g.row.C g.row.V g.row.D in
    let k = kept_of c.args.self.now in
    let dropped = sym (accepts_shown k _ p [] [] h) ∙ refused_pdvs k c.if-self.true in
    leaves_due p _ _ k store _ _ (head_dropped rooms (settings_in c.args.self.now) p _ _ _ dropped) (pends_dropped k _ p [] [] started dropped h)

pub returns-in_default : goal.returns-in_default
returns-in_default g c =
    let k = kept_of c.args.self.now in
    let none = unestablished c.args.self.now.phase c.in_default.not-Established in
    record {
      settings = refl;
      storing = refl;
      stays = tt;
      fits = λ six kept. not_accepting k (ap (λ (t : Bool). t && not k.refused) none) six kept;
      due = λ store p started six head h.
          let rooms = rooms_of g.row.A g.row.C g.row.V g.row.D in
          let dropped = sym (accepts_shown k _ p [] [] h) ∙ ap (λ (t : Bool). t && not k.refused) none in
          leaves_due p _ _ k store _ _ (head_dropped rooms (settings_in c.args.self.now) p _ _ _ dropped) (pends_dropped k _ p [] [] started dropped h);
    }

pub returns-in_default-context-clause-due : goal.returns-in_default-context-clause-due
returns-in_default-context-clause-due g c = rw c.in-Established.is (λ store p started six head h.
    let rooms = rooms_of g.row.A g.row.C g.row.V g.row.D in
    let k = kept_by c.args.self.now c.in-Established.peer c.in-Established.message in
    let consumed = sym (accepts_shown k _ p [] [] h) ∙ ap not c.if-self.false in
    let id : c.args.head.context ≡ get_or started 4 0 = ap (λ (x : PdvHead). x.context) head in
    let none : context_of (request_record p.request) (get_or started 4 0) ≡ None =
    sym (context_shown k _ p [] [] (get_or started 4 0) h consumed) ∙ ap (context_in k.additional k.table) (sym id) ∙ sym c.context.ensures ∙ c.in_default-context.is in
    let d = decision.ContextRefused c.args.head in
    leaves_refused (deciding d p) _ (answering.Abort 6) event.Invalid (record k { decided = d }) store _ _
    (head_consumed rooms (settings_in c.args.self.now) p _ _ _ consumed ∙ head_unaccepted g.row.C p _ (get_or started 4 0) _ none ∙ ap (λ (x : PdvHead). invalid (deciding (decision.ContextRefused x) p)) (sym head)) (pends_decided d k store p [] [] h))

pub returns-in-Err-clause-due : goal.returns-in-Err-clause-due
returns-in-Err-clause-due g c = rw c.in-Established.is (λ store p started six head h.
    let rooms = rooms_of g.row.A g.row.C g.row.V g.row.D in
    let k = kept_by c.args.self.now c.in-Established.peer c.in-Established.message in
    let consumed = sym (accepts_shown k _ p [] [] h) ∙ ap not c.if-self.false in
    let id : c.args.head.context ≡ get_or started 4 0 = ap (λ (x : PdvHead). x.context) head in
    let some : context_of (request_record p.request) (get_or started 4 0) ≡ Some c.in-Some.field-0 =
    sym (context_shown k _ p [] [] (get_or started 4 0) h consumed) ∙ ap (context_in k.additional k.table) (sym id) ∙ sym c.context.ensures ∙ c.in-Some.is in
    let message = join_between k _ p [] h in
    let wrong : head_refusal g.row.C p.message (pdv_head_of started) ≡ Some c.in-Err.fault =
    ap (head_refusal g.row.C p.message) (sym head) ∙ judged_some (head_refusal g.row.C p.message c.args.head) c.in-Err.fault (sym (c.head.ensures.judged p.message message) ∙ c.in-Err.is) in
    let pends : Pends (with_join c.head.new.self k) store p [] [] = subst (λ (j : Joining). Pends (with_join j k) store p [] []) (sym c.in-Err.ensures.refused) h in
    let same : c.unfinished-unfinished.result ≡ unfinished_of p.message =
    c.unfinished-unfinished.ensures ∙ ap (λ (j : Joining). unfinished_of j.message) c.in-Err.ensures.refused ∙ ap unfinished_of message ∙ unfinished_kept p.message in
    let d = decision.FragmentRefused c.args.head c.in-Err.fault c.unfinished-unfinished.result in
    leaves_refused (deciding d p) _ answering.Nothing event.UserAborts (record (with_join c.head.new.self k) { decided = d }) store _ _
    (head_consumed rooms (settings_in c.args.self.now) p _ _ _ consumed ∙ head_accepted g.row.C p _ (get_or started 4 0) _ c.in-Some.field-0 (Some c.in-Err.fault) some wrong
    ∙ ap (λ (x : PdvHead). user_aborts (deciding (decision.FragmentRefused x c.in-Err.fault (unfinished_of p.message)) p)) (sym head)
    ∙ ap (λ (u : Unfinished). user_aborts (deciding (decision.FragmentRefused c.args.head c.in-Err.fault u) p)) (sym same)) (pends_decided d (with_join c.head.new.self k) store p [] [] pends))

pub returns-in-Ok-clause-due : goal.returns-in-Ok-clause-due
returns-in-Ok-clause-due g c = rw c.in-Established.is (λ store p started six head h.
    let rooms = rooms_of g.row.A g.row.C g.row.V g.row.D in
    let k = kept_by c.args.self.now c.in-Established.peer c.in-Established.message in
    let consumed = sym (accepts_shown k _ p [] [] h) ∙ ap not c.if-self.false in
    let id : c.args.head.context ≡ get_or started 4 0 = ap (λ (x : PdvHead). x.context) head in
    let some : context_of (request_record p.request) (get_or started 4 0) ≡ Some c.in-Some.field-0 =
    sym (context_shown k _ p [] [] (get_or started 4 0) h consumed) ∙ ap (context_in k.additional k.table) (sym id) ∙ sym c.context.ensures ∙ c.in-Some.is in
    let message = join_between k _ p [] h in
    let fine : head_refusal g.row.C p.message (pdv_head_of started) ≡ None =
    ap (head_refusal g.row.C p.message) (sym head) ∙ judged_none (head_refusal g.row.C p.message c.args.head) c.in-Ok.field-0 (sym (c.head.ensures.judged p.message message) ∙ c.in-Ok.is) in
    let shows : ShowsMessage g.row.C c.head.new.self p.message started = c.in-Ok.ensures.started p.message started message six head in
    let j = c.head.new.self in
    let d = decision.Fragment c.args.head in
    leaves_due (deciding d p) _ _ (record (with_join j k) { decided = d }) store _ _
    (head_consumed rooms (settings_in c.args.self.now) p _ _ _ consumed ∙ head_accepted g.row.C p _ (get_or started 4 0) _ c.in-Some.field-0 None some fine ∙ ap (λ (x : PdvHead). nothing (deciding (decision.Fragment x) p)) (sym head))
    (pends_decided d (with_join j k) store p [] started (pends_headed k _ p j started six consumed h shows)))

pub returns-in_default-context-clause-stays : goal.returns-in_default-context-clause-stays
returns-in_default-context-clause-stays g c = stays_invalid _

pub returns-in-Err-clause-stays : goal.returns-in-Err-clause-stays
returns-in-Err-clause-stays g c = stays_aborts _
