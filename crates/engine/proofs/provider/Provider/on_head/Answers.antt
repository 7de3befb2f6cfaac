-- The judged head is what the entry gives.
use Rattle.std.proofs.Common.{◌≡◌, ℕ, ◌∙◌, ◌-◌, [], ap, sym, subst, false}
use Rattle.acceptor.specs.declared.state.State.{State}
use Rattle.acceptor.specs.declared.event.Event.TheVariants as event
use Rattle.part10.specs.Store.{Store}
use Rattle.engine.specs.declared.sending.Answering.TheVariants as answering
use Rattle.engine.specs.Heads.{head_event}
use Rattle.engine.specs.Held.{is_ended}
use Rattle.engine.specs.Phases.{state_in}
use Rattle.engine.specs.Progress.{Progress, done, refusing}
use Rattle.engine.specs.Timeline.{At}
use Rattle.pdu.specs.Marks.{Head}
use Rattle.engine.specs.Kept.{Kept, Pends, kept_of, settings_in}
use Rattle.engine.specs.machine.Messages.{with_body}
use Rattle.engine.specs.machine.PerformsReaction.{Stays}
use Rattle.engine.specs.machine.HeadEvents.{brings}
use Rattle.engine.specs.Run.{rooms_of}
use Rattle.decisions.specs.declared.decision.Decision.{Decision}
use Rattle.decisions.specs.declared.decision.Decision.TheVariants as decision
use Rattle.engine.proofs.AlongTimelines.NothingAfterTheEnd.{leaves_ended}
use Rattle.engine.proofs.FieldsShow.AfterAnEvent.{decided_there, pends_begins, pends_decided}
use Rattle.engine.proofs.FieldsShow.KeptInPhases.{unended}
use Rattle.engine.proofs.MarksAreDone.PduHead.{headed, head_nothing, head_at_once, head_rejected}
use Rattle.engine.proofs.FieldsShow.ReactionIsPerformed.{leaves_due, leaves_refused}
use Rattle.engine.proofs.provider.Provider.on_head.Goals as goal

-- a PDU begins, and no part of a body has come
started_pends : (old new : Kept) (store : Store) (p : Progress) (d : Decision) → is_ended old.state ≡ false → new ≡ with_body [] old → Pends old store p [] [] → Pends (record new { refused = false; decided = d }) store (headed p d) [] []
started_pends old new store p d live e h =
    subst (λ (x : Decision). Pends (record new { refused = false; decided = d }) store (record p { refused = false; decided = x }) [] []) (sym (decided_there p.state p.decided d (ap is_ended (sym h.state_is) ∙ live)))
    (pends_decided d _ store _ [] [] (subst (λ (k : Kept). Pends (record k { refused = false }) store (record p { refused = false }) [] []) (sym e) (pends_begins old store p h)))

pub returns-in-Ended-clause-due : goal.returns-in-Ended-clause-due
returns-in-Ended-clause-due g c = λ store p h.
    leaves_ended (rooms_of g.row.A g.row.C g.row.V g.row.D) (settings_in c.args.self.now) p (At (Head c.args.kind c.args.length)) (kept_of c.args.self.now) store [] [] [] [] h (ap state_in c.in-Ended.is)

pub returns-in-Nothing-clause-due : goal.returns-in-Nothing-clause-due
returns-in-Nothing-clause-due g c = λ store p h.
    leaves_due (headed p decision.Nothing) _ _ _ store _ _ (head_nothing (rooms_of g.row.A g.row.C g.row.V g.row.D) (settings_in c.args.self.now) p c.args.kind c.args.length
    (ap (λ (st : State). head_event (g.row.A - 12) (settings_in c.args.self.now).max_pdu st c.args.kind c.args.length) (sym h.state_is ∙ sym c.state-state.ensures) ∙ sym c.head_event-event.ensures.brings ∙ ap brings c.in-Nothing.is))
    (started_pends _ _ store p _ (unended c.args.self.now.phase c.in_default.not-Ended) c.clear_body.ensures.kept h)

pub returns-in-AtOnce-clause-due : goal.returns-in-AtOnce-clause-due
returns-in-AtOnce-clause-due g c = λ store p h.
    leaves_refused (headed p (decision.PduRefused (record { kind = c.args.kind; length = c.args.length }) c.in-AtOnce.fault)) _ (answering.Abort c.abort_reason.result) c.in-AtOnce.event (record (kept_of c.clear_body.new.self) { refused = false; decided = decision.PduRefused (record { kind = c.args.kind; length = c.args.length }) c.in-AtOnce.fault }) store _ _ (head_at_once (rooms_of g.row.A g.row.C g.row.V g.row.D) (settings_in c.args.self.now) p c.args.kind c.args.length c.in-AtOnce.event c.in-AtOnce.fault
    (ap (λ (st : State). head_event (g.row.A - 12) (settings_in c.args.self.now).max_pdu st c.args.kind c.args.length) (sym h.state_is ∙ sym c.state-state.ensures) ∙ sym c.head_event-event.ensures.brings ∙ ap brings c.in-AtOnce.is)
    ∙ ap (λ (r : ℕ). refusing (done [] r (headed p (decision.PduRefused (record { kind = c.args.kind; length = c.args.length }) c.in-AtOnce.fault)) c.in-AtOnce.event)) (sym c.abort_reason.ensures))
    (started_pends _ _ store p _ (unended c.args.self.now.phase c.in_default.not-Ended) c.clear_body.ensures.kept h)

pub returns-in-TooLong-clause-due : goal.returns-in-TooLong-clause-due
returns-in-TooLong-clause-due g c = λ store p h.
    leaves_refused (headed p (decision.RequestTooLong c.args.length)) _ answering.TooLong event.UnacceptableRq (record (kept_of c.clear_body.new.self) { refused = false; decided = decision.RequestTooLong c.args.length }) store _ _ (head_rejected (rooms_of g.row.A g.row.C g.row.V g.row.D) (settings_in c.args.self.now) p c.args.kind c.args.length
    (ap (λ (st : State). head_event (g.row.A - 12) (settings_in c.args.self.now).max_pdu st c.args.kind c.args.length) (sym h.state_is ∙ sym c.state-state.ensures) ∙ sym c.head_event-event.ensures.brings ∙ ap brings c.in-TooLong.is))
    (started_pends _ _ store p _ (unended c.args.self.now.phase c.in_default.not-Ended) c.clear_body.ensures.kept h)

pub returns-in-AtOnce-clause-stays : goal.returns-in-AtOnce-clause-stays
returns-in-AtOnce-clause-stays g c =
    subst (λ (st : State). Stays st c.in-AtOnce.event) (c.state-state.ensures ∙ sym (ap (λ (k : Kept). k.state) c.clear_body.ensures.kept)) (c.head_event-event.ensures.stays c.in-AtOnce.event c.in-AtOnce.fault c.in-AtOnce.is)
