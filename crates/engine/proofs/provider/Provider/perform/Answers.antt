-- The event's text is sent and the state settles, or the wire fails.
use Rattle.std.proofs.Common.{subst, ◌≡◌, ◌∙◌, ◌<◌, length, OnErr, ap, sym, false}
use Rattle.acceptor.specs.declared.state.State.{State}
use Rattle.acceptor.specs.declared.event.Event.TheVariants.{ReleaseRq}
use Rattle.acceptor.specs.Table.{table}
use Rattle.pdu.specs.Sent.{Sends}
use Rattle.engine.specs.machine.Answers.{answer_text, reason_of}
use Rattle.engine.specs.machine.PerformsReaction.{Reaches, Stays, is_remaining, step_text}
use Rattle.engine.specs.Kept.{kept_of}
use Rattle.engine.proofs.FieldsShow.AfterAnEvent.{happened, not_remaining}
use Rattle.engine.proofs.MarksAreDone.WholeRequest.{release_tries, release_stays}
use Rattle.engine.proofs.FieldsShow.TriedIsDone.{tries_nothing}
use Rattle.engine.proofs.AssociationSize.{phase_small, provider_small}
use Rattle.engine.proofs.provider.Provider.perform.Goals as goal

pub returns-in-Perform-clause-tries : goal.returns-in-Perform-clause-tries
returns-in-Perform-clause-tries g c = rw c.in-Perform.is (λ p body started h.
    let is = c.state.ensures in
    let e = c.in-Perform.event in
    let text = λ (st : State). step_text st e (reason_of c.in-Perform.answering) (answer_text c.in-Perform.answering) in
    let r = c.step-next.result.1 in
    happened p e (reason_of c.in-Perform.answering) (answer_text c.in-Perform.answering) r (kept_of c.args.self.now) (kept_of c.finish.new.self) body started _ _ _ _ h
    (subst (λ (st : State). Stays st e) h.state_is (rw c.in-Perform.is at c.requires.stays))
    (subst (λ (st : State). Reaches st r (kept_of c.args.self.now) (kept_of c.finish.new.self) (g.F.Filing.store c.args.devices.filing.now) (g.F.Filing.store c.finish.new.filing)) (c.step-next.ensures.state ∙ ap (λ (st : State). (table st e).1) is) c.finish.ensures.settles)
    (subst (λ (st : State). Sends (text st) r (g.W.Wire.line c.args.devices.wire.now) (g.W.Wire.line c.step-next.new.wire)) is c.step-next.ensures.sends)
    (subst (λ (st : State). OnErr r (0 < length (text st))) is c.step-next.ensures.due))

pub returns-in-Nothing-clause-tries : goal.returns-in-Nothing-clause-tries
returns-in-Nothing-clause-tries g c = rw c.in-Nothing.is (λ p body started h. tries_nothing p _ body started _ h)

pub returns-in-Perform-clause-same : goal.returns-in-Perform-clause-same
returns-in-Perform-clause-same g c =
    not_remaining c.step-next.result.0 c.step-next.result.1 (kept_of c.args.self.now) (kept_of c.finish.new.self) _ _ c.finish.ensures.settles
    (subst (λ (st : State). is_remaining st ≡ false → st ≡ (kept_of c.args.self.now).state) (sym (c.step-next.ensures.state ∙ ap (λ (st : State). (table st c.in-Perform.event).1) c.state.ensures)) (rw c.in-Perform.is at c.requires.stays))

pub returns-in-Release-clause-tries : goal.returns-in-Release-clause-tries
returns-in-Release-clause-tries g c = rw c.in-Release.is (λ p body started h.
    let six = rw c.in-Release.is at c.requires.stays in
    let asked = c.act-asked in
    let r = c.step-next-in-Release in
    let s = c.finish-in-Release in
    release_tries p asked.result r.result.0 r.result.1 (kept_of c.args.self.now) (kept_of s.new.self) body started _ _ _ _ h six
    (asked.ensures.table ∙ ap (λ (st : State). table st ReleaseRq) (sym six)) r.ensures.state s.ensures.settles r.ensures.sends r.ensures.due)

pub returns-in-Release-clause-same : goal.returns-in-Release-clause-same
returns-in-Release-clause-same g c =
    let r = c.step-next-in-Release in
    not_remaining r.result.0 r.result.1 (kept_of c.args.self.now) (kept_of c.finish-in-Release.new.self) _ _ c.finish-in-Release.ensures.settles (release_stays c.act-asked.result _ _ c.act-asked.ensures.table r.ensures.state)

pub finish-requires-in-Release : goal.finish-requires-in-Release
finish-requires-in-Release g c = (provider_small c.args.self.now, (c.requires.draft, release_stays c.act-asked.result _ _ c.act-asked.ensures.table c.step-next-in-Release.ensures.state))

pub state-requires : goal.state-requires
state-requires g c = phase_small c.args.self.now

pub finish-requires : goal.finish-requires
finish-requires g c = (provider_small c.args.self.now, (c.requires.draft, subst (λ (st : State). is_remaining st ≡ false → st ≡ (kept_of c.args.self.now).state) (sym (c.step-next.ensures.state ∙ ap (λ (st : State). (table st c.in-Perform.event).1) c.state.ensures)) (rw c.in-Perform.is at c.requires.stays)))
