-- The next state and the text are those of the definition from Sta2.
use Rattle.std.proofs.Common.{◌≡◌, ◌∙◌, refl, ap, sym, subst, ℕ, ◌<◌, List, length, OnErr, arith}
use Rattle.acceptor.specs.declared.state.State.{State}
use Rattle.acceptor.specs.declared.state.State.TheVariants.{Sta2}
use Rattle.acceptor.specs.declared.action.Action.{Action}
use Rattle.acceptor.specs.declared.event.Event.TheVariants.{UserAccepts}
use Rattle.acceptor.specs.Table.{table}
use Rattle.pdu.specs.Record.{RequestRecord}
use Rattle.pdu.specs.Sent.{Sends}
use Rattle.pdu.specs.Items.{request_record}
use Rattle.pdu.proofs.Public.{request_fits}
use Rattle.negotiate.specs.declared.answer.Answer.TheVariants.{Accept, Reject}
use Rattle.negotiate.specs.Settings.{settings_of}
use Rattle.negotiate.specs.Answer.{judged}
use Rattle.negotiate.specs.Contexts.{offered}
use Rattle.engine.specs.machine.Accepted.{IsPeerOf}
use Rattle.engine.proofs.MarksAreDone.RowsFit.{few_rows}
use Rattle.engine.proofs.MarksAreDone.WholeRequest.{accepted_state, accepted_sent, accepted_decided, rejection_state, rejection_sent, rejection_decided, invalid_decided}
use Rattle.engine.proofs.requests.answer_request.Goals as goal

pub returns-in-Accept-clause-state : goal.returns-in-Accept-clause-state
returns-in-Accept-clause-state g c =
    let s = settings_of c.args.config.now in
    let none = request_fits c.in-Ok.request c.args.body.now c.in-Ok.ensures.text in
    let accept : judged s (request_record c.args.body.now) ≡ Accept = ap (judged s) (sym c.in-Ok.ensures.record) ∙ sym c.judge.ensures ∙ c.in-Accept.is in
    accepted_state s c.args.body.now Sta2 refl none c.act-asked.result _ c.act-asked.ensures.table c.step-next-in-Accept.ensures.state accept

pub returns-in-Accept-clause-sends : goal.returns-in-Accept-clause-sends
returns-in-Accept-clause-sends g c =
    let s = settings_of c.args.config.now in
    let none = request_fits c.in-Ok.request c.args.body.now c.in-Ok.ensures.text in
    let accept : judged s (request_record c.args.body.now) ≡ Accept = ap (judged s) (sym c.in-Ok.ensures.record) ∙ sym c.judge.ensures ∙ c.in-Accept.is in
    subst (λ (t : List ℕ). Sends t c.step-next-in-Accept.result.1 (g.W.Wire.line c.args.wire.now) (g.W.Wire.line c.step-next-in-Accept.new.wire))
    (accepted_sent s c.args.body.now Sta2 refl none c.act-asked.result c.in-Ok.request c.act-asked.ensures.table c.in-Ok.ensures.record accept) c.step-next-in-Accept.ensures.sends

pub returns-in-Reject-clause-state : goal.returns-in-Reject-clause-state
returns-in-Reject-clause-state g c =
    let s = settings_of c.args.config.now in
    let none = request_fits c.in-Ok.request c.args.body.now c.in-Ok.ensures.text in
    let rejected : judged s (request_record c.args.body.now) ≡ Reject c.in-Reject.result c.in-Reject.source c.in-Reject.reason =
    ap (judged s) (sym c.in-Ok.ensures.record) ∙ sym c.judge.ensures ∙ c.in-Reject.is in
    c.reject-next.ensures.state ∙ rejection_state s c.args.body.now Sta2 refl none c.in-Reject.result c.in-Reject.source c.in-Reject.reason rejected

pub returns-in-Reject-clause-sends : goal.returns-in-Reject-clause-sends
returns-in-Reject-clause-sends g c =
    let s = settings_of c.args.config.now in
    let none = request_fits c.in-Ok.request c.args.body.now c.in-Ok.ensures.text in
    let rejected : judged s (request_record c.args.body.now) ≡ Reject c.in-Reject.result c.in-Reject.source c.in-Reject.reason =
    ap (judged s) (sym c.in-Ok.ensures.record) ∙ sym c.judge.ensures ∙ c.in-Reject.is in
    subst (λ (t : List ℕ). Sends t c.reject-next.result.1 (g.W.Wire.line c.args.wire.now) (g.W.Wire.line c.reject-next.new.wire))
    (rejection_sent s c.args.body.now Sta2 refl none c.in-Reject.result c.in-Reject.source c.in-Reject.reason c.in-Ok.request c.in-Ok.ensures.record rejected) c.reject-next.ensures.sends

pub returns-in-Reject-clause-due : goal.returns-in-Reject-clause-due
returns-in-Reject-clause-due g c =
    let s = settings_of c.args.config.now in
    let none = request_fits c.in-Ok.request c.args.body.now c.in-Ok.ensures.text in
    let rejected : judged s (request_record c.args.body.now) ≡ Reject c.in-Reject.result c.in-Reject.source c.in-Reject.reason =
    ap (judged s) (sym c.in-Ok.ensures.record) ∙ sym c.judge.ensures ∙ c.in-Reject.is in
    subst (λ (t : List ℕ). OnErr c.reject-next.result.1 (0 < length t))
    (rejection_sent s c.args.body.now Sta2 refl none c.in-Reject.result c.in-Reject.source c.in-Reject.reason c.in-Ok.request c.in-Ok.ensures.record rejected) c.reject-next.ensures.due

pub returns-in-Accept-clause-accepted : goal.returns-in-Accept-clause-accepted
returns-in-Accept-clause-accepted g c =
    let additional = (settings_of c.args.config.now).additional in (
      c.step-next-in-Accept.ensures.state ∙ ap (λ (x : Action × State). (table x.1 UserAccepts).1) c.act-asked.ensures.table,
      subst (λ (r : RequestRecord). IsPeerOf c.peer_of-peer.result additional (offered additional r)) c.in-Ok.ensures.record c.peer_of-peer.ensures,
    )

pub returns-in-Accept-clause-room : goal.returns-in-Accept-clause-room
returns-in-Accept-clause-room g c = omega (arith, c.peer_of-peer.ensures.count, few_rows (settings_of c.args.config.now).additional c.in-Ok.request c.args.body.now c.in-Ok.ensures.text)

pub returns-in-Accept-clause-decided : goal.returns-in-Accept-clause-decided
returns-in-Accept-clause-decided g c =
    let s = settings_of c.args.config.now in
    let none = request_fits c.in-Ok.request c.args.body.now c.in-Ok.ensures.text in
    let accept : judged s (request_record c.args.body.now) ≡ Accept = ap (judged s) (sym c.in-Ok.ensures.record) ∙ sym c.judge.ensures ∙ c.in-Accept.is in
    accepted_decided s c.args.body.now Sta2 refl none accept

pub returns-in-Reject-clause-decided : goal.returns-in-Reject-clause-decided
returns-in-Reject-clause-decided g c =
    let s = settings_of c.args.config.now in
    let none = request_fits c.in-Ok.request c.args.body.now c.in-Ok.ensures.text in
    let rejected : judged s (request_record c.args.body.now) ≡ Reject c.in-Reject.result c.in-Reject.source c.in-Reject.reason =
    ap (judged s) (sym c.in-Ok.ensures.record) ∙ sym c.judge.ensures ∙ c.in-Reject.is in
    rejection_decided s c.args.body.now Sta2 refl none c.in-Reject.result c.in-Reject.source c.in-Reject.reason rejected

pub returns-in-Err-clause-decided : goal.returns-in-Err-clause-decided
returns-in-Err-clause-decided g c = invalid_decided (settings_of c.args.config.now) c.args.body.now c.in-Err.fault c.in-Err.ensures.fault
