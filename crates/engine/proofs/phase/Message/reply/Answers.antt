-- The reply is that of the definition, and the finding is the verdict.
use Rattle.std.proofs.Common.{◌≡◌, ◌∙◌, ap, sym, Ok}
use Rattle.engine.specs.Requested.{request_record}
use Rattle.negotiate.specs.Contexts.{context_of}
use Rattle.dimse.specs.Reading.{command_in}
use Rattle.negotiate.specs.Settings.{settings_of}
use Rattle.engine.specs.Run.{rooms_of}
use Rattle.engine.specs.StoredData.{stored_of}
use Rattle.engine.specs.machine.Storing.{finding_of}
use Rattle.engine.proofs.MarksAreDone.MessageEnds.{unread_ended, echo_ended, judged_store, store_ended, is_store, is_maximum}
use Rattle.engine.proofs.phase.Message.reply.Goals as goal

pub returns-in_default-clause-ended : goal.returns-in_default-clause-ended
returns-in_default-clause-ended g c = λ A p m received peer has same id walks draft.
    let unread = c.command_of.ensures.invalid c.in_default.is in
    unread_ended (rooms_of A g.row.C g.row.V g.row.D) (settings_of c.args.origin.config.now) p m received _ _ unread.0
    (ap command_in (sym (c.command.ensures.value ∙ same)) ∙ unread.1)

pub returns-then-field-eq-C_ECHO-clause-ended : goal.returns-then-field-eq-C_ECHO-clause-ended
returns-then-field-eq-C_ECHO-clause-ended g c = λ A p m received peer has same id walks draft.
    let e : command_in m.command ≡ Ok c.in-Some.command = ap command_in (sym (c.command.ensures.value ∙ same)) ∙ c.command_of.ensures.valid c.in-Some.command c.in-Some.is in
    let accepted : c.context-accepted.result ≡ context_of (request_record p.request) m.context =
    c.context-accepted.ensures ∙ peer.contexts c.args.origin.context ∙ ap (context_of (request_record p.request)) id in
    echo_ended (rooms_of A g.row.C g.row.V g.row.D) (settings_of c.args.origin.config.now) p m received _ _ _ _ c.in-Some.command c.echo_status-status.result c.args.origin.context c.args.origin.peer.now.max_length c.context-accepted.result
    e (sym c.field.ensures.value ∙ c.if-field-eq-C_ECHO.true) c.echo_status-status.ensures accepted id peer.maximum c.write_response-sent.ensures.sends

pub write_response-sent-requires : goal.write_response-sent-requires
write_response-sent-requires g c = is_maximum c.args.origin.peer.now.max_length c.args.origin.peer.now.answerable

pub write_response-sent-requires-2 : goal.write_response-sent-requires-2
write_response-sent-requires-2 g c = is_maximum c.args.origin.peer.now.max_length c.args.origin.peer.now.answerable

pub returns-clause-drafts : goal.returns-clause-drafts
returns-clause-drafts g c = c.end-ended.ensures.drafts

pub returns-clause-ended : goal.returns-clause-ended
returns-clause-ended g c = λ A p m received peer has same id walks draft.
    let e : command_in m.command ≡ Ok c.in-Some.command = ap command_in (sym (c.command.ensures.value ∙ same)) ∙ c.command_of.ensures.valid c.in-Some.command c.in-Some.is in
    let kind = is_store c.in-Some.command.field c.in-Some.command.with_data c.in-Some.command.instance c.field.ensures.kind (λ echo. c.if-field-eq-C_ECHO.false (c.field.ensures.value ∙ echo)) in
    let f = finding_of c.end-ended.result in
    store_ended (rooms_of A g.row.C g.row.V g.row.D) (settings_of c.args.origin.config.now) p m received c.in-Some.command f _ _ _ _ _ c.args.origin.context c.args.origin.peer.now.max_length e kind.0 id peer.maximum
    (judged_store g.row.D c.args.origin.config.now.max_data p.request m received c.in-Some.command p.filing_failed f _ _ (stored_of c.args.self.now.storing) walks draft has e kind c.end-ended.ensures.unsupported c.end-ended.ensures.ends)
    c.write_response-sent-2.ensures.sends
