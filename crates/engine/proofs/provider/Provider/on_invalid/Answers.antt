-- Where PDVs count the PDU is invalid, else nothing is due.
use Rattle.std.proofs.Common.{Bool, [], sym, ◌∙◌, ap, if◌then◌else◌}
use Rattle.acceptor.specs.declared.event.Event.TheVariants.{Invalid}
use Rattle.engine.specs.declared.sending.Answering.TheVariants.{Abort}
use Rattle.engine.specs.Progress.{deciding, nothing}
use Rattle.engine.specs.Replies.{invalid}
use Rattle.engine.specs.Kept.{kept_of}
use Rattle.engine.proofs.FieldsShow.AfterAnEvent.{pends_decided}
use Rattle.engine.proofs.FieldsShow.NothingCounts.{accepts_shown}
use Rattle.engine.proofs.FieldsShow.TriedIsDone.{stays_invalid}
use Rattle.engine.proofs.FieldsShow.ReactionIsPerformed.{leaves_due, leaves_refused}
use Rattle.engine.proofs.AssociationSize.{provider_small}
use Rattle.engine.proofs.provider.Provider.on_invalid.Goals as goal

pub returns-then-not-accepts_pdvs-clause-due : goal.returns-then-not-accepts_pdvs-clause-due
returns-then-not-accepts_pdvs-clause-due g c = λ store p h.
    let k = kept_of c.args.self.now in
    let dropped = sym (accepts_shown k store p _ _ h) ∙ sym c.accepts_pdvs.ensures ∙ c.if-not-accepts_pdvs.true in
    leaves_due p _ _ k store _ _ (ap (λ (t : Bool). if t then invalid (deciding c.args.decided p) else nothing p) dropped) h

pub returns-clause-due : goal.returns-clause-due
returns-clause-due g c = λ store p h.
    let k = kept_of c.args.self.now in
    let d = c.args.decided in
    let consumed = sym (accepts_shown k store p _ _ h) ∙ sym c.accepts_pdvs.ensures ∙ c.if-not-accepts_pdvs.false in
    leaves_refused (deciding d p) _ (Abort 6) Invalid (record k { decided = d }) store _ _ (ap (λ (t : Bool). if t then invalid (deciding d p) else nothing p) consumed) (pends_decided d k store p [] [] h)

pub returns-clause-stays : goal.returns-clause-stays
returns-clause-stays g c = stays_invalid _

pub accepts_pdvs-requires : goal.accepts_pdvs-requires
accepts_pdvs-requires g c = provider_small c.args.self.now
