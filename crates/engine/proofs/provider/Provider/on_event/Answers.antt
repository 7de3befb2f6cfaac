use Rattle.std.proofs.Common.{refl, ap, sym, ◌∙◌, if◌then◌else◌}
use Rattle.decisions.specs.declared.decision.Decision.TheVariants as decision
use Rattle.decisions.specs.declared.value_end.ValueEnd.{ValueEnd}
use Rattle.engine.specs.Progress.{deciding, nothing}
use Rattle.engine.specs.Reached.{accepts_pdvs}
use Rattle.engine.specs.Replies.{invalid}
use Rattle.engine.specs.Kept.{settings_in}
use Rattle.engine.specs.Run.{rooms_of}
use Rattle.engine.proofs.FieldsShow.AfterAnEvent.{body_fits_then, fragment_fits_then}
use Rattle.engine.proofs.MarksAreDone.WholePdu.{does_request}
use Rattle.engine.proofs.FieldsShow.ReactionIsPerformed.{does_judged}
use Rattle.engine.proofs.FieldsShow.TriedIsDone.{at_bad, at_leftover, remaining_after}
use Rattle.engine.proofs.provider.Provider.on_event.Goals as goal

pub returns-in-PduHead-clause-room : goal.returns-in-PduHead-clause-room
returns-in-PduHead-clause-room g c = rw c.in-PduHead.is (body_fits_then _ _ c.perform.ensures.same _ _ _ c.on_head-due.ensures.fits)

pub returns-in-PduHead-clause-accepts : goal.returns-in-PduHead-clause-accepts
returns-in-PduHead-clause-accepts g c = rw c.in-PduHead.is (λ p h. does_judged _ _ p _ _ _ _ _ _ _ _ tt (c.on_head-due.ensures.due _ p h) c.perform.ensures.tries)

pub returns-in-PdvHead-clause-room : goal.returns-in-PdvHead-clause-room
returns-in-PdvHead-clause-room g c = rw c.in-PdvHead.is (fragment_fits_then _ _ c.perform-in-PdvHead.ensures.same _ c.on_pdv_head-due.ensures.fits)

pub returns-in-PdvHead-clause-accepts : goal.returns-in-PdvHead-clause-accepts
returns-in-PdvHead-clause-accepts g c = rw c.in-PdvHead.is (λ p started six head h. does_judged _ _ p _ _ _ _ _ _ _ _ tt (c.on_pdv_head-due.ensures.due _ p started six head h) c.perform-in-PdvHead.ensures.tries)

pub returns-in-Body-clause-accepts : goal.returns-in-Body-clause-accepts
returns-in-Body-clause-accepts g c = rw c.in-Body.is (refl, λ p body h. c.on_body.ensures.pends _ p body h)

pub returns-in-Fragment-clause-accepts : goal.returns-in-Fragment-clause-accepts
returns-in-Fragment-clause-accepts g c = rw c.in-Fragment.is (λ p started six h. c.on_data.ensures.accepts _ p started six h)

pub returns-in-BadPdv-clause-accepts : goal.returns-in-BadPdv-clause-accepts
returns-in-BadPdv-clause-accepts g c = rw c.in-BadPdv.is (λ p h.
    let x = c.on_invalid-due.ensures.due _ p h in
    does_judged _ _ p _ _ _ _ _ _ _ _ tt (record { shown = x.shown; pends = x.pends; gives = at_bad (rooms_of g.row.A g.row.C g.row.V g.row.D) (settings_in c.args.self.now) p ∙ x.gives }) c.perform-in-BadPdv.ensures.tries)

pub returns-in-Leftover-clause-accepts : goal.returns-in-Leftover-clause-accepts
returns-in-Leftover-clause-accepts g c = rw c.in-Leftover.is (λ p h.
    let x = c.on_invalid-due-in-Leftover.ensures.due _ p h in
    let reported = ap (λ (v : ValueEnd). if accepts_pdvs p then invalid (deciding (decision.Leftover v) p) else nothing p) (sym c.value_end.ensures) in
    does_judged _ _ p _ _ _ _ _ _ _ _ tt (record { shown = x.shown; pends = x.pends; gives = at_leftover (rooms_of g.row.A g.row.C g.row.V g.row.D) (settings_in c.args.self.now) p ∙ remaining_after p c.args.self.now.decided h.decided_is ∙ reported ∙ x.gives }) c.perform-in-Leftover.ensures.tries)

pub returns-then-accepts_body-clause-accepts : goal.returns-then-accepts_body-clause-accepts
returns-then-accepts_body-clause-accepts g c = rw c.in-PduEnd.is (λ p body h. does_request _ _ p _ body _ _ _ _ (sym c.accepts_body.ensures ∙ c.if-accepts_body.true) h c.on_request.ensures.tries)

pub returns-else-accepts_body-clause-accepts : goal.returns-else-accepts_body-clause-accepts
returns-else-accepts_body-clause-accepts g c = rw c.in-PduEnd.is (λ p body h. does_judged _ _ p _ _ _ _ _ _ _ _ tt (c.on_end-due.ensures.due _ p body h) c.perform-else-accepts_body.ensures.tries)
