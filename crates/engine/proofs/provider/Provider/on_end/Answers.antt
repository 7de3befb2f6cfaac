-- By its type and the phase.
use Rattle.std.proofs.Common.{◌≡◌, [], refl, true, false, ap, sym, ◌∙◌, arith}
use Rattle.engine.specs.Phases.{state_in}
use Rattle.acceptor.specs.declared.event.Event.TheVariants as event
use Rattle.pdu.specs.Marks.{End}
use Rattle.decisions.specs.declared.decision.Decision.{Decision}
use Rattle.decisions.specs.declared.decision.Decision.TheVariants as decision
use Rattle.engine.specs.Held.{is_ended}
use Rattle.engine.specs.Timeline.{At}
use Rattle.engine.specs.Progress.{deciding, done, is_established}
use Rattle.engine.proofs.AlongTimelines.NothingAfterTheEnd.{leaves_ended}
use Rattle.engine.proofs.FieldsShow.AfterAnEvent.{decided_there, pends_decided}
use Rattle.engine.specs.Kept.{kept_of, settings_in, body_in}
use Rattle.engine.specs.Run.{rooms_of}
use Rattle.engine.proofs.FieldsShow.TriedIsDone.{stays_abort}
use Rattle.engine.proofs.FieldsShow.ReactionIsPerformed.{leaves_due}
use Rattle.engine.proofs.FieldsShow.KeptInPhases.{unended, unestablished}
use Rattle.engine.proofs.MarksAreDone.WholePdu.{refused_shown, refused_end, consumed_end, whole_abort, whole_release, whole_other, undue, pends_unkept}
use Rattle.engine.proofs.provider.Provider.on_end.Goals as goal

pub returns-in-Ended-clause-due : goal.returns-in-Ended-clause-due
returns-in-Ended-clause-due g c = λ store p body h.
    leaves_ended (rooms_of g.row.A g.row.C g.row.V g.row.D) (settings_in c.args.self.now) p (At (End c.args.kind body)) (kept_of c.args.self.now) store (body_in c.args.kind body) [] [] [] h (ap state_in c.in-Ended.is)

pub returns-then-self-clause-due : goal.returns-then-self-clause-due
returns-then-self-clause-due g c = λ store p body h.
    let k = kept_of c.args.self.now in
    let refused = sym (refused_shown k _ p _ _ h (unended c.args.self.now.phase c.in_default.not-Ended)) ∙ c.if-self.true in
    leaves_due p _ _ k store _ _ (refused_end (rooms_of g.row.A g.row.C g.row.V g.row.D) (settings_in c.args.self.now) p c.args.kind body refused) (pends_unkept k store p c.args.kind body c.requires.unkept h)

pub returns-in-7-clause-due : goal.returns-in-7-clause-due
returns-in-7-clause-due g c = λ store p body h.
    let k = kept_of c.args.self.now in
    let s = settings_in c.args.self.now in
    let consumed = sym (refused_shown k _ p _ _ h (unended c.args.self.now.phase c.in_default.not-Ended)) ∙ c.if-self.false in
    leaves_due (deciding decision.Aborted p) _ _ (record k { decided = decision.Aborted }) store _ _ (consumed_end (rooms_of g.row.A g.row.C g.row.V g.row.D) s p c.args.kind body consumed ∙ whole_abort s p c.args.kind body c.in-7.is
    ∙ ap (λ (d : Decision). done [] 0 (deciding d p) event.Abort) (decided_there p.state p.decided decision.Aborted (ap is_ended (sym h.state_is) ∙ unended c.args.self.now.phase c.in_default.not-Ended)))
    (pends_decided decision.Aborted k store p [] [] (pends_unkept k store p c.args.kind body c.requires.unkept h))

pub returns-in-7-clause-stays : goal.returns-in-7-clause-stays
returns-in-7-clause-stays g c = stays_abort _

pub returns-in-Established : goal.returns-in-Established
returns-in-Established g c = record {
  settings = refl;
  storing = refl;
  stays = ap state_in c.in-Established.is;
  due = λ store p body h.
      let k = kept_of c.args.self.now in
      let s = settings_in c.args.self.now in
      let consumed = sym (refused_shown k _ p _ _ h (unended c.args.self.now.phase c.in_default.not-Ended)) ∙ c.if-self.false in
      leaves_due (deciding decision.Released p) _ _ (record k { decided = decision.Released }) store _ _ (consumed_end (rooms_of g.row.A g.row.C g.row.V g.row.D) s p c.args.kind body consumed ∙ whole_release s p c.args.kind body true c.in-5.is (ap is_established (sym h.state_is ∙ ap state_in c.in-Established.is))) (pends_decided decision.Released k store p [] [] (pends_unkept k store p c.args.kind body c.requires.unkept h));
}

pub returns-in_default-phase : goal.returns-in_default-phase
returns-in_default-phase g c = record {
  settings = refl;
  storing = refl;
  stays = tt;
  due = λ store p body h.
      let k = kept_of c.args.self.now in
      let s = settings_in c.args.self.now in
      let consumed = sym (refused_shown k _ p _ _ h (unended c.args.self.now.phase c.in_default.not-Ended)) ∙ c.if-self.false in
      leaves_due p _ _ k store _ _ (consumed_end (rooms_of g.row.A g.row.C g.row.V g.row.D) s p c.args.kind body consumed ∙ whole_release s p c.args.kind body false c.in-5.is (ap is_established (sym h.state_is) ∙ unestablished c.args.self.now.phase c.in_default-phase.not-Established)) (pends_unkept k store p c.args.kind body c.requires.unkept h);
}

pub returns-in_default-kind-clause-due : goal.returns-in_default-kind-clause-due
returns-in_default-kind-clause-due g c = λ store p body h.
    let k = kept_of c.args.self.now in
    let s = settings_in c.args.self.now in
    let consumed = sym (refused_shown k _ p _ _ h (unended c.args.self.now.phase c.in_default.not-Ended)) ∙ c.if-self.false in
    let seven : c.args.kind ≡ 7 → ⊥ = λ e. omega (arith, e) in
    let five : c.args.kind ≡ 5 → ⊥ = λ e. omega (arith, e) in
    leaves_due p _ _ k store _ _ (consumed_end (rooms_of g.row.A g.row.C g.row.V g.row.D) s p c.args.kind body consumed ∙ whole_other s p c.args.kind body seven (undue k store p c.args.kind _ _ h c.requires.unkept c.if-self.false) five) (pends_unkept k store p c.args.kind body c.requires.unkept h)
