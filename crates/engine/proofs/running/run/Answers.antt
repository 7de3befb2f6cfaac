-- One turn after another, and the report.
use Rattle.std.proofs.Common.{◌≡◌, ◌≢◌, true, false, ◌∙◌, refl, arith, sym, ap}
use Rattle.negotiate.specs.Settings.{settings_of}
use Rattle.acceptor.specs.declared.state.State.TheVariants.{Sta1}
use Rattle.engine.specs.Fields.{state_of}
use Rattle.engine.specs.Held.{is_ended}
use Rattle.engine.specs.Run.{rooms_of}
use Rattle.engine.proofs.FieldsShow.ByState.{ended_is}
use Rattle.engine.proofs.WholeRun.OneTurnMore.{turns_begin, one_turn_more, turns_are_a_run, consumed_set, reports_set}
use Rattle.engine.proofs.AssociationSize.{association_small}
use Rattle.engine.proofs.running.run.Goals as goal
use Rattle.engine.proofs.running.run.Goals.{else-loop-turn-test, then-loop-turn-test+then-over}

pub loop-turn-init : goal.loop-turn-init
loop-turn-init g c = record {
  settings = c.open-association.ensures.settings;
  there = λ e. absurd (let wrong : true ≡ false = sym e ∙ c.open-association.ensures.no_draft in cc);
  consumes = turns_begin (rooms_of g.row.A g.row.C g.row.V g.row.D) (settings_of c.args.config.now) _ _ _ (c.open-association.ensures.stands _);
}

pub loop-turn-preserved : goal.loop-turn-preserved
loop-turn-preserved g c =
    let rooms = rooms_of g.row.A g.row.C g.row.V g.row.D in
    let s = settings_of c.args.config.now in
    let i = c.loop-turn.invariant in
    let open_still : state_of c.loop-turn.association ≢ Sta1 = λ e. absurd (let wrong : true ≡ false = sym (ap is_ended e) ∙ sym c.is_ended-over.ensures.ended ∙ c.if-over.false in cc) in
    record {
      settings = c.take_next.ensures.settings ∙ i.settings;
      there = c.take_next.ensures.draft;
      consumes = one_turn_more rooms s _ _ _ _ _ _ _ _ _ open_still i.consumes (consumed_set rooms _ s _ _ _ _ _ _ i.settings c.take_next.ensures.consumes);
    }

pub returns-clause-ran : goal.returns-clause-ran
returns-clause-ran g c =
    let rooms = rooms_of g.row.A g.row.C g.row.V g.row.D in
    let s = settings_of c.args.config.now in
    let i = c.loop-turn.invariant in
    turns_are_a_run rooms s _ _ _ _ _ _ _ _ _ i.consumes (omega (arith, c.loop-turn.auto))
    (λ lt. elim c.loop-turn-test.branch [
      | else-loop-turn-test w ↦ absurd (omega (arith, lt, w.loop-turn-test.false))
      | then-loop-turn-test+then-over w ↦ ended_is _ (sym w.is_ended-over.ensures.ended ∙ w.if-over.true)
    ])
    (reports_set rooms _ s _ _ _ i.settings (c.report.ensures.reports _)) refl c.discard.ensures.leaves

pub is_ended-over-requires : goal.is_ended-over-requires
is_ended-over-requires g c = association_small c.loop-turn.association.provider

pub report-requires : goal.report-requires
report-requires g c = association_small c.loop-turn.association.provider
