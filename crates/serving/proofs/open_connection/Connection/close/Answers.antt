-- What was consumed is a run, and the report is of the state.
use Rattle.std.proofs.Common.{refl}
use Rattle.engine.specs.Inputs.{inputs_of}
use Rattle.std.proofs.Math.Logic.{∥∥₁_elim, ∥∥₁_map, ∥∥₁_prop}
use Rattle.serving.proofs.ClosesForACause.{is_caused}
use Rattle.serving.proofs.EachPieceIsReported.{all_reported}
use Rattle.serving.proofs.GivenAreTimed.{ends_timed}
use Rattle.serving.proofs.SentIsSettledFirst.{ends_settled}
use Rattle.serving.proofs.ConsumedInputsAreARun.{ended_stands, ends}
use Rattle.serving.proofs.open_connection.Connection.close.Goals as goal

pub returns : goal.returns
returns g c =
    let was = c.args.self in
    let traces = c.end-traces.ensures in
    record {
      served = ∥∥₁_elim was.closed ∥∥₁_prop (λ closes. ∥∥₁_map was.consumed (λ h. rw (traces.read, traces.ends, traces.sent, traces.refusals, traces.inbox, traces.outbox) (ends _ _ _ _ _ _ _ _ _ _ _ _ _ was.whole closes (c.report-report.ensures.reports _) c.discard.ensures.leaves h).0));
      opened = refl;
      reported = rw (traces.read, traces.inbox) (all_reported _ (inputs_of was.given.named) _ _ was.heard was.whole);
      ended = ended_stands _ _ (c.report-report.ensures.reports (g.F.Filing.store was.filing)).standing;
      sent = ∥∥₁_elim was.closed ∥∥₁_prop (λ closes. ∥∥₁_elim was.sent ∥∥₁_prop (λ first. ∥∥₁_map was.consumed (λ h. rw (traces.read, traces.ends, traces.sent, traces.refusals, traces.inbox, traces.outbox)
          (ends_settled _ _ _ _ _ _ _ _ _ _ _ _ _ _ was.whole closes (c.report-report.ensures.reports _) c.discard.ensures.leaves h first))));
      rested = rw traces.sent was.rested;
      in_time = ∥∥₁_elim was.closed ∥∥₁_prop (λ closes. ∥∥₁_elim was.timed ∥∥₁_prop (λ timed. ∥∥₁_map was.consumed (λ h. rw (traces.read, traces.ends, traces.sent, traces.refusals, traces.inbox, traces.outbox)
          (ends_timed _ _ _ _ _ _ _ _ _ _ _ _ _ _ _ _ was.whole closes (c.report-report.ensures.reports _) c.discard.ensures.leaves h timed))));
      moments = refl;
      initial = refl;
      begins = was.begins;
      once = was.once;
      stopped = refl;
      reasons = was.reasons;
      heard = was.heard;
      cause = λ due. is_caused _ was.is_lost was.is_stopped c.has_pending-has_pending.result _ (rw c.has_pending-has_pending.ensures due) (ended_stands _ _ (c.report-report.ensures.reports (g.F.Filing.store was.filing)).standing);
    }
