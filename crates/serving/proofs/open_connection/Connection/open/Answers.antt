-- Nothing was consumed yet.
use Rattle.std.proofs.Common.{◌≡◌, List, refl, true, false, length, subst, sym, ap, ◌∙◌, arith, lit<}
use Rattle.element.specs.Numbers.{IsBytes}
use Rattle.serving.specs.Timed.{asked_at}
use Rattle.serving.specs.TimeLimits.{TimeLimits}
use Rattle.serving.specs.declared.moment.Moment.{Moment}
use Rattle.engine.specs.Inputs.{inputs_of}
use Rattle.serving.proofs.ClosesWithItsSocket.{none_closes}
use Rattle.serving.proofs.AskedForAReason.{none_without_a_reason}
use Rattle.serving.proofs.EachPieceIsReported.{none_reported}
use Rattle.serving.proofs.InboxLosesNothing.{nothing_read}
use Rattle.serving.proofs.InputsAreTimed.{nothing_timed}
use Rattle.serving.proofs.SentIsSettledFirst.{nothing_sent}
use Rattle.serving.proofs.ConsumedInputsAreARun.{begins_due, opens}
use Rattle.serving.proofs.open_connection.Connection.open.Goals as goal

pub invariant_of-result : goal.invariant_of-result
invariant_of-result g c =
    let k = opens _ _ _ _ _ _ _ _ _ _ c.new-2.ensures refl c.new.ensures.nothing_sent c.new.ensures.nothing_waits c.new.ensures.never (ap g.F.Filing.store c.of-opened.ensures) c.open-inbox.ensures.settings c.open-inbox.ensures.stands in
    record {
      there = λ e. absurd (let wrong : false ≡ true = sym c.open-inbox.ensures.no_draft ∙ e in cc);
      never = k.never;
      fits = k.fits;
      spare = λ _. omega (arith, ap length c.new.ensures.nothing_waits);
      bytes = subst IsBytes (sym k.whole) (λ i. lit< tt);
      followed = ap (λ (w : TimeLimits). w.state) c.new-deadlines.ensures ∙ begins_due _ _ _ (c.open-inbox.ensures.stands (g.F.Filing.store c.args.parts.1));
      whole = nothing_read _ _ _ k.whole c.new.ensures.nothing_unconsumed c.new.ensures.nothing_read;
      heard = none_reported _ _ c.requires.nothing_heard c.new-2.ensures;
      consumed = k.consumed;
      sent = ∣ nothing_sent _ _ _ _ _ _ _ c.new-2.ensures c.new.ensures.nothing_sent (ap g.F.Filing.store (c.of-opened.ensures ∙ sym c.of-settled.ensures)) c.open-inbox.ensures.settings c.open-inbox.ensures.stands ∣₁;
      rested = λ some. absurd (some c.new.ensures.nothing_sent);
      timed = ∣ nothing_timed _ _ _ _ (ap inputs_of c.new-2.ensures) c.new-3.ensures c.of.ensures ∣₁;
      closed = ∣ none_closes _ _ _ _ _ (ap inputs_of c.new-2.ensures) ∣₁;
      begins = rw (c.of.ensures, c.new-deadlines.ensures) refl;
      lasts = (ap (λ (w : TimeLimits). w.longest) (sym c.of.ensures), ap (λ (w : TimeLimits). w.opened) (sym c.of.ensures));
      once = omega (arith, ap (λ (ms : List Moment). length (asked_at ms)) c.new-3.ensures);
      unasked = λ _. ap asked_at c.new-3.ensures;
      reasons = none_without_a_reason false _ _ _ (ap asked_at c.new-3.ensures);
    }
