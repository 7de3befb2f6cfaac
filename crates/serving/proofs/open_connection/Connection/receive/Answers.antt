-- One portion more.
use Rattle.std.proofs.Common.{ℕ, ◌<◌, ◌∷◌, ◌++◌, [], List, false, refl, ap, sym, subst, ◌∙◌}
use Rattle.std.proofs.Math.Logic.{∥∥₁_map}
use Rattle.element.specs.Numbers.{IsBytes}
use Rattle.serving.specs.declared.outbox.Outbox.{Outbox}
use Rattle.serving.proofs.ClosesWithItsSocket.{one_more_closes, still_closes}
use Rattle.serving.proofs.EachPieceIsReported.{reported_with_piece}
use Rattle.serving.proofs.InboxLosesNothing.{front_consumed, nothing_more, within_portion}
use Rattle.serving.proofs.InputsAddTheirPieces.{inputs_more}
use Rattle.serving.proofs.InputsAreTimed.{asked_same, heard_then, own_same, timed_more}
use Rattle.serving.proofs.SentIsSettledFirst.{sent_before}
use Rattle.serving.proofs.ConsumedInputsAreARun.{keeps_piece, more_bytes, same_link}
use Rattle.engine.specs.Inputs.{inputs_of}
use Rattle.serving.specs.TimeLimits.{TimeLimits}
use Rattle.serving.specs.declared.moment.Moment.{Moment}
use Rattle.engine.specs.declared.source.Input.TheVariants.{Piece}
use Rattle.serving.proofs.open_connection.Connection.receive.Goals as goal

pub invariant_of-self-in-Bytes : goal.invariant_of-self-in-Bytes
invariant_of-self-in-Bytes g c =
    let was = c.args.self.now in
    let moment : Moment = record { is_asked = false; remaining = c.of-remaining.result; now = c.args.now } in
    let lent = c.in-Bytes.ensures in
    let are = more_bytes _ _ _ refl was.bytes c.is_of_bytes.ensures in
    let kept = same_link _ _ _ _ _ _ _ _ _ _ lent.same_written lent.same_outbox (record { never = was.never; fits = was.fits; whole = refl; consumed = was.consumed }) in
    let none = ap (λ (o : Outbox). o.bytes.items) lent.same_outbox ∙ c.requires.flushed in
    let keeps = keeps_piece _ _ _ _ _ _ _ _ _ _ _ _ _ _ _ _ _ c.take_portion-is_complete.ensures.settings c.push.ensures c.requires.open c.take_portion-is_complete.new.wire.full c.take_portion-is_complete.ensures.moved kept c.input_limit-limit.result _ refl none (within_portion _ _ _ _ _ c.min.ensures lent.arrives.1) refl are
    (λ inputs story failed h. rw (← c.deref.ensures) (c.input_limit-limit.ensures.few inputs story failed (g.F.Filing.store was.filing) (rw c.deref.ensures h))) in
    let k = keeps.0 in
    record {
      there = c.take_portion-is_complete.ensures.draft;
      never = k.never;
      fits = k.fits;
      spare = λ _. keeps.1;
      bytes = subst IsBytes (sym k.whole) are;
      followed = rw (← c.deref-in-Bytes-2.ensures) (c.follow.ensures.state ∙ c.state.ensures);
      whole = rw k.whole (front_consumed _ _ _ _ _ _ c.pending.ensures c.drop_front.ensures (lent.arrives.2 _ was.whole));
      heard = reported_with_piece _ _ _ _ _ _ _ (c.consumed.ensures.heard ∙ ap (λ (xs : List ℕ). g.B.Observer.heard was.observer ++ xs ∷ []) c.consumed-consumed.ensures.bytes) c.pending.ensures c.push.ensures was.heard;
      consumed = k.consumed;
      sent = ∥∥₁_map was.sent (λ h. rw lent.same_written (sent_before _ _ _ _ _ _ _ _ _ c.take_portion-is_complete.ensures.settings c.push.ensures h));
      rested = rw lent.same_written was.rested;
      timed = ∥∥₁_map was.timed (λ h. rw (c.push.ensures, inputs_more was.given.named Piece _, c.push-in-Bytes.ensures)
          (timed_more was.initial.value (inputs_of was.given.named) was.moments was.deadlines c.follow.new.self _ moment c.of-remaining.ensures tt
          (heard_then _ _ _ _ _ _ c.hear.ensures c.follow.ensures.stays c.follow.ensures.state c.follow.ensures.anew c.follow.ensures.lasting c.follow.ensures.same_peer c.follow.ensures.since) h));
      closed = one_more_closes _ _ _ _ _ _ _ _ c.push.ensures (λ e. absurd cc);
      begins = was.begins;
      lasts = (c.follow.ensures.bound.0 ∙ ap (λ (w : TimeLimits). w.longest) c.hear.ensures ∙ was.lasts.0, c.follow.ensures.bound.1 ∙ ap (λ (w : TimeLimits). w.opened) c.hear.ensures ∙ was.lasts.1);
      once = rw (asked_same _ _ moment c.push-in-Bytes.ensures refl) was.once;
      unasked = λ none. asked_same _ _ moment c.push-in-Bytes.ensures refl ∙ was.unasked none;
      reasons = rw (asked_same _ _ moment c.push-in-Bytes.ensures refl) was.reasons;
    }

pub invariant_of-self-clause-closed : goal.invariant_of-self-clause-closed
invariant_of-self-clause-closed g c =
    let lent = c.in-Nothing.ensures in
    still_closes _ _ _ _ _ _ _ _ _ lent.arrives.2 (λ lt. subst (λ (n : ℕ). 0 < n) (sym lent.ends) lt) (ap (λ (o : Outbox). o.bytes.items) lent.same_outbox) lent.same_refusals c.args.self.now.closed

pub invariant_of-self-clause-whole : goal.invariant_of-self-clause-whole
invariant_of-self-clause-whole g c = let lent = c.in-Nothing.ensures.arrives in nothing_more _ _ _ _ _ lent.0 lent.1 lent.2 c.args.self.now.whole

pub invariant_of-self-clause-consumed : goal.invariant_of-self-clause-consumed
invariant_of-self-clause-consumed g c = let lent = c.in-Nothing.ensures in rw (lent.same_written, lent.same_outbox) c.args.self.now.consumed

pub invariant_of-self-clause-sent : goal.invariant_of-self-clause-sent
invariant_of-self-clause-sent g c = rw c.in-Nothing.ensures.same_written c.args.self.now.sent

pub invariant_of-self-clause-rested : goal.invariant_of-self-clause-rested
invariant_of-self-clause-rested g c = rw c.in-Nothing.ensures.same_written c.args.self.now.rested

pub take_portion-is_complete-requires-clause-ends : goal.take_portion-is_complete-requires-clause-ends
take_portion-is_complete-requires-clause-ends g c = rw (← c.deref.ensures) c.input_limit-limit.ensures.ends

pub returns-in-Bytes-clause-peers : goal.returns-in-Bytes-clause-peers
returns-in-Bytes-clause-peers g c =
    let moment : Moment = record { is_asked = false; remaining = c.of-remaining.result; now = c.args.now } in
    rw (own_same _ _ _ _ c.push.ensures refl, asked_same _ _ moment c.push-in-Bytes.ensures refl) refl

pub invariant_of-self-in-End-1 : goal.invariant_of-self-in-End-1
invariant_of-self-in-End-1 g c =
    let was = c.args.self.now in
    let lent = c.in-End.ensures in
    record {
      there = was.there;
      never = rw lent.same_outbox was.never;
      fits = rw lent.same_outbox was.fits;
      spare = rw lent.same_outbox was.spare;
      bytes = was.bytes;
      followed = was.followed;
      whole = nothing_more _ _ _ _ _ lent.arrives.0 lent.arrives.1 lent.arrives.2 was.whole;
      heard = was.heard;
      consumed = rw (lent.same_written, lent.same_outbox) was.consumed;
      sent = rw lent.same_written was.sent;
      rested = rw lent.same_written was.rested;
      timed = was.timed;
      closed = still_closes _ _ _ _ _ _ _ _ _ lent.arrives.2 (λ lt. lent.ends) (ap (λ (o : Outbox). o.bytes.items) lent.same_outbox) lent.same_refusals was.closed;
      begins = was.begins;
      lasts = was.lasts;
      once = was.once;
      unasked = was.unasked;
      reasons = was.reasons;
    }
