-- What is written to a socket does not show whether it had closed: an association that has not ended was not given the close.
use Rattle.std.proofs.Common.{◌∙◌, ap, arith, sym}
use Rattle.std.proofs.Math.Logic.{∥∥₁_map}
use Rattle.serving.proofs.ClosesWithItsSocket.{open_unclosed}
use Rattle.serving.proofs.InputsAreTimed.{only_consumed, still_timed}
use Rattle.serving.proofs.SentIsSettledFirst.{sent_at}
use Rattle.serving.proofs.open_connection.Connection.flush.Goals as goal

pub invariant_of-self-clause-whole : goal.invariant_of-self-clause-whole
invariant_of-self-clause-whole g c = rw (c.flush.ensures.same_inbox, c.flush.ensures.same_read) c.args.self.now.whole

pub invariant_of-self-clause-consumed : goal.invariant_of-self-clause-consumed
invariant_of-self-clause-consumed g c = rw c.flush.ensures.same_sent c.args.self.now.consumed

pub invariant_of-self-clause-closed : goal.invariant_of-self-clause-closed
invariant_of-self-clause-closed g c =
    let was = c.args.self.now in
    open_unclosed was.association.value _ _ _ _ _ _ _ _ _ was.consumed (sym c.is_over.ensures.over ∙ c.if-is_over.false)

pub invariant_of-self-else-pending-before-clause-whole : goal.invariant_of-self-else-pending-before-clause-whole
invariant_of-self-else-pending-before-clause-whole g c = rw (c.flush.ensures.same_inbox, c.flush.ensures.same_read) c.args.self.now.whole

pub invariant_of-self-else-pending-before-clause-consumed : goal.invariant_of-self-else-pending-before-clause-consumed
invariant_of-self-else-pending-before-clause-consumed g c = rw c.flush.ensures.same_sent c.args.self.now.consumed

pub invariant_of-self-else-pending-before-clause-closed : goal.invariant_of-self-else-pending-before-clause-closed
invariant_of-self-else-pending-before-clause-closed g c =
    let was = c.args.self.now in
    open_unclosed was.association.value _ _ _ _ _ _ _ _ _ was.consumed (sym c.is_over.ensures.over ∙ c.if-is_over.false)

pub invariant_of-self-clause-sent : goal.invariant_of-self-clause-sent
invariant_of-self-clause-sent g c = sent_at _ _ _ _ _ c.args.self.now.socket.traced.written.bytes c.args.self.now.socket.outbox.bytes.items _ _ _ c.flush.ensures.same_sent (ap g.F.Filing.store c.of.ensures) c.args.self.now.consumed

pub invariant_of-self-else-pending-before-clause-sent : goal.invariant_of-self-else-pending-before-clause-sent
invariant_of-self-else-pending-before-clause-sent g c = sent_at _ _ _ _ _ c.args.self.now.socket.traced.written.bytes c.args.self.now.socket.outbox.bytes.items _ _ _ c.flush.ensures.same_sent (ap g.F.Filing.store c.of.ensures) c.args.self.now.consumed

pub invariant_of-self-clause-timed : goal.invariant_of-self-clause-timed
invariant_of-self-clause-timed g c = ∥∥₁_map c.args.self.now.timed (λ h. still_timed _ _ _ _ _ (only_consumed _ _ _ c.note_consumed.ensures.only) h)

pub invariant_of-self-in-Err-1 : goal.invariant_of-self-in-Err-1
invariant_of-self-in-Err-1 g c =
    let was = c.args.self.now in
    record {
      there = was.there;
      never = rw c.flush.ensures.same_failures was.never;
      fits = omega (arith, c.flush.ensures.fewer, was.fits);
      spare = λ none. omega (arith, c.flush.ensures.fewer, was.spare none);
      bytes = was.bytes;
      followed = was.followed;
      whole = rw (c.flush.ensures.same_inbox, c.flush.ensures.same_read) was.whole;
      heard = was.heard;
      consumed = rw c.flush.ensures.same_sent was.consumed;
      sent = sent_at _ _ _ _ _ c.args.self.now.socket.traced.written.bytes c.args.self.now.socket.outbox.bytes.items _ _ _ c.flush.ensures.same_sent (ap g.F.Filing.store c.of.ensures) was.consumed;
      rested = λ _. rw c.of.ensures c.requires.settled;
      timed = was.timed;
      closed = open_unclosed was.association.value _ _ _ _ _ _ _ _ _ was.consumed (sym c.is_over.ensures.over ∙ c.if-is_over.false);
      begins = was.begins;
      lasts = was.lasts;
      once = was.once;
      unasked = was.unasked;
      reasons = was.reasons;
    }
