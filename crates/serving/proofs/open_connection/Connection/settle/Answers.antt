-- Whether a file is lost is in no other fact.
use Rattle.serving.proofs.open_connection.Connection.settle.Goals as goal

pub invariant_of-self-2 : goal.invariant_of-self-2
invariant_of-self-2 g c =
    let now = c.flush.new.self in
    record {
      there = now.there;
      never = now.never;
      fits = now.fits;
      spare = now.spare;
      bytes = now.bytes;
      followed = now.followed;
      whole = now.whole;
      heard = now.heard;
      consumed = now.consumed;
      sent = now.sent;
      rested = now.rested;
      timed = now.timed;
      closed = now.closed;
      begins = now.begins;
      lasts = now.lasts;
      once = now.once;
      unasked = now.unasked;
      reasons = now.reasons;
    }
