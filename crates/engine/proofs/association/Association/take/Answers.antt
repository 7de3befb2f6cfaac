use Rattle.engine.proofs.association.Association.take.Goals as goal

pub returns-in-Piece : goal.returns-in-Piece
returns-in-Piece g c = record {
  draft = c.feed.ensures.draft;
  settings = c.feed.ensures.settings;
  moved = rw c.in-Piece.is c.feed.ensures.moved;
  ended = c.feed.ensures.ended;
}

pub returns-in-Closed : goal.returns-in-Closed
returns-in-Closed g c = record {
  draft = c.closed.ensures.draft;
  settings = c.closed.ensures.settings;
  moved = rw c.in-Closed.is c.closed.ensures.moved;
  ended = c.closed.ensures.ended;
}

pub returns-in-Expired : goal.returns-in-Expired
returns-in-Expired g c = record {
  draft = c.expired.ensures.draft;
  settings = c.expired.ensures.settings;
  moved = rw c.in-Expired.is c.expired.ensures.moved;
  ended = c.expired.ensures.ended;
}

pub returns-in-LocalAbort : goal.returns-in-LocalAbort
returns-in-LocalAbort g c = record {
  draft = c.local_abort.ensures.draft;
  settings = c.local_abort.ensures.settings;
  moved = rw c.in-LocalAbort.is c.local_abort.ensures.moved;
  ended = c.local_abort.ensures.ended;
}
