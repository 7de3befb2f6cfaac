-- One connection more has ended.
use Rattle.server.proofs.SlotsLoseNone.{remaining_by, none_ended, one_ended, one_of, seen_there}
use Rattle.server.proofs.slot.closed.Goals as goal

pub returns-in-Some : goal.returns-in-Some
returns-in-Some g c =
    let e = c.close-remaining.ensures in
    let held = seen_there _ _ _ _ c.in-Some.is c.requires.held in
    rw c.in-Some.is (one_ended _ _ _ _ _ _ _ _ _ c.end-in-Some.ensures.opened c.end-in-Some.ensures.settings c.end-in-Some.ensures.ended e.opened c.requires.allowed
    (remaining_by _ _ _ _ _ _ _ _ held e.opened e.initial e.stopped e.begins e.served e.sent e.rested e.in_time e.once e.reasons)
    (λ due. e.cause (one_of _ _ due)))

pub returns-in-None : goal.returns-in-None
returns-in-None g c = rw c.in-None.is (none_ended _ _ _ _ c.args.history.now)
