-- The connection that is there now is the one that was opened last.
use Rattle.std.proofs.Common.{rules}
use Rattle.server.proofs.SlotsLoseNone.{held_now, none_there, opened_next, still_allowed, still_caused, still_remaining, configuration_as}
use Rattle.server.proofs.slot.Slot+Journal+R+HostRuntime+P.open.Goals as goal

pub invariant_of-self-2 : goal.invariant_of-self-2
invariant_of-self-2 g c =
    let was = c.args.self.now in
    let opened = c.open-connection.ensures in
    record {
      rested = was.rested;
      closed = still_remaining _ _ _ _ _ was.history c.open.new.self c.closed-remaining.new.history c.open.ensures.settings c.open.ensures.ended c.closed-remaining.ensures was.closed;
      allowed = still_allowed _ _ _ _ _ was.history c.open.new.self c.closed-remaining.new.history c.open.ensures.settings c.closed-remaining.ensures was.allowed;
      next_allowed = c.requires.allowed;
      caused = still_caused _ _ _ _ _ was.history c.open.new.self c.closed-remaining.new.history c.open.ensures.ended c.closed-remaining.ensures (none_there was.connection c.replace-last.result _ _ (search rules) c.replace-last.ensures.value) was.caused;
      held = held_now _ _ _ _ c.replace-last.ensures.after (configuration_as _ _ _ _ _ _ _ _ opened.settings opened.initial c.requires.configuration);
      none_missing = opened_next _ _ _ _ _ was.history c.open.new.self c.closed-remaining.new.history _ was.connection c.replace-last.result c.replace-last.new.self c.open-connection.result was.none_missing c.replace-last.ensures.value c.open.ensures.opened c.open.ensures.ended c.closed-remaining.ensures c.replace-last.ensures.after opened.opening;
    }
