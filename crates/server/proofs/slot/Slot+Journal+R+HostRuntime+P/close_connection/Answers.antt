-- The connection that was there has ended, and none is there now.
use Rattle.server.proofs.SlotsLoseNone.{none_held, none_remaining}
use Rattle.server.proofs.slot.Slot+Journal+R+HostRuntime+P.close_connection.Goals as goal

pub invariant_of-self-clause-held : goal.invariant_of-self-clause-held
invariant_of-self-clause-held g c = none_held _ _ _ c.take-last.ensures.after

pub invariant_of-self-clause-none_missing : goal.invariant_of-self-clause-none_missing
invariant_of-self-clause-none_missing g c =
    let was = c.args.self.now in
    none_remaining _ _ _ _ _ was.history c.closed.new.history was.connection c.take-last.result c.take-last.new.self was.none_missing c.take-last.ensures.value c.closed.ensures c.take-last.ensures.after
