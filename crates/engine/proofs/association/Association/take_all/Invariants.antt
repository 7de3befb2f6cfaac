use Rattle.std.proofs.Common.{◌≡◌, ℕ, List, [], ◌-◌, ◌≤◌, ◌+◌, ◌*◌, false, length, take, if◌then◌else◌}
use Rattle.pdu.specs.Deframed.{position_of}
use Rattle.pdu.specs.Frames.{IsRest}
use Rattle.pdu.specs.Steps.{events_due}
use Rattle.engine.specs.Devices.{devices}
use Rattle.engine.specs.Held.{is_ended}
use Rattle.engine.specs.Progress.{Progress}
use Rattle.engine.specs.Kept.{kept_of, settings_in}
use Rattle.engine.specs.Run.{rooms_of}
use Rattle.engine.specs.Fields.{fields_of}
use Rattle.engine.specs.FrameFields.{ShowsFrame}
use Rattle.engine.specs.machine.Lent.{before, KeepsDraft}
use Rattle.engine.specs.machine.Shows.{Handles}
use Rattle.engine.proofs.association.Association.take_all.Given as goal

abbrev pub invariant-loop-more : goal.invariant-loop-more
invariant-loop-more g l = record {
  within : l.at ≤ length l.piece;
  used_up : l.more ≡ false → l.at ≡ length l.piece;
  settings : settings_in l.self.provider ≡ settings_in l.fn.self.provider;
  drafts : KeepsDraft (kept_of l.fn.self.provider) (kept_of l.self.provider) (g.F.Filing.store l.fn.devices.filing.now) (g.F.Filing.store l.filing);
  consumes : (p : Progress) (r : List ℕ) → IsRest r → is_ended p.state ≡ false → ShowsFrame (fields_of l.fn.self) (g.F.Filing.store l.fn.devices.filing.now) p r
      → Handles (rooms_of g.row.A g.row.C g.row.V g.row.D) (settings_in l.fn.self.provider) (fields_of l.self) p r [] (take l.at l.piece) l.more
      (before g.W.Wire.line g.F.Filing.store l.fn.devices) (devices (g.W.Wire.line l.wire) (g.F.Filing.store l.filing));
}

abbrev pub decreases-loop-more : goal.decreases-loop-more
decreases-loop-more g l = if l.more then 1 + (events_due (position_of l.self.deframer) + 4 * (length l.piece - l.at)) else 0
