-- The inputs so far.
use Rattle.std.proofs.Common.{◌≡◌}
use Rattle.negotiate.specs.Settings.{settings_of}
use Rattle.engine.specs.Devices.{devices}
use Rattle.engine.specs.Drafts.{IsThere}
use Rattle.engine.specs.Fields.{drafting_of, fields_of, settings_in}
use Rattle.engine.specs.Turns.{ConsumedTurns}
use Rattle.engine.specs.Run.{rooms_of}
use Rattle.engine.proofs.running.run.Given as goal

abbrev pub invariant-loop-turn : goal.invariant-loop-turn
invariant-loop-turn g l = record {
  settings : settings_in l.association ≡ settings_of l.fn.config;
  there : IsThere (drafting_of l.association) (g.F.Filing.store l.filing);
  consumes : ConsumedTurns (rooms_of g.row.A g.row.C g.row.V g.row.D) (settings_of l.fn.config) l._turn (g.S.Source.supply l.fn.source) (g.S.Source.supply l.source) (fields_of l.association)
      (devices (g.W.Wire.line l.fn.wire) (g.F.Filing.store l.fn.filing)) (devices (g.W.Wire.line l.wire) (g.F.Filing.store l.filing));
}
