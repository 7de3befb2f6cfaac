-- No file was counted yet.
use Rattle.std.proofs.Common.{◌≡◌}
use Rattle.arrange_command.proofs.placing.Placer.place.Given as goal

abbrev pub invariant-loop-number : goal.invariant-loop-number
invariant-loop-number g l = l.self.counts ≡ l.fn.self.counts
