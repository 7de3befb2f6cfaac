use Rattle.std.proofs.Common.{◌≡◌, None, length, []}
use Rattle.sequence.specs.declared.level.Scope.{Scope}
use Rattle.sequence.specs.machine.Machine.{arrive}
use Rattle.sequence.specs.machine.Scopes.{top_of, below_of}
use Rattle.sequence.proofs.levels.leave_ended.Given as goal

abbrev pub invariant-loop-levels : goal.invariant-loop-levels
invariant-loop-levels g l = (root : Scope) → root.stop ≡ None → arrive l.offset (top_of root l.levels.items) (below_of root [] l.levels.items) ≡ arrive l.offset (top_of root l.initial.levels.items) (below_of root [] l.initial.levels.items)

abbrev pub decreases-loop-levels : goal.decreases-loop-levels
decreases-loop-levels g l = length l.levels.items
