use Rattle.std.proofs.Common.{◌≡◌, drop}
use Rattle.sequence.specs.Wanted.{are_rising}
use Rattle.sequence.proofs.wanted.are_rising.Given as goal

abbrev pub invariant-loop-want : goal.invariant-loop-want
invariant-loop-want l = are_rising l.last (drop l.want-index l.wants) ≡ are_rising 0 l.wants
