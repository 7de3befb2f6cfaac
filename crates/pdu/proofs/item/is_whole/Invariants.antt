use Rattle.std.proofs.Common.{◌≡◌, length}
use Rattle.pdu.specs.Items.{remainder}
use Rattle.pdu.proofs.item.is_whole.Given as goal

abbrev pub invariant-loop-more : goal.invariant-loop-more
invariant-loop-more l = remainder l.rest ≡ remainder l.text

abbrev pub decreases-loop-more : goal.decreases-loop-more
decreases-loop-more l = length l.rest
