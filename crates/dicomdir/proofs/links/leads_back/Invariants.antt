use Rattle.std.proofs.Common.{◌≡◌, ◌≤◌, length, reverse, take, true, false}
use Rattle.dicomdir.proofs.Trails.{looks}
use Rattle.dicomdir.proofs.links.leads_back.Given as goal

abbrev pub invariant-loop-at : goal.invariant-loop-at
invariant-loop-at l = record {
  within : l.at ≤ length l.trail;
  remaining : looks l.link l.in_chain l.is_above (reverse (take l.at l.trail)) ≡ looks l.link true false (reverse l.trail);
}

abbrev pub decreases-loop-at : goal.decreases-loop-at
decreases-loop-at l = l.at
