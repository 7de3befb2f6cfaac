use Rattle.std.proofs.Common.{◌≤◌, length}
use Rattle.element.specs.Header.{number}
use Rattle.sequence.specs.Tree.{Elements}
use Rattle.dicomdir.specs.machine.Texts.{HasElements}
use Rattle.dicomdir.proofs.ElementsFoundByTag.{RemainingOf}
use Rattle.dicomdir.proofs.found.find.Given as goal

abbrev pub invariant-loop-head : goal.invariant-loop-head
invariant-loop-head l = record {
  fits : length l.rest ≤ length l.text;
  remaining : (es : Elements) → HasElements l.syntax es l.text → RemainingOf l.syntax (number l.tag) l.offset es l.text l.rest;
}

abbrev pub decreases-loop-head : goal.decreases-loop-head
decreases-loop-head l = length l.rest
