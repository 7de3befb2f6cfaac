use Rattle.std.proofs.Common.{◌≡◌, drop}
use Rattle.values.specs.Forms as forms
use Rattle.values.proofs.table.first_broken.Given as goal

abbrev pub invariant-loop-rule : goal.invariant-loop-rule
invariant-loop-rule l = forms.first_broken l.letters (drop l.rule-index l.rules) l.text ≡ forms.first_broken l.letters l.rules l.text
