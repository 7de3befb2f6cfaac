use Rattle.std.proofs.Common.{◌∙◌, not, is_ok, ap}
use Rattle.std.proofs.lemmas.Bool.{cond-true}
use Rattle.dicomdir.proofs.links.reach.Goals as goal

pub returns-else-step-clause-mark : goal.returns-else-step-clause-mark
returns-else-step-clause-mark g c ok = c.push.ensures.items ∙ cond-true (is_ok c.push.result) _ _ (c.is_err.ensures.negation ∙ ap not c.if-is_err.false)
