use Rattle.std.proofs.Common.{◌∙◌, not, is_ok, refl, ap}
use Rattle.std.proofs.lemmas.Bool.{cond-true}
use Rattle.dicomdir_writing.proofs.build_plan.Plan.add.Goals as goal

pub returns-clause-added : goal.returns-clause-added
returns-clause-added g c = record {
  entry = c.args.entry;
  level_is = refl;
  row_is = refl;
  next_is = refl;
  lower_is = refl;
  last = c.push.ensures.items ∙ cond-true (is_ok c.push.result) _ _ (c.is_err.ensures.negation ∙ ap not c.if-is_err.false);
}
