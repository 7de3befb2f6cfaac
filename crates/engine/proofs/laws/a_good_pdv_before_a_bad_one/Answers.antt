use Rattle.engine.proofs.WorkedRuns.Associations.{a_good_pdv_before_a_bad_one}
use Rattle.engine.proofs.laws.a_good_pdv_before_a_bad_one.Goals as goal

pub returns : goal.returns
returns c = a_good_pdv_before_a_bad_one
