use Rattle.std.proofs.Common.{◌++◌}
use Rattle.sequence.specs.Ending.{breaks_rule}
use Rattle.sequence.proofs.StepsStand.FaultStays.{fault_stays}
use Rattle.sequence.proofs.WholeDataSet.WholeHasNoFault.{whole_has_no_fault}
use Rattle.sequence.proofs.laws.a_fault_is_final.Goals as goal

pub returns : goal.returns
returns c s lim b more p u rule tag bytes f whole = whole_has_no_fault s lim (b ++ more) _ whole (breaks_rule (fault_stays s lim b more p u rule tag bytes f))
