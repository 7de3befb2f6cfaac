use Rattle.sequence.proofs.EndsAreNested.{whole_open}
use Rattle.sequence.proofs.laws.a_whole_level_has_an_open_one_inside.Goals as goal

pub returns : goal.returns
returns c = whole_open
