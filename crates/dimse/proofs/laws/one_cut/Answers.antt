use Rattle.dimse.proofs.TextHasOneCut.{fragments_cut, one_cut}
use Rattle.dimse.proofs.laws.one_cut.Goals as goal

pub returns-clause-cut : goal.returns-clause-cut
returns-clause-cut c = fragments_cut

pub returns-clause-only : goal.returns-clause-only
returns-clause-only c = one_cut
