use Rattle.pdu.proofs.ContextIdsAreFew.{kept_few}
use Rattle.pdu.proofs.request.Request.keeps.Goals as goal

pub returns-clause-few : goal.returns-clause-few
returns-clause-few c = kept_few _ _ c.self.view_is c.self.invariant
