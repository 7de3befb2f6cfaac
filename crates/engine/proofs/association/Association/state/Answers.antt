use Rattle.engine.proofs.AssociationSize.{phase_small}
use Rattle.engine.proofs.association.Association.state.Goals as goal

pub returns : goal.returns
returns g c = c.state.ensures

pub state-requires : goal.state-requires
state-requires g c = phase_small c.args.self.now.provider
