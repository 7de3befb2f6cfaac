use Rattle.engine.proofs.AssociationSize.{provider_small}
use Rattle.engine.proofs.association.Association.drafting.Goals as goal

pub drafting-requires : goal.drafting-requires
drafting-requires g c = provider_small c.args.self.now.provider

pub returns : goal.returns
returns g c = c.drafting.ensures
