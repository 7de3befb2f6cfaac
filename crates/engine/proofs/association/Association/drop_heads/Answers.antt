use Rattle.engine.proofs.AssociationSize.{association_small}
use Rattle.engine.proofs.association.Association.drop_heads.Goals as goal

pub is_ended-requires : goal.is_ended-requires
is_ended-requires g c = association_small c.args.self.now.provider
