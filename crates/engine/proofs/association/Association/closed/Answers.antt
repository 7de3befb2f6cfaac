use Rattle.engine.specs.machine.Events.{closed}
use Rattle.engine.proofs.FieldsShow.TriedIsDone.{stays_closed}
use Rattle.engine.proofs.AssociationSize.{association_small}
use Rattle.engine.proofs.association.Association.closed.Goals as goal

pub returns-clause-moved : goal.returns-clause-moved
returns-clause-moved g c = c.perform.ensures.moved _ _ closed

pub perform-requires : goal.perform-requires
perform-requires g c = (association_small c.args.self.now.provider, (c.requires.draft, stays_closed _))
