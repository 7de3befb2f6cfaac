use Rattle.engine.specs.machine.Events.{aborted}
use Rattle.engine.proofs.FieldsShow.TriedIsDone.{stays_aborts}
use Rattle.engine.proofs.AssociationSize.{association_small}
use Rattle.engine.proofs.association.Association.local_abort.Goals as goal

pub returns-clause-moved : goal.returns-clause-moved
returns-clause-moved g c = c.perform.ensures.moved _ _ aborted

pub perform-requires : goal.perform-requires
perform-requires g c = (association_small c.args.self.now.provider, (c.requires.draft, stays_aborts _))
