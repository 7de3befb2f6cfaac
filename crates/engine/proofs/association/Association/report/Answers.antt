use Rattle.std.proofs.Common.{◌∙◌, ap}
use Rattle.engine.specs.Ran.{standing_of}
use Rattle.engine.proofs.AssociationSize.{association_small}
use Rattle.engine.proofs.association.Association.report.Goals as goal

pub returns-clause-reports : goal.returns-clause-reports
returns-clause-reports g c store = record {
  standing = c.of.ensures ∙ ap standing_of c.state.ensures;
  held = λ inputs story failed h. c.held.ensures.held inputs story failed store h;
  accepted_room = c.held.ensures.accepted_room;
}

pub state-requires : goal.state-requires
state-requires g c = association_small c.args.self.now.provider

pub held-requires : goal.held-requires
held-requires g c = association_small c.args.self.now.provider
