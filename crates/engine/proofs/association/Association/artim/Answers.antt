use Rattle.std.proofs.Common.{◌∙◌, ap}
use Rattle.acceptor.specs.Effect.{timer_runs}
use Rattle.engine.proofs.AssociationSize.{association_small}
use Rattle.engine.proofs.association.Association.artim.Goals as goal

pub state-requires : goal.state-requires
state-requires g c = association_small c.args.self.now.provider

pub returns : goal.returns
returns g c = c.timer_runs.ensures ∙ ap timer_runs c.state.ensures
