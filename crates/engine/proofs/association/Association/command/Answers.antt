use Rattle.std.proofs.Common.{◌∙◌, ap}
use Rattle.dimse.specs.Joining.{Joining}
use Rattle.engine.proofs.AssociationSize.{provider_small}
use Rattle.engine.proofs.association.Association.command.Goals as goal

pub returns : goal.returns
returns g c = record { command = λ inputs story failed store h. c.command.ensures ∙ ap (λ (j : Joining). j.command) h.shows.frame.pends.join_is.shows }

pub command-requires : goal.command-requires
command-requires g c = provider_small c.args.self.now.provider
