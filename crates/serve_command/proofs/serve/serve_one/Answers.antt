-- What is served is configured by the settings that are asked for.
use Rattle.serve_command.proofs.serve.serve_one.Goals as goal

pub returns-clause-ended : goal.returns-clause-ended
returns-clause-ended g c = rw (c.configuration_of-configuration.ensures.config, c.configuration_of-configuration.ensures.service) at c.serve_many.ensures.ended
