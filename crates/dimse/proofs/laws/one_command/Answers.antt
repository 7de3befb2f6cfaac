use Rattle.dimse.proofs.TextSpellsOneCommand.{one_command}
use Rattle.dimse.proofs.laws.one_command.Goals as goal

pub returns : goal.returns
returns c = one_command
