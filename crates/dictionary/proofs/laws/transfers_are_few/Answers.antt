use Rattle.dictionary.proofs.Public.{transfer_short}
use Rattle.dictionary.proofs.laws.transfers_are_few.Goals as goal

pub returns-clause-short : goal.returns-clause-short
returns-clause-short c = transfer_short
