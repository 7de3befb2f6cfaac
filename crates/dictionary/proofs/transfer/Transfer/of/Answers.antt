use Rattle.std.proofs.Common.{◌∙◌, ap}
use Rattle.dictionary.specs.Transfers.{transfer_named}
use Rattle.dictionary.proofs.transfer.Transfer.of.Goals as goal

pub returns : goal.returns
unfolding transfer_named
returns c = c.first_named.ensures ∙ ap transfer_named c.unpadded.ensures
