use Rattle.pdu.proofs.Public.{unfinished_pdv}
use Rattle.pdu.proofs.part_laws.an_unfinished_pdv.Goals as goal

pub returns : goal.returns
returns c r b rest s = unfinished_pdv r b rest s
