use Rattle.pdu.proofs.Public.{fragment_part, fragment_done}
use Rattle.pdu.proofs.part_laws.a_part_of_a_fragment.Goals as goal

pub returns-clause-more : goal.returns-clause-more
returns-clause-more c r d b rest s six lt = fragment_part r d b rest s six lt

pub returns-clause-whole : goal.returns-clause-whole
returns-clause-whole c r d b rest s le six size = fragment_done r d b rest s le six size
