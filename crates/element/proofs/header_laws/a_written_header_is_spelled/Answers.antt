use Rattle.element.proofs.Public.{written_spells}
use Rattle.element.proofs.header_laws.a_written_header_is_spelled.Goals as goal

pub returns : goal.returns
returns c = written_spells
