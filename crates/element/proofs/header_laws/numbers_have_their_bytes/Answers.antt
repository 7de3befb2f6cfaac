use Rattle.element.proofs.Public.{two_cells, four_cells}
use Rattle.element.proofs.header_laws.numbers_have_their_bytes.Goals as goal

pub returns : goal.returns
returns c = record { two = two_cells; four = four_cells }
