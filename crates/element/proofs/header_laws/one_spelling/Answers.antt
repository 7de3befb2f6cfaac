use Rattle.element.proofs.Public.{spelled_need, spelled_header, one_spelling}
use Rattle.element.proofs.header_laws.one_spelling.Goals as goal

pub returns : goal.returns
returns c = record { size = spelled_need; header = spelled_header; one = one_spelling }
