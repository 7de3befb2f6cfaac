use Rattle.element.proofs.Public.{tag_read, whole_eight, exact_spells, front_spells}
use Rattle.element.proofs.header_laws.a_read_header_is_spelled.Goals as goal

pub returns : goal.returns
returns c = record { tag = tag_read; least = whole_eight; exact = λ s b k e size bytes. exact_spells s b e size bytes; front = front_spells }
