use Rattle.element.proofs.Public.{tag_on, need_on, bad_on, header_on}
use Rattle.element.proofs.header_laws.more_bytes_change_nothing.Goals as goal

pub returns : goal.returns
returns c = record { tag = tag_on; size = need_on; refused = bad_on; header = λ s u v k at e. header_on u v k at e }
