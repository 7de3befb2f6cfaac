use Rattle.element.proofs.Public.{size_off, size_six}
use Rattle.element.proofs.header_laws.fewer_bytes_say_the_size.Goals as goal

pub returns : goal.returns
returns c = record { all = λ s u v k at e. size_off u v k at e; six = λ s u v k six e. size_six u v six e }
