use Rattle.element.proofs.Public.{need_spelled, spelled_long, whole_spelled, read_spelled, front_spelled}
use Rattle.element.proofs.header_laws.a_spelling_is_read.Goals as goal

pub returns : goal.returns
returns c = record { size = λ s h b e. need_spelled e; least = λ s h b e. spelled_long e; whole = λ s h b e. whole_spelled e; read = λ s h b e. read_spelled e; part = λ s h u x v e. front_spelled u x v e }
