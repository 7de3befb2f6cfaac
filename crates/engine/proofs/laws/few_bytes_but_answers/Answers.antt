use Rattle.engine.proofs.Public.{few_bytes_but_answers}
use Rattle.engine.proofs.laws.few_bytes_but_answers.Goals as goal

pub returns : goal.returns
returns c = few_bytes_but_answers
