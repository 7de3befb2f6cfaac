use Rattle.engine.proofs.Public.{turns_begin}
use Rattle.engine.proofs.laws.turns_begin.Goals as goal

pub returns : goal.returns
returns c = turns_begin
