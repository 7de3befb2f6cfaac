use Rattle.std.proofs.Common.{arith}
use Rattle.serving.proofs.open_connection.turns.is_of_bytes.Goals as goal

pub returns : goal.returns
returns c = λ i. omega (arith, c.type_inv.piece i)
