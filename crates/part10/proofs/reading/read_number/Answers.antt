use Rattle.std.proofs.Common.{arith}
use Rattle.part10.proofs.PrefixIsSpelled.{number_back}
use Rattle.part10.proofs.reading.read_number.Goals as goal

pub returns : goal.returns
returns c = number_back c.args.bytes.now c.read_u32.result c.requires (λ i. omega (arith, c.type_inv.bytes i)) c.read_u32.ensures
