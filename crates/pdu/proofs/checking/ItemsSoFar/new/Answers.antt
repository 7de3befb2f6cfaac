use Rattle.std.proofs.Common.{false, refl}
use Rattle.std.proofs.lemmas.List.{get_or-replicate}
use Rattle.pdu.proofs.checking.ItemsSoFar.new.Goals as goal

pub returns : goal.returns
returns c = record { application = refl; information = refl; context = refl; ids = λ id lt. get_or-replicate 256 id false false lt }
