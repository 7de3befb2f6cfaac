use Rattle.sequence.proofs.NativeData as native
use Rattle.sequence.proofs.laws.syntaxes_are_native.Goals as goal

pub returns : goal.returns
returns c = native.syntaxes_native
