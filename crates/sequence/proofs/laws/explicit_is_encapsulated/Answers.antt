use Rattle.sequence.proofs.NativeData as native
use Rattle.sequence.proofs.laws.explicit_is_encapsulated.Goals as goal

pub returns : goal.returns
returns c = native.explicit_also
