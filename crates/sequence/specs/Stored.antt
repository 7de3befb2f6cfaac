-- What the buffer of the wanted values contains.
use Rattle.std.specs.Prelude.{ℕ, List}
use Rattle.sequence.specs.declared.keep.Keep.{Keep}
use Rattle.sequence.specs.declared.wanted.Want.{Want}
use Rattle.sequence.specs.declared.wanted.Wanted.{Wanted}
use Rattle.sequence.specs.Wanted.{Values}
use Rattle.sequence.specs.Fields.{stored}

-- the wanted tags with the greatest sizes of their values
abbrev pub wanted_tags : Wanted → List Want
wanted_tags wanted = wanted.list.items

abbrev pub wants_of : {V : ℕ} → Keep V → List Want
wants_of k = k.wanted.list.items

abbrev pub values_of : {V : ℕ} → Keep V → Values
values_of k = stored k.wanted.list.items k.lengths k.bytes.items
