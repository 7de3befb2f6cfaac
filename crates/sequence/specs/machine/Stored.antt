-- How many bytes the value that is being read may still have, by its limit.
use Rattle.std.specs.Prelude.{ℕ}
use Rattle.sequence.specs.declared.keep.Keep.{Keep}
use Rattle.sequence.specs.machine.Keeping.{remaining_at}

abbrev pub remaining_of_keep : {V : ℕ} → Keep V → ℕ
remaining_of_keep k = remaining_at k.slot k.wanted.list.items k.lengths
