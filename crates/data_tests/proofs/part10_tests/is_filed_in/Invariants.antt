use Rattle.std.proofs.Common.{◌≡◌, true, is_some}
use Rattle.data_tests.proofs.part10_tests.is_filed_in.Given as goal

abbrev pub invariant-loop : goal.invariant-loop
invariant-loop l = is_some l.filing.draft ≡ true
