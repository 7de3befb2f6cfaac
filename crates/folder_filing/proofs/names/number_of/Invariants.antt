-- The digits that were read and those to come spell the number.
use Rattle.std.proofs.Common.{drop}
use Rattle.folder_filing.proofs.SevenDigitsFit.{Spells}
use Rattle.folder_filing.proofs.names.number_of.Given as goal

abbrev pub invariant-loop-byte : goal.invariant-loop-byte
invariant-loop-byte l = Spells l.digits l.number (drop l.byte-index l.digits)
