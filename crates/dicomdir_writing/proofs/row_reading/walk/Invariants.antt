use Rattle.std.proofs.Common.{◌≡◌, length}
use Rattle.dicomdir_writing.proofs.RowWalking.{Reads}
use Rattle.dicomdir_writing.proofs.row_reading.walk.Given as goal

abbrev pub invariant-loop : goal.invariant-loop
invariant-loop g l = record {
  room : length l.room ≡ 4096;
  reads : Reads l.fn.walker l.walker (g.R.Read.remaining l.fn.reader) (g.R.Read.remaining l.reader);
}
