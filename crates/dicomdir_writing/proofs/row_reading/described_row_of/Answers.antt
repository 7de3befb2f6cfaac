use Rattle.std.proofs.Common.{sym, ◌∙◌, Ok, Err}
use Rattle.dicomdir_writing.proofs.RowWalking.{described_result, undescribed_result}
use Rattle.dicomdir_writing.proofs.row_reading.described_row_of.Goals as goal

pub returns-in-Ok : goal.returns-in-Ok
returns-in-Ok g c = record {
  row = described_result c.args.additional.now (g.R.Read.remaining c.args.reader.now) (g.R.Read.remaining c.args.again.now) c.args.file_id.now (Ok c.in-Ok.row) c.in-Ok.ensures.row tt;
  file = c.in-Ok.ensures.file;
}

pub returns-then-is_too_long : goal.returns-then-is_too_long
returns-then-is_too_long g c = record {
  row = undescribed_result c.args.additional.now (g.R.Read.remaining c.args.reader.now) (g.R.Read.remaining c.args.again.now) c.args.file_id.now c.in-Err.reason c.rows_of.result c.in-Err.ensures.row
      (sym c.is_too_long.ensures ∙ c.if-is_too_long.true) c.rows_of.ensures.row;
  file = c.rows_of.ensures.file;
}

pub returns : goal.returns
returns g c = record {
  row = described_result c.args.additional.now (g.R.Read.remaining c.args.reader.now) (g.R.Read.remaining c.args.again.now) c.args.file_id.now (Err c.in-Err.reason) c.in-Err.ensures.row
      (sym c.is_too_long.ensures ∙ c.if-is_too_long.false);
  file = _;
}
