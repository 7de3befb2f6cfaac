use Rattle.std.proofs.Common.{◌≡◌, ◌∙◌, ◌^◌, ap}
use Rattle.std.proofs.lemmas.Result.{err_from_is_err_and}
use Rattle.sequence.specs.Consumed.{limits_of, reported_by}
use Rattle.dicomdir_writing.specs.RowOf.{row_limits, values_for}
use Rattle.std.specs.Prelude.{filter}
use Rattle.dicomdir_writing.specs.RecordTable.{is_read, key_table, keys_read}
use Rattle.dicomdir_writing.specs.Keys.{checked_row}
use Rattle.dicomdir_writing.specs.Row.{Row}
use Rattle.dicomdir_writing.proofs.RowLaws.{file_kept}
use Rattle.dicomdir_writing.proofs.RowWalking.{refused_header, refused_data_set, whole_file}
use Rattle.dicomdir_writing.proofs.row_reading.row_with.Goals as goal

pub returns-in-Err : goal.returns-in-Err
returns-in-Err g c = rw c.number.ensures (record { row = refused_header c.args.additional.now (keys_read c.args.keys) c.in-Err.fault (g.R.Read.remaining c.args.reader.now) c.args.file_id.now c.in-Err.ensures.fault; file = _ })

pub returns-in_err-walk : goal.returns-in_err-walk
returns-in_err-walk g c =
    let p = err_from_is_err_and c.from_residual.result c.from_residual.ensures.1 in
    let limits : limits_of c.in_transfer-walker.result ≡ row_limits (keys_read c.args.keys) = c.in_transfer-walker.ensures.limits ∙ ap (λ w. record { wanted = w; depth = 64; bytes = 2 ^ 48 }) c.wanted.ensures in
    rw (p.1, p.2) (record {
      row = refused_data_set c.in_transfer-walker.result c.args.additional.now (keys_read c.args.keys) c.in-Ok.meta (g.R.Read.remaining c.args.reader.now) _ c.args.file_id.now c.in_err-walk.field-0.0
          (record { header = c.in-Ok.ensures.header; allowed = c.in-Ok.ensures.allowed }) c.in_transfer-walker.ensures.syntax limits c.in_err-walk.ensures.fails;
      file = _;
    })

pub returns : goal.returns
returns g c =
    let limits : limits_of c.in_transfer-walker.result ≡ row_limits (keys_read c.args.keys) = c.in_transfer-walker.ensures.limits ∙ ap (λ w. record { wanted = w; depth = 64; bytes = 2 ^ 48 }) c.wanted.ensures in
    let values = values_for (filter (is_read c.args.keys) key_table) (reported_by c.walk.new.walker).kept in
    let row : Row = record { file_id = c.args.file_id.now; class = c.in-Ok.meta.class; instance = c.in-Ok.meta.instance; syntax = c.in-Ok.meta.syntax; values = values } in
    let is : c.new.result ≡ checked_row row =
    c.new.ensures ∙ ap (λ values. checked_row (record { file_id = c.args.file_id.now; class = c.in-Ok.meta.class; instance = c.in-Ok.meta.instance; syntax = c.in-Ok.meta.syntax; values = values })) (c.in_ok-keys.ensures.values ∙ ap (λ rules. values_for (filter (is_read c.args.keys) rules) (reported_by c.walk.new.walker).kept) c.key_table.ensures) in
    record {
      row = whole_file c.walk.new.walker c.args.additional.now (keys_read c.args.keys) c.in-Ok.meta (g.R.Read.remaining c.args.reader.now) _ c.args.file_id.now c.new.result
          (record { header = c.in-Ok.ensures.header; allowed = c.in-Ok.ensures.allowed })
          (c.in_ok-walk.ensures.same.0 ∙ c.in_transfer-walker.ensures.syntax) (c.in_ok-walk.ensures.same.1 ∙ limits) c.in_ok-walk.ensures.whole
          is;
      file = file_kept row c.new.result is;
    }
