use Rattle.std.proofs.Common.{◌≡◌, IfOk, sym, subst}
use Rattle.index_command.proofs.SharesAreKept.{row_more, reason_more}
use Rattle.index_command.proofs.contents.Contents.push.Goals as goal

pub returns-in_ok-push-in-Ok : goal.returns-in_ok-push-in-Ok
returns-in_ok-push-in-Ok g c =
    let own : c.in-Ok.row.file_id ≡ c.args.id.now = subst (λ given. IfOk given (λ row. row.file_id ≡ c.args.id.now)) c.in-Ok.is c.requires.own in
    record { one = rw (c.in_ok-push-in-Ok.ensures.items, sym own) (row_more c.args.self.now.rows.items c.args.self.now.skipped.items c.in-Ok.row) }

pub returns-in_ok-push-in-Err : goal.returns-in_ok-push-in-Err
returns-in_ok-push-in-Err g c = record { one = rw c.in_ok-push-in-Err.ensures.items (reason_more c.args.self.now.rows.items c.args.self.now.skipped.items _) }
