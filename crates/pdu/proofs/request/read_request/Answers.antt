use Rattle.std.proofs.Common.{arith}
use Rattle.pdu.proofs.BodySpellsOneRequest.{request_text, request_ok, request_err, none_where_fault}
use Rattle.pdu.proofs.request.read_request.Goals as goal

pub view-requires : goal.view-requires
view-requires c = request_ok c.args.body.now _ (omega arith) c.split_at.ensures.back c.in-Ok.ensures

pub returns-in-Ok-clause-text : goal.returns-in-Ok-clause-text
returns-in-Ok-clause-text c =
    let b = c.args.body.now in
    rw c.view.ensures (request_text b (request_ok b _ (omega arith) c.split_at.ensures.back c.in-Ok.ensures))

pub returns-in-Err-clause-only : goal.returns-in-Err-clause-only
returns-in-Err-clause-only c =
    let b = c.args.body.now in
    none_where_fault b c.in-Err.fault (request_err b _ c.in-Err.fault (omega arith) c.split_at.ensures.back c.in-Err.ensures)
