use Rattle.std.proofs.Common.{rules, length}
use Rattle.sending.proofs.StoreIsAnswered.{received_three, head_is}
use Rattle.sending.proofs.response.receive_response.Goals as goal

pub returns-in-Some-clause-response : goal.returns-in-Some-clause-response
returns-in-Some-clause-response g c =
    received_three _ _ _ _ _ _ _ c.receive.new.room c.receive-2.new.room c.receive-3.new.room _ c.in_ok-receive.ensures.received c.in_ok-receive-2.ensures.received c.in_ok-receive-3.ensures.received
    (head_is c.receive.new.room c.read_pdu_head-head.result (length c.receive-3.new.room) c.read_pdu_head-head.ensures (search rules) (search rules)) (search rules) (rw c.if-response-message.true at c.in-Some.ensures)
