use Rattle.std.proofs.Common.{◌∙◌}
use Rattle.sending.proofs.StoreIsAnswered.{stored_if}
use Rattle.sending.proofs.association.Association.exchange.Goals as goal

pub returns-clause-answered : goal.returns-clause-answered
returns-clause-answered g c =
    rw c.receive_response.ensures.same
    (stored_if c.receive_response.result c.args.route.context _ _ _ _ _ _ _ _ _ _ _ (rw (c.as_slice.ensures.value ∙ c.store_set-set.ensures.items) at c.in_ok-send_command.ensures.sent) c.in_ok-send_data.ensures.sent
    (rw (c.in_ok-send_data.ensures.same ∙ c.in_ok-send_command.ensures.same) at c.receive_response.ensures.response))
