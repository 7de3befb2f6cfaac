use Rattle.std.proofs.Common.{◌∙◌}
use Rattle.sending.proofs.StoreIsAnswered.{echoed_if}
use Rattle.sending.proofs.association.Association.echo.Goals as goal

pub returns : goal.returns
returns g c =
    rw c.receive_response.ensures.same
    (echoed_if c.receive_response.result _ _ _ _ _ _ (rw (c.as_slice.ensures.value ∙ c.echo_set-set.ensures.items) at c.in_ok-send_command.ensures.sent)
    (rw c.in_ok-send_command.ensures.same at c.receive_response.ensures.response))
