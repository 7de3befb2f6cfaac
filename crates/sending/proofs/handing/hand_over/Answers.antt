use Rattle.std.proofs.Common.{rules, inl, inr}
use Rattle.sending.proofs.StoreIsAnswered.{responds, ok_at}
use Rattle.sending.specs.Sending.{is_filed, is_refused}
use Rattle.sending.proofs.handing.hand_over.Goals as goal

pub returns-then-is_refused-clause-removes : goal.returns-then-is_refused-clause-removes
returns-then-is_refused-clause-removes g c =
    let front = ok_at _ _ _ c.in-Ok-Ok.field-0-is c.in-Ok-Ok.ensures.front in
    inr (inr (c.refuse-then-is_refused.ensures, inl (responds is_refused _ front.0 _ _ _ _ _ _ _ _ _ _ _ _ front.1 front.2 c.in_ok-status.ensures.answered (search rules))))

pub returns-in-Ok-clause-removes : goal.returns-in-Ok-clause-removes
returns-in-Ok-clause-removes g c =
    let front = ok_at _ _ _ c.in-Ok-Ok.field-0-is c.in-Ok-Ok.ensures.front in
    inr (inl (c.remove.ensures, responds is_filed _ front.0 _ _ _ _ _ _ _ _ _ _ _ _ front.1 front.2 c.in_ok-status.ensures.answered (search rules)))

pub returns-in-Err-remove-clause-removes : goal.returns-in-Err-remove-clause-removes
returns-in-Err-remove-clause-removes g c =
    let front = ok_at _ _ _ c.in-Ok-Ok.field-0-is c.in-Ok-Ok.ensures.front in
    inr (inl (c.remove.ensures, responds is_filed _ front.0 _ _ _ _ _ _ _ _ _ _ _ _ front.1 front.2 c.in_ok-status.ensures.answered (search rules)))
