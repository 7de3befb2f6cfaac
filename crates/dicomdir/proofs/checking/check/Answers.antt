use Rattle.std.proofs.Common.{refl, ◌-◌, length, arith}
use Rattle.std.proofs.lemmas.Result.{IfOk-weaker, IfErr-weaker}
use Rattle.dicomdir.specs.NodesInUse.{tree_nodes}
use Rattle.dicomdir.proofs.FaultsAreInOrder.{file_fails, file_nodes}
use Rattle.dicomdir.proofs.WalksEndOrFail.{data_set_check}
use Rattle.dicomdir.proofs.checking.check.Goals as goal
use Rattle.std.proofs.lemmas.Grind.{common_steps}

pub returns-clause-nodes : goal.returns-clause-nodes
returns-clause-nodes g c =
    let whole = c.in_default.ensures.good refl in
    IfOk-weaker c.check_elements.result _ _ (λ tree checks. file_nodes c.in-Ok.ensures.read _ whole.elements (tree_nodes tree) refl whole.text (checks whole.elements whole.text)) c.check_elements.ensures.whole

pub returns-clause-fault : goal.returns-clause-fault
returns-clause-fault g c =
    let whole = c.in_default.ensures.good refl in
    IfErr-weaker c.check_elements.result _ _ (λ f fails other. file_fails c.in-Ok.ensures.read _ whole f refl (fails whole.elements whole.text) other) c.check_elements.ensures.fails

pub returns-in-Err-walk-clause-fault : goal.returns-in-Err-walk-clause-fault
returns-in-Err-walk-clause-fault g c other = grind (arith, common_steps, data_set_check c.in-Ok.ensures.read c.in-Err-walk.fault (length c.args.bytes.now - length c.in-Ok.text.now) refl c.in-Err-walk.ensures.fails)
