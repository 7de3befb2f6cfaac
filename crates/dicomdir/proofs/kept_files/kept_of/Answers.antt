use Rattle.std.proofs.Common.{ap, ◌∙◌}
use Rattle.std.proofs.lemmas.Result.{IfOk-weaker}
use Rattle.dicomdir.specs.NodesInUse.{kept_in, tree_nodes}
use Rattle.dicomdir.proofs.NodesAndTreeAgree.{kept_of_nodes}
use Rattle.dicomdir.proofs.kept_files.kept_of.Goals as goal

pub returns-clause-kept : goal.returns-clause-kept
returns-clause-kept g c =
    IfOk-weaker c.images.result _ _
    (λ kept are file has. (are ∙ ap kept_in c.records.ensures) ∙ kept_of_nodes file (tree_nodes c.args.tree.now) has)
    c.images.ensures.kept
