use Rattle.std.proofs.Common.{◌∙◌, sym}
use Rattle.sequence.proofs.CodeIsMachine.InnermostLevel.{top_at}
use Rattle.sequence.proofs.levels.top_scope.Goals as goal

pub returns-in-len1-up : goal.returns-in-len1-up
returns-in-len1-up c =
    c.scope.ensures ∙ sym (top_at c.args.root c.args.levels.now (record { end = 0; last = 0; kind = 0; implicit = 0 }) c.in-len1-up.len_at_least)
