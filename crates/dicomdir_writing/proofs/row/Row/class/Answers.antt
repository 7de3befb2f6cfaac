use Rattle.std.proofs.Common.{ap, ◌∙◌}
use Rattle.dicomdir_writing.proofs.row.Row.class.Goals as goal

pub returns-clause-value : goal.returns-clause-value
returns-clause-value g c = c.as_bytes.ensures ∙ ap (λ r. r.class) c.self.view_is
