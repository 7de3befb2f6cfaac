use Rattle.std.proofs.lemmas.List.{reverse-append}
use Rattle.std.proofs.Common.{refl}
use Rattle.std.proofs.Math.Logic.{∥∥₁_elim, ∥∥₁_map, ∥∥₁_prop}
use Rattle.folder_filing.proofs.NamesStayOrderly.{reports}
use Rattle.folder_filing.proofs.given_names.GivenNames.report.Goals as goal

pub returns-clause-orderly : goal.returns-clause-orderly
returns-clause-orderly g c = λ h. ∥∥₁_elim c.requires.newest ∥∥₁_prop (λ n. ∥∥₁_map h (reports _ _ _ (rw (← c.self.view_is, c.report.ensures, c.push.ensures, reverse-append c.self.inside.reported) refl) n c.requires.unreported c.requires.synced))
