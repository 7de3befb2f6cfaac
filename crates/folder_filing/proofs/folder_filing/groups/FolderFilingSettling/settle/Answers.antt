use Rattle.std.proofs.Common.{◌≡◌, ◌∙◌, false, ap, subst}
use Rattle.folder_filing.specs.Settling.{is_unsettled, is_waiting}
use Rattle.folder_filing.proofs.ReportsAreDurable.{waits_as}
use Rattle.folder_filing.proofs.folder_filing.groups.FolderFilingSettling.settle.Goals as goal

pub returns-in-Settled-clause-settled : goal.returns-in-Settled-clause-settled
returns-in-Settled-clause-settled g c =
    let same = waits_as _ _ _ c.self.invariant.0 c.self.invariant.2 ∙ ap is_waiting c.in-Settled.is in
    subst (λ z. is_unsettled z ≡ false) c.self.view_is same
