use Rattle.std.proofs.Common.{◌≡◌, ◌∙◌, subst, sym}
use Rattle.folder_filing.specs.Settling.{is_unsettled, is_waiting}
use Rattle.folder_filing.proofs.ReportsAreDurable.{waits_as}
use Rattle.folder_filing.proofs.folder_filing.groups.FolderFilingSettling.has_pending.Goals as goal

pub returns : goal.returns
returns g c =
    let same = waits_as _ _ _ c.self.invariant.0 c.self.invariant.2 in
    c.is_waiting.ensures ∙ subst (λ z. is_waiting c.self.inside.pending ≡ is_unsettled z) c.self.view_is (sym same)
