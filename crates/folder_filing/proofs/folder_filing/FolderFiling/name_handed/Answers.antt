use Rattle.std.proofs.Common.{◌∙◌, ap}
use Rattle.std.proofs.Math.Logic.{∥∥₁_map}
use Rattle.folder_filing.proofs.WaitingFileIsNewest.{none_has_its_name, still_reported}
use Rattle.folder_filing.proofs.folder_filing.FolderFiling.name_handed.Goals as goal

pub invariant_of-self : goal.invariant_of-self
invariant_of-self g c =
    let unnamed = ap (λ z. z.pending) c.self.view_is ∙ c.sync_handed.ensures.same_pending ∙ c.requires.unnamed in (
      ∥∥₁_map c.self.invariant.0 c.name_draft.ensures.orderly,
      none_has_its_name _ _ unnamed,
      still_reported _ _ _ _ c.name_draft.ensures.own c.self.invariant.2,
    )
