use Rattle.std.proofs.Common.{◌∙◌, ap}
use Rattle.std.proofs.Math.Logic.{∥∥₁_map}
use Rattle.folder_filing.proofs.WaitingFileIsNewest.{none_waits, one_more_reported, still_reported}
use Rattle.folder_filing.proofs.folder_filing.FolderFiling.name_draft.Goals as goal

pub invariant_of-self : goal.invariant_of-self
invariant_of-self g c =
    let settled = ap (λ z. z.pending) c.self.view_is ∙ c.requires.none_waits in
    (∥∥₁_map c.self.invariant.0 c.name_draft.ensures.orderly, none_waits _ _ settled, still_reported _ _ _ _ c.name_draft.ensures.own c.self.invariant.2)

pub invariant_of-self-in-Some : goal.invariant_of-self-in-Some
invariant_of-self-in-Some g c =
    let settled = ap (λ z. z.pending) c.self.view_is ∙ c.requires.none_waits in
    let orderly = c.report.ensures.orderly (∥∥₁_map c.self.invariant.0 c.name_draft.ensures.orderly) in (
      orderly,
      none_waits _ _ settled,
      one_more_reported _ _ _ _ _ _ _ _ _ c.push.ensures c.self.invariant.2 (ap (λ z. z.reported) c.name_draft.ensures.own) (ap (λ z. z.own.reported) c.report.ensures.reported),
    )
