use Rattle.std.proofs.Common.{length, map, refl, arith, subst, sym}
use Rattle.std.proofs.Math.Logic.{∥∥₁_map}
use Rattle.folder_filing.specs.Naming.{IsOrderly}
use Rattle.folder_filing.specs.Settling.{AreReported, IsNamedLast}
use Rattle.folder_filing.proofs.NamesStayOrderly.{continues, keeps_same, passed_on}
use Rattle.folder_filing.proofs.WaitingFileIsNewest.{same_last}
use Rattle.folder_filing.proofs.folder_filing.FolderFilingFiling.append.Goals as goal
use Rattle.folder_filing.proofs.folder_filing.FolderFilingFiling.append.Goals.{in-Some, in-None}

pub invariant_of-self : goal.invariant_of-self
invariant_of-self g c =
    let was = subst (λ z. ∥ IsOrderly z.names ∥₁) (sym c.self-inside.view_is) c.self.invariant.0 in
    let last = subst (λ z. ∥ IsNamedLast z.pending z.names.calls ∥₁) (sym c.self-inside.view_is) c.self.invariant.1 in
    let counted = subst (λ z. AreReported (length (map (λ t. t.bytes) z.kept)) z.pending z.names) (sym c.self-inside.view_is) c.self.invariant.2 in
    elim c.match-self.branch [
      | in-Some w ↦
          let asked = passed_on _ _ _ w.write_all-written.ensures.unchanged w.write_all-written.ensures.refused in
          rw w.self-inside-is (∥∥₁_map was (continues _ _ refl (omega arith) (keeps_same _) asked.0 (asked.1 _ _)), same_last _ _ _ asked.0 asked.2 last, counted)
      | in-None w ↦ rw w.self-inside-is (was, last, counted)
    ]
