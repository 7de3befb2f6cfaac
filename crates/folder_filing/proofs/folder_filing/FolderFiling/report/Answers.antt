use Rattle.std.proofs.Common.{◌≡◌, ◌∙◌, true, length, map, refl, arith, ap, subst, sym}
use Rattle.std.proofs.Math.Logic.{∥∥₁_map}
use Rattle.folder_filing.specs.Naming.{IsNewest, IsOrderly, is_unreported, standing}
use Rattle.folder_filing.specs.declared.pending.Pending.TheVariants.{Settled}
use Rattle.folder_filing.specs.Settling.{AreReported}
use Rattle.folder_filing.proofs.NamesStayOrderly.{continues, keeps_same}
use Rattle.folder_filing.proofs.ReportsAreDurable.{waits_as}
use Rattle.folder_filing.proofs.FoldersAreSynced.{in_its_folder, is_reported, synced_by}
use Rattle.folder_filing.proofs.WaitingFileIsNewest.{is_newest, none_reported, one_reported}
use Rattle.folder_filing.proofs.folder_filing.FolderFiling.report.Goals as goal

pub report-requires-clause-synced : goal.report-requires-clause-synced
report-requires-clause-synced g c =
    let newest = is_newest _ c.args.location _ (ap (λ z. z.pending) c.self.view_is ∙ c.requires.named) c.self.invariant.1 in
    let now = subst (λ z. ∥ IsNewest c.args.location (standing z.names.calls) ∥₁) (sym c.self-inside.view_is) newest in
    λ has. in_its_folder c.args.location _ _ now (c.has_synced-has.ensures.has c.if-has.true)

pub report-requires-clause-newest : goal.report-requires-clause-newest
report-requires-clause-newest g c =
    let newest = is_newest _ c.args.location _ (ap (λ z. z.pending) c.self.view_is ∙ c.requires.named) c.self.invariant.1 in
    let now = subst (λ z. ∥ IsNewest c.args.location (standing z.names.calls) ∥₁) (sym c.self-inside.view_is) newest in
    let asked = synced_by c.args.location _ _ (c.has_synced-has.ensures.has c.if-has.true) in
    subst (λ z. ∥ IsNewest c.args.location z ∥₁) (sym asked.standing) now

pub report-requires-clause-unreported : goal.report-requires-clause-unreported
report-requires-clause-unreported g c =
    let none = none_reported _ c.args.location _ (ap (λ z. z.pending) c.self.view_is ∙ c.requires.named) c.self.invariant.1 in
    let now = subst (λ z. is_unreported z.names.calls ≡ true) (sym c.self-inside.view_is) none in
    (synced_by c.args.location _ _ (c.has_synced-has.ensures.has c.if-has.true)).unreported ∙ now

pub invariant_of-self : goal.invariant_of-self
invariant_of-self g c =
    let was = subst (λ z. ∥ IsOrderly z.names ∥₁) (sym c.self-inside.view_is) c.self.invariant.0 in
    let named = ap (λ z. z.pending) c.self-inside.view_is ∙ ap (λ z. z.pending) c.self.view_is ∙ c.requires.named in
    let counted = subst (λ z. AreReported (length (map (λ t. t.bytes) z.kept)) z.pending z.names) (sym c.self-inside.view_is) c.self.invariant.2 in
    let asked = synced_by c.args.location _ _ (c.has_synced-has.ensures.has c.if-has.true) in
    let orderly = c.report.ensures.orderly (∥∥₁_map was (continues _ _ refl (omega arith) (keeps_same _) asked.standing (asked.loses _ _))) in
    (orderly, ∣ tt ∣₁, one_reported _ _ c.args.location _ _ named counted (ap (λ z. z.own.reported) c.report.ensures.reported))

pub returns-then-has-clause-on_disk : goal.returns-then-has-clause-on_disk
returns-then-has-clause-on_disk g c =
    let was = subst (λ z. ∥ IsOrderly z.names ∥₁) (sym c.self-inside.view_is) c.self.invariant.0 in
    let named = ap (λ z. z.pending) c.self-inside.view_is ∙ ap (λ z. z.pending) c.self.view_is ∙ c.requires.named in
    let counted = subst (λ z. AreReported (length (map (λ t. t.bytes) z.kept)) z.pending z.names) (sym c.self-inside.view_is) c.self.invariant.2 in
    let asked = synced_by c.args.location _ _ (c.has_synced-has.ensures.has c.if-has.true) in
    let orderly = c.report.ensures.orderly (∥∥₁_map was (continues _ _ refl (omega arith) (keeps_same _) asked.standing (asked.loses _ _))) in
    λ _. waits_as _ Settled _ orderly (one_reported _ _ c.args.location _ _ named counted (ap (λ z. z.own.reported) c.report.ensures.reported))

pub returns-then-has-clause-reported : goal.returns-then-has-clause-reported
returns-then-has-clause-reported g c =
    let names = ap (λ z. z.names) c.self-inside.view_is ∙ ap (λ z. z.names) c.self.view_is in
    λ has. is_reported c.args.location _ c.args.self.now.names _ _ names (c.has_synced-has.ensures.has has) c.report.ensures.reported
