-- Data sets that break a rule have the verdict of that fault (`verdicts_on_faults`). Stands on the laws of `sequence`.
use Rattle.std.proofs.Common.{◌≡◌, inl, inr, ℕ, ◌^◌, Bool, List, length, Some, refl, subst}
use Rattle.dictionary.specs.declared.transfer.Transfer.{Transfer}
use Rattle.dictionary.specs.declared.transfer.Transfer.TheVariants.{Implicit, Explicit}
use Rattle.dictionary.specs.Classes.{class_named}
use Rattle.negotiate.specs.declared.proposals.Context.{Context}
use Rattle.dimse.specs.Command.{CommandRecord}
use Rattle.sequence.specs.Transfer.{coding_in}
use Rattle.sequence.specs.declared.fault.Fault.{Fault}
use Rattle.sequence.specs.Tree.{no_elements}
use Rattle.sequence.specs.Ending.{breaks_rule}
use Rattle.sequence.specs.Walk.{Report, Reports, going, refused}
use Rattle.sequence.specs.Examples.{past_item, level_past_item, third_level, pixels}
use Rattle.sequence.proofs.Public.{past_its_item, too_deep, unknown_content}
use Rattle.engine.specs.Stores.{IsOfContext, Verdict, limits, wanted, of_fault}
use Rattle.engine.specs.VerdictExamples.{ct_in, ct_store, VerdictsOnFaults}

-- the verdict on a data set of which a refusal is reported
pub fault_reported : (depth most : ℕ) (context : Context) (command : CommandRecord) (set : List ℕ) (failed : Bool) (reported : Report) (fault : Fault) → IsOfContext context command → Reports (coding_in context.syntax) (limits depth most) set reported → reported.fault ≡ Some fault
    → Verdict depth most context command set failed (of_fault fault)
fault_reported depth most context command set failed reported fault of (going ok o) e = absurd cc
fault_reported depth most context command set failed reported fault of (refused {p = p} {u = u} {rule = rule} {tag = tag} f o) e =
    let same : ◌≡◌ {A = Fault} (record { number = rule; offset = length p; tag = tag }) fault = cc in
    subst (λ (z : Fault). Verdict depth most context command set failed (of_fault z)) same (record { elements = no_elements; first = inr (of, inl (_, breaks_rule f, refl)) })

of_ct : (syntax : Transfer) → IsOfContext (ct_in syntax) ct_store
unfolding class_named
of_ct syntax = record { named = refl; storage = refl }

pub verdicts_on_faults : VerdictsOnFaults
verdicts_on_faults = (
  λ failed. fault_reported 64 (2 ^ 40) (ct_in Implicit) ct_store past_item failed _ _ (of_ct Implicit) (past_its_item wanted).0 refl,
  λ failed. fault_reported 64 (2 ^ 40) (ct_in Implicit) ct_store level_past_item failed _ _ (of_ct Implicit) (past_its_item wanted).2 refl,
  λ failed. fault_reported 2 (2 ^ 40) (ct_in Implicit) ct_store third_level failed _ _ (of_ct Implicit) (too_deep wanted).0 refl,
  λ failed. fault_reported 64 (2 ^ 40) (ct_in Explicit) ct_store pixels failed _ _ (of_ct Explicit) (unknown_content wanted).1 refl,
)
