-- Examples: verdicts on C-STOREs of CT images whose data sets break a rule.
use Rattle.std.specs.Prelude.{ℕ, ◌^◌, Bool, true, List, Some, None, codes}
use Rattle.dictionary.specs.declared.transfer.Transfer.{Transfer}
use Rattle.dictionary.specs.declared.transfer.Transfer.TheVariants.{Implicit, Explicit}
use Rattle.dictionary.specs.declared.class.Class.TheVariants.{Ct}
use Rattle.negotiate.specs.declared.proposals.Service.TheVariants.{Known}
use Rattle.negotiate.specs.declared.proposals.Context.{Context}
use Rattle.dimse.specs.Command.{CommandRecord}
use Rattle.dimse.specs.Status.{out_of_resources, cannot_understand}
use Rattle.sequence.specs.Rules.{no_tag}
use Rattle.sequence.specs.Examples.{past_item, level_past_item, third_level, pixels}
use Rattle.engine.specs.Timeline.{Finding}
use Rattle.engine.specs.Stores.{Verdict, cause}

abbrev pub ct_in : Transfer → Context
ct_in syntax = record { class = Known Ct; syntax = syntax }

abbrev pub ct_store : CommandRecord
ct_store = record { class = codes "1.2.840.10008.5.1.4.1.1.2"; field = 1; message = 7; with_data = true; instance = Some (codes "1.2.3") }

-- with at most `depth` levels, this is the verdict on the data set, whether or not the filing failed
abbrev pub Arrives : ℕ → Transfer → List ℕ → Finding → Type 0
Arrives depth syntax set finding = (failed : Bool) → Verdict depth (2 ^ 40) (ct_in syntax) ct_store set failed finding

-- An item in which no further header fits; a sequence of undefined length that fills its item; a third level where two
-- may be open; pixel data of undefined length.
abbrev pub VerdictsOnFaults : Type 0
VerdictsOnFaults =
    Arrives 64 Implicit past_item (cause cannot_understand 17 no_tag)
    × Arrives 64 Implicit level_past_item (cause cannot_understand 17 no_tag)
    × Arrives 2 Implicit third_level (record { status = out_of_resources; detail = None })
    × Arrives 64 Explicit pixels (cause cannot_understand 14 (record { 0 = 0x7fe0; 1 = 0x0010 }))
