-- The result of a step, from the state after it.
use Rattle.std.specs.Prelude.{◌≡◌, ℕ, List, Option, Some, None, not, if◌then◌else◌}
use Rattle.element.specs.declared.header.Header.{Header}
use Rattle.element.specs.Header.{is_marker, item_tag}
use Rattle.sequence.specs.Rules.{same_tag}
use Rattle.sequence.specs.declared.stage.Stage.{Stage}
use Rattle.sequence.specs.declared.stage.Stage.TheVariants as stages
use Rattle.sequence.specs.declared.step.Step.{Step}
use Rattle.sequence.specs.declared.step.Step.TheVariants.{More, Element, Opened, Closed, Refused}
use Rattle.sequence.specs.Answering.{IsRun}

abbrev pub made_reported : Option Header → Step
made_reported None = More
made_reported (Some h) = if not (is_marker h.tag) then Element h else (if same_tag h.tag item_tag then Opened h else Closed h)

abbrev pub header_reported : Stage → Option Header → Step
header_reported (stages.Stopped fault) made = Refused fault
header_reported stages.Heading made = made_reported made
header_reported (stages.Value tag remaining kept) made = made_reported made

abbrev pub value_reported : Stage → List ℕ → Step → Type 0
value_reported (stages.Stopped fault) bytes step = step ≡ Refused fault
value_reported stages.Heading bytes step = IsRun bytes step
value_reported (stages.Value tag remaining kept) bytes step = IsRun bytes step
