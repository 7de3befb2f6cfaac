use Rattle.std.proofs.Common.{◌∙◌, arith}
use Rattle.std.proofs.lemmas.Grind.{common_steps}
use Rattle.element.specs.Title.{title_of_text}
use Rattle.arguments.proofs.TransfersAreAsAsked.{map_now}
use Rattle.arguments.proofs.callers.called_of.Goals as goal

pub returns : goal.returns
returns c = record {
  read = map_now title_of_text c.in_ok-texts.texts.now _ c.in_ok-texts.ensures.values ∙ grind (arith, common_steps);
}
