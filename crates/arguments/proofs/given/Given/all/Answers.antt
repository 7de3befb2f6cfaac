use Rattle.std.proofs.Common.{ap, ◌∙◌}
use Rattle.clap.specs.Matches.{found_of}
use Rattle.clap.specs.Walk.{all_of}
use Rattle.clap.proofs.WalkLemmas.{raw_values-rows}
use Rattle.arguments.proofs.SubcommandHasItsRows.{values_by}
use Rattle.arguments.proofs.given.Given.all.Goals as goal

pub returns : goal.returns
returns c =
    values_by _ c.unwrap_or_default.result _ c.unwrap_or_default.ensures (c.get_strs.ensures ∙ (raw_values-rows (found_of c.self.inside.matches) c.args.id.now ∙ ap (all_of c.args.id.now) c.self.view_is))
