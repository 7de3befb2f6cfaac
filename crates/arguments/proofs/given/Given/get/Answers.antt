use Rattle.std.proofs.Common.{ap, sym, ◌∙◌}
use Rattle.clap.specs.Matches.{found_of}
use Rattle.clap.specs.Walk.{first_of}
use Rattle.clap.proofs.WalkLemmas.{first_value-rows}
use Rattle.arguments.proofs.given.Given.get.Goals as goal

pub returns : goal.returns
returns c = sym (c.get_str.ensures ∙ (first_value-rows (found_of c.self.inside.matches) c.args.id.now ∙ ap (first_of c.args.id.now) c.self.view_is))
