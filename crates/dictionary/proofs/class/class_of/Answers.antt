use Rattle.std.proofs.Common.{◌∙◌, ap}
use Rattle.dictionary.specs.Classes.{class_named}
use Rattle.dictionary.proofs.class.class_of.Goals as goal

pub returns : goal.returns
unfolding class_named
returns c = c.first_named.ensures ∙ ap class_named c.unpadded.ensures
