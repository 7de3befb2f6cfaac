use Rattle.std.proofs.Common.{◌∙◌, sym, arith}
use Rattle.dicomdir.proofs.ElementsFoundByTag.{finds_items, finds_value}
use Rattle.dicomdir.proofs.found.element_at.Goals as goal
use Rattle.std.proofs.lemmas.Grind.{common_steps}

pub returns-in-Sequence-clause-found : goal.returns-in-Sequence-clause-found
returns-in-Sequence-clause-found c f content more size is whole = grind (arith, common_steps, finds_items c.args.syntax c.in-Sequence.inner c.args.head.header c.args.offset c.args.head.size f content more c.args.text.now c.content_of-text.result.now size (sym c.shape_of.ensures ∙ c.in-Sequence.is) is whole c.content_of-text.ensures.value)

pub returns-in-Value : goal.returns-in-Value
returns-in-Value c = record {
  end = tt;
  found = λ f content more size is whole. finds_value c.args.syntax c.args.head.header c.shape_of.result c.in-Value.is c.shape_of.ensures c.args.offset f content more c.args.text.now c.content_of-text.result.now is whole c.content_of-text.ensures.value;
}
