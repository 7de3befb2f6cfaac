use Rattle.std.proofs.Common.{rules, tests}
use Rattle.std.proofs.lemmas.Iterator.Search.{all_from_yields_List}
use Rattle.std.proofs.lemmas.Iterator.Splits.{YieldsList-from_slice_split}
use Rattle.element.specs.Values.{is_backslash}
use Rattle.values.specs.Forms.{obeys}
use Rattle.values.proofs.table.each_part_obeys.Goals as goal

pub returns : goal.returns
returns c = all_from_yields_List (obeys c.args.rule) _ _ _ c.all.ensures.ran
    (YieldsList-from_slice_split _ is_backslash c.args.text.now c.split.ensures.rest c.split.ensures.done c.split.ensures.closure (λ x r q k. search (rules, tests)))
    (λ x r q k. search (rules, tests))
