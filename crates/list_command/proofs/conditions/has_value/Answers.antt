use Rattle.std.proofs.Common.{rules, tests, nat_eq}
use Rattle.std.specs.Cmp.Lexicographic.{pointwise}
use Rattle.std.proofs.lemmas.Iterator.Search.{any_from_yields_List}
use Rattle.std.proofs.lemmas.Iterator.Splits.{YieldsList-from_slice_split}
use Rattle.element.specs.Padding.{is_padding, without_trailing}
use Rattle.list_command.specs.Values.{is_separator}
use Rattle.list_command.proofs.conditions.has_value.Goals as goal

pub returns : goal.returns
returns c = any_from_yields_List (λ value. pointwise nat_eq (without_trailing is_padding value) c.args.text.now) _ _ _ c.any.ensures.ran
    (YieldsList-from_slice_split _ is_separator c.args.values.now c.split.ensures.rest c.split.ensures.done c.split.ensures.closure (λ x r q k. search (rules, tests)))
    (λ x r q k. search (rules, tests))
