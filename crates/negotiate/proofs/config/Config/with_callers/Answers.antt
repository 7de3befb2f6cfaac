use Rattle.std.specs.Ordering.{is_lt}
use Rattle.std.specs.Cmp.Lexicographic.{nat_list_cmp_total}
use Rattle.std.proofs.Common.{◌≡◌, rules}
use Rattle.std.proofs.lemmas.Fn.{always_returns_same}
use Rattle.std.proofs.lemmas.List.Sorted.{IsPermutation-map, ranks_by}
use Rattle.element.specs.Title.{title_text}
use Rattle.negotiate.specs.TitleOrder.{title_order}
use Rattle.negotiate.proofs.config.Config.with_callers.Goals as goal

pub invariant_of-self-clause-ordered : goal.invariant_of-self-clause-ordered
invariant_of-self-clause-ordered c =
    c.sort_unstable_by.ensures.sorted (λ x y. is_lt (title_order x y)) (ranks_by nat_list_cmp_total (λ t. title_text t.0))
    (always_returns_same _ (λ a r. is_lt r ≡ is_lt (title_order a.0.now a.1.0.now)) _ (λ a r f k. search rules))

pub returns-clause-callers : goal.returns-clause-callers
returns-clause-callers c = IsPermutation-map (λ t. t.0) _ _ c.sort_unstable_by.ensures.permutation
