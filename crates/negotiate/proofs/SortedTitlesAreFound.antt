-- A title is found by a binary search among titles in order just where it is one of them. Stands on the definitions alone.
use Rattle.std.proofs.Common.{◌≡◌, ℕ, ◌<◌, ◌≤◌, false, List, length, get_or, sym, ◌∙◌, ap, ⊎_elim}
use Rattle.std.specs.List.{list_any}
use Rattle.std.specs.List.Sorted.{IsSorted, IsBinarySearchResult, IsSearchInRange}
use Rattle.std.specs.Ordering.{is_eq}
use Rattle.std.specs.Result.{is_ok}
use Rattle.std.specs.Cmp.Lexicographic.{nat_list_cmp_total, texts_ties}
use Rattle.std.proofs.lemmas.List.Sorted.{searchable_from_sorted}
use Rattle.std.proofs.lemmas.List.Folds.{list_any_at, list_any_none}
use Rattle.std.proofs.lemmas.List.Elements.{All-from_all_within}
use Rattle.std.proofs.lemmas.Bool.{cases_lt}
use Rattle.std.specs.declared.result.Result.{Result}
use Rattle.std.specs.declared.result.Result.TheVariants.{Ok, Err}
use Rattle.element.specs.declared.title.AeTitle.{AeTitle}
use Rattle.element.specs.Title.{title_text}
use Rattle.negotiate.specs.Answer.{same_title}
use Rattle.negotiate.specs.TitleOrder.{title_order}

-- titles are the same just where neither is ordered before the other
same_by_order : (title other : AeTitle) → same_title other.0 title.0 ≡ is_eq (title_order other title)
same_by_order title other = texts_ties (title_text other.0) (title_text title.0)

pub found : (titles : List AeTitle) (title : AeTitle) (r : Result ℕ ℕ) → IsSorted title_order titles →
    IsSearchInRange r (length titles) → IsBinarySearchResult (λ y. title_order y title) titles r →
    is_ok r ≡ list_any (λ t. same_title t.0 title.0) titles
found titles title (Ok i) up within at =
    sym (list_any_at (λ t. same_title t.0 title.0) titles i title within (same_by_order title (get_or titles i title) ∙ ap is_eq (at title)))
found titles title (Err i) up within at = sym (list_any_none (λ t. same_title t.0 title.0) titles (All-from_all_within (λ t. same_title t.0 title.0 ≡ false) titles none))
  where
    none : (k : ℕ) (d : AeTitle) → 0 ≤ k → k < length titles → same_title (get_or titles k d).0 title.0 ≡ false
    none k d low high =
        let parted = at (searchable_from_sorted nat_list_cmp_total (λ t. title_text t.0) titles (title_text title.0) up) in
        same_by_order title (get_or titles k d)
        ∙ ⊎_elim (λ l. ap is_eq (parted.0 k d low l)) (λ g. ap is_eq (parted.1 k d g high)) (cases_lt k i)
