-- A header at the front of a file's bytes is whole where they hold as many as it needs (`whole_at`). Stands on the
-- definitions alone.
use Rattle.std.proofs.Common.{◌≡◌, ℕ, ◌≤◌, true, List, length, ap, ◌∙◌, arith, nat_le}
use Rattle.std.proofs.lemmas.Bool.Decides.{nat_tests}
use Rattle.element.specs.declared.syntax.Syntax.{Syntax}
use Rattle.element.specs.declared.size.Need.TheVariants.{Size}
use Rattle.element.specs.Header.{need, is_whole, has_size}

pub whole_at : (s : Syntax) (b : List ℕ) (k : ℕ) → need s b ≡ Size k → k ≤ length b → is_whole s b ≡ true
unfolding is_whole
whole_at s b k e fits =
    let same : has_size (need s b) (length b) ≡ nat_le k (length b) = ap (λ n. has_size n (length b)) e in
    let holds : nat_le k (length b) ≡ true = grind (arith, nat_tests, fits) in
    same ∙ holds
