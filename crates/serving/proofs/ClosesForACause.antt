-- A connection that has ended (`end_closes`), lost a file (`lost_closes`) or is stopped without a file that waits
-- (`stop_closes`) is to be closed, and is closed for one of these causes (`is_caused`). Stands on the definitions alone.
use Rattle.std.proofs.Common.{◌≡◌, ◌⊎◌, ◌&&◌, not, Bool, true, false, refl, inl, inr}
use Rattle.engine.specs.declared.report.Standing.{Standing}
use Rattle.engine.specs.declared.report.Standing.TheVariants.{Ended}
use Rattle.serving.specs.Causes.{is_to_close}

-- to be closed, by whether it has ended, is lost, is stopped, and has a file that waits
module _ (e l s p : Bool) where
  pub end_closes : e ≡ true → is_to_close e l s p ≡ true
  end_closes ended = rw ended refl

  pub lost_closes : l ≡ true → is_to_close e l s p ≡ true
  lost_closes lost = closes_if e l lost
    where
      closes_if : (e l : Bool) → l ≡ true → is_to_close e l s p ≡ true
      closes_if true l lost = refl
      closes_if false l lost = rw lost refl

  pub stop_closes : s ≡ true → p ≡ false → is_to_close e l s p ≡ true
  stop_closes stopped settled = closes_if e l (rw (stopped, settled) refl)
    where
      closes_if : (e l : Bool) → (s && not p) ≡ true → is_to_close e l s p ≡ true
      closes_if true l is = refl
      closes_if false true is = refl
      closes_if false false is = is

pub is_caused : (has_ended is_lost is_stopped has_pending : Bool) (standing : Standing) → is_to_close has_ended is_lost is_stopped has_pending ≡ true → (has_ended ≡ true → standing ≡ Ended)
    → (standing ≡ Ended) ⊎ ((is_lost ≡ true) ⊎ ((is_stopped ≡ true) × (has_pending ≡ false)))
is_caused true is_lost is_stopped has_pending standing due ends = inl (ends refl)
is_caused false true is_stopped has_pending standing due ends = inr (inl refl)
is_caused false false true false standing due ends = inr (inr (refl, refl))
is_caused false false true true standing due ends = absurd cc
is_caused false false false has_pending standing due ends = absurd cc
