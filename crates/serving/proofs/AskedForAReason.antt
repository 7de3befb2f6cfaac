-- An abort is asked for once at most (`asked_once`, `still_unasked`), and for a reason (`asked_for_a_reason`).
use Rattle.std.proofs.Common.{◌≡◌, ℕ, ◌≤◌, ◌||◌, ◌&&◌, Bool, true, false, List, [], ◌∷◌, ◌++◌, length, Option, IsNone, IsSome, refl, sym, ap, ◌∙◌, append-nil, arith}
use Rattle.std.specs.List.{list_all}
use Rattle.serving.specs.Timed.{with_asked}
use Rattle.serving.specs.TimeLimits.{had_reasons, has_lasted}

-- none was asked for yet
pub none_without_a_reason : (is_stopped : Bool) (longest : Option ℕ) (opened : ℕ) (asked : List ℕ) → asked ≡ [] → had_reasons is_stopped longest opened asked ≡ true
unfolding had_reasons
none_without_a_reason true longest opened asked none = refl
none_without_a_reason false longest opened asked none = ap (list_all (has_lasted longest opened)) none

some_none : {T : Type 0} (x : Option T) → IsSome x → IsNone x → ⊥
some_none x h k = let wrong : true ≡ false = sym h ∙ k in absurd cc

-- with an input more, which is the first abort that is asked for, or none
module _ (is_asked : Bool) (now : ℕ) (old new : List ℕ) (more : new ≡ old ++ with_asked is_asked now []) (first : is_asked ≡ true → old ≡ []) where
  one_at_most : (b : Bool) → b ≡ is_asked → (length old ≤ 1 → length new ≤ 1)
  one_at_most true e le = let is : new ≡ now ∷ [] = more ∙ ap (λ (xs : List ℕ). xs ++ with_asked is_asked now []) (first (sym e)) ∙ ap (λ (b : Bool). with_asked b now []) (sym e) in omega (arith, ap length is)
  one_at_most false e le = let is : new ≡ old = more ∙ ap (λ (b : Bool). old ++ with_asked b now []) (sym e) ∙ append-nil old in omega (arith, ap length is, le)

  pub asked_once : length old ≤ 1 → length new ≤ 1
  asked_once = one_at_most is_asked refl

  pub still_unasked : {T : Type 0} (aborted : Option T) → (is_asked ≡ true → IsSome aborted) → (IsNone aborted → old ≡ []) → IsNone aborted → new ≡ []
  still_unasked aborted noted unasked none = unasked_as is_asked refl
    where
      unasked_as : (b : Bool) → b ≡ is_asked → new ≡ []
      unasked_as true e = absurd (some_none aborted (noted (sym e)) none)
      unasked_as false e = more ∙ ap (λ (b : Bool). old ++ with_asked b now []) (sym e) ∙ append-nil old ∙ unasked none

  pub asked_for_a_reason : (is_stopped : Bool) (longest : Option ℕ) (opened : ℕ) → (is_asked ≡ true → (is_stopped || has_lasted longest opened now) ≡ true) → had_reasons is_stopped longest opened old ≡ true → had_reasons is_stopped longest opened new ≡ true
  unfolding had_reasons
  asked_for_a_reason is_stopped longest opened reason had = reasons_as is_asked refl is_stopped reason had
    where
      reasons_as : (b : Bool) → b ≡ is_asked → (s : Bool) → (is_asked ≡ true → (s || has_lasted longest opened now) ≡ true) → (s || list_all (has_lasted longest opened) old) ≡ true → (s || list_all (has_lasted longest opened) new) ≡ true
      reasons_as b e true reason had = refl
      reasons_as true e false reason had =
          let is : new ≡ now ∷ [] = more ∙ ap (λ (xs : List ℕ). xs ++ with_asked is_asked now []) (first (sym e)) ∙ ap (λ (b : Bool). with_asked b now []) (sym e) in
          ap (list_all (has_lasted longest opened)) is ∙ ap (λ (b : Bool). b && true) (reason (sym e))
      reasons_as false e false reason had =
          let is : new ≡ old = more ∙ ap (λ (b : Bool). old ++ with_asked b now []) (sym e) ∙ append-nil old in ap (list_all (has_lasted longest opened)) is ∙ had
