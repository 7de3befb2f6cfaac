-- A header that is put together from the kept bytes and the first ones of a piece is that of both, one after the other
-- (`split_end`, `plain_end`). Stands on WhereRulesBreak, MachineStands and WantedValues/MoreBytes.
use Rattle.std.proofs.Common.{◌≡◌, ℕ, ◌+◌, ◌-◌, ◌<◌, ◌≤◌, true, false, List, [], ◌∷◌, ◌++◌, length, take, Result, OnOk, IsOk, refl, sym, ap, subst, ◌∙◌, arith, append-nil, length-append}
use Rattle.std.proofs.lemmas.List.{take_all, take-take}
use Rattle.sequence.specs.declared.spot.Spot.{Spot}
use Rattle.sequence.specs.declared.heading.End.{End}
use Rattle.sequence.specs.declared.heading.End.TheVariants as ends
use Rattle.sequence.specs.Rules.{Limits}
use Rattle.sequence.specs.machine.Heading.{IsQuiet, IsEnd, is_part, kept_by}
use Rattle.sequence.proofs.WantedValues.MoreBytes.{on_ok}
use Rattle.sequence.proofs.MachineStands.HeaderParts.{part_short}
use Rattle.sequence.proofs.CodeIsMachine.WhereRulesBreak.{take_both, twelve_end}
use Rattle.sequence.proofs.MachineStands.UnbrokenHeader.{on_tail}

pub no_items : (t : List ℕ) → length t ≡ 0 → t ≡ []
no_items [] e = refl
no_items (x ∷ t) e = absurd (omega (arith, e))

-- a header that continues has fewer than twelve bytes
pub short_end : (lim : Limits) (spot : Spot) (bytes : List ℕ) (started : ℕ) (e : End) → is_part e ≡ true → IsEnd lim spot bytes started e → started < length bytes → length bytes < 12
short_end lim spot bytes started (ends.Refused n rule tag) p k more = absurd cc
short_end lim spot bytes started (ends.Whole n h sh) p k more = absurd cc
short_end lim spot bytes started ends.Part p k more =
    let q = k (length bytes) more (omega arith) in
    let all = take_all (length bytes) bytes (omega arith) in
    let short = part_short spot.syntax (take (length bytes) bytes) (on_tail lim spot (take (length bytes) bytes) q.fine q.part) in
    omega (arith, short, ap length all)

pub kept_part : (e : End) (bytes : List ℕ) → is_part e ≡ true → kept_by e bytes ≡ bytes
kept_part (ends.Refused n rule tag) bytes p = absurd cc
kept_part (ends.Whole n h sh) bytes p = absurd cc
kept_part ends.Part bytes p = refl

pub kept_none : (e : End) (bytes : List ℕ) → is_part e ≡ false → kept_by e bytes ≡ []
kept_none (ends.Refused n rule tag) bytes p = refl
kept_none (ends.Whole n h sh) bytes p = refl
kept_none ends.Part bytes p = absurd cc

module _ (lim : Limits) (spot : Spot) (t piece : List ℕ) (few : length t ≤ 11) (some : 0 < length piece) where
  pub front_quiet : (started : ℕ) (slice items : List ℕ) → started ≡ length t → slice ≡ items → items ≡ take 12 (t ++ piece) → (0 < length t → IsQuiet lim spot t) → 0 < started → IsQuiet lim spot (take started slice)
  front_quiet started slice items started-is slice-is items-is quiet more =
      let same : take started slice ≡ t =
      (λ i. take (started-is i) (slice-is i)) ∙ ap (take (length t)) items-is ∙ take-take (length t) 12 (t ++ piece) (omega (arith, few)) ∙ take_both t piece (length t) (omega arith)
      ∙ ap (λ z. t ++ take z piece) (let none : length t - length t ≡ 0 = omega arith in none) ∙ append-nil t in
      subst (IsQuiet lim spot) (sym same) (quiet (omega (arith, more, started-is)))

  pub split_end : (started : ℕ) (slice items : List ℕ) (e : End) → started ≡ length t → slice ≡ items → items ≡ take 12 (t ++ piece) → IsEnd lim spot slice started e → IsEnd lim spot (t ++ piece) (length t) e
  split_end started slice items e started-is slice-is items-is k = twelve_end lim spot (t ++ piece) (length t) e few (subst (λ z. IsEnd lim spot (take 12 (t ++ piece)) z e) started-is (subst (λ z. IsEnd lim spot z started e) (slice-is ∙ items-is) k))

  pub split_kept : (items : List ℕ) (e : End) → items ≡ take 12 (t ++ piece) → is_part e ≡ true → IsEnd lim spot (t ++ piece) (length t) e → items ≡ kept_by e (t ++ piece)
  split_kept items e items-is p k =
      let short = short_end lim spot (t ++ piece) (length t) e p k (omega (arith, some, length-append t piece)) in
      items-is ∙ take_all 12 (t ++ piece) (omega (arith, short)) ∙ sym (kept_part e (t ++ piece) p)

-- of a piece after no kept bytes
module _ (lim : Limits) (spot : Spot) (t piece : List ℕ) (none : length t ≡ 0) (some : 0 < length piece) (e : End) (k : IsEnd lim spot piece 0 e) where
  pub plain_end : IsEnd lim spot (t ++ piece) (length t) e
  plain_end = subst (λ z. IsEnd lim spot (t ++ piece) z e) (sym none) (subst (λ z. IsEnd lim spot z 0 e) (ap (λ z. z ++ piece) (sym (no_items t none))) k)

  pub plain_kept : {E : Type 0} (r : Result (Unit {0}) E) (items : List ℕ) → is_part e ≡ true → (length t + length piece ≤ 12 → IsOk r) → OnOk r (items ≡ t ++ piece) → items ≡ kept_by e (t ++ piece)
  plain_kept r items p variant ok =
      let short = short_end lim spot piece 0 e p k (omega (arith, some)) in
      on_ok r (variant (omega (arith, short, none))) ok ∙ sym (kept_part e (t ++ piece) p)
