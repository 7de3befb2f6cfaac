-- Bytes of a header that break no rule, whole or not, keep each rule that they have come to (`unbroken_is`). Stands on
-- SoundHeader and the laws of `element`.
use Rattle.std.proofs.Common.{◌≡◌, ℕ, ◌≤◌, ◌≢◌, Bool, true, false, not, ◌&&◌, List, length, Some, None, nat_le, refl, sym, ap, ◌∙◌, le-leb}
use Rattle.element.specs.declared.size.Need.TheVariants.{BadVr}
use Rattle.element.specs.Header.{is_plain, tag_at, need, header_at, is_whole}
use Rattle.element.proofs.Public.{refused_long}
use Rattle.sequence.specs.Coding.{layout}
use Rattle.sequence.specs.declared.spot.Spot.{Spot}
use Rattle.sequence.specs.Open.{IsUnfinishedHeader}
use Rattle.sequence.specs.Rules.{Limits, Broken, broken_due, broken_tag, broken_need, broken_header, broken, ◌or_else◌, when}
use Rattle.sequence.proofs.MachineStands.SoundHeader.{and_not}

-- no rule is broken at all

pub none_first : (x y : Broken) → (x or_else y) ≡ None → (x ≡ None) × (y ≡ None)
none_first (Some z) y e = absurd cc
none_first None y e = (refl, e)

pub when_none : (b : Bool) (x : Broken) → when b x ≡ None → b ≡ true → x ≡ None
when_none true x e t = e
when_none false x e t = absurd cc

-- the rules, one by one
pub record BreaksNone (lim : Limits) (spot : Spot) (t : List ℕ) : Type 0 where
  pub due_ok : broken_due spot ≡ None
  pub tag_ok : 4 ≤ length t → broken_tag spot (tag_at t) ≡ None
  pub vr_ok : 6 ≤ length t → is_plain (layout spot.syntax) (tag_at t) ≡ false → broken_need spot (need (layout spot.syntax) t) (tag_at t) ≡ None
  pub whole_ok : is_whole (layout spot.syntax) t ≡ true → broken_header lim spot (length t) (header_at (layout spot.syntax) t) ≡ None

pub unbroken_is : (lim : Limits) (spot : Spot) (t : List ℕ) → broken lim spot t ≡ None → BreaksNone lim spot t
unfolding broken
unbroken_is lim spot t e =
    let a = none_first (broken_due spot) _ e in
    let b = none_first (when (nat_le 4 (length t)) (broken_tag spot (tag_at t))) _ a.1 in
    let c = none_first (when (nat_le 6 (length t) && not (is_plain (layout spot.syntax) (tag_at t))) (broken_need spot (need (layout spot.syntax) t) (tag_at t))) _ b.1 in
    record {
      due_ok = a.0;
      tag_ok = λ le. when_none (nat_le 4 (length t)) (broken_tag spot (tag_at t)) b.0 (le-leb 4 (length t) le);
      vr_ok = λ le p. when_none (nat_le 6 (length t) && not (is_plain (layout spot.syntax) (tag_at t))) (broken_need spot (need (layout spot.syntax) t) (tag_at t)) c.0 (and_not (nat_le 6 (length t)) (is_plain (layout spot.syntax) (tag_at t)) (le-leb 6 (length t) le) p);
      whole_ok = λ w. when_none (is_whole (layout spot.syntax) t) (broken_header lim spot (length t) (header_at (layout spot.syntax) t)) c.1 w;
    }

pub good_vr : (lim : Limits) (spot : Spot) (t : List ℕ) → broken lim spot t ≡ None → need (layout spot.syntax) t ≢ BadVr
good_vr lim spot t ok bad =
    let long = refused_long (layout spot.syntax) t bad in
    let k : broken_need spot (need (layout spot.syntax) t) (tag_at t) ≡ None = (unbroken_is lim spot t ok).vr_ok long.0 long.1 in
    let j : ◌≡◌ {A = Broken} (Some (10, tag_at t)) None = ap (λ z. broken_need spot z (tag_at t)) (sym bad) ∙ k in
    cc

pub on_tail : (lim : Limits) (spot : Spot) (t : List ℕ) → broken lim spot t ≡ None → is_whole (layout spot.syntax) t ≡ false → IsUnfinishedHeader spot.syntax t
on_tail lim spot t ok part = record { part = part; good = good_vr lim spot t ok }
