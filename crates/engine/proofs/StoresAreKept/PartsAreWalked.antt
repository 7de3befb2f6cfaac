-- A walker that consumes a part step by step has consumed the data set with this part (`end_walk`), also after it refused
-- (`stop_walk`). Stands on the laws of `sequence`.
use Rattle.std.proofs.Common.{◌≡◌, ℕ, ◌<◌, List, [], ◌∷◌, ◌++◌, take, drop, length, Option, Some, None, suc, refl, sym, ap, subst, ◌∙◌, take-append-drop, append_assoc, append-nil, arith}
use Rattle.element.specs.Numbers.{IsBytes}
use Rattle.sequence.specs.declared.coding.Coding.{Coding}
use Rattle.sequence.specs.declared.fault.Fault.{Fault}
use Rattle.sequence.specs.declared.walker.Walker.{Walker}
use Rattle.sequence.specs.Rules.{Limits}
use Rattle.sequence.specs.Consumed.{StandsAt, walker_syntax, limits_of, fault_of}
use Rattle.sequence.proofs.Public.{refused_stands}
use Rattle.engine.specs.StoredData.{HasWalked}

-- ---- a part is consumed

back_bytes : (a b : List ℕ) → IsBytes (a ++ b) → IsBytes b
back_bytes [] b h = h
back_bytes (x ∷ a) b h = back_bytes a b (λ i. h (suc i))

-- of a part these bytes are left, and the walker consumed the others after the data set's
pub record Walked {V D : ℕ} (w : Walker V D) (syntax : Coding) (lim : Limits) (set part rest : List ℕ) : Type 0 where
  pub done : List ℕ
  pub parts : part ≡ done ++ rest
  pub accepts : HasWalked w syntax lim (set ++ done)

pub begin_walk : {V D : ℕ} (w : Walker V D) (syntax : Coding) (lim : Limits) (set part : List ℕ) → HasWalked w syntax lim set → Walked w syntax lim set part part
begin_walk w syntax lim set part k = record { done = []; parts = refl; accepts = subst (HasWalked w syntax lim) (sym (append-nil set)) k }

pub step_walk : {V D : ℕ} (w new : Walker V D) (syntax : Coding) (lim : Limits) (set part rest more : List ℕ) (n : ℕ) → ((b : List ℕ) → StandsAt w b → StandsAt new (b ++ take n rest)) → walker_syntax new ≡ walker_syntax w → limits_of new ≡ limits_of w → more ≡ drop n rest → Walked w syntax lim set part rest → Walked new syntax lim set part more
step_walk w new syntax lim set part rest more n stands same_syntax same_limits e k = record {
  done = k.done ++ take n rest;
  parts = k.parts ∙ ap (λ z. k.done ++ z) (sym (take-append-drop n rest)) ∙ sym (append_assoc k.done (take n rest) (drop n rest)) ∙ ap (λ z. (k.done ++ take n rest) ++ z) (sym e);
  accepts = record {
    stands = subst (StandsAt new) (append_assoc set k.done (take n rest)) (stands (set ++ k.done) k.accepts.stands);
    syntax_is = same_syntax ∙ k.accepts.syntax_is;
    limits_are = same_limits ∙ k.accepts.limits_are;
  };
}

pub end_walk : {V D : ℕ} (w : Walker V D) (syntax : Coding) (lim : Limits) (set part rest : List ℕ) → length rest ≡ 0 → Walked w syntax lim set part rest → HasWalked w syntax lim (set ++ part)
end_walk w syntax lim set part [] e k = subst (λ z. HasWalked w syntax lim (set ++ z)) (sym (k.parts ∙ append-nil k.done)) k.accepts
end_walk w syntax lim set part (x ∷ rest) e k = absurd (omega (arith, e))

refused_walked : {V D : ℕ} (w : Walker V D) (syntax : Coding) (lim : Limits) (set part rest : List ℕ) (fault : Fault) → fault_of w ≡ Some fault → IsBytes part → Walked w syntax lim set part rest → HasWalked w syntax lim (set ++ part)
refused_walked w syntax lim set part rest fault e bytes k = record {
  stands =
      subst (StandsAt w) (append_assoc set k.done rest ∙ ap (λ z. set ++ z) (sym k.parts))
      (refused_stands _ _ w (set ++ k.done) rest fault e (back_bytes k.done rest (subst IsBytes k.parts bytes)) k.accepts.stands);
  syntax_is = k.accepts.syntax_is;
  limits_are = k.accepts.limits_are;
}

-- a step that consumes nothing of some bytes stands refused
pub stop_walk : {V D : ℕ} (w new : Walker V D) (syntax : Coding) (lim : Limits) (set part rest : List ℕ) (n : ℕ) → (fault_of w ≡ None → 0 < length rest → 0 < n) → ((fault : Fault) → fault_of w ≡ Some fault → new ≡ w) → n ≡ 0 → 0 < length rest → IsBytes part → Walked w syntax lim set part rest → HasWalked new syntax lim (set ++ part)
stop_walk w new syntax lim set part rest n accepts_some same none some bytes k = by (fault_of w) refl
  where
    by : (fault : Option Fault) → fault_of w ≡ fault → HasWalked new syntax lim (set ++ part)
    by None e = absurd (omega (arith, accepts_some e some, none))
    by (Some fault) e = subst (λ z. HasWalked z syntax lim (set ++ part)) (sym (same fault e)) (refused_walked w syntax lim set part rest fault e bytes k)
