-- A part of the body of a PDU is kept where the body is (`pends_consumed`), and else nothing changes (`pends_unconsumed`). Stands
-- on the definitions alone.
use Rattle.std.proofs.Common.{◌≡◌, ◌∙◌, ℕ, ◌+◌, Bool, true, false, not, ◌&&◌, List, [], ◌++◌, nat_eq, ap, sym, refl, arith, if◌then◌else◌}
use Rattle.acceptor.specs.declared.state.State.{State}
use Rattle.acceptor.specs.declared.state.State.TheVariants.{Sta1, Sta2, Sta3, Sta6, Sta8, Sta13}
use Rattle.part10.specs.Store.{Store}
use Rattle.engine.specs.Held.{is_ended}
use Rattle.engine.specs.Progress.{Progress, is_due}
use Rattle.engine.specs.Kept.{Kept, Pends, body_in, accepts_body_in}
use Rattle.engine.specs.machine.Capacity.{BodyFits}

counted_more : (st : State) (kept refused one : Bool) (held body part : List ℕ) → (is_ended st ≡ false → kept ≡ refused) → is_due st && (not kept && one) ≡ true
    → held ≡ (if is_due st && not refused then (if one then body else []) else []) → held ++ part ≡ (if is_due st && not refused then (if one then body ++ part else []) else [])
counted_more Sta1 kept refused one held body part same t e = absurd cc
counted_more Sta2 true refused one held body part same t e = absurd cc
counted_more Sta2 false true one held body part same t e = absurd (let x = same refl in cc)
counted_more Sta2 false false false held body part same t e = absurd cc
counted_more Sta2 false false true held body part same t e = ap (λ (xs : List ℕ). xs ++ part) e
counted_more Sta3 kept refused one held body part same t e = absurd cc
counted_more Sta6 kept refused one held body part same t e = absurd cc
counted_more Sta8 kept refused one held body part same t e = absurd cc
counted_more Sta13 kept refused one held body part same t e = absurd cc

counted_same : (st : State) (kept refused one : Bool) (held body part : List ℕ) → (is_ended st ≡ false → kept ≡ refused) → is_due st && (not kept && one) ≡ false
    → held ≡ (if is_due st && not refused then (if one then body else []) else []) → held ≡ (if is_due st && not refused then (if one then body ++ part else []) else [])
counted_same Sta1 kept refused one held body part same t e = e
counted_same Sta2 kept true one held body part same t e = e
counted_same Sta2 true false one held body part same t e = absurd (let x = same refl in cc)
counted_same Sta2 false false false held body part same t e = e
counted_same Sta2 false false true held body part same t e = absurd cc
counted_same Sta3 kept refused one held body part same t e = e
counted_same Sta6 kept refused one held body part same t e = e
counted_same Sta8 kept refused one held body part same t e = e
counted_same Sta13 kept refused one held body part same t e = e

pub pends_consumed : (k : Kept) (store : Store) (p : Progress) (kind : ℕ) (body part held : List ℕ) → accepts_body_in k kind ≡ true → held ≡ k.body ++ part
    → Pends k store p (body_in kind body) [] → Pends (record k { body = held }) store p (body_in kind (body ++ part)) []
pends_consumed k store p kind body part held consumed more h =
    let t : is_due p.state && (not k.refused && nat_eq kind 1) ≡ true = ap (λ (st : State). is_due st && (not k.refused && nat_eq kind 1)) (sym h.state_is) ∙ consumed in
    record {
      state_is = h.state_is;
      refused_is = h.refused_is;
      decided_is = h.decided_is;
      body_is = more ∙ counted_more p.state k.refused p.refused (nat_eq kind 1) k.body body part h.refused_is t h.body_is;
      join_is = h.join_is;
      agreed = h.agreed;
      none_remaining = h.none_remaining;
      unagreed = h.unagreed;
      walks = h.walks;
      draft = h.draft;
      failed_in = h.failed_in;
    }

pub pends_unconsumed : (k : Kept) (store : Store) (p : Progress) (kind : ℕ) (body part : List ℕ) → accepts_body_in k kind ≡ false
    → Pends k store p (body_in kind body) [] → Pends k store p (body_in kind (body ++ part)) []
pends_unconsumed k store p kind body part dropped h =
    let t : is_due p.state && (not k.refused && nat_eq kind 1) ≡ false = ap (λ (st : State). is_due st && (not k.refused && nat_eq kind 1)) (sym h.state_is) ∙ dropped in
    record {
      state_is = h.state_is;
      refused_is = h.refused_is;
      decided_is = h.decided_is;
      body_is = counted_same p.state k.refused p.refused (nat_eq kind 1) k.body body part h.refused_is t h.body_is;
      join_is = h.join_is;
      agreed = h.agreed;
      none_remaining = h.none_remaining;
      unagreed = h.unagreed;
      walks = h.walks;
      draft = h.draft;
      failed_in = h.failed_in;
    }

-- the bytes of another body take no room
pub fits_unconsumed : (room : ℕ) (k : Kept) (kind m n : ℕ) → BodyFits room k kind (n + m) → BodyFits room k kind m
fits_unconsumed room k kind m n h = λ due consumed one. let f = h due consumed one in omega (arith, f)
