-- Levels that end in each other within their limits do so after one ends, opens or has a value in it (`levels_end`,
-- `levels_open`, `levels_read`). Stands on SoundHeader, UnbrokenHeader and the laws of `element`.
use Rattle.std.proofs.Common.{◌≡◌, ℕ, suc, ◌+◌, ◌-◌, ◌≤◌, ◌≢◌, Bool, true, false, not, List, [], ◌∷◌, length, Option, Some, None, is_some, refl, sym, ap, subst, ◌∙◌, arith, ltb-false, ne_eqb, eq-eqb, if◌then◌else◌}
use Rattle.sequence.specs.Coding.{layout}
use Rattle.sequence.specs.declared.coding.Coding.{Coding}
use Rattle.element.specs.declared.header.Header.{Header}
use Rattle.element.specs.declared.size.Need.{Need}
use Rattle.element.specs.declared.size.Need.TheVariants.{Size}
use Rattle.element.specs.Header.{is_plain, tag_at, need, SpellsHeader}
use Rattle.element.specs.Needs.{NeedIs, few, plain_eight, no_vr, refused, short_eight, long_twelve}
use Rattle.element.proofs.Public.{need_is, need_spelled, spelled_long}
use Rattle.sequence.specs.declared.level.Scope.{Scope}
use Rattle.sequence.specs.declared.spot.Spot.{Spot}
use Rattle.sequence.specs.Shape.{is_undefined, undefined_length}
use Rattle.sequence.specs.Open.{IsRemaining}
use Rattle.sequence.specs.Rules.{Limits, broken_need, broken_header, passes, counted_length}
use Rattle.sequence.specs.machine.Machine.{spot_of, nearer, nearest, less, stop_of}
use Rattle.sequence.specs.machine.Standing.{AreNested, LastsTo, AllLastTo, AreLevels}
use Rattle.sequence.proofs.MachineStands.SoundHeader.{is_sound, if_some, and_false}
use Rattle.sequence.proofs.MachineStands.UnbrokenHeader.{BreaksNone}

weaken_by : (o near : Option ℕ) (fs : List Scope) → (AreNested near fs → AreNested None fs) → IsRemaining o near × AreNested (if is_some o then o else near) fs → IsRemaining o None × AreNested (if is_some o then o else None) fs
weaken_by None near fs go h = (tt, go h.1)
weaken_by (Some e) near fs go h = (tt, h.1)

weaken : (near : Option ℕ) (fs : List Scope) → AreNested near fs → AreNested None fs
weaken near [] h = tt
weaken near (f ∷ fs) h = weaken_by f.stop near fs (weaken near fs) h

narrow_by : (o : Option ℕ) (n : ℕ) (fs : List Scope) → (LastsTo (nearest fs) n → AreNested None fs → AreNested (Some n) fs) → LastsTo (nearer o (nearest fs)) n → IsRemaining o None × AreNested (if is_some o then o else None) fs → IsRemaining o (Some n) × AreNested (if is_some o then o else Some n) fs
narrow_by None n fs go near h = (tt, go near h.1)
narrow_by (Some e) n fs go near h = (near, h.1)

narrow : (n : ℕ) (fs : List Scope) → LastsTo (nearest fs) n → AreNested None fs → AreNested (Some n) fs
narrow n [] near h = tt
narrow n (f ∷ fs) near h = narrow_by f.stop n fs (narrow n fs) near h

over_by : (o : Option ℕ) (e n : ℕ) (fs : List Scope) → ((m : ℕ) → n ≤ m → AreNested (Some m) fs → AllLastTo fs n) → n ≤ e → IsRemaining o (Some e) × AreNested (if is_some o then o else Some e) fs → LastsTo o n × AllLastTo fs n
over_by None e n fs go le h = (tt, go e le h.1)
over_by (Some d) e n fs go le h = let far : n ≤ d = omega (arith, le, h.0) in (far, go d far h.1)

hold_over : (e n : ℕ) (fs : List Scope) → n ≤ e → AreNested (Some e) fs → AllLastTo fs n
hold_over e n [] le h = tt
hold_over e n (f ∷ fs) le h = over_by f.stop e n fs (λ m far nest. hold_over m n fs far nest) le h

all_by : (o : Option ℕ) (n : ℕ) (fs : List Scope) → (LastsTo (nearest fs) n → AreNested None fs → AllLastTo fs n) → LastsTo (nearer o (nearest fs)) n → IsRemaining o None × AreNested (if is_some o then o else None) fs → LastsTo o n × AllLastTo fs n
all_by None n fs go near h = (tt, go near h.1)
all_by (Some e) n fs go near h = (near, hold_over e n fs near h.1)

-- where the nearest end holds, all do
pub all_last : (n : ℕ) (fs : List Scope) → LastsTo (nearest fs) n → AreNested None fs → AllLastTo fs n
all_last n [] near h = tt
all_last n (f ∷ fs) near h = all_by f.stop n fs (all_last n fs) near h

near_by : (o : Option ℕ) (n : ℕ) (fs : List Scope) → LastsTo (nearest fs) n → LastsTo o n → LastsTo (nearer o (nearest fs)) n
near_by None n fs near h = near
near_by (Some e) n fs near h = h

pub nearest_lasts : (n : ℕ) (fs : List Scope) → AllLastTo fs n → LastsTo (nearest fs) n
nearest_lasts n [] h = tt
nearest_lasts n (f ∷ fs) h = near_by f.stop n fs (nearest_lasts n fs h.1) h.0

lasts_on : (o : Option ℕ) (p n k : ℕ) → LastsTo o p → passes (less o p) k ≡ false → n ≡ p + k → LastsTo o n
lasts_on None p n k h e same = tt
lasts_on (Some e) p n k h g same = let le = ltb-false (e - p) k g in omega (arith, h, le, same)

-- the innermost level ends
pub levels_end : (lim : Limits) (f g : Scope) (gs : List Scope) (n : ℕ) → AreLevels lim f (g ∷ gs) n → AreLevels lim g gs n
levels_end lim f g gs n l = record { nested = weaken (if is_some f.stop then f.stop else None) (g ∷ gs) l.nested.1; hold = l.hold.1; deep = (let d = l.deep in omega (arith, d)); short = l.short }

-- after a header
pub record IsConsumed (lim : Limits) (f : Scope) (fs : List Scope) (p : ℕ) (h : Header) : Type 0 where
  pub levels : AreLevels lim f fs p
  pub ends : h.length ≢ undefined_length → LastsTo (nearest (f ∷ fs)) (p + h.length)
  pub far : p + counted_length h.length ≤ lim.bytes

size_passes : {s : Coding} {h : Header} {t : List ℕ} (lim : Limits) (spot : Spot) → SpellsHeader (layout s) h t → s ≡ spot.syntax → BreaksNone lim spot t → passes spot.near (length t) ≡ false
size_passes {s = s} {t = t} lim spot sp s-is ok = by (is_plain (layout spot.syntax) (tag_at t)) refl
  where
    need-is : need (layout spot.syntax) t ≡ Size (length t)
    need-is = ap (λ z. need (layout z) t) (sym s-is) ∙ need_spelled sp

    plain : {n : Need} → NeedIs (layout spot.syntax) t n → n ≡ Size (length t) → is_plain (layout spot.syntax) (tag_at t) ≡ true → length t ≡ 8
    plain (few lt) e p = absurd cc
    plain (plain_eight ge q) e p = let k : 8 ≡ length t = cc in sym k
    plain (no_vr ge q lt) e p = absurd (let k : true ≡ false = sym p ∙ q in cc)
    plain (refused ge q c) e p = absurd (let k : true ≡ false = sym p ∙ q in cc)
    plain (short_eight ge q c h) e p = absurd (let k : true ≡ false = sym p ∙ q in cc)
    plain (long_twelve ge q c h) e p = absurd (let k : true ≡ false = sym p ∙ q in cc)

    by : (p : Bool) → is_plain (layout spot.syntax) (tag_at t) ≡ p → passes spot.near (length t) ≡ false
    by true p = ap (passes spot.near) (plain (need_is (layout spot.syntax) t) need-is p) ∙ (if_some (passes spot.near 8) _ ok.due_ok).0
    by false p =
        let long = spelled_long sp in
        let n : broken_need spot (Size (length t)) (tag_at t) ≡ None = ap (λ z. broken_need spot z (tag_at t)) (sym need-is) ∙ ok.vr_ok (omega (arith, long)) p in
        (if_some (passes spot.near (length t)) _ n).0

pub consumed : (lim : Limits) (f : Scope) (fs : List Scope) (begin p : ℕ) (h : Header) (t : List ℕ) → AreLevels lim f fs begin → SpellsHeader (layout f.syntax) h t → BreaksNone lim (spot_of f fs begin) t → broken_header lim (spot_of f fs begin) (length t) h ≡ None → p ≡ begin + length t → IsConsumed lim f fs p h
consumed lim f fs begin p h t l sp ok header-ok p-is =
    let sound = is_sound lim (spot_of f fs begin) (length t) h header-ok in
    let near = nearest_lasts begin (f ∷ fs) l.hold in
    let here : LastsTo (nearest (f ∷ fs)) p = lasts_on (nearest (f ∷ fs)) begin p (length t) near (size_passes lim (spot_of f fs begin) sp refl ok) p-is in
    let short = ltb-false lim.bytes (begin + length t + counted_length h.length) sound.short in
    record {
      levels = record { nested = l.nested; hold = all_last p (f ∷ fs) here l.nested; deep = l.deep; short = omega (arith, short, p-is) };
      ends = λ d. lasts_on (nearest (f ∷ fs)) begin (p + h.length) (length t + h.length) near (and_false (not (is_undefined h.length)) (passes (less (nearest (f ∷ fs)) begin) (length t + h.length)) sound.within (ap not (ne_eqb h.length undefined_length d))) (omega (arith, p-is));
      far = omega (arith, short, p-is);
    }

pub level_by : (u : Bool) (n p : ℕ) (fs : List Scope) → is_undefined n ≡ u → (n ≢ undefined_length → LastsTo (nearest fs) (p + n)) → AreNested None fs → IsRemaining (if u then None else Some (p + n)) None × AreNested (if is_some (if u then None else Some (p + n)) then (if u then None else Some (p + n)) else None) fs
level_by true n p fs e ends h = (tt, h)
level_by false n p fs e ends h = (tt, narrow (p + n) fs (ends (λ same. absurd (let k : true ≡ false = sym (eq-eqb n undefined_length same) ∙ e in cc))) h)

lasts_by : (u : Bool) (n p : ℕ) → LastsTo (if u then None else Some (p + n)) p
lasts_by true n p = tt
lasts_by false n p = omega arith

-- a level that opens after it
pub levels_open : (lim : Limits) (f g : Scope) (fs : List Scope) (p : ℕ) (h : Header) → IsConsumed lim f fs p h → g.stop ≡ stop_of p h.length → suc (length fs) ≤ lim.depth → AreLevels lim g (f ∷ fs) p
levels_open lim f g fs p h t stop-is deep = record {
  nested = subst (λ o. IsRemaining o None × AreNested (if is_some o then o else None) (f ∷ fs)) (sym stop-is) (level_by (is_undefined h.length) h.length p (f ∷ fs) refl t.ends t.levels.nested);
  hold = (subst (λ o. LastsTo o p) (sym stop-is) (lasts_by (is_undefined h.length) h.length p), t.levels.hold);
  deep = deep;
  short = t.levels.short;
}

-- a value that begins after it
pub levels_read : (lim : Limits) (f : Scope) (fs : List Scope) (p : ℕ) (h : Header) → IsConsumed lim f fs p h → h.length ≢ undefined_length → AreLevels lim f fs (p + h.length)
levels_read lim f fs p h t defined =
    let counted : counted_length h.length ≡ h.length = counted_is (is_undefined h.length) (ne_eqb h.length undefined_length defined) in
    let far = t.far in
    record { nested = t.levels.nested; hold = all_last (p + h.length) (f ∷ fs) (t.ends defined) t.levels.nested; deep = t.levels.deep; short = omega (arith, far, counted) }
  where
    counted_is : (u : Bool) → u ≡ false → (if u then 0 else h.length) ≡ h.length
    counted_is true e = absurd cc
    counted_is false e = refl
