-- A header that keeps the rules does not stop the machine (`keeps_rules`, `header_goes`). Stands on GrammarLeads/TreesRun,
-- MachineReports/FrontAtText, MachineStands and the laws of `element`.
use Rattle.std.proofs.Common.{◌≡◌, ℕ, suc, ◌+◌, ◌-◌, ◌%◌, ◌<◌, ◌≤◌, Bool, true, false, not, ◌&&◌, List, [], ◌∷◌, ◌++◌, length, Option, Some, None, nat_eq, nat_le, nat_lt, refl, sym, ap, subst, ◌∙◌, arith, append_assoc, append-nil, leb-true, ne_eqb, eq-eqb, if◌then◌else◌}
use Rattle.std.proofs.lemmas.Bool.Decides.{nat_tests}
use Rattle.element.specs.declared.header.Header.{Header}
use Rattle.element.specs.declared.size.Need.{Need}
use Rattle.element.specs.declared.size.Need.TheVariants.{More, Size, BadVr}
use Rattle.element.specs.Header.{is_marker, is_plain, tag_at, need, is_whole, header_at, SpellsHeader}
use Rattle.element.proofs.Public.{need_on, bad_on, need_spelled, tag_on, tag_read, read_spelled, whole_spelled, front_spelled, spelled_long}
use Rattle.sequence.specs.Coding.{layout}
use Rattle.sequence.specs.declared.level.Scope.{Scope}
use Rattle.sequence.specs.declared.spot.Spot.{Spot}
use Rattle.sequence.specs.Shape.{is_undefined, undefined_length, shape}
use Rattle.sequence.specs.Rules.{Limits, Broken, broken_due, broken_tag, broken_need, broken_header, broken, passes, is_long_mark, is_not_allowed, is_too_long, is_endless, opens, counted_length, ◌or_else◌, when}
use Rattle.sequence.specs.machine.Machine.{nearest, less, spot_of, at, due, due_by, arrive, headed, headed_by, take_header, Heading, run}
use Rattle.sequence.specs.machine.Standing.{IsLength, LastsTo, AllLastTo, Unbroken}
use Rattle.sequence.proofs.MachineStands.SoundHeader.{IsSound}
use Rattle.sequence.proofs.GrammarLeads.TreesRun.{IsOpen, arrive_open}
use Rattle.sequence.proofs.MachineStands.NestedLevels.{nearest_lasts}
use Rattle.sequence.proofs.MachineReports.FrontAtText.{less_all, passes_less}

-- the rules, one by one

pub else_none : (b : Bool) (x y : Broken) → b ≡ false → y ≡ None → (if b then x else y) ≡ None
else_none true x y e n = absurd cc
else_none false x y e n = n

when_is : (b : Bool) (x : Broken) → (b ≡ true → x ≡ None) → when b x ≡ None
when_is true x f = f refl
when_is false x f = refl

all_none : (x y : Broken) → x ≡ None → y ≡ None → (x or_else y) ≡ None
all_none (Some z) y e f = absurd cc
all_none None y e f = f

sound_header : (lim : Limits) (spot : Spot) (size : ℕ) (h : Header) → IsSound lim spot size h → broken_header lim spot size h ≡ None
unfolding broken_header
sound_header lim spot size h ok =
    else_none _ _ _ ok.mark (else_none _ _ _ ok.allowed (else_none _ _ _ ok.bounded (else_none _ _ _ ok.counted (else_none _ _ _ ok.within (else_none _ _ _ ok.short (else_none _ _ _ ok.fits (else_none _ _ _ ok.shallow refl)))))))

-- the header h of so many bytes keeps the rules
pub record KeepsRules (lim : Limits) (spot : Spot) (size : ℕ) (h : Header) : Type 0 where
  pub room : passes spot.near size ≡ false
  pub tagged : broken_tag spot h.tag ≡ None
  pub sound : IsSound lim spot size h

-- so does each beginning of it
pub keeps_rules : (lim : Limits) (spot : Spot) (h : Header) (hb : List ℕ) → SpellsHeader (layout spot.syntax) h hb → KeepsRules lim spot (length hb) h → Unbroken lim spot hb
unfolding broken
keeps_rules lim spot h hb sp ok u v same =
    all_none _ _ due_ok (all_none _ _ (when_is _ _ tag_ok) (all_none _ _ (when_is _ _ vr_ok) (when_is _ _ (λ w. whole_ok v same w))))
  where
    due_ok : broken_due spot ≡ None
    due_ok = else_none (passes spot.near 8) _ None (passes_less spot.near 8 (length hb) ok.room (spelled_long sp)) refl

    tag_ok : nat_le 4 (length u) ≡ true → broken_tag spot (tag_at u) ≡ None
    tag_ok le = ap (broken_tag spot) (sym (tag_on u v (leb-true 4 (length u) le)) ∙ ap (λ z. tag_at z) (sym same) ∙ sym (tag_read (layout spot.syntax) hb) ∙ ap (λ (z : Header). z.tag) (read_spelled sp)) ∙ ok.tagged

    need_is_whole : need (layout spot.syntax) (u ++ v) ≡ Size (length hb)
    need_is_whole = ap (need (layout spot.syntax)) (sym same) ∙ need_spelled sp

    vr_by : (n : Need) → need (layout spot.syntax) u ≡ n → broken_need spot n (tag_at u) ≡ None
    vr_by More e = refl
    vr_by BadVr e = absurd (let k : BadVr ≡ Size (length hb) = sym (bad_on (layout spot.syntax) u v e) ∙ need_is_whole in cc)
    vr_by (Size k) e =
        let q : Size k ≡ Size (length hb) = sym (need_on (layout spot.syntax) u v k e) ∙ need_is_whole in
        let k-is : k ≡ length hb = cc in
        else_none (passes spot.near k) _ None (ap (passes spot.near) k-is ∙ ok.room) refl

    vr_ok : (nat_le 6 (length u) && not (is_plain (layout spot.syntax) (tag_at u))) ≡ true → broken_need spot (need (layout spot.syntax) u) (tag_at u) ≡ None
    vr_ok e = vr_by (need (layout spot.syntax) u) refl

    whole_ok : (v : List ℕ) → hb ≡ u ++ v → is_whole (layout spot.syntax) u ≡ true → broken_header lim spot (length u) (header_at (layout spot.syntax) u) ≡ None
    whole_ok [] e w =
        let all : u ≡ hb = sym (append-nil u) ∙ sym e in
        ap (λ z. broken_header lim spot (length z) (header_at (layout spot.syntax) z)) all ∙ ap (broken_header lim spot (length hb)) (read_spelled sp) ∙ sound_header lim spot (length hb) h ok.sound
    whole_ok (x ∷ v) e w = absurd (let k : true ≡ false = sym w ∙ front_spelled u x v (subst (SpellsHeader (layout spot.syntax) h) e sp) in cc)

-- a header that has room, before ends at q or after it

room_by : (o : Option ℕ) (p n : ℕ) → LastsTo o (p + n) → passes (less o p) n ≡ false
room_by None p n h = refl
room_by (Some e) p n h = fits (omega (arith, h))
  where
    fits : n ≤ e - p → nat_lt (e - p) n ≡ false
    fits le = grind (arith, nat_tests)

room_before : (f : Scope) (fs : List Scope) (p q n : ℕ) → AllLastTo (f ∷ fs) q → p + n ≤ q → passes (less (nearest (f ∷ fs)) p) n ≡ false
room_before f fs p q n hold le = room_by (nearest (f ∷ fs)) p n (nearest_lasts (p + n) (f ∷ fs) (less_all (f ∷ fs) (p + n) q hold le))

-- the ends are at q or after it, and so are the bytes that the header counts
pub record HasRoom (lim : Limits) (f : Scope) (fs : List Scope) (p q size : ℕ) (h : Header) : Type 0 where
  pub hold : AllLastTo (f ∷ fs) q
  pub short : q ≤ lim.bytes
  pub counts : p + (size + counted_length h.length) ≤ q
  pub even : IsLength h.length

pub keeps : (lim : Limits) (f : Scope) (fs : List Scope) (p q size : ℕ) (h : Header) → HasRoom lim f fs p q size h → broken_tag (spot_of f fs p) h.tag ≡ None → is_long_mark h ≡ false → (not (is_marker h.tag) && is_not_allowed (shape f.syntax h)) ≡ false → is_endless (spot_of f fs p) h ≡ false → is_too_long lim (spot_of f fs p) h ≡ false
    → (opens (spot_of f fs p) h && nat_le lim.depth (length fs)) ≡ false → KeepsRules lim (spot_of f fs p) size h
keeps lim f fs p q size h room tagged mark allowed bounded fits shallow =
    let counts = room.counts in
    record {
      room = room_before f fs p q size room.hold (omega (arith, counts));
      tagged = tagged;
      sound = record { mark = mark; allowed = allowed; bounded = bounded; counted = counted_by (is_undefined h.length) refl; within = within_by (is_undefined h.length) refl; short = short_by (omega (arith, counts, room.short)); fits = fits; shallow = shallow };
    }
  where
    short_by : p + size + counted_length h.length ≤ lim.bytes → nat_lt lim.bytes (p + size + counted_length h.length) ≡ false
    short_by le = grind (arith, nat_tests)

    counted_by : (u : Bool) → is_undefined h.length ≡ u → (not u && nat_eq (h.length % 2) 1) ≡ false
    counted_by true e = refl
    counted_by false e = ne_eqb (h.length % 2) 1 (λ odd. absurd (let k : h.length % 2 ≡ 0 = room.even (λ same. absurd (let j : true ≡ false = sym (eq-eqb h.length undefined_length same) ∙ e in cc)) in omega (arith, k, odd)))

    within_by : (u : Bool) → is_undefined h.length ≡ u → (not u && passes (less (nearest (f ∷ fs)) p) (size + h.length)) ≡ false
    within_by true e = refl
    within_by false e =
        let defined : counted_length h.length ≡ h.length = rw e refl in
        let counts = room.counts in
        room_before f fs p q (size + h.length) room.hold (omega (arith, counts, defined))

-- the machine goes over it

heading_goes : (lim : Limits) (f : Scope) (fs : List Scope) (p q start : ℕ) (t : List ℕ) (h : Header) (x : ℕ) (b : List ℕ) → SpellsHeader (layout f.syntax) h (t ++ x ∷ b) → Unbroken lim (spot_of f fs start) (t ++ x ∷ b) → q ≡ p + suc (length b)
    → run lim (at f fs p (Heading start t)) (x ∷ b) ≡ take_header q f fs h
unfolding run headed
heading_goes lim f fs p q start t h x [] sp ok q-is =
    let none = ok (t ++ x ∷ []) [] (sym (append-nil (t ++ x ∷ []))) in
    let q-one : p + 1 ≡ q = omega (arith, q-is) in
    ap (λ z. headed_by z f fs (p + 1) start (t ++ x ∷ [])) none ∙ rw (whole_spelled sp, read_spelled sp, q-one) refl
heading_goes lim f fs p q start t h x (y ∷ b) sp ok q-is =
    let regrouped : t ++ x ∷ y ∷ b ≡ (t ++ x ∷ []) ++ y ∷ b = sym (append_assoc t (x ∷ []) (y ∷ b)) in
    let more = subst (SpellsHeader (layout f.syntax) h) regrouped sp in
    let none = ok (t ++ x ∷ []) (y ∷ b) regrouped in
    let part = front_spelled (t ++ x ∷ []) y b more in
    let first : headed lim f fs (p + 1) start (t ++ x ∷ []) ≡ at f fs (p + 1) (Heading start (t ++ x ∷ [])) = ap (λ z. headed_by z f fs (p + 1) start (t ++ x ∷ [])) none ∙ rw part refl in
    ap (λ z. run lim z (y ∷ b)) first ∙ heading_goes lim f fs (p + 1) q start (t ++ x ∷ []) h y b more (subst (Unbroken lim (spot_of f fs start)) regrouped ok) (omega (arith, q-is))

open_before : (o : Option ℕ) (p q : ℕ) → LastsTo o q → p < q → IsOpen o p
open_before None p q h lt = tt
open_before (Some e) p q h lt = omega (arith, h, lt)

due_goes : (lim : Limits) (f : Scope) (fs : List Scope) (p q : ℕ) (h : Header) (hb : List ℕ) → SpellsHeader (layout f.syntax) h hb → Unbroken lim (spot_of f fs p) hb → broken_due (spot_of f fs p) ≡ None → 8 ≤ length hb → q ≡ p + length hb
    → run lim (due f fs p) hb ≡ take_header q f fs h
unfolding due
due_goes lim f fs p q h [] sp ok none le q-is = absurd (omega (arith, le))
due_goes lim f fs p q h (x ∷ hb) sp ok none le q-is = ap (λ z. run lim (due_by z f fs p) (x ∷ hb)) none ∙ heading_goes lim f fs p q p [] h x hb sp ok q-is

pub header_goes : (lim : Limits) (f : Scope) (fs : List Scope) (p q : ℕ) (h : Header) (hb : List ℕ) → SpellsHeader (layout f.syntax) h hb → KeepsRules lim (spot_of f fs p) (length hb) h → LastsTo f.stop (p + length hb) → q ≡ p + length hb
    → run lim (arrive p f fs) hb ≡ take_header q f fs h
header_goes lim f fs p q h hb sp ok hold q-is =
    let long = spelled_long sp in
    let due-ok = else_none (passes (spot_of f fs p).near 8) _ None (passes_less (spot_of f fs p).near 8 (length hb) ok.room long) refl in
    ap (λ z. run lim z hb) (arrive_open p f fs (open_before f.stop p (p + length hb) hold (omega (arith, long))))
    ∙ due_goes lim f fs p q h hb sp (keeps_rules lim (spot_of f fs p) h hb sp ok) due-ok long q-is
