-- A header breaks a new rule only after four bytes, after six, and at its end (`quiet_all`), so the code examines it there
-- (`part_end`, `size_end`, `whole_end`). Stands on MachineStands and the laws of `element`.
use Rattle.std.proofs.Common.{◌≡◌, ℕ, zero, suc, ◌+◌, ◌-◌, ◌<◌, ◌≤◌, ◌⊎◌, Bool, true, false, not, ◌&&◌, List, [], ◌∷◌, ◌++◌, length, take, drop, None, length-append, nat_le, inl, inr, refl, sym, ap, subst, ◌∙◌, arith, le-leb, leb-true, leb-false}
use Rattle.std.proofs.lemmas.Bool.Decides.{nat_tests}
use Rattle.std.proofs.lemmas.List.{take-append-drop, take-take, length-take, length-take-le, take_all}
use Rattle.sequence.specs.Coding.{layout}
use Rattle.sequence.specs.declared.coding.Coding.{Coding}
use Rattle.element.specs.declared.syntax.Syntax.{Syntax}
use Rattle.element.specs.declared.header.Header.{Header}
use Rattle.element.specs.declared.size.Need.{Need}
use Rattle.element.specs.declared.size.Need.TheVariants.{More, Size, BadVr}
use Rattle.element.specs.Header.{is_plain, tag_at, need, has_size, header_at, is_whole}
use Rattle.element.specs.Needs.{NeedIs, few, plain_eight, no_vr, refused, short_eight, long_twelve}
use Rattle.element.proofs.Public.{is_need, size_off, need_is, need_on, bad_on, header_on, tag_on, tag_read, more_short, whole_eight}
use Rattle.sequence.specs.declared.spot.Spot.{Spot}
use Rattle.sequence.specs.Rules.{Limits, Broken, broken_due, broken_tag, broken_need, broken_header, broken, ◌or_else◌, when}
use Rattle.sequence.specs.declared.heading.End.{End}
use Rattle.sequence.specs.declared.heading.End.TheVariants as ends
use Rattle.sequence.specs.declared.reading.Front.{Front}
use Rattle.sequence.specs.machine.Heading.{is_part, is_end, IsQuiet, IsRefused, IsRead, IsCount, IsExamined, IsEnd, IsFront, broken_whole}
use Rattle.sequence.specs.Open.{IsUnfinishedHeader}
use Rattle.sequence.proofs.MachineStands.UnbrokenHeader.{BreaksNone, none_first, when_none, unbroken_is, on_tail}
use Rattle.sequence.proofs.MachineStands.HeaderParts.{part_short}

all_none : (a b c d : Broken) → a ≡ None → b ≡ None → c ≡ None → d ≡ None → (a or_else b or_else c or_else d) ≡ None
all_none a b c d e f g h = rw (e, f, g, h) refl

none_when : (b : Bool) (x : Broken) → (b ≡ true → x ≡ None) → when b x ≡ None
none_when true x e = e refl
none_when false x e = refl

both_true : (a b : Bool) → (a && not b) ≡ true → (a ≡ true) × (b ≡ false)
both_true true true e = absurd cc
both_true true false e = (refl, refl)
both_true false b e = absurd cc

-- the other way round from `unbroken_is`
quiet_is : (lim : Limits) (spot : Spot) (t : List ℕ) → broken_due spot ≡ None → (4 ≤ length t → broken_tag spot (tag_at t) ≡ None) → (6 ≤ length t → is_plain (layout spot.syntax) (tag_at t) ≡ false → broken_need spot (need (layout spot.syntax) t) (tag_at t) ≡ None) → is_whole (layout spot.syntax) t ≡ false → broken lim spot t ≡ None
unfolding broken
quiet_is lim spot t due tag vr part =
    all_none (broken_due spot) (when (nat_le 4 (length t)) (broken_tag spot (tag_at t))) (when (nat_le 6 (length t) && not (is_plain (layout spot.syntax) (tag_at t))) (broken_need spot (need (layout spot.syntax) t) (tag_at t))) (when (is_whole (layout spot.syntax) t) (broken_header lim spot (length t) (header_at (layout spot.syntax) t)))
    due (none_when (nat_le 4 (length t)) _ (λ e. tag (leb-true 4 (length t) e)))
    (none_when (nat_le 6 (length t) && not (is_plain (layout spot.syntax) (tag_at t))) _ (λ e. let k = both_true (nat_le 6 (length t)) (is_plain (layout spot.syntax) (tag_at t)) e in vr (leb-true 6 (length t) k.0) k.1))
    (none_when (is_whole (layout spot.syntax) t) _ (λ e. absurd (let k : true ≡ false = sym e ∙ part in cc)))

-- no bytes are between the fourth or the sixth and what was received
abbrev pub IsSide : ℕ → ℕ → ℕ → Type 0
IsSide k a b = (k ≤ a) ⊎ (b < k)

need_stays : (s : Coding) (u v : List ℕ) (n : Need) → need (layout s) u ≡ n → 6 ≤ length u → (n ≡ BadVr → ⊥) → need (layout s) (u ++ v) ≡ n
need_stays s u v More e le good = absurd (let lt = more_short (subst (λ z. NeedIs (layout s) u z) e (need_is (layout s) u)) in omega (arith, lt, le))
need_stays s u v BadVr e le good = absurd (good refl)
need_stays s u v (Size k) e le good = need_on (layout s) u v k e

pub steady : (lim : Limits) (spot : Spot) (u v : List ℕ) → broken lim spot u ≡ None → is_whole (layout spot.syntax) u ≡ false → is_whole (layout spot.syntax) (u ++ v) ≡ false → IsSide 4 (length u) (length (u ++ v)) → IsSide 6 (length u) (length (u ++ v)) → broken lim spot (u ++ v) ≡ None
steady lim spot u v ok part more four six =
    let k = unbroken_is lim spot u ok in
    let tail = on_tail lim spot u ok part in
    quiet_is lim spot (u ++ v) k.due_ok (λ le. tag le four) (λ le p. vr le p six k tail) more
  where
    tag : 4 ≤ length (u ++ v) → IsSide 4 (length u) (length (u ++ v)) → broken_tag spot (tag_at (u ++ v)) ≡ None
    tag le (inl ge) = ap (broken_tag spot) (tag_on u v ge) ∙ (unbroken_is lim spot u ok).tag_ok ge
    tag le (inr lt) = absurd (omega (arith, le, lt))

    vr : 6 ≤ length (u ++ v) → is_plain (layout spot.syntax) (tag_at (u ++ v)) ≡ false → IsSide 6 (length u) (length (u ++ v)) → BreaksNone lim spot u → IsUnfinishedHeader spot.syntax u → broken_need spot (need (layout spot.syntax) (u ++ v)) (tag_at (u ++ v)) ≡ None
    vr le p (inl ge) k tail =
        let same = need_stays spot.syntax u v (need (layout spot.syntax) u) refl ge tail.good in
        ap (λ z. broken_need spot z (tag_at (u ++ v))) same ∙ ap (broken_need spot (need (layout spot.syntax) u)) (tag_on u v (omega (arith, ge))) ∙ k.vr_ok ge (ap (is_plain (layout spot.syntax)) (sym (tag_on u v (omega (arith, ge)))) ∙ p)
    vr le p (inr lt) k tail = absurd (omega (arith, le, lt))

-- beginnings of some bytes

more_of : (a m : ℕ) (bytes : List ℕ) → a ≤ m → m ≤ length bytes → take m bytes ≡ take a bytes ++ drop a (take m bytes)
more_of a m bytes le most = sym (take-append-drop a (take m bytes)) ∙ ap (λ z. z ++ drop a (take m bytes)) (take-take a m bytes le)

pub quiet_on : (lim : Limits) (spot : Spot) (bytes : List ℕ) (a m : ℕ) → IsQuiet lim spot (take a bytes) → a ≤ m → m ≤ length bytes → is_whole (layout spot.syntax) (take m bytes) ≡ false → IsSide 4 a m → IsSide 6 a m → IsQuiet lim spot (take m bytes)
quiet_on lim spot bytes a m q le most part four six =
    let text = more_of a m bytes le most in
    let size-a = length-take-le a bytes (omega (arith, le, most)) in
    let size-m = length-take-le m bytes most in
    let side : (k : ℕ) → IsSide k a m → IsSide k (length (take a bytes)) (length (take a bytes ++ drop a (take m bytes))) = λ k s. subst (λ z. IsSide k z (length (take a bytes ++ drop a (take m bytes)))) (sym size-a) (subst (λ z. IsSide k a z) (sym (sym (ap length text) ∙ size-m)) s) in
    let ok = steady lim spot (take a bytes) (drop a (take m bytes)) q.fine q.part (ap (is_whole (layout spot.syntax)) (sym text) ∙ part) (side 4 four) (side 6 six) in
    record { fine = ap (broken lim spot) text ∙ ok; part = part }

-- where the beginnings that matter are quiet, each is
pub quiet_all : (lim : Limits) (spot : Spot) (bytes : List ℕ) (a m : ℕ) → IsQuiet lim spot (take a bytes) → (a < 4 → 4 ≤ m → IsQuiet lim spot (take 4 bytes)) → (a < 6 → 6 ≤ m → IsQuiet lim spot (take 6 bytes)) → a ≤ m → m ≤ length bytes → is_whole (layout spot.syntax) (take m bytes) ≡ false → IsQuiet lim spot (take m bytes)
quiet_all lim spot bytes a m q q4 q6 le most part = by (side 4 a) (side 6 a) (side 4 m) (side 6 m)
  where
    side : (k n : ℕ) → (k ≤ n) ⊎ (n < k)
    side k n = cases (nat_le k n) refl
      where
        cases : (b : Bool) → nat_le k n ≡ b → (k ≤ n) ⊎ (n < k)
        cases true e = inl (leb-true k n e)
        cases false e = inr (leb-false k n e)

    by : (4 ≤ a) ⊎ (a < 4) → (6 ≤ a) ⊎ (a < 6) → (4 ≤ m) ⊎ (m < 4) → (6 ≤ m) ⊎ (m < 6) → IsQuiet lim spot (take m bytes)
    by four six m4 (inl m6) = past six
      where
        past : (6 ≤ a) ⊎ (a < 6) → IsQuiet lim spot (take m bytes)
        past (inl ge) = quiet_on lim spot bytes a m q le most part (inl (omega (arith, ge))) (inl ge)
        past (inr lt) = quiet_on lim spot bytes 6 m (q6 lt m6) m6 most part (inl (omega arith)) (inl (omega arith))
    by four six (inl m4) (inr m6) = past four
      where
        past : (4 ≤ a) ⊎ (a < 4) → IsQuiet lim spot (take m bytes)
        past (inl ge) = quiet_on lim spot bytes a m q le most part (inl ge) (inr m6)
        past (inr lt) = quiet_on lim spot bytes 4 m (q4 lt m4) m4 most part (inl (omega arith)) (inr m6)
    by four six (inr m4) (inr m6) = quiet_on lim spot bytes a m q le most part (inr m4) (inr m6)

-- when a header is whole

pub not_whole_short : (s : Coding) (t : List ℕ) → length t < 8 → is_whole (layout s) t ≡ false
not_whole_short s t lt = by (is_whole (layout s) t) refl
  where
    by : (q : Bool) → is_whole (layout s) t ≡ q → is_whole (layout s) t ≡ false
    by false e = e
    by true e = absurd (let ge = whole_eight (layout s) t e in omega (arith, ge, lt))

-- a beginning is whole only where the bytes ask for no more than it
pub not_whole_before : (s : Coding) (bytes : List ℕ) (m : ℕ) (n : Need) → need (layout s) bytes ≡ n → has_size n m ≡ false → m ≤ length bytes → is_whole (layout s) (take m bytes) ≡ false
unfolding is_whole
not_whole_before s bytes m n e part le = by (need (layout s) (take m bytes)) refl
  where
    size : length (take m bytes) ≡ m
    size = length-take-le m bytes le

    by : (k : Need) → need (layout s) (take m bytes) ≡ k → has_size (need (layout s) (take m bytes)) (length (take m bytes)) ≡ false
    by More f = ap (λ z. has_size z (length (take m bytes))) f
    by BadVr f = ap (λ z. has_size z (length (take m bytes))) f
    by (Size k) f =
        let more : need (layout s) bytes ≡ Size k = ap (need (layout s)) (sym (take-append-drop m bytes)) ∙ need_on (layout s) (take m bytes) (drop m bytes) k f in
        ap (λ z. has_size z (length (take m bytes))) f ∙ ap (has_size (Size k)) size ∙ ap (λ z. has_size z m) (sym more ∙ e) ∙ part

pub take_both : (a b : List ℕ) (n : ℕ) → length a ≤ n → take n (a ++ b) ≡ a ++ take (n - length a) b
take_both [] b n le = ap (λ z. take z b) (let k : n ≡ n - 0 = omega arith in k)
take_both (x ∷ a) b zero le = absurd (omega arith)
take_both (x ∷ a) b (suc n) le = ap (λ z. x ∷ z) (take_both a b n (omega arith) ∙ ap (λ z. a ++ take z b) (let k : n - length a ≡ suc n - length (x ∷ a) = omega arith in k))

pub size_short : {s : Syntax} {b : List ℕ} (k : ℕ) {n : Need} → NeedIs s b n → n ≡ Size k → k ≤ 12
size_short k (few lt) e = absurd cc
size_short k (no_vr ge p lt) e = absurd cc
size_short k (refused ge p c) e = absurd cc
size_short k (plain_eight ge p) e = let same : 8 ≡ k = cc in omega (arith, same)
size_short k (short_eight ge p c h) e = let same : 8 ≡ k = cc in omega (arith, same)
size_short k (long_twelve ge p c h) e = let same : 12 ≡ k = cc in omega (arith, same)

pub need_short : (s : Coding) (b : List ℕ) (k : ℕ) → need (layout s) b ≡ Size k → k ≤ 12
need_short s b k e = size_short k (need_is (layout s) b) e

size_least : {s : Syntax} {b : List ℕ} (k : ℕ) {n : Need} → NeedIs s b n → n ≡ Size k → 8 ≤ k
size_least k (few lt) e = absurd cc
size_least k (no_vr ge p lt) e = absurd cc
size_least k (refused ge p c) e = absurd cc
size_least k (plain_eight ge p) e = let same : 8 ≡ k = cc in omega (arith, same)
size_least k (short_eight ge p c h) e = let same : 8 ≡ k = cc in omega (arith, same)
size_least k (long_twelve ge p c h) e = let same : 12 ≡ k = cc in omega (arith, same)

pub need_least : (s : Coding) (b : List ℕ) (k : ℕ) → need (layout s) b ≡ Size k → 8 ≤ k
need_least s b k e = size_least k (need_is (layout s) b) e

pub whole_at : (s : Coding) (bytes : List ℕ) (a k : ℕ) → need (layout s) bytes ≡ Size k → k ≤ a → a ≤ length bytes → is_whole (layout s) (take a bytes) ≡ true
unfolding is_whole
whole_at s bytes a k e le most =
    let size = length-take-le a bytes most in
    let all : NeedIs (layout s) (take a bytes ++ drop a bytes) (Size k) = subst (λ z. NeedIs (layout s) z (Size k)) (sym (take-append-drop a bytes)) (subst (NeedIs (layout s) bytes) e (need_is (layout s) bytes)) in
    let n : need (layout s) (take a bytes) ≡ Size k = is_need (layout s) (take a bytes) (Size k) (size_off (take a bytes) (drop a bytes) k (omega (arith, size, le)) all) in
    ap (λ z. has_size z (length (take a bytes))) n ∙ le-leb k (length (take a bytes)) (omega (arith, size, le))

less_no : (k m : ℕ) → m < k → nat_le k m ≡ false
less_no k m lt = grind (arith, nat_tests)

front_need : (s : Coding) (bytes : List ℕ) (k : ℕ) → need (layout s) bytes ≡ Size k → k ≤ length bytes → need (layout s) (take k bytes) ≡ Size k
front_need s bytes k n le = is_need (layout s) (take k bytes) (Size k) (size_off (take k bytes) (drop k bytes) k (omega (arith, length-take-le k bytes le)) (subst (λ z. NeedIs (layout s) z (Size k)) (sym (take-append-drop k bytes)) (subst (NeedIs (layout s) bytes) n (need_is (layout s) bytes))))

front_read : (s : Coding) (bytes : List ℕ) (k : ℕ) → need (layout s) bytes ≡ Size k → k ≤ length bytes → header_at (layout s) bytes ≡ header_at (layout s) (take k bytes)
front_read s bytes k n le =
    let front : NeedIs (layout s) (take k bytes) (Size k) = subst (NeedIs (layout s) (take k bytes)) (front_need s bytes k n le) (need_is (layout s) (take k bytes)) in
    ap (header_at (layout s)) (sym (take-append-drop k bytes)) ∙ header_on (take k bytes) (drop k bytes) k (omega (arith, length-take-le k bytes le)) front

-- what a whole header breaks is what its bytes break
pub whole_unbroken : (lim : Limits) (spot : Spot) (t : List ℕ) (k : ℕ) (h : Header) → need (layout spot.syntax) t ≡ Size k → length t ≡ k → h ≡ header_at (layout spot.syntax) t → broken_whole lim spot k h ≡ None → broken lim spot t ≡ None
unfolding broken broken_whole
whole_unbroken lim spot t k h n size read ok =
    let tag-is : h.tag ≡ tag_at t = ap (λ (z : Header). z.tag) read ∙ tag_read (layout spot.syntax) t in
    let a = none_first (broken_due spot) _ ok in
    let b = none_first (broken_tag spot h.tag) _ a.1 in
    let c = none_first (when (not (is_plain (layout spot.syntax) h.tag)) (broken_need spot (Size k) h.tag)) _ b.1 in
    all_none (broken_due spot) (when (nat_le 4 (length t)) (broken_tag spot (tag_at t))) (when (nat_le 6 (length t) && not (is_plain (layout spot.syntax) (tag_at t))) (broken_need spot (need (layout spot.syntax) t) (tag_at t))) (when (is_whole (layout spot.syntax) t) (broken_header lim spot (length t) (header_at (layout spot.syntax) t)))
    a.0 (none_when (nat_le 4 (length t)) _ (λ e. ap (broken_tag spot) (sym tag-is) ∙ b.0))
    (none_when (nat_le 6 (length t) && not (is_plain (layout spot.syntax) (tag_at t))) _ (λ e. let p = both_true (nat_le 6 (length t)) (is_plain (layout spot.syntax) (tag_at t)) e in
    let q : is_plain (layout spot.syntax) h.tag ≡ false = ap (is_plain (layout spot.syntax)) tag-is ∙ p.1 in
    (λ i. broken_need spot (n i) (sym tag-is i)) ∙ when_none (not (is_plain (layout spot.syntax) h.tag)) (broken_need spot (Size k) h.tag) c.0 (ap not q)))
    (none_when (is_whole (layout spot.syntax) t) _ (λ e. (λ i. broken_header lim spot (size i) (sym read i)) ∙ c.1))

-- what is examined

part_examined : (lim : Limits) (spot : Spot) (bytes : List ℕ) (a count : ℕ) (e : End) → is_part e ≡ true → IsExamined lim spot bytes a count e → a < count → count ≤ length bytes → IsQuiet lim spot (take count bytes)
part_examined lim spot bytes a count (ends.Refused n rule tag) p j = absurd cc
part_examined lim spot bytes a count (ends.Whole n h sh) p j = absurd cc
part_examined lim spot bytes a count ends.Part p j = j

later_end : (lim : Limits) (spot : Spot) (bytes : List ℕ) (a count : ℕ) (e : End) → is_part e ≡ false → IsExamined lim spot bytes a count e → ((m : ℕ) → a < m → m < count → m ≤ length bytes → IsQuiet lim spot (take m bytes)) → IsEnd lim spot bytes a e
later_end lim spot bytes a count (ends.Refused n rule tag) p j quiet = (j.0, j.2, λ m lt lt2. quiet m lt (omega (arith, lt2, j.1)) (omega (arith, lt2, j.0.some)))
later_end lim spot bytes a count (ends.Whole n h sh) p j quiet = (j.0, j.2, λ m lt lt2. quiet m lt (omega (arith, lt2, j.1)) (omega (arith, lt2, j.0.some)))
later_end lim spot bytes a count ends.Part p j quiet = absurd cc

short_whole : (s : Coding) (bytes : List ℕ) (m : ℕ) → m < 8 → m ≤ length bytes → is_whole (layout s) (take m bytes) ≡ false
short_whole s bytes m lt most = not_whole_short s (take m bytes) (omega (arith, lt, length-take-le m bytes most))

-- after the first a bytes, which are quiet

module _ (lim : Limits) (spot : Spot) (bytes : List ℕ) (a : ℕ) (more : a ≤ length bytes) (base : IsQuiet lim spot (take a bytes)) where
  pub tagged_end : (e : End) → is_part e ≡ false → IsExamined lim spot bytes a 4 e → IsEnd lim spot bytes a e
  tagged_end e p j = later_end lim spot bytes a 4 e p j (λ m gt lt most. quiet_all lim spot bytes a m base (λ lt4 m4. absurd (omega (arith, lt, m4))) (λ lt6 m6. absurd (omega (arith, lt, m6))) (omega (arith, gt)) most (short_whole spot.syntax bytes m (omega (arith, lt)) most))

  module _ (tagged : End) (tagged-part : is_part tagged ≡ true) (tagged-is : IsExamined lim spot bytes a 4 tagged) where
    pub named_end : (e : End) → is_part e ≡ false → IsExamined lim spot bytes a 6 e → IsEnd lim spot bytes a e
    named_end e p j =
        later_end lim spot bytes a 6 e p j
        (λ m gt lt most. quiet_all lim spot bytes a m base (λ lt4 m4. part_examined lim spot bytes a 4 tagged tagged-part tagged-is lt4 (omega (arith, m4, most))) (λ lt6 m6. absurd (omega (arith, lt, m6))) (omega (arith, gt)) most (short_whole spot.syntax bytes m (omega (arith, lt)) most))

    module _ (named : End) (named-part : is_part named ≡ true) (named-is : IsExamined lim spot bytes a 6 named) where
      quiet_by : (m : ℕ) → a ≤ m → m ≤ length bytes → is_whole (layout spot.syntax) (take m bytes) ≡ false → IsQuiet lim spot (take m bytes)
      quiet_by m le most part =
          quiet_all lim spot bytes a m base (λ lt4 m4. part_examined lim spot bytes a 4 tagged tagged-part tagged-is lt4 (omega (arith, m4, most)))
          (λ lt6 m6. part_examined lim spot bytes a 6 named named-part named-is lt6 (omega (arith, m6, most))) le most part

      pub part_end : (n : Need) → need (layout spot.syntax) bytes ≡ n → ((m : ℕ) → has_size n m ≡ false) → IsEnd lim spot bytes a ends.Part
      part_end n e none m lt most = quiet_by m (omega (arith, lt)) most (not_whole_before spot.syntax bytes m n e (none m) most)

      before_size : (k m : ℕ) → need (layout spot.syntax) bytes ≡ Size k → m < k → m ≤ length bytes → is_whole (layout spot.syntax) (take m bytes) ≡ false
      before_size k m n lt most = not_whole_before spot.syntax bytes m (Size k) n (less_no k m lt) most

      -- a header that continues is longer than the bytes
      size_far : (k : ℕ) → need (layout spot.syntax) bytes ≡ Size k → (a < k → k ≤ length bytes → IsQuiet lim spot (take k bytes)) → k ≤ length bytes → ⊥
      size_far k n j le = by (nat_le k a) refl
        where
          by : (q : Bool) → nat_le k a ≡ q → ⊥
          by true e = let w : true ≡ false = sym (whole_at spot.syntax bytes a k n (leb-true k a e) more) ∙ base.part in cc
          by false e = let w : true ≡ false = sym (whole_at spot.syntax bytes k k n (omega arith) le) ∙ (j (leb-false k a e) le).part in cc

      size_part : (k m : ℕ) → need (layout spot.syntax) bytes ≡ Size k → (a < k → k ≤ length bytes → IsQuiet lim spot (take k bytes)) → a < m → m ≤ length bytes → (q : Bool) → nat_le k m ≡ q → IsQuiet lim spot (take m bytes)
      size_part k m n j lt most true e = absurd (size_far k n j (omega (arith, leb-true k m e, most)))
      size_part k m n j lt most false e = quiet_by m (omega (arith, lt)) most (before_size k m n (leb-false k m e) most)

      pub size_end : (k : ℕ) (e : End) → need (layout spot.syntax) bytes ≡ Size k → IsExamined lim spot bytes a k e → IsEnd lim spot bytes a e
      size_end k (ends.Refused c rule tag) n j = later_end lim spot bytes a k (ends.Refused c rule tag) refl j (λ m gt lt most. quiet_by m (omega (arith, gt)) most (before_size k m n lt most))
      size_end k (ends.Whole c h sh) n j = later_end lim spot bytes a k (ends.Whole c h sh) refl j (λ m gt lt most. quiet_by m (omega (arith, gt)) most (before_size k m n lt most))
      size_end k ends.Part n j = λ m lt most. size_part k m n j lt most (nat_le k m) refl

-- the first byte examined apart

pub first_end : (lim : Limits) (spot : Spot) (bytes : List ℕ) (started : ℕ) (e : End) → started ≡ 0 → is_part e ≡ false → IsExamined lim spot bytes 0 1 e → IsEnd lim spot bytes started e
first_end lim spot bytes started e none p j = subst (λ z. IsEnd lim spot bytes z e) (sym none) (later_end lim spot bytes 0 1 e p j (λ m gt lt most. absurd (omega (arith, gt, lt))))

pub first_quiet : (lim : Limits) (spot : Spot) (bytes : List ℕ) (e : End) → is_part e ≡ true → IsExamined lim spot bytes 0 1 e → 0 < length bytes → IsQuiet lim spot (take 1 bytes)
first_quiet lim spot bytes e p j some = part_examined lim spot bytes 0 1 e p j (omega arith) (omega (arith, some))

pub one_more : (lim : Limits) (spot : Spot) (bytes : List ℕ) (started : ℕ) (e : End) → started ≡ 0 → IsQuiet lim spot (take 1 bytes) → IsEnd lim spot bytes 1 e → IsEnd lim spot bytes started e
one_more lim spot bytes started e none q k = subst (λ z. IsEnd lim spot bytes z e) (sym none) (by e k)
  where
    before : (m n : ℕ) → 0 < m → m < n → ((m : ℕ) → 1 < m → m < n → IsQuiet lim spot (take m bytes)) → (b : Bool) → nat_le m 1 ≡ b → IsQuiet lim spot (take m bytes)
    before m n gt lt rest true le = subst (λ z. IsQuiet lim spot (take z bytes)) (let one : 1 ≡ m = omega (arith, leb-true m 1 le, gt) in one) q
    before m n gt lt rest false le = rest m (leb-false m 1 le) lt

    by : (e : End) → IsEnd lim spot bytes 1 e → IsEnd lim spot bytes 0 e
    by (ends.Refused n rule tag) k = (record { more = omega (arith, k.0.more); some = k.0.some; short = k.0.short }, k.1, λ m gt lt. before m n gt lt k.2 (nat_le m 1) refl)
    by (ends.Whole n h sh) k = (record { more = omega (arith, k.0.more); some = k.0.some; short = k.0.short }, k.1, λ m gt lt. before m n gt lt k.2 (nat_le m 1) refl)
    by ends.Part k = λ m gt most. before m (m + 1) gt (omega arith) (λ o lt lt2. k o lt (omega (arith, lt2, most))) (nat_le m 1) refl

-- what is unbroken at its whole size was so at every front

quiet_front : (lim : Limits) (spot : Spot) (bytes : List ℕ) (k m : ℕ) → need (layout spot.syntax) bytes ≡ Size k → k ≤ length bytes → broken lim spot (take k bytes) ≡ None → m < k → IsQuiet lim spot (take m bytes)
quiet_front lim spot bytes k m n le ok lt =
    let u = take m bytes in
    let v = drop m (take k bytes) in
    let text : take k bytes ≡ u ++ v = more_of m k bytes (omega (arith, lt)) le in
    let all : BreaksNone lim spot (u ++ v) = unbroken_is lim spot (u ++ v) (ap (broken lim spot) (sym text) ∙ ok) in
    let whole-need : need (layout spot.syntax) (u ++ v) ≡ Size k = ap (need (layout spot.syntax)) (sym text) ∙ is_need (layout spot.syntax) (take k bytes) (Size k) (size_off (take k bytes) (drop k bytes) k (omega (arith, length-take-le k bytes le)) (subst (λ z. NeedIs (layout spot.syntax) z (Size k)) (sym (take-append-drop k bytes)) (subst (NeedIs (layout spot.syntax) bytes) n (need_is (layout spot.syntax) bytes)))) in
    let part : is_whole (layout spot.syntax) u ≡ false = not_whole_before spot.syntax bytes m (Size k) n (less_no k m lt) (omega (arith, lt, le)) in
    let tag : 4 ≤ length u → broken_tag spot (tag_at u) ≡ None = λ ge. ap (broken_tag spot) (sym (tag_on u v ge)) ∙ all.tag_ok (omega (arith, ge, length-append u v)) in
    let vr : 6 ≤ length u → is_plain (layout spot.syntax) (tag_at u) ≡ false → broken_need spot (need (layout spot.syntax) u) (tag_at u) ≡ None = λ ge p. vr_before lim spot u v k ge p all whole-need (need (layout spot.syntax) u) refl in
    record { fine = quiet_is lim spot u all.due_ok tag vr part; part = part }
  where
    vr_before : (lim : Limits) (spot : Spot) (u v : List ℕ) (k : ℕ) → 6 ≤ length u → is_plain (layout spot.syntax) (tag_at u) ≡ false → BreaksNone lim spot (u ++ v) → need (layout spot.syntax) (u ++ v) ≡ Size k → (n : Need) → need (layout spot.syntax) u ≡ n → broken_need spot (need (layout spot.syntax) u) (tag_at u) ≡ None
    vr_before lim spot u v k ge p all whole More e = absurd (let lt = more_short (subst (λ z. NeedIs (layout spot.syntax) u z) e (need_is (layout spot.syntax) u)) in omega (arith, lt, ge))
    vr_before lim spot u v k ge p all whole (Size j) e =
        let same : need (layout spot.syntax) (u ++ v) ≡ need (layout spot.syntax) u = need_on (layout spot.syntax) u v j e ∙ sym e in
        let plain : is_plain (layout spot.syntax) (tag_at (u ++ v)) ≡ false = ap (is_plain (layout spot.syntax)) (tag_on u v (omega (arith, ge))) ∙ p in
        ap (λ z. broken_need spot z (tag_at u)) (sym same) ∙ ap (broken_need spot (need (layout spot.syntax) (u ++ v))) (sym (tag_on u v (omega (arith, ge)))) ∙ all.vr_ok (omega (arith, ge, length-append u v)) plain
    vr_before lim spot u v k ge p all whole BadVr e = absurd (let bad = bad_on (layout spot.syntax) u v e in let same : ◌≡◌ {A = Need} BadVr (Size k) = sym bad ∙ whole in cc)

-- a whole header that is unbroken ends its bytes

pub examined_end : (lim : Limits) (spot : Spot) (bytes : List ℕ) (started k : ℕ) (e : End) → need (layout spot.syntax) bytes ≡ Size k → is_end e ≡ true → IsExamined lim spot bytes started k e → IsEnd lim spot bytes started e
examined_end lim spot bytes started k (ends.Refused n rule tag) size e j = absurd cc
examined_end lim spot bytes started k ends.Part size e j = absurd cc
examined_end lim spot bytes started k (ends.Whole n h sh) size e j =
    let same : k ≡ n = sym j.1 in
    (j.0, j.2, λ m gt lt. quiet_front lim spot bytes n m (size ∙ ap Size same) j.0.some j.2.fine lt)

pub whole_end : (lim : Limits) (spot : Spot) (bytes : List ℕ) (front : Front) → IsFront spot.syntax bytes front → broken_whole lim spot front.size front.header ≡ None → IsEnd lim spot bytes 0 (ends.Whole front.size front.header front.shape)
whole_end lim spot bytes front is ok =
    let k = front.size in
    let h = front.header in
    let whole = whole_at spot.syntax bytes k k is.size-is (omega arith) is.within in
    let read : front.header ≡ header_at (layout spot.syntax) (take front.size bytes) = is.read ∙ front_read spot.syntax bytes k is.size-is is.within in
    let fine = whole_unbroken lim spot (take k bytes) k h (front_need spot.syntax bytes k is.size-is is.within) (length-take-le k bytes is.within) read ok in
    let eight = whole_eight (layout spot.syntax) (take k bytes) whole in
    let size = length-take-le k bytes is.within in (
      record { more = omega (arith, eight, size); some = is.within; short = need_short spot.syntax bytes k is.size-is },
      record { fine = fine; whole = whole; read = read; shaped = is.shaped },
      λ m gt lt. quiet_front lim spot bytes k m is.size-is is.within fine lt,
    )

-- the first twelve bytes decide

twelve_count : (bytes : List ℕ) (started n : ℕ) → IsCount started n (length (take 12 bytes)) → IsCount started n (length bytes)
twelve_count bytes started n k = record { more = k.more; some = (let s = length-take 12 bytes in omega (arith, s, k.some)); short = k.short }

twelve_part : (lim : Limits) (spot : Spot) (bytes : List ℕ) (started m : ℕ) → started ≤ 11 → IsEnd lim spot (take 12 bytes) started ends.Part → started < m → m ≤ length bytes → (q : Bool) → nat_le (length bytes) 12 ≡ q → IsQuiet lim spot (take m bytes)
twelve_part lim spot bytes started m le k lt most true e =
    let all = take_all 12 bytes (leb-true (length bytes) 12 e) in
    subst (λ z. IsQuiet lim spot (take m z)) all (k m lt (omega (arith, ap length all, most)))
twelve_part lim spot bytes started m le k lt most false e =
    let long = leb-false (length bytes) 12 e in
    let size = length-take-le 12 bytes (omega (arith, long)) in
    let q = k 12 (omega (arith, le)) (omega (arith, size)) in
    let same = take-take 12 12 bytes (omega arith) in
    let short = part_short spot.syntax (take 12 (take 12 bytes)) (on_tail lim spot (take 12 (take 12 bytes)) q.fine q.part) in
    absurd (omega (arith, short, size, ap length same))

pub twelve_end : (lim : Limits) (spot : Spot) (bytes : List ℕ) (started : ℕ) (e : End) → started ≤ 11 → IsEnd lim spot (take 12 bytes) started e → IsEnd lim spot bytes started e
twelve_end lim spot bytes started (ends.Refused n rule tag) le k =
    (twelve_count bytes started n k.0, subst (λ z. IsRefused lim spot z rule tag) (take-take n 12 bytes k.0.short) k.1, λ m lt lt2. subst (IsQuiet lim spot) (take-take m 12 bytes (omega (arith, lt2, k.0.short))) (k.2 m lt lt2))
twelve_end lim spot bytes started (ends.Whole n h sh) le k =
    (twelve_count bytes started n k.0, subst (λ z. IsRead lim spot z h sh) (take-take n 12 bytes k.0.short) k.1, λ m lt lt2. subst (IsQuiet lim spot) (take-take m 12 bytes (omega (arith, lt2, k.0.short))) (k.2 m lt lt2))
twelve_end lim spot bytes started ends.Part le k = λ m lt most. twelve_part lim spot bytes started m le k lt most (nat_le (length bytes) 12) refl
