-- The byte that makes a header whole makes it spell what is read of it (`whole_spells`); a part of one has fewer than twelve
-- bytes (`part_short`), and each front of a part is one (`unfinished_front`). Stands on the laws of `element`.
use Rattle.std.proofs.Common.{◌≡◌, ℕ, ◌<◌, ◌≤◌, ◌≢◌, true, false, List, [], ◌∷◌, ◌++◌, length, refl, sym, ap, subst, ◌∙◌, arith, leb-true, leb-false, length-append}
use Rattle.sequence.specs.Coding.{layout}
use Rattle.sequence.specs.declared.coding.Coding.{Coding}
use Rattle.element.specs.declared.syntax.Syntax.{Syntax}
use Rattle.element.specs.declared.tag.Tag.{Tag}
use Rattle.element.specs.declared.header.Header.{Header}
use Rattle.element.specs.declared.size.Need.{Need}
use Rattle.element.specs.declared.size.Need.TheVariants.{More, Size, BadVr}
use Rattle.std.proofs.lemmas.Bool.Decides.{nat_tests}
use Rattle.element.specs.Header.{need, is_marker, header_at, SpellsHeader, plain, short, long, is_whole, has_size}
use Rattle.element.specs.Needs.{NeedIs, few, plain_eight, no_vr, refused, short_eight, long_twelve}
use Rattle.element.proofs.Public.{need_is, need_on, bad_on, exact_spells, more_short, size_eight}
use Rattle.sequence.specs.Tree.{delimitation}
use Rattle.sequence.specs.Open.{IsUnfinishedHeader}
use Rattle.sequence.specs.machine.Standing.{IsBytes}

asked_by : (s : Coding) (t : List ℕ) (x k : ℕ) (n : Need) → need (layout s) t ≡ n → has_size n (length t) ≡ false → n ≢ BadVr → need (layout s) (t ++ x ∷ []) ≡ Size k → k ≤ length (t ++ x ∷ []) → 8 ≤ k → length (t ++ x ∷ []) ≡ k
asked_by s t x k More e part good g at_most eight = absurd (let lt = more_short (subst (λ z. NeedIs (layout s) t z) e (need_is (layout s) t)) in omega (arith, lt, at_most, eight, length-append t (x ∷ [])))
asked_by s t x k BadVr e part good g at_most eight = absurd (good refl)
asked_by s t x k (Size j) e part good g at_most eight =
    let both : Size j ≡ Size k = sym (need_on (layout s) t (x ∷ []) j e) ∙ g in
    let same : j ≡ k = cc in
    let lt = leb-false j (length t) part in
    omega (arith, lt, at_most, same, length-append t (x ∷ []))

-- what has just become whole spells the header that is read
pub whole_spells : (s : Coding) (t : List ℕ) (x : ℕ) → IsUnfinishedHeader s t → IsBytes (t ++ x ∷ []) → is_whole (layout s) (t ++ x ∷ []) ≡ true → SpellsHeader (layout s) (header_at (layout s) (t ++ x ∷ [])) (t ++ x ∷ [])
unfolding is_whole
whole_spells s t x tail bytes w = by (need (layout s) (t ++ x ∷ [])) refl w
  where
    by : (n : Need) → need (layout s) (t ++ x ∷ []) ≡ n → has_size n (length (t ++ x ∷ [])) ≡ true → SpellsHeader (layout s) (header_at (layout s) (t ++ x ∷ [])) (t ++ x ∷ [])
    by More e h = absurd cc
    by BadVr e h = absurd cc
    by (Size k) e h =
        let is : NeedIs (layout s) (t ++ x ∷ []) (Size k) = subst (λ z. NeedIs (layout s) (t ++ x ∷ []) z) e (need_is (layout s) (t ++ x ∷ [])) in
        exact_spells (layout s) (t ++ x ∷ []) is (asked_by s t x k (need (layout s) t) refl tail.part tail.good e (leb-true _ _ h) (size_eight is)) bytes

short_by : {s : Syntax} {b : List ℕ} (n : Need) → NeedIs s b n → has_size n (length b) ≡ false → n ≢ BadVr → length b < 12
short_by {b = b} (Size k) (plain_eight ge p) part good = omega (arith, leb-false k (length b) part)
short_by {b = b} (Size k) (short_eight ge p c g) part good = omega (arith, leb-false k (length b) part)
short_by {b = b} (Size k) (long_twelve ge p c g) part good = omega (arith, leb-false k (length b) part)
short_by More (few lt) part good = omega arith
short_by More (no_vr ge p lt) part good = omega arith
short_by BadVr (refused ge p c) part good = absurd (good refl)

-- what is not whole has fewer than twelve bytes
pub part_short : (s : Coding) (b : List ℕ) → IsUnfinishedHeader s b → length b < 12
unfolding is_whole
part_short s b tail = short_by (need (layout s) b) (need_is (layout s) b) tail.part tail.good

-- the one spelling of a delimitation
pub mark_spelled : {s : Syntax} {h : Header} {hb : List ℕ} (t : Tag) → SpellsHeader s h hb → h.tag ≡ t → is_marker t ≡ true → h.length ≡ 0 → hb ≡ delimitation t
mark_spelled t (plain tag n fits e lt) same m none = let z : n ≡ 0 = none in rw z (ap (λ z. delimitation z) same)
mark_spelled t (short tag a b n fits e c f lt) same m none = absurd (let k : true ≡ false = sym m ∙ ap (λ z. is_marker z) (sym same) ∙ e in cc)
mark_spelled t (long tag a b r q n fits e c f lt) same m none = absurd (let k : true ≡ false = sym m ∙ ap (λ z. is_marker z) (sym same) ∙ e in cc)

front_by : (s : Coding) (w v : List ℕ) (n : Need) → need (layout s) w ≡ n → is_whole (layout s) (w ++ v) ≡ false → need (layout s) (w ++ v) ≢ BadVr → (has_size n (length w) ≡ false) × (n ≢ BadVr)
unfolding is_whole
front_by s w v More e part good = (refl, λ same. absurd cc)
front_by s w v BadVr e part good = absurd (good (bad_on (layout s) w v e))
front_by s w v (Size k) e part good =
    let same : need (layout s) (w ++ v) ≡ Size k = need_on (layout s) w v k e in
    let more : has_size (Size k) (length (w ++ v)) ≡ false = ap (λ z. has_size z (length (w ++ v))) (sym same) ∙ part in
    let lt = leb-false k (length (w ++ v)) more in
    (grind (arith, nat_tests, lt, length-append w v), λ same. absurd cc)

-- the beginning of what is not whole is not whole
pub unfinished_front : (s : Coding) (w v : List ℕ) → IsUnfinishedHeader s (w ++ v) → IsUnfinishedHeader s w
unfolding is_whole
unfinished_front s w v tail = let f = front_by s w v (need (layout s) w) refl tail.part tail.good in record { part = f.0; good = f.1 }
