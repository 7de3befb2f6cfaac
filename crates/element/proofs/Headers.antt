-- Bytes that spell a header are read as it (`read_spelled`), and bytes that are whole spell what is read of them
-- (`front_spells`); what they ask for is one thing (`need_is`, `is_need`), no spelling begins another (`one_spelling`), and
-- what is written spells (`written_spells`). Stands on the definitions alone.
use Rattle.std.proofs.Common.{◌≡◌, ℕ, ◌+◌, ◌*◌, ◌^◌, ◌<◌, ◌≤◌, Bool, true, false, not, ◌&&◌, List, [], ◌∷◌, ◌++◌, length, get_or, take, drop, Option, Some, None, refl, sym, ap, subst, ◌∙◌, arith, inl, inr, nat_lt, IsTrue, ltb-true, ltb-false, leb-true, le-leb, length-append, if◌then◌else◌, take-append-drop, length-take, lit<, lit≤}
use Rattle.std.proofs.lemmas.Bool.Decides.{nat_tests}
use Rattle.std.proofs.lemmas.List.{get_or_append_left, get_or_past}
use Rattle.std.proofs.lemmas.Bool.{cases_lt}
use Rattle.element.specs.declared.syntax.Syntax.{Syntax}
use Rattle.element.specs.declared.tag.Tag.{Tag}
use Rattle.element.specs.declared.header.Header.{Header}
use Rattle.element.specs.declared.size.Need.{Need}
use Rattle.element.specs.declared.size.Need.TheVariants.{More, Size, BadVr}
use Rattle.element.specs.declared.syntax.Syntax.TheVariants.{Implicit, Explicit}
use Rattle.element.specs.Numbers.{le, IsBytes}
use Rattle.element.specs.Vr.{is_capital, is_short, vr_of, IsVrOrNone}
use Rattle.element.specs.Needs.{caps, shorts, NeedIs, few, plain_eight, no_vr, refused, short_eight, long_twelve}
use Rattle.element.specs.Header.{need, is_plain, is_marker, tag_bytes, tag_at, number_at, long_number_at, header_at, IsTag, SpellsHeader, plain, short, long, is_whole, has_size, fits_vr, header_fits, vr_bytes, header_bytes}

pub need_is : (s : Syntax) (b : List ℕ) → NeedIs s b (need s b)
unfolding need
need_is s b = by (nat_lt (length b) 4) refl (is_plain s (tag_at b)) refl (nat_lt (length b) 6) refl (caps b) refl (shorts b) refl
  where
    by : (f : Bool) → nat_lt (length b) 4 ≡ f → (p : Bool) → is_plain s (tag_at b) ≡ p → (v : Bool) → nat_lt (length b) 6 ≡ v → (c : Bool) → caps b ≡ c → (h : Bool) → shorts b ≡ h
        → NeedIs s b (if f then More else (if p then Size 8 else (if v then More else (if not c then BadVr else (if h then Size 8 else Size 12)))))
    by true f p pe v ve c ce h he = few (ltb-true _ _ f)
    by false f true pe v ve c ce h he = plain_eight (ltb-false _ _ f) pe
    by false f false pe true ve c ce h he = no_vr (ltb-false _ _ f) pe (ltb-true _ _ ve)
    by false f false pe false ve false ce h he = refused (ltb-false _ _ ve) pe ce
    by false f false pe false ve true ce true he = short_eight (ltb-false _ _ ve) pe ce he
    by false f false pe false ve true ce false he = long_twelve (ltb-false _ _ ve) pe ce he

-- and back
pub is_need : (s : Syntax) (b : List ℕ) (n : Need) → NeedIs s b n → need s b ≡ n
unfolding need
is_need s b n (few lt) = let f : nat_lt (length b) 4 ≡ true = grind (arith, nat_tests) in rw f refl
is_need s b n (plain_eight le p) = let f : nat_lt (length b) 4 ≡ false = grind (arith, nat_tests) in rw (f, p) refl
is_need s b n (no_vr le p lt) = let f : nat_lt (length b) 4 ≡ false = grind (arith, nat_tests) in let v : nat_lt (length b) 6 ≡ true = grind (arith, nat_tests) in rw (f, p, v) refl
is_need s b n (refused le p c) = let f : nat_lt (length b) 4 ≡ false = grind (arith, nat_tests) in let v : nat_lt (length b) 6 ≡ false = grind (arith, nat_tests) in rw (f, p, v, c) refl
is_need s b n (short_eight le p c h) = let f : nat_lt (length b) 4 ≡ false = grind (arith, nat_tests) in let v : nat_lt (length b) 6 ≡ false = grind (arith, nat_tests) in rw (f, p, v, c, h) refl
is_need s b n (long_twelve le p c h) = let f : nat_lt (length b) 4 ≡ false = grind (arith, nat_tests) in let v : nat_lt (length b) 6 ≡ false = grind (arith, nat_tests) in rw (f, p, v, c, h) refl

pub tag_back : (t : Tag) (rest : List ℕ) → IsTag t → tag_at (tag_bytes t ++ rest) ≡ t
tag_back t rest fits =
    let first : number_at (tag_bytes t ++ rest) 0 ≡ t.0 = omega (arith, fits) in
    let second : number_at (tag_bytes t ++ rest) 2 ≡ t.1 = omega (arith, fits) in
    λ i. record { 0 = first i; 1 = second i }

pub need_spelled : {s : Syntax} {h : Header} {b : List ℕ} → SpellsHeader s h b → need s b ≡ Size (length b)
need_spelled {s = s} (plain tag n fits p lt) =
    is_need s (tag_bytes tag ++ le n 4) (Size 8) (plain_eight (lit≤ tt) (ap (λ z. is_plain s z) (tag_back tag (le n 4) fits) ∙ p))
need_spelled (short tag a b n fits m c h lt) =
    let is : is_marker (tag_at (tag_bytes tag ++ (a ∷ b ∷ le n 2))) ≡ false = ap (λ z. is_marker z) (tag_back tag (a ∷ b ∷ le n 2) fits) ∙ m in
    is_need _ (tag_bytes tag ++ (a ∷ b ∷ le n 2)) (Size 8) (short_eight (lit≤ tt) is c h)
need_spelled (long tag a b r q n fits m c h lt) =
    let is : is_marker (tag_at (tag_bytes tag ++ (a ∷ b ∷ r ∷ q ∷ le n 4))) ≡ false = ap (λ z. is_marker z) (tag_back tag (a ∷ b ∷ r ∷ q ∷ le n 4) fits) ∙ m in
    is_need _ (tag_bytes tag ++ (a ∷ b ∷ r ∷ q ∷ le n 4)) (Size 12) (long_twelve (lit≤ tt) is c h)

pub spelled_long : {s : Syntax} {h : Header} {b : List ℕ} → SpellsHeader s h b → 8 ≤ length b
spelled_long (plain tag n fits p lt) = lit≤ tt
spelled_long (short tag a b n fits m c h lt) = lit≤ tt
spelled_long (long tag a b r q n fits m c h lt) = lit≤ tt

-- a spelling is whole, and is read as the header that it spells
pub whole_spelled : {s : Syntax} {h : Header} {b : List ℕ} → SpellsHeader s h b → is_whole s b ≡ true
unfolding is_whole
whole_spelled {b = b} e = ap (λ z. has_size z (length b)) (need_spelled e) ∙ le-leb (length b) (length b) (omega arith)

pub read_spelled : {s : Syntax} {h : Header} {b : List ℕ} → SpellsHeader s h b → header_at s b ≡ h
unfolding header_at
read_spelled {s = s} (plain tag n fits p lt) =
    let t = tag_back tag (le n 4) fits in
    let is : is_plain s (tag_at (tag_bytes tag ++ le n 4)) ≡ true = ap (λ z. is_plain s z) t ∙ p in
    let num : long_number_at (tag_bytes tag ++ le n 4) 4 ≡ n = omega (arith, lt) in
    rw is (λ i. record { tag = t i; vr = None; length = num i })
read_spelled (short tag a b n fits m c h lt) =
    let t = tag_back tag (a ∷ b ∷ le n 2) fits in
    let is : is_marker (tag_at (tag_bytes tag ++ (a ∷ b ∷ le n 2))) ≡ false = ap (λ z. is_marker z) t ∙ m in
    let num : number_at (tag_bytes tag ++ (a ∷ b ∷ le n 2)) 6 ≡ n = omega (arith, lt) in
    rw (is, h) (λ i. record { tag = t i; vr = Some (a ∷ b ∷ []); length = num i })
read_spelled (long tag a b r q n fits m c h lt) =
    let t = tag_back tag (a ∷ b ∷ r ∷ q ∷ le n 4) fits in
    let is : is_marker (tag_at (tag_bytes tag ++ (a ∷ b ∷ r ∷ q ∷ le n 4))) ≡ false = ap (λ z. is_marker z) t ∙ m in
    let num : long_number_at (tag_bytes tag ++ (a ∷ b ∷ r ∷ q ∷ le n 4)) 8 ≡ n = omega (arith, lt) in
    rw (is, h) (λ i. record { tag = t i; vr = Some (a ∷ b ∷ []); length = num i })

pub tag_on : (u v : List ℕ) → 4 ≤ length u → tag_at (u ++ v) ≡ tag_at u
tag_on u v le =
    let a : get_or (u ++ v) 0 0 ≡ get_or u 0 0 = get_or_append_left u v 0 0 (omega arith) in
    let b : get_or (u ++ v) 1 0 ≡ get_or u 1 0 = get_or_append_left u v 0 1 (omega arith) in
    let c : get_or (u ++ v) 2 0 ≡ get_or u 2 0 = get_or_append_left u v 0 2 (omega arith) in
    let d : get_or (u ++ v) 3 0 ≡ get_or u 3 0 = get_or_append_left u v 0 3 (omega arith) in
    λ i. record { 0 = a i + 256 * b i; 1 = c i + 256 * d i }

pub plain_on : (s : Syntax) (u v : List ℕ) (p : Bool) → 4 ≤ length u → is_plain s (tag_at u) ≡ p → is_plain s (tag_at (u ++ v)) ≡ p
plain_on s u v p le e = ap (λ z. is_plain s z) (tag_on u v le) ∙ e

pub vr_on : (f : ℕ → ℕ → Bool) (u v : List ℕ) (p : Bool) → 6 ≤ length u → f (get_or u 4 0) (get_or u 5 0) ≡ p → f (get_or (u ++ v) 4 0) (get_or (u ++ v) 5 0) ≡ p
vr_on f u v p le e =
    let a : get_or (u ++ v) 4 0 ≡ get_or u 4 0 = get_or_append_left u v 0 4 (omega arith) in
    let b : get_or (u ++ v) 5 0 ≡ get_or u 5 0 = get_or_append_left u v 0 5 (omega arith) in
    ap (λ z. f z (get_or (u ++ v) 5 0)) a ∙ ap (λ z. f (get_or u 4 0) z) b ∙ e

pub size_on : {s : Syntax} {u : List ℕ} {k : ℕ} (v : List ℕ) → NeedIs s u (Size k) → NeedIs s (u ++ v) (Size k)
size_on {s = s} {u = u} v (plain_eight le p) = plain_eight (omega (arith, length-append u v)) (plain_on s u v true le p)
size_on {s = s} {u = u} v (short_eight le p c h) = short_eight (omega (arith, length-append u v)) (plain_on s u v false (omega arith) p) (vr_on (λ x y. is_capital x && is_capital y) u v true le c) (vr_on is_short u v true le h)
size_on {s = s} {u = u} v (long_twelve le p c h) = long_twelve (omega (arith, length-append u v)) (plain_on s u v false (omega arith) p) (vr_on (λ x y. is_capital x && is_capital y) u v true le c) (vr_on is_short u v false le h)

pub need_on : (s : Syntax) (u v : List ℕ) (k : ℕ) → need s u ≡ Size k → need s (u ++ v) ≡ Size k
need_on s u v k e = is_need s (u ++ v) (Size k) (size_on v (subst (λ z. NeedIs s u z) e (need_is s u)))

pub bad_on : (s : Syntax) (u v : List ℕ) → need s u ≡ BadVr → need s (u ++ v) ≡ BadVr
bad_on s u v e = is_need s (u ++ v) BadVr (by (subst (λ z. NeedIs s u z) e (need_is s u)))
  where
    by : NeedIs s u BadVr → NeedIs s (u ++ v) BadVr
    by (refused le p c) = refused (omega (arith, length-append u v)) (plain_on s u v false (omega arith) p) (vr_on (λ x y. is_capital x && is_capital y) u v false le c)

-- no front of a spelling is whole
pub front_spelled : {s : Syntax} {h : Header} (u : List ℕ) (x : ℕ) (v : List ℕ) → SpellsHeader s h (u ++ x ∷ v) → is_whole s u ≡ false
unfolding is_whole
front_spelled {s = s} u x v e = by (need s u) refl
  where
    by : (n : Need) → need s u ≡ n → has_size n (length u) ≡ false
    by More g = refl
    by BadVr g = refl
    by (Size k) g =
        let whole : Size k ≡ Size (length (u ++ x ∷ v)) = sym (need_on s u (x ∷ v) k g) ∙ need_spelled e in
        let k-is : k ≡ length (u ++ x ∷ v) = cc in
        let lt : length u < k = omega (arith, k-is, length-append u (x ∷ v)) in
        grind (arith, nat_tests)

-- and back: what has just become whole spells the header that is read

pub cells_eight : (b : List ℕ) → length b ≡ 8 → b ≡ get_or b 0 0 ∷ get_or b 1 0 ∷ get_or b 2 0 ∷ get_or b 3 0 ∷ get_or b 4 0 ∷ get_or b 5 0 ∷ get_or b 6 0 ∷ get_or b 7 0 ∷ []
cells_eight (x0 ∷ x1 ∷ x2 ∷ x3 ∷ x4 ∷ x5 ∷ x6 ∷ x7 ∷ []) e = refl
cells_eight _ e = absurd (omega arith)

pub cells_twelve : (b : List ℕ) → length b ≡ 12 → b ≡ get_or b 0 0 ∷ get_or b 1 0 ∷ get_or b 2 0 ∷ get_or b 3 0 ∷ get_or b 4 0 ∷ get_or b 5 0 ∷ get_or b 6 0 ∷ get_or b 7 0 ∷ get_or b 8 0 ∷ get_or b 9 0 ∷ get_or b 10 0 ∷ get_or b 11 0 ∷ []
cells_twelve (x0 ∷ x1 ∷ x2 ∷ x3 ∷ x4 ∷ x5 ∷ x6 ∷ x7 ∷ x8 ∷ x9 ∷ x10 ∷ x11 ∷ []) e = refl
cells_twelve _ e = absurd (omega arith)

pub two_cells : (x y : ℕ) (rest : List ℕ) → x < 256 → y < 256 → le (x + 256 * y) 2 ++ rest ≡ x ∷ y ∷ rest
two_cells x y rest lx ly =
    let a : get_or (le (x + 256 * y) 2) 0 0 ≡ x = omega arith in
    let b : get_or (le (x + 256 * y) 2) 1 0 ≡ y = omega arith in
    λ i. a i ∷ b i ∷ rest

pub four_cells : (x y z w : ℕ) → x < 256 → y < 256 → z < 256 → w < 256 → le ((x + 256 * y) + 65536 * (z + 256 * w)) 4 ≡ x ∷ y ∷ z ∷ w ∷ []
four_cells x y z w lx ly lz lw =
    let n : ℕ = (x + 256 * y) + 65536 * (z + 256 * w) in
    let a : get_or (le ((x + 256 * y) + 65536 * (z + 256 * w)) 4) 0 0 ≡ x = omega arith in
    let b : get_or (le ((x + 256 * y) + 65536 * (z + 256 * w)) 4) 1 0 ≡ y = omega arith in
    let c : get_or (le ((x + 256 * y) + 65536 * (z + 256 * w)) 4) 2 0 ≡ z = omega arith in
    let d : get_or (le ((x + 256 * y) + 65536 * (z + 256 * w)) 4) 3 0 ≡ w = omega arith in
    λ i. a i ∷ b i ∷ c i ∷ d i ∷ []

pub tag_cells : (b rest : List ℕ) → IsBytes b → tag_bytes (tag_at b) ++ rest ≡ get_or b 0 0 ∷ get_or b 1 0 ∷ get_or b 2 0 ∷ get_or b 3 0 ∷ rest
tag_cells b rest bytes =
    two_cells (get_or b 0 0) (get_or b 1 0) (le (number_at b 2) 2 ++ rest) (bytes 0) (bytes 1)
    ∙ ap (λ z. get_or b 0 0 ∷ get_or b 1 0 ∷ z) (two_cells (get_or b 2 0) (get_or b 3 0) rest (bytes 2) (bytes 3))

pub tag_fits : (b : List ℕ) → IsBytes b → IsTag (tag_at b)
tag_fits b bytes = (omega (arith, bytes 0, bytes 1), omega (arith, bytes 2, bytes 3))

pub exact_spells : (s : Syntax) (b : List ℕ) {k : ℕ} → NeedIs s b (Size k) → length b ≡ k → IsBytes b → SpellsHeader s (header_at s b) b
unfolding header_at
exact_spells s b (plain_eight at p) size bytes =
    let cells : tag_bytes (tag_at b) ++ le (long_number_at b 4) 4 ≡ b =
    tag_cells b (le (long_number_at b 4) 4) bytes ∙ ap (λ z. get_or b 0 0 ∷ get_or b 1 0 ∷ get_or b 2 0 ∷ get_or b 3 0 ∷ z) (four_cells (get_or b 4 0) (get_or b 5 0) (get_or b 6 0) (get_or b 7 0) (bytes 4) (bytes 5) (bytes 6) (bytes 7)) ∙ sym (cells_eight b size) in
    let made = subst (λ z. SpellsHeader s (record { tag = tag_at b; vr = None; length = long_number_at b 4 }) z) cells (plain {s = s} (tag_at b) (long_number_at b 4) (tag_fits b bytes) p (omega (arith, bytes 4, bytes 5, bytes 6, bytes 7))) in
    rw p made
exact_spells Implicit b (short_eight at p c h) size bytes = absurd cc
exact_spells Explicit b (short_eight at p c h) size bytes =
    let cells : tag_bytes (tag_at b) ++ (get_or b 4 0 ∷ get_or b 5 0 ∷ le (number_at b 6) 2) ≡ b =
    tag_cells b (get_or b 4 0 ∷ get_or b 5 0 ∷ le (number_at b 6) 2) bytes ∙ ap (λ z. get_or b 0 0 ∷ get_or b 1 0 ∷ get_or b 2 0 ∷ get_or b 3 0 ∷ get_or b 4 0 ∷ get_or b 5 0 ∷ z) (two_cells (get_or b 6 0) (get_or b 7 0) [] (bytes 6) (bytes 7)) ∙ sym (cells_eight b size) in
    let made = subst (λ z. SpellsHeader Explicit (record { tag = tag_at b; vr = Some (get_or b 4 0 ∷ get_or b 5 0 ∷ []); length = number_at b 6 }) z) cells (short (tag_at b) (get_or b 4 0) (get_or b 5 0) (number_at b 6) (tag_fits b bytes) p c h (omega (arith, bytes 6, bytes 7))) in
    rw (p, h) made
exact_spells Implicit b (long_twelve at p c h) size bytes = absurd cc
exact_spells Explicit b (long_twelve at p c h) size bytes =
    let cells : tag_bytes (tag_at b) ++ (get_or b 4 0 ∷ get_or b 5 0 ∷ get_or b 6 0 ∷ get_or b 7 0 ∷ le (long_number_at b 8) 4) ≡ b =
    tag_cells b (get_or b 4 0 ∷ get_or b 5 0 ∷ get_or b 6 0 ∷ get_or b 7 0 ∷ le (long_number_at b 8) 4) bytes ∙ ap (λ z. get_or b 0 0 ∷ get_or b 1 0 ∷ get_or b 2 0 ∷ get_or b 3 0 ∷ get_or b 4 0 ∷ get_or b 5 0 ∷ get_or b 6 0 ∷ get_or b 7 0 ∷ z) (four_cells (get_or b 8 0) (get_or b 9 0) (get_or b 10 0) (get_or b 11 0) (bytes 8) (bytes 9) (bytes 10) (bytes 11)) ∙ sym (cells_twelve b size) in
    let made = subst (λ z. SpellsHeader Explicit (record { tag = tag_at b; vr = Some (get_or b 4 0 ∷ get_or b 5 0 ∷ []); length = long_number_at b 8 }) z) cells (long (tag_at b) (get_or b 4 0) (get_or b 5 0) (get_or b 6 0) (get_or b 7 0) (long_number_at b 8) (tag_fits b bytes) p c h (omega (arith, bytes 8, bytes 9, bytes 10, bytes 11))) in
    rw (p, h) made

pub size_eight : {s : Syntax} {b : List ℕ} {k : ℕ} → NeedIs s b (Size k) → 8 ≤ k
size_eight (plain_eight le p) = lit≤ tt
size_eight (short_eight le p c h) = lit≤ tt
size_eight (long_twelve le p c h) = lit≤ tt

pub more_short : {s : Syntax} {b : List ℕ} → NeedIs s b More → length b < 6
more_short (few lt) = omega arith
more_short (no_vr le p lt) = lt

pub refused_long : (s : Syntax) (b : List ℕ) → need s b ≡ BadVr → (6 ≤ length b) × (is_plain s (tag_at b) ≡ false)
refused_long s b e = by (subst (λ z. NeedIs s b z) e (need_is s b))
  where
    by : NeedIs s b BadVr → (6 ≤ length b) × (is_plain s (tag_at b) ≡ false)
    by (refused le p c) = (le, p)

pub tag_by : (t : Tag) (n m k : ℕ) (v : List ℕ) (p h : Bool) → (if◌then◌else◌ {A = Header} p (record { tag = t; vr = None; length = n }) (if h then record { tag = t; vr = Some v; length = m } else record { tag = t; vr = Some v; length = k })).tag ≡ t
tag_by t n m k v true h = refl
tag_by t n m k v false true = refl
tag_by t n m k v false false = refl

pub tag_read : (s : Syntax) (b : List ℕ) → (header_at s b).tag ≡ tag_at b
unfolding header_at
tag_read s b = tag_by (tag_at b) (long_number_at b 4) (number_at b 6) (long_number_at b 8) (get_or b 4 0 ∷ get_or b 5 0 ∷ []) (is_plain s (tag_at b)) (shorts b)

-- how many bytes a whole header has

pub whole_eight : (s : Syntax) (b : List ℕ) → IsTrue (is_whole s b) → 8 ≤ length b
unfolding is_whole
whole_eight s b w = by (need s b) (need_is s b) w
  where
    by : (n : Need) → NeedIs s b n → IsTrue (has_size n (length b)) → 8 ≤ length b
    by (Size k) (plain_eight le p) h = leb-true _ _ h
    by (Size k) (short_eight le p c g) h = leb-true _ _ h
    by (Size k) (long_twelve le p c g) h = let k : 12 ≤ length b = leb-true _ _ h in omega arith
    by More (few lt) h = absurd cc
    by More (no_vr le p lt) h = absurd cc
    by BadVr (refused le p c) h = absurd cc

pub whole_twelve : (s : Syntax) (b : List ℕ) → IsTrue (is_whole s b) → is_plain s (tag_at b) ≡ false → is_short (get_or b 4 0) (get_or b 5 0) ≡ false → 12 ≤ length b
unfolding is_whole
whole_twelve s b w here other = by (need s b) (need_is s b) w
  where
    by : (n : Need) → NeedIs s b n → IsTrue (has_size n (length b)) → 12 ≤ length b
    by (Size k) (plain_eight le p) h = absurd (let k : true ≡ false = sym p ∙ here in cc)
    by (Size k) (short_eight le p c g) h = absurd (let k : true ≡ false = sym g ∙ other in cc)
    by (Size k) (long_twelve le p c g) h = leb-true _ _ h
    by More (few lt) h = absurd cc
    by More (no_vr le p lt) h = absurd cc
    by BadVr (refused le p c) h = absurd cc

pub whole_capital : (s : Syntax) (b : List ℕ) → IsTrue (is_whole s b) → is_plain s (tag_at b) ≡ false → caps b ≡ true
unfolding is_whole
whole_capital s b w here = by (need s b) (need_is s b) w
  where
    by : (n : Need) → NeedIs s b n → IsTrue (has_size n (length b)) → caps b ≡ true
    by (Size k) (plain_eight le p) h = absurd (let k : true ≡ false = sym p ∙ here in cc)
    by (Size k) (short_eight le p c g) h = c
    by (Size k) (long_twelve le p c g) h = c
    by More (few lt) h = absurd cc
    by More (no_vr le p lt) h = absurd cc
    by BadVr (refused le p c) h = absurd cc

-- the front of bytes in which a header is whole

pub vr_off : (f : ℕ → ℕ → Bool) (u v : List ℕ) (p : Bool) → 6 ≤ length u → f (get_or (u ++ v) 4 0) (get_or (u ++ v) 5 0) ≡ p → f (get_or u 4 0) (get_or u 5 0) ≡ p
vr_off f u v p le e = sym (vr_on f u v (f (get_or u 4 0) (get_or u 5 0)) le refl) ∙ e

pub plain_off : (s : Syntax) (u v : List ℕ) (p : Bool) → 4 ≤ length u → is_plain s (tag_at (u ++ v)) ≡ p → is_plain s (tag_at u) ≡ p
plain_off s u v p le e = sym (plain_on s u v (is_plain s (tag_at u)) le refl) ∙ e

pub size_off : {s : Syntax} (u v : List ℕ) (k : ℕ) → k ≤ length u → NeedIs s (u ++ v) (Size k) → NeedIs s u (Size k)
size_off {s = s} u v _ at (plain_eight le p) = plain_eight (omega arith) (plain_off s u v true (omega arith) p)
size_off {s = s} u v _ at (short_eight le p c h) = short_eight (omega arith) (plain_off s u v false (omega arith) p) (vr_off (λ x y. is_capital x && is_capital y) u v true (omega arith) c) (vr_off is_short u v true (omega arith) h)
size_off {s = s} u v _ at (long_twelve le p c h) = long_twelve (omega arith) (plain_off s u v false (omega arith) p) (vr_off (λ x y. is_capital x && is_capital y) u v true (omega arith) c) (vr_off is_short u v false (omega arith) h)

-- six bytes say the size
pub size_six : {s : Syntax} (u v : List ℕ) {k : ℕ} → 6 ≤ length u → NeedIs s (u ++ v) (Size k) → NeedIs s u (Size k)
size_six {s = s} u v six (plain_eight le p) = plain_eight (omega arith) (plain_off s u v true (omega arith) p)
size_six {s = s} u v six (short_eight le p c h) = short_eight six (plain_off s u v false (omega arith) p) (vr_off (λ x y. is_capital x && is_capital y) u v true six c) (vr_off is_short u v true six h)
size_six {s = s} u v six (long_twelve le p c h) = long_twelve six (plain_off s u v false (omega arith) p) (vr_off (λ x y. is_capital x && is_capital y) u v true six c) (vr_off is_short u v false six h)

number_on : (u v : List ℕ) (i : ℕ) → i + 1 < length u → number_at (u ++ v) i ≡ number_at u i
number_on u v i lt =
    let a : get_or (u ++ v) i 0 ≡ get_or u i 0 = get_or_append_left u v 0 i (omega arith) in
    let b : get_or (u ++ v) (i + 1) 0 ≡ get_or u (i + 1) 0 = get_or_append_left u v 0 (i + 1) (omega arith) in
    λ j. a j + 256 * b j

long_number_on : (u v : List ℕ) (i : ℕ) → i + 3 < length u → long_number_at (u ++ v) i ≡ long_number_at u i
long_number_on u v i lt =
    let a : number_at (u ++ v) i ≡ number_at u i = number_on u v i (omega arith) in
    let b : number_at (u ++ v) (i + 2) ≡ number_at u (i + 2) = number_on u v (i + 2) (omega arith) in
    λ j. a j + 65536 * b j

-- what follows a header does not change what is read
pub header_on : {s : Syntax} (u v : List ℕ) (k : ℕ) → k ≤ length u → NeedIs s u (Size k) → header_at s (u ++ v) ≡ header_at s u
unfolding header_at
header_on {s = s} u v _ at (plain_eight le p) =
    let q : is_plain s (tag_at (u ++ v)) ≡ true = plain_on s u v true le p in
    let t = tag_on u v le in
    let n = long_number_on u v 4 (omega arith) in
    rw (p, q) (λ i. record { tag = t i; vr = None; length = n i })
header_on {s = s} u v _ at (short_eight le p c h) =
    let q : is_plain s (tag_at (u ++ v)) ≡ false = plain_on s u v false (omega arith) p in
    let g : is_short (get_or (u ++ v) 4 0) (get_or (u ++ v) 5 0) ≡ true = vr_on is_short u v true le h in
    let t = tag_on u v (omega arith) in
    let a : get_or (u ++ v) 4 0 ≡ get_or u 4 0 = get_or_append_left u v 0 4 (omega arith) in
    let b : get_or (u ++ v) 5 0 ≡ get_or u 5 0 = get_or_append_left u v 0 5 (omega arith) in
    let n = number_on u v 6 (omega arith) in
    rw (p, q, h, g) (λ i. record { tag = t i; vr = Some (a i ∷ b i ∷ []); length = n i })
header_on {s = s} u v _ at (long_twelve le p c h) =
    let q : is_plain s (tag_at (u ++ v)) ≡ false = plain_on s u v false (omega arith) p in
    let g : is_short (get_or (u ++ v) 4 0) (get_or (u ++ v) 5 0) ≡ false = vr_on is_short u v false le h in
    let t = tag_on u v (omega arith) in
    let a : get_or (u ++ v) 4 0 ≡ get_or u 4 0 = get_or_append_left u v 0 4 (omega arith) in
    let b : get_or (u ++ v) 5 0 ≡ get_or u 5 0 = get_or_append_left u v 0 5 (omega arith) in
    let n = long_number_on u v 8 (omega arith) in
    rw (p, q, h, g) (λ i. record { tag = t i; vr = Some (a i ∷ b i ∷ []); length = n i })

bytes_off : (u v : List ℕ) → IsBytes (u ++ v) → IsBytes u
bytes_off u v bytes i = elim (cases_lt i (length u)) [
  | inl lt ↦ subst (λ z. z < 256) (get_or_append_left u v 0 i lt) (bytes i)
  | inr ge ↦ rw (get_or_past u i 0 ge) (lit< tt)
]

-- the bytes that need names spell the header that is read
pub front_spells : (s : Syntax) (b : List ℕ) (n : ℕ) → IsBytes b → is_whole s b ≡ true → need s b ≡ Size n → SpellsHeader s (header_at s b) (take n b)
unfolding is_whole
front_spells s b n bytes w e =
    let le : n ≤ length b = leb-true _ _ (ap (λ z. has_size z (length b)) (sym e) ∙ w) in
    let whole : take n b ++ drop n b ≡ b = take-append-drop n b in
    let size : length (take n b) ≡ n = omega (arith, length-take n b) in
    let is : NeedIs s (take n b ++ drop n b) (Size n) = subst (λ z. NeedIs s z (Size n)) (sym whole) (subst (λ z. NeedIs s b z) e (need_is s b)) in
    let front : NeedIs s (take n b) (Size n) = size_off (take n b) (drop n b) n (omega arith) is in
    let same : header_at s b ≡ header_at s (take n b) = ap (header_at s) (sym whole) ∙ header_on (take n b) (drop n b) n (omega arith) front in
    subst (λ z. SpellsHeader s z (take n b)) (sym same) (exact_spells s (take n b) front size (bytes_off (take n b) (drop n b) (subst IsBytes (sym whole) bytes)))

-- a spelling is the only one that begins the bytes, and they are read as its header
pub spelled_need : (s : Syntax) (h : Header) (front rest b : List ℕ) → SpellsHeader s h front → b ≡ front ++ rest → need s b ≡ Size (length front)
spelled_need s h front rest b e same = ap (need s) same ∙ need_on s front rest (length front) (need_spelled e)

pub spelled_header : (s : Syntax) (h : Header) (front rest b : List ℕ) → SpellsHeader s h front → b ≡ front ++ rest → h ≡ header_at s b
spelled_header s h front rest b e same =
    let is : NeedIs s front (Size (length front)) = subst (λ z. NeedIs s front z) (need_spelled e) (need_is s front) in
    sym (ap (header_at s) same ∙ (header_on front rest (length front) (omega arith) is ∙ read_spelled e))

-- no spelling begins another one
pub one_spelling : (s : Syntax) (h k : Header) (u v rest more : List ℕ) → SpellsHeader s h u → SpellsHeader s k v → u ++ rest ≡ v ++ more → (h ≡ k) × (length u ≡ length v)
one_spelling s h k u v rest more e f same =
    let sizes : Size (length u) ≡ Size (length v) = sym (spelled_need s h u rest (u ++ rest) e refl) ∙ spelled_need s k v more (u ++ rest) f same in
    (spelled_header s h u rest (u ++ rest) e refl ∙ sym (spelled_header s k v more (u ++ rest) f same), cc)

-- what is written spells the header

pub plain_spells : (s : Syntax) (t : Tag) (n : ℕ) → IsTag t → n < 2 ^ 32 → fits_vr (is_plain s t) None n ≡ true → SpellsHeader s (record { tag = t; vr = None; length = n }) (tag_bytes t ++ le n 4)
plain_spells s t n fits lt e = by (is_plain s t) refl e
  where
    by : (p : Bool) → is_plain s t ≡ p → fits_vr p None n ≡ true → SpellsHeader s (record { tag = t; vr = None; length = n }) (tag_bytes t ++ le n 4)
    by true p e = plain t n fits p lt
    by false p e = absurd cc

pub named_spells : (s : Syntax) (t : Tag) (a b n : ℕ) → IsTag t → n < 2 ^ 32 → (is_capital a && is_capital b) ≡ true → fits_vr (is_plain s t) (Some (a ∷ b ∷ [])) n ≡ true
    → SpellsHeader s (record { tag = t; vr = Some (a ∷ b ∷ []); length = n }) (tag_bytes t ++ vr_bytes (Some (a ∷ b ∷ [])) n)
named_spells Implicit t a b n fits lt c e = absurd cc
named_spells Explicit t a b n fits lt c e = by (is_marker t) refl e (is_short a b) refl
  where
    by : (p : Bool) → is_marker t ≡ p → fits_vr p (Some (a ∷ b ∷ [])) n ≡ true → (h : Bool) → is_short a b ≡ h
        → SpellsHeader Explicit (record { tag = t; vr = Some (a ∷ b ∷ []); length = n }) (tag_bytes t ++ vr_bytes (Some (a ∷ b ∷ [])) n)
    by true p e h g = absurd cc
    by false p e true g =
        let few : nat_lt n 65536 ≡ true = rw g at e in
        rw g (short t a b n fits p c g (ltb-true _ _ few))
    by false p e false g = rw g (long t a b 0 0 n fits p c g lt)

pub written_spells : (s : Syntax) (h : Header) → IsTag h.tag → h.length < 2 ^ 32 → IsVrOrNone h.vr → header_fits s h ≡ true → SpellsHeader s h (header_bytes h)
written_spells s h fits lt good e = by h.vr refl good e
  where
    by : (o : Option (List ℕ)) → h.vr ≡ o → IsVrOrNone o → fits_vr (is_plain s h.tag) o h.length ≡ true
        → SpellsHeader s (record { tag = h.tag; vr = h.vr; length = h.length }) (tag_bytes h.tag ++ vr_bytes h.vr h.length)
    by None is good e = rw is (plain_spells s h.tag h.length fits lt e)
    by (Some (a ∷ b ∷ [])) is good e = rw is (named_spells s h.tag a b h.length fits lt good.0 e)
    by (Some []) is good e = absurd (omega (arith, good.1))
    by (Some (a ∷ [])) is good e = absurd (omega (arith, good.1))
    by (Some (a ∷ b ∷ x ∷ xs)) is good e = absurd (omega (arith, good.1))

-- a header that is put together from its parts

vr_read : (b : List ℕ) → caps b ≡ true → vr_of (get_or b 4 0 ∷ get_or b 5 0 ∷ []) ≡ Some (get_or b 4 0 ∷ get_or b 5 0 ∷ [])
vr_read b c = rw c refl

pub short_read : (s : Syntax) (b : List ℕ) (t : Tag) (vr : Option (List ℕ)) (n : ℕ) → IsTrue (is_whole s b) → t ≡ tag_at b → is_plain s t ≡ false → shorts b ≡ true
    → vr ≡ vr_of (get_or b 4 0 ∷ get_or b 5 0 ∷ []) → n ≡ number_at b 6 → record { tag = t; vr = vr; length = n } ≡ header_at s b
unfolding header_at
short_read s b t vr n w tag apart h named size =
    let here : is_plain s (tag_at b) ≡ false = ap (λ z. is_plain s z) (sym tag) ∙ apart in
    let v : vr ≡ Some (get_or b 4 0 ∷ get_or b 5 0 ∷ []) = named ∙ vr_read b (whole_capital s b w here) in
    rw (here, h) (λ i. record { tag = tag i; vr = v i; length = size i })

pub long_read : (s : Syntax) (b : List ℕ) (t : Tag) (vr : Option (List ℕ)) (n : ℕ) → IsTrue (is_whole s b) → t ≡ tag_at b → is_plain s t ≡ false → shorts b ≡ false
    → vr ≡ vr_of (get_or b 4 0 ∷ get_or b 5 0 ∷ []) → n ≡ long_number_at b 8 → record { tag = t; vr = vr; length = n } ≡ header_at s b
unfolding header_at
long_read s b t vr n w tag apart h named size =
    let here : is_plain s (tag_at b) ≡ false = ap (λ z. is_plain s z) (sym tag) ∙ apart in
    let v : vr ≡ Some (get_or b 4 0 ∷ get_or b 5 0 ∷ []) = named ∙ vr_read b (whole_capital s b w here) in
    rw (here, h) (λ i. record { tag = tag i; vr = v i; length = size i })
