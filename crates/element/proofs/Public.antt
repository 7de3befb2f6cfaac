-- What the crates above cite of this crate's lemmas: laws of `element::header_laws`, which are their contracts, in the words of
-- the definitions alone.
use Rattle.std.proofs.Common.{◌≡◌, ℕ, ◌+◌, ◌*◌, ◌^◌, ◌<◌, ◌≤◌, true, false, List, [], ◌∷◌, ◌++◌, length, take, IsTrue}
use Rattle.element.specs.declared.syntax.Syntax.{Syntax}
use Rattle.element.specs.declared.header.Header.{Header}
use Rattle.element.specs.declared.size.Need.{Need}
use Rattle.element.specs.declared.size.Need.TheVariants.{More, Size, BadVr}
use Rattle.element.specs.Numbers.{le, IsBytes}
use Rattle.element.specs.Vr.{IsVrOrNone}
use Rattle.element.specs.Header.{need, is_plain, tag_at, header_at, IsTag, SpellsHeader, is_whole, header_fits, header_bytes}
use Rattle.element.specs.Needs.{NeedIs}
use Rattle.element.proofs.Headers as headers

-- ---- the size of a header

pub need_is : (s : Syntax) (b : List ℕ) → NeedIs s b (need s b)
need_is = headers.need_is

pub is_need : (s : Syntax) (b : List ℕ) (n : Need) → NeedIs s b n → need s b ≡ n
is_need = headers.is_need

pub size_eight : {s : Syntax} {b : List ℕ} {k : ℕ} → NeedIs s b (Size k) → 8 ≤ k
size_eight e = headers.size_eight e

pub more_short : {s : Syntax} {b : List ℕ} → NeedIs s b More → length b < 6
more_short e = headers.more_short e

pub refused_long : (s : Syntax) (b : List ℕ) → need s b ≡ BadVr → (6 ≤ length b) × (is_plain s (tag_at b) ≡ false)
refused_long = headers.refused_long

-- ---- the front of a text

pub tag_on : (u v : List ℕ) → 4 ≤ length u → tag_at (u ++ v) ≡ tag_at u
tag_on = headers.tag_on

pub need_on : (s : Syntax) (u v : List ℕ) (k : ℕ) → need s u ≡ Size k → need s (u ++ v) ≡ Size k
need_on = headers.need_on

pub bad_on : (s : Syntax) (u v : List ℕ) → need s u ≡ BadVr → need s (u ++ v) ≡ BadVr
bad_on = headers.bad_on

pub size_off : {s : Syntax} (u v : List ℕ) (k : ℕ) → k ≤ length u → NeedIs s (u ++ v) (Size k) → NeedIs s u (Size k)
size_off u v k at e = headers.size_off u v k at e

pub size_six : {s : Syntax} (u v : List ℕ) {k : ℕ} → 6 ≤ length u → NeedIs s (u ++ v) (Size k) → NeedIs s u (Size k)
size_six u v six e = headers.size_six u v six e

pub header_on : {s : Syntax} (u v : List ℕ) (k : ℕ) → k ≤ length u → NeedIs s u (Size k) → header_at s (u ++ v) ≡ header_at s u
header_on u v k at e = headers.header_on u v k at e

-- ---- a header that is read

pub tag_read : (s : Syntax) (b : List ℕ) → (header_at s b).tag ≡ tag_at b
tag_read = headers.tag_read

pub whole_eight : (s : Syntax) (b : List ℕ) → IsTrue (is_whole s b) → 8 ≤ length b
whole_eight = headers.whole_eight

pub exact_spells : (s : Syntax) (b : List ℕ) {k : ℕ} → NeedIs s b (Size k) → length b ≡ k → IsBytes b → SpellsHeader s (header_at s b) b
exact_spells s b e size bytes = headers.exact_spells s b e size bytes

pub front_spells : (s : Syntax) (b : List ℕ) (n : ℕ) → IsBytes b → is_whole s b ≡ true → need s b ≡ Size n → SpellsHeader s (header_at s b) (take n b)
front_spells = headers.front_spells

-- ---- a spelling

pub need_spelled : {s : Syntax} {h : Header} {b : List ℕ} → SpellsHeader s h b → need s b ≡ Size (length b)
need_spelled e = headers.need_spelled e

pub spelled_long : {s : Syntax} {h : Header} {b : List ℕ} → SpellsHeader s h b → 8 ≤ length b
spelled_long e = headers.spelled_long e

pub whole_spelled : {s : Syntax} {h : Header} {b : List ℕ} → SpellsHeader s h b → is_whole s b ≡ true
whole_spelled e = headers.whole_spelled e

pub read_spelled : {s : Syntax} {h : Header} {b : List ℕ} → SpellsHeader s h b → header_at s b ≡ h
read_spelled e = headers.read_spelled e

pub front_spelled : {s : Syntax} {h : Header} (u : List ℕ) (x : ℕ) (v : List ℕ) → SpellsHeader s h (u ++ x ∷ v) → is_whole s u ≡ false
front_spelled u x v e = headers.front_spelled u x v e

pub spelled_need : (s : Syntax) (h : Header) (front rest b : List ℕ) → SpellsHeader s h front → b ≡ front ++ rest → need s b ≡ Size (length front)
spelled_need = headers.spelled_need

pub spelled_header : (s : Syntax) (h : Header) (front rest b : List ℕ) → SpellsHeader s h front → b ≡ front ++ rest → h ≡ header_at s b
spelled_header = headers.spelled_header

pub one_spelling : (s : Syntax) (h k : Header) (u v rest more : List ℕ) → SpellsHeader s h u → SpellsHeader s k v → u ++ rest ≡ v ++ more → (h ≡ k) × (length u ≡ length v)
one_spelling = headers.one_spelling

pub written_spells : (s : Syntax) (h : Header) → IsTag h.tag → h.length < 2 ^ 32 → IsVrOrNone h.vr → header_fits s h ≡ true → SpellsHeader s h (header_bytes h)
written_spells = headers.written_spells

-- ---- numbers

pub two_cells : (x y : ℕ) (rest : List ℕ) → x < 256 → y < 256 → le (x + 256 * y) 2 ++ rest ≡ x ∷ y ∷ rest
two_cells = headers.two_cells

pub four_cells : (x y z w : ℕ) → x < 256 → y < 256 → z < 256 → w < 256 → le ((x + 256 * y) + 65536 * (z + 256 * w)) 4 ≡ x ∷ y ∷ z ∷ w ∷ []
four_cells = headers.four_cells
