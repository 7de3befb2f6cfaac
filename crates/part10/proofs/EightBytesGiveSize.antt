-- The first eight bytes of a header give its size (`header_need`, `need_bounds`); as many bytes are a whole one
-- (`whole_header`, `whole_spells`), and where they are fewer or give no size there is none (`short_front`,
-- `short_back`, `no_front`, `long_front`). Stands on the laws of `element`.
use Rattle.std.proofs.Common.{◌≡◌, ℕ, ◌+◌, ◌≤◌, ◌<◌, List, ◌++◌, length, take, sym, subst, ◌∙◌, ap, arith, length-append, IsTrue, le-leb, lit≤}
use Rattle.std.proofs.lemmas.List.{take_all}
use Rattle.element.specs.declared.syntax.Syntax.{Syntax}
use Rattle.element.specs.declared.syntax.Syntax.TheVariants.{Explicit}
use Rattle.element.specs.declared.header.Header.{Header}
use Rattle.element.specs.declared.size.Need.TheVariants.{Size}
use Rattle.element.specs.Header.{SpellsHeader, need, is_whole, has_size}
use Rattle.element.specs.Needs.{NeedIs, plain_eight, short_eight, long_twelve}
use Rattle.element.proofs.Public.{need_is, is_need, need_on, size_six, spelled_need, spelled_long}
use Rattle.part10.specs.machine.Reading.{NoHeader}

size_bounds : {s : Syntax} {b : List ℕ} {k : ℕ} → NeedIs s b (Size k) → (8 ≤ k) × (k ≤ 12)
size_bounds (plain_eight le p) = (lit≤ tt, lit≤ tt)
size_bounds (short_eight le p c h) = (lit≤ tt, lit≤ tt)
size_bounds (long_twelve le p c h) = (lit≤ tt, lit≤ tt)

pub need_bounds : (s : Syntax) (b : List ℕ) (k : ℕ) → need s b ≡ Size k → (8 ≤ k) × (k ≤ 12)
need_bounds s b k e = size_bounds (subst (λ z. NeedIs s b z) e (need_is s b))

pub whole_at : (s : Syntax) (b : List ℕ) (k : ℕ) → need s b ≡ Size k → k ≤ length b → IsTrue (is_whole s b)
unfolding is_whole
whole_at s b k e le = ap (λ z. has_size z (length b)) e ∙ le-leb k (length b) le

-- the first eight bytes of what begins with a header say its size
pub header_need : (h : Header) (bytes back u v : List ℕ) → SpellsHeader Explicit h bytes → u ++ v ≡ bytes ++ back → length u ≡ 8 → need Explicit u ≡ Size (length bytes)
header_need h bytes back u v spells same eight =
    let whole : need Explicit (u ++ v) ≡ Size (length bytes) = spelled_need Explicit h bytes back (u ++ v) spells same in
    is_need Explicit u (Size (length bytes)) (size_six u v (omega (arith, eight)) (subst (λ z. NeedIs Explicit (u ++ v) z) whole (need_is Explicit (u ++ v))))

-- fewer than eight bytes are left
pub short_front : (remaining : ℕ) (rest : List ℕ) → length rest < 8 → NoHeader remaining rest
short_front remaining rest few h bytes back spells same within =
    let size : length rest ≡ length bytes + length back = ap length same ∙ length-append bytes back in
    absurd (omega (arith, size, few, spelled_long spells))

-- the first eight bytes begin no header
pub no_front : (remaining : ℕ) (front rest : List ℕ) → length front ≡ 8 → ((size : ℕ) → need Explicit front ≡ Size size → ⊥) → NoHeader remaining (front ++ rest)
no_front remaining front rest eight none h bytes back spells same within =
    absurd (none (length bytes) (header_need h bytes back front rest spells same eight))

-- the header has more bytes than it may have
pub long_front : (remaining size : ℕ) (front rest : List ℕ) → length front ≡ 8 → need Explicit front ≡ Size size → remaining < size → NoHeader remaining (front ++ rest)
long_front remaining size front rest eight is more h bytes back spells same within =
    let sizes : Size size ≡ Size (length bytes) = sym is ∙ header_need h bytes back front rest spells same eight in
    let whole : size ≡ length bytes = cc in
    absurd (omega (arith, whole, more, within))

-- fewer bytes follow than the header has
pub short_back : (remaining size : ℕ) (front rest : List ℕ) → length front ≡ 8 → need Explicit front ≡ Size size → 8 + length rest < size → NoHeader remaining (front ++ rest)
short_back remaining size front rest eight is few h bytes back spells same within =
    let sizes : Size size ≡ Size (length bytes) = sym is ∙ header_need h bytes back front rest spells same eight in
    let whole : size ≡ length bytes = cc in
    let all : length front + length rest ≡ length bytes + length back = sym (length-append front rest) ∙ (ap length same ∙ length-append bytes back) in
    absurd (omega (arith, whole, all, eight, few))

-- the whole header is read
pub whole_header : (front back text : List ℕ) (size : ℕ) → text ≡ front ++ back → need Explicit front ≡ Size size → length (front ++ back) ≡ size → IsTrue (is_whole Explicit text)
whole_header front back text size same is count =
    whole_at Explicit text size (ap (need Explicit) same ∙ need_on Explicit front back size is) (omega (arith, ap length same, count))

pub whole_spells : (front back text : List ℕ) (size : ℕ) (h : Header) → text ≡ front ++ back → need Explicit front ≡ Size size → length (front ++ back) ≡ size
    → ((n : ℕ) → need Explicit text ≡ Size n → SpellsHeader Explicit h (take n text)) → SpellsHeader Explicit h (front ++ back)
whole_spells front back text size h same is count spelled =
    let front_is : take size text ≡ front ++ back = ap (take size) same ∙ take_all size (front ++ back) (omega (arith, count)) in
    subst (SpellsHeader Explicit h) front_is (spelled size (ap (need Explicit) same ∙ need_on Explicit front back size is))
