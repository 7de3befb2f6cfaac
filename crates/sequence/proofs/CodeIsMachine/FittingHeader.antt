-- A whole header whose value fits before the nearest end and the limit, and that breaks no other rule, breaks none
-- (`is_fitting`). Stands on the definitions alone.
use Rattle.std.proofs.Common.{◌≡◌, ℕ, ◌+◌, ◌≤◌, ◌%◌, Bool, true, false, not, ◌&&◌, Option, Some, None, nat_eq, nat_lt, nat_le, refl, sym, ap, ◌∙◌, arith}
use Rattle.std.proofs.lemmas.Bool.Decides.{nat_tests}
use Rattle.element.specs.declared.header.Header.{Header}
use Rattle.element.specs.declared.size.Need.TheVariants.{Size}
use Rattle.element.specs.Header.{is_marker, is_plain}
use Rattle.sequence.specs.Coding.{layout}
use Rattle.sequence.specs.declared.spot.Spot.{Spot}
use Rattle.sequence.specs.Shape.{is_undefined, shape}
use Rattle.sequence.specs.Rules.{Limits, Broken, passes, broken_due, broken_tag, broken_need, broken_header, is_long_mark, is_not_allowed, is_endless, is_too_long, opens, counted_length, ◌or_else◌, when}
use Rattle.sequence.specs.machine.Heading.{broken_whole}

near_less : (near : Option ℕ) (a b : ℕ) → a ≤ b → passes near b ≡ false → passes near a ≡ false
near_less None a b le e = refl
near_less (Some remaining) a b le e = grind (arith, nat_tests)

counted_is : (near : Option ℕ) (size n : ℕ) (u : Bool) → is_undefined n ≡ u → passes near (size + counted_length n) ≡ false → (not u && passes near (size + n)) ≡ false
counted_is near size n true e f = refl
counted_is near size n false e f = let k : counted_length n ≡ n = rw e refl in ap (λ z. passes near (size + z)) (sym k) ∙ f

none_size : (spot : Spot) (size : ℕ) (h : Header) (b : Bool) → passes spot.near size ≡ false → when b (broken_need spot (Size size) h.tag) ≡ None
none_size spot size h true e = rw e refl
none_size spot size h false e = refl

all_of : (a b c d : Broken) → a ≡ None → b ≡ None → c ≡ None → d ≡ None → (a or_else b or_else c or_else d) ≡ None
all_of a b c d e f g h = rw (e, f, g, h) refl

header_of : (lim : Limits) (spot : Spot) (size : ℕ) (h : Header) → is_long_mark h ≡ false → (not (is_marker h.tag) && is_not_allowed (shape spot.syntax h)) ≡ false → is_endless spot h ≡ false → (not (is_undefined h.length) && nat_eq (h.length % 2) 1) ≡ false
    → (not (is_undefined h.length) && passes spot.near (size + h.length)) ≡ false → nat_lt lim.bytes (spot.offset + size + counted_length h.length) ≡ false → is_too_long lim spot h ≡ false → (opens spot h && nat_le lim.depth spot.depth) ≡ false
    → broken_header lim spot size h ≡ None
unfolding broken_header
header_of lim spot size h a b o c d e f g = rw (a, b, o, c, d, e, f, g) refl

not_less : (a b c d : ℕ) → b + (c + d) ≤ a → nat_lt a (b + c + d) ≡ false
not_less a b c d le = grind (arith, nat_tests)

pub is_fitting : (lim : Limits) (spot : Spot) (size : ℕ) (h : Header) → 8 ≤ size → broken_tag spot h.tag ≡ None → passes spot.near (size + counted_length h.length) ≡ false → spot.offset + (size + counted_length h.length) ≤ lim.bytes
    → is_long_mark h ≡ false → (not (is_marker h.tag) && is_not_allowed (shape spot.syntax h)) ≡ false → is_endless spot h ≡ false → (not (is_undefined h.length) && nat_eq (h.length % 2) 1) ≡ false → is_too_long lim spot h ≡ false → (opens spot h && nat_le lim.depth spot.depth) ≡ false
    → broken_whole lim spot size h ≡ None
unfolding broken_whole
is_fitting lim spot size h eight tag near limit mark allowed bounded odd long deep =
    let due : passes spot.near 8 ≡ false = near_less spot.near 8 (size + counted_length h.length) (omega (arith, eight)) near in
    let cut = near_less spot.near size (size + counted_length h.length) (omega arith) near in
    let over = counted_is spot.near size h.length (is_undefined h.length) refl near in
    all_of (broken_due spot) (broken_tag spot h.tag) (when (not (is_plain (layout spot.syntax) h.tag)) (broken_need spot (Size size) h.tag)) (broken_header lim spot size h)
    (rw due refl) tag (none_size spot size h (not (is_plain (layout spot.syntax) h.tag)) cut) (header_of lim spot size h mark allowed bounded odd over (not_less lim.bytes spot.offset size (counted_length h.length) limit) long deep)
