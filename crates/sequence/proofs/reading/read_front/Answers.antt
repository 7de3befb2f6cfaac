use Rattle.std.proofs.Common.{◌≡◌, ℕ, ◌<◌, ◌≤◌, ◌+◌, ◌-◌, Bool, true, false, not, ◌&&◌, List, [], ◌∷◌, length, take, drop, get_or, Some, None, refl, sym, ap, subst, ◌∙◌, arith, if◌then◌else◌}
use Rattle.std.proofs.lemmas.List.{get_or-take, get_or-drop}
use Rattle.element.specs.Vr.{is_capital, is_short_vr, vr_of}
use Rattle.sequence.specs.Coding.{layout}
use Rattle.sequence.specs.declared.coding.Coding.{Coding}
use Rattle.dictionary.specs.Tags as known
use Rattle.element.specs.declared.tag.Tag.{Tag}
use Rattle.element.specs.declared.size.Need.TheVariants.{Size}
use Rattle.element.specs.Header.{is_plain, tag_at, number_at, long_number_at, header_at}
use Rattle.element.specs.Needs.{caps, shorts, short_eight, long_twelve}
use Rattle.element.proofs.Public.{is_need}
use Rattle.sequence.specs.declared.reading.Front.{Front}
use Rattle.sequence.specs.Shape.{shape_by, is_undefined}
use Rattle.sequence.specs.machine.Heading.{IsFront}
use Rattle.sequence.proofs.reading.read_front.Goals as goal

-- a header with this VR
abbrev named : Coding → ℕ → Tag → List ℕ → ℕ → Front
named s size tag vr n = record { size = size; header = record { tag = tag; vr = Some vr; length = n }; shape = shape_by s tag (Some vr) (known.vr_of tag) (is_undefined n) }

abbrev letters : List ℕ → List ℕ
letters b = get_or b 4 0 ∷ get_or b 5 0 ∷ []

short_at : (s : Coding) (b : List ℕ) → 8 ≤ length b → is_plain (layout s) (tag_at b) ≡ false → caps b ≡ true → shorts b ≡ true → IsFront s b (named s 8 (tag_at b) (letters b) (number_at b 6))
unfolding header_at
short_at s b eight plain capitals short = record {
  size-is = is_need (layout s) b (Size 8) (short_eight (omega arith) plain capitals short);
  within = eight;
  read = rw (plain, short) refl;
  shaped = refl;
}

long_at : (s : Coding) (b : List ℕ) → 12 ≤ length b → is_plain (layout s) (tag_at b) ≡ false → caps b ≡ true → shorts b ≡ false → IsFront s b (named s 12 (tag_at b) (letters b) (long_number_at b 8))
unfolding header_at
long_at s b twelve plain capitals long = record {
  size-is = is_need (layout s) b (Size 12) (long_twelve (omega arith) plain capitals long);
  within = twelve;
  read = rw (plain, long) refl;
  shaped = refl;
}

-- the VR that two letters spell
spelled : (vr l : List ℕ) → Some vr ≡ vr_of l → (vr ≡ l) × ((is_capital (get_or l 0 0) && is_capital (get_or l 1 0)) ≡ true)
spelled vr l e = by (is_capital (get_or l 0 0) && is_capital (get_or l 1 0)) e
  where
    by : (q : Bool) → Some vr ≡ (if q then Some l else None) → (vr ≡ l) × (q ≡ true)
    by true e = (cc, refl)
    by false e = absurd cc

of_not : (q r s : Bool) → q ≡ not r → q ≡ s → r ≡ not s
of_not q true s e f = ap not (sym e ∙ f)
of_not q false s e f = ap not (sym e ∙ f)

part_at : (b : List ℕ) (k i : ℕ) → i < length b - k → get_or (take (length b - k) (drop k b)) i 0 ≡ get_or b (k + i) 0
part_at b k i lt = get_or-take (length b - k) (drop k b) i 0 lt ∙ get_or-drop k b i 0

pub returns-then-not-is_long : goal.returns-then-not-is_long
returns-then-not-is_long c =
    let first = part_at c.args.bytes.now 6 0 (omega arith) in
    let second = part_at c.args.bytes.now 6 1 (omega arith) in
    let n : c.from-length.result ≡ number_at c.args.bytes.now 6 = omega (arith, c.from-length.ensures, c.read_u16.ensures, first, second) in
    let tag : is_plain (layout c.args.coding) (tag_at c.args.bytes.now) ≡ false = ap (is_plain (layout c.args.coding)) (sym c.read_tag-tag.ensures) ∙ ap (λ z. is_plain z c.read_tag-tag.result) (sym c.layout.ensures) ∙ sym c.is_plain.ensures ∙ c.if-is_plain.false in
    let vr = spelled c.in_ok-vr.vr (letters c.args.bytes.now) c.in_ok-vr.ensures in
    let short : shorts c.args.bytes.now ≡ true = ap is_short_vr (sym vr.0) ∙ of_not c.is_long.result (is_short_vr c.in_ok-vr.vr) false c.is_long.ensures c.if-not-is_long.true in
    let same : c.named_front.result ≡ named c.args.coding 8 (tag_at c.args.bytes.now) (letters c.args.bytes.now) (number_at c.args.bytes.now 6) =
    c.named_front.ensures ∙ (ap (λ z. named c.args.coding 8 z c.in_ok-vr.vr c.from-length.result) c.read_tag-tag.ensures ∙ ap (λ z. named c.args.coding 8 (tag_at c.args.bytes.now) z c.from-length.result) vr.0 ∙ ap (named c.args.coding 8 (tag_at c.args.bytes.now) (letters c.args.bytes.now)) n) in
    subst (IsFront c.args.coding c.args.bytes.now) (sym same) (short_at c.args.coding c.args.bytes.now (omega arith) tag vr.1 short)

pub returns-else-bytes-lt12 : goal.returns-else-bytes-lt12
returns-else-bytes-lt12 c =
    let first = part_at c.args.bytes.now 8 0 (omega arith) in
    let second = part_at c.args.bytes.now 8 1 (omega arith) in
    let third = part_at c.args.bytes.now 8 2 (omega arith) in
    let fourth = part_at c.args.bytes.now 8 3 (omega arith) in
    let n : c.read_u32-length.result ≡ long_number_at c.args.bytes.now 8 = omega (arith, c.read_u32-length.ensures, first, second, third, fourth) in
    let tag : is_plain (layout c.args.coding) (tag_at c.args.bytes.now) ≡ false = ap (is_plain (layout c.args.coding)) (sym c.read_tag-tag.ensures) ∙ ap (λ z. is_plain z c.read_tag-tag.result) (sym c.layout.ensures) ∙ sym c.is_plain.ensures ∙ c.if-is_plain.false in
    let vr = spelled c.in_ok-vr.vr (letters c.args.bytes.now) c.in_ok-vr.ensures in
    let long : shorts c.args.bytes.now ≡ false = ap is_short_vr (sym vr.0) ∙ of_not c.is_long.result (is_short_vr c.in_ok-vr.vr) true c.is_long.ensures c.if-not-is_long.false in
    let same : c.named_front-else-bytes-lt12.result ≡ named c.args.coding 12 (tag_at c.args.bytes.now) (letters c.args.bytes.now) (long_number_at c.args.bytes.now 8) =
    c.named_front-else-bytes-lt12.ensures ∙ (ap (λ z. named c.args.coding 12 z c.in_ok-vr.vr c.read_u32-length.result) c.read_tag-tag.ensures ∙ ap (λ z. named c.args.coding 12 (tag_at c.args.bytes.now) z c.read_u32-length.result) vr.0 ∙ ap (named c.args.coding 12 (tag_at c.args.bytes.now) (letters c.args.bytes.now)) n) in
    subst (IsFront c.args.coding c.args.bytes.now) (sym same) (long_at c.args.coding c.args.bytes.now c.if-bytes-lt12.false tag vr.1 long)
