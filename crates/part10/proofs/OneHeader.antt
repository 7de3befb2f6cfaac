-- No file has two file headers (`one_header`): a text spells one list of elements (`one_elements`). Stands on the laws
-- of `element`.
use Rattle.std.proofs.Common.{◌≡◌, ℕ, ◌+◌, ◌^◌, ◌<◌, List, [], ◌∷◌, ◌++◌, length, take, drop, Some, refl, sym, ap, ◌∙◌, arith, append_assoc, length-append, codes}
use Rattle.std.proofs.Math.Seq.{take-append_seam, drop-append_seam}
use Rattle.element.specs.declared.syntax.Syntax.TheVariants.{Explicit}
use Rattle.element.specs.declared.header.Header.{Header}
use Rattle.element.specs.Numbers.{le}
use Rattle.element.specs.Vr.{is_short}
use Rattle.element.specs.Header.{SpellsHeader, long_number_at}
use Rattle.element.proofs.Public.{one_spelling, spelled_long}
use Rattle.part10.specs.File.{length_element}
use Rattle.part10.specs.MetaText.{MetaValues, HasMeta, MetaElement, meta_element_of, MetaElements, no_more, element_then, uid_at, OneHeader}

pub same_front : (u v rest more : List ℕ) → length u ≡ length v → u ++ rest ≡ v ++ more → (u ≡ v) × (rest ≡ more)
same_front u v rest more e same = (
  sym (take-append_seam u rest) ∙ (ap (λ n. take n (u ++ rest)) e ∙ (ap (take (length v)) same ∙ take-append_seam v more)),
  sym (drop-append_seam u rest) ∙ (ap (λ n. drop n (u ++ rest)) e ∙ (ap (drop (length v)) same ∙ drop-append_seam v more)),
)

pub not_nothing : (h : Header) (hb rest : List ℕ) → SpellsHeader Explicit h hb → [] ≡ hb ++ rest → ⊥
not_nothing h hb rest spells same =
    let size : 0 ≡ length hb + length rest = ap length same ∙ length-append hb rest in
    absurd (omega (arith, size, spelled_long spells))

pub one_elements : (l m : ℕ) (es fs : List MetaElement) (b c : List ℕ) → MetaElements l es b → MetaElements m fs c → b ≡ c → es ≡ fs
one_elements l m _ _ _ _ no_more no_more same = refl
one_elements l m _ _ _ _ no_more (element_then {h = k} {hb = kb} {v = w} {b = c} spells group rises even size more) same =
    absurd (not_nothing k kb (w ++ c) spells same)
one_elements l m _ _ _ _ (element_then {h = h} {hb = hb} {v = v} {b = b} spells group rises even size more) no_more same =
    absurd (not_nothing h hb (v ++ b) spells (sym same))
one_elements l m _ _ _ _ (element_then {h = h} {hb = hb} {v = v} {es = es} {b = b} spells group rises even size more) (element_then {h = k} {hb = kb} {v = w} {es = fs} {b = c} others group2 rises2 even2 size2 rest) same =
    let header = one_spelling Explicit h k hb kb (v ++ b) (w ++ c) spells others same in
    let after = same_front hb kb (v ++ b) (w ++ c) header.1 same in
    let sizes : length v ≡ length w = size ∙ (ap (λ z. z.length) header.0 ∙ sym size2) in
    let values = same_front v w b c sizes after.1 in
    let others_same : es ≡ fs = one_elements h.tag.1 k.tag.1 es fs b c more rest values.1 in
    λ i. meta_element_of (header.0 i) (values.0 i) ∷ others_same i

pub length_size : (n : ℕ) → length (length_element n) ≡ 12
unfolding is_short
length_size n = refl

length_back : (n : ℕ) → n < 2 ^ 32 → long_number_at (drop 8 (length_element n)) 0 ≡ n
unfolding is_short
length_back n lt = let same : long_number_at (le n 4 ++ []) 0 ≡ n = omega (arith, lt) in same

pub same_length : (n m : ℕ) → n < 2 ^ 32 → m < 2 ^ 32 → length_element n ≡ length_element m → n ≡ m
same_length n m lt lt2 same = sym (length_back n lt) ∙ (ap (λ z. long_number_at (drop 8 z) 0) same ∙ length_back m lt2)

pub parted : (said : MetaValues) (file : List ℕ) (has : HasMeta said file)
    → file ≡ has.spelled.preamble ++ (codes "DICM" ++ (length_element (length has.spelled.group) ++ (has.spelled.group ++ has.back)))
parted said file has = rw (has.whole, has.spelled.whole, append_assoc, append_assoc, append_assoc) refl

some_same : (a b : List ℕ) → Some a ≡ Some b → a ≡ b
some_same a b e = cc

fronts_same : (p q g h : List ℕ) → p ≡ q → g ≡ h → p ++ codes "DICM" ++ length_element (length g) ++ g ≡ q ++ codes "DICM" ++ length_element (length h) ++ h
fronts_same p q g h e f = λ i. e i ++ codes "DICM" ++ length_element (length (f i)) ++ f i

pub one_header : OneHeader
one_header file said reported has also =
    let a = has.spelled in
    let b = also.spelled in
    let all = sym (parted said file has) ∙ parted reported file also in
    let preambles = same_front a.preamble b.preamble _ _ (a.preamble_size ∙ sym b.preamble_size) all in
    let counts = (same_front (codes "DICM") (codes "DICM") _ _ refl preambles.1).1 in
    let after = same_front (length_element (length a.group)) (length_element (length b.group)) _ _ (length_size (length a.group) ∙ sym (length_size (length b.group))) counts in
    let sizes : length a.group ≡ length b.group = same_length (length a.group) (length b.group) a.group_size b.group_size after.0 in
    let groups : a.group ≡ b.group = (same_front a.group b.group has.back also.back sizes after.1).0 in
    let same : a.elements ≡ b.elements = one_elements 0 0 a.elements b.elements a.group b.group a.spelled b.spelled groups in
    let class : said.class ≡ reported.class = some_same _ _ (sym a.class ∙ (ap (uid_at 0x0002) same ∙ b.class)) in
    let instance : said.instance ≡ reported.instance = some_same _ _ (sym a.instance ∙ (ap (uid_at 0x0003) same ∙ b.instance)) in
    let syntax : said.syntax ≡ reported.syntax = some_same _ _ (sym a.syntax ∙ (ap (uid_at 0x0010) same ∙ b.syntax)) in (
      λ i. record { class = class i; instance = instance i; syntax = syntax i },
      a.whole ∙ (fronts_same a.preamble b.preamble a.group b.group preambles.0 groups ∙ sym b.whole),
    )
