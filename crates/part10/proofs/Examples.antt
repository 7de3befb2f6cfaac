-- The files by which the definitions are tried: one CT store (`one_ct_store`), files without a file header
-- (`no_headers`), and files of another transfer syntax (`other_syntax_is_a_fault`). Stands on WrittenHeaderReadsBack.
use Rattle.std.proofs.Common.{◌≡◌, ◌≢◌, ℕ, ◌+◌, ◌≤◌, ◌<◌, true, List, [], ◌∷◌, ◌++◌, length, take, drop, replicate, refl, ap, subst, ◌^◌, get_or, arith, length-append, codes}
use Rattle.std.proofs.lemmas.List.{append-nil}
use Rattle.element.specs.declared.syntax.Syntax.{Syntax}
use Rattle.element.specs.declared.syntax.Syntax.TheVariants.{Implicit, Explicit}
use Rattle.element.specs.Vr.{is_short}
use Rattle.element.specs.Uid.{is_uid}
use Rattle.dictionary.specs.Syntaxes.{syntax_uid}
use Rattle.part10.specs.declared.meta_fault.MetaFault.TheVariants.{NotPart10}
use Rattle.element.specs.Padding.{padded}
use Rattle.part10.specs.File.{uid_element, length_element, identity_elements, implementation_elements, title_element}
use Rattle.part10.specs.MetaText.{MetaValues, SpellsMeta, HasMeta, MetaElement, MetaElements, no_more, MetaFaultOf}
use Rattle.part10.specs.Examples.{OneCtStore, NoHeaders, SyntaxIsSaid, least_group, least_header, least_said}
use Rattle.part10.proofs.WrittenHeaderReadsBack.{uid_back, uid_then}

pub one_ct_store : OneCtStore
unfolding identity_elements implementation_elements title_element is_short
one_ct_store = (refl, refl, refl)

-- a file header has 144 bytes at least
header_long : (said : MetaValues) (file : List ℕ) → HasMeta said file → 144 ≤ length file
unfolding is_short
header_long said file has =
    let spelled = has.spelled in
    let front : length has.front ≡ ((128 + 4) + 12) + length spelled.group = rw (spelled.whole, length-append, length-append, length-append, spelled.preamble_size) refl in
    let all : length file ≡ length has.front + length has.back = rw (has.whole, length-append) refl in
    omega (arith, front, all)

too_short : (said : MetaValues) (file : List ℕ) → length file < 144 → ¬ HasMeta said file
too_short said file short has = absurd (omega (arith, short, header_long said file has))

-- a byte that is no D
no_letters : (file : List ℕ) → get_or (take 4 (drop 128 file)) 0 0 ≢ 68 → MetaFaultOf file NotPart10
no_letters file other same = other (ap (λ xs. get_or xs 0 0) same)

pub no_headers : NoHeaders
unfolding is_short
no_headers = (
  no_letters [] (λ e. absurd (omega (arith, e))),
  no_letters (replicate 300 0) (λ e. absurd (omega (arith, e))),
  no_letters (replicate 127 0 ++ codes "DICM" ++ replicate 100 0) (λ e. absurd (omega (arith, e))),
  (refl, λ said. too_short said (replicate 128 0 ++ codes "DICM") (omega arith)),
  (refl, λ said. too_short said (replicate 128 0 ++ codes "DICM" ++ take 11 (length_element 34)) (omega arith)),
)

least_elements : List ℕ → List MetaElement
least_elements syntax =
    record { number = 0x0002; value = padded 0 (codes "1.2.840.10008.5.1.4.1.1.2") }
    ∷ record { number = 0x0003; value = padded 0 (codes "1.2.3") }
    ∷ record { number = 0x0010; value = padded 0 syntax }
    ∷ []

pub least_read : (syntax : List ℕ) → is_uid syntax ≡ true → length (least_group syntax) < 2 ^ 32 → SpellsMeta (least_said syntax) (least_header syntax)
unfolding least_elements
least_read syntax e short =
    let third : List ℕ = uid_element 0x0010 syntax in
    let last = uid_then 0x0003 0x0010 syntax [] [] (omega arith) (omega arith) e no_more in
    let P : List ℕ → Type 0 = λ text. MetaElements 0x0003 (record { number = 0x0010; value = padded 0 syntax } ∷ []) text in
    let second = uid_then 0x0002 0x0003 (codes "1.2.3") _ third (omega arith) (omega arith) refl (subst P (append-nil third) last) in
    let first = uid_then 0 0x0002 (codes "1.2.840.10008.5.1.4.1.1.2") _ (uid_element 0x0003 (codes "1.2.3") ++ third) (omega arith) (omega arith) refl second in
    record {
      preamble = replicate 128 7;
      group = least_group syntax;
      elements = least_elements syntax;
      preamble_size = refl;
      group_size = short;
      whole = refl;
      spelled = first;
      class = refl;
      instance = refl;
      syntax = uid_back syntax e;
    }

explicit_is : SpellsMeta (least_said (codes "1.2.840.10008.1.2.1")) (least_header (codes "1.2.840.10008.1.2.1"))
unfolding is_short
explicit_is = least_read (codes "1.2.840.10008.1.2.1") refl (omega arith)

jpeg_is : SpellsMeta (least_said (codes "1.2.840.10008.1.2.4.50")) (least_header (codes "1.2.840.10008.1.2.4.50"))
unfolding is_short
jpeg_is = least_read (codes "1.2.840.10008.1.2.4.50") refl (omega arith)

not_consumed : (s : Syntax) → codes "1.2.840.10008.1.2.4.50" ≢ syntax_uid s
not_consumed Implicit same = absurd (omega (arith, ap length same))
not_consumed Explicit same = absurd (omega (arith, ap length same))

pub other_syntax_is_a_fault : SyntaxIsSaid
other_syntax_is_a_fault = (
  explicit_is,
  (
    least_said (codes "1.2.840.10008.1.2.4.50"),
    record { front = least_header (codes "1.2.840.10008.1.2.4.50"); back = replicate 20 0; whole = refl; spelled = jpeg_is },
    not_consumed,
  ),
)
