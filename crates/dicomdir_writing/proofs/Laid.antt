-- Elements that are laid down in Explicit, with defined lengths, spell themselves (`laid_elements`, `laid_items`). Stands on
-- the laws of `element`.
use Rattle.std.proofs.Common.{◌≡◌, ◌≢◌, ℕ, ◌%◌, Bool, true, false, not, ◌&&◌, List, length, get_or, Option, Some, None, sym, arith, eqb-true, ltb-true, false-eqb, nat_eq, nat_lt, ◌+◌, ◌≤◌, refl, codes}
use Rattle.std.proofs.lemmas.Bool.{not-true, and_parts}
use Rattle.element.specs.declared.header.Header.{Header}
use Rattle.element.specs.Vr.{is_capital, IsVrOrNone, is_short_vr}
use Rattle.element.specs.Header.{number, is_marker, header_bytes, header_fits, SpellsHeader, is_plain}
use Rattle.element.proofs.Public.{written_spells}
use Rattle.sequence.specs.Coding.{layout}
use Rattle.sequence.specs.declared.shape.Shape.{Shape}
use Rattle.sequence.specs.declared.shape.Shape.TheVariants.{Value, Sequence, NotAllowed}
use Rattle.sequence.specs.Shape.{shape, undefined_length, is_vr}
use Rattle.sequence.specs.Tree.{Elements, no_elements, value, sequence, Items, no_items, item, fragment, IsElement, IsItem, DataSet, ItemList, nothing, value_then, sequence_then, no_more, item_then, counted}
use Rattle.sequence.specs.declared.coding.Coding.{Coding}
use Rattle.sequence.specs.declared.coding.Coding.TheVariants.{Implicit, Explicit, Encapsulated, Fragments}
use Rattle.dicomdir_writing.specs.Record.{spelled, spelled_items, field}
use Rattle.std.proofs.lemmas.Bool.Decides.{nat_tests}
use Rattle.std.proofs.lemmas.List.{length-append}
use Rattle.element.specs.declared.tag.Tag.{Tag}
use Rattle.element.specs.Padding.{padded}
use Rattle.element.specs.Numbers.{le}
use Rattle.dicomdir.specs.Directory.{header_size, size_of}
use Rattle.std.proofs.lemmas.Grind.{common_steps}

abbrev pub is_vr_or_none : Option (List ℕ) → Bool
is_vr_or_none None = true
is_vr_or_none (Some letters) = (is_capital (get_or letters 0 0) && is_capital (get_or letters 1 0)) && nat_eq (length letters) 2

-- the header can be written, and its length is defined and even
abbrev pub is_header : Header → Bool
is_header h =
    ((nat_lt h.tag.0 65536 && nat_lt h.tag.1 65536) && (is_vr_or_none h.vr && header_fits (layout Explicit) h))
    && (nat_lt h.length undefined_length && nat_eq (h.length % 2) 0)

abbrev pub is_element : ℕ → Header → Bool
is_element last h =
    (is_header h && nat_lt last (number h.tag))
    && (not (is_marker h.tag) && (not (nat_eq h.tag.0 0) && not (nat_eq h.tag.0 2)))

abbrev pub is_item : Header → Bool
is_item h = is_header h && (nat_eq h.tag.0 0xfffe && nat_eq h.tag.1 0xe000)

abbrev pub is_value : Shape → Bool
is_value Value = true
is_value (Sequence s) = false
is_value NotAllowed = false

abbrev pub is_explicit : Coding → Bool
is_explicit Explicit = true
is_explicit Implicit = false
is_explicit Encapsulated = false
is_explicit Fragments = false

abbrev pub is_sequence : Shape → Bool
is_sequence Value = false
is_sequence (Sequence s) = is_explicit s
is_sequence NotAllowed = false

abbrev mutual
  pub is_laid : ℕ → Elements → Bool
  is_laid last no_elements = true
  is_laid last (value h v es) =
      (is_element last h && is_value (shape Explicit h)) && (nat_eq (length v) h.length && is_laid (number h.tag) es)
  is_laid last (sequence h is es) =
      (is_element last h && is_sequence (shape Explicit h))
      && ((nat_eq (length (spelled_items is)) h.length && are_laid is) && is_laid (number h.tag) es)

  pub are_laid : Items → Bool
  are_laid no_items = true
  are_laid (item h es is) = (is_item h && nat_eq (length (spelled es)) h.length) && (is_laid 0 es && are_laid is)
  are_laid (fragment h v is) = false

value_shape : (s : Shape) → is_value s ≡ true → s ≡ Value
value_shape v1 e = grind (arith, nat_tests)

sequence_shape : (s : Shape) → is_sequence s ≡ true → s ≡ Sequence Explicit
sequence_shape v1 e = grind (arith, nat_tests)

named : (vr : Option (List ℕ)) → is_vr_or_none vr ≡ true → IsVrOrNone vr
named v1 e = grind (arith, nat_tests)

-- what the test of a header says
record IsLaidHeader (h : Header) : Type 0 where
  pub spells : SpellsHeader (layout Explicit) h (header_bytes h)
  pub defined : h.length ≢ undefined_length
  pub even : h.length % 2 ≡ 0

laid_header : (h : Header) → is_header h ≡ true → IsLaidHeader h
laid_header h e = grind (arith, common_steps, written_spells (layout Explicit) h, named h.vr)

apart : (a b : ℕ) → not (nat_eq a b) ≡ true → a ≢ b
apart a b e = false-eqb a b (sym (not-true (nat_eq a b) e))

laid_element : (last : ℕ) (h : Header) → is_element last h ≡ true → IsElement Explicit last h (header_bytes h)
laid_element last h e =
    let parts = and_parts _ _ e in
    let front = and_parts _ _ parts.0 in
    let back = and_parts _ _ parts.1 in
    let groups = and_parts _ _ back.1 in
    record {
      spelled = (laid_header h front.0).spells;
      rising = ltb-true _ _ front.1;
      no_marker = not-true (is_marker h.tag) back.0;
      no_command = apart h.tag.0 0 groups.0;
      no_file = apart h.tag.0 2 groups.1;
    }

laid_item : (h : Header) → is_item h ≡ true → IsItem Explicit h (header_bytes h)
laid_item h e = grind (arith, common_steps, laid_header h)

element_header : (last : ℕ) (h : Header) → is_element last h ≡ true → is_header h ≡ true
element_header last h e = (and_parts _ _ (and_parts _ _ e).0).0

mutual
  pub laid_elements : (last : ℕ) (es : Elements) → is_laid last es ≡ true → DataSet Explicit last es (spelled es)
  laid_elements last no_elements e = nothing
  laid_elements last (value h v es) e =
      let parts = and_parts _ _ e in
      let front = and_parts _ _ parts.0 in
      let back = and_parts _ _ parts.1 in
      value_then
      (laid_element last h front.0)
      (value_shape (shape Explicit h) front.1)
      (record { even = (laid_header h (element_header last h front.0)).even; size = eqb-true _ _ back.0 })
      (laid_elements (number h.tag) es back.1)
  laid_elements last (sequence h is es) e =
      let parts = and_parts _ _ e in
      let front = and_parts _ _ parts.0 in
      let back = and_parts _ _ parts.1 in
      let inside = and_parts _ _ back.0 in
      let header = laid_header h (element_header last h front.0) in
      sequence_then
      (laid_element last h front.0)
      (sequence_shape (shape Explicit h) front.1)
      (laid_items is inside.1)
      (counted h.length header.defined header.even (eqb-true _ _ inside.0))
      (laid_elements (number h.tag) es back.1)

  pub laid_items : (is : Items) → are_laid is ≡ true → ItemList Explicit is (spelled_items is)
  laid_items no_items e = no_more
  laid_items (item h es is) e =
      let parts = and_parts _ _ e in
      let front = and_parts _ _ parts.0 in
      let back = and_parts _ _ parts.1 in
      let header = laid_header h (and_parts _ _ front.0).0 in
      item_then
      (laid_item h front.0)
      (laid_elements 0 es back.0)
      (counted h.length header.defined header.even (eqb-true _ _ front.1))
      (laid_items is back.1)
  laid_items (fragment h v is) e = absurd cc

-- ---- elements with even values and a VR whose length has two bytes

-- whether an element with this tag and this VR, whose length has two bytes, can follow the tag with number `last`
abbrev pub is_fixed : ℕ → Tag → List ℕ → Bool
is_fixed last t vr =
    ((nat_lt t.0 65536 && nat_lt t.1 65536) && (is_vr_or_none (Some vr) && not (is_plain (layout Explicit) t)))
    && (((nat_lt last (number t) && not (is_marker t)) && (not (nat_eq t.0 0) && not (nat_eq t.0 2)))
    && (not (is_vr (codes "SQ") vr) && is_short_vr vr))

short_header : (t : Tag) (vr : List ℕ) (n : ℕ) → is_short_vr vr ≡ true → length vr ≡ 2 → header_size (record { tag = t; vr = Some vr; length = n }) ≡ 8
short_header t vr n short two = grind (arith, common_steps, length-append vr (le n 2))

-- these elements are laid down after the tag with number `last`, and take an even count of bytes
pub record IsGood (last : ℕ) (es : Elements) : Type 0 where
  pub laid : is_laid last es ≡ true
  pub size : size_of es ≡ length (spelled es)
  pub even : length (spelled es) % 2 ≡ 0

pub good_none : (last : ℕ) → IsGood last no_elements
good_none last = record { laid = refl; size = refl; even = refl }

pub padded_short : (p : ℕ) (v : List ℕ) → length (padded p v) ≤ length v + 1
padded_short p v = grind (arith, common_steps)

-- a value that is padded, and a key that is padded anew

pub good_value : (last : ℕ) (t : Tag) (vr : List ℕ) (p : ℕ) (v : List ℕ) (es : Elements) → is_fixed last t vr ≡ true → length v ≤ 1024 → IsGood (number t) es → IsGood last (field t vr (padded p v) es)
good_value last t vr p v es f short good = grind (arith, common_steps, padded_short p v, short_header t vr (length (padded p v)))
