-- No element of the group follows a header that is not the next (`not_next`), whose value does not fit (`long_value`)
-- or is cut short (`short_value`), and none follows where no header does (`no_header`). Stands on the laws of
-- `element`.
use Rattle.std.proofs.Common.{◌≡◌, ℕ, ◌+◌, ◌%◌, ◌<◌, Bool, true, false, ◌&&◌, eqb-true, List, ◌++◌, length, refl, sym, ap, ◌∙◌, arith, append_assoc, length-append, nat_eq, nat_lt}
use Rattle.std.proofs.lemmas.Bool.Decides.{nat_tests}
use Rattle.std.proofs.lemmas.Bool.{ltb-true}
use Rattle.element.specs.declared.syntax.Syntax.TheVariants.{Explicit}
use Rattle.element.specs.declared.header.Header.{Header}
use Rattle.element.specs.Header.{SpellsHeader}
use Rattle.element.proofs.Public.{one_spelling}
use Rattle.part10.specs.machine.Reading.{IsElement, NoElement, NoHeader, is_next}

next_is : (last : ℕ) (h : Header) (bytes value : List ℕ) → IsElement last h bytes value → is_next h last ≡ true
next_is last h bytes value is =
    let group : nat_eq h.tag.0 2 ≡ true = let e = is.group in grind (arith, nat_tests) in
    let rises : nat_lt last h.tag.1 ≡ true = let e = is.rises in grind (arith, nat_tests) in
    let even : nat_eq (h.length % 2) 0 ≡ true = let e = is.even in grind (arith, nat_tests) in
    rw (group, rises, even) refl

-- what it says of a header that it is the next
pub next_parts : (last : ℕ) (h : Header) → true ≡ is_next h last → (h.tag.0 ≡ 2) × (last < h.tag.1) × (h.length % 2 ≡ 0)
next_parts last h e = by (nat_eq h.tag.0 2) (nat_lt last h.tag.1) (nat_eq (h.length % 2) 0) refl refl refl e
  where
    by : (a b c : Bool) → nat_eq h.tag.0 2 ≡ a → nat_lt last h.tag.1 ≡ b → nat_eq (h.length % 2) 0 ≡ c → true ≡ (a && b && c) → (h.tag.0 ≡ 2) × (last < h.tag.1) × (h.length % 2 ≡ 0)
    by true true true p q r e = (eqb-true h.tag.0 2 p, ltb-true last h.tag.1 q, eqb-true (h.length % 2) 0 r)
    by true true false p q r e = absurd cc
    by true false c p q r e = absurd cc
    by false b c p q r e = absurd cc

same_header : (last : ℕ) (header h : Header) (bytes front value rest back : List ℕ) → SpellsHeader Explicit header bytes → IsElement last h front value → bytes ++ rest ≡ (front ++ value) ++ back
    → (header ≡ h) × (length bytes ≡ length front)
same_header last header h bytes front value rest back spells is same =
    one_spelling Explicit header h bytes front rest (value ++ back) spells is.spells (same ∙ append_assoc front value back)

-- the header is none of the next element
pub not_next : (last remaining : ℕ) (header : Header) (bytes rest : List ℕ) → SpellsHeader Explicit header bytes → false ≡ is_next header last → NoElement last remaining (bytes ++ rest)
not_next last remaining header bytes rest spells not h front value back is same within =
    let header_same = same_header last header h bytes front value rest back spells is same in
    absurd (let both : false ≡ true = not ∙ (ap (λ z. is_next z last) header_same.0 ∙ next_is last h front value is) in cc)

-- its value does not fit
pub long_value : (last remaining size : ℕ) (header : Header) (bytes rest : List ℕ) → SpellsHeader Explicit header bytes → length bytes ≡ size → remaining < size + header.length → NoElement last remaining (bytes ++ rest)
long_value last remaining size header bytes rest spells count more h front value back is same within =
    let header_same = same_header last header h bytes front value rest back spells is same in
    let lengths : header.length ≡ h.length = ap (λ z. z.length) header_same.0 in
    absurd (omega (arith, lengths, header_same.1, is.size, count, more, within))

-- the bytes end in its value
pub short_value : (last remaining : ℕ) (header : Header) (bytes rest : List ℕ) → SpellsHeader Explicit header bytes → length rest < header.length → NoElement last remaining (bytes ++ rest)
short_value last remaining header bytes rest spells few h front value back is same within =
    let header_same = same_header last header h bytes front value rest back spells is same in
    let lengths : header.length ≡ h.length = ap (λ z. z.length) header_same.0 in
    let all : length bytes + length rest ≡ (length front + length value) + length back = sym (length-append bytes rest) ∙ (ap length same ∙ (length-append (front ++ value) back ∙ ap (λ z. z + length back) (length-append front value))) in
    absurd (omega (arith, lengths, header_same.1, is.size, all, few))

-- no header, no element
pub no_header : (last remaining : ℕ) (rest : List ℕ) → NoHeader remaining rest → NoElement last remaining rest
no_header last remaining rest none h front value back is same within =
    none h front (value ++ back) is.spells (same ∙ append_assoc front value back) (omega (arith, within))
