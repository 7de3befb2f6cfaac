-- Every file has a file header that is accepted, or a fault (`consumed_or_faulty`), and one of these alone (`one_verdict`).
-- Stands on EightBytesGiveSize, GroupIsItsElements, HeaderConsumedOrRefused, NoElementFollows, OneHeader, PrefixIsSpelled
-- and the laws of `element`.
use Rattle.std.proofs.Common.{◌≡◌, ◌≢◌, ℕ, zero, suc, ◌+◌, ◌%◌, ◌^◌, ◌<◌, ◌≤◌, Bool, true, false, ◌&&◌, List, [], ◌∷◌, ◌++◌, length, take, drop, Option, Some, None, Err, inl, inr, ◌⊎◌, refl, sym, ap, subst, ◌∙◌, arith, append_assoc, append-nil, length-append, length-take, length-drop, take-append-drop, eqb-true, ltb-true, nat_eq, nat_lt, lit<, codes}
use Rattle.std.proofs.lemmas.Bool.{and_parts, cases_lt}
use Rattle.std.proofs.lemmas.List.{get_or-drop, get_or_append_left, get_or_past, drop_at}
use Rattle.std.proofs.lemmas.Slice.Eq.{bytes_eq-Decides}
use Rattle.std.specs.Str.{bytes_eq}
use Rattle.byteorder.specs.Endian.{little_number}
use Rattle.element.specs.declared.syntax.Syntax.{Syntax}
use Rattle.element.specs.declared.syntax.Syntax.TheVariants.{Implicit, Explicit}
use Rattle.element.specs.declared.header.Header.{Header}
use Rattle.element.specs.declared.size.Need.{Need}
use Rattle.element.specs.declared.size.Need.TheVariants.{More, Size, BadVr}
use Rattle.element.specs.Numbers.{le, IsBytes}
use Rattle.element.specs.Header.{SpellsHeader, need, header_at}
use Rattle.element.proofs.Public.{front_spells, spelled_need}
use Rattle.dictionary.specs.Syntaxes.{syntax_uid}
use Rattle.part10.specs.declared.meta_fault.MetaFault.{MetaFault}
use Rattle.part10.specs.declared.meta_fault.MetaFault.TheVariants.{NotPart10, BadMeta, OtherSyntax, ReadFailed}
use Rattle.part10.specs.declared.reading.Found.{Found}
use Rattle.part10.specs.File.{length_element}
use Rattle.part10.specs.MetaText.{MetaValues, HasMeta, HasLetters, MetaFaultOf, IsConsumed, MetaElement, meta_element_of, MetaElements, no_more, element_then, uid_at, ConsumedOrFaulty, OneVerdict}
use Rattle.part10.specs.machine.Reading.{NoSize, NoHeader, NoElement, is_next}
use Rattle.part10.proofs.EightBytesGiveSize.{whole_at, need_bounds}
use Rattle.part10.proofs.PrefixIsSpelled.{short_file, other_size, short_size, number_back, size_is}
use Rattle.part10.proofs.NoElementFollows.{not_next, short_value, no_header}
use Rattle.part10.proofs.GroupIsItsElements.{one_element, rest_elements, no_first}
use Rattle.part10.proofs.HeaderConsumedOrRefused.{Whole, no_size, no_group_at, spells_whole, meta_refused}
use Rattle.part10.proofs.OneHeader.{same_front, parted, one_header}

bytes_after : (n : ℕ) (b : List ℕ) → IsBytes b → IsBytes (drop n b)
bytes_after n b bytes i = rw (get_or-drop n b i 0) (bytes (n + i))

-- elements

no_elements : (last : ℕ) (b : List ℕ) → 0 < length b → NoElement last (length b) b → (es : List MetaElement) → ¬ MetaElements last es b
no_elements last b some none es = no_first last (length b) es b b [] some refl (sym (append-nil b)) none

unneeded : (b : List ℕ) → ((k : ℕ) → need Explicit b ≡ Size k → length b < k) → NoHeader (length b) b
unneeded b none h bytes back spells same within =
    let more : length b < length bytes = none (length bytes) (spelled_need Explicit h bytes back b spells same) in
    absurd (omega (arith, more, within))

Spelled : ℕ → List ℕ → Type 0
Spelled last b = (es : List MetaElement) × MetaElements last es b

Decided : ℕ → List ℕ → Type 0
Decided last b = Spelled last b ⊎ ((es : List MetaElement) → ¬ MetaElements last es b)

one_more : (last : ℕ) (h : Header) (hb v c b : List ℕ) → SpellsHeader Explicit h hb → is_next h last ≡ true → length v ≡ h.length → b ≡ hb ++ (v ++ c) → Decided h.tag.1 c → Decided last b
unfolding Decided Spelled
one_more last h hb v c b spells next size same rest =
    let parts = and_parts (nat_eq h.tag.0 2 && nat_lt last h.tag.1) (nat_eq (h.length % 2) 0) next in
    let front = and_parts (nat_eq h.tag.0 2) (nat_lt last h.tag.1) parts.0 in
    let group : h.tag.0 ≡ 2 = eqb-true _ _ front.0 in
    let rises : last < h.tag.1 = ltb-true _ _ front.1 in
    let even : h.length % 2 ≡ 0 = eqb-true _ _ parts.1 in
    elim rest [
      | inl more ↦ inl (meta_element_of h v ∷ more.0, subst (λ z. MetaElements last (meta_element_of h v ∷ more.0) z) (sym same) (element_then spells group rises even size more.1))
      | inr none ↦ inr (λ gs all.
          let one = one_element last h hb v (record { spells = spells; group = group; rises = rises; even = even; size = size }) in
          let after = rest_elements last (meta_element_of h v ∷ []) gs (hb ++ v) c b one all (same ∙ sym (append_assoc hb v c)) in
          none after.0 after.1)
    ]

decide : (fuel last : ℕ) (b : List ℕ) → IsBytes b → length b ≤ fuel → Decided last b
unfolding Decided Spelled
decide fuel last [] bytes few = inl ([], no_more)
decide zero last (x ∷ xs) bytes few = absurd (omega (arith, few))
decide (suc fuel) last (x ∷ xs) bytes few = by (need Explicit (x ∷ xs)) refl (λ n c k l. decide fuel n c k l)
  where
    none : NoHeader (length (x ∷ xs)) (x ∷ xs) → Decided last (x ∷ xs)
    none unread = inr (λ es. no_elements last (x ∷ xs) (omega arith) (no_header last (length (x ∷ xs)) (x ∷ xs) unread) es)

    split : (k : ℕ) (h : Header) → SpellsHeader Explicit h (take k (x ∷ xs)) → 8 ≤ k → k ≤ length (x ∷ xs) → ((n : ℕ) (c : List ℕ) → IsBytes c → length c ≤ fuel → Decided n c) → (next : Bool) → is_next h last ≡ next → Decided last (x ∷ xs)
    split k h spells long within later false e =
        let unread : NoElement last (length (x ∷ xs)) (take k (x ∷ xs) ++ drop k (x ∷ xs)) = not_next last (length (x ∷ xs)) h (take k (x ∷ xs)) (drop k (x ∷ xs)) spells (sym e) in
        inr (λ es. no_elements last (x ∷ xs) (omega arith) (subst (NoElement last (length (x ∷ xs))) (take-append-drop k (x ∷ xs)) unread) es)
    split k h spells long within later true e = elim (cases_lt (length (drop k (x ∷ xs))) h.length) [
      | inl short ↦
          let unread : NoElement last (length (x ∷ xs)) (take k (x ∷ xs) ++ drop k (x ∷ xs)) = short_value last (length (x ∷ xs)) h (take k (x ∷ xs)) (drop k (x ∷ xs)) spells short in
          inr (λ es. no_elements last (x ∷ xs) (omega arith) (subst (NoElement last (length (x ∷ xs))) (take-append-drop k (x ∷ xs)) unread) es)
      | inr enough ↦
          let rest : List ℕ = drop k (x ∷ xs) in
          let whole : x ∷ xs ≡ take k (x ∷ xs) ++ (take h.length (drop k (x ∷ xs)) ++ drop h.length (drop k (x ∷ xs))) =
          sym (take-append-drop k (x ∷ xs)) ∙ ap (λ z. take k (x ∷ xs) ++ z) (sym (take-append-drop h.length (drop k (x ∷ xs)))) in
          let size : length (take h.length (drop k (x ∷ xs))) ≡ h.length = omega (arith, enough, length-take h.length (drop k (x ∷ xs))) in
          let less : length (drop h.length (drop k (x ∷ xs))) ≤ fuel = omega (arith, few, long, length-drop h.length (drop k (x ∷ xs)), length-drop k (x ∷ xs)) in
          one_more last h (take k (x ∷ xs)) (take h.length (drop k (x ∷ xs))) (drop h.length (drop k (x ∷ xs))) (x ∷ xs) spells e size whole
          (later h.tag.1 (drop h.length (drop k (x ∷ xs))) (bytes_after h.length (drop k (x ∷ xs)) (bytes_after k (x ∷ xs) bytes)) less)
    ]

    by : (n : Need) → need Explicit (x ∷ xs) ≡ n → ((n : ℕ) (c : List ℕ) → IsBytes c → length c ≤ fuel → Decided n c) → Decided last (x ∷ xs)
    by More e later = none (unneeded (x ∷ xs) (λ k f. absurd (let both : More ≡ Size k = sym e ∙ f in cc)))
    by BadVr e later = none (unneeded (x ∷ xs) (λ k f. absurd (let both : BadVr ≡ Size k = sym e ∙ f in cc)))
    by (Size k) e later = elim (cases_lt (length (x ∷ xs)) k) [
      | inl more ↦ none (unneeded (x ∷ xs) (λ j f. let both : Size j ≡ Size k = sym f ∙ e in let same : j ≡ k = cc in omega (arith, same, more)))
      | inr within ↦
          let whole = whole_at Explicit (x ∷ xs) k e within in
          split k (header_at Explicit (x ∷ xs)) (front_spells Explicit (x ∷ xs) k bytes whole e) (need_bounds Explicit (x ∷ xs) k e).0 within later (is_next (header_at Explicit (x ∷ xs)) last) refl
    ]

-- the whole file

Verdict : List ℕ → Type 0
Verdict file = IsConsumed file ⊎ ((fault : MetaFault) × MetaFaultOf file fault)

bad : (file : List ℕ) → MetaFaultOf file BadMeta → Verdict file
unfolding Verdict
bad file fault = inr (BadMeta, fault)

consumed_text : (file : List ℕ) (said : MetaValues) → HasMeta said file → Verdict file
unfolding Verdict
consumed_text file said has = by (bytes_eq said.syntax (syntax_uid Implicit)) refl (bytes_eq said.syntax (syntax_uid Explicit)) refl
  where
    neither : bytes_eq said.syntax (syntax_uid Implicit) ≡ false → bytes_eq said.syntax (syntax_uid Explicit) ≡ false → (s : Syntax) → said.syntax ≢ syntax_uid s
    neither e f Implicit same = absurd (let both : false ≡ true = sym e ∙ (bytes_eq-Decides said.syntax (syntax_uid Implicit)).1 same in cc)
    neither e f Explicit same = absurd (let both : false ≡ true = sym f ∙ (bytes_eq-Decides said.syntax (syntax_uid Explicit)).1 same in cc)

    by : (a : Bool) → bytes_eq said.syntax (syntax_uid Implicit) ≡ a → (b : Bool) → bytes_eq said.syntax (syntax_uid Explicit) ≡ b → Verdict file
    by true e b f = inl (said, has, (Implicit, (bytes_eq-Decides said.syntax (syntax_uid Implicit)).0 e))
    by false e true f = inl (said, has, (Explicit, (bytes_eq-Decides said.syntax (syntax_uid Explicit)).0 f))
    by false e false f = inr (OtherSyntax, (said, has, neither e f))

-- the group was spelled
grouped : (n : ℕ) (found : Found) (back file : List ℕ) → Whole n found (Some file) (Some back) → (class instance syntax : Option (List ℕ)) → found.class ≡ class → found.instance ≡ instance → found.syntax ≡ syntax → Verdict file
grouped n found back file whole (Some class) (Some instance) (Some syntax) c i s =
    let said : MetaValues = record { class = class; instance = instance; syntax = syntax } in
    consumed_text file said (record { front = _; back = back; whole = whole.consumed; spelled = spells_whole n found (Some file) (Some back) whole said c i s })
grouped n found back file whole None instance syntax c i s = bad file (meta_refused n found (Some file) (Some back) whole (Err BadMeta) (λ all. absurd (let both = sym c ∙ all.3 in cc)))
grouped n found back file whole (Some class) None syntax c i s = bad file (meta_refused n found (Some file) (Some back) whole (Err BadMeta) (λ all. absurd (let both = sym i ∙ all.4 in cc)))
grouped n found back file whole (Some class) (Some instance) None c i s = bad file (meta_refused n found (Some file) (Some back) whole (Err BadMeta) (λ all. absurd (let both = sym s ∙ all.5 in cc)))

bytes_front : (n : ℕ) (b : List ℕ) → IsBytes b → IsBytes (take n b)
bytes_front n b bytes i = elim (cases_lt i (length (take n b))) [
  | inl lt ↦ subst (λ z. z < 256) (get_or_append_left (take n b) (drop n b) 0 i lt) (subst IsBytes (sym (take-append-drop n b)) bytes i)
  | inr ge ↦ rw (get_or_past (take n b) i 0 ge) (lit< tt)
]

front_of : List ℕ → ℕ → List ℕ
front_of preamble n = (preamble ++ codes "DICM") ++ length_element n

decided : (preamble rest : List ℕ) (n : ℕ) → length preamble ≡ 128 → n < 2 ^ 32 → length (take n rest) ≡ n → Decided 0 (take n rest) → Verdict (front_of preamble n ++ rest)
unfolding Decided Spelled front_of
decided preamble rest n size small count d = elim d [
  | inl found ↦
      let es : List MetaElement = found.0 in
      let held : Found = record { class = uid_at 0x0002 es; instance = uid_at 0x0003 es; syntax = uid_at 0x0010 es } in
      let text : List ℕ = (preamble ++ codes "DICM") ++ length_element n in
      let parts : ((preamble ++ codes "DICM") ++ length_element n) ++ rest ≡ (((preamble ++ codes "DICM") ++ length_element n) ++ take n rest) ++ drop n rest =
      ap (λ z. ((preamble ++ codes "DICM") ++ length_element n) ++ z) (sym (take-append-drop n rest)) ∙ sym (append_assoc ((preamble ++ codes "DICM") ++ length_element n) (take n rest) (drop n rest)) in
      let whole : Whole n (record { class = uid_at 0x0002 found.0; instance = uid_at 0x0003 found.0; syntax = uid_at 0x0010 found.0 }) (Some (((preamble ++ codes "DICM") ++ length_element n) ++ rest)) (Some (drop n rest)) = record {
        preamble = preamble;
        group = take n rest;
        elements = found.0;
        preamble_size = size;
        small = small;
        count = count;
        consumed = parts;
        spelled = found.1;
        is = record { class = refl; instance = refl; syntax = refl };
      } in
      grouped n _ (drop n rest) (((preamble ++ codes "DICM") ++ length_element n) ++ rest) whole (uid_at 0x0002 found.0) (uid_at 0x0003 found.0) (uid_at 0x0010 found.0) refl refl refl
  | inr none ↦ bad (((preamble ++ codes "DICM") ++ length_element n) ++ rest) (no_group_at preamble rest n size small (λ es group back same sized spelled.
      let same_group : take n rest ≡ group = (same_front (take n rest) group (drop n rest) back (count ∙ sym sized) (take-append-drop n rest ∙ same)).0 in
      none es (subst (λ z. MetaElements 0 es z) (sym same_group) spelled)))
]

after_size_of : (preamble rest : List ℕ) (n : ℕ) → length preamble ≡ 128 → n < 2 ^ 32 → IsBytes rest → Verdict (front_of preamble n ++ rest)
unfolding front_of
after_size_of preamble rest n size small bytes = elim (cases_lt (length rest) n) [
  | inl few ↦ bad (((preamble ++ codes "DICM") ++ length_element n) ++ rest) (no_group_at preamble rest n size small (λ es group back same count spelled.
      let all : length rest ≡ length group + length back = ap length same ∙ length-append group back in
      absurd (omega (arith, all, count, few))))
  | inr enough ↦
      let count : length (take n rest) ≡ n = omega (arith, enough, length-take n rest) in
      decided preamble rest n size small count (decide (length (take n rest)) 0 (take n rest) (bytes_front n rest bytes) (omega arith))
]

number_small : (b : List ℕ) → length b ≡ 4 → IsBytes b → little_number 4 b < 2 ^ 32
number_small (x0 ∷ x1 ∷ x2 ∷ x3 ∷ []) size bytes = omega (arith, bytes 0, bytes 1, bytes 2, bytes 3)
number_small _ size bytes = absurd (omega arith)

after_letters_of : (preamble rest : List ℕ) → length preamble ≡ 128 → IsBytes rest → Verdict ((preamble ++ codes "DICM") ++ rest)
unfolding front_of
after_letters_of preamble rest size bytes = elim (cases_lt (length rest) 12) [
  | inl few ↦ bad ((preamble ++ codes "DICM") ++ rest) (no_size preamble rest size (short_size rest few))
  | inr enough ↦ by (omega (arith, enough, length-take 12 rest)) (bytes_eq (take 8 (take 12 rest)) (2 ∷ 0 ∷ 0 ∷ 0 ∷ 85 ∷ 76 ∷ 4 ∷ 0 ∷ [])) refl
]
  where
    by : length (take 12 rest) ≡ 12 → (b : Bool) → bytes_eq (take 8 (take 12 rest)) (2 ∷ 0 ∷ 0 ∷ 0 ∷ 85 ∷ 76 ∷ 4 ∷ 0 ∷ []) ≡ b → Verdict ((preamble ++ codes "DICM") ++ rest)
    by twelve false e =
        let none : NoSize (take 12 rest ++ drop 12 rest) = other_size (take 12 rest) (drop 12 rest) twelve (sym e) in
        bad ((preamble ++ codes "DICM") ++ rest) (no_size preamble rest size (subst NoSize (take-append-drop 12 rest) none))
    by twelve true e =
        let four : length (drop 8 (take 12 rest)) ≡ 4 = omega (arith, twelve, length-drop 8 (take 12 rest)) in
        let number_bytes : IsBytes (drop 8 (take 12 rest)) = bytes_after 8 (take 12 rest) (bytes_front 12 rest bytes) in
        let n : ℕ = little_number 4 (drop 8 (take 12 rest)) in
        let number : le (little_number 4 (drop 8 (take 12 rest))) 4 ≡ drop 8 (take 12 rest) = number_back (drop 8 (take 12 rest)) (little_number 4 (drop 8 (take 12 rest))) four number_bytes refl in
        let element : length_element (little_number 4 (drop 8 (take 12 rest))) ≡ take 12 rest = size_is (take 12 rest) (little_number 4 (drop 8 (take 12 rest))) (sym e) number in
        let same : ((preamble ++ codes "DICM") ++ length_element (little_number 4 (drop 8 (take 12 rest)))) ++ drop 12 rest ≡ (preamble ++ codes "DICM") ++ rest =
        append_assoc (preamble ++ codes "DICM") (length_element (little_number 4 (drop 8 (take 12 rest)))) (drop 12 rest) ∙ ap (λ z. (preamble ++ codes "DICM") ++ z) (ap (λ z. z ++ drop 12 rest) element ∙ take-append-drop 12 rest) in
        subst Verdict same (after_size_of preamble (drop 12 rest) (little_number 4 (drop 8 (take 12 rest))) size (number_small (drop 8 (take 12 rest)) four number_bytes) (bytes_after 12 rest bytes))

some_letters : (file : List ℕ) → HasLetters file → IsBytes file → Verdict file
some_letters file has bytes =
    let long : 132 ≤ length file = elim (cases_lt (length file) 132) [
      | inl few ↦ absurd (short_file file few has)
      | inr enough ↦ enough
    ] in
    let after : drop 128 file ≡ codes "DICM" ++ drop 4 (drop 128 file) = sym (take-append-drop 4 (drop 128 file)) ∙ ap (λ z. z ++ drop 4 (drop 128 file)) has in
    let whole : (take 128 file ++ codes "DICM") ++ drop 4 (drop 128 file) ≡ file =
    append_assoc (take 128 file) (codes "DICM") (drop 4 (drop 128 file)) ∙ (ap (λ z. take 128 file ++ z) (sym after) ∙ take-append-drop 128 file) in
    subst Verdict whole (after_letters_of (take 128 file) (drop 4 (drop 128 file)) (omega (arith, long, length-take 128 file)) (bytes_after 4 (drop 128 file) (bytes_after 128 file bytes)))

pub consumed_or_faulty : ConsumedOrFaulty
unfolding Verdict
consumed_or_faulty file bytes = by (bytes_eq (take 4 (drop 128 file)) (codes "DICM")) refl
  where
    by : (b : Bool) → bytes_eq (take 4 (drop 128 file)) (codes "DICM") ≡ b → IsConsumed file ⊎ ((fault : MetaFault) × MetaFaultOf file fault)
    by true e = some_letters file ((bytes_eq-Decides (take 4 (drop 128 file)) (codes "DICM")).0 e) bytes
    by false e = inr (NotPart10, λ has. absurd (let both : false ≡ true = sym e ∙ (bytes_eq-Decides (take 4 (drop 128 file)) (codes "DICM")).1 has in cc))

-- one verdict

letters_of : (said : MetaValues) (file : List ℕ) → HasMeta said file → HasLetters file
letters_of said file has =
    let after : drop 128 file ≡ codes "DICM" ++ (length_element (length has.spelled.group) ++ (has.spelled.group ++ has.back)) =
    ap (drop 128) (parted said file has) ∙ drop_at has.spelled.preamble _ 128 has.spelled.preamble_size in
    ap (take 4) after

never_both : (file : List ℕ) (fault : MetaFault) → IsConsumed file → ¬ MetaFaultOf file fault
never_both file NotPart10 consumed fault = fault (letters_of consumed.0 file consumed.1)
never_both file BadMeta consumed fault = fault.1 consumed.0 consumed.1
never_both file OtherSyntax consumed fault =
    let same : consumed.0 ≡ fault.0 = (one_header file consumed.0 fault.0 consumed.1 fault.1).0 in
    fault.2 consumed.2.0 (ap (λ z. z.syntax) (sym same) ∙ consumed.2.1)
never_both file ReadFailed consumed fault = fault

one_fault : (file : List ℕ) (fault other : MetaFault) → MetaFaultOf file fault → MetaFaultOf file other → fault ≡ other
one_fault file NotPart10 NotPart10 a b = refl
one_fault file NotPart10 BadMeta a b = absurd (a b.0)
one_fault file NotPart10 OtherSyntax a b = absurd (a (letters_of b.0 file b.1))
one_fault file NotPart10 ReadFailed a b = absurd b
one_fault file BadMeta NotPart10 a b = absurd (b a.0)
one_fault file BadMeta BadMeta a b = refl
one_fault file BadMeta OtherSyntax a b = absurd (a.1 b.0 b.1)
one_fault file BadMeta ReadFailed a b = absurd b
one_fault file OtherSyntax NotPart10 a b = absurd (b (letters_of a.0 file a.1))
one_fault file OtherSyntax BadMeta a b = absurd (b.1 a.0 a.1)
one_fault file OtherSyntax OtherSyntax a b = refl
one_fault file OtherSyntax ReadFailed a b = absurd b
one_fault file ReadFailed other a b = absurd a

pub one_verdict : OneVerdict
one_verdict = (never_both, one_fault)
