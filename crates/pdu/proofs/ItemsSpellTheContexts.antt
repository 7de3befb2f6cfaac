-- Items without a fault spell the contexts that are read of them (`texts_from`, `proposals_are`), those alone
-- (`texts_are`, `texts_fit`), with odd IDs that are distinct where theirs are (`ids_odd`, `distinct_from`). Stands on
-- FaultlessItemsFit and FaultlessPartsAreSpelled.
use Rattle.std.proofs.Common.{◌≡◌, ℕ, ◌≤◌, ◌<◌, ◌%◌, true, false, not, eqb, nat_eq, nat_le, List, [], ◌∷◌, length, map, drop, get_or, None, refl, sym, ap, subst, ◌∙◌, arith, inl, inr}
use Rattle.std.proofs.lemmas.Bool.{cases_Bool, eqb-true, eqb-false, ne_eqb, eq-eqb, and_from, and_parts, le-leb, leb-true, not-true, not_from_false}
use Rattle.std.proofs.lemmas.List.{length-map, length-drop}
use Rattle.std.specs.List.{AllByRecursion, IsDistinct}
use Rattle.element.specs.Numbers.{IsBytes}
use Rattle.pdu.specs.Record.{Proposal, ids}
use Rattle.pdu.specs.Pieces.{joined}
use Rattle.pdu.specs.Items.{items_of, remainder, is_kind, of_kind, first_or_none, identifier, syntaxes, parts, proposal_of, proposals}
use Rattle.pdu.specs.Request.{ContextText, ContextTexts, IsContextId}
use Rattle.pdu.specs.Refusal.{id_of, context_part_fault}
use Rattle.pdu.proofs.FaultlessPartsAreSpelled.{context_fine, fine_context, whole_is, empty_is, whole_joined, items_joined, one_from, one_length, one_first}
use Rattle.pdu.proofs.FaultlessItemsFit.{IsOther, Distinct, of_yes, of_no}

drop_four : (i : List ℕ) → 8 ≤ length i → drop 4 i ≡ get_or i 4 0 ∷ get_or i 5 0 ∷ get_or i 6 0 ∷ get_or i 7 0 ∷ drop 8 i
drop_four [] le = absurd (omega arith)
drop_four (a ∷ []) le = absurd (omega arith)
drop_four (a ∷ b ∷ []) le = absurd (omega arith)
drop_four (a ∷ b ∷ c ∷ []) le = absurd (omega arith)
drop_four (a ∷ b ∷ c ∷ d ∷ []) le = absurd (omega arith)
drop_four (a ∷ b ∷ c ∷ d ∷ e ∷ []) le = absurd (omega arith)
drop_four (a ∷ b ∷ c ∷ d ∷ e ∷ f ∷ []) le = absurd (omega arith)
drop_four (a ∷ b ∷ c ∷ d ∷ e ∷ f ∷ g ∷ []) le = absurd (omega arith)
drop_four (a ∷ b ∷ c ∷ d ∷ e ∷ f ∷ g ∷ h ∷ i) le = refl

-- ---- a context without a fault of its own spells its proposal

odd_from : (n : ℕ) → nat_eq (n % 2) 0 ≡ false → n % 2 ≡ 1
odd_from n e = let ne : n % 2 ≡ 0 → ⊥ = eqb-false (n % 2) 0 e in omega (arith, ne)

pub context_text : (i : List ℕ) → context_part_fault i ≡ None → ContextText (proposal_of i) i
context_text i none =
    let f = context_fine i none in
    let long : 8 ≤ length i = leb-true 8 (length i) (and_parts (is_kind 0x20 i) (nat_le 8 (length i)) f.context).1 in
    let w = whole_is (drop 8 i) (empty_is (remainder (drop 8 i)) f.whole) in
    let s = and_parts (nat_eq (length (of_kind 0x30 (parts i))) 1) (not (nat_eq (length (of_kind 0x40 (parts i))) 0)) f.syntaxes in
    let some : length (of_kind 0x40 (parts i)) ≡ 0 → ⊥ = eqb-false (length (of_kind 0x40 (parts i))) 0 (not-true (nat_eq (length (of_kind 0x40 (parts i))) 0) s.1) in
    record {
      a = get_or i 5 0;
      b = get_or i 6 0;
      c = get_or i 7 0;
      parts = parts i;
      whole = drop_four i long ∙ ap (λ (x : List ℕ). get_or i 4 0 ∷ get_or i 5 0 ∷ get_or i 6 0 ∷ get_or i 7 0 ∷ x) w.whole;
      each = w.each;
      abstract_one = one_from (λ t. (proposal_of i).abstract_syntax ≡ identifier t) (of_kind 0x30 (parts i)) (eqb-true (length (of_kind 0x30 (parts i))) 1 s.0) refl;
      transfer = refl;
      some = omega (arith, some, length-map (of_kind 0x40 (parts i)) identifier);
      odd = odd_from (id_of i) f.odd;
    }

-- ---- and a context that spells a proposal has none

record Spelled (p : Proposal) (i : List ℕ) (t : ContextText p i) : Type 0 where
  pub long : 8 ≤ length i
  pub id : id_of i ≡ p.id
  pub rest : drop 8 i ≡ joined t.parts
  pub parts_are : parts i ≡ t.parts

spelled : (p : Proposal) (i : List ℕ) (t : ContextText p i) → Spelled p i t
spelled p i t =
    let long : 8 ≤ length i = omega (arith, ap length t.whole, length-drop 4 i) in
    let e : get_or i 4 0 ∷ get_or i 5 0 ∷ get_or i 6 0 ∷ get_or i 7 0 ∷ drop 8 i ≡ p.id ∷ t.a ∷ t.b ∷ t.c ∷ joined t.parts = sym (drop_four i long) ∙ t.whole in
    let back : drop 8 i ≡ joined t.parts = cc in
    record { long = long; id = cc; rest = back; parts_are = ap items_of back ∙ items_joined t.parts t.each }

pub context_fits : (p : Proposal) (i : List ℕ) → is_kind 0x20 i ≡ true → ContextText p i → context_part_fault i ≡ None
context_fits p i kind_is t =
    let s = spelled p i t in
    let one : nat_eq (length (of_kind 0x30 (parts i))) 1 ≡ true =
    ap (λ (fs : List (List ℕ)). nat_eq (length (of_kind 0x30 fs)) 1) s.parts_are ∙ eq-eqb (length (of_kind 0x30 t.parts)) 1 (one_length (λ a. p.abstract_syntax ≡ identifier a) (of_kind 0x30 t.parts) t.abstract_one) in
    let many : 1 ≤ length (of_kind 0x40 t.parts) = omega (arith, t.some, ap length t.transfer, length-map (of_kind 0x40 t.parts) identifier) in
    let some : nat_eq (length (of_kind 0x40 (parts i))) 0 ≡ false =
    ap (λ (fs : List (List ℕ)). nat_eq (length (of_kind 0x40 fs)) 0) s.parts_are ∙ ne_eqb (length (of_kind 0x40 t.parts)) 0 (λ z. absurd (omega arith)) in
    let odd : id_of i % 2 ≡ 1 = ap (λ (n : ℕ). n % 2) s.id ∙ t.odd in
    fine_context i (record {
      context = and_from (is_kind 0x20 i) (nat_le 8 (length i)) kind_is (le-leb 8 (length i) s.long);
      whole = whole_joined (drop 8 i) t.parts s.rest t.each;
      syntaxes = and_from (nat_eq (length (of_kind 0x30 (parts i))) 1) (not (nat_eq (length (of_kind 0x40 (parts i))) 0)) one (not_from_false (nat_eq (length (of_kind 0x40 (parts i))) 0) some);
      odd = ne_eqb (id_of i % 2) 0 (λ z. absurd (omega arith));
    })

pub context_is : (p : Proposal) (i : List ℕ) → ContextText p i → proposal_of i ≡ p
context_is p i t =
    let s = spelled p i t in
    let a : identifier (first_or_none (of_kind 0x30 (parts i))) ≡ p.abstract_syntax =
    ap (λ (fs : List (List ℕ)). identifier (first_or_none (of_kind 0x30 fs))) s.parts_are ∙ sym (one_first (λ x. p.abstract_syntax ≡ identifier x) (of_kind 0x30 t.parts) t.abstract_one) in
    let b : syntaxes (parts i) ≡ p.transfer_syntaxes = ap syntaxes s.parts_are ∙ sym t.transfer in
    rw (s.id, a, b) refl

-- ---- lists of them

pub texts_from : (is : List (List ℕ)) → AllByRecursion (λ i. context_part_fault i ≡ None) is → ContextTexts (map proposal_of is) is
texts_from [] all = tt
texts_from (i ∷ is) all = (context_text i all.0, texts_from is all.1)

pub texts_are : (ps : List Proposal) (is : List (List ℕ)) → ContextTexts ps is → map proposal_of is ≡ ps
texts_are [] [] t = refl
texts_are [] (i ∷ is) t = absurd t
texts_are (p ∷ ps) [] t = absurd t
texts_are (p ∷ ps) (i ∷ is) t =
    let first = context_is p i t.0 in
    let rest = texts_are ps is t.1 in
    rw (first, rest) refl

pub texts_fit : (ps : List Proposal) (is : List (List ℕ)) → AllByRecursion (λ i. is_kind 0x20 i ≡ true) is → ContextTexts ps is → AllByRecursion (λ i. context_part_fault i ≡ None) is
texts_fit [] [] kinds t = tt
texts_fit [] (i ∷ is) kinds t = absurd t
texts_fit (p ∷ ps) [] kinds t = absurd t
texts_fit (p ∷ ps) (i ∷ is) kinds t = (context_fits p i kinds.0 t.0, texts_fit ps is kinds.1 t.1)

pub kinds_are : (k : ℕ) (items : List (List ℕ)) → AllByRecursion (λ i. is_kind k i ≡ true) (of_kind k items)
kinds_are k [] = tt
kinds_are k (i ∷ is) =
    elim (cases_Bool (is_kind k i)) [
      | inl e ↦ subst (AllByRecursion (λ j. is_kind k j ≡ true)) (sym (of_yes k i is e)) (e, kinds_are k is)
      | inr e ↦ subst (AllByRecursion (λ j. is_kind k j ≡ true)) (sym (of_no k i is e)) (kinds_are k is)
    ]

-- the contexts of a record are those of type 20H
pub proposals_are : (items : List (List ℕ)) → AllByRecursion (λ i. context_part_fault i ≡ None) (of_kind 0x20 items) → proposals items ≡ map proposal_of (of_kind 0x20 items)
proposals_are [] all = refl
proposals_are (i ∷ is) all =
    elim (cases_Bool (is_kind 0x20 i)) [
      | inl e ↦
          let here = subst (AllByRecursion (λ j. context_part_fault j ≡ None)) (of_yes 0x20 i is e) all in
          let c = (context_fine i here.0).context in
          rw (c, e) (ap (λ (ps : List Proposal). proposal_of i ∷ ps) (proposals_are is here.1))
      | inr e ↦
          let there = subst (AllByRecursion (λ j. context_part_fault j ≡ None)) (of_no 0x20 i is e) all in
          rw e (proposals_are is there)
    ]

-- ---- their IDs

new_from : (i : List ℕ) (is : List (List ℕ)) → AllByRecursion (IsOther i) is → AllByRecursion (λ n. eqb (id_of i) n ≡ false) (ids (map proposal_of is))
new_from i [] all = tt
new_from i (j ∷ is) all = (ne_eqb (id_of i) (id_of j) (λ e. all.0 (sym e)), new_from i is all.1)

pub distinct_from : (is : List (List ℕ)) → Distinct is → IsDistinct eqb (ids (map proposal_of is))
unfolding IsDistinct
distinct_from [] d = tt
distinct_from (i ∷ is) d = (new_from i is d.0, distinct_from is d.1)

others_from : (i : List ℕ) (is : List (List ℕ)) → AllByRecursion (λ n. eqb (id_of i) n ≡ false) (ids (map proposal_of is)) → AllByRecursion (IsOther i) is
others_from i [] all = tt
others_from i (j ∷ is) all = (λ e. eqb-false (id_of i) (id_of j) all.0 (sym e), others_from i is all.1)

pub distinct_back : (is : List (List ℕ)) → IsDistinct eqb (ids (map proposal_of is)) → Distinct is
unfolding IsDistinct
distinct_back [] d = tt
distinct_back (i ∷ is) d = (others_from i is d.0, distinct_back is d.1)

pub ids_odd : (ps : List Proposal) (is : List (List ℕ)) → AllByRecursion IsBytes is → ContextTexts ps is → AllByRecursion IsContextId (ids ps)
ids_odd [] [] all t = tt
ids_odd [] (i ∷ is) all t = absurd t
ids_odd (p ∷ ps) [] all t = absurd t
ids_odd (p ∷ ps) (i ∷ is) all t = ((t.0.odd, subst (λ n. n < 256) (spelled p i t.0).id (all.0 4)), ids_odd ps is all.1 t.1)
