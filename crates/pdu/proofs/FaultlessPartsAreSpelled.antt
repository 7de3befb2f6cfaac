-- User information and a proposed context without a fault of their own spell something (`information_text`,
-- `context_fine`), and those that spell something have none (`information_fits`, `fine_context`). Stands on
-- FirstItemIsUnique and PiecesAreUnique.
use Rattle.std.proofs.Common.{◌≡◌, ℕ, ◌%◌, true, false, nat_eq, List, [], ◌∷◌, ◌++◌, length, drop, Some, None, refl, sym, ap, ◌∙◌, arith, inl, inr}
use Rattle.std.proofs.lemmas.Bool.{cases_Bool, eqb-true, eq-eqb}
use Rattle.std.proofs.lemmas.List.{append-nil}
use Rattle.std.specs.List.{AllByRecursion}
use Rattle.element.specs.Padding.{is_empty}
use Rattle.pdu.specs.declared.fault.PduFault.TheVariants.{BadLength, BadItem, BadContextId}
use Rattle.pdu.specs.Pieces.{IsWholePiece, joined, pieces_of}
use Rattle.pdu.specs.Items.{item, items_of, remainder, of_kind, first_or_none, item_content, parts, is_context, four_or_none}
use Rattle.pdu.specs.Request.{One, MaximumText, InformationText}
use Rattle.pdu.specs.Refusal.{are_whole_items, is_maximum, information_part_fault, has_syntaxes, id_of, context_part_fault}
use Rattle.pdu.proofs.PiecesAreUnique.{pieces_unique, pieces_split}
use Rattle.pdu.proofs.FirstItemIsUnique.{item_reads}

-- ---- a text of whole items

pub items_joined : (fs : List (List ℕ)) → AllByRecursion (IsWholePiece item) fs → items_of (joined fs) ≡ fs
unfolding items_of
items_joined fs all = ap (λ (p : List (List ℕ) × List ℕ). p.0) (pieces_unique item item_reads (joined fs) fs [] (record { whole = sym (append-nil (joined fs)); each = all; partial = λ h. absurd (omega arith) }))

pub remaining_joined : (fs : List (List ℕ)) → AllByRecursion (IsWholePiece item) fs → remainder (joined fs) ≡ []
unfolding remainder
remaining_joined fs all = ap (λ (p : List (List ℕ) × List ℕ). p.1) (pieces_unique item item_reads (joined fs) fs [] (record { whole = sym (append-nil (joined fs)); each = all; partial = λ h. absurd (omega arith) }))

-- what a text is that has nothing remaining
pub record Whole (text : List ℕ) : Type 0 where
  pub whole : text ≡ joined (items_of text)
  pub each : AllByRecursion (IsWholePiece item) (items_of text)

pub whole_is : (text : List ℕ) → remainder text ≡ [] → Whole text
unfolding items_of remainder
whole_is text none =
    let h = pieces_split item item_reads text in
    record { whole = h.whole ∙ ap (λ (r : List ℕ). joined (pieces_of item text).0 ++ r) none ∙ append-nil (joined (pieces_of item text).0); each = h.each }

pub empty_is : (xs : List ℕ) → is_empty xs ≡ true → xs ≡ []
empty_is [] e = refl
empty_is (x ∷ xs) e = absurd cc

pub whole_joined : (text : List ℕ) (fs : List (List ℕ)) → text ≡ joined fs → AllByRecursion (IsWholePiece item) fs → are_whole_items text ≡ true
whole_joined text fs e all = ap is_empty (ap remainder e ∙ remaining_joined fs all)

-- ---- one of a list

pub one_from : (P : List ℕ → Type 0) (is : List (List ℕ)) → length is ≡ 1 → P (first_or_none is) → One P is
one_from P [] e p = absurd (omega arith)
one_from P (i ∷ []) e p = p
one_from P (i ∷ j ∷ is) e p = absurd (omega arith)

pub one_length : (P : List ℕ → Type 0) (is : List (List ℕ)) → One P is → length is ≡ 1
one_length P [] o = absurd o
one_length P (i ∷ []) o = refl
one_length P (i ∷ j ∷ is) o = absurd o

pub one_first : (P : List ℕ → Type 0) (is : List (List ℕ)) → One P is → P (first_or_none is)
one_first P [] o = absurd o
one_first P (i ∷ []) o = o
one_first P (i ∷ j ∷ is) o = absurd o

-- ---- user information

maximum_text : (ms : List (List ℕ)) → is_maximum ms ≡ true → MaximumText (four_or_none (item_content (first_or_none ms))) ms
maximum_text [] e = refl
maximum_text (m ∷ []) e = (eqb-true (length (item_content m)) 4 e, rw e refl)
maximum_text (m ∷ n ∷ ms) e = absurd cc

maximum_fits : (n : ℕ) (ms : List (List ℕ)) → MaximumText n ms → is_maximum ms ≡ true
maximum_fits n [] t = refl
maximum_fits n (m ∷ []) t = eq-eqb (length (item_content m)) 4 t.0
maximum_fits n (m ∷ k ∷ ms) t = absurd t

pub maximum_is : (n : ℕ) (ms : List (List ℕ)) → MaximumText n ms → n ≡ four_or_none (item_content (first_or_none ms))
maximum_is n [] t = t
maximum_is n (m ∷ []) t = t.1 ∙ rw (eq-eqb (length (item_content m)) 4 t.0) refl
maximum_is n (m ∷ k ∷ ms) t = absurd t

record InformationFine (text : List ℕ) : Type 0 where
  pub whole : are_whole_items text ≡ true
  pub maximum : is_maximum (of_kind 0x51 (items_of text)) ≡ true

information_fine : (text : List ℕ) → information_part_fault text ≡ None → InformationFine text
information_fine text e =
    elim (cases_Bool (are_whole_items text)) [
      | inr w ↦ let bad : Some BadLength ≡ None = rw w at e in absurd cc
      | inl w ↦ elim (cases_Bool (is_maximum (of_kind 0x51 (items_of text)))) [
        | inr m ↦ let bad : Some BadItem ≡ None = rw (w, m) at e in absurd cc
        | inl m ↦ record { whole = w; maximum = m }
      ]
    ]

pub information_text : (i : List ℕ) → information_part_fault (item_content i) ≡ None → InformationText (four_or_none (item_content (first_or_none (of_kind 0x51 (items_of (item_content i)))))) i
information_text i e =
    let f = information_fine (item_content i) e in
    let w = whole_is (item_content i) (empty_is (remainder (item_content i)) f.whole) in
    record { parts = items_of (item_content i); whole = w.whole; each = w.each; maximum_is = maximum_text (of_kind 0x51 (items_of (item_content i))) f.maximum }

parts_are : (text : List ℕ) (fs : List (List ℕ)) → text ≡ joined fs → AllByRecursion (IsWholePiece item) fs → items_of text ≡ fs
parts_are text fs e all = ap items_of e ∙ items_joined fs all

pub information_fits : (n : ℕ) (i : List ℕ) → InformationText n i → information_part_fault (item_content i) ≡ None
information_fits n i t =
    let w = whole_joined (item_content i) t.parts t.whole t.each in
    let m : is_maximum (of_kind 0x51 (items_of (item_content i))) ≡ true = ap (λ (fs : List (List ℕ)). is_maximum (of_kind 0x51 fs)) (parts_are (item_content i) t.parts t.whole t.each) ∙ maximum_fits n (of_kind 0x51 t.parts) t.maximum_is in
    rw (w, m) refl

pub information_is : (n : ℕ) (i : List ℕ) → InformationText n i → n ≡ four_or_none (item_content (first_or_none (of_kind 0x51 (items_of (item_content i)))))
information_is n i t = maximum_is n (of_kind 0x51 t.parts) t.maximum_is ∙ ap (λ (fs : List (List ℕ)). four_or_none (item_content (first_or_none (of_kind 0x51 fs)))) (sym (parts_are (item_content i) t.parts t.whole t.each))

-- ---- a proposed context

pub record ContextFine (i : List ℕ) : Type 0 where
  pub context : is_context i ≡ true
  pub whole : are_whole_items (drop 8 i) ≡ true
  pub syntaxes : has_syntaxes (parts i) ≡ true
  pub odd : nat_eq (id_of i % 2) 0 ≡ false

pub context_fine : (i : List ℕ) → context_part_fault i ≡ None → ContextFine i
context_fine i e =
    elim (cases_Bool (is_context i)) [
      | inr c ↦ let bad : Some BadLength ≡ None = rw c at e in absurd cc
      | inl c ↦ elim (cases_Bool (are_whole_items (drop 8 i))) [
        | inr w ↦ let bad : Some BadLength ≡ None = rw (c, w) at e in absurd cc
        | inl w ↦ elim (cases_Bool (has_syntaxes (parts i))) [
          | inr s ↦ let bad : Some BadItem ≡ None = rw (c, w, s) at e in absurd cc
          | inl s ↦ elim (cases_Bool (nat_eq (id_of i % 2) 0)) [
            | inl o ↦ let bad : Some BadContextId ≡ None = rw (c, w, s, o) at e in absurd cc
            | inr o ↦ record { context = c; whole = w; syntaxes = s; odd = o }
          ]
        ]
      ]
    ]

pub fine_context : (i : List ℕ) → ContextFine i → context_part_fault i ≡ None
fine_context i f = rw (f.context, f.whole, f.syntaxes, f.odd) refl
