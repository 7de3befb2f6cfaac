-- The command that is computed from the front of a text is the one that the whole text spells (`command_only`,
-- `command_found`), and its fault the first (`command_fault`); a text spells one (`one_command`). Stands on
-- BytesSpellTheElement, SetElementsAreFound and SetIsItsElements.
use Rattle.std.proofs.Common.{◌≡◌, ℕ, zero, suc, ◌^◌, ◌<◌, ◌≤◌, Bool, true, false, cond, ◌&&◌, ltb, eqb, List, [], ◌∷◌, ◌++◌, length, Option, Some, None, Result, Ok, Err, refl, sym, ap, subst, ◌∙◌, arith, inl, inr, eq-eqb}
use Rattle.std.specs.Prelude.{IfOk, IfErr}
use Rattle.std.proofs.lemmas.Bool.{eqb-true, lt-ltb, ltb-true}
use Rattle.std.proofs.lemmas.List.{length-append}
use Rattle.byteorder.specs.Endian.{little_number}
use Rattle.byteorder.specs.Numbers.{little_number-reads_back}
use Rattle.element.specs.Numbers.{le, IsBytes}
use Rattle.dimse.specs.declared.fault.DimseFault.{DimseFault}
use Rattle.dimse.specs.Command.{CommandElement, CommandRecord, AreRising, SpellsSet, command_element_bytes, command_elements_bytes, command_of, CommandText, CommandFault}
use Rattle.dimse.specs.Reading.{element_at, with_element, elements_in, elements_of, counts, set_of, command_in_set, command_in}
use Rattle.dimse.specs.Reply.{element}
use Rattle.dimse.proofs.SetIsItsElements.{element_length}
use Rattle.dimse.proofs.SetElementsAreFound.{guarded, element_none}
use Rattle.dimse.proofs.BytesSpellTheElement.{element_again, element_consumes, low_four, four_below}

-- ---- elements

next_again : (most last : ℕ) (b : List ℕ) (x : CommandElement × List ℕ) → element_at b ≡ Some x → last < x.0.number → elements_in (suc most) last b ≡ with_element x.0 (elements_in most x.0.number x.1)
unfolding elements_in
next_again most last [] x e lt = absurd (cc element_none)
next_again most last (c ∷ b) x e lt = rw (e, lt-ltb last x.0.number lt) refl

elements_again : (most last : ℕ) (es : List CommandElement) → AreRising last es → length (command_elements_bytes es) ≤ most → elements_in most last (command_elements_bytes es) ≡ Some es
unfolding elements_in
elements_again zero last [] rising le = refl
elements_again (suc most) last [] rising le = refl
elements_again zero last (e ∷ es) rising le = absurd (omega (arith, element_length e.number e.value, length-append (command_element_bytes e) (command_elements_bytes es)))
elements_again (suc most) last (e ∷ es) rising le =
    next_again most last (command_elements_bytes (e ∷ es)) (e, command_elements_bytes es) (element_again e (command_elements_bytes es) rising.0) rising.1
    ∙ ap (with_element e) (elements_again most e.number es rising.2 (omega (arith, le, element_length e.number e.value, length-append (command_element_bytes e) (command_elements_bytes es))))

abbrev IsSpelled : ℕ → List ℕ → List CommandElement → Type 0
IsSpelled last b es = AreRising last es × (b ≡ command_elements_bytes es)

nothing : (last : ℕ) (es : List CommandElement) → ◌≡◌ {A = Option (List CommandElement)} (Some []) (Some es) → IsSpelled last [] es
nothing last es e = let none : [] ≡ es = cc in subst (λ (x : List CommandElement). IsSpelled last [] x) none (tt, refl)

first_take : (most last : ℕ) (b : List ℕ) (es : List CommandElement) (o : Option (CommandElement × List ℕ))
    → ((last : ℕ) (b : List ℕ) (es : List CommandElement) → IsBytes b → elements_in most last b ≡ Some es → IsSpelled last b es)
    → IsBytes b → element_at b ≡ o → (elim o [ None ↦ None | Some x ↦ cond (ltb last x.0.number) (with_element x.0 (elements_in most x.0.number x.1)) None ]) ≡ Some es → IsSpelled last b es
first_take most last b es None again bytes e h = absurd cc
first_take most last b es (Some x) again bytes e h =
    let g = guarded (ltb last x.0.number) x.0 (elements_in most x.0.number x.1) es h in
    let t = element_consumes b x bytes e in
    let rest = again x.0.number x.1 g.1.0 t.bytes g.1.1.0 in
    subst (IsSpelled last b) (sym g.1.1.1)
    ((t.element, ltb-true _ _ g.0, rest.0), t.parts ∙ ap (λ (r : List ℕ). command_element_bytes x.0 ++ r) rest.1)

elements_take : (most last : ℕ) (b : List ℕ) (es : List CommandElement) → IsBytes b → elements_in most last b ≡ Some es → IsSpelled last b es
unfolding elements_in
elements_take zero last [] es bytes h = nothing last es h
elements_take zero last (c ∷ b) es bytes h = absurd cc
elements_take (suc most) last [] es bytes h = nothing last es h
elements_take (suc most) last (c ∷ b) es bytes h = first_take most last (c ∷ b) es (element_at (c ∷ b)) (elements_take most) bytes refl h

-- ---- command sets

both : (a b c : Bool) → (a && (b && c)) ≡ true → (a ≡ true) × (b ≡ true) × (c ≡ true)
both true true true h = (refl, refl, refl)
both true true false h = absurd cc
both true false c h = absurd cc
both false b c h = absurd cc

all_three : (a b c : Bool) → a ≡ true → b ≡ true → c ≡ true → (a && (b && c)) ≡ true
all_three a b c p q r = rw (p, q, r) refl

counter_is : (n : ℕ) → n < 2 ^ 32 → counts (element 0 (le n 4)) n ≡ true
counter_is n lt = all_three _ _ _ refl refl (eq-eqb _ _ (little_number-reads_back 4 n [] lt))

set_by : (text : List ℕ) (x : CommandElement × List ℕ) → element_at text ≡ Some x → counts x.0 (length x.1) ≡ true → set_of text ≡ elements_of x.1
unfolding set_of
set_by text x e h = rw (e, set_of, h) refl

pub set_again : (text : List ℕ) (es : List CommandElement) → SpellsSet text es → set_of text ≡ Some es
unfolding elements_of
set_again text es h =
    let rest = command_elements_bytes es in
    let first : CommandElement = element 0 (le (length rest) 4) in
    let read : element_at text ≡ Some (first, rest) =
    ap element_at h.whole ∙ element_again first rest (record { in_group = omega arith; even = refl; fits = omega arith }) in
    set_by text (first, rest) read (counter_is (length rest) h.counted) ∙ elements_again (length rest) 0 es h.rising (omega arith)

four_is : (value : List ℕ) (n : ℕ) → IsBytes value → length value ≡ 4 → little_number 4 value ≡ n → value ≡ le n 4
four_is (a ∷ b ∷ c ∷ d ∷ []) n bytes len e = sym (low_four n a b c d [] (bytes 0) (bytes 1) (bytes 2) (bytes 3) (omega arith))
four_is _ n bytes len e = absurd (omega arith)

chosen : (t : Bool) (o : Option (List CommandElement)) (es : List CommandElement) → cond t o None ≡ Some es → (t ≡ true) × (o ≡ Some es)
chosen true o es e = (refl, e)
chosen false o es e = absurd cc

element_is : (e : CommandElement) (number : ℕ) (value : List ℕ) → e.number ≡ number → e.value ≡ value → e ≡ element number value
element_is e number value p q = rw (← p, ← q) refl

set_first : (text : List ℕ) (es : List CommandElement) (o : Option (CommandElement × List ℕ)) → IsBytes text → element_at text ≡ o
    → (elim o [ None ↦ None | Some x ↦ cond (counts x.0 (length x.1)) (elements_of x.1) None ]) ≡ Some es → SpellsSet text es
unfolding elements_of
set_first text es None bytes e h = absurd cc
set_first text es (Some x) bytes e h =
    let c = chosen (counts x.0 (length x.1)) (elements_of x.1) es h in
    let tests = both (eqb x.0.number 0) (eqb (length x.0.value) 4) (eqb (little_number 4 x.0.value) (length x.1)) c.0 in
    let t = element_consumes text x bytes e in
    let count : little_number 4 x.0.value ≡ length x.1 = eqb-true _ _ tests.2 in
    let first : x.0 ≡ element 0 (le (length x.1) 4) = element_is x.0 0 (le (length x.1) 4) (eqb-true _ _ tests.0) (four_is x.0.value (length x.1) t.value (eqb-true _ _ tests.1) count) in
    let rest = elements_take (length x.1) 0 x.1 es t.bytes c.1 in
    let below : length x.1 < 2 ^ 32 = omega (arith, count, four_below x.0.value t.value) in
    record {
      rising = rest.0;
      counted = subst (λ (r : List ℕ). length r < 2 ^ 32) rest.1 below;
      whole = t.parts ∙ ap (λ (f : CommandElement). command_element_bytes f ++ x.1) first ∙ ap (λ (r : List ℕ). command_element_bytes (element 0 (le (length r) 4)) ++ r) rest.1;
    }

pub set_consumes : (text : List ℕ) (es : List CommandElement) → IsBytes text → set_of text ≡ Some es → SpellsSet text es
unfolding set_of
set_consumes text es bytes h = set_first text es (element_at text) bytes refl h

-- ---- commands

pub command_again : (text : List ℕ) (es : List CommandElement) → SpellsSet text es → command_in text ≡ command_of es
unfolding command_in
command_again text es h = ap command_in_set (set_again text es h)

-- a text that spells a command is read as it
pub command_only : (text : List ℕ) (command : CommandRecord) → CommandText command text → command_in text ≡ Ok command
command_only text command (es, spells, is) = command_again text es spells ∙ is

-- no text has two commands
pub one_command : (text : List ℕ) (a b : CommandRecord) → CommandText a text → CommandText b text → a ≡ b
one_command text a b p q =
    let same : ◌≡◌ {A = Result CommandRecord DimseFault} (Ok a) (Ok b) = sym (command_only text a p) ∙ command_only text b q in
    cc

found_by : (text : List ℕ) (command : CommandRecord) (o : Option (List CommandElement)) → IsBytes text → set_of text ≡ o → command_in_set o ≡ Ok command → CommandText command text
found_by text command None bytes e h = absurd cc
found_by text command (Some es) bytes e h = (es, set_consumes text es bytes e, h)

pub command_found : (text : List ℕ) (command : CommandRecord) → IsBytes text → command_in text ≡ Ok command → CommandText command text
unfolding command_in
command_found text command bytes h = found_by text command (set_of text) bytes refl h

no_set : (text : List ℕ) → set_of text ≡ None → (es : List CommandElement) → SpellsSet text es → ⊥
no_set text e es h = let same : Some es ≡ None = sym (set_again text es h) ∙ e in cc

fault_by : (text : List ℕ) (fault : DimseFault) (o : Option (List CommandElement)) → IsBytes text → set_of text ≡ o → command_in_set o ≡ Err fault → CommandFault fault text
fault_by text fault None bytes e h = inr (cc, λ x. no_set text e x.0 x.1)
fault_by text fault (Some es) bytes e h = inl (es, set_consumes text es bytes e, h)

pub command_fault : (text : List ℕ) (fault : DimseFault) → IsBytes text → command_in text ≡ Err fault → CommandFault fault text
unfolding command_in
command_fault text fault bytes h = fault_by text fault (set_of text) bytes refl h

pub ok_found : (r : Result CommandRecord DimseFault) (text : List ℕ) → IsBytes text → r ≡ command_in text → IfOk r (λ c. CommandText c text)
ok_found (Ok command) text bytes e = command_found text command bytes (sym e)
ok_found (Err fault) text bytes e = tt

pub err_fault : (r : Result CommandRecord DimseFault) (text : List ℕ) → IsBytes text → r ≡ command_in text → IfErr r (λ f. CommandFault f text)
err_fault (Ok command) text bytes e = tt
err_fault (Err fault) text bytes e = command_fault text fault bytes (sym e)
