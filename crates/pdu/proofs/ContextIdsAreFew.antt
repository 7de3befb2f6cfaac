-- Distinct presentation context IDs are 128 at most (`few_ids`), so a request has no more contexts (`kept_few`).
-- Stands on FaultlessItemsFit.
use Rattle.std.proofs.Common.{◌≡◌, ℕ, zero, suc, ◌<◌, ◌≤◌, ◌/◌, true, false, eqb, List, [], ◌∷◌, ◌++◌, length, map, drop, sym, ap, subst, arith, inl, inr}
use Rattle.std.proofs.lemmas.Bool.{cases_Bool, eqb-true, eqb-false, ne_eqb}
use Rattle.std.proofs.lemmas.List.{length-map}
use Rattle.std.proofs.lemmas.Map.Steps.{length-le_from_distinct_below}
use Rattle.std.specs.List.{AllByRecursion, IsDistinct, list_any}
use Rattle.element.specs.Numbers.{IsBytes}
use Rattle.pdu.specs.Record.{RequestRecord, ids}
use Rattle.pdu.specs.Pieces.{joined}
use Rattle.pdu.specs.Items.{is_kind, of_kind}
use Rattle.pdu.specs.Request.{IsContextId, IsRequest}
use Rattle.pdu.proofs.FaultlessItemsFit.{of_yes, of_no}

-- ---- parts of bytes are bytes

pub bytes_past : (n : ℕ) (xs : List ℕ) → IsBytes xs → IsBytes (drop n xs)
bytes_past zero xs b = b
bytes_past (suc n) [] b = b
bytes_past (suc n) (x ∷ xs) b = bytes_past n xs (λ i. b (suc i))

bytes_front : (xs ys : List ℕ) → IsBytes (xs ++ ys) → IsBytes xs
bytes_front [] ys b i = omega arith
bytes_front (x ∷ xs) ys b zero = b zero
bytes_front (x ∷ xs) ys b (suc i) = bytes_front xs ys (λ j. b (suc j)) i

bytes_back : (xs ys : List ℕ) → IsBytes (xs ++ ys) → IsBytes ys
bytes_back [] ys b i = b i
bytes_back (x ∷ xs) ys b i = bytes_back xs ys (λ j. b (suc j)) i

pub bytes_each : (is : List (List ℕ)) → IsBytes (joined is) → AllByRecursion IsBytes is
bytes_each [] b = tt
bytes_each (i ∷ is) b = (bytes_front i (joined is) b, bytes_each is (bytes_back i (joined is) b))

pub bytes_kind : (k : ℕ) (is : List (List ℕ)) → AllByRecursion IsBytes is → AllByRecursion IsBytes (of_kind k is)
bytes_kind k [] all = tt
bytes_kind k (i ∷ is) all =
    elim (cases_Bool (is_kind k i)) [
      | inl e ↦ subst (AllByRecursion IsBytes) (sym (of_yes k i is e)) (all.0, bytes_kind k is all.1)
      | inr e ↦ subst (AllByRecursion IsBytes) (sym (of_no k i is e)) (bytes_kind k is all.1)
    ]

-- ---- distinct odd numbers of one byte have distinct halves below 128

abbrev half : ℕ → ℕ
half n = n / 2

half_apart : (a b : ℕ) → IsContextId a → IsContextId b → eqb a b ≡ false → eqb (half a) (half b) ≡ false
half_apart a b odd_a odd_b ne =
    let apart : a ≡ b → ⊥ = eqb-false a b ne in
    ne_eqb (half a) (half b) (λ e. apart (omega (arith, odd_a.0, odd_b.0)))

halves_apart : (a : ℕ) (ns : List ℕ) → IsContextId a → AllByRecursion IsContextId ns → AllByRecursion (λ n. eqb a n ≡ false) ns → AllByRecursion (λ n. eqb (half a) n ≡ false) (map half ns)
halves_apart a [] odd all apart = tt
halves_apart a (n ∷ ns) odd all apart = (half_apart a n odd all.0 apart.0, halves_apart a ns odd all.1 apart.1)

halves_distinct : (ns : List ℕ) → AllByRecursion IsContextId ns → IsDistinct eqb ns → IsDistinct eqb (map half ns)
unfolding IsDistinct
halves_distinct [] all d = tt
halves_distinct (n ∷ ns) all d = (halves_apart n ns all.0 all.1 d.0, halves_distinct ns all.1 d.1)

halves_below : (ns : List ℕ) → AllByRecursion IsContextId ns → (q : ℕ) → list_any (eqb q) (map half ns) ≡ true → q < 128
halves_below [] all q held = absurd cc
halves_below (n ∷ ns) all q held =
    elim (cases_Bool (eqb q (half n))) [
      | inl e ↦ omega (arith, eqb-true q (half n) e, all.0.1)
      | inr e ↦ halves_below ns all.1 q (rw e at held)
    ]

-- so there are at most 128 of them
pub few_ids : (ns : List ℕ) → AllByRecursion IsContextId ns → IsDistinct eqb ns → length ns ≤ 128
few_ids ns all d =
    omega (arith, length-map ns half, length-le_from_distinct_below (map half ns) 128 (halves_distinct ns all d) (halves_below ns all))

pub kept_few : (r s : RequestRecord) → r ≡ s → IsRequest r → length s.contexts ≤ 128
kept_few r s e k =
    let few = few_ids (ids r.contexts) k.ids_odd k.ids_distinct in
    omega (arith, few, length-map r.contexts (λ p. p.id), ap (λ (q : RequestRecord). length q.contexts) e)
