-- Offsets that are distinct in two lists put together are so in each, and in one alone (`split_distinct`); tests of one offset
-- among some (`not_offset`, `same_one`, `same_out`). Stands on the definitions alone.
use Rattle.std.proofs.Common.{◌≡◌, ℕ, Bool, true, false, not, ◌||◌, List, [], ◌∷◌, ◌++◌, refl, sym, ◌∙◌, arith, eqb-true, nat_eq}
use Rattle.std.proofs.lemmas.Bool.{and_parts, and_from, or_parts, not-true}
use Rattle.std.proofs.lemmas.Bool.Decides.{nat_tests}
use Rattle.std.proofs.lemmas.List.Folds.{list_any-append}
use Rattle.dicomdir.specs.Linked.{is_distinct, is_one_of}

one_of_cons : (p x : ℕ) (xs ys : List ℕ) → is_one_of x ys ≡ false → (is_one_of p xs ≡ true → is_one_of p ys ≡ false) → is_one_of p (x ∷ xs) ≡ true → is_one_of p ys ≡ false
one_of_cons p x xs ys none rest h = grind (arith, nat_tests)

pub split_distinct : (xs ys : List ℕ) → is_distinct (xs ++ ys) ≡ true → (is_distinct xs ≡ true) × (is_distinct ys ≡ true) × ((p : ℕ) → is_one_of p xs ≡ true → is_one_of p ys ≡ false)
split_distinct [] ys e = (refl, e, λ p h. absurd cc)
split_distinct (x ∷ xs) ys e =
    let parts = and_parts (not (is_one_of x (xs ++ ys))) (is_distinct (xs ++ ys)) e in
    let none : (is_one_of x xs || is_one_of x ys) ≡ false = sym (list_any-append (nat_eq x) xs ys) ∙ not-true (is_one_of x (xs ++ ys)) parts.0 in
    let each = or_parts (is_one_of x xs) (is_one_of x ys) none in
    let rest = split_distinct xs ys parts.1 in
    let first : not (is_one_of x xs) ≡ true = rw each.0 refl in
    (and_from (not (is_one_of x xs)) (is_distinct xs) first rest.0, rest.1, λ p h. one_of_cons p x xs ys each.1 (rest.2 p) h)

pub same_offset : (x : ℕ) → nat_eq x x ≡ true
same_offset x = grind (arith, nat_tests)

pub not_offset : (p x : ℕ) (xs : List ℕ) → is_one_of x xs ≡ false → is_one_of p xs ≡ true → nat_eq p x ≡ false
not_offset p x xs none h = grind (arith, nat_tests)

pub clash : (b : Bool) → b ≡ true → b ≡ false → ⊥
clash v1 e f = grind (arith, nat_tests)

pub backwards : (a b : Bool) → (a ≡ true → b ≡ true) → b ≡ false → a ≡ false
backwards v1 b f e = grind (arith, nat_tests)

pub same_one : (x y : ℕ) (ps : List ℕ) → nat_eq x y ≡ true → is_one_of y ps ≡ true → is_one_of x ps ≡ true
same_one x y ps e h = let same : x ≡ y = eqb-true x y e in rw same h

pub same_out : (x y : ℕ) (ps : List ℕ) → nat_eq x y ≡ true → is_one_of y ps ≡ false → is_one_of x ps ≡ false
same_out x y ps e h = let same : x ≡ y = eqb-true x y e in rw same h

pub either_out : (a b c : Bool) → (a ≡ true → c ≡ false) → (b ≡ true → c ≡ false) → (a || b) ≡ true → c ≡ false
either_out v1 b c f g e = grind (arith, nat_tests)
