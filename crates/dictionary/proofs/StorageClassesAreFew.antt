-- The storage classes are 177 (`length-storage_classes`); a row of a table that stands in parts is a row of its part
-- (`row_of_part`) or of the parts after it (`past_part`). Stands on the definitions alone.
use Rattle.std.proofs.Common.{◌≡◌, ℕ, zero, suc, ◌+◌, ◌-◌, ◌<◌, ◌≤◌, List, [], ◌∷◌, ◌++◌, Some, map, length, drop, slice_get, slice_index_or, refl, ap, sym, ◌∙◌, subst, arith}
use Rattle.std.specs.List.{flat_map}
use Rattle.dictionary.specs.StorageClasses.{storage_classes, part_0, part_1, part_2, part_3, part_4, part_5, part_6, part_7, part_8, part_9, part_10, part_11, part_12}

in_first : {A : Type 0} (xs ys : List A) (n : ℕ) → n < length xs → slice_get (xs ++ ys) n ≡ slice_get xs n
in_first [] ys n h = absurd (omega (arith, h))
in_first (x ∷ xs) ys zero h = refl
in_first (x ∷ xs) ys (suc n) h = in_first xs ys n (omega (arith, h))

in_second : {A : Type 0} (xs ys : List A) (n : ℕ) → length xs ≤ n → slice_get (xs ++ ys) n ≡ slice_get ys (n - length xs)
in_second [] ys n h = ap (slice_get ys) (omega arith)
in_second (x ∷ xs) ys zero h = absurd (omega (arith, h))
in_second (x ∷ xs) ys (suc n) h = in_second xs ys n (omega (arith, h)) ∙ ap (slice_get ys) (omega arith)

pub row_of_part : {X A B : Type 0} (rows : X → List A) (f : A → B) (xs : List X) (i n : ℕ) (e : X) (d : A) → i < length xs → n < length (rows (slice_index_or xs i e)) →
    slice_get (flat_map (λ x. map f (rows x)) (drop i xs)) n ≡ Some (f (slice_index_or (rows (slice_index_or xs i e)) n d))
row_of_part rows f [] i n e d h k = absurd (omega (arith, h))
row_of_part {X} {A} {B} rows f (x ∷ xs) zero n e d h k = in_first (map f (rows x)) (flat_map (λ y. map f (rows y)) xs) n (mapped (rows x) k) ∙ is (rows x) n k where
  mapped : (ws : List A) → n < length ws → n < length (map f ws)
  mapped ws h = subst (λ m. n < m) (sym (same ws)) h where
    same : (ws : List A) → length (map f ws) ≡ length ws
    same [] = refl
    same (a ∷ ws) = ap suc (same ws)

  is : (ws : List A) (m : ℕ) → m < length ws → slice_get (map f ws) m ≡ Some (f (slice_index_or ws m d))
  is [] m h = absurd (omega (arith, h))
  is (a ∷ ws) zero h = refl
  is (a ∷ ws) (suc m) h = is ws m (omega (arith, h))
row_of_part rows f (x ∷ xs) (suc i) n e d h k = row_of_part rows f xs i n e d (omega (arith, h)) k

past : {X A B : Type 0} (rows : X → List A) (f : A → B) (xs : List X) (i n : ℕ) (e : X) → i < length xs → length (rows (slice_index_or xs i e)) ≤ n →
    slice_get (flat_map (λ x. map f (rows x)) (drop i xs)) n ≡ slice_get (flat_map (λ x. map f (rows x)) (drop (suc i) xs)) (n - length (rows (slice_index_or xs i e)))
past rows f [] i n e h k = absurd (omega (arith, h))
past {X} {A} {B} rows f (x ∷ xs) zero n e h k =
    in_second (map f (rows x)) (flat_map (λ y. map f (rows y)) xs) n (subst (λ m. m ≤ n) (sym (same (rows x))) k)
    ∙ ap (λ m. slice_get (flat_map (λ y. map f (rows y)) xs) (n - m)) (same (rows x)) where
      same : (ws : List A) → length (map f ws) ≡ length ws
      same [] = refl
      same (a ∷ ws) = ap suc (same ws)
past rows f (x ∷ xs) (suc i) n e h k = past rows f xs i n e (omega (arith, h)) k

pub past_part : {X A B : Type 0} (rows : X → List A) (f : A → B) (xs : List X) (i n : ℕ) (e : X) → i < length xs → length (rows (slice_index_or xs i e)) ≤ n →
    slice_get (flat_map (λ x. map f (rows x)) (drop i xs)) n ≡ slice_get (flat_map (λ x. map f (rows x)) (drop (i + 1) xs)) (n - length (rows (slice_index_or xs i e)))
past_part rows f xs i n e h k =
    let next : suc i ≡ i + 1 = omega arith in
    past rows f xs i n e h k ∙ ap (λ j. slice_get (flat_map (λ x. map f (rows x)) (drop j xs)) (n - length (rows (slice_index_or xs i e)))) next

pub length-storage_classes : length storage_classes ≡ 177
unfolding part_0 part_1 part_2 part_3 part_4 part_5 part_6 part_7 part_8 part_9 part_10 part_11 part_12
length-storage_classes = refl
