-- A file ID is read from its end (`is_file_id_by_parts`), has 71 characters at most (`file_id_room`), and one that is padded
-- is read back (`file_id_back`). Stands on the definitions alone.
use Rattle.std.proofs.Common.{◌≡◌, ℕ, suc, ◌+◌, ◌*◌, ◌<◌, ◌≤◌, Bool, true, false, ◌&&◌, List, [], ◌∷◌, replicate, ◌-◌, length, get_or, take, drop, refl, sym, ap, ◌∙◌, add-one, drop-cons, arith, nat_eq, nat_le, not, ◌++◌, Some}
use Rattle.std.specs.List.{list_all}
use Rattle.std.proofs.lemmas.Bool.{not-true, and_parts, and_from}
use Rattle.std.proofs.lemmas.Bool.Decides.{nat_tests}
use Rattle.std.proofs.lemmas.List.{drop-replicate}
use Rattle.std.proofs.Math.Seq.{take-append_seam}
use Rattle.dicomdir.specs.FileId.{is_id_character, is_file_id_component, before_parts, parts_of, is_file_id, filled, file_id_of, IsKept}
use Rattle.std.proofs.lemmas.Grind.{common_steps}
use Rattle.element.specs.Padding.{is_space, kept_before, without_trailing, padded}

-- the first part, of which characters may still come in front
abbrev pub first_size : List (List ℕ) → ℕ
first_size [] = 0
first_size (part ∷ parts) = length part

-- whether its characters and the other parts are good
abbrev pub is_good : List (List ℕ) → Bool
is_good [] = true
is_good (part ∷ parts) = list_all is_file_id_component parts && list_all is_id_character part

abbrev pub is_size : ℕ → Bool
is_size n = nat_le 1 n && nat_le n 8

-- there is always a part

abbrev is_none : List (List ℕ) → Bool
is_none [] = true
is_none (part ∷ parts) = false

some_part : (xs : List ℕ) → is_none (parts_of xs) ≡ false
some_part [] = refl
some_part (x ∷ xs) = grind (arith, nat_tests)

moved : (a b c d : Bool) → (((a && b && c) && d) && true) ≡ ((d && c) && (a && b))
moved v1 v2 v3 v4 = grind (arith, nat_tests)

good_end : (parts : List (List ℕ)) → is_none parts ≡ false → is_good ([] ∷ parts) ≡ (is_good parts && is_size (first_size parts))
good_end v1 some = grind (arith, nat_tests, moved)

shifted : (a b c : Bool) → (a && (b && c)) ≡ ((a && c) && b)
shifted v1 b c = grind (arith, common_steps)

good_more : (c : ℕ) (parts : List (List ℕ)) → is_none parts ≡ false → is_good (before_parts c parts) ≡ (is_good parts && is_id_character c)
good_more c v2 some = grind (arith, nat_tests, shifted)

size_more : (c : ℕ) (parts : List (List ℕ)) → is_none parts ≡ false → first_size (before_parts c parts) ≡ first_size parts + 1
size_more c v2 some = grind (arith, nat_tests, add-one)

count_more : (c : ℕ) (parts : List (List ℕ)) → is_none parts ≡ false → length (before_parts c parts) ≡ length parts
count_more c v2 some = grind (arith, nat_tests)

-- the parts from one byte further in front

ends : (xs : List ℕ) (n : ℕ) → n < length xs → nat_eq (get_or xs n 0) 92 ≡ true → parts_of (drop n xs) ≡ [] ∷ parts_of (drop (n + 1) xs)
ends xs n lt e = rw (drop-cons xs n 0, e, add-one) refl

continues : (xs : List ℕ) (n : ℕ) → n < length xs → nat_eq (get_or xs n 0) 92 ≡ false → parts_of (drop n xs) ≡ before_parts (get_or xs n 0) (parts_of (drop (n + 1) xs))
continues xs n lt e = rw (drop-cons xs n 0, e, add-one) refl

pub good_before_end : (xs : List ℕ) (n : ℕ) → n < length xs → nat_eq (get_or xs n 0) 92 ≡ true
    → is_good (parts_of (drop n xs)) ≡ (is_good (parts_of (drop (n + 1) xs)) && is_size (first_size (parts_of (drop (n + 1) xs))))
good_before_end xs n lt e = ap is_good (ends xs n lt e) ∙ good_end (parts_of (drop (n + 1) xs)) (some_part (drop (n + 1) xs))

pub size_before_end : (xs : List ℕ) (n : ℕ) → n < length xs → nat_eq (get_or xs n 0) 92 ≡ true → first_size (parts_of (drop n xs)) ≡ 0
size_before_end xs n lt e = ap first_size (ends xs n lt e)

pub count_before_end : (xs : List ℕ) (n : ℕ) → n < length xs → nat_eq (get_or xs n 0) 92 ≡ true → length (parts_of (drop n xs)) ≡ length (parts_of (drop (n + 1) xs)) + 1
count_before_end xs n lt e = ap length (ends xs n lt e) ∙ sym (add-one (length (parts_of (drop (n + 1) xs))))

pub good_before : (xs : List ℕ) (n : ℕ) → n < length xs → nat_eq (get_or xs n 0) 92 ≡ false
    → is_good (parts_of (drop n xs)) ≡ (is_good (parts_of (drop (n + 1) xs)) && is_id_character (get_or xs n 0))
good_before xs n lt e = ap is_good (continues xs n lt e) ∙ good_more (get_or xs n 0) (parts_of (drop (n + 1) xs)) (some_part (drop (n + 1) xs))

pub size_before : (xs : List ℕ) (n : ℕ) → n < length xs → nat_eq (get_or xs n 0) 92 ≡ false → first_size (parts_of (drop n xs)) ≡ first_size (parts_of (drop (n + 1) xs)) + 1
size_before xs n lt e = ap first_size (continues xs n lt e) ∙ size_more (get_or xs n 0) (parts_of (drop (n + 1) xs)) (some_part (drop (n + 1) xs))

pub count_before : (xs : List ℕ) (n : ℕ) → n < length xs → nat_eq (get_or xs n 0) 92 ≡ false → length (parts_of (drop n xs)) ≡ length (parts_of (drop (n + 1) xs))
count_before xs n lt e = ap length (continues xs n lt e) ∙ count_more (get_or xs n 0) (parts_of (drop (n + 1) xs)) (some_part (drop (n + 1) xs))

gathered : (a b c d e : Bool) → (e && ((a && b && c) && d)) ≡ ((d && c) && ((a && b) && e))
gathered v1 b c d v5 = grind (arith, common_steps)

by_parts : (parts : List (List ℕ)) → is_none parts ≡ false → (nat_le (length parts) 8 && list_all is_file_id_component parts) ≡ (is_good parts && (is_size (first_size parts) && nat_le (length parts) 8))
by_parts v1 some = grind (arith, nat_tests, gathered)

pub is_file_id_by_parts : (xs : List ℕ) → is_file_id xs ≡ (is_good (parts_of xs) && (is_size (first_size (parts_of xs)) && nat_le (length (parts_of xs)) 8))
is_file_id_by_parts xs = by_parts (parts_of xs) (some_part xs)

refused_by_size : (xs : List ℕ) → is_size (first_size (parts_of xs)) ≡ false → is_file_id xs ≡ false
refused_by_size xs e = grind (arith, nat_tests, is_file_id_by_parts xs)

pub refused_at_front : (xs : List ℕ) (at size : ℕ) → at ≡ 0 → first_size (parts_of (drop at xs)) ≡ size → is_size size ≡ false → false ≡ is_file_id xs
refused_at_front xs at size z f e = sym (refused_by_size xs (ap is_size (ap (λ k. first_size (parts_of (drop k xs))) (sym z) ∙ f) ∙ e))

-- a component of eight characters and a backslash after each of eight of them, but for the last: 71 bytes

abbrev total : List (List ℕ) → ℕ
total [] = 0
total (part ∷ parts) = suc (length part + total parts)

total_is : (xs : List ℕ) → total (parts_of xs) ≡ suc (length xs)
total_is [] = refl
total_is (x ∷ xs) = grind (arith, nat_tests, total_is xs)

short : (n : ℕ) (b : Bool) → (nat_le 1 n && nat_le n 8 && b) ≡ true → n ≤ 8
short n b e = grind (arith, nat_tests, e)

total_most : (parts : List (List ℕ)) → list_all is_file_id_component parts ≡ true → total parts ≤ 9 * length parts
total_most [] e = omega (arith)
total_most (part ∷ parts) e =
    let both = and_parts (is_file_id_component part) (list_all is_file_id_component parts) e in
    grind (arith, common_steps, and_parts (is_file_id_component part) (list_all is_file_id_component parts) e, short (length part) (list_all is_id_character part) both.0, total_most parts both.1)

pub file_id_room : (xs : List ℕ) → is_file_id xs ≡ true → length xs ≤ 71
file_id_room xs e =
    let both = and_parts (nat_le (length (parts_of xs)) 8) (list_all is_file_id_component (parts_of xs)) e in
    grind (arith, common_steps, and_parts (nat_le (length (parts_of xs)) 8) (list_all is_file_id_component (parts_of xs)) e, total_most (parts_of xs) both.1, total_is xs)

pub zeros_after : (n : ℕ) → drop n (replicate {A = ℕ} 71 0) ≡ replicate {A = ℕ} (71 - n) 0
zeros_after n = drop-replicate {X = ℕ} n 71 0

pub kept_filled : (text : List ℕ) → is_file_id text ≡ true → IsKept (filled text) (length text)
kept_filled text e = grind (arith, common_steps, take-append_seam text (replicate (71 - length text) 0))

pub shown_filled : (text : List ℕ) → take (length text) (filled text) ≡ text
shown_filled text = take-append_seam text (replicate (71 - length text) 0)

-- ---- a file ID that is padded by a space is read back

abbrev no_space : ℕ → Bool
no_space c = not (is_space c)

abbrev are_characters : List (List ℕ) → Bool
are_characters parts = list_all (list_all is_id_character) parts

no_spaces : (text : List ℕ) → are_characters (parts_of text) ≡ true → list_all no_space text ≡ true
no_spaces [] e = refl
no_spaces (c ∷ text) e = grind (arith, nat_tests, no_spaces text)

components_are : (parts : List (List ℕ)) → list_all is_file_id_component parts ≡ true → are_characters parts ≡ true
components_are [] e = refl
components_are (part ∷ parts) e =
    let two = and_parts (is_file_id_component part) (list_all is_file_id_component parts) e in
    let chars = and_parts _ (list_all is_id_character part) two.0 in
    and_from (list_all is_id_character part) (are_characters parts) chars.1 (components_are parts two.1)

keeps : (c : ℕ) (rest : List ℕ) → no_space c ≡ true → kept_before is_space c rest ≡ c ∷ rest
keeps c rest e = grind (arith, nat_tests, not-true (is_space c) e)

trimmed : (text : List ℕ) → list_all no_space text ≡ true → without_trailing is_space text ≡ text
trimmed [] e = refl
trimmed (c ∷ text) e =
    let two = and_parts (no_space c) (list_all no_space text) e in
    ap (kept_before is_space c) (trimmed text two.1) ∙ keeps c text two.0

trimmed_space : (text : List ℕ) → list_all no_space text ≡ true → without_trailing is_space (text ++ 32 ∷ []) ≡ text
trimmed_space [] e = refl
trimmed_space (c ∷ text) e =
    let two = and_parts (no_space c) (list_all no_space text) e in
    ap (kept_before is_space c) (trimmed_space text two.1) ∙ keeps c text two.0

pub file_id_back : (text : List ℕ) → is_file_id text ≡ true → file_id_of (padded 32 text) ≡ Some text
file_id_back text e =
    let parts = and_parts (nat_le (length (parts_of text)) 8) (list_all is_file_id_component (parts_of text)) e in
    let clean = no_spaces text (components_are (parts_of text) parts.1) in
    grind (arith, common_steps, and_parts (nat_le (length (parts_of text)) 8) (list_all is_file_id_component (parts_of text)) e, no_spaces text (components_are (parts_of text) parts.1), components_are (parts_of text) parts.1, trimmed text clean, trimmed_space text clean)
