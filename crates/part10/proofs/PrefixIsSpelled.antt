-- 132 bytes are a prefix if they end in the letters (`letters`), else the file has none (`short_file`,
-- `other_letters`); the twelve bytes after it spell the length of the group (`size_is`), or nothing does
-- (`other_size`, `short_size`). Stands on the laws of `element`.
use Rattle.std.proofs.Common.{◌≡◌, ℕ, ◌+◌, ◌*◌, ◌<◌, true, false, List, [], ◌∷◌, ◌++◌, length, take, drop, sym, ap, ◌∙◌, arith, length-append, length-take, length-drop, take-append-drop, codes}
use Rattle.std.proofs.lemmas.List.{take_all, take-append-le, drop-append-le}
use Rattle.std.proofs.lemmas.Slice.Eq.{bytes_eq-Decides}
use Rattle.std.specs.Str.{bytes_eq}
use Rattle.byteorder.specs.Endian.{little_number}
use Rattle.element.specs.Vr.{is_short}
use Rattle.element.specs.Numbers.{le, IsBytes}
use Rattle.element.proofs.Public.{four_cells}
use Rattle.part10.specs.File.{length_element}
use Rattle.part10.specs.MetaText.{HasLetters}
use Rattle.part10.specs.machine.Reading.{IsPrefix, NoSize}

pub short_file : (file : List ℕ) → length file < 132 → ¬ HasLetters file
short_file file few has =
    let size : length (take 4 (drop 128 file)) ≡ 4 = ap length has in
    absurd (omega (arith, size, few, length-take 4 (drop 128 file), length-drop 128 file))

pub other_letters : (room rest : List ℕ) → length room ≡ 132 → false ≡ bytes_eq (take 4 (drop 128 room)) (codes "DICM") → ¬ HasLetters (room ++ rest)
other_letters room rest size other has =
    let after : drop 128 (room ++ rest) ≡ drop 128 room ++ rest = drop-append-le 128 room rest (omega (arith, size)) in
    let four : take 4 (drop 128 room ++ rest) ≡ take 4 (drop 128 room) = take-append-le 4 (drop 128 room) rest (omega (arith, size, length-drop 128 room)) in
    let same : take 4 (drop 128 room) ≡ codes "DICM" = sym four ∙ (ap (take 4) (sym after) ∙ has) in
    let is : bytes_eq (take 4 (drop 128 room)) (codes "DICM") ≡ true = (bytes_eq-Decides (take 4 (drop 128 room)) (codes "DICM")).1 same in
    absurd (let both : false ≡ true = other ∙ is in cc)

pub letters : (room : List ℕ) → length room ≡ 132 → true ≡ bytes_eq (take 4 (drop 128 room)) (codes "DICM") → IsPrefix room
letters room size is =
    let same : take 4 (drop 128 room) ≡ codes "DICM" = (bytes_eq-Decides (take 4 (drop 128 room)) (codes "DICM")).0 (sym is) in
    let all : drop 128 room ≡ codes "DICM" = sym (take_all 4 (drop 128 room) (omega (arith, size, length-drop 128 room))) ∙ same in
    (take 128 room, omega (arith, size, length-take 128 room), sym (take-append-drop 128 room) ∙ ap (λ z. take 128 room ++ z) all)

pub other_size : (room rest : List ℕ) → length room ≡ 12 → false ≡ bytes_eq (take 8 room) (2 ∷ 0 ∷ 0 ∷ 0 ∷ 85 ∷ 76 ∷ 4 ∷ 0 ∷ []) → NoSize (room ++ rest)
unfolding is_short
other_size room rest size other n back lt same =
    let front : take 8 (room ++ rest) ≡ take 8 room = take-append-le 8 room rest (omega (arith, size)) in
    let eight : take 8 room ≡ 2 ∷ 0 ∷ 0 ∷ 0 ∷ 85 ∷ 76 ∷ 4 ∷ 0 ∷ [] = sym front ∙ ap (take 8) same in
    let is : bytes_eq (take 8 room) (2 ∷ 0 ∷ 0 ∷ 0 ∷ 85 ∷ 76 ∷ 4 ∷ 0 ∷ []) ≡ true = (bytes_eq-Decides (take 8 room) (2 ∷ 0 ∷ 0 ∷ 0 ∷ 85 ∷ 76 ∷ 4 ∷ 0 ∷ [])).1 eight in
    absurd (let both : false ≡ true = other ∙ is in cc)

pub short_size : (rest : List ℕ) → length rest < 12 → NoSize rest
unfolding is_short
short_size rest few n back lt same =
    let size : length rest ≡ 12 + length back = ap length same ∙ length-append (length_element n) back in
    absurd (omega (arith, size, few))

pub number_back : (b : List ℕ) (n : ℕ) → length b ≡ 4 → IsBytes b → n ≡ little_number 4 b → le n 4 ≡ b
number_back (x0 ∷ x1 ∷ x2 ∷ x3 ∷ []) n size bytes e =
    let sum : n ≡ (x0 + 256 * x1) + 65536 * (x2 + 256 * x3) = omega (arith, e) in
    ap (λ z. le z 4) sum ∙ four_cells x0 x1 x2 x3 (bytes 0) (bytes 1) (bytes 2) (bytes 3)
number_back _ n size bytes e = absurd (omega arith)

pub size_is : (room : List ℕ) (n : ℕ) → true ≡ bytes_eq (take 8 room) (2 ∷ 0 ∷ 0 ∷ 0 ∷ 85 ∷ 76 ∷ 4 ∷ 0 ∷ []) → le n 4 ≡ drop 8 room → length_element n ≡ room
unfolding is_short
size_is room n is number =
    let same : take 8 room ≡ 2 ∷ 0 ∷ 0 ∷ 0 ∷ 85 ∷ 76 ∷ 4 ∷ 0 ∷ [] = (bytes_eq-Decides (take 8 room) (2 ∷ 0 ∷ 0 ∷ 0 ∷ 85 ∷ 76 ∷ 4 ∷ 0 ∷ [])).0 (sym is) in
    let front : 2 ∷ 0 ∷ 0 ∷ 0 ∷ 85 ∷ 76 ∷ 4 ∷ 0 ∷ le n 4 ≡ take 8 room ++ le n 4 = ap (λ z. z ++ le n 4) (sym same) in
    front ∙ (ap (λ z. take 8 room ++ z) number ∙ take-append-drop 8 room)
