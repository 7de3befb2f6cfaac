-- An element that is read is the one that its bytes spell (`element_consumes`), and the other way round
-- (`element_again`). Stands on the laws of `element`.
use Rattle.std.proofs.Common.{◌≡◌, ℕ, ◌+◌, ◌-◌, ◌*◌, ◌%◌, ◌^◌, ◌<◌, ◌≤◌, Bool, true, false, cond, ◌&&◌, leb, eqb, List, ◌∷◌, ◌++◌, length, take, drop, nat_le, nat_lt, Option, Some, None, refl, sym, ap, subst, ◌∙◌, arith, inl, inr, eq-eqb}
use Rattle.std.proofs.lemmas.Bool.Decides.{nat_tests}
use Rattle.std.proofs.lemmas.Bool.{cases_lt, leb-true, le-leb, eqb-true}
use Rattle.std.proofs.lemmas.List.{take_all, take_at, drop_at, take-append-drop, length-append, length-take, length-drop, get_or-drop, get_or-take, get_or_past}
use Rattle.byteorder.specs.Endian.{little_number}
use Rattle.byteorder.specs.Numbers.{little_number-reads_back}
use Rattle.element.specs.Numbers.{le, IsBytes}
use Rattle.element.specs.declared.syntax.Syntax.TheVariants.{Implicit}
use Rattle.element.specs.declared.header.Header.{Header}
use Rattle.element.specs.Header.{need, is_whole, header_at}
use Rattle.element.proofs.Public.{two_cells, four_cells}
use Rattle.dimse.specs.Command.{CommandElement, IsCommandElement, command_element_bytes}
use Rattle.dimse.specs.Reading.{is_element, element_at}

-- the header of eight bytes without a VR, and its parts

pub whole_plain : (b : List ℕ) → 8 ≤ length b → is_whole Implicit b ≡ true
unfolding is_whole need
whole_plain b long =
    let past_tag : nat_lt (length b) 4 ≡ false = grind (arith, nat_tests) in
    let eight : nat_le 8 (length b) ≡ true = le-leb 8 (length b) long in
    rw past_tag eight

pub plain_parts : (b : List ℕ) → 8 ≤ length b → ((header_at Implicit b).tag.0 ≡ little_number 2 b) × ((header_at Implicit b).tag.1 ≡ little_number 2 (drop 2 b)) × ((header_at Implicit b).length ≡ little_number 4 (drop 4 b))
unfolding header_at
plain_parts (b0 ∷ b1 ∷ b2 ∷ b3 ∷ b4 ∷ b5 ∷ b6 ∷ b7 ∷ rest) long = (omega arith, omega arith, omega arith)
plain_parts _ long = absurd (omega arith)

abbrev pub front : ℕ → ℕ → List ℕ → List ℕ
front number size rest = le 0 2 ++ (le number 2 ++ (le size 4 ++ rest))

pub bytes_front : (e : CommandElement) (rest : List ℕ) → command_element_bytes e ++ rest ≡ front e.number (length e.value) (e.value ++ rest)
unfolding command_element_bytes
bytes_front e rest = refl

all_hold : (a b c d : Bool) → a ≡ true → b ≡ true → c ≡ true → d ≡ true → (a && (b && (c && d))) ≡ true
all_hold a b c d p q r s = rw (p, q, r, s) refl

-- the parts of a header
number_front : (number size : ℕ) (rest : List ℕ) → number < 2 ^ 16 → little_number 2 (drop 2 (front number size rest)) ≡ number
number_front number size rest lt = little_number-reads_back 2 number (le size 4 ++ rest) lt

size_front : (number size : ℕ) (rest : List ℕ) → size < 2 ^ 32 → little_number 4 (drop 4 (front number size rest)) ≡ size
size_front number size rest lt = little_number-reads_back 4 size rest lt

read_front : (number size n k : ℕ) (value rest : List ℕ) → length value ≡ size → n ≡ number → k ≡ size
    → cond {A = Option (CommandElement × List ℕ)} true (Some (record { number = n; value = take k (value ++ rest) }, drop k (value ++ rest))) None ≡ Some (record { number = number; value = value }, rest)
read_front number size n k value rest len e f =
    rw (e, f, take_at value rest size len, drop_at value rest size len) refl

pub element_again : (e : CommandElement) (rest : List ℕ) → IsCommandElement e → element_at (command_element_bytes e ++ rest) ≡ Some (e, rest)
unfolding element_at
element_again e rest h =
    let size = length e.value in
    let b = front e.number size (e.value ++ rest) in
    let number-is : little_number 2 (drop 2 b) ≡ e.number = number_front e.number size (e.value ++ rest) h.in_group in
    let size-is : little_number 4 (drop 4 b) ≡ size = size_front e.number size (e.value ++ rest) h.fits in
    let long : leb 8 (length b) ≡ true = le-leb 8 (length b) (omega arith) in
    let even : eqb (little_number 4 (drop 4 b) % 2) 0 ≡ true = eq-eqb _ _ (ap (λ (n : ℕ). n % 2) size-is ∙ h.even) in
    let room : leb (little_number 4 (drop 4 b)) (length b - 8) ≡ true = le-leb _ _ (omega (arith, size-is, length-append e.value rest)) in
    let holds : is_element b ≡ true = all_hold _ _ _ _ long refl even room in
    ap element_at (bytes_front e rest) ∙ rw holds (read_front e.number size _ _ e.value rest refl number-is size-is)

-- the element whose header is read, with its value in what follows
pub element_read : (b : List ℕ) (h : Header) (value rest : List ℕ) → 8 ≤ length b → h ≡ header_at Implicit b → h.tag.0 ≡ 0 → h.length % 2 ≡ 0
    → h.length ≤ length (take (length b - 8) (drop 8 b)) → value ≡ take h.length (take (length b - 8) (drop 8 b)) → rest ≡ drop h.length (take (length b - 8) (drop 8 b))
    → Some (record { number = h.tag.1; value = value }, rest) ≡ element_at b
unfolding element_at
element_read b h value rest long e group even room v r =
    let parts = plain_parts b long in
    let after : take (length b - 8) (drop 8 b) ≡ drop 8 b = take_all (length b - 8) (drop 8 b) (omega (arith, length-drop 8 b)) in
    let number-is : h.tag.1 ≡ little_number 2 (drop 2 b) = ap (λ (x : Header). x.tag.1) e ∙ parts.1 in
    let size-is : h.length ≡ little_number 4 (drop 4 b) = ap (λ (x : Header). x.length) e ∙ parts.2 in
    let group-is : little_number 2 b ≡ 0 = sym (ap (λ (x : Header). x.tag.0) e ∙ parts.0) ∙ group in
    let least : little_number 4 (drop 4 b) ≤ length b - 8 = omega (arith, size-is, room, ap length after, length-drop 8 b) in
    let holds : is_element b ≡ true = all_hold _ _ _ _ (le-leb 8 (length b) long) (eq-eqb _ _ group-is) (eq-eqb _ _ (ap (λ (n : ℕ). n % 2) (sym size-is) ∙ even)) (le-leb _ _ least) in
    rw (v, r, after, number-is, size-is, holds) refl

-- ---- and back

low_two : (n x y : ℕ) (rest : List ℕ) → x < 256 → y < 256 → n ≡ x + 256 * y → le n 2 ++ rest ≡ x ∷ y ∷ rest
low_two n x y rest lx ly e = rw e (two_cells x y rest lx ly)

pub low_four : (n x y z w : ℕ) (rest : List ℕ) → x < 256 → y < 256 → z < 256 → w < 256 → n ≡ (x + 256 * y) + 65536 * (z + 256 * w) → le n 4 ++ rest ≡ x ∷ y ∷ z ∷ w ∷ rest
low_four n x y z w rest lx ly lz lw e = rw e (ap (λ (t : List ℕ). t ++ rest) (four_cells x y z w lx ly lz lw))

cells : (b : List ℕ) → IsBytes b → 8 ≤ length b → little_number 2 b ≡ 0 → b ≡ front (little_number 2 (drop 2 b)) (little_number 4 (drop 4 b)) (drop 8 b)
cells (b0 ∷ b1 ∷ b2 ∷ b3 ∷ b4 ∷ b5 ∷ b6 ∷ b7 ∷ rest) bytes long group =
    let b : List ℕ = b0 ∷ b1 ∷ b2 ∷ b3 ∷ b4 ∷ b5 ∷ b6 ∷ b7 ∷ rest in
    let zero0 : b0 ≡ 0 = omega arith in
    let zero1 : b1 ≡ 0 = omega arith in
    let size : le (little_number 4 (drop 4 b)) 4 ++ rest ≡ b4 ∷ b5 ∷ b6 ∷ b7 ∷ rest =
    low_four (little_number 4 (drop 4 b)) b4 b5 b6 b7 rest (bytes 4) (bytes 5) (bytes 6) (bytes 7) (omega arith) in
    let number : le (little_number 2 (drop 2 b)) 2 ++ (b4 ∷ b5 ∷ b6 ∷ b7 ∷ rest) ≡ b2 ∷ b3 ∷ b4 ∷ b5 ∷ b6 ∷ b7 ∷ rest =
    low_two (little_number 2 (drop 2 b)) b2 b3 (b4 ∷ b5 ∷ b6 ∷ b7 ∷ rest) (bytes 2) (bytes 3) (omega arith) in
    sym (ap (λ (t : List ℕ). 0 ∷ 0 ∷ (le (little_number 2 (drop 2 b)) 2 ++ t)) size ∙ ap (λ (t : List ℕ). 0 ∷ 0 ∷ t) number ∙ rw (zero0, zero1) refl)
cells _ bytes long group = absurd (omega arith)

pub four_below : (b : List ℕ) → IsBytes b → little_number 4 b < 2 ^ 32
four_below b bytes = omega (arith, bytes 0, bytes 1, bytes 2, bytes 3)

two_below : (b : List ℕ) → IsBytes b → little_number 2 b < 2 ^ 16
two_below b bytes = omega (arith, bytes 0, bytes 1)

bytes_drop : (n : ℕ) (b : List ℕ) → IsBytes b → IsBytes (drop n b)
bytes_drop n b bytes i = rw get_or-drop (bytes (n + i))

bytes_take : (n : ℕ) (b : List ℕ) → IsBytes b → IsBytes (take n b)
bytes_take n b bytes i =
    elim (cases_lt i n) [
      | inl lt ↦ rw (get_or-take n b i 0 lt) (bytes i)
      | inr le ↦ rw (get_or_past (take n b) i 0 (omega (arith, length-take n b))) (omega arith)
    ]

-- what a reader consumed from the front
pub record Accepts (b : List ℕ) (x : CommandElement × List ℕ) : Type 0 where
  pub parts : b ≡ command_element_bytes x.0 ++ x.1
  pub element : IsCommandElement x.0
  pub value : IsBytes x.0.value
  pub bytes : IsBytes x.1

first_of_all : (a b c d : Bool) → (a && (b && (c && d))) ≡ true → (a ≡ true) × (b ≡ true) × (c ≡ true) × (d ≡ true)
first_of_all true true true true h = (refl, refl, refl, refl)
first_of_all true true true false h = absurd cc
first_of_all true true false d h = absurd cc
first_of_all true false c d h = absurd cc
first_of_all false b c d h = absurd cc

chosen : (t : Bool) (y x : CommandElement × List ℕ) → cond t (Some y) None ≡ Some x → (t ≡ true) × (y ≡ x)
chosen true y x e = (refl, cc)
chosen false y x e = absurd cc

pub element_consumes : (b : List ℕ) (x : CommandElement × List ℕ) → IsBytes b → element_at b ≡ Some x → Accepts b x
unfolding element_at
element_consumes b x bytes e =
    let number = little_number 2 (drop 2 b) in
    let size = little_number 4 (drop 4 b) in
    let value = take size (drop 8 b) in
    let rest = drop size (drop 8 b) in
    let read : CommandElement × List ℕ = (record { number = number; value = value }, rest) in
    let c = chosen (is_element b) read x e in
    let tests = first_of_all (leb 8 (length b)) (eqb (little_number 2 b) 0) (eqb (size % 2) 0) (leb size (length b - 8)) c.0 in
    let long : 8 ≤ length b = leb-true _ _ tests.0 in
    let room : size ≤ length b - 8 = leb-true _ _ tests.3 in
    let even : size % 2 ≡ 0 = eqb-true _ _ tests.2 in
    let len : length value ≡ size = omega (arith, length-take size (drop 8 b), length-drop 8 b) in
    let whole : b ≡ front number size (drop 8 b) = cells b bytes long (eqb-true _ _ tests.1) in
    let parts : b ≡ command_element_bytes read.0 ++ rest =
    whole ∙ ap (λ (n : ℕ). front number n (drop 8 b)) (sym len) ∙ ap (front number (length value)) (sym (take-append-drop size (drop 8 b))) ∙ sym (bytes_front read.0 rest) in
    subst (Accepts b) c.1 (record {
      parts = parts;
      element = record { in_group = two_below (drop 2 b) (bytes_drop 2 b bytes); even = ap (λ (n : ℕ). n % 2) len ∙ even; fits = rw len (four_below (drop 4 b) (bytes_drop 4 b bytes)) };
      value = bytes_take size (drop 8 b) (bytes_drop 8 b bytes);
      bytes = bytes_drop size (drop 8 b) (bytes_drop 8 b bytes);
    })
