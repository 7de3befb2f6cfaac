-- A text begins with one whole item (`begins_with`, `begins_cut`), or with none (`begins_short`, `begins_started`).
-- Stands on PiecesAreUnique.
use Rattle.std.proofs.Common.{◌≡◌, ℕ, ◌+◌, ◌<◌, ◌≤◌, List, [], ◌∷◌, ◌++◌, length, take, drop, refl, sym, ap, subst, arith}
use Rattle.std.proofs.lemmas.List.{length-append, take-append-drop}
use Rattle.std.specs.List.{AllByRecursion}
use Rattle.byteorder.specs.Endian.{big_number}
use Rattle.pdu.specs.Pieces.{IsWholePiece, joined, pieces_of}
use Rattle.pdu.specs.Items.{item, items_of, remainder, Begins, BeginsNone}
use Rattle.pdu.proofs.PiecesAreUnique.{Reads, pieces_none, pieces_next, cut_whole, whole_length, pieces_split}

same_said : (t u : List ℕ) → 4 ≤ length t → big_number 2 (drop 2 (t ++ u)) ≡ big_number 2 (drop 2 t)
same_said [] u h = absurd (omega arith)
same_said (a ∷ []) u h = absurd (omega arith)
same_said (a ∷ b ∷ []) u h = absurd (omega arith)
same_said (a ∷ b ∷ c ∷ []) u h = absurd (omega arith)
same_said (a ∷ b ∷ c ∷ d ∷ t) u h = refl

pub item_reads : Reads item
item_reads = record { some = omega arith; same = same_said }

pub begins_short : (b : List ℕ) → length b < 4 → BeginsNone b
unfolding items_of remainder
begins_short b h =
    let e = pieces_none item item_reads b (λ le. absurd (omega arith)) in
    record { items = ap (λ (p : List (List ℕ) × List ℕ). p.0) e; rest = ap (λ (p : List (List ℕ) × List ℕ). p.1) e }

pub begins_started : (b : List ℕ) → length b < 4 + big_number 2 (drop 2 b) → BeginsNone b
unfolding items_of remainder
begins_started b h =
    let e = pieces_none item item_reads b (λ _. h) in
    record { items = ap (λ (p : List (List ℕ) × List ℕ). p.0) e; rest = ap (λ (p : List (List ℕ) × List ℕ). p.1) e }

pub begins_with : (f t : List ℕ) → IsWholePiece item f → Begins (f ++ t) f t
unfolding items_of remainder
begins_with f t w =
    let e = pieces_next item item_reads f t w in
    record {
      items = ap (λ (p : List (List ℕ) × List ℕ). p.0) e;
      rest = ap (λ (p : List (List ℕ) × List ℕ). p.1) e;
      shorter = omega (arith, whole_length item item_reads f w, length-append f t);
    }

pub begins_cut : (b : List ℕ) (n : ℕ) → n ≡ 4 + big_number 2 (drop 2 b) → n ≤ length b → Begins b (take n b) (drop n b)
begins_cut b n e le =
    let whole : IsWholePiece item (take (4 + big_number 2 (drop 2 b)) b) = cut_whole item item_reads b (omega arith) (omega arith) in
    let at : IsWholePiece item (take n b) = subst (λ (k : ℕ). IsWholePiece item (take k b)) (sym e) whole in
    subst (λ (x : List ℕ). Begins x (take n b) (drop n b)) (take-append-drop n b) (begins_with (take n b) (drop n b) at)

-- ---- no text has more items than bytes

few : (fs : List (List ℕ)) → AllByRecursion (IsWholePiece item) fs → length fs ≤ length (joined fs)
few [] all = omega arith
few (f ∷ fs) all = omega (arith, whole_length item item_reads f all.0, few fs all.1, length-append f (joined fs))

pub items_few : (b : List ℕ) → length (items_of b) ≤ length b
unfolding items_of
items_few b =
    let h = pieces_split item item_reads b in
    omega (arith, few (pieces_of item b).0 h.each, ap length h.whole, length-append (joined (pieces_of item b).0) (pieces_of item b).1)
