-- Each text has one list of whole pieces and one rest (`pieces_split`, `pieces_unique`), and more of it continues from
-- the rest (`splits_more`). Stands on the definitions alone.
use Rattle.std.proofs.Common.{◌⊎◌, ◌≡◌, ℕ, zero, suc, ◌+◌, ◌<◌, ◌≤◌, List, [], ◌∷◌, ◌++◌, length, take, drop, Some, None, refl, sym, ap, subst, ◌∙◌, append_assoc, arith, inl, inr}
use Rattle.std.proofs.lemmas.Bool.{cases_lt, lt-ltb, le-ltb}
use Rattle.std.proofs.lemmas.List.{take_at, drop_at, take-append-drop, take-append-le, length-append, length-take, append-nil}
use Rattle.std.proofs.lemmas.List.Concat.{flat_map-append}
use Rattle.std.specs.List.{AllByRecursion}
use Rattle.pdu.specs.Pieces.{PieceLayout, IsWholePiece, IsPartial, joined, Splits, first_piece, with_first, pieces_in, pieces_of}

-- a head is not empty, and what it says stands in it
pub record Reads (l : PieceLayout) : Type 0 where
  pub some : 1 ≤ l.head
  pub same : (t u : List ℕ) → l.head ≤ length t → l.body (t ++ u) ≡ l.body t

-- ---- the first piece

pub first_of_partial : (l : PieceLayout) (r : List ℕ) → IsPartial l r → first_piece l r ≡ None
first_of_partial l r p =
    elim (cases_lt (length r) l.head) [
      | inl lt ↦ rw (lt-ltb (length r) l.head lt) refl
      | inr le ↦ rw (le-ltb (length r) l.head le, lt-ltb (length r) (l.head + l.body r) (p le)) refl
    ]

pub first_of_whole : (l : PieceLayout) → Reads l → (f t : List ℕ) → IsWholePiece l f → first_piece l (f ++ t) ≡ Some (f, t)
first_of_whole l reads f t w =
    let headed : l.head ≤ length f = w.headed in
    let same : l.body (f ++ t) ≡ l.body f = reads.same f t headed in
    let filled : length f ≡ l.head + l.body f = w.filled in
    let long : l.head ≤ length (f ++ t) = omega (arith, length-append f t) in
    let enough : l.head + l.body f ≤ length (f ++ t) = omega (arith, length-append f t) in
    rw (same, le-ltb (length (f ++ t)) l.head long, le-ltb (length (f ++ t)) (l.head + l.body f) enough, take_at f t (l.head + l.body f) filled, drop_at f t (l.head + l.body f) filled) refl

pub whole_length : (l : PieceLayout) → Reads l → (f : List ℕ) → IsWholePiece l f → 1 ≤ length f
whole_length l reads f w = omega (arith, reads.some, w.headed)

-- ---- the pieces of a text are the only ones

in_partial : (l : PieceLayout) (k : ℕ) (r : List ℕ) → IsPartial l r → pieces_in l k r ≡ ([], r)
in_partial l zero r p = refl
in_partial l (suc k) r p = rw (first_of_partial l r p, pieces_in) refl

in_splits : (l : PieceLayout) → Reads l → (k : ℕ) (fs : List (List ℕ)) (r : List ℕ) → AllByRecursion (IsWholePiece l) fs → IsPartial l r → length (joined fs ++ r) ≤ k → pieces_in l k (joined fs ++ r) ≡ (fs, r)
in_splits l reads k [] r all p le = in_partial l k r p
in_splits l reads zero (f ∷ fs) r all p le = absurd (omega (arith, whole_length l reads f all.0, length-append (f ++ joined fs) r, length-append f (joined fs)))
in_splits l reads (suc k) (f ∷ fs) r all p le =
    let whole : first_piece l ((f ++ joined fs) ++ r) ≡ Some (f, joined fs ++ r) = rw append_assoc (first_of_whole l reads f (joined fs ++ r) all.0) in
    let short : length (joined fs ++ r) ≤ k = omega (arith, whole_length l reads f all.0, le, length-append (f ++ joined fs) r, length-append f (joined fs), length-append (joined fs) r) in
    rw (whole, pieces_in) (ap (with_first f) (in_splits l reads k fs r all.1 p short))

pub pieces_unique : (l : PieceLayout) → Reads l → (s : List ℕ) (fs : List (List ℕ)) (r : List ℕ) → Splits l s fs r → pieces_of l s ≡ (fs, r)
unfolding pieces_of
pieces_unique l reads s fs r h = rw h.whole (in_splits l reads (length (joined fs ++ r)) fs r h.each h.partial (omega arith))

-- ---- each text has pieces and a rest

-- the first piece, cut from a text that is long enough
pub cut_whole : (l : PieceLayout) → Reads l → (s : List ℕ) → l.head ≤ length s → l.head + l.body s ≤ length s → IsWholePiece l (take (l.head + l.body s) s)
cut_whole l reads s le enough =
    let n : ℕ = l.head + l.body s in
    let front : l.head ≤ length (take n s) = omega (arith, length-take n s) in
    let same : l.body s ≡ l.body (take n s) = ap l.body (sym (take-append-drop n s)) ∙ reads.same (take n s) (drop n s) front in
    record { headed = front; filled = omega (arith, length-take n s, same) }

cut_first : (l : PieceLayout) → Reads l → (s : List ℕ) → IsPartial l s ⊎ ((f : List ℕ) × (t : List ℕ) × (s ≡ f ++ t) × IsWholePiece l f)
cut_first l reads s =
    elim (cases_lt (length s) l.head) [
      | inl lt ↦ inl (λ le. absurd (omega arith))
      | inr le ↦ elim (cases_lt (length s) (l.head + l.body s)) [
        | inl short ↦ inl (λ _. short)
        | inr enough ↦
            let n : ℕ = l.head + l.body s in
            inr (take n s, drop n s, sym (take-append-drop n s), cut_whole l reads s le enough)
      ]
    ]

abbrev HasSplit : PieceLayout → List ℕ → Type 0
HasSplit l s = (fs : List (List ℕ)) × (r : List ℕ) × Splits l s fs r

has_split : (l : PieceLayout) → Reads l → (k : ℕ) (s : List ℕ) → length s ≤ k → HasSplit l s
has_split l reads zero [] le = ([], [], record { whole = refl; each = tt; partial = λ h. absurd (omega (arith, reads.some)) })
has_split l reads zero (x ∷ s) le = absurd (omega arith)
has_split l reads (suc k) s le =
    elim (cut_first l reads s) [
      | inl p ↦ ([], s, record { whole = refl; each = tt; partial = p })
      | inr (f, t, e, w) ↦
          let short : length t ≤ k = omega (arith, whole_length l reads f w, ap length e, length-append f t) in
          let h = has_split l reads k t short in
          (f ∷ h.0, h.1, record { whole = e ∙ ap (λ (x : List ℕ). f ++ x) h.2.whole ∙ simp append_assoc; each = (w, h.2.each); partial = h.2.partial })
    ]

pub pieces_split : (l : PieceLayout) → Reads l → (s : List ℕ) → Splits l s (pieces_of l s).0 (pieces_of l s).1
pieces_split l reads s =
    let h = has_split l reads (length s) s (omega arith) in
    subst (λ (p : List (List ℕ) × List ℕ). Splits l s p.0 p.1) (sym (pieces_unique l reads s h.0 h.1 h.2)) h.2

-- a text that begins with a whole piece
pub pieces_next : (l : PieceLayout) → Reads l → (f t : List ℕ) → IsWholePiece l f → pieces_of l (f ++ t) ≡ with_first f (pieces_of l t)
pieces_next l reads f t w =
    let h = pieces_split l reads t in
    pieces_unique l reads (f ++ t) (f ∷ (pieces_of l t).0) (pieces_of l t).1 (record {
      whole = ap (λ (x : List ℕ). f ++ x) h.whole ∙ simp append_assoc;
      each = (w, h.each);
      partial = h.partial;
    })

-- a text that begins with none
pub pieces_none : (l : PieceLayout) → Reads l → (r : List ℕ) → IsPartial l r → pieces_of l r ≡ ([], r)
pieces_none l reads r p = pieces_unique l reads r [] r (record { whole = refl; each = tt; partial = p })

-- ---- a text that continues

all_append : (P : List ℕ → Type 0) (fs gs : List (List ℕ)) → AllByRecursion P fs → AllByRecursion P gs → AllByRecursion P (fs ++ gs)
all_append P [] gs p q = q
all_append P (f ∷ fs) gs p q = (p.0, all_append P fs gs p.1 q)

pub splits_more : (l : PieceLayout) (s p : List ℕ) (fs gs : List (List ℕ)) (r t : List ℕ) → Splits l s fs r → Splits l (r ++ p) gs t → Splits l (s ++ p) (fs ++ gs) t
splits_more l s p fs gs r t h g = record {
  whole = rw (h.whole, append_assoc, g.whole, flat_map-append) (simp append_assoc);
  each = all_append (IsWholePiece l) fs gs h.each g.each;
  partial = g.partial;
}

pub splits_alone : (l : PieceLayout) (r : List ℕ) → IsPartial l r → Splits l r [] r
splits_alone l r p = record { whole = refl; each = tt; partial = p }

pub splits_one : (l : PieceLayout) → Reads l → (f : List ℕ) → IsWholePiece l f → Splits l f (f ∷ []) []
splits_one l reads f w = record { whole = simp append-nil; each = (w, tt); partial = λ h. absurd (omega (arith, reads.some)) }

-- a rest that what follows makes whole is the beginning of the whole piece
pub rest_begins : (l : PieceLayout) → Reads l → (r p f t : List ℕ) → IsPartial l r → IsWholePiece l f → r ++ p ≡ f ++ t → (q : List ℕ) × (f ≡ r ++ q)
rest_begins l reads r p f t partial w e =
    let total : length r + length p ≡ length f + length t = sym (length-append r p) ∙ ap length e ∙ length-append f t in
    elim (cases_lt (length f) (length r)) [
      | inl longer ↦
          -- then f is whole in r, which is partial
          let headed : l.head ≤ length f = w.headed in
          let filled : length f ≡ l.head + l.body f = w.filled in
          let front : take (length f) r ≡ f = sym (take-append-le (length f) r p (omega arith)) ∙ ap (take (length f)) e ∙ take_at f t (length f) refl in
          let cut : r ≡ f ++ drop (length f) r = sym (take-append-drop (length f) r) ∙ ap (λ (x : List ℕ). x ++ drop (length f) r) front in
          let same : l.body r ≡ l.body f = ap l.body cut ∙ reads.same f (drop (length f) r) headed in
          let short : length r < l.head + l.body r = partial (omega arith) in
          absurd (omega arith)
      | inr le ↦
          let n = length r in
          let front : take n f ≡ r = sym (take-append-le n f t le) ∙ ap (take n) (sym e) ∙ take_at r p n refl in
          (drop n f, sym (take-append-drop n f) ∙ ap (λ (x : List ℕ). x ++ drop n f) front)
    ]
