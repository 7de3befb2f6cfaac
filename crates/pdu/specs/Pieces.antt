-- Byte strings that are lists of pieces, each with its length in its head: PDUs (PS3.8 section 9.3.1) and the items
-- of an association request (PS3.8 section 9.3.2).
use Rattle.std.specs.Prelude.{◌≡◌, ℕ, zero, suc, ◌+◌, ◌<◌, ◌≤◌, List, [], ◌∷◌, ◌++◌, length, take, drop, Option, Some, None, nat_lt, if◌then◌else◌}
use Rattle.std.specs.List.{flat_map, AllByRecursion}

-- the layout of a piece: the size of its head, and how to read the length of its body from the head
pub record PieceLayout : Type 0 where
  pub head : ℕ
  pub body : List ℕ → ℕ

-- a whole piece: its head, and all of its body
pub record IsWholePiece (l : PieceLayout) (piece : List ℕ) : Type 0 where
  pub headed : l.head ≤ length piece
  pub filled : length piece ≡ l.head + l.body piece

-- less than a whole piece
abbrev pub IsPartial : PieceLayout → List ℕ → Type 0
IsPartial l rest = l.head ≤ length rest → length rest < l.head + l.body rest

-- pieces, put together
abbrev pub joined : List (List ℕ) → List ℕ
joined pieces = flat_map (λ piece. piece) pieces

-- the text is these whole pieces, followed by less than one
pub record Splits (l : PieceLayout) (text : List ℕ) (pieces : List (List ℕ)) (rest : List ℕ) : Type 0 where
  pub whole : text ≡ joined pieces ++ rest
  pub each : AllByRecursion (IsWholePiece l) pieces
  pub partial : IsPartial l rest

-- the first piece, where it is whole, and the text after it
-- e.g. first_piece (record { head = 1; body = λ text. 1 }) (5 ∷ 6 ∷ 7 ∷ []) ≡ Some (5 ∷ 6 ∷ [], 7 ∷ [])
abbrev pub first_piece : PieceLayout → List ℕ → Option (List ℕ × List ℕ)
first_piece l text =
    if nat_lt (length text) l.head then None
    else (if nat_lt (length text) (l.head + l.body text) then None
    else Some (take (l.head + l.body text) text, drop (l.head + l.body text) text))

-- one piece put before those of the rest of the text
-- e.g. with_first (1 ∷ []) ([], 2 ∷ []) ≡ ((1 ∷ []) ∷ [], 2 ∷ [])
abbrev pub with_first : List ℕ → List (List ℕ) × List ℕ → List (List ℕ) × List ℕ
with_first piece (pieces, rest) = (piece ∷ pieces, rest)

-- the whole pieces among the first k, and the remaining bytes
abbrev pub pieces_in : PieceLayout → ℕ → List ℕ → List (List ℕ) × List ℕ
pieces_in l zero text = ([], text)
pieces_in l (suc k) text = elim (first_piece l text) [ None ↦ ([], text) | Some (piece, more) ↦ with_first piece (pieces_in l k more) ]

-- the whole pieces, and the remaining bytes; no text has more pieces than bytes
-- e.g. pieces_of (record { head = 1; body = λ text. 1 }) (5 ∷ 6 ∷ 7 ∷ []) ≡ ((5 ∷ 6 ∷ []) ∷ [], 7 ∷ [])
unfoldable pub pieces_of : PieceLayout → List ℕ → List (List ℕ) × List ℕ
pieces_of l text = pieces_in l (length text) text
