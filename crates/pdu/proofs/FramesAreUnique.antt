-- Each stream has one list of whole frames and one rest (`one_split`); marks are only appended (`marks_grow`), by the
-- rest alone (`new_rest`), whatever the cuts (`same_marks`). Stands on LaterDependsOnSpot and PiecesAreUnique.
use Rattle.std.proofs.Common.{◌≡◌, ℕ, ◌≤◌, nat_eq, List, [], ◌∷◌, ◌++◌, length, drop, refl, sym, ap, ◌∙◌, append_assoc, arith, inl, inr}
use Rattle.std.proofs.lemmas.Bool.{cases_lt, cases_Bool, lt-ltb, le-ltb}
use Rattle.std.proofs.lemmas.List.{length-append, append-nil}
use Rattle.std.proofs.lemmas.List.Concat.{flat_map-append}
use Rattle.std.proofs.Math.Seq.{drop-append_seam}
use Rattle.std.specs.List.{flat_map}
use Rattle.pdu.specs.Pieces.{joined, pieces_of}
use Rattle.pdu.specs.Frames.{frame, IsFrame, IsRest, Splits, frames_of, rest_of}
use Rattle.pdu.specs.Parts.{SameFrame}
use Rattle.pdu.specs.Marks.{Mark, Head, End, frame_kind, frame_length, inner_marks, whole_marks, unfinished_marks, marks, new_marks, marks_by}
use Rattle.pdu.proofs.PiecesAreUnique.{Reads, pieces_unique, pieces_split, splits_more, splits_alone, splits_one, rest_begins}
use Rattle.pdu.proofs.LaterDependsOnSpot.{Grows, pdv_grows, drop_past}

pub same_frame : (f more : List ℕ) → 6 ≤ length f → SameFrame f more
same_frame [] more h = absurd (omega arith)
same_frame (a ∷ []) more h = absurd (omega arith)
same_frame (a ∷ b ∷ []) more h = absurd (omega arith)
same_frame (a ∷ b ∷ c ∷ []) more h = absurd (omega arith)
same_frame (a ∷ b ∷ c ∷ d ∷ []) more h = absurd (omega arith)
same_frame (a ∷ b ∷ c ∷ d ∷ e ∷ []) more h = absurd (omega arith)
same_frame (a ∷ b ∷ c ∷ d ∷ e ∷ x ∷ f) more h = record { kind = refl; n = refl; body = refl }

pub frame_reads : Reads frame
frame_reads = record { some = omega arith; same = λ t u h. (same_frame t u h).n }

-- ---- one list of frames and one rest

pub frames_unique : (s : List ℕ) (fs : List (List ℕ)) (r : List ℕ) → Splits s fs r → pieces_of frame s ≡ (fs, r)
frames_unique s fs r h = pieces_unique frame frame_reads s fs r h

pub frames_split : (s : List ℕ) → Splits s (frames_of s) (rest_of s)
unfolding frames_of rest_of
frames_split s = pieces_split frame frame_reads s

pub frames_at : (s : List ℕ) (fs : List (List ℕ)) (r : List ℕ) → Splits s fs r → frames_of s ≡ fs
unfolding frames_of
frames_at s fs r h = ap (λ (p : List (List ℕ) × List ℕ). p.0) (frames_unique s fs r h)

pub rest_at : (s : List ℕ) (fs : List (List ℕ)) (r : List ℕ) → Splits s fs r → rest_of s ≡ r
unfolding rest_of
rest_at s fs r h = ap (λ (p : List (List ℕ) × List ℕ). p.1) (frames_unique s fs r h)

pub marks_at : (s : List ℕ) (fs : List (List ℕ)) (r : List ℕ) → Splits s fs r → marks s ≡ flat_map whole_marks fs ++ unfinished_marks r
unfolding marks
marks_at s fs r h = rw (frames_at s fs r h, rest_at s fs r h) refl

-- ---- a stream that continues: what comes later depends on the rest alone

pub marks_later : (s p : List ℕ) (fs : List (List ℕ)) (r : List ℕ) → Splits s fs r → marks (s ++ p) ≡ flat_map whole_marks fs ++ marks (r ++ p)
marks_later s p fs r h =
    let g = frames_split (r ++ p) in
    marks_at (s ++ p) (fs ++ frames_of (r ++ p)) (rest_of (r ++ p)) (splits_more frame s p fs (frames_of (r ++ p)) r (rest_of (r ++ p)) h g)
    ∙ rw (flat_map-append whole_marks fs (frames_of (r ++ p)), marks_at (r ++ p) (frames_of (r ++ p)) (rest_of (r ++ p)) g) (simp append_assoc)

pub rest_later : (s p : List ℕ) (fs : List (List ℕ)) (r : List ℕ) → Splits s fs r → rest_of (s ++ p) ≡ rest_of (r ++ p)
rest_later s p fs r h =
    let g = frames_split (r ++ p) in
    rest_at (s ++ p) (fs ++ frames_of (r ++ p)) (rest_of (r ++ p)) (splits_more frame s p fs (frames_of (r ++ p)) r (rest_of (r ++ p)) h g)

pub new_later : (s p : List ℕ) (fs : List (List ℕ)) (r : List ℕ) → Splits s fs r → new_marks s p ≡ drop (length (unfinished_marks r)) (marks (r ++ p))
unfolding new_marks
new_later s p fs r h = rw (marks_at s fs r h, marks_later s p fs r h) (drop_past (flat_map whole_marks fs) (unfinished_marks r) (marks (r ++ p)))

-- ---- a unfinished frame keeps its marks

inner_grows : (f more : List ℕ) → 6 ≤ length f → Grows (inner_marks f) (inner_marks (f ++ more))
inner_grows f more h =
    let s = same_frame f more h in
    elim (cases_Bool (nat_eq (frame_kind f) 4)) [
      | inl t ↦
          let g = pdv_grows (frame_length f) (drop 6 f) more in
          (g.0, rw (s.kind, t, s.n, s.body) g.1)
      | inr t ↦ ([], rw (s.kind, t) refl)
    ]

started_grows : (r more : List ℕ) → Grows (unfinished_marks r) (unfinished_marks (r ++ more))
started_grows r more =
    elim (cases_lt (length r) 6) [
      | inl lt ↦ (unfinished_marks (r ++ more), rw (lt-ltb (length r) 6 lt) refl)
      | inr le ↦
          let s = same_frame r more le in
          let g = inner_grows r more le in
          let long : 6 ≤ length (r ++ more) = omega (arith, length-append r more) in
          let now : unfinished_marks (r ++ more) ≡ Head (frame_kind (r ++ more)) (frame_length (r ++ more)) ∷ inner_marks (r ++ more) = rw (le-ltb (length (r ++ more)) 6 long) refl in
          let before : unfinished_marks r ≡ Head (frame_kind r) (frame_length r) ∷ inner_marks r = rw (le-ltb (length r) 6 le) refl in
          let heads : Head (frame_kind (r ++ more)) (frame_length (r ++ more)) ≡ Head (frame_kind r) (frame_length r) = rw (s.kind, s.n) refl in
          (g.0, now ∙ ap (λ (m : Mark). m ∷ inner_marks (r ++ more)) heads ∙ ap (λ (ms : List Mark). Head (frame_kind r) (frame_length r) ∷ ms) g.1 ∙ ap (λ (ms : List Mark). ms ++ g.0) (sym before))
    ]

-- the marks of a whole frame are those of it as an unfinished one, and its end
whole_is : (f : List ℕ) → IsFrame f → whole_marks f ≡ unfinished_marks f ++ End (frame_kind f) (drop 6 f) ∷ []
whole_is f w = let le : 6 ≤ length f = w.headed in rw (le-ltb (length f) 6 le) refl

pub started_first : (r p : List ℕ) → IsRest r → Grows (unfinished_marks r) (marks (r ++ p))
started_first r p partial =
    let h = frames_split (r ++ p) in
    go (frames_of (r ++ p)) (rest_of (r ++ p)) h
  where
    go : (fs : List (List ℕ)) (t : List ℕ) → Splits (r ++ p) fs t → Grows (unfinished_marks r) (marks (r ++ p))
    go [] t h =
        let g = started_grows r p in
        (g.0, marks_at (r ++ p) [] t h ∙ ap unfinished_marks (sym h.whole) ∙ g.1)
    go (f ∷ fs) t h =
        let q = rest_begins frame frame_reads r p f (joined fs ++ t) partial h.each.0 (h.whole ∙ simp append_assoc) in
        let g = started_grows r q.0 in
        let rest = (End (frame_kind f) (drop 6 f) ∷ []) ++ (flat_map whole_marks fs ++ unfinished_marks t) in (
          g.0 ++ rest,
          marks_at (r ++ p) (f ∷ fs) t h
              ∙ ap (λ (ms : List Mark). (ms ++ flat_map whole_marks fs) ++ unfinished_marks t) (whole_is f h.each.0 ∙ ap (λ (ms : List Mark). ms ++ End (frame_kind f) (drop 6 f) ∷ []) (ap unfinished_marks q.1 ∙ g.1))
              ∙ simp append_assoc,
        )

-- marks never change, and a piece adds its own
pub marks_grow : (s p : List ℕ) → marks (s ++ p) ≡ marks s ++ new_marks s p
marks_grow s p =
    let h = frames_split s in
    let fs = frames_of s in
    let r = rest_of s in
    let g = started_first r p h.partial in
    let new : new_marks s p ≡ g.0 = new_later s p fs r h ∙ ap (drop (length (unfinished_marks r))) g.1 ∙ drop-append_seam (unfinished_marks r) g.0 in
    marks_later s p fs r h ∙ ap (λ (ms : List Mark). flat_map whole_marks fs ++ ms) g.1 ∙ rw (marks_at s fs r h, new) (simp append_assoc)

pub new_is : (s p : List ℕ) (ms : List Mark) → marks (s ++ p) ≡ marks s ++ ms → new_marks s p ≡ ms
unfolding new_marks
new_is s p ms e = rw e (drop-append_seam (marks s) ms)

-- the marks of two pieces are those of the first, and then those of the second
pub new_then : (s p q : List ℕ) → new_marks s (p ++ q) ≡ new_marks s p ++ new_marks (s ++ p) q
new_then s p q = new_is s (p ++ q) (new_marks s p ++ new_marks (s ++ p) q) (rw (← append_assoc) (marks_grow (s ++ p) q ∙ rw (marks_grow s p) (simp append_assoc)))

pub new_nothing : (s : List ℕ) → new_marks s [] ≡ []
new_nothing s = new_is s [] [] (simp append-nil)

-- ---- the rest decides

pub rest_is_rest : (s : List ℕ) → IsRest (rest_of s)
rest_is_rest s = (frames_split s).partial

pub new_rest : (s p : List ℕ) → new_marks s p ≡ new_marks (rest_of s) p
new_rest s p =
    let h = frames_split s in
    new_later s p (frames_of s) (rest_of s) h ∙ sym (new_later (rest_of s) p [] (rest_of s) (splits_alone frame (rest_of s) h.partial))

pub rest_alone : (r : List ℕ) → IsRest r → rest_of r ≡ r
rest_alone r p = rest_at r [] r (splits_alone frame r p)

pub rest_rest : (s p : List ℕ) → rest_of (s ++ p) ≡ rest_of (rest_of s ++ p)
rest_rest s p = rest_later s p (frames_of s) (rest_of s) (frames_split s)

-- ---- one more chunk

-- a chunk after which the frame is still not whole
pub chunk_within : (r c : List ℕ) → IsRest r → IsRest (r ++ c) → (new_marks r c ≡ drop (length (unfinished_marks r)) (unfinished_marks (r ++ c))) × (rest_of (r ++ c) ≡ r ++ c)
chunk_within r c p q = (
  new_later r c [] r (splits_alone frame r p) ∙ ap (drop (length (unfinished_marks r))) (marks_at (r ++ c) [] (r ++ c) (splits_alone frame (r ++ c) q)),
  rest_alone (r ++ c) q,
)

-- a chunk that makes the frame whole
pub chunk_ends : (r c : List ℕ) → IsRest r → IsFrame (r ++ c) → (new_marks r c ≡ drop (length (unfinished_marks r)) (whole_marks (r ++ c))) × (rest_of (r ++ c) ≡ [])
chunk_ends r c p w =
    let one = splits_one frame frame_reads (r ++ c) w in (
      new_later r c [] r (splits_alone frame r p) ∙ ap (drop (length (unfinished_marks r))) (marks_at (r ++ c) ((r ++ c) ∷ []) [] one ∙ simp append-nil),
      rest_at (r ++ c) ((r ++ c) ∷ []) [] one,
    )

-- ---- how the stream is cut does not show

pub marks_joined : (s : List ℕ) (ps : List (List ℕ)) → marks_by s ps ≡ new_marks s (joined ps)
marks_joined s [] = sym (new_nothing s)
marks_joined s (p ∷ ps) = ap (λ (ms : List Mark). new_marks s p ++ ms) (marks_joined (s ++ p) ps) ∙ sym (new_then s p (joined ps))

pub same_marks : (s : List ℕ) (ps qs : List (List ℕ)) → joined ps ≡ joined qs → marks_by s ps ≡ marks_by s qs
same_marks s ps qs e = marks_joined s ps ∙ ap (new_marks s) e ∙ sym (marks_joined s qs)

pub one_split : (s : List ℕ) (fs gs : List (List ℕ)) (r t : List ℕ) → Splits s fs r → Splits s gs t → (fs ≡ gs) × (r ≡ t)
one_split s fs gs r t h g = (sym (frames_at s fs r h) ∙ frames_at s gs t g, sym (rest_at s fs r h) ∙ rest_at s gs t g)
