-- What one more chunk of a stream marks, by where the stream stands: in the head of a PDU (`head_within`,
-- `head_whole`, `head_ends`), in its body (`other_within`, `other_ends`), and inside P-DATA-TF (`data_within`,
-- `data_ends`). Stands on FramesAreUnique and LaterDependsOnSpot.
use Rattle.std.proofs.Common.{◌≡◌, ℕ, ◌-◌, ◌<◌, ◌≤◌, Bool, true, false, nat_eq, if◌then◌else◌, List, [], ◌∷◌, ◌++◌, length, drop, refl, sym, ap, subst, ◌∙◌, append_assoc, arith, inl, inr}
use Rattle.std.proofs.lemmas.Bool.{cases_Bool, lt-ltb, le-ltb}
use Rattle.std.proofs.lemmas.List.{length-append, drop_all}
use Rattle.std.proofs.Math.Seq.{drop-append_seam}
use Rattle.pdu.specs.Frames.{IsFrame, IsRest, rest_of}
use Rattle.pdu.specs.Marks.{Mark, Head, End, pdv_size, head_mark, pdv_mark, is_leftover, pdv_marks, frame_kind, frame_length, inner_marks, unfinished_marks, new_marks}
use Rattle.pdu.specs.Pdvs.{DataSpot, Dropped, Within, IsGoodHead, Marked, too_short, whole_and_leftover, whole_and_more, new_pdv_marks}
use Rattle.pdu.specs.Parts.{leftover_marks}
use Rattle.pdu.proofs.LaterDependsOnSpot.{pdv_grows}
use Rattle.pdu.proofs.FramesAreUnique.{same_frame, chunk_within, chunk_ends}

-- ---- just a whole value

abbrev pub leftover_at : ℕ → DataSpot
leftover_at room = if is_leftover room then Dropped else Within room []

pub just_whole : (room : ℕ) (bytes : List ℕ) → IsGoodHead room bytes → pdv_size bytes ≡ length bytes
    → Marked room bytes (head_mark bytes ∷ pdv_mark bytes ∷ leftover_marks (room - length bytes)) (leftover_at (room - length bytes))
just_whole room bytes g e =
    let enough : pdv_size bytes ≤ length bytes = omega arith in
    let remaining : room - pdv_size bytes ≡ room - length bytes = ap (λ (n : ℕ). room - n) e in
    elim (cases_Bool (is_leftover (room - length bytes))) [
      | inl t ↦ rw t (whole_and_leftover g enough (ap is_leftover remaining ∙ t))
      | inr t ↦
          let nothing : drop (pdv_size bytes) bytes ≡ [] = drop_all (pdv_size bytes) bytes (omega arith) in
          let short : Marked (room - length bytes) [] [] (Within (room - length bytes) []) = too_short (omega arith) in
          let later : Marked (room - pdv_size bytes) (drop (pdv_size bytes) bytes) [] (Within (room - length bytes) []) =
          subst (λ (r : ℕ). Marked r (drop (pdv_size bytes) bytes) [] (Within (room - length bytes) [])) (sym remaining)
          (subst (λ (b : List ℕ). Marked (room - length bytes) b [] (Within (room - length bytes) [])) (sym nothing) short) in
          rw t (whole_and_more g enough (ap is_leftover remaining ∙ t) later)
    ]

-- the marks that a chunk adds to an unfinished value
pub new_is_drop : (room : ℕ) (bytes piece : List ℕ) (old new : List Mark) → pdv_marks room bytes ≡ old → pdv_marks room (bytes ++ piece) ≡ new → new_pdv_marks room bytes piece ≡ drop (length old) new
unfolding new_pdv_marks
new_is_drop room bytes piece old new e f = rw (e, f) refl

-- ---- in the head of a PDU

started_short : (r : List ℕ) → length r < 6 → unfinished_marks r ≡ []
started_short r lt = rw (lt-ltb (length r) 6 lt) refl

started_long : (r : List ℕ) → 6 ≤ length r → unfinished_marks r ≡ Head (frame_kind r) (frame_length r) ∷ inner_marks r
started_long r le = rw (le-ltb (length r) 6 le) refl

pub head_within : (r c : List ℕ) → length (r ++ c) < 6 → (new_marks r c ≡ []) × (rest_of (r ++ c) ≡ r ++ c)
head_within r c lt =
    let p : IsRest r = λ le. absurd (omega (arith, length-append r c)) in
    let q : IsRest (r ++ c) = λ le. absurd (omega arith) in
    let h = chunk_within r c p q in
    (h.0 ∙ rw (started_short r (omega (arith, length-append r c)), started_short (r ++ c) lt) refl, h.1)

inner_none : (b : Bool) (room : ℕ) (bytes : List ℕ) → bytes ≡ [] → (if b then pdv_marks room bytes else []) ≡ []
unfolding pdv_marks
inner_none true room bytes e = rw e refl
inner_none false room bytes e = refl

no_inner : (f : List ℕ) → length f ≡ 6 → inner_marks f ≡ []
no_inner f e = inner_none (nat_eq (frame_kind f) 4) (frame_length f) (drop 6 f) (drop_all 6 f (omega arith))

-- the chunk makes the head whole, and a body is to come
pub head_whole : (r c : List ℕ) → length r < 6 → length (r ++ c) ≡ 6 → 1 ≤ frame_length (r ++ c)
    → (new_marks r c ≡ Head (frame_kind (r ++ c)) (frame_length (r ++ c)) ∷ []) × (rest_of (r ++ c) ≡ r ++ c)
head_whole r c lt e some =
    let p : IsRest r = λ le. absurd (omega arith) in
    let q : IsRest (r ++ c) = λ le. omega arith in
    let h = chunk_within r c p q in
    (h.0 ∙ rw (started_short r lt, started_long (r ++ c) (omega arith), no_inner (r ++ c) e) refl, h.1)

-- the chunk makes the head whole, and with it a PDU without a body
pub head_ends : (r c : List ℕ) → length r < 6 → length (r ++ c) ≡ 6 → frame_length (r ++ c) ≡ 0
    → (new_marks r c ≡ Head (frame_kind (r ++ c)) (frame_length (r ++ c)) ∷ End (frame_kind (r ++ c)) [] ∷ []) × (rest_of (r ++ c) ≡ [])
head_ends r c lt e none =
    let p : IsRest r = λ le. absurd (omega arith) in
    let w : IsFrame (r ++ c) = record { headed = omega arith; filled = omega arith } in
    let h = chunk_ends r c p w in
    let empty : drop 6 (r ++ c) ≡ [] = drop_all 6 (r ++ c) (omega arith) in
    (h.0 ∙ rw (started_short r lt, no_inner (r ++ c) e, empty) refl, h.1)

-- ---- in the body of a PDU that is not P-DATA-TF

other_inner : (f : List ℕ) → nat_eq (frame_kind f) 4 ≡ false → inner_marks f ≡ []
other_inner f e = rw e refl

pub other_within : (r c : List ℕ) → 6 ≤ length r → nat_eq (frame_kind r) 4 ≡ false → IsRest r → IsRest (r ++ c) → (new_marks r c ≡ []) × (rest_of (r ++ c) ≡ r ++ c)
other_within r c le kind p q =
    let s = same_frame r c le in
    let long : 6 ≤ length (r ++ c) = omega (arith, length-append r c) in
    let kind_too : nat_eq (frame_kind (r ++ c)) 4 ≡ false = ap (λ (k : ℕ). nat_eq k 4) s.kind ∙ kind in
    let h = chunk_within r c p q in
    (h.0 ∙ rw (started_long r le, started_long (r ++ c) long, other_inner r kind, other_inner (r ++ c) kind_too) refl, h.1)

pub other_ends : (r c : List ℕ) → 6 ≤ length r → nat_eq (frame_kind r) 4 ≡ false → IsRest r → IsFrame (r ++ c)
    → (new_marks r c ≡ End (frame_kind r) (drop 6 r ++ c) ∷ []) × (rest_of (r ++ c) ≡ [])
other_ends r c le kind p w =
    let s = same_frame r c le in
    let kind_too : nat_eq (frame_kind (r ++ c)) 4 ≡ false = ap (λ (k : ℕ). nat_eq k 4) s.kind ∙ kind in
    let h = chunk_ends r c p w in
    (h.0 ∙ rw (started_long r le, other_inner r kind, other_inner (r ++ c) kind_too, s.kind, s.body) refl, h.1)

-- ---- in the body of P-DATA-TF

data_inner : (f : List ℕ) → nat_eq (frame_kind f) 4 ≡ true → inner_marks f ≡ pdv_marks (frame_length f) (drop 6 f)
data_inner f e = rw e refl

pub data_within : (r c : List ℕ) → 6 ≤ length r → nat_eq (frame_kind r) 4 ≡ true → IsRest r → IsRest (r ++ c)
    → (new_marks r c ≡ new_pdv_marks (frame_length r) (drop 6 r) c) × (rest_of (r ++ c) ≡ r ++ c)
unfolding new_pdv_marks
data_within r c le kind p q =
    let s = same_frame r c le in
    let long : 6 ≤ length (r ++ c) = omega (arith, length-append r c) in
    let kind_too : nat_eq (frame_kind (r ++ c)) 4 ≡ true = ap (λ (k : ℕ). nat_eq k 4) s.kind ∙ kind in
    let h = chunk_within r c p q in
    (h.0 ∙ rw (started_long r le, started_long (r ++ c) long, data_inner r kind, data_inner (r ++ c) kind_too, s.n, s.body) refl, h.1)

drop_between : (xs ys zs : List Mark) → drop (length xs) ((xs ++ ys) ++ zs) ≡ drop (length xs) (xs ++ ys) ++ zs
drop_between xs ys zs = simp append_assoc (drop-append_seam xs (ys ++ zs) ∙ ap (λ (ms : List Mark). ms ++ zs) (sym (drop-append_seam xs ys)))

pub data_ends : (r c : List ℕ) → 6 ≤ length r → nat_eq (frame_kind r) 4 ≡ true → IsRest r → IsFrame (r ++ c)
    → (new_marks r c ≡ new_pdv_marks (frame_length r) (drop 6 r) c ++ End (frame_kind r) (drop 6 r ++ c) ∷ []) × (rest_of (r ++ c) ≡ [])
unfolding new_pdv_marks
data_ends r c le kind p w =
    let s = same_frame r c le in
    let kind_too : nat_eq (frame_kind (r ++ c)) 4 ≡ true = ap (λ (k : ℕ). nat_eq k 4) s.kind ∙ kind in
    let h = chunk_ends r c p w in
    let g = pdv_grows (frame_length r) (drop 6 r) c in
    let old = pdv_marks (frame_length r) (drop 6 r) in
    let last = End (frame_kind r) (drop 6 r ++ c) ∷ [] in
    let split : drop (length old) (pdv_marks (frame_length r) (drop 6 r ++ c) ++ last) ≡ drop (length old) (pdv_marks (frame_length r) (drop 6 r ++ c)) ++ last =
    ap (λ (ms : List Mark). drop (length old) (ms ++ last)) g.1 ∙ drop_between old g.0 last ∙ ap (λ (ms : List Mark). drop (length old) ms ++ last) (sym g.1) in
    (h.0 ∙ rw (started_long r le, data_inner r kind, data_inner (r ++ c) kind_too, s.kind, s.n, s.body) split, h.1)
