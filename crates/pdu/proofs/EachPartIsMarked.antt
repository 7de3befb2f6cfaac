-- What one more part of a piece marks, and where the frame then stands: in a head (`head_part`, `head_done`), a body
-- (`plain_part`), a value's head (`pdv_head_part`, `pdv_head_done`, `pdv_head_bad`), its fragment (`fragment_part`,
-- `fragment_done`). Stands on DataMarksAreComputed, EachChunkIsMarked, FramesAreUnique and LaterDependsOnSpot.
use Rattle.std.proofs.Common.{◌⊎◌, ◌≡◌, ℕ, ◌+◌, ◌-◌, ◌<◌, ◌≤◌, true, false, nat_eq, List, [], ◌∷◌, ◌++◌, length, drop, refl, sym, ap, ◌∙◌, arith, inl, inr}
use Rattle.std.proofs.lemmas.Bool.{cases_lt, cases_Bool, lt-ltb, le-ltb}
use Rattle.std.proofs.lemmas.List.{length-append, length-drop, drop_all}
use Rattle.byteorder.specs.Endian.{big_number}
use Rattle.pdu.specs.Frames.{IsRest}
use Rattle.pdu.specs.Marks.{Mark, Head, BadPdv, End, pdv_size, head_mark, pdv_mark, is_leftover, frame_kind, frame_length, pdv_marks}
use Rattle.pdu.specs.Pdvs.{DataSpot, Dropped, Within, Marked, too_short, bad, unfinished, data_spot, new_pdv_marks}
use Rattle.pdu.specs.Spot.{Opening, Plain, InPdv, spot_of, spot, room_remaining}
use Rattle.pdu.specs.Parts.{IsInData, IsUnfinishedPdv, in_head, in_fragment, leftover_marks, leftover_spot, body_spot, end_mark, Continues, Arrives}
use Rattle.pdu.proofs.DataMarksAreComputed.{same_head, marks_are, spot_is}
use Rattle.pdu.proofs.LaterDependsOnSpot.{begins_within, within_later, dropped_later}
use Rattle.pdu.proofs.FramesAreUnique.{same_frame}
use Rattle.pdu.proofs.EachChunkIsMarked.{just_whole, leftover_at, new_is_drop, head_within, head_whole, head_ends, other_within, other_ends, data_within, data_ends}

-- ---- the spot of a frame, by its head

pub spot_opening : (r : List ℕ) → length r < 6 → spot r ≡ Opening
unfolding spot
spot_opening r lt = rw (lt-ltb (length r) 6 lt) refl

spot_data : (r : List ℕ) → 6 ≤ length r → nat_eq (frame_kind r) 4 ≡ true → spot r ≡ spot_of (data_spot (frame_length r) (drop 6 r))
unfolding spot
spot_data r le kind = rw (le-ltb (length r) 6 le, kind) refl

spot_other : (r : List ℕ) → 6 ≤ length r → nat_eq (frame_kind r) 4 ≡ false → spot r ≡ Plain
unfolding spot
spot_other r le kind = rw (le-ltb (length r) 6 le, kind) refl

-- a value has started: the frame is a P-DATA, its head is there, and it stands within the value
pub record WithinPdv (r : List ℕ) (room : ℕ) (b : List ℕ) : Type 0 where
  pub headed : 6 ≤ length r
  pub kind : nat_eq (frame_kind r) 4 ≡ true
  pub stands : data_spot (frame_length r) (drop 6 r) ≡ Within room b
  pub room_is : room ≡ room_remaining r + length b
  pub is : IsUnfinishedPdv room b

pdv_of : (s : DataSpot) (b : List ℕ) → spot_of s ≡ InPdv b → (room : ℕ) × (s ≡ Within room b)
pdv_of Dropped b e = absurd cc
pdv_of (Within room c) b e = let same : c ≡ b = cc in (room, rw same refl)

pub within_pdv : (r b : List ℕ) → IsRest r → spot r ≡ InPdv b → (room : ℕ) × WithinPdv r room b
within_pdv r b p e =
    elim (cases_lt (length r) 6) [
      | inl lt ↦ let wrong : Opening ≡ InPdv b = sym (spot_opening r lt) ∙ e in absurd cc
      | inr le ↦ elim (cases_Bool (nat_eq (frame_kind r) 4)) [
        | inl t ↦
            let short : length r < 6 + frame_length r = p le in
            let s = pdv_of (data_spot (frame_length r) (drop 6 r)) b (sym (spot_data r le t) ∙ e) in
            let fits : length (drop 6 r) ≤ frame_length r = omega (arith, length-drop 6 r) in
            let g = begins_within (frame_length r) (drop 6 r) s.0 b fits s.1 in (
              s.0,
              record {
                headed = le;
                kind = t;
                stands = s.1;
                room_is = omega (arith, g.room_is, length-drop 6 r);
                is = g.is;
              },
            )
        | inr t ↦ let wrong : Plain ≡ InPdv b = sym (spot_other r le t) ∙ e in absurd cc
      ]
    ]

pub unfinished_pdv : (r b : List ℕ) → IsRest r → spot r ≡ InPdv b → IsUnfinishedPdv (room_remaining r + length b) b
unfinished_pdv r b p e = let v = within_pdv r b p e in rw (← v.1.room_is) v.1.is

pub in_data : (r b : List ℕ) → IsRest r → spot r ≡ InPdv b → IsInData r
in_data r b p e = let v = within_pdv r b p e in record { headed = v.1.headed; kind = v.1.kind }

-- ---- in the head of a frame

pub head_part : (r c : List ℕ) → length (r ++ c) < 6 → Continues r c [] Opening
head_part r c lt = let h = head_within r c lt in record { marks = h.0; rest = h.1; spot_is = spot_opening (r ++ c) lt }

-- with just its head a frame stands where its body begins
spot_headed : (f : List ℕ) → length f ≡ 6 → spot f ≡ body_spot (frame_kind f)
spot_headed f e =
    elim (cases_Bool (nat_eq (frame_kind f) 4)) [
      | inl t ↦
          let nothing : drop 6 f ≡ [] = drop_all 6 f (omega arith) in
          let short : Marked (frame_length f) [] [] (Within (frame_length f) []) = too_short (omega arith) in
          let stands : data_spot (frame_length f) (drop 6 f) ≡ Within (frame_length f) [] = ap (data_spot (frame_length f)) nothing ∙ spot_is short in
          spot_data f (omega arith) t ∙ ap spot_of stands ∙ rw t refl
      | inr t ↦ spot_other f (omega arith) t ∙ rw t refl
    ]

pub head_done : (r c : List ℕ) → length r < 6 → length (r ++ c) ≡ 6 → Arrives r c (Head (frame_kind (r ++ c)) (frame_length (r ++ c)) ∷ []) (body_spot (frame_kind (r ++ c)))
head_done r c lt e = record {
  continues = λ q.
      let more : 1 ≤ frame_length (r ++ c) = omega (arith, q (omega arith)) in
      let h = head_whole r c lt e more in
      record { marks = h.0; rest = h.1; spot_is = spot_headed (r ++ c) e };
  ends = λ w.
      let none : frame_length (r ++ c) ≡ 0 = omega (arith, w.filled) in
      let h = head_ends r c lt e none in
      let empty : drop 6 (r ++ c) ≡ [] = drop_all 6 (r ++ c) (omega arith) in
      record { marks = h.0 ∙ ap (λ (body : List ℕ). Head (frame_kind (r ++ c)) (frame_length (r ++ c)) ∷ End (frame_kind (r ++ c)) body ∷ []) (sym empty); rest = h.1 };
}

-- ---- in a body in which nothing is marked before the end

same_end : (r c : List ℕ) → 6 ≤ length r → End (frame_kind r) (drop 6 r ++ c) ≡ end_mark (r ++ c)
same_end r c le = let s = same_frame r c le in rw (s.kind, s.body) refl

data_stands : (r c : List ℕ) (s : DataSpot) → 6 ≤ length r → nat_eq (frame_kind r) 4 ≡ true → data_spot (frame_length r) (drop 6 r ++ c) ≡ s → spot (r ++ c) ≡ spot_of s
data_stands r c s le kind e =
    let same = same_frame r c le in
    let kind_too : nat_eq (frame_kind (r ++ c)) 4 ≡ true = ap (λ (k : ℕ). nat_eq k 4) same.kind ∙ kind in
    spot_data (r ++ c) (omega (arith, length-append r c)) kind_too ∙ ap spot_of (rw (same.n, same.body) e)

-- what the bytes of a P-DATA do, from the marks inside it
data_arrives : (r c : List ℕ) (ms : List Mark) (s : DataSpot) → IsRest r → 6 ≤ length r → nat_eq (frame_kind r) 4 ≡ true
    → new_pdv_marks (frame_length r) (drop 6 r) c ≡ ms → data_spot (frame_length r) (drop 6 r ++ c) ≡ s → Arrives r c ms (spot_of s)
data_arrives r c ms s p le kind new stands = record {
  continues = λ q. let h = data_within r c le kind p q in record { marks = h.0 ∙ new; rest = h.1; spot_is = data_stands r c s le kind stands };
  ends = λ w.
      let h = data_ends r c le kind p w in
      record { marks = h.0 ∙ ap (λ (m : Mark). new_pdv_marks (frame_length r) (drop 6 r) c ++ m ∷ []) (same_end r c le) ∙ ap (λ (xs : List Mark). xs ++ end_mark (r ++ c) ∷ []) new; rest = h.1 };
}

other_arrives : (r c : List ℕ) → IsRest r → 6 ≤ length r → nat_eq (frame_kind r) 4 ≡ false → Arrives r c [] Plain
other_arrives r c p le kind =
    let same = same_frame r c le in
    let kind_too : nat_eq (frame_kind (r ++ c)) 4 ≡ false = ap (λ (k : ℕ). nat_eq k 4) same.kind ∙ kind in
    record {
      continues = λ q. let h = other_within r c le kind p q in record { marks = h.0; rest = h.1; spot_is = spot_other (r ++ c) (omega (arith, length-append r c)) kind_too };
      ends = λ w. let h = other_ends r c le kind p w in record { marks = h.0 ∙ ap (λ (m : Mark). m ∷ []) (same_end r c le); rest = h.1 };
    }

plain_of : (s : DataSpot) → spot_of s ≡ Plain → s ≡ Dropped
plain_of Dropped e = refl
plain_of (Within room c) e = absurd cc

pub plain_part : (r c : List ℕ) → IsRest r → spot r ≡ Plain → Arrives r c [] Plain
plain_part r c p e =
    elim (cases_lt (length r) 6) [
      | inl lt ↦ let wrong : Opening ≡ Plain = sym (spot_opening r lt) ∙ e in absurd cc
      | inr le ↦ elim (cases_Bool (nat_eq (frame_kind r) 4)) [
        | inl t ↦
            let d = dropped_later (frame_length r) (drop 6 r) c (plain_of (data_spot (frame_length r) (drop 6 r)) (sym (spot_data r le t) ∙ e)) in
            data_arrives r c [] Dropped p le t d.new d.spot
        | inr t ↦ other_arrives r c p le t
      ]
    ]

-- ---- in a value

-- what the part does inside the value that has started
pdv_arrives : (r c b : List ℕ) (room : ℕ) (old new : List Mark) (s : DataSpot) → IsRest r → WithinPdv r room b
    → pdv_marks room b ≡ old → Marked room (b ++ c) new s → Arrives r c (drop (length old) new) (spot_of s)
pdv_arrives r c b room old new s p v was now =
    let l = within_later (frame_length r) (drop 6 r) room b c v.stands in
    data_arrives r c (drop (length old) new) s p v.headed v.kind (l.new ∙ new_is_drop room b c old new was (marks_are now)) (l.spot ∙ spot_is now)

headless_marks : (room : ℕ) (b : List ℕ) → length b < 6 → pdv_marks room b ≡ []
headless_marks room b lt = marks_are (too_short lt)

started_is : (room : ℕ) (b : List ℕ) → IsUnfinishedPdv room b → 6 ≤ length b → pdv_marks room b ≡ head_mark b ∷ []
started_is room b (in_head lt) le = absurd (omega arith)
started_is room b (in_fragment h two fits short) le = marks_are (unfinished (record { headed = h; least = two; fits = fits }) short)

pub pdv_head_part : (r c b : List ℕ) → IsRest r → spot r ≡ InPdv b → length (b ++ c) < 6 → Arrives r c [] (InPdv (b ++ c))
pdv_head_part r c b p e lt =
    let v = within_pdv r b p e in
    pdv_arrives r c b v.0 [] [] (Within v.0 (b ++ c)) p v.1 (headless_marks v.0 b (omega (arith, length-append b c)))
    (too_short lt)

pub pdv_head_bad : (r c b : List ℕ) → IsRest r → spot r ≡ InPdv b → length b < 6 → length (b ++ c) ≡ 6
    → (big_number 4 (b ++ c) < 2) ⊎ (room_remaining r + length b < pdv_size (b ++ c)) → Arrives r c (BadPdv ∷ []) Plain
pdv_head_bad r c b p e lt six why =
    let v = within_pdv r b p e in
    let is : room_remaining r + length b ≡ v.0 = sym v.1.room_is in
    let why_too : (big_number 4 (b ++ c) < 2) ⊎ (v.0 < pdv_size (b ++ c)) = elim why [ inl x ↦ inl x | inr x ↦ inr (omega (arith, is)) ] in
    pdv_arrives r c b v.0 [] (BadPdv ∷ []) Dropped p v.1 (headless_marks v.0 b lt) (bad (record { headed = omega arith; why = why_too }))

pub pdv_head_done : (r c b : List ℕ) → IsRest r → spot r ≡ InPdv b → length b < 6 → length (b ++ c) ≡ 6 → 2 < big_number 4 (b ++ c)
    → pdv_size (b ++ c) ≤ room_remaining r + length b → Arrives r c (head_mark (b ++ c) ∷ []) (InPdv (b ++ c))
pdv_head_done r c b p e lt six two fits =
    let v = within_pdv r b p e in
    let fits_too : pdv_size (b ++ c) ≤ v.0 = omega (arith, v.1.room_is) in
    pdv_arrives r c b v.0 [] (head_mark (b ++ c) ∷ []) (Within v.0 (b ++ c)) p v.1 (headless_marks v.0 b lt)
    (unfinished (record { headed = omega arith; least = omega arith; fits = fits_too }) (omega arith))

leftover_is : (room : ℕ) → spot_of (leftover_at room) ≡ leftover_spot room
leftover_is room =
    elim (cases_Bool (is_leftover room)) [
      | inl t ↦ rw t refl
      | inr t ↦ rw t refl
    ]

room_after : (r c b : List ℕ) (room : ℕ) → WithinPdv r room b → length c ≤ room_remaining r → room - length (b ++ c) ≡ room_remaining r - length c
room_after r c b room v le = omega (arith, v.room_is, length-append b c)

pdv_ends : (r c b : List ℕ) (room : ℕ) (old : List Mark) → IsRest r → WithinPdv r room b → length c ≤ room_remaining r → pdv_marks room b ≡ old → 6 ≤ length (b ++ c) → 2 ≤ big_number 4 (b ++ c)
    → pdv_size (b ++ c) ≡ length (b ++ c) → Arrives r c (drop (length old) (head_mark (b ++ c) ∷ pdv_mark (b ++ c) ∷ leftover_marks (room_remaining r - length c))) (leftover_spot (room_remaining r - length c))
pdv_ends r c b room old p v le was six two size =
    let fits : pdv_size (b ++ c) ≤ room = omega (arith, v.room_is, length-append b c) in
    let one = just_whole room (b ++ c) (record { headed = six; least = two; fits = fits }) size in
    let h = pdv_arrives r c b room old _ _ p v was one in
    rw (← leftover_is (room_remaining r - length c), ← room_after r c b room v le) h

pub pdv_head_whole : (r c b : List ℕ) → IsRest r → spot r ≡ InPdv b → length c ≤ room_remaining r → length b < 6 → length (b ++ c) ≡ 6 → big_number 4 (b ++ c) ≡ 2
    → Arrives r c (head_mark (b ++ c) ∷ pdv_mark (b ++ c) ∷ leftover_marks (room_remaining r - length c)) (leftover_spot (room_remaining r - length c))
pdv_head_whole r c b p e le lt six two =
    let v = within_pdv r b p e in
    pdv_ends r c b v.0 [] p v.1 le (headless_marks v.0 b lt) (omega arith) (omega arith) (omega arith)

pub fragment_part : (r c b : List ℕ) → IsRest r → spot r ≡ InPdv b → 6 ≤ length b → length (b ++ c) < pdv_size b → Arrives r c [] (InPdv (b ++ c))
fragment_part r c b p e six lt =
    let v = within_pdv r b p e in
    let s = same_head b c six in
    let h : IsUnfinishedPdv v.0 b = v.1.is in
    let long : 6 ≤ length (b ++ c) = omega (arith, length-append b c) in
    elim h [
      | in_head short ↦ absurd (omega arith)
      | in_fragment six_too two fits short ↦
          let two_too : 2 ≤ big_number 4 (b ++ c) = omega (arith, s.number) in
          let fits_too : pdv_size (b ++ c) ≤ v.0 = omega (arith, s.number) in
          let short_too : length (b ++ c) < pdv_size (b ++ c) = omega (arith, s.number) in
          pdv_arrives r c b v.0 (head_mark b ∷ []) (head_mark (b ++ c) ∷ []) (Within v.0 (b ++ c)) p v.1 (started_is v.0 b v.1.is six)
          (unfinished (record { headed = long; least = two_too; fits = fits_too }) short_too)
    ]

pub fragment_done : (r c b : List ℕ) → IsRest r → spot r ≡ InPdv b → length c ≤ room_remaining r → 6 ≤ length b → length (b ++ c) ≡ pdv_size b
    → Arrives r c (pdv_mark (b ++ c) ∷ leftover_marks (room_remaining r - length c)) (leftover_spot (room_remaining r - length c))
fragment_done r c b p e le six size =
    let v = within_pdv r b p e in
    let s = same_head b c six in
    let h : IsUnfinishedPdv v.0 b = v.1.is in
    elim h [
      | in_head short ↦ absurd (omega arith)
      | in_fragment six_too two fits short ↦
          pdv_ends r c b v.0 (head_mark b ∷ []) p v.1 le (started_is v.0 b v.1.is six) (omega (arith, length-append b c)) (omega (arith, s.number)) (omega (arith, s.number))
    ]
