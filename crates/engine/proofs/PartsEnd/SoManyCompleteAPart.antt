-- As many bytes as are due of a part complete it (`completes_part`), and some are due (`none_due`). Stands on
-- OutputIsBounded/OutputOfAPortion, PiecesAreDone/FramesAndMarks and the laws of `pdu`.
use Rattle.std.proofs.Common.{◌≡◌, ◌≢◌, ◌⊎◌, ℕ, ◌+◌, ◌-◌, ◌<◌, ◌≤◌, min, Bool, false, List, [], ◌∷◌, ◌++◌, length, map, refl, sym, ap, ◌∙◌, arith, inl, inr}
use Rattle.std.proofs.Math.Nat.{min-le_left, min-le_right}
use Rattle.std.proofs.lemmas.Bool.{cases_lt}
use Rattle.std.proofs.lemmas.List.{length-append}
use Rattle.byteorder.specs.Endian.{big_number}
use Rattle.pdu.specs.declared.position.Position.{Position}
use Rattle.pdu.specs.declared.position.Position.TheVariants as position
use Rattle.pdu.specs.Deframing.{At, AtBody, AtPdvHead, in_body, after_body, in_fragment, after_fragment, InFragment, SkipsAt}
use Rattle.pdu.specs.Frames.{IsFrame, IsRest, rest_of}
use Rattle.pdu.specs.Marks.{Mark, pdv_size, new_marks, frame_length}
use Rattle.pdu.specs.Parts.{Arrives, IsUnfinishedPdv, in_head, end_mark}
use Rattle.pdu.specs.Parts as unfinished
use Rattle.pdu.specs.Spot.{Spot, room_remaining}
use Rattle.pdu.specs.Steps.{bytes_due}
use Rattle.pdu.proofs.Public.{new_rest, head_done, plain_part, pdv_head_part, pdv_head_bad, pdv_head_done, pdv_head_whole, fragment_done, unfinished_pdv, marks_within}
use Rattle.negotiate.specs.Settings.{Settings}
use Rattle.part10.specs.Store.{Store}
use Rattle.engine.specs.FrameFields.{Fields, StandsAt, reads, skips}
use Rattle.engine.specs.Held.{is_ended}
use Rattle.engine.specs.Inputs.{Received, stream_of}
use Rattle.engine.specs.Parts.{CompletesPart}
use Rattle.engine.specs.Run.{Rooms}
use Rattle.engine.specs.Stands.{Stands}
use Rattle.engine.specs.Timeline as timeline
use Rattle.engine.specs.Timeline.{Entry, Happened, entries}
use Rattle.engine.proofs.OutputIsBounded.OutputOfAPortion.{entries_of_piece}
use Rattle.engine.proofs.PiecesAreDone.FramesAndMarks.{more}

-- ---- some marks

some_last : (ms : List Mark) (m : Mark) (xs : List Mark) → xs ≡ ms ++ m ∷ [] → xs ≢ []
some_last [] m xs e none = absurd cc
some_last (n ∷ ms) m xs e none = absurd cc

some_first : (m : Mark) (ms xs : List Mark) → xs ≡ m ∷ ms → xs ≢ []
some_first m ms xs e none = absurd cc

-- of bytes that complete a PDU
ends_some : (r c : List ℕ) (ms : List Mark) (at : Spot) → Arrives r c ms at → IsFrame (r ++ c) → new_marks r c ≢ []
ends_some r c ms at arrives frame = some_last ms (end_mark (r ++ c)) (new_marks r c) (arrives.ends frame).marks

-- of bytes that have a mark inside a PDU
arrives_some : (r c : List ℕ) (m : Mark) (ms : List Mark) (at : Spot) → Arrives r c (m ∷ ms) at → IsRest (r ++ c) ⊎ IsFrame (r ++ c) → new_marks r c ≢ []
arrives_some r c m ms at arrives (inl rest) = some_first m ms (new_marks r c) (arrives.continues rest).marks
arrives_some r c m ms at arrives (inr frame) = ends_some r c (m ∷ ms) at arrives frame

-- a PDU continues or is complete
rest_or_frame : (r c : List ℕ) → IsRest r → 6 ≤ length r → length c ≤ room_remaining r → IsRest (r ++ c) ⊎ IsFrame (r ++ c)
rest_or_frame r c rest headed le =
    elim (cases_lt (length c) (room_remaining r)) [
      | inl lt ↦ inl ((more r c headed).goes lt)
      | inr ge ↦ inr ((more r c headed).ends rest (omega (arith, le, ge)))
    ]

-- ---- by the part

head_some : (r c : List ℕ) → length r < 6 → length (r ++ c) ≡ 6 → new_marks r c ≢ []
head_some r c short whole =
    arrives_some r c _ _ _ (head_done r c short whole) (elim (cases_lt 0 (frame_length (r ++ c))) [
      | inl lt ↦ inl (λ _. omega (arith, lt, whole))
      | inr none ↦ inr (record { headed = omega (arith, whole); filled = omega (arith, none, whole) })
    ])

body_some : (kind remaining : ℕ) (r c : List ℕ) → AtBody kind remaining r [] → length c ≡ remaining → new_marks r c ≢ []
body_some kind remaining r c (in_body some inside none) e =
    ends_some r c _ _ (plain_part r c inside.rest inside.spot_is) ((more r c inside.headed).ends inside.rest (e ∙ inside.remaining_is))
body_some kind remaining r c (after_body over) e = absurd (let d = over.due_is in cc)

module _ (remaining : ℕ) (b r c : List ℕ) (a : AtPdvHead remaining b r []) (within : length c ≤ remaining) where
  reaches : IsRest (r ++ c) ⊎ IsFrame (r ++ c)
  reaches = rest_or_frame r c a.inside.rest a.inside.headed (omega (arith, within, a.inside.remaining_is))

  -- the head of a presentation data value is whole
  whole_some : length (b ++ c) ≡ 6 → new_marks r c ≢ []
  whole_some whole =
      let i = a.inside in
      let fits : length c ≤ room_remaining r = omega (arith, within, i.remaining_is) in
      elim (cases_lt (big_number 4 (b ++ c)) 2) [
        | inl few ↦ arrives_some r c _ _ _ (pdv_head_bad r c b i.rest i.spot_is a.short whole (inl few)) reaches
        | inr least ↦ elim (cases_lt (room_remaining r + length b) (pdv_size (b ++ c))) [
          | inl past ↦ arrives_some r c _ _ _ (pdv_head_bad r c b i.rest i.spot_is a.short whole (inr past)) reaches
          | inr within ↦ elim (cases_lt 2 (big_number 4 (b ++ c))) [
            | inl some ↦ arrives_some r c _ _ _ (pdv_head_done r c b i.rest i.spot_is a.short whole some within) reaches
            | inr none ↦ arrives_some r c _ _ _ (pdv_head_whole r c b i.rest i.spot_is fits a.short whole (omega (arith, least, none))) reaches
          ]
        ]
      ]

  pdv_head_some : (length c ≡ remaining) ⊎ (length (b ++ c) ≡ 6) → length (b ++ c) ≤ 6 → new_marks r c ≢ []
  pdv_head_some (inr whole) le = whole_some whole
  pdv_head_some (inl all) le =
      elim (cases_lt (length (b ++ c)) 6) [
        | inl short ↦
            let i = a.inside in
            ends_some r c _ _ (pdv_head_part r c b i.rest i.spot_is short) ((more r c i.headed).ends i.rest (all ∙ i.remaining_is))
        | inr ge ↦ whole_some (omega (arith, le, ge))
      ]

fragment_some : (remaining most : ℕ) (r c : List ℕ) → InFragment remaining most r [] → length c ≡ most → new_marks r c ≢ []
fragment_some remaining most r c f e =
    let room : pdv_size f.part ≤ room_remaining r + length f.part = by (unfinished_pdv r f.part f.inside.rest f.inside.spot_is) in
    let fits : length c ≤ room_remaining r = omega (arith, e, f.more_is, room) in
    arrives_some r c _ _ _ (fragment_done r c f.part f.inside.rest f.inside.spot_is fits f.headed (omega (arith, e, f.more_is, length-append f.part c)))
    (rest_or_frame r c f.inside.rest f.inside.headed fits)
  where
    by : IsUnfinishedPdv (room_remaining r + length f.part) f.part → pdv_size f.part ≤ room_remaining r + length f.part
    by (in_head short) = absurd (omega (arith, short, f.headed))
    by (unfinished.in_fragment headed least fits short) = fits

min_is : (m n : ℕ) → (min m n ≡ m) ⊎ (min m n ≡ n)
min_is m n = elim (cases_lt m n) [ inl lt ↦ inl (omega (arith, lt)) | inr ge ↦ inr (omega (arith, ge)) ]

part_some : (q : Position) (r c : List ℕ) → At q r [] → length c ≡ bytes_due q → new_marks r c ≢ []
part_some (position.Head bytes) r c a e = head_some r c a.short (omega (arith, e, ap length a.bytes_are, length-append r c, a.short))
part_some (position.Body kind remaining) r c a e = body_some kind remaining r c a e
part_some (position.PdvHead remaining bytes) r c a e =
    let b = bytes.items in
    let total = length-append b c in
    let fewer = min-le_right remaining (6 - length b) in
    pdv_head_some remaining b r c a (omega (arith, e, min-le_left remaining (6 - length b)))
    (elim (min_is remaining (6 - length b)) [ inl all ↦ inl (e ∙ all) | inr whole ↦ inr (omega (arith, e, whole, total, a.short)) ])
    (omega (arith, e, total, fewer, a.short))
part_some (position.Fragment remaining most) r c (in_fragment some f) e = fragment_some remaining most r c f e
part_some (position.Fragment remaining most) r c (after_fragment none f) e = absurd (let d = f.due_is in cc)
part_some (position.Leftover remaining) r c a e = absurd (let d = a.due_is in cc)
part_some (position.Skipped kind remaining) r c a e = absurd (let d = a.due_is in cc)

skipped_some : (q : Position) (r c : List ℕ) → SkipsAt q r → length c ≡ bytes_due q → new_marks r c ≢ []
skipped_some (position.Head bytes) r c a e = absurd a
skipped_some (position.Body kind remaining) r c a e = absurd a
skipped_some (position.PdvHead remaining bytes) r c a e = absurd a
skipped_some (position.Fragment remaining most) r c a e = absurd a
skipped_some (position.Leftover remaining) r c a e = absurd a
skipped_some (position.Skipped kind remaining) r c a e =
    let w = (marks_within r c a.1 a.2).ends ((more r c a.2).ends a.1 (e ∙ a.4)) in
    some_last w.inner (end_mark (r ++ c)) (new_marks r c) w.marks

-- ---- some bytes are due

part_due : (q : Position) (r : List ℕ) → At q r [] → 0 < bytes_due q
part_due (position.Head bytes) r a = omega (arith, a.short, ap length a.bytes_are)
part_due (position.Body kind remaining) r (in_body some inside none) = some
part_due (position.Body kind remaining) r (after_body over) = absurd (let d = over.due_is in cc)
part_due (position.PdvHead remaining bytes) r a =
    let i = a.inside in
    let some : 0 < remaining = omega (arith, i.remaining_is, i.rest i.headed) in
    elim (min_is remaining (6 - length bytes.items)) [ inl all ↦ omega (arith, all, some) | inr whole ↦ omega (arith, whole, a.short) ]
part_due (position.Fragment remaining most) r (in_fragment some f) = some
part_due (position.Fragment remaining most) r (after_fragment none f) = absurd (let d = f.due_is in cc)
part_due (position.Leftover remaining) r a = absurd (let d = a.due_is in cc)
part_due (position.Skipped kind remaining) r a = absurd (let d = a.due_is in cc)

skipped_due : (q : Position) (r : List ℕ) → SkipsAt q r → 0 < bytes_due q
skipped_due (position.Head bytes) r a = absurd a
skipped_due (position.Body kind remaining) r a = absurd a
skipped_due (position.PdvHead remaining bytes) r a = absurd a
skipped_due (position.Fragment remaining most) r a = absurd a
skipped_due (position.Leftover remaining) r a = absurd a
skipped_due (position.Skipped kind remaining) r a = a.0

-- ---- after some inputs

none_mapped : (ms : List Mark) → map timeline.At ms ≡ [] → ms ≡ []
none_mapped [] e = refl
none_mapped (m ∷ ms) e = absurd cc

module _ (rooms : Rooms) (s : Settings) (inputs : List Received) (story : List Happened) (failed : Bool) (f : Fields) (store : Store) (h : Stands rooms s inputs story failed f store) (open_still : is_ended f.kept.state ≡ false) where
  framed : StandsAt f.position f.kept (rest_of (stream_of inputs)) []
  framed = h.shows.frame.framed (ap is_ended (sym h.shows.frame.pends.state_is) ∙ open_still)

  stands_some : (c : List ℕ) → StandsAt f.position f.kept (rest_of (stream_of inputs)) [] → length c ≡ bytes_due f.position → new_marks (rest_of (stream_of inputs)) c ≢ []
  stands_some c (reads a) e = part_some f.position (rest_of (stream_of inputs)) c a e
  stands_some c (skips a u none) e = skipped_some f.position (rest_of (stream_of inputs)) c a e

  stands_due : StandsAt f.position f.kept (rest_of (stream_of inputs)) [] → 0 < bytes_due f.position
  stands_due (reads a) = part_due f.position (rest_of (stream_of inputs)) a
  stands_due (skips a u none) = skipped_due f.position (rest_of (stream_of inputs)) a

  some_due : 0 < bytes_due f.position
  some_due = stands_due framed

  -- so it is not that none are
  pub none_due : (due : ℕ) → due ≡ bytes_due f.position → due ≡ 0 → ⊥
  none_due due is none = omega (arith, is, none, some_due)

  pub completes_part : (most : ℕ) → most ≡ bytes_due f.position → CompletesPart inputs most
  completes_part most due piece e none =
      stands_some piece framed (e ∙ due) (sym (new_rest (stream_of inputs) piece) ∙ none_mapped (new_marks (stream_of inputs) piece) (sym (entries_of_piece (stream_of inputs) piece) ∙ none))
