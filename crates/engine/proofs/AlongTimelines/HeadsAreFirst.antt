-- Along a timeline the mark of a presentation data value comes after that of its head, and the end of an association request
-- after its head (`timeline_headed`); and the last mark says what has started at the end of the stream (`timeline_started`).
-- Stands on the laws of `pdu`.
use Rattle.std.proofs.Common.{◌≡◌, ℕ, zero, suc, ◌+◌, ◌-◌, ◌≤◌, Bool, true, false, ◌||◌, List, [], ◌∷◌, ◌++◌, length, take, drop, get_or, map, Option, Some, None, refl, sym, ap, subst, ◌∙◌, append_assoc, arith, nat_eq, nat_lt, eqb-true, ltb-true, ltb-false, if◌then◌else◌}
use Rattle.std.proofs.lemmas.Grind.{common_steps}
use Rattle.std.proofs.lemmas.List.{take-append-drop, length-take, length-drop}
use Rattle.std.specs.List.{flat_map, AllByRecursion}
use Rattle.byteorder.specs.Endian.{big_number}
use Rattle.pdu.specs.Frames.{frame, frames_of, rest_of}
use Rattle.pdu.specs.Pieces.{with_first, pieces_in, pieces_of}
use Rattle.pdu.specs.Pdvs.{Pdvs, DataSpot, Dropped, Within, with_pdv, pdvs_in, data_spot}
use Rattle.pdu.specs.Marks.{Mark, Head, PdvHead, Pdv, BadPdv, Leftover, End, head_mark, pdv_size, is_leftover, pdv_marks, inner_marks, whole_marks, unfinished_marks, frame_kind, frame_length, marks, new_marks}
use Rattle.pdu.specs.Spot.{Opening, Plain, InPdv, spot, spot_of}
use Rattle.pdu.proofs.Public.{new_nothing, new_then, same_frame}
use Rattle.engine.specs.Inputs.{Received, Bytes, Close, Expiry, UserAbort, stream_of}
use Rattle.engine.specs.Timeline.{Entry, At, Shut, TimedOut, Aborted, entries}

-- what the last mark began
pub data Opened : Type 0 where
  -- nothing
  Between : Opened
  -- a PDU of this type and length
  OfPdu : (kind n : ℕ) → Opened
  -- a presentation data value, by its head
  OfPdv : (n context control : ℕ) → Opened

abbrev pub opens : Mark → Opened
opens (Head kind n) = OfPdu kind n
opens (PdvHead n context control) = OfPdv n context control
opens (Pdv context control fragment) = Between
opens BadPdv = Between
opens Leftover = Between
opens (End kind body) = Between

-- it ends what has started: a value, or a request; P holds of the bytes that it brings
abbrev pub IsHeaded : (List ℕ → Type 0) → Opened → Mark → Type 0
IsHeaded P o (Pdv context control fragment) = (o ≡ OfPdv (length fragment + 2) context control) × P fragment
IsHeaded P o (End kind body) = (nat_eq kind 1 ≡ true → o ≡ OfPdu kind (length body)) × P body
IsHeaded P o (Head kind n) = Unit {0}
IsHeaded P o (PdvHead n context control) = Unit {0}
IsHeaded P o BadPdv = Unit {0}
IsHeaded P o Leftover = Unit {0}

abbrev pub AreHeaded : (List ℕ → Type 0) → Opened → List Mark → Type 0
AreHeaded P o [] = Unit {0}
AreHeaded P o (m ∷ ms) = IsHeaded P o m × AreHeaded P (opens m) ms

-- what has started after the marks
abbrev pub open_after : Opened → List Mark → Opened
open_after o [] = o
open_after o (m ∷ ms) = open_after (opens m) ms

-- the same along a timeline, where other inputs may stand between the two

abbrev pub opens_at : Opened → Entry → Opened
opens_at o (At mark) = opens mark
opens_at o Shut = o
opens_at o TimedOut = o
opens_at o Aborted = o

abbrev pub IsHeadedAt : (List ℕ → Type 0) → Opened → Entry → Type 0
IsHeadedAt P o (At mark) = IsHeaded P o mark
IsHeadedAt P o Shut = Unit {0}
IsHeadedAt P o TimedOut = Unit {0}
IsHeadedAt P o Aborted = Unit {0}

abbrev pub AreHeadedAt : (List ℕ → Type 0) → Opened → List Entry → Type 0
AreHeadedAt P o [] = Unit {0}
AreHeadedAt P o (e ∷ es) = IsHeadedAt P o e × AreHeadedAt P (opens_at o e) es

abbrev pub open_at_end : Opened → List Entry → Opened
open_at_end o [] = o
open_at_end o (e ∷ es) = open_at_end (opens_at o e) es

-- the unfinished PDU agrees with what has started
pub record IsStarted (P : List ℕ → Type 0) (r : List ℕ) (o : Opened) : Type 0 where
  pub request : 6 ≤ length r → nat_eq (frame_kind r) 1 ≡ true → o ≡ OfPdu (frame_kind r) (frame_length r)
  pub pdv : (part : List ℕ) → spot r ≡ InPdv part → P part × (6 ≤ length part → o ≡ OfPdv (big_number 4 part) (get_or part 4 0) (get_or part 5 0))

-- P holds of the parts of a text of which it holds
pub record HoldsOfParts (P : List ℕ → Type 0) : Type 0 where
  pub accepts : (n : ℕ) (xs : List ℕ) → P xs → P (take n xs)
  pub drops : (n : ℕ) (xs : List ℕ) → P xs → P (drop n xs)

after_more : (o : Opened) (xs ys : List Mark) → open_after o (xs ++ ys) ≡ open_after (open_after o xs) ys
after_more o [] ys = refl
after_more o (x ∷ xs) ys = after_more (opens x) xs ys

headed_then : (P : List ℕ → Type 0) (o : Opened) (xs ys : List Mark) → AreHeaded P o xs → AreHeaded P (open_after o xs) ys → AreHeaded P o (xs ++ ys)
headed_then P o [] ys h k = k
headed_then P o (x ∷ xs) ys h k = (h.0, headed_then P (opens x) xs ys h.1 k)

module _ (P : List ℕ → Type 0) (parts : HoldsOfParts P) where
  -- ---- the values of a PDU

  -- by whether the head has come, is bad, and the value is whole
  abbrev by_front : Bool → Bool → Bool → Bool → ℕ → List ℕ → Pdvs → Pdvs
  by_front a b c d room bytes later =
      if a then record { marks = []; spot = Within room bytes }
      else (if b || c then record { marks = BadPdv ∷ []; spot = Dropped }
      else (if d then record { marks = head_mark bytes ∷ []; spot = Within room bytes }
      else with_pdv bytes later))

  front_headed : (a b c d : Bool) (room : ℕ) (bytes : List ℕ) (later : Pdvs) → P bytes → nat_lt (length bytes) 6 ≡ a → nat_lt (big_number 4 bytes) 2 ≡ b → nat_lt (length bytes) (pdv_size bytes) ≡ d
      → ((o : Opened) → AreHeaded P o later.marks) → (o : Opened)
      → AreHeaded P o (by_front a b c d room bytes later).marks
  front_headed true b c d room bytes later p e f g h o = tt
  front_headed false true c d room bytes later p e f g h o = (tt, tt)
  front_headed false false true d room bytes later p e f g h o = (tt, tt)
  front_headed false false false true room bytes later p e f g h o = (tt, tt)
  front_headed false false false false room bytes later p e f g h o =
      let n = big_number 4 bytes in
      let six : 6 ≤ length bytes = ltb-false (length bytes) 6 e in
      let two : 2 ≤ n = ltb-false n 2 f in
      let enough : 4 + n ≤ length bytes = ltb-false (length bytes) (pdv_size bytes) g in
      let size : length (take (n - 2) (drop 6 bytes)) + 2 ≡ n = omega (arith, six, two, enough, length-take (n - 2) (drop 6 bytes), length-drop 6 bytes) in
      (tt, ((ap (λ (k : ℕ). OfPdv k (get_or bytes 4 0) (get_or bytes 5 0)) (sym size), parts.accepts (n - 2) (drop 6 bytes) (parts.drops 6 bytes p)), h Between))

  leftover_headed : (b : Bool) (later : Pdvs) → ((o : Opened) → AreHeaded P o later.marks) → (o : Opened) → AreHeaded P o (if b then record { marks = Leftover ∷ []; spot = Dropped } else later).marks
  leftover_headed true later h o = (tt, tt)
  leftover_headed false later h o = h o

  pdvs_headed : (k room : ℕ) (bytes : List ℕ) → P bytes → (o : Opened) → AreHeaded P o (pdvs_in k room bytes).marks
  pdvs_headed zero room bytes p o = tt
  pdvs_headed (suc k) room bytes p o =
      let n = pdv_size bytes in
      front_headed (nat_lt (length bytes) 6) (nat_lt (big_number 4 bytes) 2) (nat_lt room n) (nat_lt (length bytes) n) room bytes (if is_leftover (room - n) then record { marks = Leftover ∷ []; spot = Dropped } else pdvs_in k (room - n) (drop n bytes)) p refl refl refl
      (leftover_headed (is_leftover (room - n)) (pdvs_in k (room - n) (drop n bytes)) (pdvs_headed k (room - n) (drop n bytes) (parts.drops n bytes p))) o

  data_headed : (room : ℕ) (bytes : List ℕ) → P bytes → (o : Opened) → AreHeaded P o (pdv_marks room bytes)
  unfolding pdv_marks
  data_headed room bytes p o = pdvs_headed (length bytes) room bytes p o

  -- where the last one has started
  abbrev IsStartedAt : DataSpot → Opened → Type 0
  IsStartedAt Dropped o = Unit {0}
  IsStartedAt (Within room part) o = P part × (6 ≤ length part → o ≡ OfPdv (big_number 4 part) (get_or part 4 0) (get_or part 5 0))

  front_started : (a b c d : Bool) (room : ℕ) (bytes : List ℕ) (later : Pdvs) → P bytes → nat_lt (length bytes) 6 ≡ a → nat_lt (length bytes) (pdv_size bytes) ≡ d
      → ((o : Opened) → 6 ≤ length bytes → IsStartedAt later.spot (open_after o later.marks)) → (o : Opened)
      → IsStartedAt (by_front a b c d room bytes later).spot
      (open_after o (by_front a b c d room bytes later).marks)
  front_started true b c d room bytes later p e g h o = (p, λ six. absurd (let lt = ltb-true (length bytes) 6 e in omega (arith, lt, six)))
  front_started false true c d room bytes later p e g h o = tt
  front_started false false true d room bytes later p e g h o = tt
  front_started false false false true room bytes later p e g h o = (p, λ six. refl)
  front_started false false false false room bytes later p e g h o = h Between (ltb-false (length bytes) 6 e)

  leftover_started : (b : Bool) (later : Pdvs) (o : Opened) → IsStartedAt later.spot (open_after o later.marks)
      → IsStartedAt (if b then record { marks = Leftover ∷ []; spot = Dropped } else later).spot (open_after o (if b then record { marks = Leftover ∷ []; spot = Dropped } else later).marks)
  leftover_started b later o h = grind (arith, common_steps)

  pdvs_started : (k room : ℕ) (bytes : List ℕ) → P bytes → length bytes ≤ k → (o : Opened) → IsStartedAt (pdvs_in k room bytes).spot (open_after o (pdvs_in k room bytes).marks)
  pdvs_started zero room bytes p few o = (p, λ six. absurd (omega (arith, few, six)))
  pdvs_started (suc k) room bytes p few o =
      let n = pdv_size bytes in
      front_started (nat_lt (length bytes) 6) (nat_lt (big_number 4 bytes) 2) (nat_lt room n) (nat_lt (length bytes) n) room bytes (if is_leftover (room - n) then record { marks = Leftover ∷ []; spot = Dropped } else pdvs_in k (room - n) (drop n bytes)) p refl refl
      (λ q six. leftover_started (is_leftover (room - n)) (pdvs_in k (room - n) (drop n bytes)) q (pdvs_started k (room - n) (drop n bytes) (parts.drops n bytes p) (omega (arith, few, six, length-drop n bytes)) q)) o

  data_started : (room : ℕ) (bytes : List ℕ) → P bytes → (o : Opened) → IsStartedAt (data_spot room bytes) (open_after o (pdv_marks room bytes))
  unfolding pdv_marks data_spot
  data_started room bytes p o = pdvs_started (length bytes) room bytes p (omega arith) o

  -- ---- whole PDUs

  -- it has as many bytes as its head says
  record IsGood (f : List ℕ) : Type 0 where
    bytes : P f
    size : length (drop 6 f) ≡ frame_length f

  either_headed : (b : Bool) (xs : List Mark) (o : Opened) → AreHeaded P o xs → AreHeaded P o (if b then xs else [])
  either_headed b xs o h = grind (arith, common_steps)

  -- the end of a request comes right after its head
  end_headed : (f : List ℕ) (b : Bool) → nat_eq (frame_kind f) 4 ≡ b → IsGood f → (ms : List Mark) → AreHeaded P (open_after (OfPdu (frame_kind f) (frame_length f)) (if b then ms else [])) (End (frame_kind f) (drop 6 f) ∷ [])
  end_headed f true e g ms = ((λ one. absurd (let four = eqb-true (frame_kind f) 4 e in let is = eqb-true (frame_kind f) 1 one in omega (arith, four, is)), parts.drops 6 f g.bytes), tt)
  end_headed f false e g ms = ((λ one. ap (OfPdu (frame_kind f)) (sym g.size), parts.drops 6 f g.bytes), tt)

  whole_headed : (f : List ℕ) (o : Opened) → IsGood f → AreHeaded P o (whole_marks f)
  whole_headed f o g =
      let values = pdv_marks (frame_length f) (drop 6 f) in
      let k = OfPdu (frame_kind f) (frame_length f) in (
        tt,
        headed_then P k (inner_marks f) (End (frame_kind f) (drop 6 f) ∷ []) (either_headed (nat_eq (frame_kind f) 4) values k (data_headed (frame_length f) (drop 6 f) (parts.drops 6 f g.bytes) k))
            (end_headed f (nat_eq (frame_kind f) 4) refl g values),
      )

  frames_headed : (fs : List (List ℕ)) (ys : List Mark) → AllByRecursion IsGood fs → ((o : Opened) → AreHeaded P o ys) → (o : Opened) → AreHeaded P o (flat_map whole_marks fs ++ ys)
  frames_headed [] ys all h o = h o
  frames_headed (f ∷ fs) ys all h o =
      subst (AreHeaded P o) (sym (append_assoc (whole_marks f) (flat_map whole_marks fs) ys))
      (headed_then P o (whole_marks f) (flat_map whole_marks fs ++ ys) (whole_headed f o all.0) (frames_headed fs ys all.1 h (open_after o (whole_marks f))))

  -- ---- the frames of a stream

  abbrev AreGood : List (List ℕ) × List ℕ → Type 0
  AreGood x = AllByRecursion IsGood x.0 × P x.1

  good_then : (f : List ℕ) (x : List (List ℕ) × List ℕ) → IsGood f → AreGood x → AreGood (with_first f x)
  good_then f (fs, r) g h = ((g, h.0), h.1)

  abbrev by_first : ℕ → List ℕ → Option (List ℕ × List ℕ) → List (List ℕ) × List ℕ
  by_first k text o = elim o [ None ↦ ([], text) | Some (piece, more) ↦ with_first piece (pieces_in frame k more) ]

  good_front : (text : List ℕ) → P text → 6 ≤ length text → 6 + frame_length text ≤ length text → IsGood (take (6 + frame_length text) text)
  good_front text p six enough =
      let n = 6 + frame_length text in
      let size : length (take n text) ≡ n = omega (arith, length-take n text, enough) in
      let same : frame_length text ≡ frame_length (take n text) = ap frame_length (sym (take-append-drop n text)) ∙ (same_frame (take n text) (drop n text) (omega (arith, size))).n in
      record { bytes = parts.accepts n text p; size = omega (arith, size, same, length-drop 6 (take n text)) }

  frames_good : (k : ℕ) (text : List ℕ) → P text → AreGood (pieces_in frame k text)
  frames_good zero text p = (tt, p)
  frames_good (suc k) text p = by (nat_lt (length text) 6) (nat_lt (length text) (6 + frame_length text)) refl refl (frames_good k (drop (6 + frame_length text) text) (parts.drops (6 + frame_length text) text p))
    where
      by : (a b : Bool) → nat_lt (length text) 6 ≡ a → nat_lt (length text) (6 + frame_length text) ≡ b → AreGood (pieces_in frame k (drop (6 + frame_length text) text))
          → AreGood (by_first k text (if a then None else (if b then None else Some (take (6 + frame_length text) text, drop (6 + frame_length text) text))))
      by true b e g later = (tt, p)
      by false true e g later = (tt, p)
      by false false e g later =
          let n = 6 + frame_length text in
          good_then (take n text) (pieces_in frame k (drop n text)) (good_front text p (ltb-false (length text) 6 e) (ltb-false (length text) n g)) later

  stream_good : (stream : List ℕ) → P stream → AllByRecursion IsGood (frames_of stream) × P (rest_of stream)
  unfolding frames_of rest_of pieces_of
  stream_good stream p = frames_good (length stream) stream p

  -- ---- what has started

  unfinished_headed : (r : List ℕ) (o : Opened) → P r → AreHeaded P o (unfinished_marks r)
  unfinished_headed r o p = by (nat_lt (length r) 6)
    where
      by : (b : Bool) → AreHeaded P o (if b then [] else Head (frame_kind r) (frame_length r) ∷ inner_marks r)
      by true = tt
      by false = (tt, either_headed (nat_eq (frame_kind r) 4) (pdv_marks (frame_length r) (drop 6 r)) (OfPdu (frame_kind r) (frame_length r)) (data_headed (frame_length r) (drop 6 r) (parts.drops 6 r p) (OfPdu (frame_kind r) (frame_length r))))

  same_part : (a b : List ℕ) → InPdv a ≡ InPdv b → a ≡ b
  same_part a b e = cc

  by_spot : (d : DataSpot) (o : Opened) (part : List ℕ) → IsStartedAt d o → spot_of d ≡ InPdv part → P part × (6 ≤ length part → o ≡ OfPdv (big_number 4 part) (get_or part 4 0) (get_or part 5 0))
  by_spot Dropped o part h e = absurd cc
  by_spot (Within room b) o part h e = subst (λ (x : List ℕ). P x × (6 ≤ length x → o ≡ OfPdv (big_number 4 x) (get_or x 4 0) (get_or x 5 0))) (same_part b part e) h

  unfinished_started : (r : List ℕ) (o : Opened) → P r → IsStarted P r (open_after o (unfinished_marks r))
  unfolding spot
  unfinished_started r o p = by (nat_lt (length r) 6) (nat_eq (frame_kind r) 4) refl refl
    where
      k : Opened
      k = OfPdu (frame_kind r) (frame_length r)

      values : List Mark
      values = pdv_marks (frame_length r) (drop 6 r)

      by : (a b : Bool) → nat_lt (length r) 6 ≡ a → nat_eq (frame_kind r) 4 ≡ b → IsStarted P r (open_after o (unfinished_marks r))
      by true b e f =
          let none : unfinished_marks r ≡ [] = rw e refl in
          record {
            request = λ six. absurd (let lt = ltb-true (length r) 6 e in omega (arith, lt, six));
            pdv = λ part is. absurd (let wrong : Opening ≡ InPdv part = rw e at is in cc);
          }
      by false true e f =
          let all : open_after o (unfinished_marks r) ≡ open_after k values = rw (e, f) refl in
          record {
            request = λ six one. absurd (let four = eqb-true (frame_kind r) 4 f in let is = eqb-true (frame_kind r) 1 one in omega (arith, four, is));
            pdv = λ part is. subst (λ (x : Opened). P part × (6 ≤ length part → x ≡ OfPdv (big_number 4 part) (get_or part 4 0) (get_or part 5 0))) (sym all)
                (by_spot (data_spot (frame_length r) (drop 6 r)) (open_after k values) part (data_started (frame_length r) (drop 6 r) (parts.drops 6 r p) k) (rw (e, f) at is));
          }
      by false false e f =
          let all : open_after o (unfinished_marks r) ≡ k = rw (e, f) refl in
          record {
            request = λ six one. all;
            pdv = λ part is. absurd (let wrong : Plain ≡ InPdv part = rw (e, f) at is in cc);
          }

  -- ---- a stream

  marks_headed : (stream : List ℕ) → P stream → AreHeaded P Between (marks stream)
  unfolding marks
  marks_headed stream p =
      let good = stream_good stream p in
      frames_headed (frames_of stream) (unfinished_marks (rest_of stream)) good.0 (λ o. unfinished_headed (rest_of stream) o good.1) Between

  marks_started : (stream : List ℕ) → P stream → IsStarted P (rest_of stream) (open_after Between (marks stream))
  unfolding marks
  marks_started stream p =
      let whole = flat_map whole_marks (frames_of stream) in
      let rest = rest_of stream in
      subst (IsStarted P rest) (sym (after_more Between whole (unfinished_marks rest))) (unfinished_started rest (open_after Between whole) (stream_good stream p).1)

-- ---- along a timeline

all_new : (stream : List ℕ) → new_marks [] stream ≡ marks stream
unfolding new_marks marks frames_of rest_of pieces_of
all_new stream = refl

along : (P : List ℕ → Type 0) (o : Opened) (xs ys : List Mark) (es : List Entry) → AreHeaded P o (xs ++ ys) → ((q : Opened) → AreHeaded P q ys → AreHeadedAt P q es) → AreHeadedAt P o (map At xs ++ es)
along P o [] ys es h k = k o h
along P o (x ∷ xs) ys es h k = (h.0, along P (opens x) xs ys es h.1 k)

entries_headed : (P : List ℕ → Type 0) (o : Opened) (before : List ℕ) (inputs : List Received) → AreHeaded P o (new_marks before (stream_of inputs)) → AreHeadedAt P o (entries before inputs)
entries_headed P o before [] h = tt
entries_headed P o before (Bytes piece ∷ inputs) h =
    along P o (new_marks before piece) (new_marks (before ++ piece) (stream_of inputs)) (entries (before ++ piece) inputs)
    (subst (AreHeaded P o) (new_then before piece (stream_of inputs)) h) (λ q k. entries_headed P q (before ++ piece) inputs k)
entries_headed P o before (Close ∷ inputs) h = (tt, entries_headed P o before inputs h)
entries_headed P o before (Expiry ∷ inputs) h = (tt, entries_headed P o before inputs h)
entries_headed P o before (UserAbort ∷ inputs) h = (tt, entries_headed P o before inputs h)

open_along : (o : Opened) (xs : List Mark) (es : List Entry) → open_at_end o (map At xs ++ es) ≡ open_at_end (open_after o xs) es
open_along o [] es = refl
open_along o (x ∷ xs) es = open_along (opens x) xs es

entries_open : (o : Opened) (before : List ℕ) (inputs : List Received) → open_at_end o (entries before inputs) ≡ open_after o (new_marks before (stream_of inputs))
entries_open o before [] = ap (open_after o) (sym (new_nothing before))
entries_open o before (Bytes piece ∷ inputs) =
    open_along o (new_marks before piece) (entries (before ++ piece) inputs)
    ∙ entries_open (open_after o (new_marks before piece)) (before ++ piece) inputs
    ∙ sym (ap (open_after o) (new_then before piece (stream_of inputs)) ∙ after_more o (new_marks before piece) (new_marks (before ++ piece) (stream_of inputs)))
entries_open o before (Close ∷ inputs) = entries_open o before inputs
entries_open o before (Expiry ∷ inputs) = entries_open o before inputs
entries_open o before (UserAbort ∷ inputs) = entries_open o before inputs

pub timeline_headed : (P : List ℕ → Type 0) → HoldsOfParts P → (inputs : List Received) → P (stream_of inputs) → AreHeadedAt P Between (entries [] inputs)
timeline_headed P parts inputs p = entries_headed P Between [] inputs (subst (AreHeaded P Between) (sym (all_new (stream_of inputs))) (marks_headed P parts (stream_of inputs) p))

pub timeline_started : (P : List ℕ → Type 0) → HoldsOfParts P → (inputs : List Received) → P (stream_of inputs) → IsStarted P (rest_of (stream_of inputs)) (open_at_end Between (entries [] inputs))
timeline_started P parts inputs p =
    subst (IsStarted P (rest_of (stream_of inputs))) (sym (entries_open Between [] inputs ∙ ap (open_after Between) (all_new (stream_of inputs)))) (marks_started P parts (stream_of inputs) p)
