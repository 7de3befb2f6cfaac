-- A portion of a piece has an association send few bytes (`sends_few`): it completes four marks at most, or marks that send
-- nothing and one end. The close and the timer's expiry send nothing (`silent_sends_nothing`), an abort little
-- (`aborts_shortly`). Stands on OutputOfAPiece, AlongTimelines, FieldsShow/NothingCounts, HeldBytes/HeldIsWithinRooms,
-- PiecesAreDone, WholeRun/OneInputMore and the laws of `pdu`.
use Rattle.std.proofs.Common.{◌≡◌, ◌⊎◌, ℕ, ◌+◌, ◌-◌, ◌*◌, ◌<◌, ◌≤◌, Bool, false, List, [], ◌∷◌, ◌++◌, length, take, drop, map, Option, Some, None, refl, sym, ap, subst, ◌∙◌, arith, inl, inr}
use Rattle.std.proofs.lemmas.Grind.{common_steps}
use Rattle.std.proofs.Math.Nat.{min-le_left, min-le_right}
use Rattle.std.proofs.lemmas.Bool.{cases_lt}
use Rattle.std.proofs.lemmas.List.{append-nil, append_cancel_left, length-append, length-drop, length-map, length-take, map-append, take-append-drop}
use Rattle.std.specs.List.{AllByRecursion}
use Rattle.element.specs.Numbers.{IsBytes}
use Rattle.pdu.specs.declared.position.Position.{Position}
use Rattle.pdu.specs.declared.position.Position.TheVariants as position
use Rattle.pdu.specs.Deframing.{At, AtBody, in_body, after_body, in_fragment, after_fragment, InFragment, SkipsAt, IsInner, AreInner}
use Rattle.pdu.specs.Frames.{rest_of}
use Rattle.pdu.specs.Marks.{Mark, Head, PdvHead, Pdv, BadPdv, Leftover, End, pdv_size, new_marks}
use Rattle.pdu.specs.Parts.{IsUnfinishedPdv, in_head, end_mark}
use Rattle.pdu.specs.Parts as unfinished
use Rattle.pdu.specs.Spot.{room_remaining}
use Rattle.pdu.specs.Steps.{bytes_due}
use Rattle.pdu.proofs.Public.{new_nothing, new_then, new_rest, head_part, plain_part, pdv_head_part, fragment_part, unfinished_pdv, marks_within}
use Rattle.negotiate.specs.Accept.{longest_accept}
use Rattle.negotiate.specs.Settings.{Settings}
use Rattle.part10.specs.Store.{Store}
use Rattle.engine.specs.FrameFields.{Fields, StandsAt, reads, skips}
use Rattle.engine.specs.Held.{is_ended}
use Rattle.engine.specs.Inputs.{Received, Bytes, Close, Expiry, UserAbort, stream_of}
use Rattle.engine.specs.Kept.{accepts_pdvs_in}
use Rattle.engine.specs.OutputLaws.{AnswersHave, IsOfBytes, SendsFew, most_sent, EntriesOfMore, IsSilent, SilentSendsNothing, AbortsShortly}
use Rattle.engine.specs.Progress.{Progress, Advance, at_start, absorb, nothing}
use Rattle.engine.specs.Reached.{reached, accepts_pdvs}
use Rattle.engine.specs.Run.{Rooms, at_entry, cut, gives, progress_of, sent_of}
use Rattle.engine.specs.Stands.{Stands}
use Rattle.engine.specs.Timeline as timeline
use Rattle.engine.specs.Timeline.{Entry, Shut, TimedOut, Aborted, Finding, Happened, entries, entries_of}
use Rattle.engine.proofs.HeldBytes.HeldIsWithinRooms.{bytes_parts}
use Rattle.engine.proofs.AlongTimelines.AbortsAreSent.{closed_silent, expired_silent}
use Rattle.engine.proofs.AlongTimelines.HeadsAreFirst.{Opened, Between, opens_at, AreHeadedAt, timeline_headed}
use Rattle.engine.proofs.WholeRun.OneInputMore.{stream_then}
use Rattle.engine.proofs.OutputIsBounded.OutputOfAPiece.{cut_few, few_bytes_but_answers, few_marks, sent_few, stories_answer_shortly}
use Rattle.engine.proofs.PiecesAreDone.FramesAndMarks.{more}
use Rattle.engine.proofs.FieldsShow.NothingCounts.{accepts_shown}
use Rattle.engine.proofs.AlongTimelines.TimelineGrows.{entries_append}
use Rattle.engine.proofs.PiecesAreDone.SkippedPdu.{dropped_by}

-- ---- less than what is to come of a part completes no mark

front_body : (kind remaining : ℕ) (r c : List ℕ) → AtBody kind remaining r [] → length c < remaining → new_marks r c ≡ []
front_body kind remaining r c (in_body some inside none) lt = ((plain_part r c inside.rest inside.spot_is).continues ((more r c inside.headed).goes (omega (arith, inside.remaining_is, lt)))).marks
front_body kind remaining r c (after_body over) lt = absurd (let e = over.due_is in cc)

front_fragment : (remaining most : ℕ) (r c : List ℕ) → InFragment remaining most r [] → length c < most → new_marks r c ≡ []
front_fragment remaining most r c f lt =
    let room : pdv_size f.part ≤ room_remaining r + length f.part = by (unfinished_pdv r f.part f.inside.rest f.inside.spot_is) in
    ((fragment_part r c f.part f.inside.rest f.inside.spot_is f.headed (omega (arith, lt, f.more_is, length-append f.part c))).continues
    ((more r c f.inside.headed).goes (omega (arith, lt, f.more_is, room)))).marks
  where
    by : IsUnfinishedPdv (room_remaining r + length f.part) f.part → pdv_size f.part ≤ room_remaining r + length f.part
    by (in_head short) = absurd (omega (arith, short, f.headed))
    by (unfinished.in_fragment headed least fits short) = fits

pub front_nothing : (q : Position) (r c : List ℕ) → At q r [] → length c < bytes_due q → new_marks r c ≡ []
front_nothing (position.Head bytes) r c a lt = (head_part r c (omega (arith, lt, ap length a.bytes_are, length-append r c))).marks
front_nothing (position.Body kind remaining) r c a lt = front_body kind remaining r c a lt
front_nothing (position.PdvHead remaining bytes) r c a lt =
    let room : length c < remaining = omega (arith, lt, min-le_left remaining (6 - length bytes.items)) in
    let short : length c < 6 - length bytes.items = omega (arith, lt, min-le_right remaining (6 - length bytes.items)) in
    let i = a.inside in
    ((pdv_head_part r c bytes.items i.rest i.spot_is (omega (arith, short, length-append bytes.items c))).continues ((more r c i.headed).goes (omega (arith, room, i.remaining_is)))).marks
front_nothing (position.Fragment remaining most) r c (in_fragment some f) lt = front_fragment remaining most r c f lt
front_nothing (position.Fragment remaining most) r c (after_fragment none f) lt = absurd (let e = f.due_is in cc)
front_nothing (position.Leftover remaining) r c a lt = absurd (omega (arith, lt))
front_nothing (position.Skipped kind remaining) r c a lt = absurd (let e = a.due_is in cc)

few_after : (r front last : List ℕ) → new_marks r front ≡ [] → length last ≤ 1 → length (new_marks r (front ++ last)) ≤ 4
few_after r front last none one =
    omega (arith, ap length (new_then r front last), length-append (new_marks r front) (new_marks (r ++ front) last), ap length none, few_marks (r ++ front) last, one)

few_of_part : (q : Position) (r c : List ℕ) → At q r [] → length c ≤ bytes_due q → length (new_marks r c) ≤ 4
few_of_part q r [] a le = omega (arith, ap length (new_nothing r))
few_of_part q r (b ∷ bs) a le =
    let c : List ℕ = b ∷ bs in
    let front = take (length bs) c in
    let last = drop (length bs) c in
    let short : length front < bytes_due q = omega (arith, le, length-take (length bs) c) in
    subst (λ (x : List ℕ). length (new_marks r x) ≤ 4) (take-append-drop (length bs) c) (few_after r front last (front_nothing q r front a short) (omega (arith, length-drop (length bs) c)))

-- ---- which entries a piece brings

pub entries_of_piece : (before piece : List ℕ) → entries before (Bytes piece ∷ []) ≡ map timeline.At (new_marks before piece)
entries_of_piece before piece = append-nil (map timeline.At (new_marks before piece))

of_bytes : (o : Opened) (e : Entry) (es : List Entry) → AreHeadedAt IsBytes o (e ∷ es) → IsOfBytes e
of_bytes o (timeline.At (End kind body)) es h = h.0.1
of_bytes o (timeline.At (Head kind n)) es h = tt
of_bytes o (timeline.At (PdvHead n context control)) es h = tt
of_bytes o (timeline.At (Pdv context control fragment)) es h = tt
of_bytes o (timeline.At BadPdv) es h = tt
of_bytes o (timeline.At Leftover) es h = tt
of_bytes o Shut es h = tt
of_bytes o TimedOut es h = tt
of_bytes o Aborted es h = tt

all_of_bytes : (o : Opened) (xs ys : List Entry) → AreHeadedAt IsBytes o (xs ++ ys) → AllByRecursion IsOfBytes ys
all_of_bytes o [] [] h = tt
all_of_bytes o [] (y ∷ ys) h = (of_bytes o y ys h, all_of_bytes (opens_at o y) [] ys h.1)
all_of_bytes o (x ∷ xs) ys h = all_of_bytes (opens_at o x) xs ys h.1

piece_of_bytes : (inputs : List Received) (piece : List ℕ) → IsBytes (stream_of inputs ++ piece) → AllByRecursion IsOfBytes (entries (stream_of inputs) (Bytes piece ∷ []))
piece_of_bytes inputs piece h =
    let all = inputs ++ Bytes piece ∷ [] in
    let same : stream_of all ≡ stream_of inputs ++ piece = stream_then inputs (Bytes piece ∷ []) ∙ ap (λ (xs : List ℕ). stream_of inputs ++ xs) (append-nil piece) in
    let headed : AreHeadedAt IsBytes Between (entries [] all) = timeline_headed IsBytes bytes_parts all (subst IsBytes (sym same) h) in
    all_of_bytes Between (entries [] inputs) (entries (stream_of inputs) (Bytes piece ∷ [])) (subst (AreHeadedAt IsBytes Between) (entries_append inputs (Bytes piece ∷ [])) headed)

-- ---- marks within a frame of which nothing counts

module _ (rooms : Rooms) (s : Settings) where
  pub inner_nothing : (p : Progress) (finding : Finding) (m : Mark) → IsInner m → accepts_pdvs p ≡ false → at_entry rooms s p finding (timeline.At m) ≡ nothing p
  inner_nothing p finding (Head kind n) i t = absurd i
  inner_nothing p finding (PdvHead n context control) i t = dropped_by p _ t
  inner_nothing p finding (Pdv context control fragment) i t = dropped_by p _ t
  inner_nothing p finding BadPdv i t = dropped_by p _ t
  inner_nothing p finding Leftover i t = dropped_by p _ t
  inner_nothing p finding (End kind body) i t = absurd i

  take_nothing : (k : ℕ) (xs : List ℕ) → xs ≡ [] → take k xs ≡ []
  take_nothing k xs h = grind (arith, common_steps)

  pub cut_nothing : (wire : Option ℕ) (p : Progress) (g : Advance) → g.sent ≡ [] → (cut wire p g).sent ≡ []
  cut_nothing None p g e = e
  cut_nothing (Some k) p g e = take_nothing k g.sent e

  pub still_uncounted : (wire : Option ℕ) (p q : Progress) → accepts_pdvs q ≡ false → accepts_pdvs (cut wire p (nothing q)).next ≡ false
  still_uncounted wire p q h = grind (arith, common_steps)

  -- what comes after them is all that is sent
  past_inner : (ms : List Mark) (es : List Entry) (p : Progress) (story : List Happened) → AreInner ms → accepts_pdvs p ≡ false → entries_of story ≡ map timeline.At ms ++ es → AnswersHave rooms s longest_accept p story
      → length (sent_of rooms s p story) ≤ length es * 4650
  past_inner [] es p story i t reported short =
      let number : length story ≡ length es = sym (length-map story (λ (h : Happened). h.0)) ∙ ap length reported in
      subst (λ (n : ℕ). length (sent_of rooms s p story) ≤ n * 4650) number (sent_few rooms s longest_accept p story short)
  past_inner (m ∷ ms) es p [] i t reported short = absurd cc
  past_inner (m ∷ ms) es p (h ∷ story) i t reported short =
      let at : h.0 ≡ timeline.At m = cc in
      let q = absorb h.1.filing p in
      let g : at_entry rooms s q h.1.finding h.0 ≡ nothing q = ap (at_entry rooms s q h.1.finding) at ∙ inner_nothing q h.1.finding m i.0 t in
      let next : accepts_pdvs (gives rooms s p h).next ≡ false = subst (λ (x : Advance). accepts_pdvs (cut h.1.wire p x).next ≡ false) (sym g) (still_uncounted h.1.wire p q t) in
      let others : entries_of story ≡ map timeline.At ms ++ es = cc in
      let none : (gives rooms s p h).sent ≡ [] = cut_nothing h.1.wire p (at_entry rooms s q h.1.finding h.0) (ap (λ (x : Advance). x.sent) g) in
      subst (λ (xs : List ℕ). length (xs ++ sent_of rooms s (gives rooms s p h).next story) ≤ length es * 4650) (sym none)
      (past_inner ms es (gives rooms s p h).next story i.1 next others short.1)

  -- ---- what a portion has an association send

  few_marked : (p : Progress) (story : List Happened) (ms : List Mark) → entries_of story ≡ map timeline.At ms → length ms ≤ 4 → AnswersHave rooms s longest_accept p story → length (sent_of rooms s p story) ≤ most_sent
  few_marked p story ms reported few short = omega (arith, sent_few rooms s longest_accept p story short, length-map story (λ (h : Happened). h.0), ap length reported, length-map ms timeline.At, few)

  skipped_few : (q : Position) (r c : List ℕ) (p : Progress) (story : List Happened) → SkipsAt q r → accepts_pdvs p ≡ false → length c ≤ bytes_due q → entries_of story ≡ map timeline.At (new_marks r c)
      → AnswersHave rooms s longest_accept p story → length (sent_of rooms s p story) ≤ most_sent
  skipped_few (position.Head bytes) r c p story a t le reported short = absurd a
  skipped_few (position.Body kind remaining) r c p story a t le reported short = absurd a
  skipped_few (position.PdvHead remaining bytes) r c p story a t le reported short = absurd a
  skipped_few (position.Fragment remaining most) r c p story a t le reported short = absurd a
  skipped_few (position.Leftover remaining) r c p story a t le reported short = absurd a
  skipped_few (position.Skipped kind remaining) r c p story a t le reported short =
      let within = marks_within r c a.1 a.2 in
      elim (cases_lt (length c) (room_remaining r)) [
        | inl lt ↦
            let inner : AreInner (new_marks r c) = within.continues ((more r c a.2).goes lt) in
            let few = past_inner (new_marks r c) [] p story inner t (reported ∙ sym (append-nil (map timeline.At (new_marks r c)))) short in
            omega (arith, few)
        | inr ge ↦
            let w = within.ends ((more r c a.2).ends a.1 (omega (arith, ge, le, a.4))) in
            let last : List Mark = end_mark (r ++ c) ∷ [] in
            let few = past_inner w.inner (timeline.At (end_mark (r ++ c)) ∷ []) p story w.are_inner t (reported ∙ ap (map timeline.At) w.marks ∙ map-append timeline.At w.inner last) short in
            omega (arith, few)
      ]

  stands_few : (f : Fields) (r c : List ℕ) (p : Progress) (story : List Happened) → StandsAt f.position f.kept r [] → accepts_pdvs_in f.kept ≡ accepts_pdvs p → length c ≤ bytes_due f.position
      → entries_of story ≡ map timeline.At (new_marks r c) → AnswersHave rooms s longest_accept p story → length (sent_of rooms s p story) ≤ most_sent
  stands_few f r c p story (reads a) same le reported short = few_marked p story (new_marks r c) reported (few_of_part f.position r c a le) short
  stands_few f r c p story (skips a u none) same le reported short = skipped_few f.position r c p story a (sym same ∙ u.pdvs) le reported short

  pub sends_few : (inputs : List Received) (story : List Happened) (failed : Bool) (f : Fields) (store : Store) (most : ℕ) → Stands rooms s inputs story failed f store
      → (most ≡ 1) ⊎ ((is_ended f.kept.state ≡ false) × (most ≡ bytes_due f.position)) → SendsFew rooms s inputs story most
  sends_few inputs story failed f store most h how piece after le bytes reported = by how where
    stream : List ℕ
    stream = stream_of inputs

    p : Progress
    p = progress_of rooms s at_start story

    short : AnswersHave rooms s longest_accept p after
    short = stories_answer_shortly rooms s p after (subst (AllByRecursion IsOfBytes) (sym reported) (piece_of_bytes inputs piece bytes))

    marked : entries_of after ≡ map timeline.At (new_marks stream piece)
    marked = reported ∙ entries_of_piece stream piece

    by : (most ≡ 1) ⊎ ((is_ended f.kept.state ≡ false) × (most ≡ bytes_due f.position)) → length (sent_of rooms s p after) ≤ most_sent
    by (inl one) = few_marked p after (new_marks stream piece) marked (omega (arith, few_marks stream piece, le, one)) short
    by (inr due) =
        let pends = h.shows.frame.pends in
        let framed = h.shows.frame.framed (ap is_ended (sym pends.state_is) ∙ due.0) in
        stands_few f (rest_of stream) piece p after framed (accepts_shown f.kept store (reached rooms s inputs story failed).progress _ _ pends)
        (omega (arith, le, due.1)) (marked ∙ ap (map timeline.At) (new_rest stream piece)) short

-- ---- the other inputs

pub entries_of_more : EntriesOfMore
entries_of_more rooms s inputs input story after failed failed_then h g =
    let all : entries_of story ++ entries_of after ≡ entries [] inputs ++ entries (stream_of inputs) (input ∷ []) =
    sym (map-append (λ (x : Happened). x.0) story after) ∙ g.reported ∙ entries_append inputs (input ∷ []) in
    append_cancel_left (entries [] inputs) (entries_of after) (entries (stream_of inputs) (input ∷ [])) (ap (λ (es : List Entry). es ++ entries_of after) (sym h.reported) ∙ all)

entry_silent : (rooms : Rooms) (s : Settings) (p : Progress) (finding : Finding) (before : List ℕ) (input : Received) (e : Entry) → IsSilent input → entries before (input ∷ []) ≡ e ∷ [] → (at_entry rooms s p finding e).sent ≡ []
entry_silent rooms s p finding before (Bytes piece) e i reported = absurd i
entry_silent rooms s p finding before Close e i reported = let at : e ≡ Shut = cc in ap (λ (x : Entry). (at_entry rooms s p finding x).sent) at ∙ closed_silent p.state
entry_silent rooms s p finding before Expiry e i reported = let at : e ≡ TimedOut = cc in ap (λ (x : Entry). (at_entry rooms s p finding x).sent) at ∙ expired_silent p.state
entry_silent rooms s p finding before UserAbort e i reported = absurd i

one_entry : (before : List ℕ) (input : Received) → IsSilent input → length (entries before (input ∷ [])) ≡ 1
one_entry before input h = grind (arith, common_steps)

pub silent_sends_nothing : SilentSendsNothing
silent_sends_nothing rooms s p before input [] i reported = refl
silent_sends_nothing rooms s p before input (h ∷ a ∷ after) i reported = absurd (omega (arith, ap length reported, one_entry before input i))
silent_sends_nothing rooms s p before input (h ∷ []) i reported =
    let q = absorb h.1.filing p in
    let none = cut_nothing rooms s h.1.wire p (at_entry rooms s q h.1.finding h.0) (entry_silent rooms s q h.1.finding before input h.0 i (sym reported)) in
    append-nil (gives rooms s p h).sent ∙ none

pub aborts_shortly : AbortsShortly
aborts_shortly rooms s p before [] reported = omega arith
aborts_shortly rooms s p before (h ∷ a ∷ after) reported = absurd (omega (arith, ap length reported))
aborts_shortly rooms s p before (h ∷ []) reported =
    let at : h.0 ≡ Aborted = cc in
    let q = absorb h.1.filing p in
    let few : length (at_entry rooms s q h.1.finding h.0).sent ≤ 30 = subst (λ (e : Entry). length (at_entry rooms s q h.1.finding e).sent ≤ 30) (sym at) (omega (arith, few_bytes_but_answers rooms s q h.1.finding Aborted)) in
    omega (arith, ap length (append-nil (gives rooms s p h).sent), cut_few h.1.wire p (at_entry rooms s q h.1.finding h.0) 30 few)
