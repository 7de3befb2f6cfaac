-- Each event of the stream is handled as the marks up to it say, wherever the deframer stood (`handled_event`), and so is a
-- call without an event (`handled_none`). Stands on EntriesJoin, EventShape, FramesAndMarks, FieldsShow/NothingCounts and the
-- laws of `pdu`.
use Rattle.std.proofs.Common.{◌≡◌, ℕ, ◌+◌, ◌-◌, ◌<◌, ◌≤◌, true, false, List, [], ◌∷◌, ◌++◌, length, drop, get_or, Some, None, refl, sym, ap, subst, ◌∙◌, arith, inl, inr}
use Rattle.std.proofs.lemmas.Bool.{cases_lt}
use Rattle.std.proofs.lemmas.List.{append-nil, length-append, drop_all}
use Rattle.byteorder.specs.Endian.{big_number}
use Rattle.pdu.specs.declared.head.PduHead.{PduHead}
use Rattle.pdu.specs.declared.head.PdvHead as declared
use Rattle.pdu.specs.declared.position.Position.{Position}
use Rattle.pdu.specs.declared.position.Position.TheVariants as position
use Rattle.pdu.specs.declared.event.Event.{Event}
use Rattle.pdu.specs.declared.event.Event.TheVariants as event
use Rattle.pdu.specs.Heads.{pdu_head_of}
use Rattle.pdu.specs.Frames.{IsFrame, IsRest, rest_of}
use Rattle.pdu.specs.Marks.{Mark, Head, Pdv, BadPdv, Leftover, End, pdv_size, head_mark, pdv_mark, frame_kind, frame_length, new_marks}
use Rattle.pdu.specs.Spot.{InPdv, spot, room_remaining}
use Rattle.pdu.specs.Parts as parts
use Rattle.pdu.specs.Parts.{Arrives, end_mark, leftover_marks}
use Rattle.pdu.specs.Events.{marks_among}
use Rattle.pdu.specs.Deframing.{At, AtHead, AtBody, in_body, after_body, AtPdvHead, AtFragment, in_fragment, after_fragment, IsOver, Consumed}
use Rattle.pdu.specs.Steps.{body_kind, IsInHead, FollowsHead, FollowsPdv, HeadIsWhole, PdvHeadIsWhole, IsLent, Steps}
use Rattle.pdu.proofs.Public.{same_head, rest_alone, spot_opening, unfinished_pdv, head_done, plain_part, pdv_head_done, pdv_head_whole, fragment_part, fragment_done, marks_consumed, mark_consumed, among_body, among_fragment}
use Rattle.negotiate.specs.Settings.{Settings}
use Rattle.part10.specs.Store.{Store}
use Rattle.engine.specs.Timeline as timeline
use Rattle.engine.specs.Progress.{Progress, absorb}
use Rattle.engine.specs.Devices.{Devices}
use Rattle.engine.specs.Run.{Rooms, progress_of}
use Rattle.engine.specs.Reached.{started_in}
use Rattle.engine.specs.Kept.{Kept, Pends, body_in}
use Rattle.engine.specs.machine.Does.{Does, DoesAll, Appends}
use Rattle.engine.specs.FrameFields.{body_of, reads}
use Rattle.engine.specs.machine.Shows.{ShowsDue, Handles, Pending}
use Rattle.engine.specs.machine.Events.{Accepts}
use Rattle.engine.proofs.FieldsShow.NothingCounts.{pends_short}
use Rattle.engine.proofs.PiecesAreDone.EntriesJoin.{does_none, does_one, does_appended}
use Rattle.engine.proofs.PiecesAreDone.EventShape.{EndsFrom, Shaped}
use Rattle.engine.proofs.PiecesAreDone.FramesAndMarks.{more, body_in_none, body_none, body_of_data, no_items, data_body, whole_mark, no_marks, first_mark, later_marks, mark_of_head, mark_of_bad, mark_of_end, Quiet, Settled, settled, quiet_in_head, quiet_in_pdv_head, quiet_after_pdv, quiet_plain, at_rest, rest_or_frame, arrives_marks, short_rest, body_of_end}

-- ---- what is pending where the deframer stands in a head

pends_as : (k : Kept) (store : Store) (p : Progress) (b f body started : List ℕ) → body ≡ b → started ≡ f → Pends k store p body started → Pends k store p b f
pends_as k store p b f body started e h pends = subst (λ (x : List ℕ). Pends k store p b x) h (subst (λ (x : List ℕ). Pends k store p x started) e pends)

pub pending_none : (r : List ℕ) (due : List Mark) (body started : List ℕ) → due ≡ [] → Pending r due body started → (body ≡ body_of r) × (started ≡ started_in (spot r))
pending_none r due body started e h = subst (λ (ms : List Mark). Pending r ms body started) e h

pends_open : (k : Kept) (store : Store) (p : Progress) (r : List ℕ) (due : List Mark) (body started : List ℕ) → length r < 6 → due ≡ [] → Pending r due body started → Pends k store p body started → Pends k store p [] []
pends_open k store p r due body started lt none h pends =
    let x = pending_none r due body started none h in
    pends_as k store p [] [] body started (x.0 ∙ body_none r (omega arith)) (x.1 ∙ ap started_in (spot_opening r lt)) pends

pends_in_pdv : (k : Kept) (store : Store) (p : Progress) (remaining : ℕ) (bytes r : List ℕ) (due : List Mark) (body started : List ℕ) → AtPdvHead remaining bytes r due → Pending r due body started → Pends k store p body started → Pends k store p [] []
pends_in_pdv k store p remaining bytes r due body started a h pends =
    let x = pending_none r due body started a.none_due h in
    pends_short k store p [] bytes [] a.short (omega arith) (pends_as k store p [] bytes body started (x.0 ∙ body_of_data r a.inside.kind_is) (x.1 ∙ ap started_in a.inside.spot_is) pends)

-- an unfinished frame

-- after the head of a frame that has no presentation data values
head_settled : (r c : List ℕ) (kind remaining : ℕ) (later : List Mark) → length r < 6 → length (r ++ c) ≡ 6 → remaining ≡ frame_length (r ++ c) → (m : Mark) → new_marks r c ≡ m ∷ later → AtBody kind remaining (rest_of (r ++ c)) later → Settled (rest_of (r ++ c)) later
head_settled r c kind remaining later lt six remaining_is m all (in_body some i none) = record {
  started = [];
  short = omega arith;
  pending = subst (λ (ms : List Mark). Pending (rest_of (r ++ c)) ms [] []) (sym none) (sym (body_none (rest_of (r ++ c)) (short_rest r c lt six)), sym (ap started_in i.spot_is));
}
head_settled r c kind remaining later lt six remaining_is m all (after_body o) =
    let f = r ++ c in
    let w : IsFrame f = record { headed = omega (arith, six); filled = omega (arith, six, remaining_is, o.none_remaining) } in
    let x = ((head_done r c lt six).ends w).marks in
    let ends : later ≡ end_mark f ∷ [] = later_marks m (Head (frame_kind f) (frame_length f)) later (end_mark f ∷ []) (sym all ∙ x) in
    let body : o.body ≡ drop 6 f = body_of_end kind (frame_kind f) o.body (drop 6 f) (sym o.due_is ∙ ends) in
    let nothing : o.body ≡ [] = body ∙ drop_all 6 f (omega (arith, six)) in
    record { started = []; short = omega arith; pending = subst (λ (ms : List Mark). Pending (rest_of f) ms [] []) (sym o.due_is) (sym (ap (λ (b : List ℕ). body_in kind b) nothing ∙ body_in_none kind), refl) }

after_head_settled : (r c : List ℕ) (head : PduHead) (new : Position) (later : List Mark) → length r < 6 → length (r ++ c) ≡ 6 → head ≡ pdu_head_of (r ++ c) → (m : Mark) → new_marks r c ≡ m ∷ later
    → FollowsHead head new → At new (rest_of (r ++ c)) later → Settled (rest_of (r ++ c)) later
after_head_settled r c head (position.Head bytes) later lt six is m all w at = absurd w
after_head_settled r c head (position.Body kind remaining) later lt six is m all w at = head_settled r c kind remaining later lt six (w.1 ∙ ap (λ (h : PduHead). h.length) is) m all at
after_head_settled r c head (position.PdvHead remaining bytes) later lt six is m all w at = settled (position.PdvHead remaining bytes) (rest_of (r ++ c)) later tt at
after_head_settled r c head (position.Fragment remaining more) later lt six is m all w at = absurd w
after_head_settled r c head (position.Leftover remaining) later lt six is m all w at = absurd w
after_head_settled r c head (position.Skipped kind remaining) later lt six is m all w at = absurd w

fragment_room : (r b : List ℕ) → IsRest r → spot r ≡ InPdv b → 6 ≤ length b → pdv_size b ≤ room_remaining r + length b
fragment_room r b rest is six = go (unfinished_pdv r b rest is) where
  go : parts.IsUnfinishedPdv (room_remaining r + length b) b → pdv_size b ≤ room_remaining r + length b
  go (parts.in_head lt) = absurd (omega arith)
  go (parts.in_fragment le two fits lt) = fits

module _ (rooms : Rooms) (set : Settings) where
  -- fewer than six bytes of a value count for nothing
  does_short : (p : Progress) (es : List timeline.Entry) (k : Kept) (started : List ℕ) (d e : Devices) → length started < 6 → DoesAll rooms set p es k [] [] d e → DoesAll rooms set p es k [] started d e
  does_short p es k started d e lt h = record {
    story = h.story;
    failed = h.failed;
    reported = h.reported;
    fair = h.fair;
    last = h.last;
    pends = pends_short k e.store (absorb h.failed (progress_of rooms set p h.story)) [] [] started (omega arith) lt h.pends;
    gains = h.gains;
  }

  -- one mark was reported and done, and it is known what is pending
  handled_settled : (new : Position) (k : Kept) (p : Progress) (r : List ℕ) (due : List Mark) (c : List ℕ) (m : Mark) (later : List Mark) (d e : Devices) → due ++ new_marks r c ≡ m ∷ later → Settled (rest_of (r ++ c)) later
      → At new (rest_of (r ++ c)) later → Does rooms set p (timeline.At m) k [] [] d e → Handles rooms set (record { position = new; kept = k }) p r due c true d e
  handled_settled new k p r due c m later d e all s at did = record {
    marks = m ∷ [];
    later = later;
    all = all;
    body = [];
    started = s.started;
    does = does_short p (timeline.At m ∷ []) k s.started d e s.short (does_one rooms set p (timeline.At m) k [] [] d e did);
    pending = s.pending;
    is_at = reads at;
    none_due = λ wrong. absurd cc;
  }

  -- one mark was reported and done, and nothing is pending
  handled_quiet : (new : Position) (k : Kept) (p : Progress) (r : List ℕ) (due : List Mark) (c : List ℕ) (m : Mark) (later : List Mark) (d e : Devices) → due ++ new_marks r c ≡ m ∷ later → Quiet new → At new (rest_of (r ++ c)) later
      → Does rooms set p (timeline.At m) k [] [] d e → Handles rooms set (record { position = new; kept = k }) p r due c true d e
  handled_quiet new k p r due c m later d e all quiet at did =
      handled_settled new k p r due c m later d e all (settled new (rest_of (r ++ c)) later quiet at) at did

  -- the same where these bytes of a value are pending
  handled_value : (new : Position) (k : Kept) (p : Progress) (r : List ℕ) (due : List Mark) (c : List ℕ) (m : Mark) (later : List Mark) (started : List ℕ) (d e : Devices) → due ++ new_marks r c ≡ m ∷ later
      → At new (rest_of (r ++ c)) later → Does rooms set p (timeline.At m) k [] started d e → Pending (rest_of (r ++ c)) later [] started → Handles rooms set (record { position = new; kept = k }) p r due c true d e
  handled_value new k p r due c m later started d e all at did pending = record {
    marks = m ∷ [];
    later = later;
    all = all;
    body = [];
    started = started;
    does = does_one rooms set p (timeline.At m) k [] started d e did;
    pending = pending;
    is_at = reads at;
    none_due = λ wrong. absurd cc;
  }

  -- no mark was reported, and nothing is pending
  handled_still : (new : Position) (k : Kept) (p : Progress) (r : List ℕ) (due : List Mark) (c : List ℕ) (d : Devices) → due ++ new_marks r c ≡ [] → Quiet new → At new (rest_of (r ++ c)) []
      → Pends k d.store p [] [] → Handles rooms set (record { position = new; kept = k }) p r due c false d d
  handled_still new k p r due c d all quiet at pends =
      let s = settled new (rest_of (r ++ c)) [] quiet at in
      record {
        marks = [];
        later = [];
        all = all;
        body = [];
        started = s.started;
        does = does_short p [] k s.started d d s.short (does_none rooms set p k [] [] d pends);
        pending = s.pending;
        is_at = reads at;
        none_due = λ _. refl;
      }

  -- ---- no event

  pub handled_none : (q new : Position) (n : ℕ) (c : List ℕ) (k : Kept) (p : Progress) (r : List ℕ) (due : List Mark) (d : Devices) → length c ≡ n → Steps q n c None new → At q r due → Consumed new r due c None
      → ShowsDue (record { position = q; kept = k }) d.store p r due → Handles rooms set (record { position = new; kept = k }) p r due c false d d
  handled_none q new n c k p r due d size s here t h = go q s here where
    none_then : t.later ≡ []
    none_then = t.at_once refl

    all : due ++ new_marks r c ≡ []
    all = marks_consumed new r due c None t ∙ ap (λ (ms : List Mark). ms ++ t.later) (ap marks_among t.reports) ∙ none_then

    none : due ≡ []
    none = no_marks due (new_marks r c) all

    at : At new (rest_of (r ++ c)) []
    at = subst (λ (ms : List Mark). At new (rest_of (r ++ c)) ms) none_then t.is_at

    stays : n ≡ 0 → Handles rooms set (record { position = new; kept = k }) p r due c false d d
    stays zero =
        let nothing : c ≡ [] = no_items c (size ∙ zero) in
        let same : rest_of (r ++ c) ≡ r = ap (λ (x : List ℕ). rest_of (r ++ x)) nothing ∙ ap rest_of (append-nil r) ∙ rest_alone r (at_rest q r due here) in
        record {
          marks = [];
          later = [];
          all = all;
          body = h.body;
          started = h.started;
          does = does_none rooms set p k h.body h.started d h.pends;
          pending = subst (λ (x : List ℕ). Pending x [] h.body h.started) (sym same) (subst (λ (ms : List Mark). Pending r ms h.body h.started) none h.pending);
          is_at = reads at;
          none_due = λ _. refl;
        }

    go : (x : Position) → Steps x n c None new → At x r due → Handles rooms set (record { position = new; kept = k }) p r due c false d d
    go (position.Head bytes) w a = handled_still new k p r due c d all (quiet_in_head new w) at (pends_open k d.store p r due h.body h.started a.short none h.pending h.pends)
    go (position.Body kind remaining) w a = stays w.0
    go (position.PdvHead remaining bytes) w a = handled_still new k p r due c d all (quiet_in_pdv_head new w) at (pends_in_pdv k d.store p remaining bytes.items r due h.body h.started a h.pending h.pends)
    go (position.Fragment remaining more) w a = stays w.0
    go (position.Leftover remaining) w a = absurd w
    go (position.Skipped kind remaining) w a = absurd (let wrong : End kind a.body ∷ [] ≡ [] = sym a.due_is ∙ none in cc)

  -- ---- the head of a frame

  handled_head : (new : Position) (bytes c : List ℕ) (head : PduHead) (k k2 : Kept) (p : Progress) (r : List ℕ) (due : List Mark) (d d2 : Devices) → AtHead bytes r due → HeadIsWhole (bytes ++ c) head new
      → Consumed new r due c (Some (event.PduHead head)) → (Pends k d.store p [] [] → Does rooms set p (timeline.At (Head head.kind head.length)) k2 [] [] d d2)
      → (body started : List ℕ) → Pending r due body started → Pends k d.store p body started → Handles rooms set (record { position = new; kept = k2 }) p r due c true d d2
  handled_head new bytes c head k k2 p r due d d2 a w t accepts body started pending pends =
      let is : bytes ++ c ≡ r ++ c = ap (λ (x : List ℕ). x ++ c) a.bytes_are in
      let six : length (r ++ c) ≡ 6 = ap length (sym is) ∙ w.all in
      let head_is : head ≡ pdu_head_of (r ++ c) = w.head_is ∙ ap pdu_head_of is in
      let reported = t.reports in
      let m = reported.mark in
      let m_is : m ≡ Head head.kind head.length = mark_of_head head m reported.same in
      let all : due ++ new_marks r c ≡ Head head.kind head.length ∷ t.later = mark_consumed new r due c (event.PduHead head) t reported ∙ ap (λ (x : Mark). x ∷ t.later) m_is in
      let marks : new_marks r c ≡ Head head.kind head.length ∷ t.later = subst (λ (ms : List Mark). ms ++ new_marks r c ≡ Head head.kind head.length ∷ t.later) a.none_due all in
      let s = after_head_settled r c head new t.later a.short six head_is (Head head.kind head.length) marks w.follows t.is_at in
      handled_settled new k2 p r due c (Head head.kind head.length) t.later d d2 all s t.is_at (accepts (pends_open k d.store p r due body started a.short a.none_due pending pends))

  -- ---- a body

  handled_body : (new : Position) (kind remaining n : ℕ) (part c : List ℕ) (k k2 : Kept) (p : Progress) (r : List ℕ) (due : List Mark) (d : Devices) → length c ≡ n → IsLent part c n remaining new (position.Body kind (remaining - n)) → 0 < length c → due ≡ []
      → AtBody kind remaining r due → (later : List Mark) → due ++ new_marks r c ≡ later → At new (rest_of (r ++ c)) later
      → ((body : List ℕ) → Pends k d.store p (body_in kind body) [] → Pends k2 d.store p (body_in kind (body ++ part)) [])
      → (body started : List ℕ) → Pending r due body started → Pends k d.store p body started → Handles rooms set (record { position = new; kept = k2 }) p r due c true d d
  handled_body new kind remaining n part c k k2 p r due d size lent some none (after_body o) later all at accepts body started pending pends = absurd (omega (arith, o.none_remaining, lent.within, size, some))
  handled_body new kind remaining n part c k k2 p r due d size lent some none (in_body lt i none_too) later all at accepts body started pending pends =
      let x = pending_none r due body started none pending in
      let was : Pends k d.store p (body_in kind (drop 6 r)) [] = subst (λ (z : ℕ). Pends k d.store p (body_in z (drop 6 r)) []) i.kind_is (pends_as k d.store p (body_of r) [] body started x.0 (x.1 ∙ ap started_in i.spot_is) pends) in
      let m = more r c i.headed in
      let now : Pends k2 d.store p (body_in kind (drop 6 r ++ c)) [] = subst (λ (z : List ℕ). Pends k2 d.store p (body_in kind (drop 6 r ++ z)) []) lent.part_is (accepts (drop 6 r) was) in
      let body_is : body_of (r ++ c) ≡ body_in kind (drop 6 r ++ c) = rw (m.kind, m.body, i.kind_is) refl in
      let arrives = plain_part r c i.rest i.spot_is in
      let marks : new_marks r c ≡ later = subst (λ (ms : List Mark). ms ++ new_marks r c ≡ later) none all in
      let due_then : Pending (rest_of (r ++ c)) later (body_of (r ++ c)) [] = elim (rest_or_frame r c i.rest i.headed (omega (arith, i.remaining_is, lent.within, size))) [
        | inl q ↦
            let g = arrives.continues q in
            subst (λ (z : List ℕ). Pending z later (body_of (r ++ c)) []) (sym g.rest) (subst (λ (ms : List Mark). Pending (r ++ c) ms (body_of (r ++ c)) []) (sym g.marks ∙ marks) (refl, sym (ap started_in g.spot_is)))
        | inr w ↦
            let e = arrives.ends w in
            subst (λ (ms : List Mark). Pending (rest_of (r ++ c)) ms (body_of (r ++ c)) []) (sym e.marks ∙ marks) (refl, refl)
      ] in
      record {
        marks = [];
        later = later;
        all = all;
        body = body_of (r ++ c);
        started = [];
        does = does_none rooms set p k2 (body_of (r ++ c)) [] d (subst (λ (z : List ℕ). Pends k2 d.store p z []) (sym body_is) now);
        pending = due_then;
        is_at = reads at;
        none_due = λ wrong. absurd cc;
      }

  -- ---- the head of a value

  handled_pdv_head : (new : Position) (remaining n : ℕ) (bytes c : List ℕ) (head : declared.PdvHead) (k k2 : Kept) (p : Progress) (r : List ℕ) (due : List Mark) (d d2 : Devices) → length c ≡ n → AtPdvHead remaining bytes r due
      → PdvHeadIsWhole remaining n (bytes ++ c) (event.PdvHead head) new → Consumed new r due c (Some (event.PdvHead head))
      → (Pends k d.store p [] [] → Does rooms set p (timeline.At (head_mark (bytes ++ c))) k2 [] (bytes ++ c) d d2)
      → (body started : List ℕ) → Pending r due body started → Pends k d.store p body started → Handles rooms set (record { position = new; kept = k2 }) p r due c true d d2
  handled_pdv_head new remaining n bytes c head k k2 p r due d d2 size a w t accepts body started pending pends =
      let v = bytes ++ c in
      let i = a.inside in
      let f = w.follows in
      let reported = t.reports in
      let all : due ++ new_marks r c ≡ reported.mark ∷ t.later = mark_consumed new r due c (event.PdvHead head) t reported in
      let marks : new_marks r c ≡ reported.mark ∷ t.later = subst (λ (ms : List Mark). ms ++ new_marks r c ≡ reported.mark ∷ t.later) a.none_due all in
      let did = accepts (pends_in_pdv k d.store p remaining bytes r due body started a pending pends) in
      let total : length v ≡ length bytes + length c = length-append bytes c in
      let two : 2 ≤ big_number 4 v = f.1 in
      let fits : big_number 4 v ≤ (remaining - n) + 2 = f.2 in
      let finish = λ (ys : List Mark) (is : new_marks r c ≡ head_mark v ∷ ys) (then : Pending (rest_of (r ++ c)) ys [] v).
      (let m_is : reported.mark ≡ head_mark v = first_mark reported.mark (head_mark v) t.later ys (sym marks ∙ is) in
      let later_is : t.later ≡ ys = later_marks reported.mark (head_mark v) t.later ys (sym marks ∙ is) in
      handled_value new k2 p r due c (head_mark v) t.later v d d2 (all ∙ ap (λ (x : Mark). x ∷ t.later) m_is) t.is_at did (subst (λ (ms : List Mark). Pending (rest_of (r ++ c)) ms [] v) (sym later_is) then)) in
      elim (cases_lt 2 (big_number 4 v)) [
        | inl lt ↦
            let arrives = pdv_head_done r c bytes i.rest i.spot_is a.short w.all lt (omega (arith, i.remaining_is, size, total, w.within, fits, w.all)) in
            let g = arrives.continues ((more r c i.headed).goes (omega (arith, i.remaining_is, size, w.within, fits, lt))) in
            finish [] g.marks (subst (λ (z : List ℕ). Pending z [] [] v) (sym g.rest) (sym (data_body r c bytes i.rest i.spot_is), sym (ap started_in g.spot_is)))
        | inr ge ↦
            let is_two : big_number 4 v ≡ 2 = omega (arith, two, ge) in
            let room : length c ≤ room_remaining r = omega (arith, i.remaining_is, size, w.within) in
            let y = arrives_marks r c (head_mark v ∷ pdv_mark v ∷ leftover_marks (room_remaining r - length c)) _ (pdv_head_whole r c bytes i.rest i.spot_is room a.short w.all is_two) i.rest i.headed room in
            finish (pdv_mark v ∷ (leftover_marks (room_remaining r - length c) ++ y.0)) y.1 (refl, omega (arith, w.all), omega (arith, w.all, is_two), refl)
      ]

  -- ---- a fragment

  handled_fragment : (new : Position) (remaining due_more n : ℕ) (part c : List ℕ) (k k2 : Kept) (p : Progress) (r : List ℕ) (due : List Mark) (d d2 : Devices) → length c ≡ n → IsLent part c n due_more new (position.Fragment (remaining - n) (due_more - n)) → 0 < length c → due ≡ []
      → AtFragment remaining due_more r due → (later : List Mark) → due ++ new_marks r c ≡ later → At new (rest_of (r ++ c)) later
      → ((b : List ℕ) → 6 ≤ length b → Pends k d.store p [] b → Appends rooms set p k2 [] (b ++ part) d d2)
      → (body started : List ℕ) → Pending r due body started → Pends k d.store p body started → Handles rooms set (record { position = new; kept = k2 }) p r due c true d d2
  handled_fragment new remaining due_more n part c k k2 p r due d d2 size lent some none (after_fragment zero x) later all at accepts body started pending pends = absurd (omega (arith, zero, lent.within, size, some))
  handled_fragment new remaining due_more n part c k k2 p r due d d2 size lent some none (in_fragment lt fr) later all at accepts body started pending pends =
      let x = pending_none r due body started none pending in
      let i = fr.inside in
      let b = fr.part in
      let was : Pends k d.store p [] b = pends_as k d.store p [] b body started (x.0 ∙ body_of_data r i.kind_is) (x.1 ∙ ap started_in i.spot_is) pends in
      let appended : Appends rooms set p k2 [] (b ++ c) d d2 = subst (λ (z : List ℕ). Appends rooms set p k2 [] (b ++ z) d d2) lent.part_is (accepts b fr.headed was) in
      let total : length (b ++ c) ≡ length b + length c = length-append b c in
      let fits : pdv_size b ≤ room_remaining r + length b = fragment_room r b i.rest i.spot_is fr.headed in
      let marks : new_marks r c ≡ later = subst (λ (ms : List Mark). ms ++ new_marks r c ≡ later) none all in
      let h = same_head b c fr.headed in
      let due_then : Pending (rest_of (r ++ c)) later [] (b ++ c) = elim (cases_lt (length c) due_more) [
        | inl short ↦
            let g = (fragment_part r c b i.rest i.spot_is fr.headed (omega (arith, fr.more_is, total, short))).continues ((more r c i.headed).goes (omega (arith, fr.more_is, fits, short))) in
            subst (λ (z : List ℕ). Pending z later [] (b ++ c)) (sym g.rest) (subst (λ (ms : List Mark). Pending (r ++ c) ms [] (b ++ c)) (sym g.marks ∙ marks) (sym (data_body r c b i.rest i.spot_is), sym (ap started_in g.spot_is)))
        | inr ge ↦
            let room : length c ≤ room_remaining r = omega (arith, fr.more_is, fits, lent.within, size) in
            let whole : length (b ++ c) ≡ pdv_size b = omega (arith, fr.more_is, total, ge, lent.within, size) in
            let y = arrives_marks r c (pdv_mark (b ++ c) ∷ leftover_marks (room_remaining r - length c)) _ (fragment_done r c b i.rest i.spot_is room fr.headed whole) i.rest i.headed room in
            subst (λ (ms : List Mark). Pending (rest_of (r ++ c)) ms [] (b ++ c)) (sym y.1 ∙ marks) (refl, omega (arith, total, fr.headed), omega (arith, whole, h.number), refl)
      ] in
      record {
        marks = [];
        later = later;
        all = all;
        body = [];
        started = b ++ c;
        does = does_appended rooms set p k2 [] (b ++ c) d d2 appended;
        pending = due_then;
        is_at = reads at;
        none_due = λ wrong. absurd cc;
      }

  -- ---- the end of a value

  handled_value_end : (new : Position) (remaining due_more : ℕ) (c : List ℕ) (k k2 : Kept) (p : Progress) (r : List ℕ) (due : List Mark) (d d2 : Devices) → due_more ≡ 0 → FollowsPdv new → AtFragment remaining due_more r due
      → At (position.Fragment remaining due_more) r due → Consumed new r due c (Some event.PdvEnd)
      → ((b : List ℕ) → 6 ≤ length b → length b ≡ pdv_size b → Pends k d.store p [] b → Does rooms set p (timeline.At (Pdv (get_or b 4 0) (get_or b 5 0) (drop 6 b))) k2 [] [] d d2)
      → (body started : List ℕ) → Pending r due body started → Pends k d.store p body started → Handles rooms set (record { position = new; kept = k2 }) p r due c true d d2
  handled_value_end new remaining due_more c k k2 p r due d d2 zero follows (in_fragment lt fr) at t accepts body started pending pends = absurd (omega (arith, lt, zero))
  handled_value_end new remaining due_more c k k2 p r due d d2 zero follows (after_fragment none x) at t accepts body started pending pends =
      let h = subst (λ (ms : List Mark). Pending r ms body started) x.due_is pending in
      let reported = t.reports in
      let all : due ++ new_marks r c ≡ reported.mark ∷ t.later = mark_consumed new r due c event.PdvEnd t reported in
      let whole : Pdv x.context x.control x.fragment ∷ (x.later ++ new_marks r c) ≡ reported.mark ∷ t.later = subst (λ (ms : List Mark). ms ++ new_marks r c ≡ reported.mark ∷ t.later) x.due_is all in
      let m_is : Pdv x.context x.control x.fragment ≡ reported.mark = first_mark (Pdv x.context x.control x.fragment) reported.mark (x.later ++ new_marks r c) t.later whole in
      let was : Pends k d.store p [] started = subst (λ (z : List ℕ). Pends k d.store p z started) h.0 pends in
      let mark : Pdv (get_or started 4 0) (get_or started 5 0) (drop 6 started) ≡ reported.mark = whole_mark started h.2 ∙ h.3 ∙ m_is in
      handled_quiet new k2 p r due c reported.mark t.later d d2 all (quiet_after_pdv new follows) t.is_at (subst (λ (z : Mark). Does rooms set p (timeline.At z) k2 [] [] d d2) mark (accepts started h.1 h.2 was))

  -- ---- the end of a frame

  handled_over : (new : Position) (kind remaining : ℕ) (reported : ℕ) (c : List ℕ) (k k2 : Kept) (p : Progress) (r : List ℕ) (due : List Mark) (d d2 : Devices) → reported ≡ kind → IsInHead new → IsOver kind remaining r due → Consumed new r due c (Some (event.PduEnd reported))
      → ((body : List ℕ) → Pends k d.store p (body_in reported body) [] → Does rooms set p (timeline.At (End reported body)) k2 [] [] d d2)
      → (body started : List ℕ) → Pending r due body started → Pends k d.store p body started → Handles rooms set (record { position = new; kept = k2 }) p r due c true d d2
  handled_over new kind remaining reported c k k2 p r due d d2 same in_head o t accepts body started pending pends =
      let h = subst (λ (ms : List Mark). Pending r ms body started) o.due_is pending in
      let report = t.reports in
      let all : due ++ new_marks r c ≡ report.mark ∷ t.later = mark_consumed new r due c (event.PduEnd reported) t report in
      let whole : End kind o.body ∷ new_marks r c ≡ report.mark ∷ t.later = subst (λ (ms : List Mark). ms ++ new_marks r c ≡ report.mark ∷ t.later) o.due_is all in
      let m_is : End kind o.body ≡ report.mark = first_mark (End kind o.body) report.mark (new_marks r c) t.later whole in
      let was : Pends k d.store p (body_in reported o.body) [] = pends_as k d.store p (body_in reported o.body) [] body started (h.0 ∙ ap (λ (x : ℕ). body_in x o.body) (sym same)) h.1 pends in
      let mark : End reported o.body ≡ report.mark = ap (λ (x : ℕ). End x o.body) same ∙ m_is in
      handled_quiet new k2 p r due c report.mark t.later d d2 all (quiet_in_head new in_head) t.is_at (subst (λ (z : Mark). Does rooms set p (timeline.At z) k2 [] [] d d2) mark (accepts o.body was))

  handled_end : (q new : Position) (reported : ℕ) (c : List ℕ) (k k2 : Kept) (p : Progress) (r : List ℕ) (due : List Mark) (d d2 : Devices) → IsInHead new → EndsFrom q reported → At q r due → Consumed new r due c (Some (event.PduEnd reported))
      → ((body : List ℕ) → Pends k d.store p (body_in reported body) [] → Does rooms set p (timeline.At (End reported body)) k2 [] [] d d2)
      → (body started : List ℕ) → Pending r due body started → Pends k d.store p body started → Handles rooms set (record { position = new; kept = k2 }) p r due c true d d2
  handled_end (position.Head bytes) new reported c k k2 p r due d d2 in_head w a t accepts body started pending pends = absurd w
  handled_end (position.Body kind remaining) new reported c k k2 p r due d d2 in_head w a t accepts body started pending pends = go a where
    go : AtBody kind remaining r due → Handles rooms set (record { position = new; kept = k2 }) p r due c true d d2
    go (in_body lt i none) = absurd (omega (arith, lt, w.1))
    go (after_body o) = handled_over new kind remaining reported c k k2 p r due d d2 w.0 in_head o t accepts body started pending pends
  handled_end (position.PdvHead remaining bytes) new reported c k k2 p r due d d2 in_head w a t accepts body started pending pends =
      let report = t.reports in
      let all : due ++ new_marks r c ≡ report.mark ∷ t.later = mark_consumed new r due c (event.PduEnd reported) t report in
      let x = mark_of_end reported report.mark report.same in
      let was : Pends k d.store p (body_in reported x.0) [] = subst (λ (z : ℕ). Pends k d.store p (body_in z x.0) []) (sym w) (pends_in_pdv k d.store p remaining bytes.items r due body started a pending pends) in
      handled_quiet new k2 p r due c report.mark t.later d d2 all (quiet_in_head new in_head) t.is_at (subst (λ (z : Mark). Does rooms set p (timeline.At z) k2 [] [] d d2) (sym x.1) (accepts x.0 was))
  handled_end (position.Fragment remaining more) new reported c k k2 p r due d d2 in_head w a t accepts body started pending pends = absurd w
  handled_end (position.Leftover remaining) new reported c k k2 p r due d d2 in_head w a t accepts body started pending pends = absurd w
  handled_end (position.Skipped kind remaining) new reported c k k2 p r due d d2 in_head w a t accepts body started pending pends = handled_over new kind remaining reported c k k2 p r due d d2 w in_head a t accepts body started pending pends

  -- ---- any event

  pub handled_event : (q new : Position) (n : ℕ) (c : List ℕ) (e : Event) (k k2 : Kept) (p : Progress) (r : List ℕ) (due : List Mark) (d d2 : Devices) → length c ≡ n → Shaped q n c e new → At q r due → Consumed new r due c (Some e)
      → Accepts rooms set k k2 (body_kind new) e d d2 → ShowsDue (record { position = q; kept = k }) d.store p r due → Handles rooms set (record { position = new; kept = k2 }) p r due c true d d2
  handled_event q new n c (event.PduHead head) k k2 p r due d d2 size (bytes, is, w) here t accepts h =
      handled_head new bytes.items c head k k2 p r due d d2 (subst (λ (x : Position). At x r due) is here) w t (accepts p) h.body h.started h.pending h.pends
  handled_event q new n c (event.Body part) k k2 p r due d d2 size (kind, remaining, is, lent) here t accepts h =
      let some = t.reports.some in
      let all : due ++ new_marks r c ≡ t.later = marks_consumed new r due c (Some (event.Body part)) t ∙ ap (λ (ms : List Mark). ms ++ t.later) (ap marks_among t.reports.lent ∙ among_body c) in
      let same : Accepts rooms set k k2 kind (event.Body part) d d2 = subst (λ (x : Position). Accepts rooms set k k2 (body_kind x) (event.Body part) d d2) lent.new_is accepts in
      subst (λ (x : Devices). Handles rooms set (record { position = new; kept = k2 }) p r due c true d x) (sym same.0)
      (handled_body new kind remaining n part.now c k k2 p r due d size lent some (t.prompt some) (subst (λ (x : Position). At x r due) is here) t.later all t.is_at (same.1 p) h.body h.started h.pending h.pends)
  handled_event q new n c (event.PdvHead head) k k2 p r due d d2 size (remaining, bytes, is, w) here t accepts h =
      handled_pdv_head new remaining n bytes.items c head k k2 p r due d d2 size (subst (λ (x : Position). At x r due) is here) w t (accepts p (bytes.items ++ c) w.all w.follows.0) h.body h.started h.pending h.pends
  handled_event q new n c (event.Fragment part) k k2 p r due d d2 size (remaining, due_more, is, lent) here t accepts h =
      let some = t.reports.some in
      let all : due ++ new_marks r c ≡ t.later = marks_consumed new r due c (Some (event.Fragment part)) t ∙ ap (λ (ms : List Mark). ms ++ t.later) (ap marks_among t.reports.lent ∙ among_fragment c) in
      handled_fragment new remaining due_more n part.now c k k2 p r due d d2 size lent some (t.prompt some) (subst (λ (x : Position). At x r due) is here) t.later all t.is_at (accepts p) h.body h.started h.pending h.pends
  handled_event q new n c event.PdvEnd k k2 p r due d d2 size (remaining, due_more, is, zero, follows) here t accepts h =
      let at = subst (λ (x : Position). At x r due) is here in
      handled_value_end new remaining due_more c k k2 p r due d d2 zero follows at at t (accepts p) h.body h.started h.pending h.pends
  handled_event q new n c event.BadPdv k k2 p r due d d2 size (remaining, bytes, is, w) here t accepts h =
      let reported = t.reports in
      let all : due ++ new_marks r c ≡ BadPdv ∷ t.later = mark_consumed new r due c event.BadPdv t reported ∙ ap (λ (x : Mark). x ∷ t.later) (mark_of_bad reported.mark reported.same) in
      handled_quiet new k2 p r due c BadPdv t.later d d2 all (quiet_plain new (remaining - n) w.follows) t.is_at
      (accepts p (pends_in_pdv k d.store p remaining bytes.items r due h.body h.started (subst (λ (x : Position). At x r due) is here) h.pending h.pends))
  handled_event q new n c event.Leftover k k2 p r due d d2 size (remaining, is, e) here t accepts h =
      let a = subst (λ (x : Position). At x r due) is here in
      let x = subst (λ (ms : List Mark). Pending r ms h.body h.started) a.due_is h.pending in
      let reported = t.reports in
      let all : due ++ new_marks r c ≡ reported.mark ∷ t.later = mark_consumed new r due c event.Leftover t reported in
      let whole : Leftover ∷ new_marks r c ≡ reported.mark ∷ t.later = subst (λ (ms : List Mark). ms ++ new_marks r c ≡ reported.mark ∷ t.later) a.due_is all in
      let m_is : Leftover ≡ reported.mark = first_mark Leftover reported.mark (new_marks r c) t.later whole in
      handled_quiet new k2 p r due c reported.mark t.later d d2 all (quiet_plain new remaining e) t.is_at
      (subst (λ (z : Mark). Does rooms set p (timeline.At z) k2 [] [] d d2) m_is (accepts p (pends_as k d.store p [] [] h.body h.started x.0 x.1 h.pends)))
  handled_event q new n c (event.PduEnd reported) k k2 p r due d d2 size (s, from) here t accepts h = handled_end q new reported c k k2 p r due d d2 s from here t (accepts p) h.body h.started h.pending h.pends
