-- A PDU of which nothing counts may go by: its marks before its end do nothing (`passed_event`, `passed_none`), and the
-- deframer may be asked to skip it (`handled_passed`). Stands on EntriesJoin, EventIsDone, EventShape, FramesAndMarks,
-- PieceIsDone, FieldsShow, MarksAreDone/PdvJoined and the laws of `pdu`.
use Rattle.std.proofs.Common.{◌≡◌, ℕ, ◌<◌, ◌≤◌, Bool, true, false, not, ◌&&◌, ◌||◌, if◌then◌else◌, nat_eq, List, [], ◌∷◌, ◌++◌, length, drop, map, Option, Some, None, refl, sym, ap, subst, ◌∙◌, append_assoc, arith, inl, inr}
use Rattle.std.proofs.lemmas.Grind.{common_steps}
use Rattle.std.proofs.lemmas.Bool.{cases_Bool}
use Rattle.std.proofs.lemmas.List.{append-nil, map-append}
use Rattle.acceptor.specs.declared.state.State.{State}
use Rattle.acceptor.specs.declared.state.State.TheVariants.{Sta1, Sta2, Sta3, Sta6, Sta8, Sta13}
use Rattle.pdu.specs.declared.position.Position.{Position}
use Rattle.pdu.specs.declared.position.Position.TheVariants as position
use Rattle.pdu.specs.declared.event.Event.{Event}
use Rattle.pdu.specs.declared.event.Event.TheVariants as event
use Rattle.pdu.specs.Frames.{IsFrame, IsRest, rest_of}
use Rattle.pdu.specs.Marks.{Mark, Head, PdvHead, Pdv, BadPdv, Leftover, End, frame_kind, new_marks}
use Rattle.pdu.specs.Spot.{spot}
use Rattle.pdu.specs.Parts.{end_mark}
use Rattle.pdu.specs.Deframing.{At, SkipsAt, Skipped, continues, ends, IsInner, AreInner, Skip, no_frame, end_alone, skipped}
use Rattle.pdu.specs.Steps.{body_kind, skip_of, IsInHead, IsSkipped, Steps}
use Rattle.pdu.proofs.Public.{same_frame, rest_alone, marks_within, skip_at}
use Rattle.negotiate.specs.Settings.{Settings}
use Rattle.dimse.specs.Messages as messages
use Rattle.dimse.specs.Messages.{Message, ended}
use Rattle.part10.specs.Store.{Store}
use Rattle.engine.specs.Timeline as timeline
use Rattle.engine.specs.Timeline.{good}
use Rattle.decisions.specs.declared.decision.Decision.TheVariants as decision
use Rattle.decisions.specs.ValueEnds.{value_end}
use Rattle.engine.specs.Progress.{Progress, Advance, deciding, absorb, nothing, is_due, is_established}
use Rattle.engine.specs.Devices.{Devices}
use Rattle.engine.specs.Run.{Rooms, gives, progress_of}
use Rattle.engine.specs.Reached.{accepts_pdvs, started_in}
use Rattle.engine.specs.Replies.{invalid, at_pdv_head, at_pdv}
use Rattle.engine.specs.Held.{is_ended}
use Rattle.engine.specs.Fair.{IsVerdict}
use Rattle.engine.specs.Kept.{Kept, Pends, counted_body, body_in, accepts_pdvs_in, accepts_body_in}
use Rattle.engine.specs.machine.Does.{Does, DoesAll}
use Rattle.engine.specs.machine.Events.{Accepts}
use Rattle.engine.specs.FrameFields.{IsUncounted, StandsAt, reads, skips, body_of}
use Rattle.engine.specs.machine.Skips.{passed, in_pdv_head}
use Rattle.engine.specs.machine.Shows.{Handles, Pending}
use Rattle.engine.proofs.FieldsShow.NothingCounts.{accepts_shown}
use Rattle.engine.proofs.FieldsShow.TriedIsDone.{does_nothing, consumed_when, none_counted_body}
use Rattle.engine.proofs.PiecesAreDone.EntriesJoin.{does_none, does_one, does_more, does_then}
use Rattle.engine.proofs.MarksAreDone.PdvJoined.{pends_dropped}
use Rattle.engine.proofs.PiecesAreDone.PieceIsDone.{spot_none}
use Rattle.engine.proofs.PiecesAreDone.EventShape.{FitsAt, no_body, no_fragment}
use Rattle.engine.proofs.PiecesAreDone.FramesAndMarks.{body_none}
use Rattle.engine.proofs.PiecesAreDone.EventIsDone.{pending_none}

-- ---- a frame that goes by

pub record SkipsFrame (q : Position) (r : List ℕ) : Type 0 where
  pub rest : IsRest r
  pub headed : 6 ≤ length r
  pub same : skip_of q ≡ q

pub skips_frame : (q : Position) (r : List ℕ) → SkipsAt q r → SkipsFrame q r
skips_frame (position.Head bytes) r s = absurd s
skips_frame (position.Body kind remaining) r s = absurd s
skips_frame (position.PdvHead remaining bytes) r s = absurd s
skips_frame (position.Fragment remaining more) r s = absurd s
skips_frame (position.Leftover remaining) r s = absurd s
skips_frame (position.Skipped kind remaining) r s = record { rest = s.1; headed = s.2; same = refl }

-- ---- nothing of it counts

body_uncounted : (st : State) (a b one : Bool) (xs : List ℕ) → (is_ended st ≡ false → a ≡ b) → (is_due st && (not a && one)) ≡ false → (if is_due st && not b then (if one then xs else []) else []) ≡ []
body_uncounted Sta1 a b one xs h e = refl
body_uncounted Sta2 a true one xs h e = refl
body_uncounted Sta2 a false false xs h e = refl
body_uncounted Sta2 true false true xs h e = let wrong : true ≡ false = h refl in absurd cc
body_uncounted Sta2 false false true xs h e = absurd cc
body_uncounted Sta3 a b one xs h e = refl
body_uncounted Sta6 a b one xs h e = refl
body_uncounted Sta8 a b one xs h e = refl
body_uncounted Sta13 a b one xs h e = refl

pub none_counted : (k : Kept) (store : Store) (p : Progress) (body started : List ℕ) (kind : ℕ) (xs : List ℕ) → accepts_body_in k kind ≡ false → Pends k store p body started → counted_body p (body_in kind xs) ≡ []
none_counted k store p body started kind xs u h =
    let at_p : (is_due p.state && (not k.refused && nat_eq kind 1)) ≡ false = sym (ap (λ (st : State). is_due st && (not k.refused && nat_eq kind 1)) h.state_is) ∙ u in
    body_uncounted p.state k.refused p.refused (nat_eq kind 1) xs h.refused_is at_p

-- what has come of it may be anything
pub pends_past : (k : Kept) (store : Store) (p : Progress) (body other started started_too : List ℕ) → counted_body p body ≡ counted_body p other → accepts_pdvs_in k ≡ false → Pends k store p body started → Pends k store p other started_too
pends_past k store p body other started started_too same t was =
    let h = pends_dropped k store p body started started_too (sym (accepts_shown k store p body started was) ∙ t) was in
    record {
      state_is = h.state_is;
      refused_is = h.refused_is;
      decided_is = h.decided_is;
      body_is = h.body_is ∙ same;
      join_is = h.join_is;
      agreed = h.agreed;
      unagreed = h.unagreed;
      none_remaining = h.none_remaining;
      walks = h.walks;
      draft = h.draft;
      failed_in = h.failed_in;
    }

not_due : (a b : Bool) → (a && (b && false)) ≡ false
not_due a b = grind (arith, common_steps)

data_uncounted : (k : Kept) (kind : ℕ) → kind ≡ 4 → accepts_body_in k kind ≡ false
data_uncounted k kind e = subst (λ (x : ℕ). accepts_body_in k x ≡ false) (sym e) (not_due (is_due k.state) (not k.refused))

uncounted_at : (q : Position) (k : Kept) (r : List ℕ) (due : List Mark) → At q r due → SkipsAt (skip_of q) r → accepts_body_in k (body_kind q) ≡ false → accepts_body_in k (frame_kind r) ≡ false
uncounted_at (position.Head bytes) k r due a s t = absurd s
uncounted_at (position.Body kind remaining) k r due a s t = subst (λ (x : ℕ). accepts_body_in k x ≡ false) (sym s.3) t
uncounted_at (position.PdvHead remaining bytes) k r due a s t = data_uncounted k (frame_kind r) s.3
uncounted_at (position.Fragment remaining more) k r due a s t = data_uncounted k (frame_kind r) s.3
uncounted_at (position.Leftover remaining) k r due a s t = data_uncounted k (frame_kind r) s.3
uncounted_at (position.Skipped kind remaining) k r due a s t = absurd (omega (arith, a.none_remaining, s.0))

-- ---- what is pending where marks within a frame are due

pending_within : (k : Kept) (store : Store) (p : Progress) (r : List ℕ) (ms : List Mark) (body started : List ℕ) → accepts_body_in k (frame_kind r) ≡ false → AreInner ms → Pending r ms body started → Pends k store p body started → counted_body p body ≡ []
pending_within k store p r [] body started u i h pends = ap (counted_body p) h.0 ∙ none_counted k store p body started (frame_kind r) (drop 6 r) u pends
pending_within k store p r (Head kind n ∷ ms) body started u i h pends = absurd i.0
pending_within k store p r (PdvHead n context control ∷ ms) body started u i h pends = ap (counted_body p) h.0 ∙ none_counted_body p
pending_within k store p r (Pdv context control fragment ∷ ms) body started u i h pends = ap (counted_body p) h.0 ∙ none_counted_body p
pending_within k store p r (BadPdv ∷ ms) body started u i h pends = ap (counted_body p) h.0 ∙ none_counted_body p
pending_within k store p r (Leftover ∷ ms) body started u i h pends = ap (counted_body p) h.0 ∙ none_counted_body p
pending_within k store p r (End kind whole ∷ ms) body started u i h pends = absurd i.0

no_data_body : (kind : ℕ) (whole : List ℕ) → kind ≡ 4 → [] ≡ body_in kind whole
no_data_body kind whole e = sym (ap (λ (x : ℕ). body_in x whole) e)

pending_end : (r : List ℕ) (before : List Mark) (kind : ℕ) (whole body started : List ℕ) → AreInner before → (0 < length before → kind ≡ 4) → Pending r (before ++ End kind whole ∷ []) body started → body ≡ body_in kind whole
pending_end r [] kind whole body started i only h = h.0
pending_end r (Head x n ∷ ms) kind whole body started i only h = absurd i.0
pending_end r (PdvHead n context control ∷ ms) kind whole body started i only h = h.0 ∙ no_data_body kind whole (only (omega arith))
pending_end r (Pdv context control fragment ∷ ms) kind whole body started i only h = h.0 ∙ no_data_body kind whole (only (omega arith))
pending_end r (BadPdv ∷ ms) kind whole body started i only h = h.0 ∙ no_data_body kind whole (only (omega arith))
pending_end r (Leftover ∷ ms) kind whole body started i only h = h.0 ∙ no_data_body kind whole (only (omega arith))
pending_end r (End x b ∷ ms) kind whole body started i only h = absurd i.0

some_last : (before : List Mark) (m : Mark) → before ++ m ∷ [] ≡ [] → ⊥
some_last before m h = grind (arith, common_steps)

-- ---- the head of a PDV

pub heads_still : (q : Position) (n : ℕ) (c : List ℕ) (new : Position) → Steps q n c None new → in_pdv_head q ≡ false → in_pdv_head new ≡ false
heads_still (position.Head bytes) n c new s e = at_head new s where
  at_head : (x : Position) → IsInHead x → in_pdv_head x ≡ false
  at_head x h = grind (arith, common_steps)
heads_still (position.Body kind remaining) n c new s e = ap in_pdv_head s.1
heads_still (position.PdvHead remaining bytes) n c new s e = absurd cc
heads_still (position.Fragment remaining more) n c new s e = ap in_pdv_head s.1
heads_still (position.Leftover remaining) n c new s e = absurd s
heads_still (position.Skipped kind remaining) n c new s e = at_skipped new s where
  at_skipped : (x : Position) → IsSkipped x → in_pdv_head x ≡ false
  at_skipped x h = grind (arith, common_steps)

skipped_no_head : (q : Position) → in_pdv_head (skip_of q) ≡ false
skipped_no_head q = grind (arith, common_steps)

body_no_head : (q : Position) (k : Kept) → accepts_body_in k (body_kind q) ≡ true → in_pdv_head q ≡ false
body_no_head (position.Head bytes) k t = refl
body_no_head (position.Body kind remaining) k t = refl
body_no_head (position.PdvHead remaining bytes) k t = let wrong : true ≡ false = sym t ∙ not_due (is_due k.state) (not k.refused) in absurd cc
body_no_head (position.Fragment remaining more) k t = refl
body_no_head (position.Leftover remaining) k t = refl
body_no_head (position.Skipped kind remaining) k t = refl

pub heads_passed : (k : Kept) (q : Position) → accepts_pdvs_in k ≡ false → in_pdv_head (passed k q) ≡ false
heads_passed k q t =
    elim (cases_Bool (accepts_body_in k (body_kind q))) [
      | inl b ↦ rw (t, b) (body_no_head q k b)
      | inr b ↦ rw (t, b) (skipped_no_head q)
    ]

-- ---- room

room_skipped : (room : ℕ) (k : Kept) (q : Position) → FitsAt room k q → FitsAt room k (skip_of q)
room_skipped room k (position.Head bytes) h = h
room_skipped room k (position.Body kind remaining) h = (no_body room k 0 0 (λ e. absurd cc), no_fragment k)
room_skipped room k (position.PdvHead remaining bytes) h = (no_body room k 0 0 (λ e. absurd cc), no_fragment k)
room_skipped room k (position.Fragment remaining more) h = (no_body room k 0 0 (λ e. absurd cc), no_fragment k)
room_skipped room k (position.Leftover remaining) h = (no_body room k 0 0 (λ e. absurd cc), no_fragment k)
room_skipped room k (position.Skipped kind remaining) h = (no_body room k 0 0 (λ e. absurd cc), no_fragment k)

pub room_passed : (room : ℕ) (k : Kept) (q : Position) → FitsAt room k q → FitsAt room k (passed k q)
room_passed room k q h =
    elim (cases_Bool (accepts_pdvs_in k || accepts_body_in k (body_kind q))) [
      | inl t ↦ rw t h
      | inr t ↦ rw t (room_skipped room k q h)
    ]

-- ---- where it stands once it goes by

neither : (a b : Bool) → (a || b) ≡ false → (a ≡ false) × (b ≡ false)
neither a b h = grind (arith, common_steps)

pub stands_passed : (q : Position) (k n : Kept) (r : List ℕ) → ((kind : ℕ) → IsUncounted k kind → IsUncounted n kind) → StandsAt q k r [] → StandsAt (passed n q) n r []
stands_passed q k n r still h =
    elim (cases_Bool (accepts_pdvs_in n || accepts_body_in n (body_kind q))) [
      | inl t ↦ rw t (same h)
      | inr t ↦ rw t (skip (neither (accepts_pdvs_in n) (accepts_body_in n (body_kind q)) t) h)
    ]
  where
    same : StandsAt q k r [] → StandsAt q n r []
    same (reads a) = reads a
    same (skips s u none) = skips s (still (frame_kind r) u) refl

    by : (accepts_pdvs_in n ≡ false) × (accepts_body_in n (body_kind q) ≡ false) → At q r [] → Skip (skip_of q) r [] → StandsAt (skip_of q) n r []
    by t at (no_frame lt none a) = reads a
    by t at (end_alone before kind body are only is a) = absurd (some_last before (End kind body) (sym is))
    by t at (skipped are s) = skips s (record { pdvs = t.0; body = uncounted_at q n r [] at s t.1 }) refl

    skip : (accepts_pdvs_in n ≡ false) × (accepts_body_in n (body_kind q) ≡ false) → StandsAt q k r [] → StandsAt (skip_of q) n r []
    skip t (reads a) = by t a (skip_at q r [] a)
    skip t (skips s u none) = subst (λ (x : Position). StandsAt x n r []) (sym (skips_frame q r s).same) (skips s (still (frame_kind r) u) refl)

-- ---- marks within a frame give nothing

pub dropped_by : (p : Progress) (g : Advance) → accepts_pdvs p ≡ false → (if p.refused then nothing p else (if is_established p.state then g else nothing p)) ≡ nothing p
dropped_by p g t = consumed_when (is_established p.state) p.refused g (nothing p) ∙ ap (λ (y : Bool). if y then g else nothing p) t

module _ (rooms : Rooms) (set : Settings) where
  no_message : (p : Progress) (m : Option Message) → accepts_pdvs p ≡ false → IsVerdict rooms set p good (if accepts_pdvs p then m else None)
  no_message p m t = subst (λ (o : Option Message). IsVerdict rooms set p good o) (sym (ap (λ (x : Bool). if x then m else None) t)) tt

  does_within : (p : Progress) (m : Mark) (k : Kept) (body started : List ℕ) (d : Devices) → IsInner m → accepts_pdvs p ≡ false → Pends k d.store p body started → Does rooms set p (timeline.At m) k body started d d
  does_within p (Head kind n) k body started d i t h = absurd i
  does_within p (PdvHead n context control) k body started d i t h = does_nothing rooms set p (timeline.At (PdvHead n context control)) k body started d (dropped_by p (at_pdv_head rooms.command p n context control) t) tt h
  does_within p (Pdv context control fragment) k body started d i t h =
      let pdv : messages.Pdv = record { context = context; control = control; fragment = fragment } in
      does_nothing rooms set p (timeline.At (Pdv context control fragment)) k body started d (dropped_by p (at_pdv p good pdv) t) (no_message p (ended p.message pdv) t) h
  does_within p BadPdv k body started d i t h = does_nothing rooms set p (timeline.At BadPdv) k body started d (dropped_by p (invalid (deciding decision.BadPdv p)) t) tt h
  does_within p Leftover k body started d i t h = does_nothing rooms set p (timeline.At Leftover) k body started d (dropped_by p (invalid (deciding (decision.Leftover (value_end p.decided)) p)) t) tt h
  does_within p (End kind whole) k body started d i t h = absurd i

  does_inner : (ms : List Mark) → AreInner ms → (p : Progress) (k : Kept) (body started : List ℕ) (d : Devices) → accepts_pdvs_in k ≡ false → Pends k d.store p body started → DoesAll rooms set p (map timeline.At ms) k body started d d
  does_inner [] i p k body started d t h = does_none rooms set p k body started d h
  does_inner (m ∷ ms) i p k body started d t h =
      let one = does_within p m k body started d i.0 (sym (accepts_shown k d.store p body started h) ∙ t) h in
      does_more rooms set p (timeline.At m) (map timeline.At ms) k k body started body started d d d one (does_inner ms i.1 (gives rooms set p (timeline.At m, one.outcome)).next k body started d t one.pends)

  -- some marks were done, and these within the frame after them
  does_past : (p : Progress) (xs ys : List Mark) (k : Kept) (b f body started : List ℕ) (d e : Devices) → AreInner ys → accepts_pdvs_in k ≡ false → (h : DoesAll rooms set p (map timeline.At xs) k b f d e)
      → Pends k e.store (absorb h.failed (progress_of rooms set p h.story)) body started → DoesAll rooms set p (map timeline.At (xs ++ ys)) k body started d e
  does_past p xs ys k b f body started d e i t h pends =
      let q = absorb h.failed (progress_of rooms set p h.story) in
      rw (map-append timeline.At xs ys) (does_then rooms set p (map timeline.At xs) (map timeline.At ys) k k b f body started d e e h (does_inner ys i q k body started e t pends))

  -- ---- a call in a frame that goes by

  skipped_on : (new : Position) (k : Kept) (p : Progress) (r c : List ℕ) (due : List Mark) (d : Devices) → IsUncounted k (frame_kind r) → IsRest r → 6 ≤ length r → due ≡ [] → SkipsAt new (r ++ c)
      → (body started : List ℕ) → Pending r due body started → Pends k d.store p body started → Handles rooms set (record { position = new; kept = k }) p r due c false d d
  skipped_on new k p r c due d u rest headed none at body started pending pends =
      let there = skips_frame new (r ++ c) at in
      let same : rest_of (r ++ c) ≡ r ++ c = rest_alone (r ++ c) there.rest in
      let u_then : IsUncounted k (frame_kind (r ++ c)) = subst (λ (x : ℕ). IsUncounted k x) (sym (same_frame r c headed).kind) u in
      let x = pending_none r due body started none pending in
      let nothing_was : counted_body p body ≡ [] = ap (counted_body p) x.0 ∙ none_counted k d.store p body started (frame_kind r) (drop 6 r) u.body pends in
      let nothing_is : counted_body p (body_of (r ++ c)) ≡ [] = none_counted k d.store p body started (frame_kind (r ++ c)) (drop 6 (r ++ c)) u_then.body pends in
      let was = pends_past k d.store p body (body_of (r ++ c)) started (started_in (spot (r ++ c))) (nothing_was ∙ sym nothing_is) u.pdvs pends in
      record {
        marks = new_marks r c;
        later = [];
        all = ap (λ (ms : List Mark). ms ++ new_marks r c) none ∙ sym (append-nil (new_marks r c));
        body = body_of (r ++ c);
        started = started_in (spot (r ++ c));
        does = does_inner (new_marks r c) ((marks_within r c rest headed).continues there.rest) p k (body_of (r ++ c)) (started_in (spot (r ++ c))) d u.pdvs was;
        pending = subst (λ (z : List ℕ). Pending z [] (body_of (r ++ c)) (started_in (spot (r ++ c)))) (sym same) (refl, refl);
        is_at = subst (λ (z : List ℕ). StandsAt new k z []) (sym same) (skips at u_then refl);
        none_due = λ _. refl;
      }

  skipped_end : (new : Position) (k k2 : Kept) (p : Progress) (r c : List ℕ) (due : List Mark) (d d2 : Devices) → IsUncounted k (frame_kind r) → IsRest r → 6 ≤ length r → due ≡ [] → IsFrame (r ++ c) → At new [] []
      → ((q : Progress) (whole : List ℕ) → Pends k d.store q (body_in (frame_kind r) whole) [] → Does rooms set q (timeline.At (End (frame_kind r) whole)) k2 [] [] d d2)
      → (body started : List ℕ) → Pending r due body started → Pends k d.store p body started → Handles rooms set (record { position = new; kept = k2 }) p r due c true d d2
  skipped_end new k k2 p r c due d d2 u rest headed none whole at accepts body started pending pends =
      let w = (marks_within r c rest headed).ends whole in
      let text = drop 6 (r ++ c) in
      let last : Mark = end_mark (r ++ c) in
      let mark : End (frame_kind r) text ≡ last = ap (λ (x : ℕ). End x text) (sym (same_frame r c headed).kind) in
      let x = pending_none r due body started none pending in
      let nothing_was : counted_body p body ≡ [] = ap (counted_body p) x.0 ∙ none_counted k d.store p body started (frame_kind r) (drop 6 r) u.body pends in
      let nothing_is : counted_body p (body_in (frame_kind r) text) ≡ [] = none_counted k d.store p body started (frame_kind r) text u.body pends in
      let was = pends_past k d.store p body (body_in (frame_kind r) text) started [] (nothing_was ∙ sym nothing_is) u.pdvs pends in
      let first = does_inner w.inner w.are_inner p k (body_in (frame_kind r) text) [] d u.pdvs was in
      let q = absorb first.failed (progress_of rooms set p first.story) in
      let last_did : Does rooms set q (timeline.At last) k2 [] [] d d2 = subst (λ (m : Mark). Does rooms set q (timeline.At m) k2 [] [] d d2) mark (accepts q text first.pends) in
      record {
        marks = w.inner ++ last ∷ [];
        later = [];
        all = ap (λ (ms : List Mark). ms ++ new_marks r c) none ∙ w.marks ∙ sym (append-nil (w.inner ++ last ∷ []));
        body = [];
        started = [];
        does = rw (map-append timeline.At w.inner (last ∷ []))
            (does_then rooms set p (map timeline.At w.inner) (timeline.At last ∷ []) k k2 (body_in (frame_kind r) text) [] [] [] d d d2 first (does_one rooms set q (timeline.At last) k2 [] [] d d2 last_did));
        pending = subst (λ (z : List ℕ). Pending z [] [] []) (sym w.rest) (sym (body_none [] (omega arith)), sym (ap started_in spot_none));
        is_at = subst (λ (z : List ℕ). StandsAt new k2 z []) (sym w.rest) (reads at);
        none_due = λ wrong. absurd cc;
      }

  pub passed_none : (q new : Position) (c : List ℕ) (k : Kept) (p : Progress) (r : List ℕ) (due : List Mark) (d : Devices) → SkipsAt q r → IsUncounted k (frame_kind r) → due ≡ [] → Skipped new r c None
      → (body started : List ℕ) → Pending r due body started → Pends k d.store p body started → Handles rooms set (record { position = new; kept = k }) p r due c false d d
  passed_none q new c k p r due d s u none (continues e at) body started pending pends = let f = skips_frame q r s in skipped_on new k p r c due d u f.rest f.headed none at body started pending pends
  passed_none q new c k p r due d s u none (ends e w at) body started pending pends = absurd cc

  pub passed_event : (q new : Position) (c : List ℕ) (e : Event) (k k2 : Kept) (p : Progress) (r : List ℕ) (due : List Mark) (d d2 : Devices) → SkipsAt q r → IsUncounted k (frame_kind r) → due ≡ [] → Skipped new r c (Some e)
      → Accepts rooms set k k2 (body_kind new) e d d2 → (body started : List ℕ) → Pending r due body started → Pends k d.store p body started → Handles rooms set (record { position = new; kept = k2 }) p r due c true d d2
  passed_event q new c e k k2 p r due d d2 s u none (continues is at) accepts body started pending pends = absurd cc
  passed_event q new c e k k2 p r due d d2 s u none (ends is w at) accepts body started pending pends =
      let f = skips_frame q r s in
      let same : e ≡ event.PduEnd (frame_kind r) = cc in
      let accepts_end : Accepts rooms set k k2 (body_kind new) (event.PduEnd (frame_kind r)) d d2 = subst (λ (x : Event). Accepts rooms set k k2 (body_kind new) x d d2) same accepts in
      skipped_end new k k2 p r c due d d2 u f.rest f.headed none w at accepts_end body started pending pends

  -- ---- the rest of a frame goes by after an event

  handled_skip : (q : Position) (k : Kept) (p : Progress) (r : List ℕ) (due : List Mark) (c : List ℕ) (more : Bool) (d e : Devices) → accepts_pdvs_in k ≡ false → accepts_body_in k (body_kind q) ≡ false
      → Handles rooms set (record { position = q; kept = k }) p r due c more d e → Handles rooms set (record { position = skip_of q; kept = k }) p r due c more d e
  handled_skip q k p r due c more d e t b x = go x.is_at where
    rest : List ℕ
    rest = rest_of (r ++ c)

    there : Progress
    there = absorb x.does.failed (progress_of rooms set p x.does.story)

    by : At q rest x.later → Skip (skip_of q) rest x.later → Handles rooms set (record { position = skip_of q; kept = k }) p r due c more d e
    by at (no_frame lt none a) = record {
      marks = x.marks;
      later = [];
      all = x.all ∙ ap (λ (ms : List Mark). x.marks ++ ms) none;
      body = x.body;
      started = x.started;
      does = x.does;
      pending = subst (λ (ms : List Mark). Pending rest ms x.body x.started) none x.pending;
      is_at = reads a;
      none_due = λ _. refl;
    }
    by at (skipped are s) =
        let u : IsUncounted k (frame_kind rest) = record { pdvs = t; body = uncounted_at q k rest x.later at s b } in
        let nothing_was : counted_body there x.body ≡ [] = pending_within k e.store there rest x.later x.body x.started u.body are x.pending x.does.pends in
        let nothing_is : counted_body there (body_of rest) ≡ [] = none_counted k e.store there x.body x.started (frame_kind rest) (drop 6 rest) u.body x.does.pends in
        record {
          marks = x.marks ++ x.later;
          later = [];
          all = x.all ∙ sym (append-nil (x.marks ++ x.later));
          body = body_of rest;
          started = started_in (spot rest);
          does = does_past p x.marks x.later k x.body x.started (body_of rest) (started_in (spot rest)) d e are t x.does (pends_past k e.store there x.body (body_of rest) x.started (started_in (spot rest)) (nothing_was ∙ sym nothing_is) t x.does.pends);
          pending = (refl, refl);
          is_at = skips s u refl;
          none_due = λ _. refl;
        }
    by at (end_alone before kind whole are only is a) =
        let same : x.body ≡ body_in kind whole = pending_end rest before kind whole x.body x.started are only (subst (λ (ms : List Mark). Pending rest ms x.body x.started) is x.pending) in
        record {
          marks = x.marks ++ before;
          later = End kind whole ∷ [];
          all = x.all ∙ ap (λ (ms : List Mark). x.marks ++ ms) is ∙ sym (append_assoc x.marks before (End kind whole ∷ []));
          body = body_in kind whole;
          started = [];
          does = does_past p x.marks before k x.body x.started (body_in kind whole) [] d e are t x.does (pends_past k e.store there x.body (body_in kind whole) x.started [] (ap (counted_body there) same) t x.does.pends);
          pending = (refl, refl);
          is_at = reads a;
          none_due = λ last. absurd (some_last before (End kind whole) (sym is ∙ x.none_due last));
        }

    go : StandsAt q k rest x.later → Handles rooms set (record { position = skip_of q; kept = k }) p r due c more d e
    go (reads a) = by a (skip_at q rest x.later a)
    go (skips s u none) = subst (λ (y : Position). Handles rooms set (record { position = y; kept = k }) p r due c more d e) (sym (skips_frame q rest s).same) x

  pub handled_passed : (q : Position) (k : Kept) (p : Progress) (r : List ℕ) (due : List Mark) (c : List ℕ) (more : Bool) (d e : Devices)
      → Handles rooms set (record { position = q; kept = k }) p r due c more d e → Handles rooms set (record { position = passed k q; kept = k }) p r due c more d e
  handled_passed q k p r due c more d e x =
      elim (cases_Bool (accepts_pdvs_in k || accepts_body_in k (body_kind q))) [
        | inl t ↦ rw t x
        | inr t ↦ let neither_of = neither (accepts_pdvs_in k) (accepts_body_in k (body_kind q)) t in rw t (handled_skip q k p r due c more d e neither_of.0 neither_of.1 x)
      ]
