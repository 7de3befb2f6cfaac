-- An association that stands as its inputs say does so with one input more: a piece (`moved_feed`), or another input
-- (`moved_call`); it stands so from the start (`stands_start`). Stands on AlongTimelines, FieldsShow, PiecesAreDone and the
-- laws of `pdu`.
use Rattle.std.proofs.Common.{◌≡◌, ℕ, Bool, true, false, List, [], ◌∷◌, ◌++◌, map, refl, sym, ap, subst, ◌∙◌, append_assoc, arith}
use Rattle.std.proofs.lemmas.Grind.{common_steps}
use Rattle.std.proofs.lemmas.List.{append-nil, map-append}
use Rattle.acceptor.specs.declared.state.State.TheVariants.{Sta1}
use Rattle.acceptor.specs.declared.event.Event.{Event}
use Rattle.part10.specs.Store.{Store}
use Rattle.pdu.specs.Frames.{IsRest, rest_of}
use Rattle.pdu.specs.Marks.{Mark, new_marks}
use Rattle.pdu.specs.Spot.{spot}
use Rattle.pdu.proofs.Public.{rest_is_rest, rest_alone, new_rest, rest_rest}
use Rattle.negotiate.specs.Settings.{Settings}
use Rattle.pdu.specs.declared.position.Position.{Position}
use Rattle.pdu.specs.Deframing as deframing
use Rattle.engine.specs.Inputs.{Received, Bytes, Close, Expiry, UserAbort, stream_of}
use Rattle.engine.specs.Timeline.{Entry, At, Shut, TimedOut, Aborted, Happened, entries, entries_of}
use Rattle.engine.specs.Progress.{Progress, absorb, at_start, done}
use Rattle.engine.specs.Devices.{Devices, files_in}
use Rattle.engine.specs.Run.{Rooms, gives, progress_of}
use Rattle.engine.specs.Fair.{MayFail, IsStory}
use Rattle.engine.specs.Reached.{reached, started_in}
use Rattle.engine.specs.Held.{is_ended}
use Rattle.engine.specs.Drafts.{IsThere, Drafts}
use Rattle.engine.specs.Stands.{Shows, Stands, drafting}
use Rattle.engine.specs.Moves.{Moved, StaysCharged}
use Rattle.engine.specs.Kept.{Kept, Pends}
use Rattle.engine.specs.StoredData.{drafting_in}
use Rattle.engine.specs.machine.Does.{Does, DoesAll, push, still_failed}
use Rattle.engine.specs.FrameFields.{StandsAt, IsUncounted, reads, Fields, ShowsFrame, body_of}
use Rattle.engine.specs.machine.PerformsReaction.{PerformsReaction}
use Rattle.engine.specs.machine.Events.{Outside, closed, expired, aborted}
use Rattle.engine.specs.machine.Skips.{passed}
use Rattle.engine.specs.machine.Shows.{DoesPart}
use Rattle.engine.proofs.AlongTimelines.TimelineGrows.{entries_append}
use Rattle.engine.proofs.AlongTimelines.StoriesJoin.{progress_then, fair_then, line_nothing, no_files}
use Rattle.engine.proofs.FieldsShow.TriedIsDone.{does_by}
use Rattle.engine.proofs.PiecesAreDone.EntriesJoin.{push_entries, push_wire, push_sent, push_files, push_fair, push_last, push_filing, push_progress, does_one}
use Rattle.engine.proofs.FieldsShow.NothingCounts.{pends_ended}
use Rattle.engine.proofs.PiecesAreDone.SkippedPdu.{stands_passed}
use Rattle.engine.proofs.PiecesAreDone.PieceIsDone.{empty_rest, spot_none, consumed_dropped}
use Rattle.engine.proofs.AlongTimelines.NothingAfterTheEnd.{calm, stays}
use Rattle.engine.proofs.FieldsShow.ByState.{ended_is}

-- ---- the stream

pub stream_then : (xs ys : List Received) → stream_of (xs ++ ys) ≡ stream_of xs ++ stream_of ys
stream_then [] ys = refl
stream_then (Bytes piece ∷ xs) ys = rw (stream_then xs ys) (simp append_assoc)
stream_then (Close ∷ xs) ys = stream_then xs ys
stream_then (Expiry ∷ xs) ys = stream_then xs ys
stream_then (UserAbort ∷ xs) ys = stream_then xs ys

pushed_charged : (failed : Bool) (story : List Happened) (last : Bool) → StaysCharged failed (push failed story) (still_failed failed story last)
pushed_charged failed story last = grind (arith, common_steps)

-- ---- an input that brings no byte

entry_outside : (event : Event) (x : Received) (entry : Entry) → Outside event x entry → (before : List ℕ) → entries before (x ∷ []) ≡ entry ∷ []
entry_outside event x entry h before = grind (arith, common_steps)

stream_outside : (event : Event) (x : Received) (entry : Entry) → Outside event x entry → stream_of (x ∷ []) ≡ []
stream_outside event x entry h = grind (arith, common_steps)

does_outside : (rooms : Rooms) (s : Settings) (p : Progress) (new : Kept) (body started : List ℕ) (old later : Devices) (event : Event) (x : Received) (entry : Entry) → Outside event x entry
    → PerformsReaction p (done [] 0 p event) new body started old later → Does rooms s p entry new body started old later
does_outside rooms s p new body started old later _ _ _ closed t = does_by rooms s p Shut _ new body started old later refl refl tt t
does_outside rooms s p new body started old later _ _ _ expired t = does_by rooms s p TimedOut _ new body started old later refl refl tt t
does_outside rooms s p new body started old later _ _ _ aborted t = does_by rooms s p Aborted _ new body started old later refl refl tt t

module _ (rooms : Rooms) (s : Settings) where
  -- what the entries of the new input did
  pub moved_by : (inputs : List Received) (story : List Happened) (failed : Bool) (x : Received) (old_f f : Fields) (b g : List ℕ) (d e : Devices) → IsStory rooms s inputs story failed
      → (a : DoesAll rooms s (absorb failed (progress_of rooms s at_start story)) (entries (stream_of inputs) (x ∷ [])) f.kept b g d e)
      → Shows f e.store (record { progress = absorb a.failed (progress_of rooms s (absorb failed (progress_of rooms s at_start story)) a.story); rest = rest_of (stream_of (inputs ++ x ∷ [])) })
      → Drafts (drafting old_f) d.store (drafting f) e.store → Moved rooms s inputs story failed x old_f f d e
  moved_by inputs story failed x old_f f b g d e h a shows same =
      let p = progress_of rooms s at_start story in
      let more = push failed a.story in
      let last = still_failed failed a.story a.failed in
      let rest = rest_of (stream_of (inputs ++ x ∷ [])) in
      let there : absorb last (progress_of rooms s at_start (story ++ more)) ≡ absorb a.failed (progress_of rooms s (absorb failed p) a.story) =
      ap (absorb last) (progress_then rooms s at_start story more) ∙ push_progress rooms s failed a.failed p a.story in
      let shown : Shows f e.store (record { progress = absorb last (progress_of rooms s at_start (story ++ more)); rest = rest }) = subst (λ (q : Progress). Shows f e.store (record { progress = q; rest = rest })) (sym there) shows in
      record {
        more = more;
        failed_then = last;
        charged = pushed_charged failed a.story a.failed;
        stands = record {
          story_is = record {
            reported = map-append (λ (y : Happened). y.0) story more ∙ ap (λ (es : List Entry). entries_of story ++ es) (push_entries failed a.story ∙ a.reported) ∙ ap (λ (es : List Entry). es ++ entries (stream_of inputs) (x ∷ [])) h.reported ∙ sym (entries_append inputs (x ∷ []));
            fair = fair_then rooms s at_start story more h.fair (push_fair rooms s failed p a.story h.last a.fair);
            last = λ t. subst (λ (q : Progress). MayFail q q) (sym (progress_then rooms s at_start story more)) (push_last rooms s failed a.failed p a.story h.last a.last t);
          };
          shows = shown;
          draft = shown.frame.pends.draft;
        };
        gains = record {
          line = a.gains.line ∙ rw (push_sent rooms s failed p a.story, push_wire failed a.story) refl;
          files = a.gains.files ∙ rw (push_files rooms s failed p a.story) refl;
          count = omega (arith, a.gains.count, push_filing rooms s failed a.failed p a.story a.fair a.last);
        };
        drafts = same;
      }

  -- bytes were received
  pub moved_bytes : (inputs : List Received) (story : List Happened) (failed : Bool) (piece : List ℕ) (old_f f : Fields) (d e : Devices) → IsStory rooms s inputs story failed
      → (t : DoesPart rooms s f (absorb failed (progress_of rooms s at_start story)) (rest_of (stream_of inputs)) piece d e)
      → (is_ended f.kept.state ≡ true → deframing.At f.position [] []) → Drafts (drafting old_f) d.store (drafting f) e.store → Moved rooms s inputs story failed (Bytes piece) old_f f d e
  moved_bytes inputs story failed piece old_f f d e h t headless same =
      let stream = stream_of inputs in
      let p = absorb failed (progress_of rooms s at_start story) in
      let q = absorb t.failed (progress_of rooms s p t.story) in
      let now : entries stream (Bytes piece ∷ []) ≡ map At (new_marks (rest_of stream) piece) = append-nil (map At (new_marks stream piece)) ∙ ap (λ (ms : List Mark). map At ms) (new_rest stream piece) in
      let whole : rest_of (stream_of (inputs ++ Bytes piece ∷ [])) ≡ rest_of (rest_of stream ++ piece) =
      ap rest_of (stream_then inputs (Bytes piece ∷ []) ∙ ap (λ (c : List ℕ). stream ++ c) (append-nil piece)) ∙ rest_rest stream piece in
      let a : DoesAll rooms s p (entries stream (Bytes piece ∷ [])) f.kept _ _ d e = record { story = t.story; failed = t.failed; reported = t.reported ∙ sym now; fair = t.fair; last = t.last; pends = t.shows.pends; gains = t.gains } in
      let shown : Shows f e.store (record { progress = q; rest = rest_of (rest_of stream ++ piece) }) = record { frame = t.shows; headless = λ ended. headless (ap is_ended t.shows.pends.state_is ∙ ended) } in
      moved_by inputs story failed (Bytes piece) old_f f _ _ d e h a (subst (λ (r : List ℕ). Shows f e.store (record { progress = q; rest = r })) (sym whole) shown) same

  -- another input was received, which brings this one entry
  pub moved_other : (inputs : List Received) (story : List Happened) (failed : Bool) (x : Received) (entry : Entry) (old_f f : Fields) (d e : Devices) → IsStory rooms s inputs story failed
      → entries (stream_of inputs) (x ∷ []) ≡ entry ∷ [] → stream_of (x ∷ []) ≡ []
      → Does rooms s (absorb failed (progress_of rooms s at_start story)) entry f.kept (body_of (rest_of (stream_of inputs))) (started_in (spot (rest_of (stream_of inputs)))) d e
      → (is_ended f.kept.state ≡ false → StandsAt f.position f.kept (rest_of (stream_of inputs)) [])
      → (is_ended f.kept.state ≡ true → deframing.At f.position [] []) → Drafts (drafting old_f) d.store (drafting f) e.store → Moved rooms s inputs story failed x old_f f d e
  moved_other inputs story failed x entry old_f f d e h one none did framed headless same =
      let p = absorb failed (progress_of rooms s at_start story) in
      let rest = rest_of (stream_of inputs) in
      let q = (gives rooms s p (entry, did.outcome)).next in
      let whole : rest_of (stream_of (inputs ++ x ∷ [])) ≡ rest = ap rest_of (stream_then inputs (x ∷ []) ∙ ap (λ (c : List ℕ). stream_of inputs ++ c) none ∙ append-nil (stream_of inputs)) in
      let a : DoesAll rooms s p (entry ∷ []) f.kept (body_of rest) (started_in (spot rest)) d e = does_one rooms s p entry f.kept (body_of rest) (started_in (spot rest)) d e did in
      let shown : Shows f e.store (record { progress = q; rest = rest }) = record {
        frame = record { framed = λ still. framed (ap is_ended did.pends.state_is ∙ still); pends = did.pends };
        headless = λ ended. headless (ap is_ended did.pends.state_is ∙ ended);
      } in
      let story_then : DoesAll rooms s p (entries (stream_of inputs) (x ∷ [])) f.kept (body_of rest) (started_in (spot rest)) d e = record { story = a.story; failed = a.failed; reported = a.reported ∙ sym one; fair = a.fair; last = a.last; pends = a.pends; gains = a.gains } in
      moved_by inputs story failed x old_f f (body_of rest) (started_in (spot rest)) d e h story_then (subst (λ (r : List ℕ). Shows f e.store (record { progress = q; rest = r })) (sym whole) shown) same

  -- after the end
  pub moved_still : (inputs : List Received) (story : List Happened) (failed : Bool) (x : Received) (f : Fields) (d : Devices) → Stands rooms s inputs story failed f d.store → is_ended f.kept.state ≡ true → IsThere (drafting f) d.store → Moved rooms s inputs story failed x f f d d
  moved_still inputs story failed x f d h ended there =
      let p = absorb failed (progress_of rooms s at_start story) in
      let es = entries (stream_of inputs) (x ∷ []) in
      let over : is_ended p.state ≡ true = sym (ap is_ended h.shows.frame.pends.state_is) ∙ ended in
      let is : p.state ≡ Sta1 = ended_is p.state over in
      let k = stays rooms s p es is in
      let q = progress_of rooms s p (calm es) in
      let rest = rest_of (stream_of (inputs ++ x ∷ [])) in
      let pends : Pends f.kept d.store q (body_of rest) (started_in (spot rest)) = pends_ended f.kept d.store d.store p q _ _ _ _ over (k.state ∙ sym is) k.decided k.message h.shows.frame.pends in
      let a : DoesAll rooms s p es f.kept (body_of rest) (started_in (spot rest)) d d = record {
        story = calm es;
        failed = false;
        reported = k.reported;
        fair = k.fair;
        last = λ wrong. absurd cc;
        pends = pends;
        gains = record {
          line = sym (rw (k.sent, k.wires) (line_nothing d.line));
          files = sym (rw k.files (no_files (files_in d.store)));
          count = omega (arith, k.filings);
        };
      } in
      moved_by inputs story failed x f f (body_of rest) (started_in (spot rest)) d d h.story_is a (record {
        frame = record { framed = λ still. absurd (let yes : is_ended q.state ≡ true = ap is_ended k.state in cc); pends = pends };
        headless = λ e. h.shows.headless over;
      }) (record { there = there; own = λ mine. mine })

  -- nothing has come
  pub stands_start : (q : Position) (k : Kept) (store : Store) → deframing.At q [] [] → Pends k store at_start [] [] → Stands rooms s [] [] false (record { position = q; kept = k }) store
  stands_start q k store at h =
      let fields : Fields = record { position = q; kept = k } in
      let none : rest_of [] ≡ [] = rest_alone [] empty_rest in
      let pends : Pends k store at_start (body_of []) (started_in (spot [])) = rw spot_none h in
      let shown : Shows fields store (record { progress = at_start; rest = [] }) = record {
        frame = record { framed = λ _. reads at; pends = pends };
        headless = λ ended. absurd cc;
      } in
      let now : Shows fields store (reached rooms s [] [] false) = subst (λ (r : List ℕ). Shows fields store (record { progress = at_start; rest = r })) (sym none) shown in
      record {
        story_is = record { reported = refl; fair = tt; last = λ wrong. absurd cc };
        shows = now;
        draft = now.frame.pends.draft;
      }

  -- what a call leaves once heads are released after the end
  pub record Dropped (f g : Fields) : Type 0 where
    pub kept : g.kept ≡ f.kept
    pub same : is_ended f.kept.state ≡ false → g ≡ f
    pub headless : is_ended f.kept.state ≡ true → deframing.At g.position [] []

  headless_then : (f g : Fields) → Dropped f g → is_ended g.kept.state ≡ true → deframing.At g.position [] []
  headless_then f g h e = let ended : is_ended f.kept.state ≡ true = ap (λ (k : Kept). is_ended k.state) (sym h.kept) ∙ e in h.headless ended

  -- the draft is that of what is kept
  drafts_kept : (old_f f g : Fields) (old new : Store) → g.kept ≡ f.kept → Drafts (drafting old_f) old (drafting f) new → Drafts (drafting old_f) old (drafting g) new
  drafts_kept old_f f g old new kept h = subst (λ (k : Kept). Drafts (drafting old_f) old (drafting_in k.storing) new) (sym kept) h

  -- a call that consumes bytes
  pub moved_feed : (inputs : List Received) (story : List Happened) (failed : Bool) (piece : List ℕ) (old_f f g : Fields) (d e : Devices) → Stands rooms s inputs story failed old_f d.store
      → is_ended old_f.kept.state ≡ false → ((p : Progress) (r : List ℕ) → IsRest r → is_ended p.state ≡ false → ShowsFrame old_f d.store p r → DoesPart rooms s f p r piece d e)
      → Dropped f g → Drafts (drafting old_f) d.store (drafting f) e.store → Moved rooms s inputs story failed (Bytes piece) old_f g d e
  moved_feed inputs story failed piece old_f f g d e h there accepts dropped same =
      let stream = stream_of inputs in
      let p = absorb failed (progress_of rooms s at_start story) in
      let consumes = accepts p (rest_of stream) (rest_is_rest stream) (sym (ap is_ended h.shows.frame.pends.state_is) ∙ there) h.shows.frame in
      moved_bytes inputs story failed piece old_f g d e h.story_is (consumed_dropped rooms s f g p (rest_of stream) piece d e dropped.kept dropped.same consumes) (headless_then f g dropped)
      (drafts_kept old_f f g d.store e.store dropped.kept same)

  -- a call that consumes another input
  pub moved_call : (inputs : List Received) (story : List Happened) (failed : Bool) (event : Event) (x : Received) (entry : Entry) → Outside event x entry → (ps : Position) (k n : Kept) (g : Fields) (d e : Devices)
      → Stands rooms s inputs story failed (record { position = ps; kept = k }) d.store → is_ended k.state ≡ false
      → ((p : Progress) (body started : List ℕ) → Pends k d.store p body started → PerformsReaction p (done [] 0 p event) n body started d e)
      → ((kind : ℕ) → IsUncounted k kind → IsUncounted n kind)
      → Dropped (record { position = passed n ps; kept = n }) g → Drafts (drafting_in k.storing) d.store (drafting_in n.storing) e.store
      → Moved rooms s inputs story failed x (record { position = ps; kept = k }) g d e
  moved_call inputs story failed event x entry o ps k n g d e h there tries still dropped same =
      let p = absorb failed (progress_of rooms s at_start story) in
      let rest = rest_of (stream_of inputs) in
      let framed : StandsAt (passed n ps) n rest [] = stands_passed ps k n rest still (h.shows.frame.framed (sym (ap is_ended h.shows.frame.pends.state_is) ∙ there)) in
      let does : Does rooms s p entry n (body_of rest) (started_in (spot rest)) d e = does_outside rooms s p n _ _ d e event x entry o (tries p (body_of rest) (started_in (spot rest)) h.shows.frame.pends) in
      let did : Does rooms s p entry g.kept (body_of rest) (started_in (spot rest)) d e = subst (λ (y : Kept). Does rooms s p entry y (body_of rest) (started_in (spot rest)) d e) (sym dropped.kept) does in
      moved_other inputs story failed x entry _ g d e h.story_is (entry_outside event x entry o (stream_of inputs)) (stream_outside event x entry o) did
      (λ still. subst (λ (y : Fields). StandsAt y.position y.kept rest []) (sym (dropped.same (ap (λ (y : Kept). is_ended y.state) (sym dropped.kept) ∙ still))) framed)
      (headless_then _ g dropped) (drafts_kept (record { position = ps; kept = k }) (record { position = passed n ps; kept = n }) g d.store e.store dropped.kept same)
