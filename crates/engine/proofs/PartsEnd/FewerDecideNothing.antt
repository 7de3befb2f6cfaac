-- Fewer bytes than are due of a part decide nothing (`fewer_decide_nothing`): they complete no mark, or marks inside a PDU
-- that is not handled; so an association keeps what it decided last (`fewer_keep_the_decision`). Stands on
-- OutputIsBounded/OutputOfAPortion, FieldsShow/NothingCounts, AlongTimelines/StoriesJoin, PiecesAreDone/FramesAndMarks and
-- the laws of `pdu`.
use Rattle.std.proofs.Common.{◌≡◌, ◌⊎◌, ℕ, ◌<◌, Bool, false, List, [], ◌∷◌, ◌++◌, length, map, Option, Some, None, refl, sym, ap, subst, ◌∙◌, arith, inl, inr}
use Rattle.pdu.specs.declared.position.Position.{Position}
use Rattle.pdu.specs.declared.position.Position.TheVariants as position
use Rattle.pdu.specs.Deframing.{SkipsAt, AreInner}
use Rattle.pdu.specs.Frames.{rest_of}
use Rattle.pdu.specs.Marks.{Mark, new_marks}
use Rattle.pdu.specs.Steps.{bytes_due}
use Rattle.pdu.proofs.Public.{new_nothing, new_rest, marks_within}
use Rattle.negotiate.specs.Settings.{Settings}
use Rattle.part10.specs.Store.{Store}
use Rattle.engine.specs.FrameFields.{Fields, StandsAt, reads, skips}
use Rattle.engine.specs.Held.{is_ended}
use Rattle.engine.specs.Inputs.{Received, Bytes, stream_of}
use Rattle.engine.specs.Kept.{accepts_pdvs_in}
use Rattle.engine.specs.Parts.{DecidesNothing, DecidesNothingBefore, FewerKeepTheDecision}
use Rattle.engine.specs.Progress.{Progress, Advance, at_start, absorb, nothing}
use Rattle.engine.specs.Reached.{reached, accepts_pdvs}
use Rattle.engine.specs.Run.{Rooms, at_entry, cut, gives, progress_of, sent_of, files_of}
use Rattle.engine.specs.Stands.{Stands}
use Rattle.engine.specs.Timeline as timeline
use Rattle.engine.specs.Timeline.{Finding, Happened, entries, entries_of}
use Rattle.engine.proofs.FieldsShow.NothingCounts.{accepts_shown}
use Rattle.engine.proofs.AlongTimelines.StoriesJoin.{progress_then}
use Rattle.engine.proofs.OutputIsBounded.OutputOfAPortion.{front_nothing, entries_of_more, entries_of_piece, inner_nothing, cut_nothing, still_uncounted}
use Rattle.engine.proofs.PiecesAreDone.FramesAndMarks.{more}

module _ (rooms : Rooms) (s : Settings) where
  -- ---- marks inside a PDU that is not handled

  still_decided : (wire : Option ℕ) (filing : Bool) (p : Progress) → (cut wire p (nothing (absorb filing p))).next.decided ≡ p.decided
  still_decided None filing p = refl
  still_decided (Some k) filing p = refl

  none_filed : (wire : Option ℕ) (p q : Progress) → (cut wire p (nothing q)).files ≡ []
  none_filed None p q = refl
  none_filed (Some k) p q = refl

  inner_decide_nothing : (ms : List Mark) (p : Progress) (story : List Happened) → AreInner ms → accepts_pdvs p ≡ false → entries_of story ≡ map timeline.At ms → DecidesNothing rooms s p story
  inner_decide_nothing [] p [] i t reported = record { decided = refl; sent = refl; files = refl }
  inner_decide_nothing [] p (h ∷ story) i t reported = absurd cc
  inner_decide_nothing (m ∷ ms) p [] i t reported = absurd cc
  inner_decide_nothing (m ∷ ms) p (h ∷ story) i t reported =
      let at : h.0 ≡ timeline.At m = cc in
      let others : entries_of story ≡ map timeline.At ms = cc in
      let q = absorb h.1.filing p in
      let g : at_entry rooms s q h.1.finding h.0 ≡ nothing q = ap (at_entry rooms s q h.1.finding) at ∙ inner_nothing rooms s q h.1.finding m i.0 t in
      let next : accepts_pdvs (gives rooms s p h).next ≡ false = subst (λ (x : Advance). accepts_pdvs (cut h.1.wire p x).next ≡ false) (sym g) (still_uncounted rooms s h.1.wire p q t) in
      let decided : (gives rooms s p h).next.decided ≡ p.decided = ap (λ (x : Advance). (cut h.1.wire p x).next.decided) g ∙ still_decided h.1.wire h.1.filing p in
      let sent : (gives rooms s p h).sent ≡ [] = cut_nothing rooms s h.1.wire p (at_entry rooms s q h.1.finding h.0) (ap (λ (x : Advance). x.sent) g) in
      let files : (gives rooms s p h).files ≡ [] = ap (λ (x : Advance). (cut h.1.wire p x).files) g ∙ none_filed h.1.wire p q in
      let after = inner_decide_nothing ms (gives rooms s p h).next story i.1 next others in
      record {
        decided = after.decided ∙ decided;
        sent = ap (λ (xs : List ℕ). xs ++ sent_of rooms s (gives rooms s p h).next story) sent ∙ after.sent;
        files = ap (λ (xs : List (List ℕ)). xs ++ files_of rooms s (gives rooms s p h).next story) files ∙ after.files;
      }

  -- ---- by where the fields stand

  none_decide_nothing : (p : Progress) (story : List Happened) → entries_of story ≡ [] → DecidesNothing rooms s p story
  none_decide_nothing p [] e = record { decided = refl; sent = refl; files = refl }
  none_decide_nothing p (h ∷ story) e = absurd cc

  skipped_decide_nothing : (q : Position) (r c : List ℕ) (p : Progress) (story : List Happened) → SkipsAt q r → accepts_pdvs p ≡ false → length c < bytes_due q → entries_of story ≡ map timeline.At (new_marks r c) → DecidesNothing rooms s p story
  skipped_decide_nothing (position.Head bytes) r c p story a t lt reported = absurd a
  skipped_decide_nothing (position.Body kind remaining) r c p story a t lt reported = absurd a
  skipped_decide_nothing (position.PdvHead remaining bytes) r c p story a t lt reported = absurd a
  skipped_decide_nothing (position.Fragment remaining most) r c p story a t lt reported = absurd a
  skipped_decide_nothing (position.Leftover remaining) r c p story a t lt reported = absurd a
  skipped_decide_nothing (position.Skipped kind remaining) r c p story a t lt reported =
      inner_decide_nothing (new_marks r c) p story ((marks_within r c a.1 a.2).continues ((more r c a.2).goes (omega (arith, lt, a.4)))) t reported

  stands_decide_nothing : (f : Fields) (r c : List ℕ) (p : Progress) (story : List Happened) → StandsAt f.position f.kept r [] → accepts_pdvs_in f.kept ≡ accepts_pdvs p → length c < bytes_due f.position
      → entries_of story ≡ map timeline.At (new_marks r c) → DecidesNothing rooms s p story
  stands_decide_nothing f r c p story (reads a) same lt reported = none_decide_nothing p story (reported ∙ ap (map timeline.At) (front_nothing f.position r c a lt))
  stands_decide_nothing f r c p story (skips a u none) same lt reported = skipped_decide_nothing f.position r c p story a (sym same ∙ u.pdvs) lt reported

  pub fewer_decide_nothing : (inputs : List Received) (story : List Happened) (failed : Bool) (f : Fields) (store : Store) (most : ℕ) → Stands rooms s inputs story failed f store
      → (most ≡ 1) ⊎ ((is_ended f.kept.state ≡ false) × (most ≡ bytes_due f.position)) → DecidesNothingBefore rooms s inputs story most
  fewer_decide_nothing inputs story failed f store most h how piece after lt reported = by how where
    stream : List ℕ
    stream = stream_of inputs

    p : Progress
    p = progress_of rooms s at_start story

    marked : entries_of after ≡ map timeline.At (new_marks stream piece)
    marked = reported ∙ entries_of_piece stream piece

    none_before : (c : List ℕ) → length c < 1 → new_marks stream c ≡ []
    none_before [] l = new_nothing stream
    none_before (b ∷ bs) l = absurd (omega (arith, l))

    by : (most ≡ 1) ⊎ ((is_ended f.kept.state ≡ false) × (most ≡ bytes_due f.position)) → DecidesNothing rooms s p after
    by (inl one) = none_decide_nothing p after (marked ∙ ap (map timeline.At) (none_before piece (omega (arith, lt, one))))
    by (inr due) =
        let pends = h.shows.frame.pends in
        let framed = h.shows.frame.framed (ap is_ended (sym pends.state_is) ∙ due.0) in
        stands_decide_nothing f (rest_of stream) piece p after framed (accepts_shown f.kept store (reached rooms s inputs story failed).progress _ _ pends)
        (omega (arith, lt, due.1)) (marked ∙ ap (map timeline.At) (new_rest stream piece))

pub fewer_keep_the_decision : FewerKeepTheDecision
fewer_keep_the_decision rooms s inputs story failed piece most seen seen_new old new h before lt x =
    let reported = entries_of_more rooms s inputs (Bytes piece) story x.more failed x.failed_then h.story_is x.stands.story_is in
    x.stands.shows.frame.pends.decided_is ∙ ap (λ (q : Progress). q.decided) (progress_then rooms s at_start story x.more)
    ∙ (before piece x.more lt reported).decided ∙ sym h.shows.frame.pends.decided_is
