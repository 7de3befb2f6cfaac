-- Further bytes of a frame whose head was before have marks within it alone, and where they complete it, its end
-- (`marks_within`). Stands on DataMarksAreComputed, EachChunkIsMarked and FramesAreUnique.
use Rattle.std.proofs.Common.{◌≡◌, ℕ, zero, suc, ◌≤◌, nat_eq, List, [], ◌∷◌, ◌++◌, length, drop, sym, ap, subst, ◌∙◌, inl, inr}
use Rattle.std.proofs.lemmas.Bool.{cases_Bool}
use Rattle.pdu.specs.Frames.{IsRest}
use Rattle.pdu.specs.Marks.{Mark, End, pdv_marks, frame_kind, frame_length}
use Rattle.pdu.specs.Pdvs.{DataSpot, Marked, too_short, bad, unfinished, whole_and_leftover, whole_and_more, new_pdv_marks}
use Rattle.pdu.specs.Parts.{end_mark}
use Rattle.pdu.specs.Deframing.{AreInner, MarksWithin}
use Rattle.pdu.proofs.FramesAreUnique.{same_frame}
use Rattle.pdu.proofs.DataMarksAreComputed.{marked}
use Rattle.pdu.proofs.EachChunkIsMarked.{other_within, other_ends, data_within, data_ends}

-- the marks of presentation data values
marked_inner : {room : ℕ} {bytes : List ℕ} {ms : List Mark} {s : DataSpot} → Marked room bytes ms s → AreInner ms
marked_inner (too_short lt) = tt
marked_inner (bad b) = (tt, tt)
marked_inner (unfinished g lt) = (tt, tt)
marked_inner (whole_and_leftover g le t) = (tt, (tt, (tt, tt)))
marked_inner (whole_and_more g le t m) = (tt, (tt, marked_inner m))

drop_inner : (n : ℕ) (ms : List Mark) → AreInner ms → AreInner (drop n ms)
drop_inner zero ms h = h
drop_inner (suc n) [] h = h
drop_inner (suc n) (m ∷ ms) h = drop_inner n ms h.1

new_inner : (room : ℕ) (bytes piece : List ℕ) → AreInner (new_pdv_marks room bytes piece)
unfolding new_pdv_marks
new_inner room bytes piece = drop_inner (length (pdv_marks room bytes)) (pdv_marks room (bytes ++ piece)) (marked_inner (marked room (bytes ++ piece)))

-- the end of the frame, by its head and the bytes after it
end_is : (r c : List ℕ) → 6 ≤ length r → End (frame_kind r) (drop 6 r ++ c) ≡ end_mark (r ++ c)
end_is r c headed =
    let s = same_frame r c headed in
    ap (λ (k : ℕ). End k (drop 6 r ++ c)) (sym s.kind) ∙ ap (λ (b : List ℕ). End (frame_kind (r ++ c)) b) (sym s.body)

pub marks_within : (r c : List ℕ) → IsRest r → 6 ≤ length r → MarksWithin r c
marks_within r c rest headed =
    elim (cases_Bool (nat_eq (frame_kind r) 4)) [
      | inl t ↦
          record {
            continues = λ q. subst AreInner (sym (data_within r c headed t rest q).0) (new_inner (frame_length r) (drop 6 r) c);
            ends = λ w. record {
              inner = new_pdv_marks (frame_length r) (drop 6 r) c;
              are_inner = new_inner (frame_length r) (drop 6 r) c;
              marks = (data_ends r c headed t rest w).0 ∙ ap (λ (m : Mark). new_pdv_marks (frame_length r) (drop 6 r) c ++ m ∷ []) (end_is r c headed);
              rest = (data_ends r c headed t rest w).1;
            };
          }
      | inr t ↦
          record {
            continues = λ q. subst AreInner (sym (other_within r c headed t rest q).0) tt;
            ends = λ w. record { inner = []; are_inner = tt; marks = (other_ends r c headed t rest w).0 ∙ ap (λ (m : Mark). m ∷ []) (end_is r c headed); rest = (other_ends r c headed t rest w).1 };
          }
    ]
