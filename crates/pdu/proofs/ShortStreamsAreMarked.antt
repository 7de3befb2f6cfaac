-- The marks of short streams are these: they compute (`unknown_type`, `good_before_bad`, `two_releases` and others).
-- Stands on the definitions alone.
use Rattle.std.proofs.Common.{◌≡◌, [], ◌∷◌, ◌++◌, take, drop, refl, sym, ◌∙◌}
use Rattle.pdu.specs.Pieces.{pieces_of}
use Rattle.pdu.specs.Frames.{frames_of, rest_of}
use Rattle.pdu.specs.Marks.{Head, PdvHead, Pdv, BadPdv, Leftover, End, pdv_marks, marks}
use Rattle.pdu.specs.Examples.{no_pdu, good_then_bad, good_marks, good_then_bad_marks, empty_pdv, past_the_end, release_twice}

pub unknown_type : marks no_pdu ≡ Head 0x47 0x54202F20 ∷ []
unfolding marks frames_of rest_of pieces_of
unknown_type = refl

pub not_yet : marks (take 5 no_pdu) ≡ []
unfolding marks frames_of rest_of pieces_of
not_yet = refl

pub good_before_bad : marks good_then_bad ≡ good_then_bad_marks
unfolding marks frames_of rest_of pieces_of pdv_marks
good_before_bad = refl

pub good_at_once : marks (take 14 good_then_bad) ≡ good_marks
unfolding marks frames_of rest_of pieces_of pdv_marks
good_at_once = refl

pub does_not_wait : marks good_then_bad ≡ Head 4 14 ∷ End 4 (drop 6 good_then_bad) ∷ [] → ⊥
does_not_wait e = let other : good_then_bad_marks ≡ Head 4 14 ∷ End 4 (drop 6 good_then_bad) ∷ [] = sym good_before_bad ∙ e in cc

pub one_remaining : marks (empty_pdv 7) ≡ Head 4 7 ∷ PdvHead 2 1 2 ∷ Pdv 1 2 [] ∷ Leftover ∷ []
unfolding marks frames_of rest_of pieces_of pdv_marks
one_remaining = refl

pub five_remaining : marks (empty_pdv 11) ≡ Head 4 11 ∷ PdvHead 2 1 2 ∷ Pdv 1 2 [] ∷ Leftover ∷ []
unfolding marks frames_of rest_of pieces_of pdv_marks
five_remaining = refl

pub five_dropped : marks (empty_pdv 11 ++ 1 ∷ 2 ∷ 3 ∷ 4 ∷ 5 ∷ []) ≡ Head 4 11 ∷ PdvHead 2 1 2 ∷ Pdv 1 2 [] ∷ Leftover ∷ End 4 (drop 6 (empty_pdv 11) ++ 1 ∷ 2 ∷ 3 ∷ 4 ∷ 5 ∷ []) ∷ []
unfolding marks frames_of rest_of pieces_of pdv_marks
five_dropped = refl

pub six_remaining : marks (empty_pdv 12) ≡ Head 4 12 ∷ PdvHead 2 1 2 ∷ Pdv 1 2 [] ∷ []
unfolding marks frames_of rest_of pieces_of pdv_marks
six_remaining = refl

pub passes_the_frame : marks past_the_end ≡ Head 4 6 ∷ BadPdv ∷ End 4 (drop 6 past_the_end) ∷ []
unfolding marks frames_of rest_of pieces_of pdv_marks
passes_the_frame = refl

pub two_releases : marks release_twice ≡ Head 5 4 ∷ End 5 (0 ∷ 0 ∷ 0 ∷ 0 ∷ []) ∷ Head 5 4 ∷ []
unfolding marks frames_of rest_of pieces_of
two_releases = refl
