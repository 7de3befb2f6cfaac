-- The marks inside a P-DATA-TF PDU that is whole presentation data values and nothing else are theirs
-- (`values_marked`). Stands on DataMarksAreComputed and LaterDependsOnSpot.
use Rattle.std.proofs.Common.{◌≡◌, ℕ, ◌-◌, ◌≤◌, false, leb, ltb, List, [], ◌∷◌, ◌++◌, length, drop, refl, sym, ap, subst, ◌∙◌, arith}
use Rattle.std.proofs.lemmas.Bool.{le-ltb, and_right}
use Rattle.std.proofs.lemmas.List.{length-append, drop_all}
use Rattle.std.specs.List.{AllByRecursion}
use Rattle.pdu.specs.Pieces.{joined}
use Rattle.pdu.specs.Pdvs.{Within, Marked, too_short, IsGoodHead, IsPdv, pdv_size, is_leftover, pdv_marks, marks_of_values}
use Rattle.pdu.proofs.DataMarksAreComputed.{marks_are}
use Rattle.pdu.proofs.LaterDependsOnSpot.{more_later}

-- nothing is remaining after the last value, and no value is that short
fits_values : (vs : List (List ℕ)) → AllByRecursion IsPdv vs → is_leftover (length (joined vs)) ≡ false
fits_values [] all = refl
fits_values (v ∷ vs) all =
    let long : 6 ≤ length v = all.0.headed in
    let more : 6 ≤ length (v ++ joined vs) = omega (arith, length-append v (joined vs)) in
    and_right (leb 1 (length (v ++ joined vs))) (ltb (length (v ++ joined vs)) 6) (le-ltb (length (v ++ joined vs)) 6 more)

values_are : (vs : List (List ℕ)) → AllByRecursion IsPdv vs → Marked (length (joined vs)) (joined vs) (marks_of_values vs) (Within 0 [])
values_are [] all = too_short (omega arith)
values_are (v ∷ vs) all =
    let room = length (v ++ joined vs) in
    let n = pdv_size v in
    let long : 6 ≤ length v = all.0.headed in
    let filled : length v ≡ n = all.0.filled in
    let total = length-append v (joined vs) in
    let g : IsGoodHead room v = record { headed = long; least = omega arith; fits = omega (arith, total) } in
    let remaining : room - n ≡ length (joined vs) = omega (arith, total) in
    let nothing : drop n v ≡ [] = drop_all n v (omega arith) in
    let rest : Marked (room - n) (drop n v ++ joined vs) (marks_of_values vs) (Within 0 []) =
    subst (λ (r : ℕ). Marked r (drop n v ++ joined vs) (marks_of_values vs) (Within 0 [])) (sym remaining)
    (subst (λ (b : List ℕ). Marked (length (joined vs)) (b ++ joined vs) (marks_of_values vs) (Within 0 [])) (sym nothing) (values_are vs all.1)) in
    more_later room v (joined vs) (marks_of_values vs) (Within 0 []) g (omega arith) (ap is_leftover remaining ∙ fits_values vs all.1) rest

pub values_marked : (vs : List (List ℕ)) → AllByRecursion IsPdv vs → pdv_marks (length (joined vs)) (joined vs) ≡ marks_of_values vs
values_marked vs all = marks_are (values_are vs all)
