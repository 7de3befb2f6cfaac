-- What a call of a deframer reports, as marks, is what was due and what is new, but for what is due later
-- (`marks_consumed`, `mark_consumed`). Stands on TokensIgnoreTheCut.
use Rattle.std.proofs.Common.{◌≡◌, ℕ, List, [], ◌∷◌, ◌++◌, map, Option, Some, sym, refl, ap, ◌∙◌}
use Rattle.pdu.specs.declared.position.Position.{Position}
use Rattle.pdu.specs.declared.event.Event.{Event}
use Rattle.pdu.specs.Marks.{Mark, new_marks}
use Rattle.pdu.specs.Events.{Token, OfBody, OfFragment, Completes, tokens, marks_among, ReportsMark}
use Rattle.pdu.specs.Deframing.{Consumed}
use Rattle.pdu.proofs.TokensIgnoreTheCut.{among_both, among_marks, marks_of_tokens}

pub among_body : (bytes : List ℕ) → marks_among (map OfBody bytes) ≡ []
among_body [] = refl
among_body (b ∷ bytes) = among_body bytes

pub among_fragment : (bytes : List ℕ) → marks_among (map OfFragment bytes) ≡ []
among_fragment [] = refl
among_fragment (b ∷ bytes) = among_fragment bytes

-- what was due and what the bytes complete is what is reported and what is due then
pub marks_consumed : (new : Position) (r : List ℕ) (due : List Mark) (c : List ℕ) (e : Option Event) → (t : Consumed new r due c e) → due ++ new_marks r c ≡ marks_among t.reported ++ t.later
marks_consumed new r due c e t =
    let first : marks_among (map Completes due ++ tokens r c) ≡ due ++ new_marks r c = among_both (map Completes due) (tokens r c) ∙ ap (λ (ms : List Mark). ms ++ marks_among (tokens r c)) (among_marks due) ∙ ap (λ (ms : List Mark). due ++ ms) (marks_of_tokens r c) in
    let second : marks_among (t.reported ++ map Completes t.later) ≡ marks_among t.reported ++ t.later = among_both t.reported (map Completes t.later) ∙ ap (λ (ms : List Mark). marks_among t.reported ++ ms) (among_marks t.later) in
    sym first ∙ ap marks_among t.all ∙ second

-- one mark is reported
pub mark_consumed : (new : Position) (r : List ℕ) (due : List Mark) (c : List ℕ) (e : Event) → (t : Consumed new r due c (Some e)) → (m : ReportsMark e t.reported) → due ++ new_marks r c ≡ m.mark ∷ t.later
mark_consumed new r due c e t m = marks_consumed new r due c (Some e) t ∙ ap (λ (ts : List Token). marks_among ts ++ t.later) m.one
