-- Calls of a deframer, one after another, report the stream (`tokens_reported`, `marks_reported`). Stands on
-- TokensIgnoreTheCut.
use Rattle.std.proofs.Common.{◌≡◌, ℕ, List, [], ◌++◌, map, refl, sym, ap, ◌∙◌, append_assoc}
use Rattle.std.proofs.lemmas.List.{append-nil}
use Rattle.pdu.specs.Pieces.{pieces_of}
use Rattle.pdu.specs.Frames.{frames_of, rest_of}
use Rattle.pdu.specs.Marks.{Mark, marks, new_marks, pdv_marks}
use Rattle.pdu.specs.Spot.{spot}
use Rattle.pdu.specs.Pdvs.{data_spot}
use Rattle.pdu.specs.Events.{Token, Completes, tokens, marks_among}
use Rattle.pdu.specs.Calls.{Calls, none, one_more}
use Rattle.pdu.specs.Examples.{release_twice, release_twice_tokens, one_value, one_value_tokens}
use Rattle.pdu.proofs.TokensIgnoreTheCut.{tokens_rest, tokens_then, marks_of_tokens}

-- from the unfinished frame on
tokens_on : (r p q : List ℕ) → tokens r (p ++ q) ≡ tokens r p ++ tokens (rest_of (r ++ p)) q
tokens_on r p q = tokens_then r p q ∙ ap (λ (ts : List Token). tokens r p ++ ts) (tokens_rest (r ++ p) q)

pub all_reported : {r : List ℕ} {due : List Mark} {piece : List ℕ} {reported : List Token} {later : List Mark} → Calls r due piece reported later → map Completes due ++ tokens r piece ≡ reported ++ map Completes later
all_reported {due = due} none = append-nil (map Completes due)
all_reported {r} {due} (one_more {consumed = consumed} {bytes = bytes} {reported = reported} {later = later} t more) =
    let next = all_reported more in
    let rest = tokens (rest_of (r ++ consumed)) bytes in
    ap (λ (ts : List Token). map Completes due ++ ts) (tokens_on r consumed bytes)
    ∙ sym (append_assoc (map Completes due) (tokens r consumed) rest)
    ∙ ap (λ (ts : List Token). ts ++ rest) t.all
    ∙ append_assoc t.reported (map Completes t.later) rest
    ∙ ap (λ (ts : List Token). t.reported ++ ts) next
    ∙ sym (append_assoc t.reported reported (map Completes later))

pub tokens_reported : (r piece : List ℕ) (reported : List Token) → Calls r [] piece reported [] → reported ≡ tokens r piece
tokens_reported r piece reported c = sym (all_reported c ∙ append-nil reported)

pub marks_reported : (r piece : List ℕ) (reported : List Token) → Calls r [] piece reported [] → marks_among reported ≡ new_marks r piece
marks_reported r piece reported c = ap marks_among (tokens_reported r piece reported c) ∙ marks_of_tokens r piece

pub bodies_lent : tokens [] release_twice ≡ release_twice_tokens
unfolding marks new_marks frames_of rest_of pieces_of spot
bodies_lent = refl

pub fragments_lent : tokens [] one_value ≡ one_value_tokens
unfolding marks new_marks frames_of rest_of pieces_of pdv_marks spot data_spot
fragments_lent = refl
