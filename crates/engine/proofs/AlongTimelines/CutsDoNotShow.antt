-- Two lists of inputs that differ in their cuts alone have the same timeline, and with the same outcomes send and file the
-- same (`cuts_do_not_show`). Stands on the laws of `pdu`.
use Rattle.std.proofs.Common.{◌≡◌, ℕ, List, [], ◌∷◌, ◌++◌, map, refl, sym, ap, ◌∙◌, append_assoc}
use Rattle.std.proofs.lemmas.List.{append-nil, map-append}
use Rattle.pdu.specs.Marks.{Mark, new_marks}
use Rattle.pdu.proofs.Public.{new_then, new_nothing}
use Rattle.engine.specs.Inputs.{Received, Bytes, Close, Expiry, UserAbort}
use Rattle.engine.specs.Timeline.{Entry, At, Shut, TimedOut, Aborted, entries}
use Rattle.engine.specs.Laws.{put_together, CutsDoNotShow}

nothing_marked : (received : List ℕ) → map At (new_marks received []) ≡ []
nothing_marked received = ap (λ (ms : List Mark). map At ms) (new_nothing received)

-- after another input a piece begins anew
begins_anew : (received piece : List ℕ) (inputs : List Received) → entries (received ++ piece) (put_together [] inputs) ≡ map At (new_marks (received ++ piece) []) ++ entries ((received ++ piece) ++ []) inputs
    → entries (received ++ piece) (put_together [] inputs) ≡ entries (received ++ piece) inputs
begins_anew received piece inputs e =
    e ∙ ap (λ (es : List Entry). es ++ entries ((received ++ piece) ++ []) inputs) (nothing_marked (received ++ piece)) ∙ ap (λ (s : List ℕ). entries s inputs) (append-nil (received ++ piece))

together : (received piece : List ℕ) (inputs : List Received) → entries received (put_together piece inputs) ≡ map At (new_marks received piece) ++ entries (received ++ piece) inputs
together received piece [] = refl
together received piece (Bytes more ∷ inputs) =
    together received (piece ++ more) inputs
    ∙ ap (λ (ms : List Mark). map At ms ++ entries (received ++ (piece ++ more)) inputs) (new_then received piece more)
    ∙ ap (λ (s : List ℕ). map At (new_marks received piece ++ new_marks (received ++ piece) more) ++ entries s inputs) (sym (append_assoc received piece more))
    ∙ ap (λ (es : List Entry). es ++ entries ((received ++ piece) ++ more) inputs) (map-append At (new_marks received piece) (new_marks (received ++ piece) more))
    ∙ append_assoc (map At (new_marks received piece)) (map At (new_marks (received ++ piece) more)) (entries ((received ++ piece) ++ more) inputs)
together received piece (Close ∷ inputs) = ap (λ (es : List Entry). map At (new_marks received piece) ++ Shut ∷ es) (begins_anew received piece inputs (together (received ++ piece) [] inputs))
together received piece (Expiry ∷ inputs) = ap (λ (es : List Entry). map At (new_marks received piece) ++ TimedOut ∷ es) (begins_anew received piece inputs (together (received ++ piece) [] inputs))
together received piece (UserAbort ∷ inputs) = ap (λ (es : List Entry). map At (new_marks received piece) ++ Aborted ∷ es) (begins_anew received piece inputs (together (received ++ piece) [] inputs))

same_timeline : (inputs : List Received) → entries [] (put_together [] inputs) ≡ entries [] inputs
same_timeline inputs = together [] [] inputs ∙ ap (λ (es : List Entry). es ++ entries [] inputs) (nothing_marked [])

pub cuts_do_not_show : CutsDoNotShow
cuts_do_not_show rooms s a b e =
    let same : entries [] a ≡ entries [] b = sym (same_timeline a) ∙ ap (entries []) e ∙ same_timeline b in (
      same,
      λ story failed sent files state run. record {
        story_is = record { reported = run.story_is.reported ∙ same; fair = run.story_is.fair; last = run.story_is.last };
        sent_is = run.sent_is;
        files_are = run.files_are;
        state_is = run.state_is;
      },
    )
