-- Sending one part after another sends both (`sends_then`), or a front of both where a send fails (`sends_part`).
-- Stands on the definitions alone.
use Rattle.std.proofs.Common.{◌≡◌, ℕ, ◌+◌, List, [], ◌++◌, Option, Some, None, Result, Ok, Err, append_assoc, length, take, refl, sym, ap, ◌∙◌, arith}
use Rattle.std.proofs.lemmas.List.{append-nil, length-append, take-append-le}
use Rattle.std.proofs.Math.Seq.{take-append-add}
use Rattle.std.specs.Io.KnownBytes.{append_known}
use Rattle.pdu.specs.declared.wire.WireFailed.{WireFailed}
use Rattle.pdu.specs.Sent.{Line, sent_all, cut_after, Sends}

pub known_then : (old : Option (List ℕ)) (a b : List ℕ) → append_known (append_known old a) b ≡ append_known old (a ++ b)
known_then None a b = refl
known_then (Some o) a b = simp append_assoc

pub known_nothing : (old : Option (List ℕ)) → append_known old [] ≡ old
known_nothing None = refl
known_nothing (Some o) = simp append-nil

-- nothing is sent by nothing
pub all_nothing : (old : Line) → sent_all [] old ≡ old
all_nothing old = ap (λ (s : Option (List ℕ)). record { sent = s; failures = old.failures }) (known_nothing old.sent)

-- one text after another
pub all_then : (a b : List ℕ) (old : Line) → sent_all b (sent_all a old) ≡ sent_all (a ++ b) old
all_then a b old = ap (λ (s : Option (List ℕ)). record { sent = s; failures = old.failures }) (known_then old.sent a b)

pub cut_then : (k : ℕ) (a b : List ℕ) (old : Line) → cut_after k b (sent_all a old) ≡ cut_after (length a + k) (a ++ b) old
cut_then k a b old =
    ap (λ (s : Option (List ℕ)). record { sent = s; failures = old.failures + 1 })
    (known_then old.sent a (take k b) ∙ ap (append_known old.sent) (sym (take-append-add a b k)))

-- a send that failed in the first part failed in the whole
pub sends_part : (a b : List ℕ) (f : WireFailed) (old new : Line) → Sends a (Err f) old new → Sends (a ++ b) (Err f) old new
sends_part a b f old new s = record {
  count = s.count;
  few = omega (arith, s.few, length-append a b);
  line = s.line ∙ ap (λ (t : List ℕ). record { sent = append_known old.sent t; failures = old.failures + 1 }) (sym (take-append-le s.count a b s.few));
}

-- the first part, and then the second or a beginning of it
pub sends_then : (a b : List ℕ) (result : Result (Unit {0}) WireFailed) (old now new : Line) → Sends a (Ok tt) old now → Sends b result now new → Sends (a ++ b) result old new
sends_then a b (Ok u) old now new s t = t ∙ ap (sent_all b) s ∙ all_then a b old
sends_then a b (Err f) old now new s t = record {
  count = length a + t.count;
  few = omega (arith, t.few, length-append a b);
  line = t.line ∙ ap (cut_after t.count b) s ∙ cut_then t.count a b old;
}
