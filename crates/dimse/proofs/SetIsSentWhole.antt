-- A command set that is sent fragment by fragment is sent whole (`sending_next`, `last_sent`), or a front of it where
-- a send fails (`sending_fails`). Stands on the laws of `pdu`.
use Rattle.std.proofs.Common.{◌≡◌, ℕ, zero, suc, ◌+◌, ◌^◌, ◌<◌, ◌≤◌, Bool, true, false, cond, leb, List, [], ◌∷◌, ◌++◌, length, take, drop, Result, Ok, Err, refl, sym, ap, ◌∙◌, append_assoc, arith}
use Rattle.std.proofs.lemmas.Bool.{le-leb, lt-leb}
use Rattle.std.proofs.lemmas.List.{length-drop}
use Rattle.pdu.specs.declared.wire.WireFailed.{WireFailed}
use Rattle.pdu.specs.Sent.{Line, sent_all, Sends}
use Rattle.pdu.specs.Texts.{data_text}
use Rattle.pdu.proofs.Public.{all_nothing, all_then, sends_part, sends_then}
use Rattle.dimse.specs.Reply.{fragments_in, fragments, command_pdus}

pdus_two : (context : ℕ) (f : List ℕ) (b : Bool) (g : List ℕ) (gs : List (List ℕ)) (text : List ℕ)
    → command_pdus context (f ∷ cond b (text ∷ []) (g ∷ gs)) ≡ data_text context true false f ++ command_pdus context (cond b (text ∷ []) (g ∷ gs))
pdus_two context f true g gs text = refl
pdus_two context f false g gs text = refl

pub pdus_next : (context : ℕ) (f : List ℕ) (more size : ℕ) (text : List ℕ)
    → command_pdus context (f ∷ fragments_in more size text) ≡ data_text context true false f ++ command_pdus context (fragments_in more size text)
pdus_next context f zero size text = refl
pdus_next context f (suc more) size text = pdus_two context f (leb (length text) size) (take size text) (fragments_in more size (drop size text)) text

-- what was sent, and what is left of the whole
pub record Sending (old now : Line) (context size : ℕ) (whole rest : List ℕ) : Type 0 where
  pub done : List ℕ
  pub more : ℕ
  pub room : length rest ≤ more
  pub short : length rest + 6 < 2 ^ 32
  pub sent : now ≡ sent_all done old
  pub remaining : whole ≡ done ++ command_pdus context (fragments_in more size rest)

pub sending_all : (old : Line) (context size : ℕ) (text : List ℕ) → length text + 6 < 2 ^ 32 → Sending old old context size (command_pdus context (fragments size text)) text
unfolding fragments
sending_all old context size text short = record { done = []; more = length text; room = omega arith; short = short; sent = sym (all_nothing old); remaining = refl }

-- while the rest is longer than a fragment
cut : (context size more : ℕ) (rest : List ℕ) → size < length rest → length rest ≤ suc more
    → command_pdus context (fragments_in (suc more) size rest) ≡ data_text context true false (take size rest) ++ command_pdus context (fragments_in more size (drop size rest))
cut context size more rest lt le = rw (lt-leb (length rest) size lt) (pdus_next context (take size rest) more size (drop size rest))

pub record Ahead (context size : ℕ) (whole rest done : List ℕ) : Type 0 where
  pub more : ℕ
  pub room : length (drop size rest) ≤ more
  pub remaining : whole ≡ done ++ (data_text context true false (take size rest) ++ command_pdus context (fragments_in more size (drop size rest)))

ahead : (context size more : ℕ) (whole rest done : List ℕ) → 1 ≤ size → size < length rest → length rest ≤ more → whole ≡ done ++ command_pdus context (fragments_in more size rest) → Ahead context size whole rest done
ahead context size zero whole rest done some lt le e = absurd (omega arith)
ahead context size (suc more) whole rest done some lt le e =
    record { more = more; room = omega (arith, length-drop size rest); remaining = e ∙ ap (λ (t : List ℕ). done ++ t) (cut context size more rest lt le) }

pub sending_next : (old now new : Line) (context size : ℕ) (whole rest : List ℕ) → Sending old now context size whole rest
    → 1 ≤ size → size < length rest → Sends (data_text context true false (take size rest)) (Ok tt) now new → Sending old new context size whole (drop size rest)
sending_next old now new context size whole rest s some lt e =
    let a = ahead context size s.more whole rest s.done some lt s.room s.remaining in
    let text = data_text context true false (take size rest) in
    record {
      done = s.done ++ text;
      more = a.more;
      room = a.room;
      short = omega (arith, s.short, length-drop size rest);
      sent = e ∙ ap (sent_all text) s.sent ∙ all_then s.done text old;
      remaining = a.remaining ∙ sym (append_assoc s.done text (command_pdus context (fragments_in a.more size (drop size rest))));
    }

-- a failed send of a fragment
pub sending_fails : (old now new : Line) (f : WireFailed) (context size : ℕ) (whole rest : List ℕ) → Sending old now context size whole rest
    → 1 ≤ size → size < length rest → Sends (data_text context true false (take size rest)) (Err f) now new → Sends whole (Err f) old new
sending_fails old now new f context size whole rest s some lt e =
    let a = ahead context size s.more whole rest s.done some lt s.room s.remaining in
    let text = data_text context true false (take size rest) in
    let after = command_pdus context (fragments_in a.more size (drop size rest)) in
    rw a.remaining (sends_then s.done (text ++ after) (Err f) old now new s.sent (sends_part text after f now new e))

pub last_of : (context size more : ℕ) (rest : List ℕ) → length rest ≤ size → command_pdus context (fragments_in more size rest) ≡ data_text context true true rest
last_of context size zero rest le = refl
last_of context size (suc more) rest le = rw (le-leb (length rest) size le) refl

-- the last fragment
pub last_sent : (old now new : Line) (r : Result (Unit {0}) WireFailed) (context size : ℕ) (whole rest : List ℕ) → Sending old now context size whole rest
    → length rest ≤ size → Sends (data_text context true true rest) r now new → Sends whole r old new
last_sent old now new r context size whole rest s le e =
    let text = data_text context true true rest in
    let all : whole ≡ s.done ++ text = s.remaining ∙ ap (λ (t : List ℕ). s.done ++ t) (last_of context size s.more rest le) in
    rw all (sends_then s.done text r old now new s.sent e)
