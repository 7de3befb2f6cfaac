-- Fragment by fragment, the data set is sent (`first`, `next_sent`, `last_sent`). Stands on the definitions alone.
use Rattle.std.proofs.Common.{◌≡◌, ℕ, Bool, true, false, List, [], ◌∷◌, ◌++◌, refl, sym, ap, ◌∙◌, append_assoc}
use Rattle.std.proofs.lemmas.List.{append-nil}
use Rattle.std.proofs.lemmas.Grind.{flat_map-append}
use Rattle.std.specs.List.{flat_map}
use Rattle.pdu.specs.Pieces.{joined}
use Rattle.pdu.specs.Texts.{data_text}
use Rattle.sending.specs.Sending.{InFragments, SendsData}

-- so far these fragments were sent of the data set, `pending` is the next one, and `more` was read of the file
pub record Sending (context : ℕ) (first pending read0 read written0 written : List ℕ) : Type 0 where
  pub parts : List (List ℕ)
  pub more : List ℕ
  pub taken : read ≡ read0 ++ more
  pub whole : first ++ more ≡ joined parts ++ pending
  pub sent : written ≡ written0 ++ flat_map (data_text context false false) parts

pub begun : (context : ℕ) (first read written : List ℕ) → Sending context first first read read written written
begun context first read written = record { parts = []; more = []; taken = sym (append-nil read); whole = append-nil first; sent = sym (append-nil written) }

pub next_sent : (context : ℕ) (first pending read0 read written0 written next written2 read2 : List ℕ)
    → Sending context first pending read0 read written0 written
    → read2 ≡ read ++ next
    → written2 ≡ written ++ data_text context false false pending
    → Sending context first next read0 read2 written0 written2
next_sent context first pending read0 read written0 written next written2 read2 s r w = record {
  parts = s.parts ++ pending ∷ [];
  more = s.more ++ next;
  taken = rw (r, s.taken) (append_assoc read0 s.more next);
  whole =
      sym (append_assoc first s.more next) ∙ ap (λ (t : List ℕ). t ++ next) (s.whole)
      ∙ ap (λ (t : List ℕ). t ++ next) (sym (flat_map-append (λ piece. piece) s.parts (pending ∷ []) ∙ ap (λ (t : List ℕ). joined s.parts ++ t) (append-nil pending)));
  sent =
      rw (w, s.sent) (append_assoc written0 (flat_map (data_text context false false) s.parts) (data_text context false false pending)
      ∙ ap (λ (t : List ℕ). written0 ++ t) (sym (flat_map-append (data_text context false false) s.parts (pending ∷ []) ∙ ap (λ (t : List ℕ). flat_map (data_text context false false) s.parts ++ t) (append-nil (data_text context false false pending)))));
}

pub last_sent : (context : ℕ) (first pending read0 read written0 written read2 written2 : List ℕ)
    → Sending context first pending read0 read written0 written
    → read2 ≡ read ++ []
    → written2 ≡ written ++ data_text context false true pending
    → SendsData context first read0 read2 written0 written2
last_sent context first pending read0 read written0 written read2 written2 s r w = record {
  more = s.more;
  sets = flat_map (data_text context false false) s.parts ++ data_text context false true pending;
  taken = r ∙ append-nil read ∙ s.taken;
  sent = rw (w, s.sent) (append_assoc written0 (flat_map (data_text context false false) s.parts) (data_text context false true pending));
  fragments = record { parts = s.parts; last = pending; whole = s.whole; pdus = refl };
}

-- a text that is sent in one fragment
pub in_one : (context : ℕ) (command : Bool) (text : List ℕ) → InFragments context command text (data_text context command true text)
in_one context command text = record { parts = []; last = text; whole = refl; pdus = refl }
