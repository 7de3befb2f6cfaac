-- What happens along one part of a timeline and then another is what happens along both: the progress, bytes and files,
-- fairness, and what the devices gain (`progress_then`, `sent_then`, `files_then`, `fair_then`, `gains_then`). Stands on the
-- laws of `pdu`.
use Rattle.std.proofs.Common.{◌≡◌, ℕ, ◌+◌, Bool, false, List, [], ◌∷◌, ◌++◌, Option, Some, None, refl, sym, ap, ◌∙◌, append_assoc, arith}
use Rattle.std.proofs.lemmas.List.{append-nil}
use Rattle.std.specs.Io.KnownBytes.{append_known}
use Rattle.pdu.specs.Sent.{Line}
use Rattle.pdu.proofs.Public.{known_then, known_nothing}
use Rattle.negotiate.specs.Settings.{Settings}
use Rattle.engine.specs.Devices.{Devices, line_with, with_files, files_in}
use Rattle.engine.specs.Fair.{AreFair}
use Rattle.engine.specs.Gains.{Gains}
use Rattle.engine.specs.Progress.{Progress}
use Rattle.engine.specs.Run.{Rooms, gives, progress_of, sent_of, files_of, wire_failures, counted, filing_failures}
use Rattle.engine.specs.Timeline.{Happened}

pub failures_then : (xs ys : List Happened) → wire_failures (xs ++ ys) ≡ wire_failures xs + wire_failures ys
failures_then [] ys = omega arith
failures_then (x ∷ xs) ys = omega (arith, failures_then xs ys)

-- the failures of the filing in the entries, and after the last one
pub filing_last : (xs : List Happened) (failed : Bool) → filing_failures xs failed ≡ filing_failures xs false + counted failed
filing_last [] failed = omega arith
filing_last (x ∷ xs) failed = omega (arith, filing_last xs failed)

pub filing_then : (xs ys : List Happened) (failed : Bool) → filing_failures (xs ++ ys) failed ≡ filing_failures xs false + filing_failures ys failed
filing_then [] ys failed = omega arith
filing_then (x ∷ xs) ys failed = omega (arith, filing_then xs ys failed)

-- ---- the devices

pub line_then : (a b : List ℕ) (m n : ℕ) (line : Line) → line_with b n (line_with a m line) ≡ line_with (a ++ b) (m + n) line
line_then a b m n line =
    ap (λ (t : Option (List ℕ)). record { sent = t; failures = line.failures + m + n }) (known_then line.sent a b)
    ∙ ap (λ (k : ℕ). record { sent = append_known line.sent (a ++ b); failures = k }) (omega arith)

pub line_nothing : (line : Line) → line_with [] 0 line ≡ line
line_nothing line =
    ap (λ (t : Option (List ℕ)). record { sent = t; failures = line.failures + 0 }) (known_nothing line.sent)
    ∙ ap (λ (k : ℕ). record { sent = line.sent; failures = k }) (omega arith)

pub files_and : (known : Option (List (List ℕ))) (a b : List (List ℕ)) → with_files b (with_files a known) ≡ with_files (a ++ b) known
files_and None a b = refl
files_and (Some fs) a b = simp append_assoc

pub no_files : (known : Option (List (List ℕ))) → with_files [] known ≡ known
no_files None = refl
no_files (Some fs) = simp append-nil

module _ (rooms : Rooms) (s : Settings) where
  pub progress_then : (p : Progress) (xs ys : List Happened) → progress_of rooms s p (xs ++ ys) ≡ progress_of rooms s (progress_of rooms s p xs) ys
  progress_then p [] ys = refl
  progress_then p (x ∷ xs) ys = progress_then (gives rooms s p x).next xs ys

  pub sent_then : (p : Progress) (xs ys : List Happened) → sent_of rooms s p (xs ++ ys) ≡ sent_of rooms s p xs ++ sent_of rooms s (progress_of rooms s p xs) ys
  sent_then p [] ys = refl
  sent_then p (x ∷ xs) ys = rw (sent_then (gives rooms s p x).next xs ys) (simp append_assoc)

  pub files_then : (p : Progress) (xs ys : List Happened) → files_of rooms s p (xs ++ ys) ≡ files_of rooms s p xs ++ files_of rooms s (progress_of rooms s p xs) ys
  files_then p [] ys = refl
  files_then p (x ∷ xs) ys = rw (files_then (gives rooms s p x).next xs ys) (simp append_assoc)

  pub fair_then : (p : Progress) (xs ys : List Happened) → AreFair rooms s p xs → AreFair rooms s (progress_of rooms s p xs) ys → AreFair rooms s p (xs ++ ys)
  fair_then p [] ys a b = b
  fair_then p (x ∷ xs) ys a b = (a.0, fair_then (gives rooms s p x).next xs ys a.1 b)

  -- nothing is gained by no entry
  pub gains_nothing : (p : Progress) (devices : Devices) → Gains rooms s p [] false false devices devices
  gains_nothing p devices = record { line = sym (line_nothing devices.line); files = sym (no_files (files_in devices.store)); count = refl }

  -- some entries, and then some others
  pub gains_then : (p : Progress) (xs ys : List Happened) (f g h : Bool) (old now new : Devices) → Gains rooms s p xs f g old now → Gains rooms s (progress_of rooms s p xs) ys g h now new → Gains rooms s p (xs ++ ys) f h old new
  gains_then p xs ys f g h old now new a b = record {
    line = b.line ∙ ap (line_with (sent_of rooms s (progress_of rooms s p xs) ys) (wire_failures ys)) a.line
        ∙ line_then (sent_of rooms s p xs) (sent_of rooms s (progress_of rooms s p xs) ys) (wire_failures xs) (wire_failures ys) old.line
        ∙ rw (sent_then p xs ys, failures_then xs ys) refl;
    files = b.files ∙ ap (with_files (files_of rooms s (progress_of rooms s p xs) ys)) a.files
        ∙ files_and (files_in old.store) (files_of rooms s p xs) (files_of rooms s (progress_of rooms s p xs) ys)
        ∙ rw (files_then p xs ys) refl;
    count = omega (arith, a.count, b.count, filing_last xs g, filing_then xs ys h);
  }
