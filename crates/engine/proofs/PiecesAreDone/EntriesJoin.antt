-- What some entries do and then others is what all of them do (`does_then`, `does_more`); a failure before the next entry
-- counts at it (`push_fair`). Stands on AlongTimelines/StoriesJoin.
use Rattle.std.proofs.Common.{◌≡◌, ℕ, ◌+◌, Bool, true, false, ◌||◌, List, [], ◌∷◌, ◌++◌, Option, refl, sym, ap, subst, ◌∙◌, arith, inl, inr}
use Rattle.std.proofs.lemmas.Grind.{common_steps}
use Rattle.std.proofs.lemmas.List.{append-nil, map-append}
use Rattle.negotiate.specs.Settings.{Settings}
use Rattle.engine.specs.Timeline.{Entry, Outcome, Happened, entries_of}
use Rattle.engine.specs.Progress.{Progress, Advance, absorb}
use Rattle.engine.specs.Devices.{Devices, line_with, files_in, with_files}
use Rattle.engine.specs.Run.{Rooms, at_entry, cut, gives, progress_of, sent_of, files_of, counted, wire_failures, filing_failures}
use Rattle.engine.specs.Fair.{MayFail, IsFair, AreFair, message_at}
use Rattle.engine.proofs.AlongTimelines.StoriesJoin.{failures_then, filing_then, filing_last, line_then, line_nothing, files_and, no_files, progress_then, sent_then, files_then, fair_then}
use Rattle.engine.specs.Kept.{Kept, Pends}
use Rattle.engine.specs.machine.Does.{Does, DoesAll, Appends, push, still_failed}

pub absorb_twice : (f g : Bool) (p : Progress) → absorb (f || g) p ≡ absorb g (absorb f p)
absorb_twice f g p = grind (arith, common_steps)

cut_absorbed : (f : Bool) (w : Option ℕ) (p : Progress) (g : Advance) → cut w p g ≡ cut w (absorb f p) g
cut_absorbed f w p g = grind (arith, common_steps)

pub message_absorbed : (f : Bool) (p : Progress) (e : Entry) → message_at (absorb f p) e ≡ message_at p e
message_absorbed f p e = grind (arith, common_steps)

-- ---- a failure before the next entry counts at it

pub push_entries : (f : Bool) (st : List Happened) → entries_of (push f st) ≡ entries_of st
push_entries f st = grind (arith, common_steps)

pub push_wire : (f : Bool) (st : List Happened) → wire_failures (push f st) ≡ wire_failures st
push_wire f st = grind (arith, common_steps)

module _ (rooms : Rooms) (s : Settings) where
  push_gives : (f : Bool) (p : Progress) (e : Entry) (o : Outcome) → gives rooms s p (e, record o { filing = f || o.filing }) ≡ gives rooms s (absorb f p) (e, o)
  push_gives f p e o = cut_absorbed f o.wire p (at_entry rooms s (absorb (f || o.filing) p) o.finding e) ∙ ap (λ (q : Progress). cut o.wire (absorb f p) (at_entry rooms s q o.finding e)) (absorb_twice f o.filing p)

  pub push_progress : (f g : Bool) (p : Progress) (st : List Happened) → absorb (still_failed f st g) (progress_of rooms s p (push f st)) ≡ absorb g (progress_of rooms s (absorb f p) st)
  push_progress f g p [] = absorb_twice f g p
  push_progress f g p ((e, o) ∷ st) = ap (λ (x : Advance). absorb g (progress_of rooms s x.next st)) (push_gives f p e o)

  pub push_sent : (f : Bool) (p : Progress) (st : List Happened) → sent_of rooms s p (push f st) ≡ sent_of rooms s (absorb f p) st
  push_sent f p [] = refl
  push_sent f p ((e, o) ∷ st) = ap (λ (x : Advance). x.sent ++ sent_of rooms s x.next st) (push_gives f p e o)

  pub push_files : (f : Bool) (p : Progress) (st : List Happened) → files_of rooms s p (push f st) ≡ files_of rooms s (absorb f p) st
  push_files f p [] = refl
  push_files f p ((e, o) ∷ st) = ap (λ (x : Advance). x.files ++ files_of rooms s x.next st) (push_gives f p e o)

  -- a failure comes once in a message
  failed_once : (f g : Bool) (p q : Progress) → (g ≡ true → MayFail (absorb f p) q) → counted (f || g) ≡ counted f + counted g
  failed_once true true p q h = let wrong : true ≡ false = (h refl).0 in absurd cc
  failed_once true false p q h = refl
  failed_once false g p q h = omega arith

  in_store : (p q : Progress) → MayFail p p → MayFail p q
  in_store p q m = (m.0, elim m.1 [ inl x ↦ inl x | inr x ↦ inl x ])

  pub push_fair : (f : Bool) (p : Progress) (st : List Happened) → (f ≡ true → MayFail p p) → AreFair rooms s (absorb f p) st → AreFair rooms s p (push f st)
  push_fair f p [] m h = h
  push_fair false p ((e, o) ∷ st) m h = h
  push_fair true p ((e, o) ∷ st) m h =
      let now : IsFair rooms s p (e, record o { filing = true }) = record {
        verdict = rw (← message_absorbed true p e) (rw (absorb_twice true o.filing p) h.0.verdict);
        wire = rw (absorb_twice true o.filing p) h.0.wire;
        filing = λ _. in_store p (at_entry rooms s p o.finding e).next (m refl);
      } in (now, rw (push_gives true p e o) h.1)

  pub push_last : (f g : Bool) (p : Progress) (st : List Happened) → (f ≡ true → MayFail p p) → (g ≡ true → MayFail (progress_of rooms s (absorb f p) st) (progress_of rooms s (absorb f p) st))
      → still_failed f st g ≡ true → MayFail (progress_of rooms s p (push f st)) (progress_of rooms s p (push f st))
  push_last true g p [] m k e = m refl
  push_last false g p [] m k e = k e
  push_last f g p ((x, o) ∷ st) m k e = subst (λ (a : Advance). MayFail (progress_of rooms s a.next st) (progress_of rooms s a.next st)) (sym (push_gives f p x o)) (k e)

  pub push_filing : (f g : Bool) (p : Progress) (st : List Happened) → AreFair rooms s (absorb f p) st → (g ≡ true → MayFail (progress_of rooms s (absorb f p) st) (progress_of rooms s (absorb f p) st))
      → filing_failures (push f st) (still_failed f st g) ≡ counted f + filing_failures st g
  push_filing f g p [] h k = failed_once f g p (absorb f p) k
  push_filing f g p ((e, o) ∷ st) h k = omega (arith, failed_once f o.filing p (at_entry rooms s (absorb f p) o.finding e).next h.0.filing)

  -- ---- none, one and more

  pub does_none : (p : Progress) (k : Kept) (body started : List ℕ) (d : Devices) → Pends k d.store p body started → DoesAll rooms s p [] k body started d d
  does_none p k body started d h = record {
    story = [];
    failed = false;
    reported = refl;
    fair = tt;
    last = λ e. absurd cc;
    pends = h;
    gains = record { line = sym (line_nothing d.line); files = sym (no_files (files_in d.store)); count = omega arith };
  }

  -- a part of a fragment
  abbrev pub does_appended : (p : Progress) (k : Kept) (body started : List ℕ) (d e : Devices) → Appends rooms s p k body started d e → DoesAll rooms s p [] k body started d e
  does_appended p k body started d e a = record { story = []; failed = a.failed; reported = refl; fair = tt; last = a.last; pends = a.pends; gains = a.gains }

  abbrev pub does_one : (p : Progress) (x : Entry) (k : Kept) (body started : List ℕ) (d e : Devices) → Does rooms s p x k body started d e → DoesAll rooms s p (x ∷ []) k body started d e
  does_one p x k body started d e h = record {
    story = (x, h.outcome) ∷ [];
    failed = false;
    reported = refl;
    fair = (h.fair, tt);
    last = λ e. absurd cc;
    pends = h.pends;
    gains = record {
      line = h.line ∙ rw (append-nil (gives rooms s p (x, h.outcome)).sent) (ap (λ (n : ℕ). line_with (gives rooms s p (x, h.outcome)).sent n d.line) (omega arith));
      files = h.files ∙ rw (append-nil (gives rooms s p (x, h.outcome)).files) refl;
      count = omega (arith, h.count);
    };
  }

  -- some entries, and then others from where these led
  pub joined : (p : Progress) (xs ys : List Entry) (k n : Kept) (b f body started : List ℕ) (d e g : Devices) → (h : DoesAll rooms s p xs k b f d e)
      → (j : DoesAll rooms s (absorb h.failed (progress_of rooms s p h.story)) ys n body started e g)
      → (z : DoesAll rooms s p (xs ++ ys) n body started d g) × (absorb z.failed (progress_of rooms s p z.story) ≡ absorb j.failed (progress_of rooms s (absorb h.failed (progress_of rooms s p h.story)) j.story))
  joined p xs ys k n b f body started d e g h j =
      let q = progress_of rooms s p h.story in
      let zs = push h.failed j.story in
      let last = still_failed h.failed j.story j.failed in
      let sent : sent_of rooms s p (h.story ++ zs) ≡ sent_of rooms s p h.story ++ sent_of rooms s (absorb h.failed q) j.story = sent_then rooms s p h.story zs ∙ ap (λ (t : List ℕ). sent_of rooms s p h.story ++ t) (push_sent h.failed q j.story) in
      let files : files_of rooms s p (h.story ++ zs) ≡ files_of rooms s p h.story ++ files_of rooms s (absorb h.failed q) j.story = files_then rooms s p h.story zs ∙ ap (λ (t : List (List ℕ)). files_of rooms s p h.story ++ t) (push_files h.failed q j.story) in
      let wires : wire_failures (h.story ++ zs) ≡ wire_failures h.story + wire_failures j.story = failures_then h.story zs ∙ ap (λ (m : ℕ). wire_failures h.story + m) (push_wire h.failed j.story) in
      let there : absorb last (progress_of rooms s p (h.story ++ zs)) ≡ absorb j.failed (progress_of rooms s (absorb h.failed q) j.story) = ap (absorb last) (progress_then rooms s p h.story zs) ∙ push_progress h.failed j.failed q j.story in (
        record {
          story = h.story ++ zs;
          failed = last;
          reported = map-append (λ (x : Happened). x.0) h.story zs ∙ ap (λ (es : List Entry). entries_of h.story ++ es) (push_entries h.failed j.story) ∙ rw (h.reported, j.reported) refl;
          fair = fair_then rooms s p h.story zs h.fair (push_fair h.failed q j.story h.last j.fair);
          last = λ t. rw (progress_then rooms s p h.story zs) (push_last h.failed j.failed q j.story h.last j.last t);
          pends = rw (progress_then rooms s p h.story zs) (rw (push_progress h.failed j.failed q j.story) j.pends);
          gains = record {
            line = j.gains.line ∙ ap (line_with (sent_of rooms s (absorb h.failed q) j.story) (wire_failures j.story)) h.gains.line ∙ line_then _ _ _ _ d.line ∙ rw (sent, wires) refl;
            files = j.gains.files ∙ ap (with_files (files_of rooms s (absorb h.failed q) j.story)) h.gains.files ∙ files_and (files_in d.store) _ _ ∙ rw files refl;
            count = omega (arith, j.gains.count, h.gains.count, filing_then h.story zs last, filing_last h.story h.failed, push_filing h.failed j.failed q j.story j.fair j.last);
          };
        },
        there,
      )

  pub does_then : (p : Progress) (xs ys : List Entry) (k n : Kept) (b f body started : List ℕ) (d e g : Devices) → (h : DoesAll rooms s p xs k b f d e)
      → DoesAll rooms s (absorb h.failed (progress_of rooms s p h.story)) ys n body started e g → DoesAll rooms s p (xs ++ ys) n body started d g
  does_then p xs ys k n b f body started d e g h j = (joined p xs ys k n b f body started d e g h j).0

  -- the first entry, and the others from where it led
  pub does_more : (p : Progress) (x : Entry) (ys : List Entry) (k n : Kept) (b f body started : List ℕ) (d e g : Devices) → (h : Does rooms s p x k b f d e)
      → DoesAll rooms s (gives rooms s p (x, h.outcome)).next ys n body started e g → DoesAll rooms s p (x ∷ ys) n body started d g
  does_more p x ys k n b f body started d e g h j = does_then p (x ∷ []) ys k n b f body started d e g (does_one p x k b f d e h) j
