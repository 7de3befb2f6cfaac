-- One event handled after another (`handled_then`), all of a piece is done (`consumed_all`), also where the end drops the rest
-- (`consumed_dropped`). Stands on EntriesJoin and the laws of `pdu`.
use Rattle.std.proofs.Common.{◌≡◌, ℕ, Bool, true, false, List, [], ◌++◌, map, refl, sym, ap, subst, ◌∙◌, append_assoc, arith}
use Rattle.std.proofs.lemmas.List.{append-nil, map-append}
use Rattle.pdu.specs.Frames.{IsRest, rest_of}
use Rattle.pdu.specs.Marks.{Mark, new_marks}
use Rattle.pdu.specs.Spot.{Opening, spot}
use Rattle.pdu.proofs.Public.{new_then, new_rest, rest_rest, new_nothing, rest_alone}
use Rattle.pdu.proofs.Public.{spot_opening}
use Rattle.negotiate.specs.Settings.{Settings}
use Rattle.engine.specs.Timeline.{At}
use Rattle.engine.specs.Progress.{Progress, absorb}
use Rattle.engine.specs.Devices.{Devices}
use Rattle.engine.specs.Run.{Rooms, progress_of}
use Rattle.engine.specs.Reached.{started_in}
use Rattle.engine.specs.Held.{is_ended}
use Rattle.engine.specs.Kept.{Kept, Pends}
use Rattle.engine.specs.FrameFields.{StandsAt, Fields, ShowsFrame, body_of}
use Rattle.engine.specs.machine.Shows.{ShowsDue, Handles, Pending, DoesPart}
use Rattle.engine.proofs.PiecesAreDone.EntriesJoin.{does_none, does_then}

-- no frame has started
pub empty_rest : IsRest []
empty_rest = λ le. absurd (omega arith)

pub spot_none : spot [] ≡ Opening
spot_none = spot_opening [] (omega arith)

module _ (rooms : Rooms) (s : Settings) where
  -- nothing was consumed
  pub handled_start : (f : Fields) (p : Progress) (r : List ℕ) (t : Devices) → IsRest r → is_ended p.state ≡ false → ShowsFrame f t.store p r → Handles rooms s f p r [] [] true t t
  handled_start f p r t rest still h =
      let same : rest_of (r ++ []) ≡ r = ap rest_of (append-nil r) ∙ rest_alone r rest in
      record {
        marks = [];
        later = [];
        all = new_nothing r;
        body = body_of r;
        started = started_in (spot r);
        does = does_none rooms s p f.kept (body_of r) (started_in (spot r)) t h.pends;
        pending = rw same (refl, refl);
        is_at = rw same (h.framed still);
        none_due = λ wrong. refl;
      }

  -- one call after another
  pub handled_then : (f g : Fields) (p : Progress) (r : List ℕ) (due : List Mark) (a b : List ℕ) (m n : Bool) (t u v : Devices) → (x : Handles rooms s f p r due a m t u)
      → ((q : Progress) (rest : List ℕ) (ms : List Mark) → ShowsDue f u.store q rest ms → Handles rooms s g q rest ms b n u v) → Handles rooms s g p r due (a ++ b) n t v
  handled_then f g p r due a b m n t u v x more =
      let q : Progress = absorb x.does.failed (progress_of rooms s p x.does.story) in
      let rest = rest_of (r ++ a) in
      let y = more q rest x.later (record { is_at = x.is_at; body = x.body; started = x.started; pending = x.pending; pends = x.does.pends }) in
      let where_then : rest_of (rest ++ b) ≡ rest_of (r ++ (a ++ b)) = sym (rest_rest (r ++ a) b) ∙ ap rest_of (append_assoc r a b) in
      let marks_are : new_marks r (a ++ b) ≡ new_marks r a ++ new_marks rest b = new_then r a b ∙ ap (λ (ms : List Mark). new_marks r a ++ ms) (new_rest (r ++ a) b) in
      record {
        marks = x.marks ++ y.marks;
        later = y.later;
        all = ap (λ (ms : List Mark). due ++ ms) marks_are ∙ sym (append_assoc due (new_marks r a) (new_marks rest b)) ∙ ap (λ (ms : List Mark). ms ++ new_marks rest b) x.all
            ∙ append_assoc x.marks x.later (new_marks rest b) ∙ ap (λ (ms : List Mark). x.marks ++ ms) y.all ∙ sym (append_assoc x.marks y.marks y.later);
        body = y.body;
        started = y.started;
        does = rw (map-append At x.marks y.marks) (does_then rooms s p (map At x.marks) (map At y.marks) f.kept g.kept x.body x.started y.body y.started t u v x.does y.does);
        pending = subst (λ (z : List ℕ). Pending z y.later y.body y.started) where_then y.pending;
        is_at = subst (λ (z : List ℕ). StandsAt g.position g.kept z y.later) where_then y.is_at;
        none_due = y.none_due;
      }

  -- no marks are due
  pub consumed_all : (f : Fields) (p : Progress) (r c : List ℕ) (t u : Devices) → Handles rooms s f p r [] c false t u → DoesPart rooms s f p r c t u
  consumed_all f p r c t u x =
      let none : x.later ≡ [] = x.none_due refl in
      let rest = rest_of (r ++ c) in
      let q : Progress = absorb x.does.failed (progress_of rooms s p x.does.story) in
      let all : new_marks r c ≡ x.marks = x.all ∙ ap (λ (ms : List Mark). x.marks ++ ms) none ∙ append-nil x.marks in
      let is : (x.body ≡ body_of rest) × (x.started ≡ started_in (spot rest)) = subst (λ (ms : List Mark). Pending rest ms x.body x.started) none x.pending in
      record {
        story = x.does.story;
        failed = x.does.failed;
        reported = x.does.reported ∙ ap (λ (ms : List Mark). map At ms) (sym all);
        fair = x.does.fair;
        last = x.does.last;
        shows = record {
          framed = λ _. subst (λ (ms : List Mark). StandsAt f.position f.kept rest ms) none x.is_at;
          pends = subst (λ (z : List ℕ). Pends f.kept u.store q (body_of rest) z) is.1 (subst (λ (z : List ℕ). Pends f.kept u.store q z x.started) is.0 x.does.pends);
        };
        gains = x.does.gains;
      }

  -- the heads were released where the association has ended
  pub consumed_dropped : (f g : Fields) (p : Progress) (r c : List ℕ) (t u : Devices) → g.kept ≡ f.kept → (is_ended f.kept.state ≡ false → g ≡ f) → DoesPart rooms s f p r c t u → DoesPart rooms s g p r c t u
  consumed_dropped f g p r c t u kept same x =
      let q = absorb x.failed (progress_of rooms s p x.story) in
      let rest = rest_of (r ++ c) in
      record {
        story = x.story;
        failed = x.failed;
        reported = x.reported;
        fair = x.fair;
        last = x.last;
        shows = record {
          framed = λ still. subst (λ (h : Fields). StandsAt h.position h.kept rest []) (sym (same (ap is_ended x.shows.pends.state_is ∙ still))) (x.shows.framed still);
          pends = subst (λ (k : Kept). Pends k u.store q (body_of rest) (started_in (spot rest))) (sym kept) x.shows.pends;
        };
        gains = x.gains;
      }
