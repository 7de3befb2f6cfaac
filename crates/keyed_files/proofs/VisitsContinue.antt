-- What a visit does at a path that fails is nothing yet (`fails_handled`), or is counted (`visited_counted`), and a link is
-- counted (`visited_link`). A visit that
-- continues after another is one visit (`visited_then`), also where it stops at an entry (`stops_at`). Stands on the
-- definitions alone.
use Rattle.std.proofs.Common.{◌≡◌, List, ℕ, Result, Ok, Err, refl, sym, ap, subst, ◌∙◌}
use Rattle.std.specs.Prelude.{IfErr, OnErr, OnOk, is_ok}
use Rattle.keyed_files.specs.declared.keys.FileKeys.{FileKeys}
use Rattle.keyed_files.specs.declared.reading.NoKeys.{NoKeys}
use Rattle.keyed_files.specs.declared.reading.NoKeys.TheVariants.{Directory, Empty, Faulty, Unread}
use Rattle.keyed_files.specs.Counting.{is_over}
use Rattle.keyed_files.specs.Visiting.{VisitState, Visited, Stops, FailsUncounted, CountsUnread, after, after_link, with_read, none, done, linked, counted, unopened, unread, unconsumed}

module _ {S : Type 0} (consumed : S → List ℕ → FileKeys → S → Type 0) where
  pub visited_same : {s : S} {old new : VisitState} → new ≡ old → Visited consumed s s old new
  visited_same {s} {old} {new} same = subst (λ (state : VisitState). Visited consumed s s old state) (sym same) none

  pub visited_link : {s : S} {old new : VisitState} → new ≡ after_link old → Visited consumed s s old new
  visited_link {s} {old} {new} same = subst (λ (state : VisitState). Visited consumed s s old state) (sym same) (linked none)

  pub fails_same : {s : S} {old new : VisitState} → new ≡ old → FailsUncounted consumed s s old new
  fails_same {s} {old} {new} same = subst (λ (state : VisitState). FailsUncounted consumed s s old state) (sym same) unopened

  pub fails_nothing : {A E : Type 0} (s : S) (old new : VisitState) (r : Result A E) → new ≡ old → OnErr r (FailsUncounted consumed s s old new)
  fails_nothing s old new (Ok a) same = _
  fails_nothing s old new (Err e) same = fails_same same

  -- nothing more is done with what failed where it is not counted either
  pub fails_still : {A E : Type 0} (s t : S) (old later new : VisitState) (r : Result A E) → FailsUncounted consumed s t old later → OnErr r (new ≡ later) → OnErr r (FailsUncounted consumed s t old new)
  fails_still s t old later new (Ok a) fails same = _
  fails_still s t old later new (Err e) fails same = subst (λ (state : VisitState). FailsUncounted consumed s t old state) (sym same) fails

  pub fails_handled : {A E : Type 0} (s t : S) (old middle new : VisitState) (read : Result FileKeys NoKeys) (r : Result A E) → middle ≡ with_read read old → OnErr read (t ≡ s) → new ≡ after read middle → IfErr read (λ why. is_ok r ≡ is_over why) → OnErr r (FailsUncounted consumed s t old new)
  fails_handled s t old middle new read (Ok u) at same counts over = _
  fails_handled s t old middle new (Ok keys) (Err e) at same counts over =
      let is : new ≡ with_read (Ok keys) old = counts ∙ ap (after (Ok keys)) at in
      subst (λ (state : VisitState). FailsUncounted consumed s t old state) (sym is) (unconsumed keys)
  fails_handled s t old middle new (Err Directory) (Err e) at same counts over = absurd cc
  fails_handled s t old middle new (Err Empty) (Err e) at same counts over = absurd cc
  fails_handled s t old middle new (Err (Faulty fault)) (Err e) at same counts over = absurd cc
  fails_handled s t old middle new (Err (Unread error)) (Err e) at same counts over =
      let is : new ≡ with_read (Err (Unread error)) old = counts ∙ ap (after (Err (Unread error))) at in
      subst (λ (u : S). FailsUncounted consumed s u old new) (sym same) (subst (λ (state : VisitState). FailsUncounted consumed s s old state) (sym is) (unread (Unread error) refl))

  pub visited_then : {s t u : S} {old middle new : VisitState} → Visited consumed s t old middle → Visited consumed t u middle new → Visited consumed s u old new
  visited_then first none = first
  visited_then first (done path read before is_done) = done path read (visited_then first before) is_done
  visited_then first (linked before) = linked (visited_then first before)
  visited_then first (counted before fails counts) = counted (visited_then first before) fails counts

  pub visited_counted : {A E : Type 0} {s t u : S} {old middle later : VisitState} (new : VisitState) (r : Result A E) → Visited consumed s t old middle → FailsUncounted consumed t u middle later → OnOk r (CountsUnread later new) → OnOk r (Visited consumed s u old new)
  visited_counted new (Ok a) first fails counts = counted first fails counts
  visited_counted new (Err e) first fails counts = _

  pub stops_at : {A E : Type 0} {s t u : S} {old middle new : VisitState} (r : Result A E) → Visited consumed s t old middle → FailsUncounted consumed t u middle new → OnErr r (Stops consumed s u old new)
  stops_at (Ok a) visited fails = _
  stops_at {t = t} {middle = middle} (Err e) visited fails = record { consumer = t; state = middle; visited = visited; fails = fails }

  pub counted_after : {s t u : S} {old middle later new : VisitState} → Visited consumed s t old middle → Stops consumed t u middle later → CountsUnread later new → Visited consumed s u old new
  counted_after first stops counts = counted (visited_then first stops.visited) stops.fails counts
