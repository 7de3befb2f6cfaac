-- A running association runs one turn more as the source gives it (`running_more`), and its turns are a run
-- (`turns_are_a_run`), reported as it stands (`answered_by`). Stands on AlongTimelines and FieldsShow/NothingCounts.
use Rattle.std.proofs.Common.{◌≡◌, ◌≢◌, ℕ, zero, suc, ◌+◌, ◌*◌, ◌≤◌, Bool, false, List, [], ◌∷◌, ◌++◌, length, take, drop, option_map, Option, Some, None, refl, sym, ap, subst, ◌∙◌, arith, inl, inr}
use Rattle.std.proofs.lemmas.Grind.{common_steps}
use Rattle.std.proofs.lemmas.Bool.{cases_lt}
use Rattle.std.proofs.lemmas.List.{append_assoc, append-nil, length-append, length-map, take-append-drop, take-append-le, take_all}
use Rattle.acceptor.specs.declared.state.State.TheVariants.{Sta1, Sta6}
use Rattle.part10.specs.Store.{Shelf, Store, reported_after, without_draft, stepped}
use Rattle.negotiate.specs.Settings.{Settings}
use Rattle.engine.specs.declared.source.Input.{Input}
use Rattle.engine.specs.declared.report.Report.{Report}
use Rattle.engine.specs.Devices.{Devices, with_files, filed}
use Rattle.engine.specs.Held.{Held, is_ended}
use Rattle.engine.specs.Inputs.{Received, Supply, first_of, others_of, first_inputs, input_of, stream_of, ConsumesFirst, Gives, with_given}
use Rattle.engine.specs.Moves.{Moved}
use Rattle.engine.specs.Progress.{at_start}
use Rattle.engine.specs.Ran.{inputs_after, story_after, EndsLast, LeavesOthers, standing_of, Answered}
use Rattle.engine.specs.Reached.{reached}
use Rattle.engine.specs.Run.{Rooms, progress_of, sent_of, files_of}
use Rattle.engine.specs.Stands.{Stands}
use Rattle.engine.specs.FrameFields.{Fields}
use Rattle.engine.specs.StoredData.{drafting_in}
use Rattle.engine.specs.TurnLaws.{TurnsBegin, OneTurnMore, TurnsAreARun, EndedHasNoDraft}
use Rattle.engine.specs.Timeline.{Happened, Entry, entries, entries_of}
use Rattle.engine.specs.Turns.{ConsumesFront, Follows, Stood, ConsumedTurns, ConsumedInput, Reports}
use Rattle.engine.proofs.AlongTimelines.StoriesJoin.{gains_nothing, gains_then}
use Rattle.engine.proofs.AlongTimelines.TimelineGrows.{entries_append}
use Rattle.engine.proofs.FieldsShow.NothingCounts.{ended_stored}

-- ---- the inputs of a source

first_more : (n : ℕ) (xs : List Received) → first_inputs (suc n) xs ≡ first_inputs n xs ++ first_of (inputs_after n xs) ∷ []
first_more zero xs = refl
first_more (suc n) xs = ap (λ (ys : List Received). first_of xs ∷ ys) (first_more n (others_of xs))

after_more : (n : ℕ) (xs : List Received) → inputs_after (suc n) xs ≡ others_of (inputs_after n xs)
after_more zero xs = refl
after_more (suc n) xs = after_more n (others_of xs)

front_more : (old now next : Option (List Received)) (consumed : List Received) (x : Received) → ConsumesFront old now consumed → ConsumesFirst now next x → ConsumesFront old next (consumed ++ x ∷ [])
front_more None now next consumed x f g = rw f at g
front_more (Some all) now next consumed x f g =
    let k : (x ≡ first_of (inputs_after (length consumed) all)) × (next ≡ Some (others_of (inputs_after (length consumed) all))) = rw f.1 at g in
    let len : length (consumed ++ x ∷ []) ≡ suc (length consumed) = length-append consumed (x ∷ []) ∙ omega arith in (
      rw (len, first_more (length consumed) all, k.0) (ap (λ (ys : List Received). ys ++ first_of (inputs_after (length consumed) all) ∷ []) f.0),
      rw (len, after_more (length consumed) all) k.1,
    )

given_more : (old : Option (List Received)) (consumed more : List Received) → with_given more (with_given consumed old) ≡ with_given (consumed ++ more) old
given_more None consumed more = refl
given_more (Some given) consumed more = ap (λ (xs : List Received). Some xs) (append_assoc given consumed more)

given_nothing : (old : Option (List Received)) → old ≡ with_given [] old
given_nothing None = refl
given_nothing (Some given) = ap (λ (xs : List Received). Some xs) (sym (append-nil given))

follows_more : (old now next : Supply) (consumed : List Received) (bytes : List ℕ) (kind : Input) → Follows old now consumed → Gives now next bytes kind → Follows old next (consumed ++ input_of kind bytes ∷ [])
follows_more old now next consumed bytes kind f g = record {
  front = front_more old.expected now.expected next.expected consumed (input_of kind bytes) f.front g.first;
  given = g.added ∙ ap (with_given (input_of kind bytes ∷ [])) f.given ∙ given_more old.given consumed (input_of kind bytes ∷ []);
}

front_start : (source : Option (List Received)) → ConsumesFront source source []
front_start source = grind (arith, common_steps)

follows_start : (source : Supply) → Follows source source []
follows_start source = record { front = front_start source.expected; given = given_nothing source.given }

pub follows_all : (old now : Option (List Received)) (consumed all : List Received) → ConsumesFront old now consumed → old ≡ Some all → LeavesOthers consumed all now
follows_all old now consumed all f e = let g : ConsumesFront (Some all) now consumed = subst (λ (x : Option (List Received)). ConsumesFront x now consumed) e f in record { first = g.0; others = g.1 }

-- ---- the story of a front of the inputs

length_take : (n : ℕ) (xs ys : List Received) → n ≤ length xs → take n (xs ++ ys) ≡ take n xs
length_take n xs ys h = take-append-le n xs ys h

-- the timeline of a front is no longer than that of all
few_entries : (n : ℕ) (consumed : List Received) → n ≤ length consumed → length (entries [] (take n consumed)) ≤ length (entries [] consumed)
few_entries n consumed h =
    let front = take n consumed in
    let parts : entries [] consumed ≡ entries [] front ++ entries (stream_of front) (drop n consumed) = sym (ap (entries []) (take-append-drop n consumed)) ∙ entries_append front (drop n consumed) in
    omega (arith, ap length parts, length-append (entries [] front) (entries (stream_of front) (drop n consumed)))

story_length : (story : List Happened) (es : List Entry) → entries_of story ≡ es → length story ≡ length es
story_length story es e = sym (length-map story (λ (h : Happened). h.0)) ∙ ap length e

-- with one input more, and its part of the story, it is as before
story_before : (n : ℕ) (consumed : List Received) (x : Received) (story more : List Happened) → entries_of story ≡ entries [] consumed → n ≤ length consumed
    → story_after n (consumed ++ x ∷ []) (story ++ more) ≡ story_after n consumed story
story_before n consumed x story more reported h =
    let same : take n (consumed ++ x ∷ []) ≡ take n consumed = length_take n consumed (x ∷ []) h in
    let k = length (entries [] (take n consumed)) in
    ap (λ (xs : List Received). take (length (entries [] xs)) (story ++ more)) same
    ∙ take-append-le k story more (omega (arith, few_entries n consumed h, story_length story (entries [] consumed) reported))

story_whole : (consumed : List Received) (story : List Happened) → entries_of story ≡ entries [] consumed → story_after (length consumed) consumed story ≡ story
story_whole consumed story reported =
    ap (λ (xs : List Received). take (length (entries [] xs)) story) (take_all (length consumed) consumed (omega arith))
    ∙ take_all (length (entries [] consumed)) story (omega (arith, story_length story (entries [] consumed) reported))

module _ (rooms : Rooms) (s : Settings) where
  ends_last_start : EndsLast rooms s [] []
  ends_last_start n h = absurd (omega (arith, h))

  -- the inputs so far did not end the association
  ends_last_more : (consumed : List Received) (x : Received) (story more : List Happened) → entries_of story ≡ entries [] consumed → (progress_of rooms s at_start story).state ≢ Sta1 → EndsLast rooms s consumed story
      → EndsLast rooms s (consumed ++ x ∷ []) (story ++ more)
  ends_last_more consumed x story more reported open_still last n h e =
      let within : n ≤ length consumed = omega (arith, h, length-append consumed (x ∷ [])) in
      let state : (progress_of rooms s at_start (story_after n consumed story)).state ≡ Sta1 =
      ap (λ (t : List Happened). (progress_of rooms s at_start t).state) (sym (story_before n consumed x story more reported within)) ∙ e in
      elim (cases_lt n (length consumed)) [
        | inl lt ↦ last n lt state
        | inr le ↦ open_still (ap (λ (t : List Happened). (progress_of rooms s at_start t).state)
            (sym (ap (λ (k : ℕ). story_after k consumed story) (omega (arith, le, within)) ∙ story_whole consumed story reported)) ∙ state)
      ]

  -- ---- one turn more

  pub running_start : (seen : Fields) (source : Supply) (d : Devices) → Stands rooms s [] [] false seen d.store → ConsumedTurns rooms s 0 source source seen d d
  running_start seen source d h = record {
    consumed = [];
    number = refl;
    follows = follows_start source;
    stood = record { story = []; failed = false; stands = h; last = ends_last_start; gains = gains_nothing rooms s at_start d };
  }

  -- what an association that is set so does with an input
  abbrev OnInput : Fields → Fields → Devices → Devices → Received → Settings → Type 0
  OnInput seen seen_new now new x set = (inputs : List Received) (story : List Happened) (failed : Bool) → Stands rooms set inputs story failed seen now.store
      → Moved rooms set inputs story failed x seen seen_new now new

  pub running_more : (seen seen_new : Fields) (source now next : Supply) (turns : ℕ) (old mid new : Devices) (bytes : List ℕ) (kind : Input) (set : Settings) → set ≡ s → seen.kept.state ≢ Sta1 → (r : ConsumedTurns rooms s turns source now seen old mid)
      → Gives now next bytes kind → OnInput seen seen_new mid new (input_of kind bytes) set → ConsumedTurns rooms s (turns + 1) source next seen_new old new
  running_more seen seen_new source now next turns old mid new bytes kind set is open_still r g k = record {
    consumed = r.consumed ++ input_of kind bytes ∷ [];
    number = omega (arith, r.number, length-append r.consumed (input_of kind bytes ∷ []));
    follows = follows_more source now next r.consumed bytes kind r.follows g;
    stood =
        let before = r.stood in
        let m = subst (OnInput seen seen_new mid new (input_of kind bytes)) is k r.consumed before.story before.failed before.stands in
        record {
          story = before.story ++ m.more;
          failed = m.failed_then;
          stands = m.stands;
          last = ends_last_more r.consumed (input_of kind bytes) before.story m.more before.stands.story_is.reported
              (λ e. open_still (before.stands.shows.frame.pends.state_is ∙ e)) before.last;
          gains = gains_then rooms s at_start before.story m.more false before.failed m.failed_then old mid new before.gains m.gains;
        };
  }

  -- ---- the end

  -- the draft is dropped
  reported_filed : (old now : Option Shelf) (files : List (List ℕ)) → option_map (λ shelf. shelf.files) now ≡ with_files files (option_map (λ shelf. shelf.files) old)
      → reported_after without_draft now ≡ reported_after (filed files) old
  reported_filed None None files e = refl
  reported_filed None (Some shelf) files e = absurd cc
  reported_filed (Some old) None files e = absurd cc
  reported_filed (Some old) (Some now) files e =
      let same : now.files ≡ old.files ++ files = cc in
      ap (λ (fs : List (List ℕ)). Some (record { files = fs; draft = [] })) same

  pub answered_by : (consumed : List Received) (report : Report) (seen : Fields) (old now new : Devices) → Stood rooms s consumed seen old now → report.standing ≡ standing_of seen.kept.state
      → ((story : List Happened) (failed : Bool) → Stands rooms s consumed story failed seen now.store → Held rooms s (reached rooms s consumed story failed) report.held)
      → (seen.kept.state ≡ Sta6 → report.held ≤ 544 + rooms.command + rooms.values + 16 * rooms.depth)
      → new.line ≡ now.line → new.store ≡ stepped without_draft false now.store → Answered rooms s consumed report old new
  answered_by consumed report seen old now new h e held accepted line store = record {
    story = h.story;
    failed = h.failed;
    sent = sent_of rooms s at_start h.story;
    files = files_of rooms s at_start h.story;
    state = seen.kept.state;
    run = record { story_is = h.stands.story_is; sent_is = refl; files_are = refl; state_is = h.stands.shows.frame.pends.state_is };
    last = h.last;
    standing = e;
    held = held h.story h.failed h.stands;
    accepted_room = accepted;
    line = line ∙ h.gains.line;
    reported = ap (λ (x : Store). x.reported) store ∙ reported_filed old.store.reported now.store.reported (files_of rooms s at_start h.story) h.gains.files;
    count = omega (arith, ap (λ (x : Store). x.failures) store, h.gains.count);
  }

-- ---- the laws of turns

pub turns_begin : TurnsBegin
turns_begin rooms s seen source d h = running_start rooms s seen source d h

pub one_turn_more : OneTurnMore
one_turn_more rooms s turns source now next seen seen_new old mid new open_still r t =
    running_more rooms s seen seen_new source now next turns old mid new t.bytes t.kind s refl open_still r t.gives t.moved

pub turns_are_a_run : TurnsAreARun
turns_are_a_run rooms s turns most source now seen old mid new report r few ended reports line store = record {
  consumed = r.consumed;
  most_turns = omega (arith, r.number, few);
  all_turns = λ lt. reports.standing ∙ ap standing_of (ended (omega (arith, r.number, lt)));
  source = λ all e. follows_all _ _ r.consumed all r.follows.front e;
  given = r.follows.given;
  answered = answered_by rooms s r.consumed report seen old mid new r.stood reports.standing (λ story failed h. reports.held r.consumed story failed h) reports.accepted_room line store;
  no_draft = ap (λ (x : Store). x.has_draft) store;
}

pub ended_has_no_draft : EndedHasNoDraft
ended_has_no_draft rooms s inputs story failed seen store h e =
    let pends = h.shows.frame.pends in
    ap drafting_in (ended_stored seen.kept store (reached rooms s inputs story failed).progress _ _ (ap is_ended (sym pends.state_is) ∙ e) pends)

-- with the settings that an association has
pub consumed_set : (rooms : Rooms) (set s : Settings) (now next : Supply) (seen seen_new : Fields) (old new : Devices) → set ≡ s → ConsumedInput rooms set now next seen seen_new old new → ConsumedInput rooms s now next seen seen_new old new
consumed_set rooms set s now next seen seen_new old new e t = subst (λ (x : Settings). ConsumedInput rooms x now next seen seen_new old new) e t

pub reports_set : (rooms : Rooms) (set s : Settings) (seen : Fields) (store : Store) (report : Report) → set ≡ s → Reports rooms set seen store report → Reports rooms s seen store report
reports_set rooms set s seen store report e r = subst (λ (x : Settings). Reports rooms x seen store report) e r
