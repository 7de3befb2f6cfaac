-- What a connection has consumed is a run of its inputs: at its open (`opens`), with one input more (`keeps_piece`, `keeps_other`),
-- and at its end (`ends`). Stands on ClosesWithItsSocket, InputsAddTheirPieces and the laws of `engine`.
use Rattle.std.proofs.Common.{◌≡◌, ◌≢◌, ℕ, zero, suc, ◌+◌, ◌<◌, ◌≤◌, Bool, true, false, List, [], ◌∷◌, ◌++◌, length, Some, refl, sym, ap, subst, ◌∙◌, append_assoc, length-append, arith, inl, inr}
use Rattle.std.proofs.Math.Logic.{∥∥₁_elim, ∥∥₁_map, ∥∥₁_prop}
use Rattle.std.specs.Coded.{le_prop}
use Rattle.std.proofs.lemmas.Bool.{cases_lt}
use Rattle.acceptor.specs.declared.state.State.{State}
use Rattle.acceptor.specs.declared.state.State.TheVariants.{Sta1, Sta2, Sta3, Sta6, Sta8, Sta13}
use Rattle.element.specs.Numbers.{IsBytes}
use Rattle.element.specs.declared.trace.Trace.{Trace}
use Rattle.negotiate.specs.Settings.{Settings}
use Rattle.pdu.specs.Sent.{Line}
use Rattle.part10.specs.Store.{Store, stepped, without_draft}
use Rattle.engine.specs.declared.source.Input.{Input}
use Rattle.engine.specs.declared.source.Input.TheVariants.{Piece, Closed, Expired, LocalAbort}
use Rattle.engine.specs.declared.report.Report.{Report}
use Rattle.engine.specs.declared.report.Standing.{Standing}
use Rattle.engine.specs.declared.report.Standing.TheVariants as standing
use Rattle.engine.specs.Devices.{Devices, devices}
use Rattle.engine.specs.FrameFields.{Fields}
use Rattle.engine.specs.Held.{is_ended}
use Rattle.engine.specs.Inputs.{Received, Bytes, UserAbort, stream_of, input_of, inputs_of}
use Rattle.engine.specs.Moves.{Moved}
use Rattle.engine.specs.OutputLaws.{SendsFew, IsSilent, most_beside_answers}
use Rattle.engine.specs.Progress.{at_start}
use Rattle.engine.specs.Ran.{standing_of}
use Rattle.engine.specs.Run.{progress_of, sent_of, wire_failures}
use Rattle.engine.specs.Stands.{Stands}
use Rattle.engine.specs.Timeline.{Happened, entries, entries_of}
use Rattle.engine.specs.Turns.{ConsumedInput, Reports}
use Rattle.engine.proofs.Public.{turns_begin, one_turn_more, turns_are_a_run, entries_of_more, silent_sends_nothing, aborts_shortly}
use Rattle.serving.proofs.ClosesWithItsSocket.{one_more_closes, still_closed}
use Rattle.serving.proofs.InputsAddTheirPieces.{gives_one, still_whole, whole_more}
use Rattle.serving.specs.declared.outbox.Outbox.{Outbox}
use Rattle.serving.specs.Capacities.{outbox_size}
use Rattle.serving.specs.Closes.{HasClosed, ClosesWithSocket}
use Rattle.serving.specs.Rooms.{served_rooms}
use Rattle.serving.specs.Consumed.{supply_of, unfailed_line, HasConsumed}
use Rattle.serving.specs.Served.{ExchangedSoFar}

-- an outbox of these bytes, as a wire
abbrev pub line : List ℕ → ℕ → Line
line pending failures = record { sent = Some pending; failures = failures }

-- what an association that is seen so does with an input, over an outbox and a filing
abbrev pub OnInput : Settings → Input → List ℕ → Fields → Fields → Devices → Devices → Type 0
OnInput s kind bytes seen seen_new old new = (inputs : List Received) (story : List Happened) (failed : Bool) → Stands served_rooms s inputs story failed seen old.store
    → Moved served_rooms s inputs story failed (input_of kind bytes) seen seen_new old new

still_open : (state : State) → is_ended state ≡ false → state ≢ Sta1
still_open state open_still e = let wrong : false ≡ true = sym open_still ∙ ap is_ended e in absurd cc

-- ---- the open

pub nothing_consumed : (s : Settings) (seen : Fields) (store : Store) → Stands served_rooms s [] [] false seen store → HasConsumed s [] seen [] store store
nothing_consumed s seen store h = record { turns = 0; consumes = turns_begin served_rooms s seen (supply_of []) (devices (unfailed_line []) store) h }

pub begins_due : (s : Settings) (seen : Fields) (store : Store) → Stands served_rooms s [] [] false seen store → Sta2 ≡ seen.kept.state
begins_due s seen store h = sym h.shows.frame.pends.state_is

-- ---- one input more

module _ (s : Settings) (named : List (Input × List ℕ)) (kind : Input) (bytes : List ℕ) (seen seen_new : Fields) (socket pending pending_new : List ℕ) (m n : ℕ) (opened old new : Store)
    (never : m ≡ 0) (moved : OnInput s kind bytes seen seen_new (devices (line pending m) old) (devices (line pending_new n) new)) where
  -- what waits grew by what was sent
  record Grew : Type 0 where
    inputs : List Received
    story : List Happened
    failed : Bool
    inputs_are : inputs ≡ inputs_of named
    stands : Stands served_rooms s inputs story failed seen old
    more : List Happened
    reported : entries_of more ≡ entries (stream_of inputs) (input_of kind bytes ∷ [])
    pending_is : pending_new ≡ pending ++ sent_of served_rooms s (progress_of served_rooms s at_start story) more

  some_same : (xs ys : List Received) → Some xs ≡ Some ys → xs ≡ ys
  some_same xs ys e = cc

  bytes_same : (xs ys : List ℕ) → Some xs ≡ Some ys → xs ≡ ys
  bytes_same xs ys e = cc

  grew : HasConsumed s named seen (socket ++ pending) opened old → Grew
  grew h =
      let t = h.consumes in
      let b = t.stood in
      let x = moved t.consumed b.story b.failed b.stands in
      record {
        inputs = t.consumed;
        story = b.story;
        failed = b.failed;
        inputs_are = sym (some_same (inputs_of named) t.consumed t.follows.given);
        stands = b.stands;
        more = x.more;
        reported = entries_of_more served_rooms s t.consumed (input_of kind bytes) b.story x.more b.failed x.failed_then b.stands.story_is x.stands.story_is;
        pending_is = bytes_same _ _ (ap (λ (l : Line). l.sent) x.gains.line);
      }

  -- over the socket and the outbox together
  over : (inputs : List Received) (story : List Happened) (failed : Bool) → n ≡ 0 → Moved served_rooms s inputs story failed (input_of kind bytes) seen seen_new (devices (line pending m) old) (devices (line pending_new n) new)
      → Moved served_rooms s inputs story failed (input_of kind bytes) seen seen_new (devices (unfailed_line (socket ++ pending)) old) (devices (unfailed_line (socket ++ pending_new)) new)
  over inputs story failed none x =
      let text = sent_of served_rooms s (progress_of served_rooms s at_start story) x.more in
      let pending_is : pending_new ≡ pending ++ text = bytes_same _ _ (ap (λ (l : Line). l.sent) x.gains.line) in
      let fails : 0 ≡ wire_failures x.more = omega (arith, ap (λ (l : Line). l.failures) x.gains.line, none, never) in
      record {
        more = x.more;
        failed_then = x.failed_then;
        charged = x.charged;
        stands = x.stands;
        gains = record {
          line = rw (pending_is, sym (append_assoc socket pending text), sym fails) refl;
          files = x.gains.files;
          count = x.gains.count;
        };
        drafts = x.drafts;
      }

  pub one_more : is_ended seen.kept.state ≡ false → n ≡ 0 → HasConsumed s named seen (socket ++ pending) opened old → HasConsumed s (named ++ (kind, bytes) ∷ []) seen_new (socket ++ pending_new) opened new
  one_more open_still none h =
      let t : ConsumedInput served_rooms s (supply_of named) (supply_of (named ++ (kind, bytes) ∷ [])) seen seen_new (devices (unfailed_line (socket ++ pending)) old) (devices (unfailed_line (socket ++ pending_new)) new) =
      record { bytes = bytes; kind = kind; gives = gives_one named (named ++ (kind, bytes) ∷ []) kind bytes refl; moved = λ inputs story failed at. over inputs story failed none (moved inputs story failed at) } in
      record {
        turns = h.turns + 1;
        consumes = one_turn_more served_rooms s h.turns (supply_of []) (supply_of named) (supply_of (named ++ (kind, bytes) ∷ [])) seen seen_new (devices (unfailed_line []) opened) (devices (unfailed_line (socket ++ pending)) old)
            (devices (unfailed_line (socket ++ pending_new)) new) (still_open seen.kept.state open_still) h.consumes t;
      }

  -- ---- nothing is sent for which there is no room

  -- where an outbox that has refused a send is full
  pub unfailed : (0 < n → length pending_new ≡ outbox_size) → length pending_new < outbox_size → n ≡ 0
  unfailed full few = elim (cases_lt 0 n) [ inl lt ↦ absurd (let e = full lt in omega (arith, e, few)) | inr none ↦ omega (arith, none) ]

  -- a portion leaves room for an A-ABORT
  pub piece_fits : (most : ℕ) → kind ≡ Piece → pending ≡ [] → length bytes ≤ most → IsBytes (stream_of (inputs_of named) ++ bytes)
      → ((inputs : List Received) (story : List Happened) (failed : Bool) → Stands served_rooms s inputs story failed seen old → SendsFew served_rooms s inputs story most)
      → HasConsumed s named seen (socket ++ pending) opened old → length pending_new + most_beside_answers < outbox_size
  piece_fits most is none few are portion h =
      let g = grew h in
      let input : input_of kind bytes ≡ Bytes bytes = ap (λ (k : Input). input_of k bytes) is in
      let reported : entries_of g.more ≡ entries (stream_of g.inputs) (Bytes bytes ∷ []) = g.reported ∙ ap (λ (x : Received). entries (stream_of g.inputs) (x ∷ [])) input in
      let sent = portion g.inputs g.story g.failed g.stands bytes g.more few (subst (λ (xs : List Received). IsBytes (stream_of xs ++ bytes)) (sym g.inputs_are) are) reported in
      omega (arith, ap length g.pending_is, length-append pending (sent_of served_rooms s (progress_of served_rooms s at_start g.story) g.more), ap length none, sent)

  -- of an input that has no bytes, an abort alone adds to what waits
  pub silent_adds : IsSilent (input_of kind bytes) → HasConsumed s named seen (socket ++ pending) opened old → length pending_new ≤ length pending
  silent_adds silent h =
      let g = grew h in
      let nothing = silent_sends_nothing served_rooms s (progress_of served_rooms s at_start g.story) (stream_of g.inputs) (input_of kind bytes) g.more silent g.reported in
      omega (arith, ap length g.pending_is, length-append pending (sent_of served_rooms s (progress_of served_rooms s at_start g.story) g.more), ap length nothing)

  pub abort_adds : input_of kind bytes ≡ UserAbort → HasConsumed s named seen (socket ++ pending) opened old → length pending_new ≤ length pending + most_beside_answers
  abort_adds is h =
      let g = grew h in
      let reported : entries_of g.more ≡ entries (stream_of g.inputs) (UserAbort ∷ []) = g.reported ∙ ap (λ (x : Received). entries (stream_of g.inputs) (x ∷ [])) is in
      let sent = aborts_shortly served_rooms s (progress_of served_rooms s at_start g.story) (stream_of g.inputs) g.more reported in
      omega (arith, ap length g.pending_is, length-append pending (sent_of served_rooms s (progress_of served_rooms s at_start g.story) g.more), sent)

  -- what waits still does
  pub still_waits : HasConsumed s named seen (socket ++ pending) opened old → pending ≢ [] → pending_new ≢ []
  still_waits h some none = let g = grew h in some (nothing_before pending (sent_of served_rooms s (progress_of served_rooms s at_start g.story) g.more) (sym g.pending_is ∙ none))
    where
      nothing_before : (xs ys : List ℕ) → xs ++ ys ≡ [] → xs ≡ []
      nothing_before [] ys e = refl
      nothing_before (x ∷ xs) ys e = absurd cc

-- after an input that has no bytes there is room for so many more
pub other_fits : (s : Settings) (named : List (Input × List ℕ)) (kind : Input) (bytes : List ℕ) (seen seen_new : Fields) (socket pending pending_new : List ℕ) (m n : ℕ) (opened old new : Store) (more : ℕ)
    → m ≡ 0 → OnInput s kind bytes seen seen_new (devices (line pending m) old) (devices (line pending_new n) new) → kind ≢ Piece → (kind ≡ LocalAbort → length pending + most_beside_answers + more < outbox_size) → length pending + more < outbox_size
    → HasConsumed s named seen (socket ++ pending) opened old → length pending_new + more < outbox_size
other_fits s named Piece bytes seen seen_new socket pending pending_new m n opened old new more never moved no_piece room few h = absurd (no_piece refl)
other_fits s named Closed bytes seen seen_new socket pending pending_new m n opened old new more never moved no_piece room few h = omega (arith, silent_adds s named Closed bytes seen seen_new socket pending pending_new m n opened old new never moved tt h, few)
other_fits s named Expired bytes seen seen_new socket pending pending_new m n opened old new more never moved no_piece room few h = omega (arith, silent_adds s named Expired bytes seen seen_new socket pending pending_new m n opened old new never moved tt h, few)
other_fits s named LocalAbort bytes seen seen_new socket pending pending_new m n opened old new more never moved no_piece room few h =
    omega (arith, abort_adds s named LocalAbort bytes seen seen_new socket pending pending_new m n opened old new never moved refl h, room refl)

-- ---- what a connection keeps

-- it has consumed these inputs, whose pieces are what was read; no send failed, and there is room for one byte more
pub record Keeps (s : Settings) (named : List (Input × List ℕ)) (seen : Fields) (read socket pending : List ℕ) (failures : ℕ) (opened now : Store) : Type 0 where
  pub never : failures ≡ 0
  pub fits : length pending < outbox_size
  pub whole : stream_of (inputs_of named) ≡ read
  pub consumed : ∥ HasConsumed s named seen (socket ++ pending) opened now ∥₁

pub opens : (s set : Settings) (named : List (Input × List ℕ)) (seen : Fields) (read socket pending : List ℕ) (failures : ℕ) (opened now : Store) → named ≡ [] → read ≡ [] → socket ≡ [] → pending ≡ [] → failures ≡ 0 → opened ≡ now → set ≡ s
    → ((store : Store) → Stands served_rooms s [] [] false seen store) → Keeps set named seen read socket pending failures opened now
opens s set named seen read socket pending failures opened now none unread unsent empty never same settings stands = record {
  never = never;
  fits = omega (arith, ap length empty);
  whole = rw (none, unread) refl;
  consumed = ∣ rw (none, unsent, empty, same, settings) (nothing_consumed s seen now (stands now)) ∣₁;
}

-- over a link of which neither what was written nor what waits has changed
pub same_link : (s : Settings) (named : List (Input × List ℕ)) (seen : Fields) (read : List ℕ) (written written_new : Trace) (outbox outbox_new : Outbox) (opened now : Store) → written_new ≡ written → outbox_new ≡ outbox
    → Keeps s named seen read written.bytes outbox.bytes.items outbox.failures opened now → Keeps s named seen read written_new.bytes outbox_new.bytes.items outbox_new.failures opened now
same_link s named seen read written written_new outbox outbox_new opened now e f h = rw (e, f) h

both_bytes : (xs ys : List ℕ) → IsBytes xs → IsBytes ys → IsBytes (xs ++ ys)
both_bytes [] ys h k i = k i
both_bytes (x ∷ xs) ys h k zero = h zero
both_bytes (x ∷ xs) ys h k (suc i) = both_bytes xs ys (λ j. h (suc j)) k i

pub more_bytes : (read read_new bytes : List ℕ) → read_new ≡ read ++ bytes → IsBytes read → IsBytes bytes → IsBytes read_new
more_bytes read read_new bytes e h k = subst IsBytes (sym e) (both_bytes read bytes h k)

module _ (s set : Settings) (named named_new : List (Input × List ℕ)) (kind : Input) (bytes : List ℕ) (seen seen_new : Fields) (read socket pending pending_new : List ℕ) (m n : ℕ) (opened old new : Store)
    (settings : set ≡ s) (pushed : named_new ≡ named ++ (kind, bytes) ∷ []) (open_still : is_ended seen.kept.state ≡ false) (full : 0 < n → length pending_new ≡ outbox_size)
    (moved : OnInput s kind bytes seen seen_new (devices (line pending m) old) (devices (line pending_new n) new)) (was : Keeps s named seen read socket pending m opened old) where
  keeps_on : length pending_new < outbox_size → (read_new : List ℕ) → stream_of (inputs_of (named ++ (kind, bytes) ∷ [])) ≡ read_new → Keeps set named_new seen_new read_new socket pending_new n opened new
  keeps_on fits read_new whole =
      let none : n ≡ 0 = unfailed s named kind bytes seen seen_new socket pending pending_new m n opened old new was.never moved full fits in
      record {
        never = none;
        fits = fits;
        whole = ap (λ (xs : List (Input × List ℕ)). stream_of (inputs_of xs)) pushed ∙ whole;
        consumed = ∥∥₁_map was.consumed (λ h. rw (pushed, settings) (one_more s named kind bytes seen seen_new socket pending pending_new m n opened old new was.never moved open_still none h));
      }

  pub room_for : (more : ℕ) → kind ≢ Piece → (kind ≡ LocalAbort → length pending + most_beside_answers + more < outbox_size) → length pending + more < outbox_size → length pending_new + more < outbox_size
  room_for more no_piece room few = ∥∥₁_elim was.consumed le_prop (λ h. other_fits s named kind bytes seen seen_new socket pending pending_new m n opened old new more was.never moved no_piece room few h)

  -- room for an A-ABORT, unless this is one and others wait
  pub keeps_spare : kind ≢ Piece → (kind ≡ LocalAbort → pending ≡ []) → length pending + most_beside_answers < outbox_size → length pending_new + most_beside_answers < outbox_size
  keeps_spare no_piece none few = room_for most_beside_answers no_piece (λ is. omega (arith, ap length (none is))) few

  -- with an input that has no bytes
  pub keeps_other : kind ≢ Piece → (kind ≡ LocalAbort → length pending + most_beside_answers < outbox_size) → Keeps set named_new seen_new read socket pending_new n opened new
  keeps_other no_piece room =
      keeps_on (omega (arith, room_for 0 no_piece (λ is. omega (arith, room is)) (omega (arith, was.fits)))) read (still_whole named kind bytes read no_piece was.whole)

  -- the transport's close where the socket has closed
  pub keeps_closed : (unconsumed : List ℕ) (ends refusals : ℕ) → (kind ≡ Closed → ∥ HasClosed unconsumed ends pending refusals ∥₁) → ∥ ClosesWithSocket (inputs_of named_new) unconsumed ends pending_new refusals ∥₁
  keeps_closed unconsumed ends refusals closed = one_more_closes named named_new bytes unconsumed ends pending_new refusals kind pushed
      (λ is. ∥∥₁_elim was.consumed ∥∥₁_prop (λ h. ∥∥₁_map (closed is) (λ k. still_closed unconsumed ends pending pending_new refusals (still_waits s named kind bytes seen seen_new socket pending pending_new m n opened old new was.never moved h) k)))

  -- with a portion of a piece
  pub keeps_piece : (most : ℕ) (read_new : List ℕ) → kind ≡ Piece → pending ≡ [] → length bytes ≤ most → read_new ≡ read ++ bytes → IsBytes read_new → ((inputs : List Received) (story : List Happened) (failed : Bool) → Stands served_rooms s inputs story failed seen old → SendsFew served_rooms s inputs story most)
      → Keeps set named_new seen_new read_new socket pending_new n opened new × (length pending_new + most_beside_answers < outbox_size)
  keeps_piece most read_new is none few grown are portion =
      let all : IsBytes (stream_of (inputs_of named) ++ bytes) = subst (λ (xs : List ℕ). IsBytes (xs ++ bytes)) (sym was.whole) (subst IsBytes grown are) in
      let fits = ∥∥₁_elim was.consumed le_prop (λ h. piece_fits s named kind bytes seen seen_new socket pending pending_new m n opened old new was.never moved most is none few all portion h) in
      (keeps_on (omega (arith, fits)) read_new (subst (λ (k : Input). stream_of (inputs_of (named ++ (k, bytes) ∷ [])) ≡ read_new) (sym is) (whole_more named bytes read was.whole ∙ sym grown)), fits)

-- ---- the end

-- the report of an association that has ended
pub ended_stands : (state : State) (reported : Standing) → reported ≡ standing_of state → is_ended state ≡ true → reported ≡ standing.Ended
ended_stands Sta1 reported e over = e
ended_stands Sta2 reported e over = absurd cc
ended_stands Sta3 reported e over = absurd cc
ended_stands Sta6 reported e over = absurd cc
ended_stands Sta8 reported e over = absurd cc
ended_stands Sta13 reported e over = absurd cc

pub ends : (s : Settings) (named : List (Input × List ℕ)) (seen : Fields) (report : Report) (read unconsumed : List ℕ) (stopped : ℕ) (socket unsent : List ℕ) (refusals : ℕ) (opened old new : Store) → stream_of (inputs_of named) ++ unconsumed ≡ read
    → ClosesWithSocket (inputs_of named) unconsumed stopped unsent refusals → Reports served_rooms s seen old report → new ≡ stepped without_draft false old → HasConsumed s named seen (socket ++ unsent) opened old
    → (served : ExchangedSoFar s report read unconsumed stopped socket unsent refusals opened new) × (served.inputs ≡ inputs_of named)
ends s named seen report read unconsumed stopped socket unsent refusals opened old new e closes reports store h =
    let mid = devices (unfailed_line (socket ++ unsent)) old in
    let last = devices (unfailed_line (socket ++ unsent)) new in
    let r = turns_are_a_run served_rooms s h.turns h.turns (supply_of []) (supply_of named) seen (devices (unfailed_line []) opened) mid last report h.consumes (omega arith) (λ lt. absurd (omega (arith, lt))) reports refl store in
    let a = r.answered in
    let same : inputs_of named ≡ r.consumed = received_same (inputs_of named) r.consumed r.given in (
      record {
        inputs = r.consumed;
        story = a.story;
        failed = a.failed;
        files = a.files;
        state = a.state;
        pieces = ap (λ (xs : List Received). stream_of xs ++ unconsumed) (sym same) ∙ e;
        run = record { story_is = a.run.story_is; sent_is = sent_same (socket ++ unsent) a.sent (ap (λ (l : Line). l.sent) a.line) ∙ a.run.sent_is; files_are = a.run.files_are; state_is = a.run.state_is };
        last = a.last;
        closed = λ before last. closes before (same ∙ last);
        unfailed = omega (arith, ap (λ (l : Line). l.failures) a.line);
        standing = a.standing;
        held = a.held;
        reported = a.reported;
        count = a.count;
        no_draft = r.no_draft;
      },
      sym same,
    )
  where
    received_same : (xs ys : List Received) → Some xs ≡ Some ys → xs ≡ ys
    received_same xs ys e = cc

    sent_same : (xs ys : List ℕ) → Some xs ≡ Some ys → xs ≡ ys
    sent_same xs ys e = cc
