-- What has come of a request and of a message fits the limits, wherever a timeline has led (`story_fits`). Stands on
-- AlongTimelines, FieldsShow, MarksAreDone and the laws of `pdu` and `sequence`.
use Rattle.std.proofs.Common.{◌≡◌, ℕ, ◌+◌, ◌-◌, ◌*◌, ◌≤◌, Bool, true, false, not, ◌&&◌, List, [], ◌∷◌, length, map, Option, Some, None, Result, Ok, Err, refl, sym, ap, subst, ◌∙◌, arith, lit<, nat_eq, nat_le, nat_lt, eqb-true, leb-true, ltb-false, length-append, if◌then◌else◌}
use Rattle.std.proofs.lemmas.Grind.{common_steps}
use Rattle.std.proofs.lemmas.List.{length-map}
use Rattle.std.proofs.lemmas.List.Sums.{count_by-le-length}
use Rattle.acceptor.specs.declared.state.State.{State}
use Rattle.acceptor.specs.declared.state.State.TheVariants.{Sta1, Sta2, Sta3, Sta6, Sta8, Sta13}
use Rattle.acceptor.specs.declared.event.Event.{Event}
use Rattle.acceptor.specs.declared.event.Event.TheVariants as event
use Rattle.acceptor.specs.Table.{table}
use Rattle.element.specs.Numbers.{IsBytes}
use Rattle.pdu.specs.declared.fault.PduFault.{PduFault}
use Rattle.pdu.specs.Heads.{is_command, is_last}
use Rattle.pdu.specs.Items as items
use Rattle.pdu.specs.Marks.{Head, PdvHead, Pdv, BadPdv, Leftover, End}
use Rattle.pdu.specs.Record.{RequestRecord, Proposal}
use Rattle.pdu.specs.Refusal.{request_fault}
use Rattle.pdu.specs.Texts.{reject_text}
use Rattle.pdu.specs.Types.{associate_rq, release_rq, abort}
use Rattle.pdu.proofs.Public.{request_text, request_kept, few_ids}
use Rattle.negotiate.specs.declared.answer.Answer.{Answer}
use Rattle.negotiate.specs.declared.answer.Answer.TheVariants.{Accept, Reject}
use Rattle.negotiate.specs.declared.proposals.Context.{Context}
use Rattle.negotiate.specs.Answer.{judged}
use Rattle.negotiate.specs.ContextRows.{accepted_count}
use Rattle.negotiate.specs.Contexts.{context_of, offered, result_of, seen}
use Rattle.negotiate.specs.Settings.{Settings}
use Rattle.dimse.specs.declared.fault.DimseFault.{DimseFault}
use Rattle.dimse.specs.declared.fault.DimseFault.TheVariants.{CommandTooLong, WrongKind, OtherContext}
use Rattle.dimse.specs.Command.{CommandRecord}
use Rattle.dimse.specs.Messages as messages
use Rattle.dimse.specs.Messages.{Started, NoMessage, InCommand, InSet, Brought, Goes, Ends, Refuses, Message, refusal, if_room, with_command, completed, with_fragment, brought}
use Rattle.dimse.specs.Joining.{unfinished_of}
use Rattle.dimse.specs.Reading.{command_in}
use Rattle.sequence.proofs.Public.{both_bytes}
use Rattle.engine.specs.Heads.{HeadEvent, NoEvent, AtOnce, TooLong, abort_reason, head_event}
use Rattle.engine.specs.Held.{of_command}
use Rattle.decisions.specs.declared.decision.Decision.{Decision}
use Rattle.decisions.specs.declared.decision.Decision.TheVariants as decision
use Rattle.decisions.specs.declared.head_fault.HeadFault.TheVariants as fault
use Rattle.decisions.specs.ValueEnds.{value_end}
use Rattle.engine.specs.Progress.{Progress, Advance, deciding, deciding_unless_ended, absorb, remaining, moved, done, nothing, is_due, is_established}
use Rattle.engine.specs.Reached.{accepts_pdvs}
use Rattle.engine.specs.Replies.{invalid, value_head, command_refused, at_pdv_head, at_pdv, replied}
use Rattle.engine.specs.Requested.{request_record}
use Rattle.engine.specs.Requests.{declined, answered, at_request, keeping}
use Rattle.engine.specs.Run.{Rooms, at_end, at_entry, cut, gives, progress_of, released}
use Rattle.engine.specs.Timeline.{Entry, At, Shut, TimedOut, Aborted, Finding, Happened, entries_of}
use Rattle.engine.specs.machine.PerformsReaction.{is_remaining, Stays}
use Rattle.engine.proofs.AlongTimelines.ContextsAreAccepted.{by_value, by_context, by_head, by_fault}
use Rattle.engine.proofs.FieldsShow.TriedIsDone.{stays_invalid, stays_aborts, stays_closed, stays_expired, stays_abort}
use Rattle.engine.proofs.AlongTimelines.HeadsAreFirst.{Opened, Between, OfPdu, OfPdv, opens_at, IsHeadedAt, AreHeadedAt, open_at_end}
use Rattle.engine.proofs.MarksAreDone.PduHead.{head_stays, head_too_long}
use Rattle.engine.proofs.FieldsShow.AfterAnEvent.{moved_remaining, moved_stays}
use Rattle.engine.proofs.MarksAreDone.RowsFit.{few_rows}
use Rattle.engine.proofs.FieldsShow.KeptInPhases.{never_both}
use Rattle.engine.proofs.FieldsShow.ByState.{established_is, due_is, by_remaining}
use Rattle.negotiate.specs.Allowed.{Allowed}

-- the bytes of a data set that have come
abbrev pub set_of : Started → List ℕ
set_of NoMessage = []
set_of (InCommand context command) = []
set_of (InSet context command set) = set

-- what is kept of the request has room
pub record IsSmall (rooms : Rooms) (r : RequestRecord) : Type 0 where
  pub rows : 32 + 4 * accepted_count r ≤ rooms.request
  pub contexts : accepted_count r ≤ 128

-- what the last mark began has room: the body of a request that is accepted, and the fragment of a value that counts
abbrev pub HasRoom : Rooms → Progress → Opened → Type 0
HasRoom rooms p Between = Unit {0}
HasRoom rooms p (OfPdu kind n) = is_due p.state ≡ true → p.refused ≡ false → nat_eq kind 1 ≡ true → n ≤ rooms.request - 12
HasRoom rooms p (OfPdv n context control) = accepts_pdvs p ≡ true → refusal rooms.command p.message n context control ≡ None

pub record Fits (rooms : Rooms) (p : Progress) (o : Opened) : Type 0 where
  pub command : of_command p.message ≤ rooms.command
  pub bytes : IsBytes (set_of p.message)
  pub agreed : is_established p.state ≡ true → IsSmall rooms (request_record p.request)
  pub room : HasRoom rooms p o

no_bytes : IsBytes []
no_bytes i = lit< tt

-- ---- requests

-- of one that is read: it has more bytes than its rows, and at most 128 contexts
small_request : (rooms : Rooms) (additional : Allowed) (body : List ℕ) → IsBytes body → request_fault body ≡ None → length body ≤ rooms.request - 12
    → IsSmall rooms (offered additional (items.request_record body))
small_request rooms additional body bytes none le =
    let r = items.request_record body in
    let text = request_text body none in
    let kept = request_kept r body bytes text in
    let ids = few_ids _ kept.ids_odd kept.ids_distinct in
    let count = count_by-le-length (λ (p : Proposal). nat_eq (result_of p) 0) (map (seen additional) r.contexts) in
    record {
      rows = omega (arith, few_rows additional r body text, le);
      contexts = omega (arith, count, ids, length-map r.contexts (seen additional), length-map r.contexts (λ (p : Proposal). p.id));
    }

length_fits : (room n : ℕ) (b : Bool) → nat_lt room n ≡ b → (if b then TooLong else (if nat_lt n 68 then AtOnce event.Invalid fault.ShortRequest else NoEvent)) ≡ NoEvent → n ≤ room
length_fits room n true e h = absurd cc
length_fits room n false e h = ltb-false room n e

head_fits : (room most : ℕ) (st : State) (kind n : ℕ) → head_event room most st kind n ≡ NoEvent → is_due st ≡ true → nat_eq kind 1 ≡ true → n ≤ room
head_fits room most Sta2 kind n e due one =
    let k : head_event room most Sta2 1 n ≡ NoEvent = subst (λ (x : ℕ). head_event room most Sta2 x n ≡ NoEvent) (eqb-true kind 1 one) e in
    length_fits room n (nat_lt room n) refl k
head_fits room most Sta1 kind n e due one = absurd cc
head_fits room most Sta3 kind n e due one = absurd cc
head_fits room most Sta6 kind n e due one = absurd cc
head_fits room most Sta8 kind n e due one = absurd cc
head_fits room most Sta13 kind n e due one = absurd cc

-- ---- a value

room_fits : (room size : ℕ) (b : Bool) → nat_le size room ≡ b → (if b then None else Some CommandTooLong) ≡ None → size ≤ room
room_fits room size true e h = leb-true size room e
room_fits room size false e h = absurd cc

command_fits : (room size : ℕ) (command : Bool) → (if command then if_room room size else Some WrongKind) ≡ None → size ≤ room
command_fits room size true h = room_fits room size (nat_le size room) refl h
command_fits room size false h = absurd cc

pub same_context : (b : Bool) (o : Option DimseFault) → (if b then o else Some OtherContext) ≡ None → o ≡ None
same_context b o h = grind (arith, common_steps)

abbrev pub MessageFits : Rooms → Started → Type 0
MessageFits rooms b = (of_command b ≤ rooms.command) × IsBytes (set_of b)

-- a fragment has room whose head was not refused
pub fragment_within : (rooms : Rooms) (b : Started) (n context control : ℕ) (bytes : List ℕ) → refusal rooms.command b (n + 2) context control ≡ None → length bytes ≤ n → IsBytes bytes → MessageFits rooms b
    → MessageFits rooms (with_fragment context bytes b)
fragment_within rooms NoMessage n context control bytes none few h fits = (let le = command_fits rooms.command (n + 2 - 2) (is_command control) none in omega (arith, le, few), no_bytes)
fragment_within rooms (InCommand first command) n context control bytes none few h fits = (
  let le = command_fits rooms.command (length command + (n + 2 - 2)) (is_command control) (same_context (nat_eq context first) _ none) in omega (arith, le, few, length-append command bytes),
  no_bytes,
)
fragment_within rooms (InSet first command set) n context control bytes none few h fits = (fits.0, both_bytes set bytes fits.1 h)

abbrev BroughtFits : Rooms → Brought → Type 0
BroughtFits rooms (Goes later) = MessageFits rooms later
BroughtFits rooms (Ends m) = Unit {0}
BroughtFits rooms (Refuses fault) = Unit {0}

announced_fits : (rooms : Rooms) (id : ℕ) (command : List ℕ) (with_data : Bool) → length command ≤ rooms.command
    → BroughtFits rooms (if with_data then Goes (InSet id command []) else Ends (record { context = id; command = command; set = [] }))
announced_fits rooms id command with_data h = grind (arith, common_steps)

whole_fits : (rooms : Rooms) (id : ℕ) (command : List ℕ) (r : Result CommandRecord DimseFault) → length command ≤ rooms.command → BroughtFits rooms (with_command id command r)
whole_fits rooms id command (Err fault) le = tt
whole_fits rooms id command (Ok c) le = announced_fits rooms id command c.with_data le

row_fits : (rooms : Rooms) (received : Started) (last : Bool) → MessageFits rooms received → BroughtFits rooms (if last then completed received else Goes received)
row_fits rooms received false fits = fits
row_fits rooms NoMessage true fits = fits
row_fits rooms (InCommand id command) true fits = whole_fits rooms id command (command_in command) fits.0
row_fits rooms (InSet id command set) true fits = tt

module _ (rooms : Rooms) where
  -- ---- where nothing that has started counts

  uncounted : (p : Progress) (o : Opened) → is_due p.state ≡ false → accepts_pdvs p ≡ false → HasRoom rooms p o
  uncounted p Between d t = tt
  uncounted p (OfPdu kind n) d t = λ due. absurd (let wrong : true ≡ false = sym due ∙ d in cc)
  uncounted p (OfPdv n context control) d t = λ accepts. absurd (let wrong : true ≡ false = sym accepts ∙ t in cc)

  remaining_due : (st : State) → is_remaining st ≡ true → is_due st ≡ false
  remaining_due = by_remaining (λ (x : State). is_due x ≡ false) refl refl

  remaining_established : (st : State) → is_remaining st ≡ true → is_established st ≡ false
  remaining_established = by_remaining (λ (x : State). is_established x ≡ false) refl refl

  remaining_fits : (st : State) (p : Progress) (o : Opened) → is_remaining st ≡ true → Fits rooms (remaining st p) o
  remaining_fits st p o l = record { command = omega arith; bytes = no_bytes; agreed = λ e. absurd (let wrong : true ≡ false = sym e ∙ remaining_established st l in cc); room = uncounted (remaining st p) o (remaining_due st l) (ap (λ (b : Bool). b && not p.refused) (remaining_established st l)) }

  with_nothing : (p : Progress) (o : Opened) → Fits rooms p o → Fits rooms p Between
  with_nothing p o h = record { command = h.command; bytes = h.bytes; agreed = h.agreed; room = tt }

  -- what is decided needs no room
  decided_fits : (d : Decision) (p : Progress) (o : Opened) → Fits rooms p o → Fits rooms (deciding d p) o
  decided_fits d p Between h = record { command = h.command; bytes = h.bytes; agreed = h.agreed; room = tt }
  decided_fits d p (OfPdu kind n) h = record { command = h.command; bytes = h.bytes; agreed = h.agreed; room = h.room }
  decided_fits d p (OfPdv n context control) h = record { command = h.command; bytes = h.bytes; agreed = h.agreed; room = h.room }

  -- an event that leaves the association or keeps its state
  event_fits : (p : Progress) (o : Opened) (e : Event) → Stays p.state e → Fits rooms p o → Fits rooms (moved (table p.state e).1 p) o
  event_fits p o e stays h = by (is_remaining (table p.state e).1) refl
    where
      by : (l : Bool) → is_remaining (table p.state e).1 ≡ l → Fits rooms (moved (table p.state e).1 p) o
      by true l = subst (λ (q : Progress). Fits rooms q o) (sym (moved_remaining (table p.state e).1 p l)) (remaining_fits (table p.state e).1 p o l)
      by false l = subst (λ (q : Progress). Fits rooms q o) (sym (moved_stays (table p.state e).1 p l ∙ ap (λ (st : State). record p { state = st }) (stays l))) h

  refused_room : (p : Progress) (o : Opened) → HasRoom rooms (record p { refused = true }) o
  refused_room p Between = tt
  refused_room p (OfPdu kind n) = λ due r. absurd cc
  refused_room p (OfPdv n context control) = λ accepts. absurd (let wrong : true ≡ false = sym accepts ∙ never_both (is_established p.state) in cc)

  refused_fits : (p : Progress) (o later : Opened) → Fits rooms p o → Fits rooms (record p { refused = true }) later
  refused_fits p o later h = record { command = h.command; bytes = h.bytes; agreed = h.agreed; room = refused_room p later }

  -- ---- the end of a value

  replied_fits : (p : Progress) (finding : Finding) (m : Message) (r : Result CommandRecord DimseFault) (o : Opened) → Fits rooms p o → Fits rooms (replied p finding m r).next Between
  replied_fits p finding m (Err fault) o h = record { command = omega arith; bytes = no_bytes; agreed = h.agreed; room = tt }
  replied_fits p finding m (Ok command) o h = record { command = omega arith; bytes = no_bytes; agreed = h.agreed; room = tt }

  value_fits : (p : Progress) (finding : Finding) (o : Opened) (pdv : messages.Pdv) (r : Brought) → Fits rooms p o → BroughtFits rooms r → Fits rooms (by_value p finding pdv r).next Between
  value_fits p finding o pdv (Goes later) h k = record { command = k.0; bytes = k.1; agreed = h.agreed; room = tt }
  value_fits p finding o pdv (Ends m) h k = replied_fits p finding m (command_in m.command) o h
  value_fits p finding o pdv (Refuses fault) h k =
      let q = deciding (command_refused p pdv fault) p in
      refused_fits (done [] 0 q event.UserAborts).next Between Between (event_fits q Between event.UserAborts (stays_aborts p.state) (decided_fits q.decided p Between (with_nothing p o h)))

  pdv_fits : (p : Progress) (finding : Finding) (o : Opened) (context control : ℕ) (fragment : List ℕ) → Fits rooms p o → o ≡ OfPdv (length fragment + 2) context control → IsBytes fragment → accepts_pdvs p ≡ true
      → Fits rooms (at_pdv p finding (record { context = context; control = control; fragment = fragment })).next Between
  pdv_fits p finding o context control fragment h is bytes accepts =
      let room : HasRoom rooms p (OfPdv (length fragment + 2) context control) = subst (HasRoom rooms p) is h.room in
      let pdv : messages.Pdv = record { context = context; control = control; fragment = fragment } in
      value_fits p finding o pdv (brought p.message pdv) h
      (row_fits rooms (with_fragment context fragment p.message) (is_last control) (fragment_within rooms p.message (length fragment) context control fragment (room accepts) (omega arith) bytes (h.command, h.bytes)))

  -- ---- heads

  pdv_head_fits : (p : Progress) (o : Opened) (n id control : ℕ) (accepted : Option Context) (refused : Option DimseFault) → refusal rooms.command p.message n id control ≡ refused → Fits rooms p o
      → Fits rooms (by_context p (value_head n id control) refused accepted).next (OfPdv n id control)
  pdv_head_fits p o n id control None refused e h =
      let q = deciding (decision.ContextRefused (value_head n id control)) p in
      refused_fits (done [] 6 q event.Invalid).next Between _ (event_fits q Between event.Invalid (stays_invalid p.state) (decided_fits q.decided p Between (with_nothing p o h)))
  pdv_head_fits p o n id control (Some context) None e h = record { command = h.command; bytes = h.bytes; agreed = h.agreed; room = λ accepts. e }
  pdv_head_fits p o n id control (Some context) (Some fault) e h =
      let q = deciding (decision.FragmentRefused (value_head n id control) fault (unfinished_of p.message)) p in
      refused_fits (done [] 0 q event.UserAborts).next Between _ (event_fits q Between event.UserAborts (stays_aborts p.state) (decided_fits q.decided p Between (with_nothing p o h)))

  invalid_fits : (d : Decision) (p : Progress) (o : Opened) → Fits rooms p o → Fits rooms (invalid (deciding d p)).next Between
  invalid_fits d p o h =
      let q = deciding d p in refused_fits (done [] 6 q event.Invalid).next Between Between (event_fits q Between event.Invalid (stays_invalid p.state) (decided_fits d p Between (with_nothing p o h)))

  pdu_head_fits : (most : ℕ) (p : Progress) (kind n : ℕ) (e : HeadEvent) → head_event (rooms.request - 12) most p.state kind n ≡ e → Fits rooms p Between → Fits rooms (by_head p kind n e).next (OfPdu kind n)
  pdu_head_fits most p kind n NoEvent e h = record { command = h.command; bytes = h.bytes; agreed = h.agreed; room = λ due r one. head_fits (rooms.request - 12) most p.state kind n e due one }
  pdu_head_fits most p kind n (AtOnce ev why) e h =
      let q = deciding_unless_ended (decision.PduRefused (record { kind = kind; length = n }) why) p in
      refused_fits (done [] (abort_reason why) q ev).next Between _ (event_fits q Between ev (head_stays (rooms.request - 12) most p.state kind n ev why e) (decided_fits q.decided p Between h))
  pdu_head_fits most p kind n TooLong e h =
      let stays : Stays p.state event.UnacceptableRq = subst (λ (st : State). Stays st event.UnacceptableRq) (sym (head_too_long (rooms.request - 12) most p.state kind n e)) (λ l. absurd cc) in
      let q = deciding_unless_ended (decision.RequestTooLong n) p in
      refused_fits (done (reject_text 2 3 2) 0 q event.UnacceptableRq).next Between _ (event_fits q Between event.UnacceptableRq stays (decided_fits q.decided p Between h))

  -- ---- a whole PDU

  module _ (s : Settings) (p : Progress) (o : Opened) (h : Fits rooms p o) where
    abbrev asking : State → List ℕ → Answer → Progress
    asking st body a = record (keeping s body (deciding (decision.RequestJudged a) p)) { state = st }

    answered_fits : (body : List ℕ) (a : Answer) → IsSmall rooms (offered s.additional (items.request_record body))
        → Fits rooms (answered s (items.request_record body) (asking Sta2 body a) a).next Between
    answered_fits body Accept small = record { command = h.command; bytes = h.bytes; agreed = λ e. small; room = tt }
    answered_fits body (Reject result source reason) small = by (nat_eq source 2)
      where
        text : List ℕ
        text = reject_text result source reason

        by : (b : Bool) → Fits rooms (if b then done text 0 (asking Sta2 body (Reject result source reason)) event.UnacceptableRq else declined (asking Sta2 body (Reject result source reason)) text).next Between
        by true = remaining_fits Sta13 (asking Sta2 body (Reject result source reason)) Between refl
        by false = remaining_fits Sta13 (record (asking Sta2 body (Reject result source reason)) { state = Sta3 }) Between refl

    request_fits : (body : List ℕ) → is_due p.state ≡ true → IsBytes body → length body ≤ rooms.request - 12 → Fits rooms (at_request s p body).next Between
    request_fits body due bytes le = by (request_fault body) refl
      where
        by : (fault : Option PduFault) → request_fault body ≡ fault → Fits rooms (by_fault s p body fault).next Between
        by None e =
            subst (λ (st : State). Fits rooms (answered s (items.request_record body) (asking st body (judged s (items.request_record body))) (judged s (items.request_record body))).next Between) (sym (due_is p.state due))
            (answered_fits body (judged s (items.request_record body)) (small_request rooms s.additional body bytes e le))
        by (Some f) e = event_fits (deciding (decision.RequestInvalid f) p) Between event.Invalid (stays_invalid p.state) (decided_fits (decision.RequestInvalid f) p Between (with_nothing p o h))

    released_fits : is_established p.state ≡ true → Fits rooms (released (deciding decision.Released p)).next Between
    released_fits e =
        subst (λ (st : State). Fits rooms (released (record (deciding decision.Released p) { state = st })).next Between) (established_is p.state e) (remaining_fits Sta13 (record (deciding decision.Released p) { state = Sta8 }) Between refl)

    both_of : (a b : Bool) → a && b ≡ true → (a ≡ true) × (b ≡ true)
    both_of a b h = grind (arith, common_steps)

    end_fits : (kind : ℕ) (body : List ℕ) → p.refused ≡ false → (nat_eq kind 1 ≡ true → o ≡ OfPdu kind (length body)) → IsBytes body → Fits rooms (at_end s p kind body).next Between
    end_fits kind body r is bytes = by (nat_eq kind abort) (nat_eq kind associate_rq && is_due p.state) (nat_eq kind release_rq && is_established p.state) refl refl
      where
        by : (a b c : Bool) → nat_eq kind associate_rq && is_due p.state ≡ b → nat_eq kind release_rq && is_established p.state ≡ c
            → Fits rooms (if a then done [] 0 (deciding_unless_ended decision.Aborted p) event.Abort else (if b then at_request s p body else (if c then released (deciding decision.Released p) else nothing p))).next Between
        by true b c e f = let q = deciding_unless_ended decision.Aborted p in event_fits q Between event.Abort (stays_abort p.state) (decided_fits q.decided p Between (with_nothing p o h))
        by false true c e f =
            let one = both_of (nat_eq kind associate_rq) (is_due p.state) e in
            let room : HasRoom rooms p (OfPdu kind (length body)) = subst (HasRoom rooms p) (is one.0) h.room in
            request_fits body one.1 bytes (room one.1 r one.0)
        by false false true e f = released_fits (both_of (nat_eq kind release_rq) (is_established p.state) f).1
        by false false false e f = with_nothing p o h

  -- ---- any entry

  -- a mark counts where its PDU was not refused and the association is established
  counted_fits : (p : Progress) (o later : Opened) (refused established : Bool) (g : Advance) → p.refused ≡ refused → is_established p.state ≡ established → Fits rooms p o → (accepts_pdvs p ≡ false → HasRoom rooms p later)
      → (accepts_pdvs p ≡ true → Fits rooms g.next later) → Fits rooms (if refused then nothing p else (if established then g else nothing p)).next later
  counted_fits p o later true established g r e h no_room k = record { command = h.command; bytes = h.bytes; agreed = h.agreed; room = no_room (ap (λ (b : Bool). is_established p.state && not b) r ∙ never_both (is_established p.state)) }
  counted_fits p o later false true g r e h no_room k = k (rw (e, r) refl)
  counted_fits p o later false false g r e h no_room k = record { command = h.command; bytes = h.bytes; agreed = h.agreed; room = no_room (ap (λ (b : Bool). b && not p.refused) e) }

  not_consumed : (p : Progress) (n context control : ℕ) → accepts_pdvs p ≡ false → HasRoom rooms p (OfPdv n context control)
  not_consumed p n context control t = λ accepts. absurd (let wrong : true ≡ false = sym accepts ∙ t in cc)

  entry_fits : (s : Settings) (p : Progress) (finding : Finding) (o : Opened) (x : Entry) → Fits rooms p o → IsHeadedAt IsBytes o x → Fits rooms (at_entry rooms s p finding x).next (opens_at o x)
  entry_fits s p finding o (At (Head kind n)) h k =
      let fresh : Progress = record p { refused = false } in
      pdu_head_fits s.max_pdu fresh kind n (head_event (rooms.request - 12) s.max_pdu fresh.state kind n) refl (record { command = h.command; bytes = h.bytes; agreed = h.agreed; room = tt })
  entry_fits s p finding o (At (PdvHead n context control)) h k =
      counted_fits p o (OfPdv n context control) p.refused (is_established p.state) (at_pdv_head rooms.command p n context control) refl refl h (not_consumed p n context control)
      (λ accepts. pdv_head_fits p o n context control (context_of (request_record p.request) context) (refusal rooms.command p.message n context control) refl h)
  entry_fits s p finding o (At (Pdv context control fragment)) h k =
      counted_fits p o Between p.refused (is_established p.state) (at_pdv p finding (record { context = context; control = control; fragment = fragment })) refl refl h (λ t. tt)
      (λ accepts. pdv_fits p finding o context control fragment h k.0 k.1 accepts)
  entry_fits s p finding o (At BadPdv) h k =
      counted_fits p o Between p.refused (is_established p.state) (invalid (deciding decision.BadPdv p)) refl refl h (λ t. tt) (λ accepts. invalid_fits decision.BadPdv p o h)
  entry_fits s p finding o (At Leftover) h k =
      counted_fits p o Between p.refused (is_established p.state) (invalid (deciding (decision.Leftover (value_end p.decided)) p)) refl refl h (λ t. tt) (λ accepts. invalid_fits (decision.Leftover (value_end p.decided)) p o h)
  entry_fits s p finding o (At (End kind body)) h k = by p.refused refl
    where
      by : (refused : Bool) → p.refused ≡ refused → Fits rooms (if refused then nothing p else at_end s p kind body).next Between
      by true e = with_nothing p o h
      by false e = end_fits s p o h kind body e k.0 k.1
  entry_fits s p finding o Shut h k = event_fits p o event.Closed (stays_closed p.state) h
  entry_fits s p finding o TimedOut h k = event_fits p o event.Expired (stays_expired p.state) h
  entry_fits s p finding o Aborted h k = event_fits p o event.UserAborts (stays_aborts p.state) h

  pub absorbed_fits : (failed : Bool) (p : Progress) (o : Opened) → Fits rooms p o → Fits rooms (absorb failed p) o
  absorbed_fits failed p Between h = record { command = h.command; bytes = h.bytes; agreed = h.agreed; room = tt }
  absorbed_fits failed p (OfPdu kind n) h = record { command = h.command; bytes = h.bytes; agreed = h.agreed; room = h.room }
  absorbed_fits failed p (OfPdv n context control) h = record { command = h.command; bytes = h.bytes; agreed = h.agreed; room = h.room }

  cut_fits : (wire : Option ℕ) (p : Progress) (g : Advance) (o : Opened) → Fits rooms g.next o → Fits rooms (cut wire p g).next o
  cut_fits None p g o h = h
  cut_fits (Some k) p g o h = remaining_fits Sta1 (deciding g.next.decided p) o refl

  gives_fits : (s : Settings) (p : Progress) (o : Opened) (h : Happened) → Fits rooms p o → IsHeadedAt IsBytes o h.0 → Fits rooms (gives rooms s p h).next (opens_at o h.0)
  gives_fits s p o h fits k = cut_fits h.1.wire p _ (opens_at o h.0) (entry_fits s (absorb h.1.filing p) h.1.finding o h.0 (absorbed_fits h.1.filing p o fits) k)

  -- so it does along a story, whatever its outcomes
  pub story_fits : (s : Settings) (p : Progress) (o : Opened) (story : List Happened) → Fits rooms p o → AreHeadedAt IsBytes o (entries_of story) → Fits rooms (progress_of rooms s p story) (open_at_end o (entries_of story))
  story_fits s p o [] h k = h
  story_fits s p o (x ∷ story) h k = story_fits s (gives rooms s p x).next (opens_at o x.0) story (gives_fits s p o x h k.0) k.1
