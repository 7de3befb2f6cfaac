-- Each message that ends has come in an accepted presentation context (`story_accepted`): the head of each of its values was
-- judged first. Stands on HeadsAreFirst, FieldsShow and MarksAreDone/PduHead.
use Rattle.std.proofs.Common.{◌≡◌, ℕ, ◌+◌, ◌-◌, Bool, true, false, not, ◌&&◌, List, [], ◌∷◌, ◌++◌, length, Option, Some, None, Result, Ok, Err, refl, sym, ap, subst, ◌∙◌, nat_eq, if◌then◌else◌, arith}
use Rattle.std.proofs.lemmas.Grind.{common_steps}
use Rattle.pdu.specs.Heads.{is_last}
use Rattle.acceptor.specs.declared.state.State.{State}
use Rattle.acceptor.specs.declared.state.State.TheVariants.{Sta1, Sta6}
use Rattle.acceptor.specs.declared.event.Event.{Event}
use Rattle.acceptor.specs.declared.event.Event.TheVariants as event
use Rattle.acceptor.specs.Table.{table}
use Rattle.pdu.specs.Types.{associate_rq, release_rq, abort}
use Rattle.pdu.specs.Texts.{reject_text}
use Rattle.pdu.specs.Items as items
use Rattle.pdu.specs.declared.fault.PduFault.{PduFault}
use Rattle.pdu.specs.Refusal.{request_fault}
use Rattle.pdu.specs.Record.{RequestRecord}
use Rattle.pdu.specs.Marks.{Head, PdvHead, Pdv, BadPdv, Leftover, End}
use Rattle.negotiate.specs.declared.proposals.Context.{Context}
use Rattle.negotiate.specs.declared.answer.Answer.{Answer}
use Rattle.negotiate.specs.declared.answer.Answer.TheVariants.{Accept, Reject}
use Rattle.negotiate.specs.Contexts.{context_of}
use Rattle.negotiate.specs.Settings.{Settings}
use Rattle.negotiate.specs.Accept.{accept_text}
use Rattle.negotiate.specs.Answer.{judged}
use Rattle.dimse.specs.declared.fault.DimseFault.{DimseFault}
use Rattle.dimse.specs.Command.{CommandRecord}
use Rattle.dimse.specs.Reading.{command_in}
use Rattle.dimse.specs.Messages as messages
use Rattle.dimse.specs.Messages.{Message, Started, NoMessage, InCommand, InSet, Brought, Goes, Ends, Refuses, refusal, with_command, completed, with_fragment, message_by, brought}
use Rattle.dimse.specs.Joining.{unfinished_of}
use Rattle.engine.specs.Inputs.{Received}
use Rattle.engine.specs.Timeline.{Entry, At, Shut, TimedOut, Aborted, Finding, Outcome, Happened, entries, entries_of}
use Rattle.decisions.specs.declared.decision.Decision.{Decision}
use Rattle.decisions.specs.declared.decision.Decision.TheVariants as decision
use Rattle.decisions.specs.ValueEnds.{value_end}
use Rattle.pdu.specs.declared.head.PdvHead as declared
use Rattle.engine.specs.Progress.{Progress, Advance, at_start, deciding, deciding_unless_ended, absorb, remaining, moved, done, refusing, nothing, is_due, is_established}
use Rattle.engine.specs.Heads.{HeadEvent, NoEvent, AtOnce, TooLong, abort_reason, head_event}
use Rattle.engine.specs.Requested.{Requested, request_record}
use Rattle.engine.specs.Requests.{answered, keeping, judged_so, at_request}
use Rattle.engine.specs.Replies.{invalid, user_aborts, value_head, aborted_if_refused, command_refused, at_pdv_head, at_pdv, replied, going_on}
use Rattle.engine.specs.Run.{Rooms, at_entry, at_end, cut, gives, released}
use Rattle.engine.specs.Fair.{message_at}
use Rattle.engine.specs.Reached.{accepts_pdvs}
use Rattle.engine.specs.machine.PerformsReaction.{is_remaining, Stays}
use Rattle.engine.proofs.FieldsShow.AfterAnEvent.{moved_remaining, moved_stays}
use Rattle.engine.proofs.AlongTimelines.HeadsAreFirst.{Opened, Between, OfPdu, OfPdv, opens_at, IsHeadedAt, AreHeadedAt, timeline_headed}
use Rattle.engine.proofs.MarksAreDone.PduHead.{head_stays, head_too_long}
use Rattle.engine.proofs.FieldsShow.TriedIsDone.{stays_invalid, stays_aborts, stays_closed, stays_expired, stays_abort}
use Rattle.engine.proofs.FieldsShow.KeptInPhases.{never_both}
use Rattle.engine.proofs.FieldsShow.ByState.{established_is, by_remaining}

-- ---- what is known of the contexts of a message and of a value that has started

abbrev IsKnown : Requested → ℕ → Type 0
IsKnown request id = (context : Context) × (context_of (request_record request) id ≡ Some context)

abbrev MessageKnown : Requested → Started → Type 0
MessageKnown request NoMessage = Unit {0}
MessageKnown request (InCommand id command) = IsKnown request id
MessageKnown request (InSet id command set) = IsKnown request id

abbrev HeadKnown : Progress → Opened → Type 0
HeadKnown p Between = Unit {0}
HeadKnown p (OfPdu kind n) = Unit {0}
HeadKnown p (OfPdv n id control) = accepts_pdvs p ≡ true → IsKnown p.request id

record Sound (p : Progress) (o : Opened) : Type 0 where
  message : MessageKnown p.request p.message
  quiet : is_due p.state ≡ true → p.message ≡ NoMessage
  head : HeadKnown p o

-- where no message is open
quiet_sound : (p : Progress) → p.message ≡ NoMessage → Sound p Between
quiet_sound p e = record { message = subst (MessageKnown p.request) (sym e) tt; quiet = λ _. e; head = tt }

without_head : (p : Progress) (o : Opened) → Sound p o → Sound p Between
without_head p o h = record { message = h.message; quiet = h.quiet; head = tt }

-- what is decided does not count
decided_sound : (d : Decision) (p : Progress) (o : Opened) → Sound p o → Sound (deciding d p) o
decided_sound d p Between h = record { message = h.message; quiet = h.quiet; head = tt }
decided_sound d p (OfPdu kind n) h = record { message = h.message; quiet = h.quiet; head = tt }
decided_sound d p (OfPdv n id control) h = record { message = h.message; quiet = h.quiet; head = h.head }

-- where the values of the PDU don't count
uncounted_head : (p : Progress) (o : Opened) → accepts_pdvs p ≡ false → HeadKnown p o
uncounted_head p Between e = tt
uncounted_head p (OfPdu kind n) e = tt
uncounted_head p (OfPdv n id control) e = λ t. absurd (let wrong : true ≡ false = sym t ∙ e in cc)

remaining_uncounted : (st : State) (p : Progress) → is_remaining st ≡ true → accepts_pdvs (remaining st p) ≡ false
remaining_uncounted st p l = by_remaining (λ (x : State). accepts_pdvs (remaining x p) ≡ false) refl refl st l

remaining_sound : (st : State) (p : Progress) (o : Opened) → is_remaining st ≡ true → Sound (remaining st p) o
remaining_sound st p o l = record { message = tt; quiet = λ _. refl; head = uncounted_head (remaining st p) o (remaining_uncounted st p l) }

-- an event that leaves the association or keeps its state
event_sound : (p : Progress) (o : Opened) (e : Event) → Stays p.state e → Sound p o → Sound (moved (table p.state e).1 p) o
event_sound p o e stays h = by (is_remaining (table p.state e).1) refl
  where
    by : (l : Bool) → is_remaining (table p.state e).1 ≡ l → Sound (moved (table p.state e).1 p) o
    by true l = subst (λ (q : Progress). Sound q o) (sym (moved_remaining (table p.state e).1 p l)) (remaining_sound (table p.state e).1 p o l)
    by false l = subst (λ (q : Progress). Sound q o) (sym (moved_stays (table p.state e).1 p l ∙ ap (λ (st : State). record p { state = st }) (stays l))) h

refused_sound : (p : Progress) (o later : Opened) → Sound p o → Sound (record p { refused = true }) later
refused_sound p o later h = record { message = h.message; quiet = h.quiet; head = uncounted_head (record p { refused = true }) later (never_both (is_established p.state)) }

not_due : (st : State) → is_established st ≡ true → is_due st ≡ true → ⊥
not_due st e d = let wrong : is_due Sta6 ≡ true = ap is_due (established_is st e) ∙ d in absurd cc

-- ---- what a value brings

abbrev BroughtKnown : Requested → Brought → Type 0
BroughtKnown request (Goes later) = MessageKnown request later
BroughtKnown request (Ends m) = IsKnown request m.context
BroughtKnown request (Refuses fault) = Unit {0}

announced_known : (request : Requested) (id : ℕ) (command : List ℕ) (with_data : Bool) → IsKnown request id
    → BroughtKnown request (if with_data then Goes (InSet id command []) else Ends (record { context = id; command = command; set = [] }))
announced_known request id command with_data h = grind (arith, common_steps)

command_known : (request : Requested) (id : ℕ) (command : List ℕ) (r : Result CommandRecord DimseFault) → IsKnown request id → BroughtKnown request (with_command id command r)
command_known request id command (Err fault) h = tt
command_known request id command (Ok c) h = announced_known request id command c.with_data h

received_known : (request : Requested) (b : Started) (id : ℕ) (bytes : List ℕ) → MessageKnown request b → IsKnown request id → MessageKnown request (with_fragment id bytes b)
received_known request b id bytes h k = grind (arith, common_steps)

row_known : (request : Requested) (received : Started) (last : Bool) → MessageKnown request received → BroughtKnown request (if last then completed received else Goes received)
row_known request received false m = m
row_known request NoMessage true m = m
row_known request (InCommand id command) true m = command_known request id command (command_in command) m
row_known request (InSet id command set) true m = m

message_known : (request : Requested) (r : Brought) (m : Message) → message_by r ≡ Some m → BroughtKnown request r → IsKnown request m.context
message_known request (Goes later) m e h = absurd cc
message_known request (Ends whole) m e h = let same : whole ≡ m = cc in subst (λ (x : Message). IsKnown request x.context) same h
message_known request (Refuses fault) m e h = absurd cc

replied_quiet : (p : Progress) (finding : Finding) (m : Message) (r : Result CommandRecord DimseFault) → (replied p finding m r).next.message ≡ NoMessage
replied_quiet p finding m r = grind (arith, common_steps)

-- ---- one entry

abbrev pub by_value : Progress → Finding → messages.Pdv → Brought → Advance
by_value p finding pdv r = elim r [
  | Goes started ↦ nothing (going_on started p)
  | Ends m ↦ replied p finding m (command_in m.command)
  | Refuses fault ↦ user_aborts (deciding (command_refused p pdv fault) p)
]

abbrev pub by_context : Progress → declared.PdvHead → Option DimseFault → Option Context → Advance
by_context p head refused accepted = elim accepted [
  | None ↦ invalid (deciding (decision.ContextRefused head) p)
  | Some context ↦ aborted_if_refused head refused p
]

abbrev pub by_head : Progress → (kind n : ℕ) → HeadEvent → Advance
by_head p kind n e = elim e [
  | NoEvent ↦ nothing (deciding_unless_ended decision.Nothing p)
  | AtOnce ev fault ↦ refusing (done [] (abort_reason fault) (deciding_unless_ended (decision.PduRefused (record { kind = kind; length = n }) fault) p) ev)
  | TooLong ↦ refusing (done (reject_text 2 3 2) 0 (deciding_unless_ended (decision.RequestTooLong n) p) event.UnacceptableRq)
]

module _ (p : Progress) (finding : Finding) (context control : ℕ) (fragment : List ℕ) where
  pdv_sound : (o : Opened) (r : Brought) → Sound p o → is_established p.state ≡ true → BroughtKnown p.request r
      → Sound (by_value p finding (record { context = context; control = control; fragment = fragment }) r).next Between
  pdv_sound o (Goes later) h e k = record { message = k; quiet = λ d. absurd (not_due p.state e d); head = tt }
  pdv_sound o (Ends m) h e k = quiet_sound (replied p finding m (command_in m.command)).next (replied_quiet p finding m (command_in m.command))
  pdv_sound o (Refuses fault) h e k =
      let q = deciding (command_refused p (record { context = context; control = control; fragment = fragment }) fault) p in
      refused_sound (done [] 0 q event.UserAborts).next Between Between (event_sound q Between event.UserAborts (stays_aborts p.state) (decided_sound q.decided p Between (without_head p o h)))

pdv_head_sound : (p : Progress) (o : Opened) (n id control : ℕ) (accepted : Option Context) (refused : Option DimseFault) → context_of (request_record p.request) id ≡ accepted → Sound p o
    → Sound (by_context p (value_head n id control) refused accepted).next (OfPdv n id control)
pdv_head_sound p o n id control None refused e h =
    let q = deciding (decision.ContextRefused (value_head n id control)) p in
    refused_sound (done [] 6 q event.Invalid).next Between _ (event_sound q Between event.Invalid (stays_invalid p.state) (decided_sound q.decided p Between (without_head p o h)))
pdv_head_sound p o n id control (Some context) None e h = record { message = h.message; quiet = h.quiet; head = λ t. (context, e) }
pdv_head_sound p o n id control (Some context) (Some fault) e h =
    let q = deciding (decision.FragmentRefused (value_head n id control) fault (unfinished_of p.message)) p in
    refused_sound (done [] 0 q event.UserAborts).next Between _ (event_sound q Between event.UserAborts (stays_aborts p.state) (decided_sound q.decided p Between (without_head p o h)))

invalid_sound : (d : Decision) (p : Progress) (o : Opened) → Sound p o → Sound (invalid (deciding d p)).next Between
invalid_sound d p o h =
    let q = deciding d p in refused_sound (done [] 6 q event.Invalid).next Between Between (event_sound q Between event.Invalid (stays_invalid p.state) (decided_sound d p Between (without_head p o h)))

-- the head of a PDU
head_sound : (room most : ℕ) (p : Progress) (kind n : ℕ) (e : HeadEvent) → head_event room most p.state kind n ≡ e → Sound p Between
    → Sound (by_head p kind n e).next (OfPdu kind n)
head_sound room most p kind n NoEvent e h = record { message = h.message; quiet = h.quiet; head = tt }
head_sound room most p kind n (AtOnce ev fault) e h =
    let q = deciding_unless_ended (decision.PduRefused (record { kind = kind; length = n }) fault) p in
    refused_sound (done [] (abort_reason fault) q ev).next Between _ (event_sound q Between ev (head_stays room most p.state kind n ev fault e) (decided_sound q.decided p Between h))
head_sound room most p kind n TooLong e h =
    let stays : Stays p.state event.UnacceptableRq = subst (λ (st : State). Stays st event.UnacceptableRq) (sym (head_too_long room most p.state kind n e)) (λ l. absurd cc) in
    let q = deciding_unless_ended (decision.RequestTooLong n) p in
    refused_sound (done (reject_text 2 3 2) 0 q event.UnacceptableRq).next Between _ (event_sound q Between event.UnacceptableRq stays (decided_sound q.decided p Between h))

-- ---- a whole PDU

moved_quiet : (st : State) (p : Progress) → p.message ≡ NoMessage → (moved st p).message ≡ NoMessage
moved_quiet st p h = grind (arith, common_steps)

done_quiet : (answer : List ℕ) (reason : ℕ) (p : Progress) (e : Event) → p.message ≡ NoMessage → (done answer reason p e).next.message ≡ NoMessage
done_quiet answer reason p e q = moved_quiet (table p.state e).1 p q

twice_quiet : (answer : List ℕ) (p : Progress) (a b : Event) → p.message ≡ NoMessage → (done answer 0 (done [] 0 p a).next b).next.message ≡ NoMessage
twice_quiet answer p a b q = done_quiet answer 0 (done [] 0 p a).next b (done_quiet [] 0 p a q)

rejected_quiet : (by_acse : Bool) (p : Progress) (text : List ℕ) → p.message ≡ NoMessage
    → (if by_acse then done text 0 p event.UnacceptableRq else record { next = (done text 0 (done [] 0 p event.AcceptableRq).next event.UserRefuses).next; sent = (done [] 0 p event.AcceptableRq).sent ++ (done text 0 (done [] 0 p event.AcceptableRq).next event.UserRefuses).sent; files = [] }).next.message ≡ NoMessage
rejected_quiet true p text q = done_quiet text 0 p event.UnacceptableRq q
rejected_quiet false p text q = twice_quiet text p event.AcceptableRq event.UserRefuses q

answered_quiet : (s : Settings) (r : RequestRecord) (p : Progress) (a : Answer) → p.message ≡ NoMessage → (answered s r p a).next.message ≡ NoMessage
answered_quiet s r p Accept q = twice_quiet (accept_text s r) p event.AcceptableRq event.UserAccepts q
answered_quiet s r p (Reject result source reason) q = rejected_quiet (nat_eq source 2) p (reject_text result source reason) q

abbrev pub by_fault : Settings → Progress → List ℕ → Option PduFault → Advance
by_fault s p body fault = elim fault [
  | Some f ↦ done [] 6 (deciding (decision.RequestInvalid f) p) event.Invalid
  | None ↦ judged_so s body p (judged s (items.request_record body))
]

request_quiet : (s : Settings) (p : Progress) (body : List ℕ) → p.message ≡ NoMessage → (at_request s p body).next.message ≡ NoMessage
request_quiet s p body q = by (request_fault body)
  where
    by : (fault : Option PduFault) → (by_fault s p body fault).next.message ≡ NoMessage
    by None = answered_quiet s (items.request_record body) (keeping s body (deciding (decision.RequestJudged (judged s (items.request_record body))) p)) (judged s (items.request_record body)) q
    by (Some f) = done_quiet [] 6 (deciding (decision.RequestInvalid f) p) event.Invalid q

released_quiet : (p : Progress) → is_established p.state ≡ true → (released p).next.message ≡ NoMessage
released_quiet p e =
    subst (λ (st : State). (moved (table (moved (table st event.ReleaseRq).1 p).state event.UserReleases).1 (moved (table st event.ReleaseRq).1 p)).message ≡ NoMessage) (established_is p.state e) refl

end_sound : (s : Settings) (p : Progress) (o : Opened) (body : List ℕ) (aborts request release : Bool) → Sound p o
    → Sound (if aborts then done [] 0 (deciding_unless_ended decision.Aborted p) event.Abort
    else (if request && is_due p.state then at_request s p body else (if release && is_established p.state then released (deciding decision.Released p) else nothing p))).next Between
end_sound s p o body true request release h = let q = deciding_unless_ended decision.Aborted p in event_sound q Between event.Abort (stays_abort p.state) (decided_sound q.decided p Between (without_head p o h))
end_sound s p o body false request release h = by (request && is_due p.state) (release && is_established p.state) refl refl
  where
    second : (a b : Bool) → a && b ≡ true → b ≡ true
    second a b h = grind (arith, common_steps)

    by : (a b : Bool) → request && is_due p.state ≡ a → release && is_established p.state ≡ b → Sound (if a then at_request s p body else (if b then released (deciding decision.Released p) else nothing p)).next Between
    by true b e f = quiet_sound (at_request s p body).next (request_quiet s p body (h.quiet (second request (is_due p.state) e)))
    by false true e f = quiet_sound (released (deciding decision.Released p)).next (released_quiet (deciding decision.Released p) (second release (is_established p.state) f))
    by false false e f = without_head p o h

-- ---- any entry

-- whatever bytes come
abbrev Any : List ℕ → Type 0
Any bytes = Unit {0}

-- a mark counts where its PDU was not refused and the association is established
counts : (p : Progress) (o later : Opened) (refused established : Bool) (g : Advance) → p.refused ≡ refused → is_established p.state ≡ established → Sound p o
    → (is_established p.state ≡ true → p.refused ≡ false → Sound g.next later) → Sound (if refused then nothing p else (if established then g else nothing p)).next later
counts p o later true established g r e h k = record { message = h.message; quiet = h.quiet; head = uncounted_head p later (ap (λ (b : Bool). is_established p.state && not b) r ∙ never_both (is_established p.state)) }
counts p o later false true g r e h k = k e r
counts p o later false false g r e h k = record { message = h.message; quiet = h.quiet; head = uncounted_head p later (ap (λ (b : Bool). b && not p.refused) e) }

head_is_known : (p : Progress) (o : Opened) (n id control : ℕ) → HeadKnown p o → o ≡ OfPdv n id control → is_established p.state ≡ true → p.refused ≡ false → IsKnown p.request id
head_is_known p o n id control h is e r = let k : HeadKnown p (OfPdv n id control) = subst (HeadKnown p) is h in k (rw (e, r) refl)

-- ---- the message that an entry ends

-- it was received in an accepted context
abbrev pub IsAccepted : Progress → Happened → Type 0
IsAccepted p h = (m : Message) → message_at p h.0 ≡ Some m → (context : Context) × (context_of (request_record p.request) m.context ≡ Some context)

abbrev pub AreAccepted : Rooms → Settings → Progress → List Happened → Type 0
AreAccepted rooms s p [] = Unit {0}
AreAccepted rooms s p (h ∷ story) = IsAccepted p h × AreAccepted rooms s (gives rooms s p h).next story

module _ (rooms : Rooms) (s : Settings) where
  entry_sound : (p : Progress) (finding : Finding) (o : Opened) (x : Entry) → Sound p o → IsHeadedAt Any o x → Sound (at_entry rooms s p finding x).next (opens_at o x)
  entry_sound p finding o (At (Head kind n)) h k =
      let fresh : Progress = record p { refused = false } in
      head_sound (rooms.request - 12) s.max_pdu fresh kind n (head_event (rooms.request - 12) s.max_pdu fresh.state kind n) refl (record { message = h.message; quiet = h.quiet; head = tt })
  entry_sound p finding o (At (PdvHead n context control)) h k =
      counts p o (OfPdv n context control) p.refused (is_established p.state) (at_pdv_head rooms.command p n context control) refl refl h
      (λ e r. pdv_head_sound p o n context control (context_of (request_record p.request) context) (refusal rooms.command p.message n context control) refl h)
  entry_sound p finding o (At (Pdv context control fragment)) h k =
      let pdv : messages.Pdv = record { context = context; control = control; fragment = fragment } in
      counts p o Between p.refused (is_established p.state) (at_pdv p finding pdv) refl refl h
      (λ e r. pdv_sound p finding context control fragment o (brought p.message pdv) h e (row_known p.request _ (is_last control) (received_known p.request p.message context fragment h.message (head_is_known p o (length fragment + 2) context control h.head k.0 e r))))
  entry_sound p finding o (At BadPdv) h k = counts p o Between p.refused (is_established p.state) (invalid (deciding decision.BadPdv p)) refl refl h (λ e r. invalid_sound decision.BadPdv p o h)
  entry_sound p finding o (At Leftover) h k = counts p o Between p.refused (is_established p.state) (invalid (deciding (decision.Leftover (value_end p.decided)) p)) refl refl h (λ e r. invalid_sound (decision.Leftover (value_end p.decided)) p o h)
  entry_sound p finding o (At (End kind body)) h k = by p.refused
    where
      by : (refused : Bool) → Sound (if refused then nothing p else at_end s p kind body).next Between
      by true = without_head p o h
      by false = end_sound s p o body (nat_eq kind abort) (nat_eq kind associate_rq) (nat_eq kind release_rq) h
  entry_sound p finding o Shut h k = event_sound p o event.Closed (stays_closed p.state) h
  entry_sound p finding o TimedOut h k = event_sound p o event.Expired (stays_expired p.state) h
  entry_sound p finding o Aborted h k = event_sound p o event.UserAborts (stays_aborts p.state) h

  absorbed_sound : (failed : Bool) (p : Progress) (o : Opened) → Sound p o → Sound (absorb failed p) o
  absorbed_sound failed p Between h = record { message = h.message; quiet = h.quiet; head = tt }
  absorbed_sound failed p (OfPdu kind n) h = record { message = h.message; quiet = h.quiet; head = tt }
  absorbed_sound failed p (OfPdv n id control) h = record { message = h.message; quiet = h.quiet; head = h.head }

  cut_sound : (wire : Option ℕ) (p : Progress) (g : Advance) (o : Opened) → Sound g.next o → Sound (cut wire p g).next o
  cut_sound None p g o h = h
  cut_sound (Some k) p g o h = remaining_sound Sta1 (deciding g.next.decided p) o refl

  gives_sound : (p : Progress) (o : Opened) (h : Happened) → Sound p o → IsHeadedAt Any o h.0 → Sound (gives rooms s p h).next (opens_at o h.0)
  gives_sound p o h sound k = cut_sound h.1.wire p _ (opens_at o h.0) (entry_sound (absorb h.1.filing p) h.1.finding o h.0 (absorbed_sound h.1.filing p o sound) k)

  -- ---- the message that an entry ends

  pdv_accepted : (p : Progress) (o : Opened) (context control : ℕ) (fragment : List ℕ) → Sound p o → o ≡ OfPdv (length fragment + 2) context control → (established refused : Bool) → is_established p.state ≡ established → p.refused ≡ refused
      → (m : Message) → (if established && not refused then message_by (brought p.message (record { context = context; control = control; fragment = fragment })) else None) ≡ Some m → IsKnown p.request m.context
  pdv_accepted p o context control fragment h is true false e r m ends =
      message_known p.request (brought p.message (record { context = context; control = control; fragment = fragment })) m ends (row_known p.request _ (is_last control) (received_known p.request p.message context fragment h.message (head_is_known p o (length fragment + 2) context control h.head is e r)))
  pdv_accepted p o context control fragment h is true true e r m ends = absurd cc
  pdv_accepted p o context control fragment h is false refused e r m ends = absurd cc

  one_accepted : (p : Progress) (o : Opened) (x : Entry) (outcome : Outcome) → Sound p o → IsHeadedAt Any o x → IsAccepted p (x, outcome)
  one_accepted p o (At (Pdv context control fragment)) outcome h k = λ m ends. pdv_accepted p o context control fragment h k.0 (is_established p.state) p.refused refl refl m ends
  one_accepted p o (At (Head kind n)) outcome h k = λ m ends. absurd cc
  one_accepted p o (At (PdvHead n context control)) outcome h k = λ m ends. absurd cc
  one_accepted p o (At BadPdv) outcome h k = λ m ends. absurd cc
  one_accepted p o (At Leftover) outcome h k = λ m ends. absurd cc
  one_accepted p o (At (End kind body)) outcome h k = λ m ends. absurd cc
  one_accepted p o Shut outcome h k = λ m ends. absurd cc
  one_accepted p o TimedOut outcome h k = λ m ends. absurd cc
  one_accepted p o Aborted outcome h k = λ m ends. absurd cc

  all_accepted : (p : Progress) (o : Opened) (story : List Happened) → Sound p o → AreHeadedAt Any o (entries_of story) → AreAccepted rooms s p story
  all_accepted p o [] h k = tt
  all_accepted p o ((x, outcome) ∷ story) h k =
      (one_accepted p o x outcome h k.0, all_accepted (gives rooms s p (x, outcome)).next (opens_at o x) story (gives_sound p o (x, outcome) h k.0) k.1)

  -- the messages of a story are in accepted contexts
  pub story_accepted : (inputs : List Received) (story : List Happened) → entries_of story ≡ entries [] inputs → AreAccepted rooms s at_start story
  story_accepted inputs story reported =
      all_accepted at_start Between story (record { message = tt; quiet = λ _. refl; head = tt })
      (subst (AreHeadedAt Any Between) (sym reported) (timeline_headed Any (record { accepts = λ n xs h. tt; drops = λ n xs h. tt }) inputs tt))
