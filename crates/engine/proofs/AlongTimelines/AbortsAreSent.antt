-- An association that decides to abort sends an A-ABORT (`entries_abort`), also last of several entries (`stories_abort`):
-- inputs are read in no state in which it sends none. Stands on ContextsAreAccepted,
-- NothingAfterTheEnd and MarksAreDone/PduHead.
use Rattle.std.proofs.Common.{◌≡◌, ◌⊎◌, ◌&&◌, ℕ, ◌-◌, Bool, true, false, List, [], ◌∷◌, ◌++◌, Option, Some, None, Result, Ok, Err, nat_eq, if◌then◌else◌, refl, sym, ap, subst, ◌∙◌, append_assoc, arith, inl, inr}
use Rattle.std.proofs.lemmas.Grind.{common_steps}
use Rattle.std.proofs.lemmas.List.{append-nil}
use Rattle.acceptor.specs.declared.state.State.{State}
use Rattle.acceptor.specs.declared.state.State.TheVariants.{Sta1, Sta2, Sta3, Sta6, Sta8, Sta13}
use Rattle.acceptor.specs.declared.action.Action.{Action}
use Rattle.acceptor.specs.declared.action.Action.TheVariants.{Aa1}
use Rattle.acceptor.specs.declared.event.Event.{Event}
use Rattle.acceptor.specs.declared.event.Event.TheVariants as event
use Rattle.acceptor.specs.declared.effect.Sending.TheVariants as sends
use Rattle.acceptor.specs.Effect.{sending, bytes_sent}
use Rattle.acceptor.specs.Table.{table}
use Rattle.pdu.specs.declared.fault.PduFault.{PduFault}
use Rattle.pdu.specs.Marks.{Mark, Head, PdvHead, Pdv, BadPdv, Leftover, End}
use Rattle.pdu.specs.Record.{RequestRecord}
use Rattle.pdu.specs.Items.{request_record}
use Rattle.pdu.specs.Refusal.{request_fault}
use Rattle.pdu.specs.Texts.{release_text, abort_text, reject_text}
use Rattle.pdu.specs.declared.head.PdvHead as declared
use Rattle.negotiate.specs.declared.answer.Answer.{Answer}
use Rattle.negotiate.specs.declared.answer.Answer.TheVariants.{Accept, Reject}
use Rattle.negotiate.specs.declared.proposals.Context.{Context}
use Rattle.negotiate.specs.Accept.{accept_text}
use Rattle.negotiate.specs.Answer.{judged}
use Rattle.negotiate.specs.Contexts.{context_of}
use Rattle.negotiate.specs.Settings.{Settings}
use Rattle.dimse.specs.declared.fault.DimseFault.{DimseFault}
use Rattle.dimse.specs.declared.joined.Joined.{Joined}
use Rattle.dimse.specs.Command.{CommandRecord}
use Rattle.dimse.specs.Joining.{continues, unfinished_of}
use Rattle.dimse.specs.Messages as messages
use Rattle.dimse.specs.Messages.{Message, Brought, Goes, Ends, Refuses, brought, refusal}
use Rattle.dimse.specs.Reading.{command_in}
use Rattle.decisions.specs.declared.decision.Decision.{Decision}
use Rattle.decisions.specs.declared.decision.Decision.TheVariants as decision
use Rattle.decisions.specs.ValueEnds.{value_end}
use Rattle.engine.specs.AbortLaws.{is_aborting, reads_inputs, EndsWithAbort, AbortsUnlessKept, EntriesAbort, StoriesAbort}
use Rattle.engine.specs.Heads.{HeadEvent, NoEvent, AtOnce, TooLong, is_abort, abort_reason, invalid_parameter}
use Rattle.engine.specs.Requested as requested
use Rattle.engine.specs.Progress.{Progress, Advance, at_start, absorb, deciding, deciding_unless_ended, decided_at, done, followed_by, moved, nothing, refusing, is_due, is_established}
use Rattle.engine.specs.Replies.{value_head, aborted_if_refused, command_refused, replied, going_on, decided_on, invalid, user_aborts}
use Rattle.engine.specs.Requests.{keeping, judged_so, answered}
use Rattle.engine.specs.Run.{Rooms, at_end, at_entry, cut, fails, gives, progress_of, sent_of, wire_failures}
use Rattle.engine.specs.Timeline.{Entry, At, Shut, TimedOut, Aborted, Finding, Happened}
use Rattle.engine.proofs.AlongTimelines.ContextsAreAccepted.{by_head}
use Rattle.engine.proofs.MarksAreDone.PduHead.{IsJudged, head_judged}
use Rattle.engine.proofs.AlongTimelines.NothingAfterTheEnd.{nothing_after_the_end}

-- after this entry inputs are read, and a decision to abort has its A-ABORT
record Fine (p : Progress) (g : Advance) : Type 0 where
  reads : reads_inputs g.next.state ≡ true
  aborts : is_aborting g.next.decided ≡ true → AbortsUnlessKept p g.next g.sent

-- ---- one event

done_state : (answer : List ℕ) (reason : ℕ) (p : Progress) (e : Event) → (done answer reason p e).next.state ≡ (table p.state e).1
done_state answer reason p e = by (table p.state e).1
  where
    by : (st : State) → (moved st p).state ≡ st
    by st = grind (arith, common_steps)

done_decided : (answer : List ℕ) (reason : ℕ) (p : Progress) (e : Event) → (done answer reason p e).next.decided ≡ p.decided
done_decided answer reason p e = by (table p.state e).1
  where
    by : (st : State) → (moved st p).decided ≡ p.decided
    by st = grind (arith, common_steps)

abbrev source_of : Action → ℕ
source_of Aa1 = 0
source_of a = 2

abbrev reason_of : Action → ℕ → ℕ
reason_of Aa1 reason = 0
reason_of a reason = reason

abort_sent : (a : Action) (st : State) (reason : ℕ) → is_abort a ≡ true → sending a st reason ≡ sends.Abort (source_of a) (reason_of a reason)
abort_sent a st reason h = grind (arith, common_steps)

ended_by : (a : Action) (st : State) (reason : ℕ) → is_abort a ≡ true → EndsWithAbort (bytes_sent [] release_text abort_text (sending a st reason))
ended_by a st reason h = record { front = []; source = source_of a; reason = reason_of a reason; whole = ap (bytes_sent [] release_text abort_text) (abort_sent a st reason h) }

abort_leads : (st : State) (e : Event) → is_abort (table st e).0 ≡ true → reads_inputs (table st e).1 ≡ true
abort_leads st e h = grind (arith, common_steps)

module _ (p : Progress) where
  abort_fine : (q : Progress) (reason : ℕ) (e : Event) → is_abort (table q.state e).0 ≡ true → Fine p (done [] reason q e)
  abort_fine q reason e h =
      record { reads = ap reads_inputs (done_state [] reason q e) ∙ abort_leads q.state e h; aborts = λ _. inl (ended_by (table q.state e).0 (table q.state e).1 reason h) }

  refusing_fine : (g : Advance) → Fine p g → Fine p (refusing g)
  refusing_fine g f = record { reads = f.reads; aborts = f.aborts }

  -- a decision that does not abort
  other_fine : (g : Advance) (d : Decision) → reads_inputs g.next.state ≡ true → g.next.decided ≡ d → is_aborting d ≡ false → Fine p g
  other_fine g d reads is other = record { reads = reads; aborts = λ h. let wrong : true ≡ false = sym h ∙ ap is_aborting is ∙ other in absurd cc }

  done_other : (answer : List ℕ) (q : Progress) (e : Event) (d : Decision) → reads_inputs (table q.state e).1 ≡ true → q.decided ≡ d → is_aborting d ≡ false → Fine p (done answer 0 q e)
  done_other answer q e d reads is other = other_fine _ d (ap reads_inputs (done_state answer 0 q e) ∙ reads) (done_decided answer 0 q e ∙ is) other

  twice_other : (answer : List ℕ) (q : Progress) (a b : Event) (d : Decision) → reads_inputs (table (table q.state a).1 b).1 ≡ true → q.decided ≡ d → is_aborting d ≡ false → Fine p (followed_by (done [] 0 q a) (λ r. done answer 0 r b))
  twice_other answer q a b d reads is other =
      let r = (done [] 0 q a).next in
      other_fine _ d (ap reads_inputs (done_state answer 0 r b ∙ ap (λ (st : State). (table st b).1) (done_state [] 0 q a)) ∙ reads) (done_decided answer 0 r b ∙ done_decided [] 0 q a ∙ is) other

  still_fine : reads_inputs p.state ≡ true → Fine p (nothing p)
  still_fine reads = record { reads = reads; aborts = λ _. inr (refl, refl) }

  silent_fine : (e : Event) → reads_inputs (table p.state e).1 ≡ true → bytes_sent [] release_text abort_text (sending (table p.state e).0 (table p.state e).1 0) ≡ [] → Fine p (done [] 0 p e)
  silent_fine e reads silent = record { reads = ap reads_inputs (done_state [] 0 p e) ∙ reads; aborts = λ _. inr (done_decided [] 0 p e, silent) }

  picked : (t : Bool) (a b : Advance) → (t ≡ true → Fine p a) → Fine p b → Fine p (if t then a else b)
  picked true a b f g = f refl
  picked false a b f g = g

-- ---- the states in which inputs are read, and the association has not ended

abbrev is_live : State → Bool
is_live Sta2 = true
is_live Sta6 = true
is_live Sta13 = true
is_live st = false

live_reads : (st : State) → is_live st ≡ true → reads_inputs st ≡ true
live_reads st h = grind (arith, common_steps)

live_decides : (st : State) (before d : Decision) → is_live st ≡ true → decided_at st before d ≡ d
live_decides st before d h = grind (arith, common_steps)

live_invalid : (st : State) → is_live st ≡ true → is_abort (table st event.Invalid).0 ≡ true
live_invalid st h = grind (arith, common_steps)

live_moves : (st : State) → is_live st ≡ true
    → (reads_inputs (table st event.UnacceptableRq).1 ≡ true) × (reads_inputs (table st event.Abort).1 ≡ true) × (reads_inputs (table st event.Closed).1 ≡ true) × (reads_inputs (table st event.Expired).1 ≡ true)
live_moves st h = grind (arith, common_steps)

established_aborts : (st : State) → is_established st ≡ true → is_abort (table st event.UserAborts).0 ≡ true
established_aborts st h = grind (arith, common_steps)

due_reads : (st : State) → is_due st ≡ true → (reads_inputs (table (table st event.AcceptableRq).1 event.UserAccepts).1 ≡ true) × (reads_inputs (table (table st event.AcceptableRq).1 event.UserRefuses).1 ≡ true)
due_reads st h = grind (arith, common_steps)

released_reads : (st : State) → is_established st ≡ true → reads_inputs (table (table st event.ReleaseRq).1 event.UserReleases).1 ≡ true
released_reads st h = grind (arith, common_steps)

both_right : (a b : Bool) → (a && b) ≡ true → b ≡ true
both_right a b h = grind (arith, common_steps)

-- ---- heads

judged_aborts : (st : State) (e : Event) → is_live st ≡ true → (e ≡ event.Invalid) ⊎ (is_abort (table st e).0 ≡ true) → is_abort (table st e).0 ≡ true
judged_aborts st e live (inl is) = subst (λ (x : Event). is_abort (table st x).0 ≡ true) (sym is) (live_invalid st live)
judged_aborts st e live (inr h) = h

head_fine : (p q : Progress) (kind n : ℕ) (h : HeadEvent) → is_live q.state ≡ true → IsJudged q.state h → Fine p (by_head q kind n h)
head_fine p q kind n NoEvent live judged = other_fine p _ decision.Nothing (live_reads q.state live) (live_decides q.state q.decided decision.Nothing live) refl
head_fine p q kind n (AtOnce e why) live judged = refusing_fine p _ (abort_fine p (deciding_unless_ended (decision.PduRefused (record { kind = kind; length = n }) why) q) (abort_reason why) e (judged_aborts q.state e live judged))
head_fine p q kind n TooLong live judged =
    refusing_fine p _ (done_other p (reject_text 2 3 2) (deciding_unless_ended (decision.RequestTooLong n) q) event.UnacceptableRq (decision.RequestTooLong n) (live_moves q.state live).0 (live_decides q.state q.decided (decision.RequestTooLong n) live) refl)

-- ---- presentation data values and whole PDUs

module _ (p : Progress) (live : is_live p.state ≡ true) where
  reading : reads_inputs p.state ≡ true
  reading = live_reads p.state live

  invalid_fine : (d : Decision) → Fine p (invalid (deciding d p))
  invalid_fine d = refusing_fine p _ (abort_fine p (deciding d p) invalid_parameter event.Invalid (live_invalid p.state live))

  user_fine : (d : Decision) → is_established p.state ≡ true → Fine p (user_aborts (deciding d p))
  user_fine d six = refusing_fine p _ (abort_fine p (deciding d p) 0 event.UserAborts (established_aborts p.state six))

  pdv_head_fine : (head : declared.PdvHead) (refused : Option DimseFault) (known : Option Context) → is_established p.state ≡ true
      → Fine p (elim known [ None ↦ invalid (deciding (decision.ContextRefused head) p) | Some accepted ↦ aborted_if_refused head refused p ])
  pdv_head_fine head refused None six = invalid_fine (decision.ContextRefused head)
  pdv_head_fine head None (Some accepted) six = other_fine p _ (decision.Fragment head) reading refl refl
  pdv_head_fine head (Some why) (Some accepted) six = user_fine (decision.FragmentRefused head why (unfinished_of p.message)) six

  kept_on : (j : Joined) (d : Decision) → is_aborting (decided_on j d) ≡ true → decided_on j d ≡ d
  kept_on j d h = grind (arith, common_steps)

  replied_fine : (finding : Finding) (m : Message) (read : Result CommandRecord DimseFault) → Fine p (replied p finding m read)
  replied_fine finding m (Err why) = other_fine p _ decision.Nothing reading refl refl
  replied_fine finding m (Ok command) = other_fine p _ _ reading refl refl

  pdv_fine : (finding : Finding) (pdv : messages.Pdv) (b : Brought) → is_established p.state ≡ true → Fine p (elim b [
    | Goes started ↦ nothing (going_on started p)
    | Ends m ↦ replied p finding m (command_in m.command)
    | Refuses why ↦ user_aborts (deciding (command_refused p pdv why) p)
  ])
  pdv_fine finding pdv (Goes started) six = record { reads = reading; aborts = λ h. inr (kept_on (continues p.message started) p.decided h, refl) }
  pdv_fine finding pdv (Ends m) six = replied_fine finding m (command_in m.command)
  pdv_fine finding pdv (Refuses why) six = user_fine (command_refused p pdv why) six

  answered_fine : (s : Settings) (r : RequestRecord) (q : Progress) (d : Decision) (a : Answer) → is_due q.state ≡ true → reads_inputs (table q.state event.UnacceptableRq).1 ≡ true → q.decided ≡ d → is_aborting d ≡ false → Fine p (answered s r q a)
  answered_fine s r q d Accept due rejects is other = twice_other p (accept_text s r) q event.AcceptableRq event.UserAccepts d (due_reads q.state due).0 is other
  answered_fine s r q d (Reject result source reason) due rejects is other =
      let text = reject_text result source reason in
      picked p (nat_eq source 2) _ _ (λ _. done_other p text q event.UnacceptableRq d rejects is other) (twice_other p text q event.AcceptableRq event.UserRefuses d (due_reads q.state due).1 is other)

  request_fine : (s : Settings) (body : List ℕ) (a : Answer) (why : Option PduFault) → is_due p.state ≡ true
      → Fine p (elim why [ Some f ↦ done [] invalid_parameter (deciding (decision.RequestInvalid f) p) event.Invalid | None ↦ judged_so s body p a ])
  request_fine s body a (Some f) due = abort_fine p (deciding (decision.RequestInvalid f) p) invalid_parameter event.Invalid (live_invalid p.state live)
  request_fine s body a None due = answered_fine s (request_record body) (keeping s body (deciding (decision.RequestJudged a) p)) (decision.RequestJudged a) a due (live_moves p.state live).0 refl refl

  end_fine : (s : Settings) (kind : ℕ) (body : List ℕ) → Fine p (at_end s p kind body)
  end_fine s kind body =
      picked p (nat_eq kind 7) _ _ (λ _. done_other p [] (deciding_unless_ended decision.Aborted p) event.Abort decision.Aborted (live_moves p.state live).1 (live_decides p.state p.decided decision.Aborted live) refl)
      (picked p (nat_eq kind 1 && is_due p.state) _ _ (λ h. request_fine s body (judged s (request_record body)) (request_fault body) (both_right (nat_eq kind 1) (is_due p.state) h))
      (picked p (nat_eq kind 5 && is_established p.state) _ _ (λ h. twice_other p [] (deciding decision.Released p) event.ReleaseRq event.UserReleases decision.Released (released_reads p.state (both_right (nat_eq kind 5) (is_established p.state) h)) refl refl) (still_fine p reading)))

  mark_fine : (rooms : Rooms) (s : Settings) (finding : Finding) (m : Mark) → Fine p (at_entry rooms s p finding (At m))
  mark_fine rooms s finding (Head kind n) = head_fine p (record p { refused = false }) kind n _ live (head_judged (rooms.request - 12) s.max_pdu p.state kind n)
  mark_fine rooms s finding (PdvHead n context control) =
      picked p p.refused _ _ (λ _. still_fine p reading) (picked p (is_established p.state) _ _ (pdv_head_fine (value_head n context control) (refusal rooms.command p.message n context control) (context_of (requested.request_record p.request) context)) (still_fine p reading))
  mark_fine rooms s finding (Pdv context control fragment) =
      let pdv : messages.Pdv = record { context = context; control = control; fragment = fragment } in
      picked p p.refused _ _ (λ _. still_fine p reading) (picked p (is_established p.state) _ _ (pdv_fine finding pdv (brought p.message pdv)) (still_fine p reading))
  mark_fine rooms s finding BadPdv = picked p p.refused _ _ (λ _. still_fine p reading) (picked p (is_established p.state) _ _ (λ _. invalid_fine decision.BadPdv) (still_fine p reading))
  mark_fine rooms s finding Leftover = picked p p.refused _ _ (λ _. still_fine p reading) (picked p (is_established p.state) _ _ (λ _. invalid_fine (decision.Leftover (value_end p.decided))) (still_fine p reading))
  mark_fine rooms s finding (End kind body) = picked p p.refused _ _ (λ _. still_fine p reading) (end_fine s kind body)

-- ---- entries

pub closed_silent : (st : State) → bytes_sent [] release_text abort_text (sending (table st event.Closed).0 (table st event.Closed).1 0) ≡ []
closed_silent st = grind (arith, common_steps)

pub expired_silent : (st : State) → bytes_sent [] release_text abort_text (sending (table st event.Expired).0 (table st event.Expired).1 0) ≡ []
expired_silent st = grind (arith, common_steps)

local_fine : (p : Progress) (st : State) → p.state ≡ st → is_live st ≡ true → Fine p (done [] 0 p event.UserAborts)
local_fine p Sta2 e live = silent_fine p event.UserAborts (rw e refl) (rw e refl)
local_fine p Sta6 e live = abort_fine p p 0 event.UserAborts (rw e refl)
local_fine p Sta13 e live = silent_fine p event.UserAborts (rw e refl) (rw e refl)
local_fine p Sta1 e live = absurd cc
local_fine p Sta3 e live = absurd cc
local_fine p Sta8 e live = absurd cc

live_fine : (rooms : Rooms) (s : Settings) (p : Progress) (finding : Finding) (e : Entry) → is_live p.state ≡ true → Fine p (at_entry rooms s p finding e)
live_fine rooms s p finding (At m) live = mark_fine p live rooms s finding m
live_fine rooms s p finding Shut live = silent_fine p event.Closed (live_moves p.state live).2 (closed_silent p.state)
live_fine rooms s p finding TimedOut live = silent_fine p event.Expired (live_moves p.state live).3 (expired_silent p.state)
live_fine rooms s p finding Aborted live = local_fine p p.state refl live

entry_fine : (rooms : Rooms) (s : Settings) (p : Progress) (finding : Finding) (e : Entry) → reads_inputs p.state ≡ true → Fine p (at_entry rooms s p finding e)
entry_fine rooms s p finding e reads = by p.state refl reads
  where
    live : (st : State) → p.state ≡ st → is_live st ≡ true → Fine p (at_entry rooms s p finding e)
    live st is h = live_fine rooms s p finding e (ap is_live is ∙ h)

    by : (st : State) → p.state ≡ st → reads_inputs st ≡ true → Fine p (at_entry rooms s p finding e)
    by Sta1 is h = let i = nothing_after_the_end rooms s p is finding e in record { reads = ap reads_inputs i.ended; aborts = λ _. inr (i.decided, i.sent) }
    by Sta2 is h = live Sta2 is refl
    by Sta3 is h = absurd cc
    by Sta6 is h = live Sta6 is refl
    by Sta8 is h = absurd cc
    by Sta13 is h = live Sta13 is refl

pub entries_abort : EntriesAbort
entries_abort rooms s p finding e reads aborting = (entry_fine rooms s p finding e reads).aborts aborting

-- ---- stories

given_reads : (rooms : Rooms) (s : Settings) (p : Progress) (h : Happened) → reads_inputs p.state ≡ true → reads_inputs (gives rooms s p h).next.state ≡ true
given_reads rooms s p h reads = by h.1.wire
  where
    by : (wire : Option ℕ) → reads_inputs (cut wire p (at_entry rooms s (absorb h.1.filing p) h.1.finding h.0)).next.state ≡ true
    by None = (entry_fine rooms s (absorb h.1.filing p) h.1.finding h.0 reads).reads
    by (Some k) = refl

story_reads : (rooms : Rooms) (s : Settings) (p : Progress) (story : List Happened) → reads_inputs p.state ≡ true → reads_inputs (progress_of rooms s p story).state ≡ true
story_reads rooms s p [] reads = reads
story_reads rooms s p (h ∷ story) reads = story_reads rooms s (gives rooms s p h).next story (given_reads rooms s p h reads)

-- a send that did not fail
given_aborts : (rooms : Rooms) (s : Settings) (p : Progress) (h : Happened) → reads_inputs p.state ≡ true → fails h.1.wire ≡ 0 → is_aborting (gives rooms s p h).next.decided ≡ true → AbortsUnlessKept p (gives rooms s p h).next (gives rooms s p h).sent
given_aborts rooms s p h reads none = by h.1.wire none
  where
    by : (wire : Option ℕ) → fails wire ≡ 0 → let g = cut wire p (at_entry rooms s (absorb h.1.filing p) h.1.finding h.0) in is_aborting g.next.decided ≡ true → AbortsUnlessKept p g.next g.sent
    by None n aborting = (entry_fine rooms s (absorb h.1.filing p) h.1.finding h.0 reads).aborts aborting
    by (Some k) n aborting = absurd cc

joined : (p q r : Progress) (sent more : List ℕ) → (is_aborting q.decided ≡ true → AbortsUnlessKept p q sent) → AbortsUnlessKept q r more → is_aborting r.decided ≡ true → AbortsUnlessKept p r (sent ++ more)
joined p q r sent more first (inl x) h = inl (record { front = sent ++ x.front; source = x.source; reason = x.reason; whole = ap (λ (xs : List ℕ). sent ++ xs) x.whole ∙ sym (append_assoc sent x.front (abort_text x.source x.reason)) })
joined p q r sent more first (inr x) h = by (first (ap is_aborting (sym x.0) ∙ h))
  where
    all : sent ++ more ≡ sent
    all = ap (λ (xs : List ℕ). sent ++ xs) x.1 ∙ append-nil sent

    by : AbortsUnlessKept p q sent → AbortsUnlessKept p r (sent ++ more)
    by (inl y) = inl (record { front = y.front; source = y.source; reason = y.reason; whole = all ∙ y.whole })
    by (inr y) = inr (x.0 ∙ y.0, all ∙ y.1)

more_abort : (rooms : Rooms) (s : Settings) (p : Progress) (more : List Happened) → reads_inputs p.state ≡ true → wire_failures more ≡ 0 → is_aborting (progress_of rooms s p more).decided ≡ true
    → AbortsUnlessKept p (progress_of rooms s p more) (sent_of rooms s p more)
more_abort rooms s p [] reads none aborting = inr (refl, refl)
more_abort rooms s p (h ∷ more) reads none aborting =
    let q = (gives rooms s p h).next in
    joined p q (progress_of rooms s q more) (gives rooms s p h).sent (sent_of rooms s q more) (given_aborts rooms s p h reads (omega (arith, none))) (more_abort rooms s q more (given_reads rooms s p h reads) (omega (arith, none)) aborting) aborting

pub stories_abort : StoriesAbort
stories_abort rooms s story more none aborting = more_abort rooms s (progress_of rooms s at_start story) more (story_reads rooms s at_start story refl) none aborting
