-- No entry does anything to an association that has ended (`nothing_after_the_end`; PS3.8 section 9.2.2: in Sta1 there is
-- none), and its fields show so (`leaves_ended`). Stands on ContextsAreAccepted,
-- FieldsShow/NothingCounts and MarksAreDone/PduHead.
use Rattle.std.proofs.Common.{◌≡◌, ◌⊎◌, ℕ, ◌-◌, Bool, true, false, ◌&&◌, nat_eq, if◌then◌else◌, List, [], ◌∷◌, ◌++◌, map, None, refl, sym, ap, subst, ◌∙◌, arith, inl, inr}
use Rattle.std.proofs.lemmas.Grind.{common_steps}
use Rattle.acceptor.specs.declared.state.State.{State}
use Rattle.acceptor.specs.declared.state.State.TheVariants.{Sta1}
use Rattle.acceptor.specs.declared.action.Action.TheVariants as action
use Rattle.acceptor.specs.declared.event.Event.{Event}
use Rattle.acceptor.specs.declared.event.Event.TheVariants as event
use Rattle.acceptor.specs.Table.{table}
use Rattle.pdu.specs.Marks.{Mark, Head, PdvHead, Pdv, BadPdv, Leftover, End}
use Rattle.negotiate.specs.Settings.{Settings}
use Rattle.dimse.specs.Messages.{Started, NoMessage}
use Rattle.engine.specs.Requested.{Requested, no_request}
use Rattle.engine.specs.Timeline.{Entry, At, Shut, TimedOut, Aborted, Happened, entries_of, Finding, good, Outcome}
use Rattle.decisions.specs.declared.decision.Decision.{Decision}
use Rattle.decisions.specs.declared.decision.Decision.TheVariants as decision
use Rattle.decisions.specs.declared.head_fault.HeadFault.{HeadFault}
use Rattle.engine.specs.Progress.{Progress, Advance, nothing, done}
use Rattle.engine.specs.Heads.{HeadEvent, NoEvent, AtOnce, TooLong, is_abort}
use Rattle.engine.specs.Requests.{at_request}
use Rattle.engine.specs.Run.{Rooms, released, at_entry, gives, progress_of, sent_of, files_of, wire_failures, filing_failures}
use Rattle.engine.specs.Laws.{NothingAfterTheEnd}
use Rattle.engine.specs.Fair.{IsFair, AreFair, message_at}
use Rattle.engine.specs.Held.{is_ended}
use Rattle.engine.specs.Kept.{Kept, Pends}
use Rattle.engine.specs.declared.sending.Reaction.TheVariants as due
use Rattle.engine.specs.machine.Judged.{LeavesDue}
use Rattle.part10.specs.Store.{Store}
use Rattle.engine.proofs.FieldsShow.NothingCounts.{pends_ended}
use Rattle.engine.proofs.MarksAreDone.PduHead.{IsJudged, head_judged}
use Rattle.engine.proofs.AlongTimelines.ContextsAreAccepted.{by_head}

-- in Sta1, with all else as it may be
abbrev at_end_with : Requested → Started → Bool → Decision → Bool → Progress
at_end_with rq m f d b = record { state = Sta1; request = rq; refused = b; message = m; filing_failed = f; decided = d }

-- nothing is done and nothing is decided, and a message that had started stays or is dropped
pub record IsStill (p : Progress) (g : Advance) : Type 0 where
  pub next : Progress
  pub is : g ≡ nothing next
  pub state : next.state ≡ Sta1
  pub message : (next.message ≡ p.message) ⊎ (next.message ≡ NoMessage)
  pub decided : next.decided ≡ p.decided

-- a head by_head nothing, or an event that does nothing
pub data BringsNothing : HeadEvent → Type 0 where
  no_event : BringsNothing NoEvent
  at_once : (fault : HeadFault) → BringsNothing (AtOnce event.Invalid fault)

never_aborts : (e : Event) → is_abort (table Sta1 e).0 ≡ true → ⊥
never_aborts e h = grind (arith, common_steps)

idle_judged : (h : HeadEvent) → IsJudged Sta1 h → BringsNothing h
idle_judged NoEvent j = no_event
idle_judged (AtOnce e why) (inl is) = subst (λ (x : Event). BringsNothing (AtOnce x why)) (sym is) (at_once why)
idle_judged (AtOnce e why) (inr aborts) = absurd (never_aborts e aborts)
idle_judged TooLong j = absurd cc

module _ (rq : Requested) (m : Started) (f : Bool) where
  head_still : (d : Decision) (b : Bool) (kind n : ℕ) {h : HeadEvent} → BringsNothing h → IsStill (at_end_with rq m f d b) (by_head (at_end_with rq m f d false) kind n h)
  head_still d b kind n no_event = record { next = at_end_with rq m f d false; is = refl; state = refl; message = inl refl; decided = refl }
  head_still d b kind n (at_once why) = record { next = at_end_with no_request NoMessage false d true; is = refl; state = refl; message = inr refl; decided = refl }

  kept_still : (d : Decision) (b : Bool) → IsStill (at_end_with rq m f d b) (nothing (at_end_with rq m f d b))
  kept_still d b = record { next = at_end_with rq m f d b; is = refl; state = refl; message = inl refl; decided = refl }

  end_still : (s : Settings) (d : Decision) (a b c : Bool) (body : List ℕ) → IsStill (at_end_with rq m f d false)
      (if a then done [] 0 (at_end_with rq m f d false) event.Abort else (if b && false then at_request s (at_end_with rq m f d false) body else (if c && false then released (at_end_with rq m f decision.Released false) else nothing (at_end_with rq m f d false))))
  end_still s d true b c body = record { next = at_end_with no_request NoMessage false d false; is = refl; state = refl; message = inr refl; decided = refl }
  end_still s d false true true body = kept_still d false
  end_still s d false true false body = kept_still d false
  end_still s d false false true body = kept_still d false
  end_still s d false false false body = kept_still d false

  mark_still : (rooms : Rooms) (s : Settings) (v : Finding) (d : Decision) (b : Bool) (x : Mark) → IsStill (at_end_with rq m f d b) (at_entry rooms s (at_end_with rq m f d b) v (At x))
  mark_still rooms s v d b (Head kind n) =
      head_still d b kind n (idle_judged _ (head_judged (rooms.request - 12) s.max_pdu Sta1 kind n))
  mark_still rooms s v d true (PdvHead n context control) = kept_still d true
  mark_still rooms s v d true (Pdv context control fragment) = kept_still d true
  mark_still rooms s v d true BadPdv = kept_still d true
  mark_still rooms s v d true Leftover = kept_still d true
  mark_still rooms s v d true (End kind body) = kept_still d true
  mark_still rooms s v d false (PdvHead n context control) = kept_still d false
  mark_still rooms s v d false (Pdv context control fragment) = kept_still d false
  mark_still rooms s v d false BadPdv = kept_still d false
  mark_still rooms s v d false Leftover = kept_still d false
  mark_still rooms s v d false (End kind body) = end_still s d (nat_eq kind 7) (nat_eq kind 1) (nat_eq kind 5) body

  other_still : (d : Decision) (b : Bool) (e : Event) → table Sta1 e ≡ (action.Nothing, Sta1) → IsStill (at_end_with rq m f d b) (done [] 0 (at_end_with rq m f d b) e)
  other_still d b e is = record { next = at_end_with no_request NoMessage false d b; is = rw is refl; state = refl; message = inr refl; decided = refl }

  entry_still : (rooms : Rooms) (s : Settings) (v : Finding) (d : Decision) (b : Bool) (x : Entry) → IsStill (at_end_with rq m f d b) (at_entry rooms s (at_end_with rq m f d b) v x)
  entry_still rooms s v d b (At x) = mark_still rooms s v d b x
  entry_still rooms s v d b Shut = other_still d b event.Closed refl
  entry_still rooms s v d b TimedOut = other_still d b event.Expired refl
  entry_still rooms s v d b Aborted = other_still d b event.UserAborts refl

  no_message : (d : Decision) (b : Bool) (x : Entry) → message_at (at_end_with rq m f d b) x ≡ None
  no_message d b x = grind (arith, common_steps)

pub still_at : (rooms : Rooms) (s : Settings) (p : Progress) (finding : Finding) (x : Entry) → p.state ≡ Sta1 → IsStill p (at_entry rooms s p finding x)
still_at rooms s p finding x e =
    let same : p ≡ at_end_with p.request p.message p.filing_failed p.decided p.refused = ap (λ (q : State). record { state = q; request = p.request; refused = p.refused; message = p.message; filing_failed = p.filing_failed; decided = p.decided }) e in
    subst (λ (q : Progress). IsStill q (at_entry rooms s q finding x)) (sym same) (entry_still p.request p.message p.filing_failed rooms s finding p.decided p.refused x)

-- the fields of an association that has ended show its progress after any entry, and nothing is due of it
pub leaves_ended : (rooms : Rooms) (s : Settings) (p : Progress) (x : Entry) (k : Kept) (store : Store) (body started body2 started2 : List ℕ) → Pends k store p body started → k.state ≡ Sta1
    → LeavesDue (at_entry rooms s p good x) due.Nothing k store body2 started2
leaves_ended rooms s p x k store body started body2 started2 h e =
    let is : p.state ≡ Sta1 = sym h.state_is ∙ e in
    let i = still_at rooms s p good x is in
    record { shown = i.next; pends = pends_ended k store store p i.next body started body2 started2 (ap is_ended is) (i.state ∙ sym is) i.decided i.message h; gives = i.is }

-- nothing failed
abbrev pub calmly : Outcome
calmly = record { wire = None; filing = false; finding = good }

pub one_still : (rooms : Rooms) (s : Settings) (p : Progress) (x : Entry) → p.state ≡ Sta1 → IsStill p (gives rooms s p (x, calmly)) × IsFair rooms s p (x, calmly)
one_still rooms s p x e =
    let same : p ≡ at_end_with p.request p.message p.filing_failed p.decided p.refused = ap (λ (q : State). record { state = q; request = p.request; refused = p.refused; message = p.message; filing_failed = p.filing_failed; decided = p.decided }) e in
    let none : message_at p x ≡ None = subst (λ (q : Progress). message_at q x ≡ None) (sym same) (no_message p.request p.message p.filing_failed p.decided p.refused x) in (
      still_at rooms s p good x e,
      record { verdict = rw none tt; wire = tt; filing = λ wrong. absurd cc },
    )

-- these entries do nothing
abbrev pub calm : List Entry → List Happened
calm es = map (λ x. (x, calmly)) es

pub record Stays (rooms : Rooms) (s : Settings) (p : Progress) (ms : List Entry) : Type 0 where
  pub state : (progress_of rooms s p (calm ms)).state ≡ Sta1
  pub message : ((progress_of rooms s p (calm ms)).message ≡ p.message) ⊎ ((progress_of rooms s p (calm ms)).message ≡ NoMessage)
  pub decided : (progress_of rooms s p (calm ms)).decided ≡ p.decided
  pub sent : sent_of rooms s p (calm ms) ≡ []
  pub files : files_of rooms s p (calm ms) ≡ []
  pub fair : AreFair rooms s p (calm ms)
  pub wires : wire_failures (calm ms) ≡ 0
  pub filings : filing_failures (calm ms) false ≡ 0
  pub reported : entries_of (calm ms) ≡ ms

message_then : (a b c : Started) → (b ≡ a) ⊎ (b ≡ NoMessage) → (c ≡ b) ⊎ (c ≡ NoMessage) → (c ≡ a) ⊎ (c ≡ NoMessage)
message_then a b c h (inr e) = inr e
message_then a b c (inl x) (inl e) = inl (e ∙ x)
message_then a b c (inr x) (inl e) = inr (e ∙ x)

pub stays : (rooms : Rooms) (s : Settings) (p : Progress) (ms : List Entry) → p.state ≡ Sta1 → Stays rooms s p ms
stays rooms s p [] e = record { state = e; message = inl refl; decided = refl; sent = refl; files = refl; fair = tt; wires = refl; filings = refl; reported = refl }
stays rooms s p (x ∷ ms) e =
    let one = one_still rooms s p x e in
    let i = one.0 in
    let next = (gives rooms s p (x, calmly)).next in
    let there : next ≡ i.next = ap (λ (g : Advance). g.next) i.is in
    let rest = stays rooms s next ms (ap (λ (q : Progress). q.state) there ∙ i.state) in
    let message : (next.message ≡ p.message) ⊎ (next.message ≡ NoMessage) = subst (λ (q : Progress). (q.message ≡ p.message) ⊎ (q.message ≡ NoMessage)) (sym there) i.message in
    record {
      state = rest.state;
      message = message_then p.message next.message _ message rest.message;
      decided = rest.decided ∙ ap (λ (q : Progress). q.decided) there ∙ i.decided;
      sent = ap (λ (g : Advance). g.sent ++ sent_of rooms s next (calm ms)) i.is ∙ rest.sent;
      files = ap (λ (g : Advance). g.files ++ files_of rooms s next (calm ms)) i.is ∙ rest.files;
      fair = (one.1, rest.fair);
      wires = omega (arith, rest.wires);
      filings = omega (arith, rest.filings);
      reported = ap (λ (es : List Entry). x ∷ es) rest.reported;
    }

pub nothing_after_the_end : NothingAfterTheEnd
nothing_after_the_end rooms s p e finding x =
    let still = still_at rooms s p finding x e in
    record { sent = ap (λ (g : Advance). g.sent) still.is; files = ap (λ (g : Advance). g.files) still.is; ended = ap (λ (g : Advance). g.next.state) still.is ∙ still.state; decided = ap (λ (g : Advance). g.next.decided) still.is ∙ still.decided }
