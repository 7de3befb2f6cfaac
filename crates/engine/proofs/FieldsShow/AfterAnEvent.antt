-- After an event of the table the fields show the progress that the event leads to (`happened`), as they do where a
-- connection is open (`opened`) and a PDU begins (`pends_begins`). Stands on ByState, NothingCounts and
-- StoresAreKept/DraftAndWalk.
use Rattle.std.proofs.Common.{◌≡◌, ℕ, ◌+◌, ◌<◌, ◌≤◌, Bool, true, false, not, ◌&&◌, nat_eq, List, [], length, Option, Some, None, Result, Ok, Err, OnErr, refl, ap, sym, subst, ◌∙◌, if◌then◌else◌, inl, inr, arith}
use Rattle.std.proofs.lemmas.Grind.{common_steps}
use Rattle.std.proofs.lemmas.Bool.{cases_Bool}
use Rattle.acceptor.specs.declared.state.State.{State}
use Rattle.acceptor.specs.declared.state.State.TheVariants.{Sta1, Sta2, Sta3, Sta6, Sta8, Sta13}
use Rattle.acceptor.specs.declared.event.Event.{Event}
use Rattle.acceptor.specs.declared.event.Event.TheVariants.{Connected, AcceptableRq, UnacceptableRq, Ac, Rj, Data, ReleaseRq, ReleaseRp, Abort, Invalid, Closed, Expired, UserAccepts, UserRefuses, UserReleases, UserAborts}
use Rattle.acceptor.specs.Table.{table}
use Rattle.engine.specs.Requested.{no_request}
use Rattle.engine.specs.Held.{is_ended}
use Rattle.pdu.specs.declared.wire.WireFailed.{WireFailed}
use Rattle.pdu.specs.Sent.{Line, Sends}
use Rattle.part10.specs.Store.{Store}
use Rattle.dimse.specs.Messages.{NoMessage}
use Rattle.dimse.specs.Joining.{ShowsMessage, with_pdv}
use Rattle.engine.specs.Reached.{accepts_pdvs}
use Rattle.decisions.specs.declared.decision.Decision.{Decision}
use Rattle.decisions.specs.declared.decision.Decision.TheVariants as decision
use Rattle.engine.specs.Progress.{Progress, Advance, at_start, remaining, moved, deciding, decided_at, done, is_due, is_established}
use Rattle.engine.specs.Run.{cut}
use Rattle.engine.specs.Devices.{Devices, devices, line_after, IsFront}
use Rattle.engine.specs.Drafts.{IsDraft}
use Rattle.engine.specs.StoredData.{Nothing, Walks, drafting_in}
use Rattle.engine.specs.Kept.{Kept, Pends, IsUnagreed, counted_body, counted_pdv}
use Rattle.engine.specs.machine.Capacity.{BodyFits, FragmentFits}
use Rattle.engine.specs.FrameFields.{IsUncounted}
use Rattle.engine.specs.machine.PerformsReaction.{PerformsReaction, step_text, is_remaining, IsRemaining, with_state, Reaches, Stays}
use Rattle.engine.proofs.StoresAreKept.DraftAndWalk.{Carried, so_far, none_carried}
use Rattle.engine.proofs.FieldsShow.NothingCounts.{no_store}
use Rattle.engine.proofs.FieldsShow.ByState.{by_remaining}

-- ---- the association is left

remaining_carried : (k : Kept) (store : Store) → IsRemaining k → Carried k.depth k.most k.storing store no_request NoMessage false
remaining_carried k store h = none_carried k.depth k.most k.storing store no_request NoMessage false h.storing (no_store no_request NoMessage refl)

pub pends_remaining : (st : State) (p : Progress) (k : Kept) (store : Store) (body started : List ℕ) → is_remaining st ≡ true → k.state ≡ st → k.refused ≡ p.refused → k.decided ≡ p.decided → IsRemaining k → Pends k store (remaining st p) body started
pends_remaining Sta1 p k store body started l e r d h = let c = remaining_carried k store h in record { state_is = e; refused_is = λ n. absurd cc; decided_is = d; body_is = h.body; join_is = h.join; agreed = λ six. absurd cc; none_remaining = λ e. refl; unagreed = λ _. h.unagreed; walks = c.0; draft = c.1; failed_in = λ n e. absurd cc }
pends_remaining Sta13 p k store body started l e r d h = let c = remaining_carried k store h in record { state_is = e; refused_is = λ n. r; decided_is = d; body_is = h.body; join_is = h.join; agreed = λ six. absurd cc; none_remaining = λ e. refl; unagreed = λ _. h.unagreed; walks = c.0; draft = c.1; failed_in = λ n e. absurd cc }
pends_remaining Sta2 p k store body started l e r d h = absurd cc
pends_remaining Sta3 p k store body started l e r d h = absurd cc
pends_remaining Sta6 p k store body started l e r d h = absurd cc
pends_remaining Sta8 p k store body started l e r d h = absurd cc

pub moved_remaining : (st : State) (p : Progress) → is_remaining st ≡ true → moved st p ≡ remaining st p
moved_remaining st p l = by_remaining (λ (x : State). moved x p ≡ remaining x p) refl refl st l

pub moved_stays : (st : State) (p : Progress) → is_remaining st ≡ false → moved st p ≡ record p { state = st }
moved_stays st p l = grind arith

pub stays_there : (st : State) → (st ≡ Sta1 → ⊥) → (st ≡ Sta13 → ⊥) → is_remaining st ≡ false
stays_there st h k = grind (arith, common_steps)

counted_remaining : (st : State) (p : Progress) (k : Kept) (body : List ℕ) → is_remaining st ≡ true → IsRemaining k → k.body ≡ counted_body (remaining st p) body
counted_remaining Sta1 p k body l h = h.body
counted_remaining Sta13 p k body l h = h.body
counted_remaining Sta2 p k body l h = absurd cc
counted_remaining Sta3 p k body l h = absurd cc
counted_remaining Sta6 p k body l h = absurd cc
counted_remaining Sta8 p k body l h = absurd cc

joined_remaining : (st : State) (p : Progress) (k : Kept) (started : List ℕ) → is_remaining st ≡ true → IsRemaining k → ShowsMessage k.room k.join NoMessage (counted_pdv (remaining st p) started)
joined_remaining Sta1 p k started l h = h.join
joined_remaining Sta13 p k started l h = h.join
joined_remaining Sta2 p k started l h = absurd cc
joined_remaining Sta3 p k started l h = absurd cc
joined_remaining Sta6 p k started l h = absurd cc
joined_remaining Sta8 p k started l h = absurd cc

quiet_remaining : (st : State) (p : Progress) (started : List ℕ) → is_remaining st ≡ true → so_far (remaining st p) started ≡ NoMessage
quiet_remaining st p started l = by_remaining (λ (x : State). so_far (remaining x p) started ≡ NoMessage) refl refl st l

-- the wire failed where this was decided
pub settled_failed : (p : Progress) (d : Decision) (st : State) (f : WireFailed) (old new : Kept) (so sn : Store) (body started : List ℕ) → old.decided ≡ d → Reaches st (Err f) old new so sn → Pends new sn (remaining Sta1 (deciding d p)) body started
settled_failed p d st f old new so sn body started reported h =
    let l = h.remaining (ap is_remaining h.state_is) in
    let c = remaining_carried new sn l in
    record { state_is = h.state_is; refused_is = λ n. absurd cc; decided_is = h.decided ∙ reported; body_is = l.body; join_is = l.join; agreed = λ six. absurd cc; none_remaining = λ e. refl; unagreed = λ _. l.unagreed; walks = c.0; draft = c.1; failed_in = λ n e. absurd cc }

-- the event leaves the association
pub settled_remaining : (p : Progress) (st : State) (old new : Kept) (so sn : Store) (body started : List ℕ) → Pends old so p body started → is_remaining st ≡ true
    → (is_ended st ≡ false → is_ended p.state ≡ false) → Reaches st (Ok tt) old new so sn → Pends new sn (remaining st p) body started
settled_remaining p st old new so sn body started h l n s =
    let gone = s.remaining (ap is_remaining s.state_is ∙ l) in
    let c = none_carried new.depth new.most new.storing sn no_request (so_far (remaining st p) started) false gone.storing (no_store no_request (so_far (remaining st p) started) (quiet_remaining st p started l)) in
    record { state_is = s.state_is; refused_is = λ m. s.refused ∙ h.refused_is (n m); decided_is = s.decided ∙ h.decided_is; body_is = counted_remaining st p new body l gone; join_is = joined_remaining st p new started l gone; agreed = λ six. let x : is_remaining Sta6 ≡ true = subst (λ (x : State). is_remaining x ≡ true) six l in absurd cc; none_remaining = λ e. refl; unagreed = λ _. gone.unagreed; walks = c.0; draft = c.1; failed_in = λ n e. absurd cc }

-- or keeps the state
pub settled_stays : (p : Progress) (st : State) (old new : Kept) (so sn : Store) (body started : List ℕ) → Pends old so p body started → is_remaining st ≡ false → st ≡ p.state
    → Reaches st (Ok tt) old new so sn → Pends new sn p body started
settled_stays p st old new so sn body started h l e s =
    let same : new ≡ with_state st old = s.same (ap is_remaining s.state_is ∙ l) ∙ ap (λ (x : State). with_state x old) s.state_is in
    let back : with_state st old ≡ old = ap (λ (x : State). with_state x old) (e ∙ sym h.state_is) in
    subst (λ (x : Store). Pends new x p body started) (sym (s.store_same (ap is_remaining s.state_is ∙ l))) (subst (λ (k : Kept). Pends k so p body started) (sym (same ∙ back)) h)

-- a connection is open, and nothing has come
pub opened : (k : Kept) (store : Store) → k.state ≡ Sta2 → k.refused ≡ false → k.decided ≡ decision.Nothing → k.body ≡ [] → ShowsMessage k.room k.join NoMessage [] → k.storing ≡ Nothing → IsUnagreed k.caller k.peer_max k.table → Pends k store at_start [] []
opened k store state refused decided body join none unagreed =
    let c = none_carried k.depth k.most k.storing store no_request NoMessage false none (no_store no_request NoMessage refl) in
    record { state_is = state; refused_is = λ n. refused; decided_is = decided; body_is = body; join_is = join; agreed = λ six. absurd cc; none_remaining = λ e. refl; unagreed = λ _. unagreed; walks = c.0; draft = c.1; failed_in = λ n e. absurd cc }

-- ---- one event

-- an event decides nothing
moved_decided : (st : State) (p : Progress) → (moved st p).decided ≡ p.decided
moved_decided Sta1 p = refl
moved_decided Sta2 p = refl
moved_decided Sta3 p = refl
moved_decided Sta6 p = refl
moved_decided Sta8 p = refl
moved_decided Sta13 p = refl

-- no event but a connection's leaves an association that has ended
ended_stays : (e : Event) → Stays Sta1 e → (table Sta1 e).1 ≡ Sta1
ended_stays Connected h = let x : Sta2 ≡ Sta1 = h refl in absurd cc
ended_stays AcceptableRq h = refl
ended_stays UnacceptableRq h = refl
ended_stays Ac h = refl
ended_stays Rj h = refl
ended_stays Data h = refl
ended_stays ReleaseRq h = refl
ended_stays ReleaseRp h = refl
ended_stays Abort h = refl
ended_stays Invalid h = refl
ended_stays Closed h = refl
ended_stays Expired h = refl
ended_stays UserAccepts h = refl
ended_stays UserRefuses h = refl
ended_stays UserReleases h = refl
ended_stays UserAborts h = refl

stays_ended : (st : State) (e : Event) → Stays st e → is_ended (table st e).1 ≡ false → is_ended st ≡ false
stays_ended Sta1 e h n = let x : is_ended Sta1 ≡ false = sym (ap is_ended (ended_stays e h)) ∙ n in absurd cc
stays_ended Sta2 e h n = refl
stays_ended Sta3 e h n = refl
stays_ended Sta6 e h n = refl
stays_ended Sta8 e h n = refl
stays_ended Sta13 e h n = refl

same_state : (p : Progress) (st : State) → st ≡ p.state → record p { state = st } ≡ p
same_state p st e = ap (λ (x : State). record p { state = x }) e

settled : (p : Progress) (st : State) (old new : Kept) (so sn : Store) (body started : List ℕ) (l : Bool) → is_remaining st ≡ l → Pends old so p body started
    → (is_remaining st ≡ false → st ≡ p.state) → (is_ended st ≡ false → is_ended p.state ≡ false) → Reaches st (Ok tt) old new so sn → Pends new sn (moved st p) body started
settled p st old new so sn body started true l h e n s = subst (λ (q : Progress). Pends new sn q body started) (sym (moved_remaining st p l)) (settled_remaining p st old new so sn body started h l n s)
settled p st old new so sn body started false l h e n s =
    subst (λ (q : Progress). Pends new sn q body started) (sym (moved_stays st p l ∙ same_state p st (e l))) (settled_stays p st old new so sn body started h l (e l) s)

happened_at : (p : Progress) (e : Event) (reason : ℕ) (answer : List ℕ) (r : Result (Unit {0}) WireFailed) (old new : Kept) (body started : List ℕ) (lo ln : Line) (so sn : Store)
    → Pends old so p body started → Stays p.state e → Reaches (table p.state e).1 r old new so sn → Sends (step_text p.state e reason answer) r lo ln
    → OnErr r (0 < length (step_text p.state e reason answer)) → PerformsReaction p (done answer reason p e) new body started (devices lo so) (devices ln sn)
happened_at p e reason answer (Ok u) old new body started lo ln so sn h stays s sends due = record {
  wire = None;
  fair = tt;
  pends = settled p (table p.state e).1 old new so sn body started (is_remaining (table p.state e).1) refl h stays (stays_ended p.state e stays) s;
  line = sends;
  unfiled = s.unfiled;
}
happened_at p e reason answer (Err f) old new body started lo ln so sn h stays s sends due = record {
  wire = Some sends.count;
  fair = (due, sends.few);
  pends = settled_failed p (done answer reason p e).next.decided (table p.state e).1 f old new so sn body started (h.decided_is ∙ sym (moved_decided (table p.state e).1 p)) s;
  line = sends.line;
  unfiled = s.unfiled;
}

pub happened : (p : Progress) (e : Event) (reason : ℕ) (answer : List ℕ) (r : Result (Unit {0}) WireFailed) (old new : Kept) (body started : List ℕ) (lo ln : Line) (so sn : Store)
    → Pends old so p body started → Stays p.state e → Reaches (table old.state e).1 r old new so sn → Sends (step_text old.state e reason answer) r lo ln
    → OnErr r (0 < length (step_text old.state e reason answer)) → PerformsReaction p (done answer reason p e) new body started (devices lo so) (devices ln sn)
happened p e reason answer r old new body started lo ln so sn h stays s sends due =
    let is = h.state_is in
    happened_at p e reason answer r old new body started lo ln so sn h stays
    (subst (λ (x : State). Reaches (table x e).1 r old new so sn) is s)
    (subst (λ (x : State). Sends (step_text x e reason answer) r lo ln) is sends)
    (subst (λ (x : State). OnErr r (0 < length (step_text x e reason answer))) is due)

-- ---- rooms after an event

remaining_pdvs : (st : State) (r : Bool) → is_remaining st ≡ true → (is_established st && not r) ≡ false
remaining_pdvs st r l = by_remaining (λ (x : State). (is_established x && not r) ≡ false) refl refl st l

remaining_body : (st : State) (counts : Bool) → is_remaining st ≡ true → (is_due st && counts) ≡ false
remaining_body st counts l = by_remaining (λ (x : State). (is_due x && counts) ≡ false) refl refl st l

pub not_remaining : (n : State) (r : Result (Unit {0}) WireFailed) (old new : Kept) (so sn : Store) → Reaches n r old new so sn → (is_remaining n ≡ false → n ≡ old.state) → is_remaining new.state ≡ false → new ≡ old
not_remaining n (Ok u) old new so sn s stays l =
    let same = stays (sym (ap is_remaining s.state_is) ∙ l) in
    s.same l ∙ ap (λ (x : State). with_state x old) (s.state_is ∙ same)
not_remaining n (Err f) old new so sn s stays l = let x : is_remaining Sta1 ≡ false = sym (ap is_remaining s.state_is) ∙ l in absurd cc

-- the association was left, or nothing changed
module _ (old new : Kept) (same : is_remaining new.state ≡ false → new ≡ old) where
  pub body_fits_then : (room kind m : ℕ) → BodyFits room old kind m → BodyFits room new kind m
  body_fits_then room kind m h =
      λ due. subst (λ (k : Kept). k.refused ≡ false → kind ≡ 1 → length k.body + m ≤ room) (sym (same (ap is_remaining due))) (h (sym (ap (λ (k : Kept). k.state) (same (ap is_remaining due))) ∙ due))

  pub fragment_fits_then : (m : ℕ) → FragmentFits old m → FragmentFits new m
  fragment_fits_then m h = λ six. subst (λ (k : Kept). k.refused ≡ false → m ≤ k.join.remaining) (sym (same (ap is_remaining six))) (h (sym (ap (λ (k : Kept). k.state) (same (ap is_remaining six))) ∙ six))

  -- what did not count doesn't count then
  pub uncounted_then : (kind : ℕ) → IsUncounted old kind → IsUncounted new kind
  uncounted_then kind u =
      elim (cases_Bool (is_remaining new.state)) [
        | inl t ↦ record { pdvs = remaining_pdvs new.state new.refused t; body = remaining_body new.state (not new.refused && nat_eq kind 1) t }
        | inr t ↦ subst (λ (k : Kept). IsUncounted k kind) (sym (same t)) u
      ]

-- ---- a PDU begins

if_nothing : (t : Bool) → ◌≡◌ {A = List ℕ} [] (if t then [] else [])
if_nothing t = grind (arith, common_steps)

-- what is decided does not count for anything else
pub pends_decided : (d : Decision) (k : Kept) (store : Store) (p : Progress) (body started : List ℕ) → Pends k store p body started → Pends (record k { decided = d }) store (deciding d p) body started
pends_decided d k store p body started h = record {
  state_is = h.state_is;
  refused_is = h.refused_is;
  decided_is = refl;
  body_is = h.body_is;
  join_is = h.join_is;
  agreed = h.agreed;
  none_remaining = h.none_remaining;
  unagreed = h.unagreed;
  walks = h.walks;
  draft = h.draft;
  failed_in = h.failed_in;
}

-- where the association has not ended, this is decided
pub decided_there : (st : State) (before d : Decision) → is_ended st ≡ false → decided_at st before d ≡ d
decided_there Sta1 before d n = absurd cc
decided_there Sta2 before d n = refl
decided_there Sta3 before d n = refl
decided_there Sta6 before d n = refl
decided_there Sta8 before d n = refl
decided_there Sta13 before d n = refl

pub pends_begins : (k : Kept) (store : Store) (p : Progress) → Pends k store p [] [] → Pends (record k { refused = false; body = [] }) store (record p { refused = false }) [] []
pends_begins k store p h =
    let same : counted_pdv p [] ≡ counted_pdv (record p { refused = false }) [] = sym (if_nothing (accepts_pdvs p)) ∙ if_nothing (is_established p.state && true) in
    record {
      state_is = h.state_is;
      refused_is = λ n. refl;
      decided_is = h.decided_is;
      body_is = if_nothing (is_due p.state && true);
      join_is = subst (λ (xs : List ℕ). ShowsMessage k.room k.join p.message xs) same h.join_is;
      agreed = h.agreed;
      none_remaining = h.none_remaining;
      unagreed = h.unagreed;
      walks = subst (λ (xs : List ℕ). Walks k.depth k.most p.request (with_pdv xs p.message) k.storing) same h.walks;
      draft = subst (λ (xs : List ℕ). IsDraft p.request (with_pdv xs p.message) p.filing_failed store (drafting_in k.storing)) same h.draft;
      failed_in = h.failed_in;
    }

-- after the end in whose place it was is not seen
ended_from : (k : Kept) (store : Store) (p q : Progress) (d : Decision) (body started : List ℕ) → Pends k store (remaining Sta1 (deciding d q)) body started → Pends k store (remaining Sta1 (deciding d p)) body started
ended_from k store p q d body started h =
    record { state_is = h.state_is; refused_is = λ n. absurd cc; decided_is = h.decided_is; body_is = h.body_is; join_is = h.join_is; agreed = λ six. absurd cc; none_remaining = λ e. refl; unagreed = h.unagreed; walks = h.walks; draft = h.draft; failed_in = λ n. absurd cc }

pub tries_from : (p q : Progress) (g : Advance) (k : Kept) (body started : List ℕ) (old new : Devices) → PerformsReaction q g k body started old new → PerformsReaction p g k body started old new
tries_from p q g k body started old new t = by t.wire refl where
  by : (w : Option ℕ) → w ≡ t.wire → PerformsReaction p g k body started old new
  by None e = record {
    wire = None;
    fair = tt;
    pends = subst (λ (x : Option ℕ). Pends k new.store (cut x q g).next body started) (sym e) t.pends;
    line = t.line ∙ ap (λ (x : Option ℕ). line_after x g.sent old.line) (sym e);
    unfiled = t.unfiled;
  }
  by (Some n) e = record {
    wire = Some n;
    fair = subst (λ (x : Option ℕ). IsFront x g.sent) (sym e) t.fair;
    pends = ended_from k new.store p q g.next.decided body started (subst (λ (x : Option ℕ). Pends k new.store (cut x q g).next body started) (sym e) t.pends);
    line = t.line ∙ ap (λ (x : Option ℕ). line_after x g.sent old.line) (sym e);
    unfiled = t.unfiled;
  }
