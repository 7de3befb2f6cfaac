-- What was tried of the devices at an entry is what the entry does (`does_by`), with what the devices gained (`line_gained`,
-- `files_cut`). Stands on StoresAreKept/DraftAndWalk.
use Rattle.std.proofs.Common.{◌≡◌, ℕ, Bool, true, false, not, ◌&&◌, List, [], Option, Some, None, refl, ap, sym, subst, ◌∙◌, arith, if◌then◌else◌}
use Rattle.std.proofs.lemmas.List.{append-nil}
use Rattle.std.specs.Io.KnownBytes.{append_known}
use Rattle.acceptor.specs.declared.state.State.{State}
use Rattle.acceptor.specs.declared.state.State.TheVariants.{Sta1}
use Rattle.acceptor.specs.declared.event.Event.TheVariants as event
use Rattle.negotiate.specs.Settings.{Settings}
use Rattle.pdu.specs.Sent.{Line}
use Rattle.part10.specs.Store.{Store}
use Rattle.dimse.specs.Joining.{ShowsMessage, with_pdv}
use Rattle.engine.specs.Devices.{Devices, line_after, line_with, IsFront, files_in, with_files}
use Rattle.engine.specs.Timeline.{Entry, At, good}
use Rattle.decisions.specs.declared.decision.Decision.{Decision}
use Rattle.decisions.specs.declared.decision.Decision.TheVariants as decision
use Rattle.decisions.specs.ValueEnds.{value_end}
use Rattle.pdu.specs.Marks.{BadPdv, Leftover}
use Rattle.engine.specs.Progress.{Progress, Advance, deciding, nothing, remaining, refusing, is_due, is_established}
use Rattle.engine.specs.Reached.{accepts_pdvs}
use Rattle.engine.specs.Replies.{invalid}
use Rattle.engine.specs.Run.{Rooms, at_entry, cut, fails}
use Rattle.engine.specs.Fair.{IsVerdict, message_at}
use Rattle.engine.specs.Kept.{Kept, Pends, counted_body, counted_pdv}
use Rattle.engine.specs.Drafts.{IsDraft}
use Rattle.engine.specs.StoredData.{Walks, drafting_in}
use Rattle.engine.specs.machine.PerformsReaction.{PerformsReaction, Stays}
use Rattle.engine.proofs.StoresAreKept.DraftAndWalk.{unfiled_same}
use Rattle.engine.specs.machine.Does.{Does}
use Rattle.std.proofs.lemmas.Grind.{common_steps}

-- ---- the devices

pub sent_nothing : (known : Option (List ℕ)) → known ≡ append_known known []
sent_nothing None = refl
sent_nothing (Some xs) = ap (λ (x : List ℕ). Some x) (sym (append-nil xs))

pub line_same : (l : Line) → l ≡ line_after None [] l
line_same l = ap (λ (x : Option (List ℕ)). record { sent = x; failures = l.failures }) (sent_nothing l.sent)

pub filed_nothing : (known : Option (List (List ℕ))) → known ≡ with_files [] known
filed_nothing None = refl
filed_nothing (Some xs) = ap (λ (x : List (List ℕ)). Some x) (sym (append-nil xs))

pub line_gained : (wire : Option ℕ) (p : Progress) (g : Advance) (l : Line) → line_after wire g.sent l ≡ line_with (cut wire p g).sent (fails wire) l
line_gained None p g l = ap (λ (n : ℕ). record { sent = append_known l.sent g.sent; failures = n }) (omega arith)
line_gained (Some k) p g l = refl

pub files_cut : (wire : Option ℕ) (p : Progress) (g : Advance) → (cut wire p g).files ≡ g.files
files_cut wire p g = grind (arith, common_steps)

-- ---- an entry

pub does_by : (rooms : Rooms) (s : Settings) (p : Progress) (e : Entry) (g : Advance) (new : Kept) (body started : List ℕ) (old later : Devices)
    → at_entry rooms s p good e ≡ g → g.files ≡ [] → IsVerdict rooms s p good (message_at p e) → PerformsReaction p g new body started old later → Does rooms s p e new body started old later
does_by rooms s p e g new body started old later is none verdict t = record {
  outcome = record { wire = t.wire; filing = false; finding = good };
  fair = record { verdict = verdict; wire = subst (λ (x : Advance). IsFront t.wire x.sent) (sym is) t.fair; filing = λ yes. absurd cc };
  pends = subst (λ (x : Advance). Pends new later.store (cut t.wire p x).next body started) (sym is) t.pends;
  line = t.line ∙ line_gained t.wire p g old.line ∙ ap (λ (x : Advance). line_with (cut t.wire p x).sent (fails t.wire) old.line) (sym is);
  files = t.unfiled.files ∙ filed_nothing (files_in old.store)
      ∙ ap (λ (fs : List (List ℕ)). with_files fs (files_in old.store)) (sym (files_cut t.wire p (at_entry rooms s p good e) ∙ ap (λ (x : Advance). x.files) is ∙ none));
  count = omega (arith, t.unfiled.count);
}

pub tries_nothing : (p : Progress) (k : Kept) (body started : List ℕ) (d : Devices) → Pends k d.store p body started → PerformsReaction p (nothing p) k body started d d
tries_nothing p k body started d h = record { wire = None; fair = tt; pends = h; line = line_same d.line; unfiled = unfiled_same d.store }

pub does_nothing : (rooms : Rooms) (s : Settings) (p : Progress) (e : Entry) (k : Kept) (body started : List ℕ) (d : Devices)
    → at_entry rooms s p good e ≡ nothing p → IsVerdict rooms s p good (message_at p e) → Pends k d.store p body started → Does rooms s p e k body started d d
does_nothing rooms s p e k body started d is verdict h = does_by rooms s p e (nothing p) k body started d d is refl verdict (tries_nothing p k body started d h)

-- ---- the PDU is refused

pub not_counted : (b : Bool) (xs : List ℕ) → ◌≡◌ {A = List ℕ} [] (if b && false then xs else [])
not_counted b xs = grind (arith, common_steps)

pub pends_refused : (q : Progress) (mid : Kept) (store : Store) (body started body2 started2 : List ℕ) → counted_body q body ≡ [] → counted_pdv q started ≡ [] → Pends mid store q body started
    → Pends (record mid { refused = true }) store (record q { refused = true }) body2 started2
pends_refused q mid store body started body2 started2 b d h =
    let same : counted_pdv q started ≡ counted_pdv (record q { refused = true }) started2 = d ∙ not_counted (is_established q.state) started2 in
    record {
      state_is = h.state_is;
      refused_is = λ n. refl;
      decided_is = h.decided_is;
      body_is = h.body_is ∙ b ∙ not_counted (is_due q.state) body2;
      join_is = subst (λ (xs : List ℕ). ShowsMessage mid.room mid.join q.message xs) same h.join_is;
      agreed = h.agreed;
      none_remaining = h.none_remaining;
      unagreed = h.unagreed;
      walks = subst (λ (xs : List ℕ). Walks mid.depth mid.most q.request (with_pdv xs q.message) mid.storing) same h.walks;
      draft = subst (λ (xs : List ℕ). IsDraft q.request (with_pdv xs q.message) q.filing_failed store (drafting_in mid.storing)) same h.draft;
      failed_in = h.failed_in;
    }

ended_refused : (p : Progress) (mid : Kept) (store : Store) (body started body2 started2 : List ℕ) → Pends mid store (remaining Sta1 p) body started → Pends (record mid { refused = true }) store (remaining Sta1 p) body2 started2
ended_refused p mid store body started body2 started2 h =
    record { state_is = h.state_is; refused_is = λ n. absurd cc; decided_is = h.decided_is; body_is = h.body_is; join_is = h.join_is; agreed = λ six. absurd cc; none_remaining = λ e. refl; unagreed = h.unagreed; walks = h.walks; draft = h.draft; failed_in = λ n. absurd cc }

pub refused_by : (p : Progress) (g : Advance) (mid : Kept) (body started body2 started2 : List ℕ) (old new : Devices) → counted_body g.next body ≡ [] → counted_pdv g.next started ≡ []
    → PerformsReaction p g mid body started old new → PerformsReaction p (refusing g) (record mid { refused = true }) body2 started2 old new
refused_by p g mid body started body2 started2 old new b d t = by t.wire refl where
  by : (w : Option ℕ) → w ≡ t.wire → PerformsReaction p (refusing g) (record mid { refused = true }) body2 started2 old new
  by None e = record {
    wire = None;
    fair = tt;
    pends = pends_refused g.next mid new.store body started body2 started2 b d (subst (λ (x : Option ℕ). Pends mid new.store (cut x p g).next body started) (sym e) t.pends);
    line = t.line ∙ ap (λ (x : Option ℕ). line_after x g.sent old.line) (sym e);
    unfiled = t.unfiled;
  }
  by (Some k) e = record {
    wire = Some k;
    fair = subst (λ (x : Option ℕ). IsFront x g.sent) (sym e) t.fair;
    pends = ended_refused (deciding g.next.decided p) mid new.store body started body2 started2 (subst (λ (x : Option ℕ). Pends mid new.store (cut x p g).next body started) (sym e) t.pends);
    line = t.line ∙ ap (λ (x : Option ℕ). line_after x g.sent old.line) (sym e);
    unfiled = t.unfiled;
  }

pub if_nothing : (t : Bool) → ◌≡◌ {A = List ℕ} (if t then [] else []) []
if_nothing t = grind (arith, common_steps)

pub none_counted_body : (q : Progress) → counted_body q [] ≡ []
none_counted_body q = if_nothing (is_due q.state && not q.refused)

pub none_counted_pdv : (q : Progress) → counted_pdv q [] ≡ []
none_counted_pdv q = if_nothing (accepts_pdvs q)

-- ---- whether PDVs count

pub consumed_when : (e r : Bool) (a b : Advance) → (if r then b else (if e then a else b)) ≡ (if e && not r then a else b)
consumed_when e r a b = grind arith

-- a PDV that is bad, and bytes that are remaining
pub at_bad : (rooms : Rooms) (s : Settings) (p : Progress) → at_entry rooms s p good (At BadPdv) ≡ (if accepts_pdvs p then invalid (deciding decision.BadPdv p) else nothing p)
at_bad rooms s p = consumed_when (is_established p.state) p.refused (invalid (deciding decision.BadPdv p)) (nothing p)

pub at_leftover : (rooms : Rooms) (s : Settings) (p : Progress) → at_entry rooms s p good (At Leftover) ≡ (if accepts_pdvs p then invalid (deciding (decision.Leftover (value_end p.decided)) p) else nothing p)
at_leftover rooms s p = consumed_when (is_established p.state) p.refused (invalid (deciding (decision.Leftover (value_end p.decided)) p)) (nothing p)

-- where the fields show what was decided before
pub remaining_after : (p : Progress) (d : Decision) → d ≡ p.decided
    → (if accepts_pdvs p then invalid (deciding (decision.Leftover (value_end p.decided)) p) else nothing p) ≡ (if accepts_pdvs p then invalid (deciding (decision.Leftover (value_end d)) p) else nothing p)
remaining_after p d e = ap (λ (x : Decision). if accepts_pdvs p then invalid (deciding (decision.Leftover (value_end x)) p) else nothing p) (sym e)

-- ---- events that leave the association or keep its state

pub stays_invalid : (st : State) → Stays st event.Invalid
stays_invalid st = grind (arith, common_steps)

pub stays_aborts : (st : State) → Stays st event.UserAborts
stays_aborts st = grind (arith, common_steps)

pub stays_closed : (st : State) → Stays st event.Closed
stays_closed st = grind (arith, common_steps)

pub stays_expired : (st : State) → Stays st event.Expired
stays_expired st = grind (arith, common_steps)

pub stays_abort : (st : State) → Stays st event.Abort
stays_abort st = grind (arith, common_steps)
