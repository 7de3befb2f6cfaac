-- At the end of a PDU its entry gives an abort (`whole_abort`), a release (`whole_release`), the answer to a request
-- (`does_request`), or nothing (`whole_other`, `refused_end`). Stands on WholeRequest and FieldsShow.
use Rattle.std.proofs.Common.{◌≡◌, ℕ, Bool, true, false, not, ◌&&◌, List, [], Option, Some, None, nat_eq, eqb-true, refl, ap, sym, subst, ◌∙◌, arith, if◌then◌else◌, inl, inr}
use Rattle.std.proofs.lemmas.Grind.{common_steps}
use Rattle.std.proofs.lemmas.Bool.Decides.{nat_tests}
use Rattle.acceptor.specs.declared.state.State.{State}
use Rattle.acceptor.specs.declared.state.State.TheVariants.{Sta1}
use Rattle.acceptor.specs.declared.event.Event.TheVariants as event
use Rattle.part10.specs.Store.{Store}
use Rattle.pdu.specs.Marks.{End}
use Rattle.negotiate.specs.Settings.{Settings}
use Rattle.engine.specs.Timeline.{At, good}
use Rattle.decisions.specs.declared.decision.Decision.TheVariants as decision
use Rattle.engine.specs.Progress.{Progress, Advance, at_start, remaining, deciding, deciding_unless_ended, nothing, done, is_due, is_established}
use Rattle.engine.specs.Held.{is_ended}
use Rattle.engine.specs.Requests.{at_request}
use Rattle.engine.specs.Devices.{Devices, line_after, IsFront}
use Rattle.engine.specs.Run.{Rooms, cut, at_end, at_entry, released}
use Rattle.engine.specs.Kept.{Kept, Pends, counted_body, body_in, accepts_body_in}
use Rattle.engine.specs.machine.PerformsReaction.{PerformsReaction}
use Rattle.engine.specs.machine.Does.{Does}
use Rattle.engine.specs.machine.Tries.{TriesRequest}
use Rattle.engine.proofs.FieldsShow.TriedIsDone.{does_by, none_counted_body}
use Rattle.engine.proofs.MarksAreDone.WholeRequest.{LeavesOrStands, request_arrives}
use Rattle.engine.proofs.FieldsShow.ByState.{due_is}
use Rattle.negotiate.specs.Allowed.{Allowed}

-- by which type it is
abbrev by_kind : Settings → Progress → List ℕ → (seven one five : Bool) → Advance
by_kind s p body seven one five =
    if seven then done [] 0 (deciding_unless_ended decision.Aborted p) event.Abort
    else (if one && is_due p.state then at_request s p body else (if five && is_established p.state then released (deciding decision.Released p) else nothing p))

pub refused_shown : (k : Kept) (store : Store) (p : Progress) (body started : List ℕ) → Pends k store p body started → is_ended k.state ≡ false → k.refused ≡ p.refused
refused_shown k store p body started h lives = h.refused_is (ap is_ended (sym h.state_is) ∙ lives)

-- one that was refused gives nothing
pub refused_end : (rooms : Rooms) (s : Settings) (p : Progress) (kind : ℕ) (body : List ℕ) → p.refused ≡ true → at_entry rooms s p good (At (End kind body)) ≡ nothing p
refused_end rooms s p kind body e = ap (λ (t : Bool). if t then nothing p else at_end s p kind body) e

pub consumed_end : (rooms : Rooms) (s : Settings) (p : Progress) (kind : ℕ) (body : List ℕ) → p.refused ≡ false → at_entry rooms s p good (At (End kind body)) ≡ at_end s p kind body
consumed_end rooms s p kind body e = ap (λ (t : Bool). if t then nothing p else at_end s p kind body) e

pub whole_abort : (s : Settings) (p : Progress) (kind : ℕ) (body : List ℕ) → kind ≡ 7 → at_end s p kind body ≡ done [] 0 (deciding_unless_ended decision.Aborted p) event.Abort
whole_abort s p kind body e = ap (λ (n : ℕ). at_end s p n body) e

other_kind : (n m : ℕ) → (n ≡ m → ⊥) → nat_eq n m ≡ false
other_kind n m h = grind (arith, nat_tests)

pub whole_release : (s : Settings) (p : Progress) (kind : ℕ) (body : List ℕ) (t : Bool) → kind ≡ 5 → is_established p.state ≡ t → at_end s p kind body ≡ (if t then released (deciding decision.Released p) else nothing p)
whole_release s p kind body t e is = ap (λ (n : ℕ). at_end s p n body) e ∙ ap (λ (x : Bool). if x then released (deciding decision.Released p) else nothing p) is

pub whole_other : (s : Settings) (p : Progress) (kind : ℕ) (body : List ℕ) → (kind ≡ 7 → ⊥) → (nat_eq kind 1 && is_due p.state) ≡ false → (kind ≡ 5 → ⊥) → at_end s p kind body ≡ nothing p
whole_other s p kind body a b c =
    ap (λ (t : Bool). by_kind s p body t (nat_eq kind 1) (nat_eq kind 5)) (other_kind kind 7 a)
    ∙ ap (λ (t : Bool). if t then at_request s p body else (if nat_eq kind 5 && is_established p.state then released (deciding decision.Released p) else nothing p)) b
    ∙ ap (λ (t : Bool). by_kind s p body false false t) (other_kind kind 5 c)

-- ---- bytes of a body that do not count

received_to : (additional : Allowed) (body : List ℕ) (p : Progress) (g first : Advance) (xs : List ℕ) → LeavesOrStands additional body p g first → counted_body g.next xs ≡ []
received_to additional body p g first xs (a, b, inl (x, is)) = ap (λ (q : Progress). counted_body q xs) is
received_to additional body p g first xs (a, b, inr (x, is)) = ap (λ (q : Progress). counted_body q xs) is

pends_recounted : (k : Kept) (store : Store) (q : Progress) (xs : List ℕ) → counted_body q xs ≡ [] → Pends k store q xs [] → Pends k store q [] []
pends_recounted k store q xs e h = record {
  state_is = h.state_is;
  refused_is = h.refused_is;
  decided_is = h.decided_is;
  body_is = h.body_is ∙ e ∙ sym (none_counted_body q);
  join_is = h.join_is;
  agreed = h.agreed;
  none_remaining = h.none_remaining;
  unagreed = h.unagreed;
  walks = h.walks;
  draft = h.draft;
  failed_in = h.failed_in;
}

tries_recounted : (p : Progress) (g : Advance) (k : Kept) (xs : List ℕ) (old new : Devices) → counted_body g.next xs ≡ [] → PerformsReaction p g k xs [] old new → PerformsReaction p g k [] [] old new
tries_recounted p g k xs old new e t = by t.wire refl where
  by : (w : Option ℕ) → w ≡ t.wire → PerformsReaction p g k [] [] old new
  by None is = record {
    wire = None;
    fair = tt;
    pends = pends_recounted k new.store g.next xs e (subst (λ (x : Option ℕ). Pends k new.store (cut x p g).next xs []) (sym is) t.pends);
    line = t.line ∙ ap (λ (x : Option ℕ). line_after x g.sent old.line) (sym is);
    unfiled = t.unfiled;
  }
  by (Some n) is = record {
    wire = Some n;
    fair = subst (λ (x : Option ℕ). IsFront x g.sent) (sym is) t.fair;
    pends = pends_recounted k new.store (remaining Sta1 (deciding g.next.decided p)) xs refl (subst (λ (x : Option ℕ). Pends k new.store (cut x p g).next xs []) (sym is) t.pends);
    line = t.line ∙ ap (λ (x : Option ℕ). line_after x g.sent old.line) (sym is);
    unfiled = t.unfiled;
  }

-- ---- whose body is kept

if_kept : (a b c : Bool) → (a && (not b && c)) ≡ true → (a ≡ true) × (b ≡ false) × (c ≡ true)
if_kept a b c e = grind (arith, common_steps)

not_due : (a c : Bool) → (a && c) ≡ false → (c && a) ≡ false
not_due a c e = grind (arith, common_steps)

-- no request is due
pub undue : (k : Kept) (store : Store) (p : Progress) (kind : ℕ) (body started : List ℕ) → Pends k store p body started → accepts_body_in k kind ≡ false → k.refused ≡ false → (nat_eq kind 1 && is_due p.state) ≡ false
undue k store p kind body started h e r =
    not_due (is_due p.state) (nat_eq kind 1) (ap (λ (st : State). is_due st && nat_eq kind 1) (sym h.state_is) ∙ ap (λ (t : Bool). is_due k.state && (not t && nat_eq kind 1)) (sym r) ∙ e)

uncounted_kind : (due kept refused one : Bool) (body : List ℕ) → (due ≡ true → kept ≡ refused) → (due && (not kept && one)) ≡ false → ◌≡◌ {A = List ℕ} (if due && not refused then (if one then body else []) else []) []
uncounted_kind due kept refused one body same e = grind (arith, common_steps)

due_lives : (st : State) → is_due st ≡ true → is_ended st ≡ false
due_lives st e = ap is_ended (due_is st e)

-- of whose body nothing was kept
pub pends_unkept : (k : Kept) (store : Store) (p : Progress) (kind : ℕ) (body : List ℕ) → accepts_body_in k kind ≡ false → Pends k store p (body_in kind body) [] → Pends k store p [] []
pends_unkept k store p kind body e h =
    pends_recounted k store p (body_in kind body)
    (uncounted_kind (is_due p.state) k.refused p.refused (nat_eq kind 1) body (λ due. h.refused_is (due_lives p.state due)) (ap (λ (st : State). is_due st && (not k.refused && nat_eq kind 1)) (sym h.state_is) ∙ e)) h

-- a request that was due was answered
pub does_request : (rooms : Rooms) (s : Settings) (p : Progress) (kind : ℕ) (body : List ℕ) (k n : Kept) (old new : Devices) → accepts_body_in k kind ≡ true → Pends k old.store p (body_in kind body) [] → TriesRequest s k n old new
    → Does rooms s p (At (End kind body)) n [] [] old new
does_request rooms s p kind body k n old new e h tries =
    let is = if_kept (is_due k.state) k.refused (nat_eq kind 1) e in
    let due : is_due p.state ≡ true = ap is_due (sym h.state_is) ∙ is.0 in
    let unrefused : p.refused ≡ false = sym (h.refused_is (due_lives p.state due)) ∙ is.1 in
    let one : kind ≡ 1 = eqb-true kind 1 is.2 in
    let arrives = request_arrives s body p (due_is p.state due) in
    does_by rooms s p (At (End kind body)) (at_request s p body) n [] [] old new
    (consumed_end rooms s p kind body unrefused ∙ ap (λ (x : ℕ). at_end s p x body) one ∙ ap (λ (t : Bool). if t then at_request s p body else nothing p) due) arrives.1 tt
    (tries_recounted p (at_request s p body) n body old new (received_to s.additional body p (at_request s p body) (at_request s at_start body) body arrives)
    (tries p body (subst (λ (x : ℕ). Pends k old.store p (body_in x body) []) one h) unrefused due))
