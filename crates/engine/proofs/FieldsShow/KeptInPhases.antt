-- An association that has ended, or awaits the close, keeps nothing (`ended_keeps_nothing`, `close_keeps_nothing`), and one
-- that awaits a request keeps that alone (`awaiting_stored`, `awaiting_room`). Stands on the definitions alone.
use Rattle.std.proofs.Common.{◌≡◌, ◌≤◌, ◌+◌, length, ℕ, Bool, false, true, not, ◌&&◌, nat_eq, [], refl, ap, sym, subst, ◌∙◌, arith, Result, Ok, Err}
use Rattle.std.proofs.lemmas.Grind.{common_steps}
use Rattle.std.proofs.lemmas.Bool.Decides.{nat_tests}
use Rattle.acceptor.specs.declared.state.State.{State}
use Rattle.acceptor.specs.declared.state.State.TheVariants.{Sta1, Sta2}
use Rattle.pdu.specs.declared.wire.WireFailed.{WireFailed}
use Rattle.dimse.specs.Messages.{NoMessage}
use Rattle.dimse.specs.Joining.{Joining, ShowsMessage, shown}
use Rattle.arrayvec.specs.declared.array_vec.ArrayVec.{ArrayVec}
use Rattle.engine.specs.declared.phase.Phase.{Phase}
use Rattle.engine.specs.declared.phase.Phase.TheVariants.{AwaitingRequest, Established, AwaitingClose, Ended}
use Rattle.engine.specs.declared.phase.Peer.{Peer}
use Rattle.engine.specs.declared.phase.Message.{Message}
use Rattle.engine.specs.declared.provider.Provider.{Provider}
use Rattle.engine.specs.Phases.{state_in, request_in, stored_in, consumed_in}
use Rattle.engine.specs.StoredData.{Nothing}
use Rattle.engine.specs.Progress.{is_due, is_established}
use Rattle.engine.specs.Held.{is_ended}
use Rattle.engine.specs.Kept.{Kept, IsUnagreed, kept_in, accepts_pdvs_in, accepts_body_in}
use Rattle.engine.specs.machine.PerformsReaction.{IsRemaining, is_remaining, state_after}

-- a join without any fragment
pub no_fragment : (room : ℕ) → ShowsMessage room (shown NoMessage []) NoMessage []
no_fragment room = record { shows = refl; accepted = λ (six : 6 ≤ 0). absurd (omega arith) }

remaining_empty : (kept : Kept) → IsUnagreed kept.caller kept.peer_max kept.table → kept.body ≡ [] → kept.join ≡ shown NoMessage [] → kept.storing ≡ Nothing → IsRemaining kept
remaining_empty kept unagreed body join storing = record { unagreed = unagreed; body = body; join = subst (λ (j : Joining). ShowsMessage kept.room j NoMessage []) (sym join) (no_fragment kept.room); storing = storing }

pub ended_keeps_nothing : {A C V D : ℕ} → (was : Provider A C V D) → IsRemaining (kept_in {A = A} {C = C} {V = V} {D = D} was.config.now was.refused was.decided Ended)
ended_keeps_nothing was = remaining_empty _ (record { no_caller = refl; no_maximum = refl; no_rows = refl }) refl refl refl

pub close_keeps_nothing : {A C V D : ℕ} → (was : Provider A C V D) → IsRemaining (kept_in {A = A} {C = C} {V = V} {D = D} was.config.now was.refused was.decided AwaitingClose)
close_keeps_nothing was = remaining_empty _ (record { no_caller = refl; no_maximum = refl; no_rows = refl }) refl refl refl

-- what is kept of an established association
abbrev pub kept_by : {A C V D : ℕ} → Provider A C V D → Peer → Message C V D → Kept
kept_by {A = A} {C = C} {V = V} {D = D} was peer message = kept_in {A = A} {C = C} {V = V} {D = D} was.config.now was.refused was.decided (Established peer message)

abbrev pub kept_with : {A C V D : ℕ} → Provider A C V D → ArrayVec ℕ A (Unit {0}) → Kept
kept_with {A = A} {C = C} {V = V} {D = D} was body = kept_in {A = A} {C = C} {V = V} {D = D} was.config.now was.refused was.decided (AwaitingRequest body)

pub unestablished : {A C V D : ℕ} → (phase : Phase A C V D) → ((peer : Peer) (message : Message C V D) → phase ≡ Established peer message → ⊥) → is_established (state_in phase) ≡ false
unestablished (AwaitingRequest body) other = refl
unestablished (Established peer message) other = absurd (other peer message refl)
unestablished AwaitingClose other = refl
unestablished Ended other = refl

pub unawaited : {A C V D : ℕ} → (phase : Phase A C V D) → ((body : ArrayVec ℕ A (Unit {0})) → phase ≡ AwaitingRequest body → ⊥) → is_due (state_in phase) ≡ false
unawaited (AwaitingRequest body) other = absurd (other body refl)
unawaited (Established peer message) other = refl
unawaited AwaitingClose other = refl
unawaited Ended other = refl

pub unended : {A C V D : ℕ} → (phase : Phase A C V D) → (phase ≡ Ended → ⊥) → is_ended (state_in phase) ≡ false
unended phase h = grind (arith, common_steps)

-- while a request is due
pub awaiting_stored : {A C V D : ℕ} → (phase : Phase A C V D) → state_in phase ≡ Sta2 → stored_in phase ≡ Nothing
awaiting_stored phase h = grind (arith, common_steps)

pub awaiting_room : {A C V D : ℕ} → (phase : Phase A C V D) → state_in phase ≡ Sta2 → length (request_in phase) + 12 ≡ consumed_in phase
awaiting_room phase h = grind (arith, common_steps)

-- an association that is not left after a send keeps its state
pub state_kept : (r : Result (Unit {0}) WireFailed) (next state : State) → is_remaining (state_after r next) ≡ false → (is_remaining next ≡ false → next ≡ state) → state ≡ state_after r next
state_kept (Ok u) next state l stays = sym (stays l)
state_kept (Err f) next state l stays = let x : is_remaining Sta1 ≡ false = l in absurd cc

-- nothing of a PDU that was refused counts
pub never_both : (t : Bool) → t && false ≡ false
never_both t = grind (arith, common_steps)

pub refused_pdvs : (k : Kept) → k.refused ≡ true → accepts_pdvs_in k ≡ false
refused_pdvs k r = ap (λ (b : Bool). is_established k.state && not b) r ∙ never_both (is_established k.state)

pub refused_body : (k : Kept) (kind : ℕ) → k.refused ≡ true → accepts_body_in k kind ≡ false
refused_body k kind r = ap (λ (b : Bool). is_due k.state && (not b && nat_eq kind 1)) r ∙ never_both (is_due k.state)

pub other_body : (k : Kept) (kind : ℕ) → (kind ≡ 1 → ⊥) → accepts_body_in k kind ≡ false
other_body k kind other = by (nat_eq kind 1) refl where
  by : (t : Bool) → nat_eq kind 1 ≡ t → accepts_body_in k kind ≡ false
  by true is = absurd (other (grind (arith, nat_tests)))
  by false is = ap (λ (b : Bool). is_due k.state && (not k.refused && b)) is ∙ ap (λ (b : Bool). is_due k.state && b) (never_both (not k.refused)) ∙ never_both (is_due k.state)

pub consumed_body : (refused : Bool) (kind : ℕ) → refused ≡ false → kind ≡ 1 → not refused && nat_eq kind 1 ≡ true
consumed_body refused kind r e = rw (r, e) refl
