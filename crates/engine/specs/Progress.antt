-- The state of an association after some entries of its timeline (its progress), and the effect of an event: the
-- acceptor's state table and its actions (PS3.8 section 9.2).
use Rattle.std.specs.Prelude.{ℕ, Bool, true, false, ◌||◌, List, [], ◌++◌}
use Rattle.acceptor.specs.declared.state.State.{State}
use Rattle.acceptor.specs.declared.state.State.TheVariants.{Sta1, Sta2, Sta6, Sta13}
use Rattle.acceptor.specs.declared.event.Event.{Event}
use Rattle.acceptor.specs.Table.{table}
use Rattle.acceptor.specs.Effect.{sending, bytes_sent}
use Rattle.pdu.specs.Texts.{release_text, abort_text}
use Rattle.dimse.specs.Messages.{Started, NoMessage}
use Rattle.decisions.specs.declared.decision.Decision.{Decision}
use Rattle.decisions.specs.declared.decision.Decision.TheVariants.{Nothing}
use Rattle.engine.specs.Requested.{Requested, no_request}

-- The acceptor's state; the association request, until the association no longer exists; whether the rest of the
-- unfinished PDU is ignored; the unfinished message, and whether a call of the filing failed in it; what was decided
-- last, since the head of the last PDU before the end.
pub record Progress : Type 0 where
  pub state : State
  pub request : Requested
  pub refused : Bool
  pub message : Started
  pub filing_failed : Bool
  pub decided : Decision

-- the transport connection was just opened, and a request is awaited
-- e.g. at_start.state ≡ Sta2
abbrev pub at_start : Progress
at_start = record { state = Sta2; request = no_request; refused = false; message = NoMessage; filing_failed = false; decided = Nothing }

-- the state once the association no longer exists: its request and the unfinished message are dropped
-- e.g. (remaining Sta13 at_start).state ≡ Sta13
abbrev pub remaining : State → Progress → Progress
remaining next p = record { state = next; request = no_request; refused = p.refused; message = NoMessage; filing_failed = false; decided = p.decided }

-- the next state; one in which the association no longer exists has no request and no unfinished message
-- e.g. (moved Sta6 at_start).state ≡ Sta6
abbrev pub moved : State → Progress → Progress
moved Sta1 p = remaining Sta1 p
moved Sta13 p = remaining Sta13 p
moved next p = record p { state = next }

-- the state, where a call of the filing has failed in the unfinished message, if `failed`
-- e.g. (absorb true at_start).filing_failed ≡ true
abbrev pub absorb : Bool → Progress → Progress
absorb failed p = record p { filing_failed = failed || p.filing_failed }

-- the state, where this was decided
abbrev pub deciding : Decision → Progress → Progress
deciding decision p = record p { decided = decision }

-- what is decided in a state, after what was decided before: nothing else, once the association has ended
-- e.g. decided_at Sta6 decision.Aborted decision.Released ≡ decision.Released
-- e.g. decided_at Sta1 decision.Aborted decision.Released ≡ decision.Aborted
abbrev pub decided_at : State → Decision → Decision → Decision
decided_at Sta1 before decision = before
decided_at state before decision = decision

-- the state, where this was decided unless the association has ended
-- e.g. (deciding_unless_ended decision.Aborted at_start).decided ≡ decision.Aborted
abbrev pub deciding_unless_ended : Decision → Progress → Progress
deciding_unless_ended decision p = deciding (decided_at p.state p.decided decision) p

-- whether an association request is awaited
-- e.g. is_due Sta2 ≡ true
abbrev pub is_due : State → Bool
is_due Sta2 = true
is_due state = false

-- whether the association is established
-- e.g. is_established Sta6 ≡ true; is_established Sta8 ≡ false
abbrev pub is_established : State → Bool
is_established Sta6 = true
is_established state = false

-- the effect of an entry: the state after it, the bytes that are sent, and the files that are stored
pub record Advance : Type 0 where
  pub next : Progress
  pub sent : List ℕ
  pub files : List (List ℕ)

-- an entry without effect
-- e.g. (nothing at_start).files ≡ []
abbrev pub nothing : Progress → Advance
nothing p = record { next = p; sent = []; files = [] }

-- two effects one after the other: the second starts in the state after the first
-- e.g. (followed_by (nothing at_start) nothing).sent ≡ []
abbrev pub followed_by : Advance → (Progress → Advance) → Advance
followed_by g f = let h = f g.next in record { next = h.next; sent = g.sent ++ h.sent; files = g.files ++ h.files }

-- The effect of an event: the action and the next state of the state table. `answer` are the bytes of the
-- A-ASSOCIATE-AC or A-ASSOCIATE-RJ, and `reason` is that of an A-ABORT of the service provider.
-- e.g. (done [] 6 at_start event.Invalid).sent ≡ 7 ∷ 0 ∷ 0 ∷ 0 ∷ 0 ∷ 4 ∷ 0 ∷ 0 ∷ 0 ∷ 0 ∷ []
abbrev pub done : List ℕ → ℕ → Progress → Event → Advance
done answer reason p e =
    let step = table p.state e in
    record { next = moved step.1 p; sent = bytes_sent answer release_text abort_text (sending step.0 step.1 reason); files = [] }

-- the effect, where the rest of the PDU is ignored afterwards
-- e.g. (refusing (nothing at_start)).next.refused ≡ true
abbrev pub refusing : Advance → Advance
refusing g = record { next = record g.next { refused = true }; sent = g.sent; files = g.files }
