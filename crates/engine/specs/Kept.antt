-- The fields of an association without its deframer, as contracts see them, and how they depend on its timeline and
-- on the unfinished PDU.
use Rattle.std.specs.Prelude.{◌≡◌, ℕ, ◌+◌, ◌*◌, Bool, true, false, not, ◌&&◌, List, [], length, replicate, nat_eq, if◌then◌else◌}
use Rattle.pdu.specs.Sizes.{title_size}
use Rattle.pdu.specs.Types.{associate_rq}
use Rattle.acceptor.specs.declared.state.State.{State}
use Rattle.acceptor.specs.declared.state.State.TheVariants.{Sta6}
use Rattle.pdu.specs.Record.{RequestRecord}
use Rattle.engine.specs.Requested.{request_record}
use Rattle.negotiate.specs.Settings.{Settings, settings_of}
use Rattle.negotiate.specs.Contexts.{context_of}
use Rattle.negotiate.specs.declared.table.ContextRow.{ContextRow}
use Rattle.negotiate.specs.ContextRows.{context_in, context_rows, accepted_count}
use Rattle.dimse.specs.Messages.{NoMessage}
use Rattle.dimse.specs.Joining.{Joining, ShowsMessage, with_pdv}
use Rattle.part10.specs.Store.{Store}
use Rattle.negotiate.specs.declared.config.Config.{Config}
use Rattle.engine.specs.declared.phase.Phase.{Phase}
use Rattle.engine.specs.declared.provider.Provider.{Provider}
use Rattle.engine.specs.Phases.{state_in, caller_in, maximum_in, rows_in, request_in, joining_in, stored_in}
use Rattle.decisions.specs.declared.decision.Decision.{Decision}
use Rattle.engine.specs.Progress.{Progress, is_due, is_established}
use Rattle.engine.specs.Held.{is_ended, peer_size, row_size}
use Rattle.engine.specs.Reached.{accepts_pdvs}
use Rattle.engine.specs.Drafts.{IsDraft}
use Rattle.engine.specs.Fair.{InStore}
use Rattle.engine.specs.StoredData.{Stored, Walks, drafting_in, held_in}
use Rattle.negotiate.specs.Allowed.{Allowed}

-- the values of the fields
pub record Kept : Type 0 where
  -- the limits: the bytes of a command set, the open levels of a data set, and the bytes of a data set
  pub room : ℕ
  pub depth : ℕ
  pub most : ℕ
  pub state : State
  -- whether the rest of the unfinished PDU is ignored, as it was already answered
  pub refused : Bool
  -- of the accepted request: the calling AE title, the peer's maximum length, the accepted contexts
  pub caller : List ℕ
  pub peer_max : ℕ
  pub table : List ContextRow
  -- the storage classes that the configuration adds to those of the dictionary
  pub additional : Allowed
  -- the received bytes of the body of a request
  pub body : List ℕ
  pub join : Joining
  -- the state of the data set of a message
  pub storing : Stored
  pub decided : Decision

-- the values of the fields, with this configuration and in this phase
abbrev pub kept_in : {A C V D : ℕ} → Config → Bool → Decision → Phase A C V D → Kept
kept_in {A} {C} {V} {D} config refused decided phase =
    record {
      room = C;
      depth = D;
      most = config.max_data;
      state = state_in phase;
      refused = refused;
      caller = caller_in phase;
      peer_max = maximum_in phase;
      table = rows_in phase;
      additional = (settings_of config).additional;
      body = request_in phase;
      join = joining_in phase;
      storing = stored_in phase;
      decided = decided;
    }

abbrev pub kept_of : {A C V D : ℕ} → Provider A C V D → Kept
kept_of p = kept_in p.config.now p.refused p.decided p.phase

abbrev pub settings_in : {A C V D : ℕ} → Provider A C V D → Settings
settings_in p = settings_of p.config.now

-- the values that are kept of an accepted request, with these added storage classes: calling AE title, maximum length
-- and presentation contexts
pub record Agreed (calling : List ℕ) (most : ℕ) (table : List ContextRow) (additional : Allowed) (r : RequestRecord) : Type 0 where
  pub caller : calling ≡ r.calling
  pub maximum : most ≡ r.maximum
  pub rows : table ≡ context_rows additional r
  pub contexts : (id : ℕ) → context_in additional table id ≡ context_of r id
  pub count : length table ≡ accepted_count r

-- the values without an accepted request: no title, no maximum length and no presentation context
pub record IsUnagreed (caller : List ℕ) (maximum : ℕ) (table : List ContextRow) : Type 0 where
  pub no_caller : caller ≡ replicate title_size 0
  pub no_maximum : maximum ≡ 0
  pub no_rows : table ≡ []

-- the bytes of a body that are kept: those of a request while one is awaited, unless it was already rejected
abbrev pub counted_body : Progress → List ℕ → List ℕ
counted_body p body = if is_due p.state && not p.refused then body else []

abbrev pub counted_pdv : Progress → List ℕ → List ℕ
counted_pdv p started = if accepts_pdvs p then started else []

-- the bytes of the body of a PDU of this type that may be kept: those of an A-ASSOCIATE-RQ
abbrev pub body_in : ℕ → List ℕ → List ℕ
body_in kind body = if nat_eq kind associate_rq then body else []

-- The fields and the draft are those of this state of the timeline and of the unfinished PDU, of which the bytes
-- `body` of a request's body and `started` of a presentation data value were received. Bytes that are ignored are not
-- held. Of a request the values that are kept are there while it is accepted (Sta6), and only then. Once the
-- association has ended, nothing is said of `refused`.
pub record Pends (kept : Kept) (store : Store) (p : Progress) (body started : List ℕ) : Type 0 where
  pub state_is : kept.state ≡ p.state
  pub refused_is : is_ended p.state ≡ false → kept.refused ≡ p.refused
  pub decided_is : kept.decided ≡ p.decided
  pub body_is : kept.body ≡ counted_body p body
  pub join_is : ShowsMessage kept.room kept.join p.message (counted_pdv p started)
  pub agreed : p.state ≡ Sta6 → Agreed kept.caller kept.peer_max kept.table kept.additional (request_record p.request)
  pub unagreed : is_established p.state ≡ false → IsUnagreed kept.caller kept.peer_max kept.table
  pub none_remaining : is_established p.state ≡ false → p.message ≡ NoMessage
  pub walks : Walks kept.depth kept.most p.request (with_pdv (counted_pdv p started) p.message) kept.storing
  pub draft : IsDraft p.request (with_pdv (counted_pdv p started) p.message) p.filing_failed store (drafting_in kept.storing)
  -- a call of the filing can have failed only inside the data set of a C-STORE
  pub failed_in : is_ended p.state ≡ false → p.filing_failed ≡ true → InStore p.request p.message

-- whether the presentation data values of the unfinished PDU are handled
abbrev pub accepts_pdvs_in : Kept → Bool
accepts_pdvs_in kept = is_established kept.state && not kept.refused

-- whether the body of a PDU of this type is buffered
abbrev pub accepts_body_in : Kept → ℕ → Bool
accepts_body_in kept kind = is_due kept.state && (not kept.refused && nat_eq kind associate_rq)

-- how many bytes are held of a request and of a message
abbrev pub held_by : Kept → ℕ
held_by kept = (if is_established kept.state then peer_size + row_size * length kept.table else 0) + length kept.body + length kept.join.command + held_in kept.storing
