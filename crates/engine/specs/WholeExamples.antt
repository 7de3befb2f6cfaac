-- Example associations: a run, the number of held bytes, the state, and verdicts on C-STOREs, each with one that is not
-- so.
use Rattle.std.specs.Prelude.{◌≡◌, ℕ, ◌^◌, Bool, true, false, List, [], ◌∷◌, ◌++◌, drop, Some, None, codes}
use Rattle.acceptor.specs.declared.state.State.{State}
use Rattle.acceptor.specs.declared.state.State.TheVariants.{Sta1, Sta6}
use Rattle.dictionary.specs.declared.transfer.Transfer.TheVariants.{Explicit}
use Rattle.dictionary.specs.declared.class.Class.TheVariants.{Ct}
use Rattle.negotiate.specs.declared.proposals.Context.{Context}
use Rattle.negotiate.specs.declared.proposals.Service.TheVariants.{Known}
use Rattle.dimse.specs.Command.{CommandRecord}
use Rattle.part10.specs.Store.{Store}
use Rattle.decisions.specs.declared.decision.Decision.TheVariants as decision
use Rattle.negotiate.specs.declared.answer.Answer.TheVariants.{Accept}
use Rattle.engine.specs.Inputs.{Received, Bytes, Close}
use Rattle.engine.specs.Timeline.{Finding, Happened, entries}
use Rattle.engine.specs.Ran.{Run}
use Rattle.engine.specs.Held.{Held}
use Rattle.engine.specs.Reached.{reached}
use Rattle.negotiate.specs.ContextRows.{context_rows}
use Rattle.engine.specs.Requested.{request_record}
use Rattle.dimse.specs.Status.{class_not_supported, data_set_mismatch}
use Rattle.dimse.specs.Messages.{NoMessage}
use Rattle.dimse.specs.Joining.{shown}
use Rattle.negotiate.specs.declared.table.ContextRow.{ContextRow}
use Rattle.pdu.specs.declared.position.Position.TheVariants as position
use Rattle.engine.specs.FrameFields.{Fields}
use Rattle.engine.specs.StoredData.{Nothing}
use Rattle.engine.specs.Stands.{Stands}
use Rattle.dimse.specs.Detail.{class_mismatch}
use Rattle.engine.specs.Stores.{Verdict, cause, class_tag}
use Rattle.engine.specs.Recording.{request, accept, reply, released}
use Rattle.engine.specs.Examples.{rooms, settings, calm, recording}
use Rattle.negotiate.specs.Allowed.{nothing_additional}

abbrev pub calmly : List Received → List Happened
calmly inputs = calm (entries [] inputs)

abbrev pub echo_inputs : List Received
echo_inputs = Bytes recording ∷ Close ∷ []

-- the recorded C-ECHO is answered as recorded, and stores nothing; an answer without the A-RELEASE-RP is not the
-- right one
abbrev pub TheEchoRuns : Type 0
TheEchoRuns =
    Run rooms settings echo_inputs (calmly echo_inputs) false (accept ++ reply ++ released) [] Sta1
    × ((files : List (List ℕ)) (state : State) → Run rooms settings echo_inputs (calmly echo_inputs) false (accept ++ reply) files state → ⊥)

abbrev pub request_inputs : List Received
request_inputs = Bytes request ∷ []

-- after the A-ASSOCIATE-AC 24 bytes are held, and no other number
abbrev pub TheRequestIsHeld : Type 0
TheRequestIsHeld =
    Held rooms settings (reached rooms settings request_inputs (calmly request_inputs) false) 24
    × ((n : ℕ) → Held rooms settings (reached rooms settings request_inputs (calmly request_inputs) false) n → n ≡ 24)

-- the fields of an established association with this table of presentation contexts
abbrev pub established : List ContextRow → Fields
established table = record {
  position = position.Head (record { items = [] });
  kept = record {
    room = 4096;
    depth = 64;
    most = 2 ^ 40;
    state = Sta6;
    refused = false;
    caller = codes "SCANNER1        ";
    peer_max = 16384;
    table = table;
    additional = nothing_additional;
    body = [];
    join = shown NoMessage [];
    storing = Nothing;
    decided = decision.RequestJudged Accept;
  };
}

-- after the A-ASSOCIATE-AC the association has these fields with the accepted presentation context, and not without
-- it
abbrev pub ItStandsEstablished : Type 0
ItStandsEstablished =
    ((store : Store) → Stands rooms settings request_inputs (calmly request_inputs) false
    (established (context_rows nothing_additional (request_record (record { additional = nothing_additional; body = drop 6 request })))) store)
    × ((store : Store) → Stands rooms settings request_inputs (calmly request_inputs) false (established []) store → ⊥)

abbrev pub ct_context : Context
ct_context = record { class = Known Ct; syntax = Explicit }

abbrev pub unsupported : Finding
unsupported = record { status = class_not_supported; detail = None }

abbrev pub store_of : List ℕ → CommandRecord
store_of class = record { class = class; field = 1; message = 7; with_data = true; instance = Some (codes "1.2.3") }

-- A C-STORE of another SOP class than that of its presentation context is answered with 0122, whatever its data set
-- is. An empty data set has no SOP class.
abbrev pub VerdictsOnStores : Type 0
VerdictsOnStores =
    ((data_set : List ℕ) (failed : Bool) → Verdict 64 (2 ^ 40) ct_context (store_of (codes "1.2.840.10008.5.1.4.1.1.4")) data_set failed unsupported)
    × ((data_set : List ℕ) (failed : Bool) (finding : Finding) → Verdict 64 (2 ^ 40) ct_context (store_of (codes "1.2.840.10008.5.1.4.1.1.4")) data_set failed finding → finding ≡ unsupported)
    × ((failed : Bool) → Verdict 64 (2 ^ 40) ct_context (store_of (codes "1.2.840.10008.5.1.4.1.1.2")) [] failed (cause data_set_mismatch class_mismatch class_tag))
