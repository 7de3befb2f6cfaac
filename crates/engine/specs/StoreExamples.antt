-- Examples with a C-STORE of a CT image: it succeeds; the filing fails; sending the response fails; the transport
-- connection is closed inside the data set.
use Rattle.std.specs.Prelude.{◌≡◌, ℕ, Bool, true, false, List, [], ◌∷◌, ◌++◌, length, map, take, Option, Some, None}
use Rattle.acceptor.specs.declared.state.State.{State}
use Rattle.acceptor.specs.declared.state.State.TheVariants.{Sta1, Sta6}
use Rattle.pdu.specs.Marks.{Pdv}
use Rattle.sequence.specs.Examples.{one_store}
use Rattle.dimse.specs.Messages.{NoMessage, InSet}
use Rattle.dimse.specs.Status.{out_of_resources}
use Rattle.decisions.specs.declared.decision.Decision.TheVariants as decision
use Rattle.engine.specs.Timeline.{Entry, At, Shut, Finding, good, Happened}
use Rattle.engine.specs.Progress.{Progress}
use Rattle.engine.specs.Reached.{Reached, message_so_far}
use Rattle.engine.specs.Held.{held_before_data}
use Rattle.engine.specs.Run.{progress_of, sent_of, files_of, wire_failures, filing_failures}
use Rattle.engine.specs.Examples.{rooms, settings}
use Rattle.negotiate.specs.Allowed.{nothing_additional}

-- the body of a request of SCANNER1 for CT images in Explicit VR Little Endian
abbrev pub request_body : List ℕ
request_body =
    0 ∷ 1 ∷ 0 ∷ 0 ∷ 68 ∷ 67 ∷ 77 ∷ 66 ∷ 79 ∷ 88 ∷ 32 ∷ 32 ∷ 32 ∷ 32 ∷ 32 ∷ 32 ∷ 32 ∷ 32 ∷ 32 ∷ 32 ∷ 83 ∷ 67 ∷ 65
    ∷ 78 ∷ 78 ∷ 69 ∷ 82 ∷ 49 ∷ 32 ∷ 32 ∷ 32 ∷ 32 ∷ 32 ∷ 32 ∷ 32 ∷ 32 ∷ 0 ∷ 0 ∷ 0 ∷ 0 ∷ 0 ∷ 0 ∷ 0 ∷ 0 ∷ 0 ∷ 0 ∷ 0 ∷ 0
    ∷ 0 ∷ 0 ∷ 0 ∷ 0 ∷ 0 ∷ 0 ∷ 0 ∷ 0 ∷ 0 ∷ 0 ∷ 0 ∷ 0 ∷ 0 ∷ 0 ∷ 0 ∷ 0 ∷ 0 ∷ 0 ∷ 0 ∷ 0 ∷ 16 ∷ 0 ∷ 0 ∷ 21 ∷ 49 ∷ 46 ∷ 50
    ∷ 46 ∷ 56 ∷ 52 ∷ 48 ∷ 46 ∷ 49 ∷ 48 ∷ 48 ∷ 48 ∷ 56 ∷ 46 ∷ 51 ∷ 46 ∷ 49 ∷ 46 ∷ 49 ∷ 46 ∷ 49 ∷ 32 ∷ 0 ∷ 0 ∷ 56 ∷ 1
    ∷ 0 ∷ 0 ∷ 0 ∷ 48 ∷ 0 ∷ 0 ∷ 25 ∷ 49 ∷ 46 ∷ 50 ∷ 46 ∷ 56 ∷ 52 ∷ 48 ∷ 46 ∷ 49 ∷ 48 ∷ 48 ∷ 48 ∷ 56 ∷ 46 ∷ 53 ∷ 46
    ∷ 49 ∷ 46 ∷ 52 ∷ 46 ∷ 49 ∷ 46 ∷ 49 ∷ 46 ∷ 50 ∷ 64 ∷ 0 ∷ 0 ∷ 19 ∷ 49 ∷ 46 ∷ 50 ∷ 46 ∷ 56 ∷ 52 ∷ 48 ∷ 46 ∷ 49 ∷ 48
    ∷ 48 ∷ 48 ∷ 56 ∷ 46 ∷ 49 ∷ 46 ∷ 50 ∷ 46 ∷ 49 ∷ 80 ∷ 0 ∷ 0 ∷ 17 ∷ 81 ∷ 0 ∷ 0 ∷ 4 ∷ 0 ∷ 0 ∷ 64 ∷ 0 ∷ 82 ∷ 0 ∷ 0
    ∷ 5 ∷ 49 ∷ 46 ∷ 50 ∷ 46 ∷ 51 ∷ []

-- a C-STORE-RQ of the instance 1.2.3
abbrev pub command : List ℕ
command =
    0 ∷ 0 ∷ 0 ∷ 0 ∷ 4 ∷ 0 ∷ 0 ∷ 0 ∷ 88 ∷ 0 ∷ 0 ∷ 0 ∷ 0 ∷ 0 ∷ 2 ∷ 0 ∷ 26 ∷ 0 ∷ 0 ∷ 0 ∷ 49 ∷ 46 ∷ 50 ∷ 46 ∷ 56 ∷ 52
    ∷ 48 ∷ 46 ∷ 49 ∷ 48 ∷ 48 ∷ 48 ∷ 56 ∷ 46 ∷ 53 ∷ 46 ∷ 49 ∷ 46 ∷ 52 ∷ 46 ∷ 49 ∷ 46 ∷ 49 ∷ 46 ∷ 50 ∷ 0 ∷ 0 ∷ 0 ∷ 0
    ∷ 1 ∷ 2 ∷ 0 ∷ 0 ∷ 0 ∷ 1 ∷ 0 ∷ 0 ∷ 0 ∷ 16 ∷ 1 ∷ 2 ∷ 0 ∷ 0 ∷ 0 ∷ 7 ∷ 0 ∷ 0 ∷ 0 ∷ 0 ∷ 7 ∷ 2 ∷ 0 ∷ 0 ∷ 0 ∷ 0 ∷ 0 ∷ 0
    ∷ 0 ∷ 0 ∷ 8 ∷ 2 ∷ 0 ∷ 0 ∷ 0 ∷ 0 ∷ 0 ∷ 0 ∷ 0 ∷ 0 ∷ 16 ∷ 6 ∷ 0 ∷ 0 ∷ 0 ∷ 49 ∷ 46 ∷ 50 ∷ 46 ∷ 51 ∷ 0 ∷ []

-- the data set of the instance: its SOP class and instance UIDs
abbrev pub data_set : List ℕ
data_set = one_store

-- the established association of this request
abbrev pub accepted : Progress
accepted = record { state = Sta6; request = record { additional = nothing_additional; body = request_body }; refused = false; message = NoMessage; filing_failed = false; decided = decision.Nothing }

-- an entry with its outcome: whether a call of the filing failed before it, the finding on the C-STORE that ends with
-- it, and after how many bytes a send failed
abbrev pub reported : Entry → Bool → Finding → Option ℕ → Happened
reported e failed finding wire = (e, record { wire = wire; filing = failed; finding = finding })

abbrev pub the_command : Happened
the_command = reported (At (Pdv 1 3 command)) false good None

abbrev pub the_set : Bool → Finding → Option ℕ → Happened
the_set failed finding wire = reported (At (Pdv 1 2 data_set)) failed finding wire

abbrev pub a_store : Happened → List Happened
a_store set = the_command ∷ set ∷ []

-- the trace stores files of these lengths, sends so many bytes, and leads to this state
abbrev pub Arrives : List Happened → List ℕ → ℕ → State → Type 0
Arrives story files sent state =
    (map length (files_of rooms settings accepted story) ≡ files) × (length (sent_of rooms settings accepted story) ≡ sent) × ((progress_of rooms settings accepted story).state ≡ state)

-- a C-STORE is stored as a file of 336 bytes, and answered with 112
abbrev pub AStoreIsFiled : Type 0
AStoreIsFiled = Arrives (a_store (the_set false good None)) (336 ∷ []) 112 Sta6

abbrev pub unfiled : Finding
unfiled = record { status = out_of_resources; detail = None }

-- The filing fails in the first of two C-STOREs: that is answered with A700 and leaves no file, the second one is
-- stored, and one failure is counted.
abbrev pub AFilingFailsOnce : Type 0
AFilingFailsOnce = let story = a_store (the_set true unfiled None) ++ a_store (the_set false good None) in
    Arrives story (336 ∷ []) 224 Sta6 × (filing_failures story false ≡ 1)

-- a send that fails in the response: the file stays, and the association ends
abbrev pub ACutReply : Type 0
ACutReply = let story = a_store (the_set false good (Some 5)) in Arrives story (336 ∷ []) 5 Sta1 × (wire_failures story ≡ 1)

-- the transport connection is closed inside the data set: no file is stored
abbrev pub ACloseInADataSet : Type 0
ACloseInADataSet = Arrives (the_command ∷ reported Shut false good None ∷ []) [] 0 Sta1

-- the state inside the P-DATA-TF of the data set, after both heads and 39 bytes of the data set
abbrev pub in_the_set : Reached
in_the_set = record { progress = progress_of rooms settings accepted (the_command ∷ []); rest = 4 ∷ 0 ∷ 0 ∷ 0 ∷ 0 ∷ 54 ∷ 0 ∷ 0 ∷ 0 ∷ 50 ∷ 1 ∷ 2 ∷ take 39 data_set }

-- in that state 24 bytes of the request and 100 of the command set are held; with the 31 of the walker, 155
abbrev pub HeldInADataSet : Type 0
HeldInADataSet = (message_so_far in_the_set ≡ InSet 1 command (take 39 data_set)) × (held_before_data in_the_set ≡ 124)
