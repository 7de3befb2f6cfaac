-- Example associations for the definitions, each with one that has another result.
use Rattle.std.specs.Prelude.{◌≡◌, ℕ, ◌^◌, false, List, [], ◌∷◌, ◌++◌, take, drop, map, None, codes}
use Rattle.acceptor.specs.declared.state.State.{State}
use Rattle.acceptor.specs.declared.state.State.TheVariants.{Sta1, Sta2, Sta6, Sta13}
use Rattle.pdu.specs.Marks.{Head}
use Rattle.negotiate.specs.Settings.{Settings}
use Rattle.dimse.specs.Messages.{NoMessage}
use Rattle.engine.specs.Inputs.{Bytes, Close}
use Rattle.engine.specs.Timeline.{Entry, At, TimedOut, good, Happened, entries}
use Rattle.decisions.specs.declared.decision.Decision.TheVariants.{Nothing}
use Rattle.engine.specs.Progress.{Progress, at_start}
use Rattle.engine.specs.Requested.{no_request}
use Rattle.engine.specs.Run.{Rooms, progress_of, sent_of}
use Rattle.engine.specs.Held.{held_before_data}
use Rattle.engine.specs.Reached.{reached}
use Rattle.engine.specs.Recording.{request, other_request, echo, release, accept, reply, released}
use Rattle.negotiate.specs.Allowed.{nothing_additional}

abbrev pub rooms : Rooms
rooms = record { request = 65536; command = 1024; values = 256; depth = 64 }

abbrev pub settings : Settings
settings = record { called = codes "DCMBOX          " ∷ []; any_called = false; callers = []; max_pdu = 16384; max_data = 2 ^ 40; additional = nothing_additional }

-- these entries with outcomes in which no device fails
abbrev pub calm : List Entry → List Happened
calm es = map (λ e. (e, record { wire = None; filing = false; finding = good })) es

abbrev pub SentBy : List Entry → List ℕ → State → Type 0
SentBy es sent state = (sent_of rooms settings at_start (calm es) ≡ sent) × ((progress_of rooms settings at_start (calm es)).state ≡ state)

-- ---- heads

-- a request one byte above the limit is rejected at its head, the body of one that just fits is read
abbrev pub ARequestAboveTheRoom : Type 0
ARequestAboveTheRoom =
    SentBy (entries [] (Bytes (1 ∷ 0 ∷ 0 ∷ 0 ∷ 255 ∷ 245 ∷ []) ∷ [])) (3 ∷ 0 ∷ 0 ∷ 0 ∷ 0 ∷ 4 ∷ 0 ∷ 2 ∷ 3 ∷ 2 ∷ []) Sta13
    × SentBy (entries [] (Bytes (1 ∷ 0 ∷ 0 ∷ 0 ∷ 255 ∷ 244 ∷ []) ∷ [])) [] Sta2

-- GET / is no PDU: it is answered with an A-ABORT at its sixth byte and not before
abbrev pub BytesThatAreNoPdu : Type 0
BytesThatAreNoPdu =
    SentBy (entries [] (Bytes (codes "GET / ") ∷ [])) (7 ∷ 0 ∷ 0 ∷ 0 ∷ 0 ∷ 4 ∷ 0 ∷ 0 ∷ 0 ∷ 0 ∷ []) Sta13
    × SentBy (entries [] (Bytes (codes "GET /") ∷ [])) [] Sta2

abbrev pub established : Progress
established = record { state = Sta6; request = no_request; refused = false; message = NoMessage; filing_failed = false; decided = Nothing }

abbrev pub closing : Progress
closing = record { state = Sta13; request = no_request; refused = false; message = NoMessage; filing_failed = false; decided = Nothing }

-- a P-DATA-TF one byte above the announced maximum length is answered with an A-ABORT at its head, one of that length
-- is read
abbrev pub DataAboveTheMaximum : Type 0
DataAboveTheMaximum =
    (sent_of rooms settings established (calm (At (Head 4 16385) ∷ [])) ≡ 7 ∷ 0 ∷ 0 ∷ 0 ∷ 0 ∷ 4 ∷ 0 ∷ 0 ∷ 2 ∷ 6 ∷ [])
    × (sent_of rooms settings established (calm (At (Head 4 16384) ∷ [])) ≡ [])

-- in Sta13 a P-DATA-TF has no effect, a request is answered with an A-ABORT, and the expiry of the ARTIM timer ends
-- the association
abbrev pub AfterTheEnd : Type 0
AfterTheEnd =
    (sent_of rooms settings closing (calm (At (Head 4 100) ∷ At (Head 1 100) ∷ [])) ≡ 7 ∷ 0 ∷ 0 ∷ 0 ∷ 0 ∷ 4 ∷ 0 ∷ 0 ∷ 2 ∷ 2 ∷ [])
    × ((progress_of rooms settings closing (calm (TimedOut ∷ []))).state ≡ Sta1)
    × (sent_of rooms settings closing (calm (At (Head 4 100) ∷ [])) ≡ [])

-- ---- the recorded echo

abbrev pub recording : List ℕ
recording = request ++ echo ++ release

-- The recorded C-ECHO gives the recorded answer; without the last byte of the A-RELEASE-RQ it gives no A-RELEASE-RP.
abbrev pub RecordedEcho : Type 0
RecordedEcho =
    SentBy (entries [] (Bytes recording ∷ Close ∷ [])) (accept ++ reply ++ released) Sta1
    × SentBy (entries [] (Bytes (take 259 recording) ∷ [])) (accept ++ reply) Sta6

-- a request with another called AE title is rejected by the local user
abbrev pub AnotherCalledTitle : Type 0
AnotherCalledTitle = SentBy (entries [] (Bytes other_request ∷ [])) (3 ∷ 0 ∷ 0 ∷ 0 ∷ 0 ∷ 4 ∷ 0 ∷ 1 ∷ 1 ∷ 7 ∷ []) Sta13

-- after the first `received` bytes of the recording n bytes are held, data sets not counted
abbrev pub HeldAfter : ℕ → ℕ → Type 0
HeldAfter received n =
    held_before_data (reached rooms settings (Bytes (take received recording) ∷ []) (calm (entries [] (Bytes (take received recording) ∷ []))) false) ≡ n

-- the number of held bytes: 24 of the accepted request; 3 more inside the next head; 10 of the command set after
-- that; in the middle of the request its body so far; and none after the release
abbrev pub HeldDuringTheEcho : Type 0
HeldDuringTheEcho = HeldAfter 170 24 × HeldAfter 173 27 × HeldAfter 192 34 × HeldAfter 100 94 × HeldAfter 260 0

-- A PDU with a C-ECHO and an invalid presentation data value after it: the C-ECHO is answered, and then the
-- association aborted; the bytes before the invalid head cause no A-ABORT.
abbrev pub echo_and_more : List ℕ
echo_and_more = 4 ∷ 0 ∷ 0 ∷ 0 ∷ 0 ∷ 80 ∷ (drop 6 echo ++ 0 ∷ 0 ∷ 0 ∷ 1 ∷ 1 ∷ 3 ∷ [])

abbrev pub AGoodPdvBeforeABadOne : Type 0
AGoodPdvBeforeABadOne =
    SentBy (entries [] (Bytes (request ++ echo_and_more) ∷ [])) (accept ++ reply ++ 7 ∷ 0 ∷ 0 ∷ 0 ∷ 0 ∷ 4 ∷ 0 ∷ 0 ∷ 2 ∷ 6 ∷ []) Sta13
    × SentBy (entries [] (Bytes (take 255 (request ++ echo_and_more)) ∷ [])) (accept ++ reply) Sta6
