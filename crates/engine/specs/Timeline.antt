-- The timeline of an association: the marks of the received stream (ends of heads, of presentation data values and of
-- PDUs) and the other inputs, in their order (PS3.8 section 9.2.1).
use Rattle.std.specs.Prelude.{ℕ, Bool, List, [], ◌∷◌, ◌++◌, map, Option, None}
use Rattle.pdu.specs.Marks.{Mark, new_marks}
use Rattle.dimse.specs.declared.detail.Detail.{Detail}
use Rattle.dimse.specs.Status.{success}
use Rattle.engine.specs.Inputs.{Received, Bytes, Close, Expiry, UserAbort}

-- an entry of the timeline: a mark of the stream, or the close of the connection, the expiry of the timer, or an abort
-- of the local user
pub data Entry : Type 0 where
  At : (mark : Mark) → Entry
  Shut : Entry
  TimedOut : Entry
  Aborted : Entry

-- the entries that these inputs append to the timeline, after the bytes `before`
-- e.g. entries [] (Bytes (5 ∷ 0 ∷ 0 ∷ []) ∷ Expiry ∷ Bytes (0 ∷ 0 ∷ 0 ∷ []) ∷ []) ≡ TimedOut ∷ At (Head 5 0) ∷ At (End
-- 5 []) ∷ []
abbrev pub entries : List ℕ → List Received → List Entry
entries before [] = []
entries before (Bytes piece ∷ inputs) = map At (new_marks before piece) ++ entries (before ++ piece) inputs
entries before (Close ∷ inputs) = Shut ∷ entries before inputs
entries before (Expiry ∷ inputs) = TimedOut ∷ entries before inputs
entries before (UserAbort ∷ inputs) = Aborted ∷ entries before inputs

-- the finding on a C-STORE: the status of its response, and the cause of a failure
pub record Finding : Type 0 where
  pub status : ℕ
  pub detail : Option Detail

-- the finding of success
-- e.g. good.status ≡ 0
abbrev pub good : Finding
good = record { status = success; detail = None }

-- The outcome of an entry: if a send failed, after how many bytes; whether a call of the filing failed since the
-- entry before; and, if a C-STORE ends with it, the finding on that.
pub record Outcome : Type 0 where
  pub wire : Option ℕ
  pub filing : Bool
  pub finding : Finding

-- an entry of the timeline, with its outcome
abbrev pub Happened : Type 0
Happened = Entry × Outcome

-- the entries of a story, without their outcomes
-- e.g. entries_of [] ≡ []
abbrev pub entries_of : List Happened → List Entry
entries_of story = map (λ h. h.0) story
