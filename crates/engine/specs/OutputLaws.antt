-- Bounds on the number of bytes that an association sends.
use Rattle.std.specs.Prelude.{◌≡◌, ℕ, ◌+◌, ◌*◌, ◌≤◌, Bool, List, [], ◌∷◌, ◌++◌, length, Some, None}
use Rattle.std.specs.List.{AllByRecursion}
use Rattle.element.specs.Numbers.{IsBytes}
use Rattle.pdu.specs.Items.{request_record}
use Rattle.pdu.specs.Refusal.{request_fault}
use Rattle.pdu.specs.Marks.{Pdv, End, new_marks}
use Rattle.negotiate.specs.Accept.{accept_text, longest_accept}
use Rattle.negotiate.specs.Settings.{Settings}
use Rattle.dimse.specs.Messages.{Goes, Ends, Refuses, brought}
use Rattle.dimse.specs.Reading.{command_in}
use Rattle.engine.specs.Fair.{IsStory}
use Rattle.engine.specs.Inputs.{Received, Bytes, Close, Expiry, UserAbort, stream_of}
use Rattle.engine.specs.Progress.{Progress, at_start, absorb}
use Rattle.engine.specs.Replies.{replied}
use Rattle.engine.specs.Run.{Rooms, at_entry, gives, progress_of, sent_of}
use Rattle.engine.specs.Timeline.{Entry, At, Finding, Happened, entries, entries_of}

-- a byte completes at most four marks
abbrev pub FewMarks : Type 0
FewMarks = (before piece : List ℕ) → length (new_marks before piece) ≤ 4 * length piece

-- the size of the answer that this entry causes: the A-ASSOCIATE-AC to a request, or the response to a message; 0 if
-- it ends neither
abbrev pub answer_length : Settings → Progress → Finding → Entry → ℕ
answer_length s p finding (At (End kind body)) = elim (request_fault body) [ None ↦ length (accept_text s (request_record body)) | Some fault ↦ 0 ]
answer_length s p finding (At (Pdv context control fragment)) = elim (brought p.message (record { context = context; control = control; fragment = fragment })) [
  | Goes started ↦ 0
  | Ends m ↦ length (replied p finding m (command_in m.command)).sent
  | Refuses fault ↦ 0
]
answer_length s p finding e = 0

-- the most bytes that an entry sends in addition to its answer, and an abort of the local user
abbrev pub most_beside_answers : ℕ
most_beside_answers = 30

-- an entry sends at most so many bytes and its answer
abbrev pub FewBytesButAnswers : Type 0
FewBytesButAnswers = (rooms : Rooms) (s : Settings) (p : Progress) (finding : Finding) (e : Entry) → length (at_entry rooms s p finding e).sent ≤ most_beside_answers + answer_length s p finding e

-- each answer along the trace has at most `most` bytes
abbrev pub AnswersHave : Rooms → Settings → ℕ → Progress → List Happened → Type 0
AnswersHave rooms s most p [] = Unit {0}
AnswersHave rooms s most p (h ∷ story) = (answer_length s (absorb h.1.filing p) h.1.finding h.0 ≤ most) × AnswersHave rooms s most (gives rooms s p h).next story

-- for each byte of a piece at most four times so many bytes and an answer are sent, where no answer has more than
-- `most` bytes
abbrev pub BoundedOutput : Type 0
BoundedOutput =
    (rooms : Rooms) (s : Settings) (p : Progress) (story : List Happened) (before piece : List ℕ) (most : ℕ)
    → entries_of story ≡ entries before (Bytes piece ∷ []) → AnswersHave rooms s most p story
    → length (sent_of rooms s p story) ≤ 4 * length piece * (most_beside_answers + most)

-- the body of a PDU that ends with this entry is a list of bytes
abbrev pub IsOfBytes : Entry → Type 0
IsOfBytes (At (End kind body)) = IsBytes body
IsOfBytes e = Unit {0}

-- the answer that an entry causes is not longer than the longest A-ASSOCIATE-AC
abbrev pub AnswersAreShort : Type 0
AnswersAreShort = (s : Settings) (p : Progress) (finding : Finding) (e : Entry) → IsOfBytes e → answer_length s p finding e ≤ longest_accept

-- each answer along a trace is not longer than the longest A-ASSOCIATE-AC
abbrev pub StoriesAnswerShortly : Type 0
StoriesAnswerShortly = (rooms : Rooms) (s : Settings) (p : Progress) (story : List Happened) → AllByRecursion IsOfBytes (entries_of story) → AnswersHave rooms s longest_accept p story

-- the most bytes that four marks have an association send: 18,600
abbrev pub most_sent : ℕ
most_sent = 4 * (most_beside_answers + longest_accept)

-- for each byte of a piece at most that many bytes are sent
abbrev pub OutputOfAPiece : Type 0
OutputOfAPiece =
    (rooms : Rooms) (s : Settings) (p : Progress) (story : List Happened) (before piece : List ℕ)
    → entries_of story ≡ entries before (Bytes piece ∷ []) → AllByRecursion IsOfBytes (entries_of story)
    → length (sent_of rooms s p story) ≤ most_sent * length piece

-- after these inputs, at most that many bytes are sent for a piece of at most `most` bytes
abbrev pub SendsFew : Rooms → Settings → List Received → List Happened → ℕ → Type 0
SendsFew rooms s inputs story most =
    (piece : List ℕ) (more : List Happened) → length piece ≤ most → IsBytes (stream_of inputs ++ piece) → entries_of more ≡ entries (stream_of inputs) (Bytes piece ∷ [])
    → length (sent_of rooms s (progress_of rooms s at_start story) more) ≤ most_sent

-- the entries that one more input appends to a trace are those that the definition of the timeline gives for it
abbrev pub EntriesOfMore : Type 0
EntriesOfMore =
    (rooms : Rooms) (s : Settings) (inputs : List Received) (input : Received) (story more : List Happened) (failed failed_then : Bool)
    → IsStory rooms s inputs story failed → IsStory rooms s (inputs ++ input ∷ []) (story ++ more) failed_then → entries_of more ≡ entries (stream_of inputs) (input ∷ [])

-- an input for which nothing is sent: the close of the transport connection, and the expiry of the ARTIM timer
abbrev pub IsSilent : Received → Type 0
IsSilent (Bytes piece) = ⊥
IsSilent Close = Unit {0}
IsSilent Expiry = Unit {0}
IsSilent UserAbort = ⊥

abbrev pub SilentSendsNothing : Type 0
SilentSendsNothing =
    (rooms : Rooms) (s : Settings) (p : Progress) (before : List ℕ) (input : Received) (more : List Happened) → IsSilent input → entries_of more ≡ entries before (input ∷ [])
    → sent_of rooms s p more ≡ []

-- an abort of the local user sends at most so many bytes
abbrev pub AbortsShortly : Type 0
AbortsShortly = (rooms : Rooms) (s : Settings) (p : Progress) (before : List ℕ) (more : List Happened)
    → entries_of more ≡ entries before (UserAbort ∷ []) → length (sent_of rooms s p more) ≤ most_beside_answers
