-- The effect of the entries of a timeline (PS3.8 section 9.2): what is sent, which files are stored, and the state.
use Rattle.std.specs.Prelude.{ℕ, ◌+◌, ◌-◌, Bool, true, false, ◌&&◌, List, [], ◌∷◌, ◌++◌, take, Option, Some, None, nat_eq, if◌then◌else◌}
use Rattle.acceptor.specs.declared.state.State.TheVariants.{Sta1}
use Rattle.acceptor.specs.declared.event.Event.TheVariants as event
use Rattle.pdu.specs.Marks.{Mark, Head, PdvHead, Pdv, BadPdv, Leftover, End}
use Rattle.pdu.specs.Types.{associate_rq, release_rq, abort}
use Rattle.pdu.specs.Sizes.{head_size, pdv_head_size}
use Rattle.pdu.specs.Texts.{reject_text}
use Rattle.negotiate.specs.Rejections.{rejected_transient, service_provider_presentation, local_limit_exceeded}
use Rattle.negotiate.specs.Settings.{Settings}
use Rattle.engine.specs.Timeline.{Entry, At, Shut, TimedOut, Aborted, Finding, Happened}
use Rattle.decisions.specs.declared.decision.Decision.TheVariants as decision
use Rattle.decisions.specs.ValueEnds.{value_end}
use Rattle.engine.specs.Progress.{Progress, absorb, remaining, deciding, deciding_unless_ended, is_due, is_established, Advance, nothing, followed_by, done, refusing}
use Rattle.engine.specs.Heads.{NoEvent, AtOnce, TooLong, abort_reason, head_event}
use Rattle.engine.specs.Requests.{at_request}
use Rattle.engine.specs.Replies.{invalid, at_pdv_head, at_pdv}

-- the limits of an association: `request` bytes of a request's body and two heads, `command` of a command set, `values`
-- of kept values and a header, and `depth` open levels
pub record Rooms : Type 0 where
  pub request : ℕ
  pub command : ℕ
  pub values : ℕ
  pub depth : ℕ

-- the limits of an association, from the const parameters of its type
-- e.g. (rooms_of 65536 1024 256 64).command ≡ 1024
abbrev pub rooms_of : ℕ → ℕ → ℕ → ℕ → Rooms
rooms_of A C V D = record { request = A; command = C; values = V; depth = D }

-- the size of the heads of a PDU and of a presentation data value, which count toward the limit of a request
-- e.g. heads_size ≡ 12
abbrev pub heads_size : ℕ
heads_size = head_size + pdv_head_size

-- ---- one entry

-- the effect of the head of a PDU in this state (law `engine::a_request_above_the_room`)
abbrev pub at_head : Rooms → Settings → Progress → ℕ → ℕ → Advance
at_head rooms s p kind n = elim (head_event (rooms.request - heads_size) s.max_pdu p.state kind n) [
  | NoEvent ↦ nothing (deciding_unless_ended decision.Nothing p)
  | AtOnce e fault ↦ refusing (done [] (abort_reason fault) (deciding_unless_ended (decision.PduRefused (record { kind = kind; length = n }) fault) p) e)
  | TooLong ↦ refusing (done (reject_text rejected_transient service_provider_presentation local_limit_exceeded) 0 (deciding_unless_ended (decision.RequestTooLong n) p) event.UnacceptableRq)
]

-- the effect of an A-RELEASE-RQ: the local user agrees, and an A-RELEASE-RP is sent
-- e.g. (released (record at_start { state = Sta6 })).sent ≡ 6 ∷ 0 ∷ 0 ∷ 0 ∷ 0 ∷ 4 ∷ 0 ∷ 0 ∷ 0 ∷ 0 ∷ []
abbrev pub released : Progress → Advance
released p = followed_by (done [] 0 p event.ReleaseRq) (λ q. done [] 0 q event.UserReleases)

-- the effect of the end of a PDU that was not answered before
-- e.g. (at_end (settings_by_default [] 16384 1024) at_start 7 []).next.state ≡ Sta1
abbrev pub at_end : Settings → Progress → ℕ → List ℕ → Advance
at_end s p kind body =
    if nat_eq kind abort then done [] 0 (deciding_unless_ended decision.Aborted p) event.Abort
    else (if nat_eq kind associate_rq && is_due p.state then at_request s p body
    else (if nat_eq kind release_rq && is_established p.state then released (deciding decision.Released p)
    else nothing p))

-- The effect of a mark of a PDU that was not answered before. Presentation data values have one only in an established
-- association (law `engine::recorded_echo`).
abbrev pub at_mark : Rooms → Settings → Progress → Finding → Mark → Advance
at_mark rooms s p finding (Head kind n) = at_head rooms s p kind n
at_mark rooms s p finding (PdvHead n context control) = if is_established p.state then at_pdv_head rooms.command p n context control else nothing p
at_mark rooms s p finding (Pdv context control fragment) =
    if is_established p.state then at_pdv p finding (record { context = context; control = control; fragment = fragment }) else nothing p
at_mark rooms s p finding BadPdv = if is_established p.state then invalid (deciding decision.BadPdv p) else nothing p
at_mark rooms s p finding Leftover = if is_established p.state then invalid (deciding (decision.Leftover (value_end p.decided)) p) else nothing p
at_mark rooms s p finding (End kind body) = at_end s p kind body

-- Whether a mark is the head of a PDU. The other marks of a PDU that was already answered have no effect.
-- e.g. begins (Head 5 0) ≡ true; begins (End 5 []) ≡ false
abbrev pub begins : Mark → Bool
begins (Head kind n) = true
begins mark = false

-- the effect of an entry, with the finding on the C-STORE that it may end (law `engine::after_the_end`)
abbrev pub at_entry : Rooms → Settings → Progress → Finding → Entry → Advance
at_entry rooms s p finding (At mark) =
    if begins mark then at_mark rooms s (record p { refused = false }) finding mark
    else (if p.refused then nothing p else at_mark rooms s p finding mark)
at_entry rooms s p finding Shut = done [] 0 p event.Closed
at_entry rooms s p finding TimedOut = done [] 0 p event.Expired
at_entry rooms s p finding Aborted = done [] 0 p event.UserAborts

-- the effect if a send failed after k bytes: only these are sent, and the association ends as if the transport
-- connection had been closed; a file that was stored stays, and so does what was decided (law `engine::a_cut_reply`)
-- e.g. (cut (Some 1) at_start (record { next = at_start; sent = 7 ∷ 8 ∷ []; files = [] })).sent ≡ 7 ∷ []
-- e.g. (cut (Some 1) at_start (record { next = deciding decision.Aborted at_start; sent = 7 ∷ []; files = []
-- })).next.decided ≡ decision.Aborted
abbrev pub cut : Option ℕ → Progress → Advance → Advance
cut None p g = g
cut (Some k) p g = record { next = remaining Sta1 (deciding g.next.decided p); sent = take k g.sent; files = g.files }

-- the effect of an entry with its outcome: of a failed send only a part is sent, and a failed call of the filing counts
-- for the unfinished message (law `engine::recorded_echo`)
abbrev pub gives : Rooms → Settings → Progress → Happened → Advance
gives rooms s p happened = cut happened.1.wire p (at_entry rooms s (absorb happened.1.filing p) happened.1.finding happened.0)

-- ---- the timeline

-- the state of an association after these entries, from the state p (law `engine::after_the_end`)
abbrev pub progress_of : Rooms → Settings → Progress → List Happened → Progress
progress_of rooms s p [] = p
progress_of rooms s p (h ∷ story) = progress_of rooms s (gives rooms s p h).next story

-- the bytes that are sent along these entries, from the state p (law `engine::recorded_echo`)
abbrev pub sent_of : Rooms → Settings → Progress → List Happened → List ℕ
sent_of rooms s p [] = []
sent_of rooms s p (h ∷ story) = (gives rooms s p h).sent ++ sent_of rooms s (gives rooms s p h).next story

-- the files that are stored along these entries, oldest first (law `engine::a_store_is_filed`)
abbrev pub files_of : Rooms → Settings → Progress → List Happened → List (List ℕ)
files_of rooms s p [] = []
files_of rooms s p (h ∷ story) = (gives rooms s p h).files ++ files_of rooms s (gives rooms s p h).next story

-- 1 if a send failed, else 0
-- e.g. fails (Some 3) ≡ 1
abbrev pub fails : Option ℕ → ℕ
fails None = 0
fails (Some k) = 1

-- the number of failed sends
-- e.g. wire_failures [] ≡ 0
abbrev pub wire_failures : List Happened → ℕ
wire_failures [] = 0
wire_failures (h ∷ story) = fails h.1.wire + wire_failures story

-- 1 for yes, 0 for no
-- e.g. counted true ≡ 1
abbrev pub counted : Bool → ℕ
counted true = 1
counted false = 0

-- The number of messages in which a call of the filing failed: each is counted once, at the entry after the failure,
-- or by `failed` after the last entry.
-- e.g. filing_failures [] true ≡ 1
abbrev pub filing_failures : List Happened → Bool → ℕ
filing_failures [] failed = counted failed
filing_failures (h ∷ story) failed = counted h.1.filing + filing_failures story failed
