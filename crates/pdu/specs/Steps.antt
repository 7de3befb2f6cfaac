-- How a call of `Deframer::next` changes the position: by the bytes that it consumes and the event that it returns.
use Rattle.std.specs.Prelude.{◌≡◌, ℕ, ◌+◌, ◌-◌, ◌≤◌, min, List, ◌++◌, length, Option, Some, None, nat_eq, if◌then◌else◌}
use Rattle.arrayvec.specs.ArrayVec.{array_vec_len}
use Rattle.pdu.specs.declared.head.PduHead.{PduHead}
use Rattle.pdu.specs.declared.head.PdvHead.{PdvHead}
use Rattle.pdu.specs.declared.position.Position.{Position}
use Rattle.pdu.specs.declared.position.Position.TheVariants as position
use Rattle.pdu.specs.declared.event.Event.{Event}
use Rattle.pdu.specs.declared.event.Event.TheVariants as event
use Rattle.pdu.specs.Types.{p_data_tf}
use Rattle.pdu.specs.Sizes.{head_size, pdv_head_size, pdv_least}
use Rattle.pdu.specs.Heads.{pdu_head_of, pdv_head_of}

-- ---- the remaining bytes and events

-- the type of the PDU whose body is reported; 0 outside a body
abbrev pub body_kind : Position → ℕ
body_kind (position.Body kind remaining) = kind
body_kind other = 0

-- how many bytes of the body remain; 0 outside a body
abbrev pub body_due : Position → ℕ
body_due (position.Body kind remaining) = remaining
body_due other = 0

-- how many bytes of the fragment remain; 0 outside a fragment
abbrev pub fragment_due : Position → ℕ
fragment_due (position.Fragment remaining more) = more
fragment_due other = 0

-- how many bytes are missing from the unfinished part: a head, a body, a fragment, or a PDU that is skipped
abbrev pub bytes_due : Position → ℕ
bytes_due (position.Head bytes) = head_size - array_vec_len bytes
bytes_due (position.Body kind remaining) = remaining
bytes_due (position.PdvHead remaining bytes) = min remaining (pdv_head_size - array_vec_len bytes)
bytes_due (position.Fragment remaining more) = more
bytes_due (position.Leftover remaining) = 0
bytes_due (position.Skipped kind remaining) = remaining

-- the greatest number of events before the next byte is consumed
abbrev pub events_due : Position → ℕ
events_due (position.Head bytes) = 0
events_due (position.Body kind remaining) = if nat_eq remaining 0 then 1 else 0
events_due (position.PdvHead remaining bytes) = 0
events_due (position.Fragment remaining more) = if nat_eq more 0 then 3 else 0
events_due (position.Leftover remaining) = 2
events_due (position.Skipped kind remaining) = if nat_eq remaining 0 then 1 else 0

-- ---- the position after a call

-- the position after `skip_frame`
abbrev pub skip_of : Position → Position
skip_of (position.Head bytes) = position.Head bytes
skip_of (position.Body kind remaining) = position.Skipped kind remaining
skip_of (position.PdvHead remaining bytes) = position.Skipped p_data_tf remaining
skip_of (position.Fragment remaining more) = position.Skipped p_data_tf remaining
skip_of (position.Leftover remaining) = position.Skipped p_data_tf remaining
skip_of (position.Skipped kind remaining) = position.Skipped kind remaining

abbrev pub IsInHead : Position → Type 0
IsInHead (position.Head bytes) = Unit {0}
IsInHead other = ⊥

abbrev pub IsInPdvHead : Position → Type 0
IsInPdvHead (position.PdvHead remaining bytes) = Unit {0}
IsInPdvHead other = ⊥

abbrev pub IsSkipped : Position → Type 0
IsSkipped (position.Skipped kind remaining) = Unit {0}
IsSkipped other = ⊥

abbrev pub FollowsHead : PduHead → Position → Type 0
FollowsHead head (position.PdvHead remaining bytes) = head.kind ≡ p_data_tf
FollowsHead head (position.Body kind remaining) = (kind ≡ head.kind) × (remaining ≡ head.length)
FollowsHead head other = ⊥

abbrev pub FollowsPdv : Position → Type 0
FollowsPdv (position.Body kind remaining) = kind ≡ p_data_tf
FollowsPdv (position.PdvHead remaining bytes) = Unit {0}
FollowsPdv (position.Leftover remaining) = Unit {0}
FollowsPdv other = ⊥

-- the event of the head of a presentation data value and the position after it, where `remaining` bytes of the PDU remain
abbrev pub FollowsPdvHead : PdvHead → ℕ → Event → Position → Type 0
FollowsPdvHead head remaining event.BadPdv new = new ≡ position.Body p_data_tf remaining
FollowsPdvHead head remaining (event.PdvHead reported) new = (reported ≡ head) × (pdv_least ≤ head.length) × (head.length ≤ remaining + pdv_least) × (new ≡ position.Fragment remaining (head.length - pdv_least))
FollowsPdvHead head remaining other new = ⊥

-- ---- a call

-- the six bytes are this head of a PDU, and the position follows it
pub record HeadIsWhole (six : List ℕ) (head : PduHead) (new : Position) : Type 0 where
  pub all : length six ≡ head_size
  pub head_is : head ≡ pdu_head_of six
  pub follows : FollowsHead head new

pub record PdvHeadIsWhole (remaining n : ℕ) (six : List ℕ) (e : Event) (new : Position) : Type 0 where
  pub all : length six ≡ pdv_head_size
  pub within : n ≤ remaining
  pub follows : FollowsPdvHead (pdv_head_of six) (remaining - n) e new

-- the slice in the event is the n consumed bytes, of at most `most` that remained
pub record IsLent (part consumed : List ℕ) (n most : ℕ) (new next : Position) : Type 0 where
  pub part_is : part ≡ consumed
  pub within : n ≤ most
  pub new_is : new ≡ next

abbrev pub Steps : Position → ℕ → List ℕ → Option Event → Position → Type 0
Steps (position.Head bytes) n consumed None new = IsInHead new
Steps (position.Head bytes) n consumed (Some (event.PduHead head)) new = HeadIsWhole (bytes.items ++ consumed) head new
Steps (position.Body kind remaining) n consumed None new = (n ≡ 0) × (new ≡ position.Body kind remaining)
Steps (position.Body kind remaining) n consumed (Some (event.Body part)) new = IsLent part.now consumed n remaining new (position.Body kind (remaining - n))
Steps (position.Body kind remaining) n consumed (Some (event.PduEnd reported)) new = (reported ≡ kind) × (remaining ≡ 0) × IsInHead new
Steps (position.PdvHead remaining bytes) n consumed None new = IsInPdvHead new
Steps (position.PdvHead remaining bytes) n consumed (Some (event.PduEnd reported)) new = (reported ≡ p_data_tf) × (n ≡ remaining) × IsInHead new
Steps (position.PdvHead remaining bytes) n consumed (Some (event.PdvHead head)) new = PdvHeadIsWhole remaining n (bytes.items ++ consumed) (event.PdvHead head) new
Steps (position.PdvHead remaining bytes) n consumed (Some event.BadPdv) new = PdvHeadIsWhole remaining n (bytes.items ++ consumed) event.BadPdv new
Steps (position.Fragment remaining more) n consumed None new = (n ≡ 0) × (new ≡ position.Fragment remaining more)
Steps (position.Fragment remaining more) n consumed (Some (event.Fragment part)) new = IsLent part.now consumed n more new (position.Fragment (remaining - n) (more - n))
Steps (position.Fragment remaining more) n consumed (Some event.PdvEnd) new = (more ≡ 0) × FollowsPdv new
Steps (position.Leftover remaining) n consumed (Some event.Leftover) new = new ≡ position.Body p_data_tf remaining
Steps (position.Skipped kind remaining) n consumed None new = IsSkipped new
Steps (position.Skipped kind remaining) n consumed (Some (event.PduEnd reported)) new = (reported ≡ kind) × IsInHead new
Steps old n consumed other new = ⊥
