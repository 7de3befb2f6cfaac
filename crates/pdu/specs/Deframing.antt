-- The position of a deframer in a stream, and what a call of it does. A position depends on the bytes of the
-- unfinished PDU (frame) alone, and on the marks that are due: those that the last byte completed and no event has
-- reported yet.
use Rattle.std.specs.Prelude.{◌≡◌, ℕ, ◌+◌, ◌-◌, ◌<◌, ◌≤◌, min, true, false, List, [], ◌∷◌, ◌++◌, length, map, Option, Some, None, nat_lt, if◌then◌else◌}
use Rattle.arrayvec.specs.ArrayVec.{array_vec_len}
use Rattle.pdu.specs.declared.position.Position.{Position}
use Rattle.pdu.specs.declared.position.Position.TheVariants as position
use Rattle.pdu.specs.declared.event.Event.{Event}
use Rattle.pdu.specs.declared.event.Event.TheVariants as event
use Rattle.pdu.specs.Types.{p_data_tf}
use Rattle.pdu.specs.Sizes.{head_size, pdv_head_size}
use Rattle.pdu.specs.Frames.{IsFrame, IsRest, rest_of}
use Rattle.pdu.specs.Marks.{Mark, Head, Pdv, Leftover, End, pdv_size, is_leftover, frame_kind, new_marks}
use Rattle.pdu.specs.Spot.{Spot, Opening, Plain, InPdv, spot, room_remaining}
use Rattle.pdu.specs.Parts.{end_mark}
use Rattle.pdu.specs.Events.{Token, Completes, tokens, Reports}

-- r are the first bytes of a PDU of this type, its head included; `remaining` bytes of it remain, and r ends at the spot s
pub record Inside (kind remaining : ℕ) (r : List ℕ) (s : Spot) : Type 0 where
  pub rest : IsRest r
  pub headed : head_size ≤ length r
  pub kind_is : frame_kind r ≡ kind
  pub remaining_is : remaining ≡ room_remaining r
  pub spot_is : spot r ≡ s

-- a PDU of this type is complete, and the mark of its end is due
pub record IsOver (kind remaining : ℕ) (r : List ℕ) (due : List Mark) : Type 0 where
  pub none_remaining : remaining ≡ 0
  pub rest : r ≡ []
  pub body : List ℕ
  pub due_is : due ≡ End kind body ∷ []

pub record AtHead (bytes r : List ℕ) (due : List Mark) : Type 0 where
  pub short : length r < head_size
  pub bytes_are : bytes ≡ r
  pub none_due : due ≡ []

pub data AtBody (kind remaining : ℕ) (r : List ℕ) (due : List Mark) : Type 0 where
  in_body : 0 < remaining → Inside kind remaining r Plain → due ≡ [] → AtBody kind remaining r due
  after_body : IsOver kind remaining r due → AtBody kind remaining r due

pub record AtPdvHead (remaining : ℕ) (bytes r : List ℕ) (due : List Mark) : Type 0 where
  pub inside : Inside p_data_tf remaining r (InPdv bytes)
  pub short : length bytes < pdv_head_size
  pub none_due : due ≡ []

pub record AtLeftover (remaining : ℕ) (r : List ℕ) (due : List Mark) : Type 0 where
  pub inside : Inside p_data_tf remaining r Plain
  pub some : 0 < remaining
  pub due_is : due ≡ Leftover ∷ []

-- the position after a presentation data value: the end of the PDU, leftover bytes, or the head of another value
pub data AfterPdv (remaining : ℕ) (r : List ℕ) (due : List Mark) : Type 0 where
  over : IsOver p_data_tf remaining r due → AfterPdv remaining r due
  leftover : is_leftover remaining ≡ true → AtLeftover remaining r due → AfterPdv remaining r due
  another : 0 < remaining → is_leftover remaining ≡ false → AtPdvHead remaining [] r due → AfterPdv remaining r due

pub record InFragment (remaining more : ℕ) (r : List ℕ) (due : List Mark) : Type 0 where
  pub part : List ℕ
  pub inside : Inside p_data_tf remaining r (InPdv part)
  pub headed : pdv_head_size ≤ length part
  pub more_is : more + length part ≡ pdv_size part
  pub none_due : due ≡ []

pub record AfterFragment (remaining : ℕ) (r : List ℕ) (due : List Mark) : Type 0 where
  pub context : ℕ
  pub control : ℕ
  pub fragment : List ℕ
  pub later : List Mark
  pub due_is : due ≡ Pdv context control fragment ∷ later
  pub next : AfterPdv remaining r later

pub data AtFragment (remaining more : ℕ) (r : List ℕ) (due : List Mark) : Type 0 where
  in_fragment : 0 < more → InFragment remaining more r due → AtFragment remaining more r due
  after_fragment : more ≡ 0 → AfterFragment remaining r due → AtFragment remaining more r due

-- the position is that at the end of the bytes r of an unfinished PDU, with these marks due
abbrev pub At : Position → List ℕ → List Mark → Type 0
At (position.Head bytes) r due = AtHead bytes.items r due
At (position.Body kind remaining) r due = AtBody kind remaining r due
At (position.PdvHead remaining bytes) r due = AtPdvHead remaining bytes.items r due
At (position.Fragment remaining more) r due = AtFragment remaining more r due
At (position.Leftover remaining) r due = AtLeftover remaining r due
At (position.Skipped kind remaining) r due = IsOver kind remaining r due

-- A call consumed some bytes and returned an event or none: the marks that were due and the tokens of the bytes are
-- what the event reports and the marks that are due then. No byte is consumed while a mark is due.
pub record Consumed (new : Position) (r : List ℕ) (due : List Mark) (consumed : List ℕ) (e : Option Event) : Type 0 where
  pub reported : List Token
  pub later : List Mark
  pub all : map Completes due ++ tokens r consumed ≡ reported ++ map Completes later
  pub reports : Reports consumed e reported
  pub is_at : At new (rest_of (r ++ consumed)) later
  pub prompt : 0 < length consumed → due ≡ []
  pub at_once : e ≡ None → later ≡ []

-- Of a body or a fragment, a call consumes all bytes that the piece has of it.
pub record Longest (r : List ℕ) (there consumed : ℕ) : Type 0 where
  pub body : spot r ≡ Plain → consumed ≡ min there (room_remaining r)
  pub fragment : (part : List ℕ) → spot r ≡ InPdv part → pdv_head_size ≤ length part → consumed ≡ min there (pdv_size part - length part)

-- ---- a PDU that is skipped

-- the position is inside a PDU that is skipped, of which the bytes r were read
abbrev pub SkipsAt : Position → List ℕ → Type 0
SkipsAt (position.Skipped kind remaining) r = (0 < remaining) × IsRest r × (head_size ≤ length r) × (frame_kind r ≡ kind) × (remaining ≡ room_remaining r)
SkipsAt other r = ⊥

-- what a call does that consumes these bytes of a PDU that is skipped: the PDU is still unfinished, or its end is
-- reported
pub data Skipped (new : Position) (r consumed : List ℕ) (e : Option Event) : Type 0 where
  continues : e ≡ None → SkipsAt new (r ++ consumed) → Skipped new r consumed e
  ends : e ≡ Some (event.PduEnd (frame_kind r)) → IsFrame (r ++ consumed) → At new [] [] → Skipped new r consumed e

-- a mark inside a PDU: neither its head nor its end
abbrev pub IsInner : Mark → Type 0
IsInner (Head kind n) = ⊥
IsInner (End kind body) = ⊥
IsInner mark = Unit {0}

abbrev pub AreInner : List Mark → Type 0
AreInner [] = Unit {0}
AreInner (m ∷ ms) = IsInner m × AreInner ms

-- the bytes c complete the PDU: they have marks inside it, and last the mark of its end
pub record EndsWithin (r c : List ℕ) : Type 0 where
  pub inner : List Mark
  pub are_inner : AreInner inner
  pub marks : new_marks r c ≡ inner ++ end_mark (r ++ c) ∷ []
  pub rest : rest_of (r ++ c) ≡ []

pub record MarksWithin (r c : List ℕ) : Type 0 where
  pub continues : IsRest (r ++ c) → AreInner (new_marks r c)
  pub ends : IsFrame (r ++ c) → EndsWithin r c

-- What `Deframer::skip_frame` does: nothing before the head of a PDU is complete; of a complete PDU the mark of the
-- end alone stays due; any other PDU is skipped. The marks that are no longer due are marks inside the PDU.
pub data Skip (new : Position) (r : List ℕ) (due : List Mark) : Type 0 where
  no_frame : length r < head_size → due ≡ [] → At new r [] → Skip new r due
  end_alone : (before : List Mark) (kind : ℕ) (body : List ℕ)
      → AreInner before → (0 < length before → kind ≡ p_data_tf) → due ≡ before ++ End kind body ∷ [] → At new r (End kind body ∷ []) → Skip new r due
  skipped : AreInner due → SkipsAt new r → Skip new r due

-- ---- how many bytes are held: those of an unfinished head

abbrev pub bytes_held : Position → ℕ
bytes_held (position.Head bytes) = array_vec_len bytes
bytes_held (position.PdvHead remaining bytes) = array_vec_len bytes
bytes_held other = 0

abbrev pub unfinished_pdv_head : Spot → ℕ
unfinished_pdv_head Opening = 0
unfinished_pdv_head Plain = 0
unfinished_pdv_head (InPdv part) = if nat_lt (length part) pdv_head_size then length part else 0

abbrev pub unfinished_heads : List ℕ → ℕ
unfinished_heads r = if nat_lt (length r) head_size then length r else unfinished_pdv_head (spot r)
