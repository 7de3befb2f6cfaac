-- A call of the deframer with this event stood, and stands then, where the event says (`shaped`), and the room for it is
-- there (`has_room`, `room_after`). Stands on the definitions alone.
use Rattle.std.proofs.Common.{◌≡◌, ℕ, ◌+◌, ◌-◌, ◌≤◌, List, ◌++◌, length, Some, None, refl, sym, ap, subst, ◌∙◌, arith}
use Rattle.arrayvec.specs.ArrayVec.{ArrayVec}
use Rattle.pdu.specs.declared.head.PduHead.{PduHead}
use Rattle.pdu.specs.declared.head.PdvHead.{PdvHead}
use Rattle.pdu.specs.declared.position.Position.{Position}
use Rattle.pdu.specs.declared.position.Position.TheVariants as position
use Rattle.pdu.specs.declared.event.Event.{Event}
use Rattle.pdu.specs.declared.event.Event.TheVariants as event
use Rattle.pdu.specs.Heads.{pdv_head_of}
use Rattle.pdu.specs.Steps.{body_kind, body_due, fragment_due, IsInHead, IsInPdvHead, IsSkipped, FollowsHead, FollowsPdv, HeadIsWhole, PdvHeadIsWhole, IsLent, Steps}
use Rattle.engine.specs.Kept.{Kept}
use Rattle.engine.specs.machine.Capacity.{BodyFits, FragmentFits}
use Rattle.engine.specs.machine.Events.{HasRoom, LeavesRoom}

-- ---- where the deframer stood

-- where a frame of this type ends
abbrev pub EndsFrom : Position → ℕ → Type 0
EndsFrom (position.Head bytes) reported = ⊥
EndsFrom (position.Body kind remaining) reported = (reported ≡ kind) × (remaining ≡ 0)
EndsFrom (position.PdvHead remaining bytes) reported = reported ≡ 4
EndsFrom (position.Fragment remaining more) reported = ⊥
EndsFrom (position.Leftover remaining) reported = ⊥
EndsFrom (position.Skipped kind remaining) reported = reported ≡ kind

abbrev pub Shaped : Position → ℕ → List ℕ → Event → Position → Type 0
Shaped q n c (event.PduHead head) new = (bytes : ArrayVec ℕ) × (q ≡ position.Head bytes) × HeadIsWhole (bytes.items ++ c) head new
Shaped q n c (event.Body part) new = (kind : ℕ) × (remaining : ℕ) × (q ≡ position.Body kind remaining) × IsLent part.now c n remaining new (position.Body kind (remaining - n))
Shaped q n c (event.PdvHead head) new = (remaining : ℕ) × (bytes : ArrayVec ℕ) × (q ≡ position.PdvHead remaining bytes) × PdvHeadIsWhole remaining n (bytes.items ++ c) (event.PdvHead head) new
Shaped q n c (event.Fragment part) new = (remaining : ℕ) × (more : ℕ) × (q ≡ position.Fragment remaining more) × IsLent part.now c n more new (position.Fragment (remaining - n) (more - n))
Shaped q n c event.PdvEnd new = (remaining : ℕ) × (more : ℕ) × (q ≡ position.Fragment remaining more) × (more ≡ 0) × FollowsPdv new
Shaped q n c event.BadPdv new = (remaining : ℕ) × (bytes : ArrayVec ℕ) × (q ≡ position.PdvHead remaining bytes) × PdvHeadIsWhole remaining n (bytes.items ++ c) event.BadPdv new
Shaped q n c event.Leftover new = (remaining : ℕ) × (q ≡ position.Leftover remaining) × (new ≡ position.Body 4 remaining)
Shaped q n c (event.PduEnd reported) new = IsInHead new × EndsFrom q reported

pub shaped : (q : Position) (n : ℕ) (c : List ℕ) (e : Event) (new : Position) → Steps q n c (Some e) new → Shaped q n c e new
shaped (position.Head bytes) n c (event.PduHead head) new s = (bytes, refl, s)
shaped (position.Body kind remaining) n c (event.PduHead head) new s = absurd s
shaped (position.PdvHead remaining bytes) n c (event.PduHead head) new s = absurd s
shaped (position.Fragment remaining more) n c (event.PduHead head) new s = absurd s
shaped (position.Leftover remaining) n c (event.PduHead head) new s = absurd s
shaped (position.Skipped kind remaining) n c (event.PduHead head) new s = absurd s
shaped (position.Head bytes) n c (event.Body part) new s = absurd s
shaped (position.Body kind remaining) n c (event.Body part) new s = (kind, remaining, refl, s)
shaped (position.PdvHead remaining bytes) n c (event.Body part) new s = absurd s
shaped (position.Fragment remaining more) n c (event.Body part) new s = absurd s
shaped (position.Leftover remaining) n c (event.Body part) new s = absurd s
shaped (position.Skipped kind remaining) n c (event.Body part) new s = absurd s
shaped (position.Head bytes) n c (event.PdvHead head) new s = absurd s
shaped (position.Body kind remaining) n c (event.PdvHead head) new s = absurd s
shaped (position.PdvHead remaining bytes) n c (event.PdvHead head) new s = (remaining, bytes, refl, s)
shaped (position.Fragment remaining more) n c (event.PdvHead head) new s = absurd s
shaped (position.Leftover remaining) n c (event.PdvHead head) new s = absurd s
shaped (position.Skipped kind remaining) n c (event.PdvHead head) new s = absurd s
shaped (position.Head bytes) n c (event.Fragment part) new s = absurd s
shaped (position.Body kind remaining) n c (event.Fragment part) new s = absurd s
shaped (position.PdvHead remaining bytes) n c (event.Fragment part) new s = absurd s
shaped (position.Fragment remaining more) n c (event.Fragment part) new s = (remaining, more, refl, s)
shaped (position.Leftover remaining) n c (event.Fragment part) new s = absurd s
shaped (position.Skipped kind remaining) n c (event.Fragment part) new s = absurd s
shaped (position.Head bytes) n c event.PdvEnd new s = absurd s
shaped (position.Body kind remaining) n c event.PdvEnd new s = absurd s
shaped (position.PdvHead remaining bytes) n c event.PdvEnd new s = absurd s
shaped (position.Fragment remaining more) n c event.PdvEnd new s = (remaining, more, refl, s.0, s.1)
shaped (position.Leftover remaining) n c event.PdvEnd new s = absurd s
shaped (position.Skipped kind remaining) n c event.PdvEnd new s = absurd s
shaped (position.Head bytes) n c event.BadPdv new s = absurd s
shaped (position.Body kind remaining) n c event.BadPdv new s = absurd s
shaped (position.PdvHead remaining bytes) n c event.BadPdv new s = (remaining, bytes, refl, s)
shaped (position.Fragment remaining more) n c event.BadPdv new s = absurd s
shaped (position.Leftover remaining) n c event.BadPdv new s = absurd s
shaped (position.Skipped kind remaining) n c event.BadPdv new s = absurd s
shaped (position.Head bytes) n c event.Leftover new s = absurd s
shaped (position.Body kind remaining) n c event.Leftover new s = absurd s
shaped (position.PdvHead remaining bytes) n c event.Leftover new s = absurd s
shaped (position.Fragment remaining more) n c event.Leftover new s = absurd s
shaped (position.Leftover remaining) n c event.Leftover new s = (remaining, refl, s)
shaped (position.Skipped kind remaining) n c event.Leftover new s = absurd s
shaped (position.Head bytes) n c (event.PduEnd reported) new s = absurd s
shaped (position.Body kind remaining) n c (event.PduEnd reported) new s = (s.2, (s.0, s.1))
shaped (position.PdvHead remaining bytes) n c (event.PduEnd reported) new s = (s.2, s.0)
shaped (position.Fragment remaining more) n c (event.PduEnd reported) new s = absurd s
shaped (position.Leftover remaining) n c (event.PduEnd reported) new s = absurd s
shaped (position.Skipped kind remaining) n c (event.PduEnd reported) new s = (s.1, s.0)

-- ---- room

pub no_body : (room : ℕ) (k : Kept) (kind n : ℕ) → (kind ≡ 1 → ⊥) → BodyFits room k kind n
no_body room k kind n other = λ due consumed one. absurd (other one)

pub no_fragment : (k : Kept) → FragmentFits k 0
no_fragment k = λ six consumed. omega arith

abbrev pub FitsAt : ℕ → Kept → Position → Type 0
FitsAt room k q = BodyFits room k (body_kind q) (body_due q) × FragmentFits k (fragment_due q)

pub body_less : (room : ℕ) (k : Kept) (kind n m : ℕ) → m ≤ n → BodyFits room k kind n → BodyFits room k kind m
body_less room k kind n m le h = λ due consumed one. let all = h due consumed one in omega (arith, all, le)

pub fragment_less : (k : Kept) (n m : ℕ) → m ≤ n → FragmentFits k n → FragmentFits k m
fragment_less k n m le h = λ six consumed. let all = h six consumed in omega (arith, all, le)

-- the room that is needed is there
pub has_room : (room : ℕ) (k : Kept) (q : Position) (n : ℕ) (c : List ℕ) (e : Event) (new : Position) → length c ≡ n → Shaped q n c e new → FitsAt room k q → HasRoom room k (body_kind new) e
has_room room k q n c (event.PduHead head) new size s h = tt
has_room room k q n c (event.Body part) new size (kind, remaining, is, lent) h =
    let before : BodyFits room k kind remaining = (subst (λ (x : Position). FitsAt room k x) is h).0 in
    let now : BodyFits room k kind (length part.now) = body_less room k kind remaining (length part.now) (omega (arith, lent.within, size, ap length lent.part_is)) before in
    subst (λ (x : Position). BodyFits room k (body_kind x) (length part.now)) (sym lent.new_is) now
has_room room k q n c (event.PdvHead head) new size (remaining, bytes, is, w) h =
    let f = w.follows in subst (λ (x : PdvHead). 2 ≤ x.length) (sym f.0) f.1
has_room room k q n c (event.Fragment part) new size (remaining, more, is, lent) h =
    let before : FragmentFits k more = (subst (λ (x : Position). FitsAt room k x) is h).1 in
    fragment_less k more (length part.now) (omega (arith, lent.within, size, ap length lent.part_is)) before
has_room room k q n c event.PdvEnd new size s h = tt
has_room room k q n c event.BadPdv new size s h = tt
has_room room k q n c event.Leftover new size s h = tt
has_room room k q n c (event.PduEnd reported) new size s h = tt

fits_in_head : (room : ℕ) (k : Kept) (new : Position) → IsInHead new → FitsAt room k new
fits_in_head room k (position.Head bytes) s = (no_body room k 0 0 (λ e. absurd cc), no_fragment k)
fits_in_head room k (position.Body kind remaining) s = absurd s
fits_in_head room k (position.PdvHead remaining bytes) s = absurd s
fits_in_head room k (position.Fragment remaining more) s = absurd s
fits_in_head room k (position.Leftover remaining) s = absurd s
fits_in_head room k (position.Skipped kind remaining) s = absurd s

fits_after_head : (room : ℕ) (k : Kept) (head : PduHead) (new : Position) → FollowsHead head new → BodyFits room k head.kind head.length → FitsAt room k new
fits_after_head room k head (position.Head bytes) s h = absurd s
fits_after_head room k head (position.Body kind remaining) s h = (λ due consumed one. let all = h due consumed (sym s.0 ∙ one) in omega (arith, all, s.1), no_fragment k)
fits_after_head room k head (position.PdvHead remaining bytes) s h = (no_body room k 0 0 (λ e. absurd cc), no_fragment k)
fits_after_head room k head (position.Fragment remaining more) s h = absurd s
fits_after_head room k head (position.Leftover remaining) s h = absurd s
fits_after_head room k head (position.Skipped kind remaining) s h = absurd s

fits_after_pdv : (room : ℕ) (k : Kept) (new : Position) → FollowsPdv new → FitsAt room k new
fits_after_pdv room k (position.Head bytes) s = absurd s
fits_after_pdv room k (position.Body kind remaining) s = (no_body room k kind remaining (λ e. let wrong : 4 ≡ 1 = sym s ∙ e in absurd (omega (arith, wrong))), no_fragment k)
fits_after_pdv room k (position.PdvHead remaining bytes) s = (no_body room k 0 0 (λ e. absurd cc), no_fragment k)
fits_after_pdv room k (position.Fragment remaining more) s = absurd s
fits_after_pdv room k (position.Leftover remaining) s = (no_body room k 0 0 (λ e. absurd cc), no_fragment k)
fits_after_pdv room k (position.Skipped kind remaining) s = absurd s

fits_plain : (room : ℕ) (k : Kept) (remaining : ℕ) (new : Position) → new ≡ position.Body 4 remaining → FitsAt room k new
fits_plain room k remaining new is = subst (λ (x : Position). FitsAt room k x) (sym is) (fits_after_pdv room k (position.Body 4 remaining) refl)

-- and room is left for what follows
pub room_after : (room : ℕ) (old k : Kept) (q : Position) (n : ℕ) (c : List ℕ) (e : Event) (new : Position) → length c ≡ n → Shaped q n c e new → FitsAt room old q → LeavesRoom room old k (body_kind new) e → FitsAt room k new
room_after room old k q n c (event.PduHead head) new size (bytes, is, w) h l = fits_after_head room k head new w.follows l
room_after room old k q n c (event.Body part) new size (kind, remaining, is, lent) h l =
    let before : BodyFits room old kind remaining = (subst (λ (x : Position). FitsAt room old x) is h).0 in
    let leaves : LeavesRoom room old k kind (event.Body part) = subst (λ (x : Position). LeavesRoom room old k (body_kind x) (event.Body part)) lent.new_is l in
    let now : BodyFits room k kind (remaining - n) = leaves (remaining - n) (body_less room old kind remaining (length part.now + (remaining - n)) (omega (arith, lent.within, size, ap length lent.part_is)) before) in
    subst (λ (x : Position). FitsAt room k x) (sym lent.new_is) (now, no_fragment k)
room_after room old k q n c (event.PdvHead head) new size (remaining, bytes, is, w) h l =
    let f = w.follows in
    let now : FragmentFits k ((pdv_head_of (bytes.items ++ c)).length - 2) = subst (λ (x : PdvHead). FragmentFits k (x.length - 2)) f.0 l in
    subst (λ (x : Position). FitsAt room k x) (sym f.3) (no_body room k 0 0 (λ e. absurd cc), now)
room_after room old k q n c (event.Fragment part) new size (remaining, more, is, lent) h l =
    let before : FragmentFits old more = (subst (λ (x : Position). FitsAt room old x) is h).1 in
    let now : FragmentFits k (more - n) = l (more - n) (fragment_less old more (length part.now + (more - n)) (omega (arith, lent.within, size, ap length lent.part_is)) before) in
    subst (λ (x : Position). FitsAt room k x) (sym lent.new_is) (no_body room k 0 0 (λ e. absurd cc), now)
room_after room old k q n c event.PdvEnd new size (remaining, more, is, none, f) h l = fits_after_pdv room k new f
room_after room old k q n c event.BadPdv new size (remaining, bytes, is, w) h l = fits_plain room k (remaining - n) new w.follows
room_after room old k q n c event.Leftover new size (remaining, is, e) h l = fits_plain room k remaining new e
room_after room old k q n c (event.PduEnd reported) new size (s, from) h l = fits_in_head room k new s

fits_in_pdv_head : (room : ℕ) (k : Kept) (new : Position) → IsInPdvHead new → FitsAt room k new
fits_in_pdv_head room k (position.Head bytes) s = absurd s
fits_in_pdv_head room k (position.Body kind remaining) s = absurd s
fits_in_pdv_head room k (position.PdvHead remaining bytes) s = (no_body room k 0 0 (λ e. absurd cc), no_fragment k)
fits_in_pdv_head room k (position.Fragment remaining more) s = absurd s
fits_in_pdv_head room k (position.Leftover remaining) s = absurd s
fits_in_pdv_head room k (position.Skipped kind remaining) s = absurd s

fits_skipped : (room : ℕ) (k : Kept) (new : Position) → IsSkipped new → FitsAt room k new
fits_skipped room k (position.Head bytes) s = absurd s
fits_skipped room k (position.Body kind remaining) s = absurd s
fits_skipped room k (position.PdvHead remaining bytes) s = absurd s
fits_skipped room k (position.Fragment remaining more) s = absurd s
fits_skipped room k (position.Leftover remaining) s = absurd s
fits_skipped room k (position.Skipped kind remaining) s = (no_body room k 0 0 (λ e. absurd cc), no_fragment k)

-- without an event
pub room_still : (room : ℕ) (k : Kept) (q : Position) (n : ℕ) (c : List ℕ) (new : Position) → Steps q n c None new → FitsAt room k q → FitsAt room k new
room_still room k (position.Head bytes) n c new s h = fits_in_head room k new s
room_still room k (position.Body kind remaining) n c new s h = subst (λ (x : Position). FitsAt room k x) (sym s.1) h
room_still room k (position.PdvHead remaining bytes) n c new s h = fits_in_pdv_head room k new s
room_still room k (position.Fragment remaining more) n c new s h = subst (λ (x : Position). FitsAt room k x) (sym s.1) h
room_still room k (position.Leftover remaining) n c new s h = absurd s
room_still room k (position.Skipped kind remaining) n c new s h = fits_skipped room k new s
