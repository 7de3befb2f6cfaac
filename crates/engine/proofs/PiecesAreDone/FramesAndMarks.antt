-- Where nothing of a body and no whole head of a value is pending, only the later marks are (`settled`); a frame with one
-- more part has the marks that come of it (`arrives_marks`). Stands on the laws of `pdu`.
use Rattle.std.proofs.Common.{◌≡◌, ℕ, ◌+◌, ◌-◌, ◌<◌, ◌≤◌, true, nat_eq, List, [], ◌∷◌, ◌++◌, length, take, drop, get_or, refl, sym, ap, subst, ◌∙◌, arith, inl, inr, ◌⊎◌}
use Rattle.std.proofs.lemmas.Grind.{common_steps}
use Rattle.std.proofs.lemmas.Bool.{cases_Bool, cases_lt}
use Rattle.std.proofs.lemmas.Bool.Decides.{nat_tests}
use Rattle.std.proofs.lemmas.List.{length-append, length-drop, drop_all, take_all, append-nil}
use Rattle.byteorder.specs.Endian.{big_number}
use Rattle.pdu.specs.declared.head.PduHead.{PduHead}
use Rattle.pdu.specs.declared.position.Position.{Position}
use Rattle.pdu.specs.Frames.{IsFrame, IsRest, rest_of}
use Rattle.pdu.specs.Marks.{Mark, Head, PdvHead, Pdv, BadPdv, Leftover, End, pdv_size, pdv_mark, frame_kind, frame_length, new_marks}
use Rattle.pdu.specs.Spot.{InPdv, spot, room_remaining, Spot}
use Rattle.pdu.specs.Events.{event_of}
use Rattle.pdu.specs.Deframing.{At, AtBody, in_body, after_body, AtFragment, in_fragment, after_fragment, AfterPdv, over, leftover, another}
use Rattle.pdu.specs.Steps.{IsInHead, IsInPdvHead, FollowsPdv}
use Rattle.pdu.proofs.Public.{same_frame, spot_opening, in_data, rest_alone, head_done}
use Rattle.engine.specs.Reached.{started_in}
use Rattle.engine.specs.Kept.{body_in}
use Rattle.engine.specs.FrameFields.{body_of}
use Rattle.engine.specs.machine.Shows.{Pending}
use Rattle.pdu.specs.Parts.{Arrives, end_mark}
use Rattle.pdu.specs.declared.position.Position.TheVariants as position
use Rattle.pdu.specs.declared.event.Event.TheVariants as event

-- ---- a frame with one more part

pub record More (r c : List ℕ) : Type 0 where
  pub kind : frame_kind (r ++ c) ≡ frame_kind r
  pub body : drop 6 (r ++ c) ≡ drop 6 r ++ c
  pub goes : length c < room_remaining r → IsRest (r ++ c)
  pub ends : IsRest r → length c ≡ room_remaining r → IsFrame (r ++ c)

pub more : (r c : List ℕ) → 6 ≤ length r → More r c
more r c le =
    let s = same_frame r c le in
    let n : frame_length (r ++ c) ≡ frame_length r = s.n in
    let total : length (r ++ c) ≡ length r + length c = length-append r c in
    record {
      kind = s.kind;
      body = s.body;
      goes = λ lt. λ _. omega arith;
      ends = λ p e. let short : length r < 6 + frame_length r = p le in record { headed = omega arith; filled = omega arith };
    }

pub body_in_none : (kind : ℕ) → body_in kind [] ≡ []
body_in_none kind = elim (cases_Bool (nat_eq kind 1)) [ inl t ↦ rw t refl | inr t ↦ rw t refl ]

-- a head with no body yet
pub body_none : (r : List ℕ) → length r ≤ 6 → body_of r ≡ []
body_none r le =
    let nothing : drop 6 r ≡ [] = drop_all 6 r le in
    ap (body_in (frame_kind r)) nothing ∙ body_in_none (frame_kind r)

pub body_of_data : (r : List ℕ) → frame_kind r ≡ 4 → body_of r ≡ []
body_of_data r e = ap (λ (k : ℕ). body_in k (drop 6 r)) e

pub four : (k : ℕ) → nat_eq k 4 ≡ true → k ≡ 4
four k t = grind (arith, nat_tests, t)

pub no_items : (xs : List ℕ) → length xs ≡ 0 → xs ≡ []
no_items [] e = refl
no_items (x ∷ xs) e = absurd (omega arith)

-- a frame of values keeps no body
pub data_body : (r c b : List ℕ) → IsRest r → spot r ≡ InPdv b → body_of (r ++ c) ≡ []
data_body r c b rest e =
    let v = in_data r b rest e in
    let m = more r c v.headed in
    body_of_data (r ++ c) (m.kind ∙ four (frame_kind r) v.kind)

-- the mark of these bytes, which are a whole value
pub whole_mark : (b : List ℕ) → length b ≡ pdv_size b → Pdv (get_or b 4 0) (get_or b 5 0) (drop 6 b) ≡ pdv_mark b
whole_mark b e =
    let cut : take (big_number 4 b - 2) (drop 6 b) ≡ drop 6 b = take_all (big_number 4 b - 2) (drop 6 b) (omega (arith, length-drop 6 b)) in ap (λ (x : List ℕ). Pdv (get_or b 4 0) (get_or b 5 0) x) (sym cut)

-- ---- marks

pub no_marks : (a b : List Mark) → a ++ b ≡ [] → a ≡ []
no_marks [] b e = refl
no_marks (m ∷ a) b e = absurd cc

pub first_mark : (m n : Mark) (xs ys : List Mark) → m ∷ xs ≡ n ∷ ys → m ≡ n
first_mark m n xs ys e = cc

pub later_marks : (m n : Mark) (xs ys : List Mark) → m ∷ xs ≡ n ∷ ys → xs ≡ ys
later_marks m n xs ys e = cc

pub mark_of_head : (head : PduHead) (m : Mark) → event.PduHead head ≡ event_of m → m ≡ Head head.kind head.length
mark_of_head head (Head kind n) e = let same : head ≡ record { kind = kind; length = n } = cc in ap (λ (h : PduHead). Head h.kind h.length) (sym same)
mark_of_head head (PdvHead n context control) e = absurd cc
mark_of_head head (Pdv context control fragment) e = absurd cc
mark_of_head head BadPdv e = absurd cc
mark_of_head head Leftover e = absurd cc
mark_of_head head (End kind body) e = absurd cc

pub mark_of_bad : (m : Mark) → event.BadPdv ≡ event_of m → m ≡ BadPdv
mark_of_bad m h = grind (arith, common_steps)

pub mark_of_end : (k : ℕ) (m : Mark) → event.PduEnd k ≡ event_of m → (body : List ℕ) × (m ≡ End k body)
mark_of_end k (Head kind n) e = absurd cc
mark_of_end k (PdvHead n context control) e = absurd cc
mark_of_end k (Pdv context control fragment) e = absurd cc
mark_of_end k BadPdv e = absurd cc
mark_of_end k Leftover e = absurd cc
mark_of_end k (End kind body) e = let same : k ≡ kind = cc in (body, ap (λ (x : ℕ). End x body) (sym same))

-- ---- what is due then, where nothing of a body and no whole head of a value is pending

abbrev pub Quiet : Position → Type 0
Quiet (position.Head bytes) = Unit {0}
Quiet (position.Body kind remaining) = kind ≡ 4
Quiet (position.PdvHead remaining bytes) = Unit {0}
Quiet (position.Fragment remaining more) = ⊥
Quiet (position.Leftover remaining) = Unit {0}
Quiet (position.Skipped kind remaining) = ⊥

pub record Settled (r : List ℕ) (later : List Mark) : Type 0 where
  pub started : List ℕ
  pub short : length started < 6
  pub pending : Pending r later [] started

pub settled : (q : Position) (r : List ℕ) (later : List Mark) → Quiet q → At q r later → Settled r later
settled (position.Head bytes) r later t a = record {
  started = [];
  short = omega arith;
  pending = subst (λ (ms : List Mark). Pending r ms [] []) (sym a.none_due) (sym (body_none r (omega (arith, a.short))), sym (ap started_in (spot_opening r a.short)));
}
settled (position.Body kind remaining) r later is a = go a where
  go : AtBody kind remaining r later → Settled r later
  go (in_body lt i none) = record { started = []; short = omega arith; pending = subst (λ (ms : List Mark). Pending r ms [] []) (sym none) (sym (body_of_data r (i.kind_is ∙ is)), sym (ap started_in i.spot_is)) }
  go (after_body o) = record { started = []; short = omega arith; pending = subst (λ (ms : List Mark). Pending r ms [] []) (sym o.due_is) (sym (ap (λ (k : ℕ). body_in k o.body) is), refl) }
settled (position.PdvHead remaining bytes) r later t a = record {
  started = bytes.items;
  short = a.short;
  pending = subst (λ (ms : List Mark). Pending r ms [] bytes.items) (sym a.none_due) (sym (body_of_data r a.inside.kind_is), sym (ap started_in a.inside.spot_is));
}
settled (position.Fragment remaining more) r later t a = absurd t
settled (position.Leftover remaining) r later t a = record { started = []; short = omega arith; pending = subst (λ (ms : List Mark). Pending r ms [] []) (sym a.due_is) (refl, refl) }
settled (position.Skipped kind remaining) r later t a = absurd t

pub quiet_in_head : (q : Position) → IsInHead q → Quiet q
quiet_in_head q h = grind (arith, common_steps)

pub quiet_in_pdv_head : (q : Position) → IsInPdvHead q → Quiet q
quiet_in_pdv_head q h = grind (arith, common_steps)

pub quiet_after_pdv : (q : Position) → FollowsPdv q → Quiet q
quiet_after_pdv q h = grind (arith, common_steps)

pub quiet_plain : (q : Position) (remaining : ℕ) → q ≡ position.Body 4 remaining → Quiet q
quiet_plain q remaining is = subst Quiet (sym is) refl

-- ---- where a frame or an unfinished one stands

pub at_rest : (q : Position) (r : List ℕ) (due : List Mark) → At q r due → IsRest r
at_rest (position.Head bytes) r due a = let lt : length r < 6 = a.short in λ le. absurd (omega arith)
at_rest (position.Body kind remaining) r due a = go a where
  go : AtBody kind remaining r due → IsRest r
  go (in_body lt i none) = i.rest
  go (after_body o) = λ le. absurd (omega (arith, ap length o.rest))
at_rest (position.PdvHead remaining bytes) r due a = a.inside.rest
at_rest (position.Fragment remaining more) r due a = go a where
  by : (later : List Mark) → AfterPdv remaining r later → IsRest r
  by later (over o) = λ le. absurd (omega (arith, ap length o.rest))
  by later (leftover t l) = l.inside.rest
  by later (another lt t x) = x.inside.rest

  go : AtFragment remaining more r due → IsRest r
  go (in_fragment lt f) = f.inside.rest
  go (after_fragment zero x) = by x.later x.next
at_rest (position.Leftover remaining) r due a = a.inside.rest
at_rest (position.Skipped kind remaining) r due a = λ le. absurd (omega (arith, ap length a.rest))

-- bytes that the frame has room for
pub rest_or_frame : (r c : List ℕ) → IsRest r → 6 ≤ length r → length c ≤ room_remaining r → IsRest (r ++ c) ⊎ IsFrame (r ++ c)
rest_or_frame r c rest headed le = elim (cases_lt (length c) (room_remaining r)) [
  | inl lt ↦ inl ((more r c headed).goes lt)
  | inr ge ↦ inr ((more r c headed).ends rest (omega (arith, le)))
]

pub arrives_marks : (r c : List ℕ) (ms : List Mark) (s : Spot) → Arrives r c ms s → IsRest r → 6 ≤ length r → length c ≤ room_remaining r → (ys : List Mark) × (new_marks r c ≡ ms ++ ys)
arrives_marks r c ms s arrives rest headed le = elim (rest_or_frame r c rest headed le) [
  | inl q ↦ ([], (arrives.continues q).marks ∙ sym (append-nil ms))
  | inr w ↦ (end_mark (r ++ c) ∷ [], (arrives.ends w).marks)
]

-- where a head is whole
pub head_rest : (f : List ℕ) → length f ≡ 6 → IsRest f ⊎ IsFrame f
head_rest f six = elim (cases_lt 0 (frame_length f)) [
  | inl lt ↦ inl (λ _. omega (arith, six, lt))
  | inr ge ↦ inr (record { headed = omega (arith, six); filled = omega (arith, six, ge) })
]

pub short_rest : (r c : List ℕ) → length r < 6 → length (r ++ c) ≡ 6 → length (rest_of (r ++ c)) ≤ 6
short_rest r c lt six = elim (head_rest (r ++ c) six) [
  | inl q ↦ omega (arith, ap length (rest_alone (r ++ c) q), six)
  | inr w ↦ omega (arith, ap length ((head_done r c lt six).ends w).rest)
]

pub body_of_end : (a b : ℕ) (x y : List ℕ) → End a x ∷ [] ≡ End b y ∷ [] → x ≡ y
body_of_end a b x y e = cc
