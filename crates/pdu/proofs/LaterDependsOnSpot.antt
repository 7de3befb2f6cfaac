-- What comes later in an unfinished P-DATA-TF PDU depends on where it stands alone: within a value (`within_later`),
-- or past a bad one (`dropped_later`). Stands on DataMarksAreComputed.
use Rattle.std.proofs.Common.{◌≡◌, ℕ, ◌+◌, ◌-◌, ◌≤◌, true, false, List, [], ◌∷◌, ◌++◌, length, drop, refl, sym, ap, subst, ◌∙◌, arith, inl, inr}
use Rattle.std.proofs.lemmas.List.{append-nil, length-append, length-drop, drop-append-le}
use Rattle.std.proofs.Math.Seq.{drop-append-add, drop-length}
use Rattle.pdu.specs.Pdvs.{Mark, Leftover, DataSpot, Dropped, Within, pdv_size, IsGoodHead, head_mark, pdv_mark, is_leftover, Marked, too_short, bad, unfinished, whole_and_leftover, whole_and_more, pdv_marks, data_spot, new_pdv_marks}
use Rattle.pdu.specs.Parts.{IsUnfinishedPdv, in_head, in_fragment}
use Rattle.pdu.proofs.DataMarksAreComputed.{head_stays, pdv_stays, size_later, good_later, bad_later, marked, marks_are, spot_is}

-- ---- a whole value stands at the front, whatever follows

record Later (room : ℕ) (bytes more : List ℕ) : Type 0 where
  pub good : IsGoodHead room (bytes ++ more)
  pub enough : pdv_size (bytes ++ more) ≤ length (bytes ++ more)
  pub remaining : room - pdv_size (bytes ++ more) ≡ room - pdv_size bytes
  pub rest : drop (pdv_size (bytes ++ more)) (bytes ++ more) ≡ drop (pdv_size bytes) bytes ++ more
  pub head : head_mark (bytes ++ more) ≡ head_mark bytes
  pub pdv : pdv_mark (bytes ++ more) ≡ pdv_mark bytes

whole_later : (room : ℕ) (bytes more : List ℕ) → IsGoodHead room bytes → pdv_size bytes ≤ length bytes → Later room bytes more
whole_later room bytes more g d =
    let size = size_later bytes more g.headed in
    record {
      good = good_later room bytes more g;
      enough = omega (arith, size, length-append bytes more);
      remaining = ap (λ (n : ℕ). room - n) size;
      rest = ap (λ (n : ℕ). drop n (bytes ++ more)) size ∙ drop-append-le (pdv_size bytes) bytes more d;
      head = head_stays bytes more g.headed;
      pdv = pdv_stays bytes more g.headed g.least d;
    }

same_front : (room : ℕ) (bytes more : List ℕ) (ns : List Mark) (t : DataSpot) → Later room bytes more
    → Marked room (bytes ++ more) (head_mark (bytes ++ more) ∷ pdv_mark (bytes ++ more) ∷ ns) t → Marked room (bytes ++ more) (head_mark bytes ∷ pdv_mark bytes ∷ ns) t
same_front room bytes more ns t l m =
    subst (λ (h : Mark). Marked room (bytes ++ more) (h ∷ pdv_mark bytes ∷ ns) t) l.head
    (subst (λ (p : Mark). Marked room (bytes ++ more) (head_mark (bytes ++ more) ∷ p ∷ ns) t) l.pdv m)

pub more_later : (room : ℕ) (bytes more : List ℕ) (ns : List Mark) (t : DataSpot) → IsGoodHead room bytes → pdv_size bytes ≤ length bytes → is_leftover (room - pdv_size bytes) ≡ false
    → Marked (room - pdv_size bytes) (drop (pdv_size bytes) bytes ++ more) ns t → Marked room (bytes ++ more) (head_mark bytes ∷ pdv_mark bytes ∷ ns) t
more_later room bytes more ns t g d none m =
    let l = whole_later room bytes more g d in
    let moved : Marked (room - pdv_size (bytes ++ more)) (drop (pdv_size (bytes ++ more)) (bytes ++ more)) ns t =
    subst (λ (r : ℕ). Marked r (drop (pdv_size (bytes ++ more)) (bytes ++ more)) ns t) (sym l.remaining)
    (subst (λ (b : List ℕ). Marked (room - pdv_size bytes) b ns t) (sym l.rest) m) in
    same_front room bytes more ns t l (whole_and_more l.good l.enough (ap is_leftover l.remaining ∙ none) moved)

leftover_later : (room : ℕ) (bytes more : List ℕ) → IsGoodHead room bytes → pdv_size bytes ≤ length bytes → is_leftover (room - pdv_size bytes) ≡ true
    → Marked room (bytes ++ more) (head_mark bytes ∷ pdv_mark bytes ∷ Leftover ∷ []) Dropped
leftover_later room bytes more g d some =
    let l = whole_later room bytes more g d in
    same_front room bytes more (Leftover ∷ []) Dropped l (whole_and_leftover l.good l.enough (ap is_leftover l.remaining ∙ some))

-- ---- once dropped

pub dropped : {room : ℕ} {bytes : List ℕ} {ms : List Mark} → Marked room bytes ms Dropped → (more : List ℕ) → Marked room (bytes ++ more) ms Dropped
dropped {room} {bytes} (bad b) more = bad (bad_later room bytes more b)
dropped {room} {bytes} (whole_and_leftover g d t) more = leftover_later room bytes more g d t
dropped {room} {bytes} (whole_and_more {later = later} g d t m) more = more_later room bytes more later Dropped g d t (dropped m more)

-- ---- within a value

record Continues (room : ℕ) (bytes : List ℕ) (ms : List Mark) (r : ℕ) (q : List ℕ) : Type 0 where
  pub values : List Mark
  pub before : ms ≡ values ++ pdv_marks r q
  pub now : (more : List ℕ) (ns : List Mark) (t : DataSpot) → Marked r (q ++ more) ns t → Marked room (bytes ++ more) (values ++ ns) t
  pub is : IsUnfinishedPdv r q
  pub room_is : length bytes ≤ room → r + length bytes ≡ room + length q

continues : {room : ℕ} {bytes : List ℕ} {ms : List Mark} {r : ℕ} {q : List ℕ} → Marked room bytes ms (Within r q) → Continues room bytes ms r q
continues (too_short a) = record { values = []; before = sym (marks_are (too_short a)); now = λ more ns t m. m; is = in_head a; room_is = λ le. refl }
continues (unfinished g d) = record { values = []; before = sym (marks_are (unfinished g d)); now = λ more ns t m. m; is = in_fragment g.headed g.least g.fits d; room_is = λ le. refl }
continues {room} {bytes} {r = r} {q = q} (whole_and_more {later = later} g d t m) =
    let c = continues m in
    let n = pdv_size bytes in
    record {
      values = head_mark bytes ∷ pdv_mark bytes ∷ c.values;
      before = ap (λ (ms : List Mark). head_mark bytes ∷ pdv_mark bytes ∷ ms) c.before;
      now = λ more ns u k. more_later room bytes more (c.values ++ ns) u g d t (c.now more ns u k);
      is = c.is;
      room_is = λ le. let same : r + length (drop n bytes) ≡ (room - n) + length q = c.room_is (omega (arith, length-drop n bytes)) in omega (arith, same, g.fits, length-drop n bytes);
    }

continues_at : (room : ℕ) (bytes : List ℕ) (r : ℕ) (q : List ℕ) → data_spot room bytes ≡ Within r q → Continues room bytes (pdv_marks room bytes) r q
continues_at room bytes r q e = continues (subst (Marked room bytes (pdv_marks room bytes)) e (marked room bytes))

-- what has started is less than a whole value, and has the room that is left
pub record UnfinishedAt (room : ℕ) (bytes : List ℕ) (r : ℕ) (q : List ℕ) : Type 0 where
  pub room_is : r + length bytes ≡ room + length q
  pub is : IsUnfinishedPdv r q

pub begins_within : (room : ℕ) (bytes : List ℕ) (r : ℕ) (q : List ℕ) → length bytes ≤ room → data_spot room bytes ≡ Within r q → UnfinishedAt room bytes r q
begins_within room bytes r q fits e = let c = continues_at room bytes r q e in record { room_is = c.room_is fits; is = c.is }

-- ---- marks only grow

-- ns is ms and more
abbrev pub Grows : List Mark → List Mark → Type 0
Grows ms ns = (more : List Mark) × (ns ≡ ms ++ more)

begins_with_head : {room : ℕ} {bytes : List ℕ} {ns : List Mark} {t : DataSpot} → IsGoodHead room bytes → Marked room bytes ns t → Grows (head_mark bytes ∷ []) ns
begins_with_head h (too_short a) = absurd (omega (arith, h.headed))
begins_with_head h (bad b) = absurd (elim b.why [ inl x ↦ omega (arith, h.least) | inr x ↦ omega (arith, h.fits) ])
begins_with_head h (unfinished g d) = ([], refl)
begins_with_head {bytes = bytes} h (whole_and_leftover g d t) = (pdv_mark bytes ∷ Leftover ∷ [], refl)
begins_with_head {bytes = bytes} h (whole_and_more {later = later} g d t m) = (pdv_mark bytes ∷ later, refl)

unfinished_grows : (r : ℕ) (q more : List ℕ) → IsUnfinishedPdv r q → Grows (pdv_marks r q) (pdv_marks r (q ++ more))
unfinished_grows r q more (in_head lt) = (pdv_marks r (q ++ more), ap (λ (ms : List Mark). ms ++ pdv_marks r (q ++ more)) (sym (marks_are {room = r} (too_short lt))))
unfinished_grows r q more (in_fragment headed least fits short) =
    let g : IsGoodHead r q = record { headed = headed; least = least; fits = fits } in
    let h = begins_with_head (good_later r q more g) (marked r (q ++ more)) in
    (h.0, h.1 ∙ ap (λ (m : Mark). m ∷ h.0) (head_stays q more headed) ∙ ap (λ (ms : List Mark). ms ++ h.0) (sym (marks_are (unfinished g short))))

grows_past : (xs ys zs : List Mark) → Grows ys zs → Grows (xs ++ ys) (xs ++ zs)
grows_past [] ys zs g = g
grows_past (x ∷ xs) ys zs g = let h = grows_past xs ys zs g in (h.0, ap (λ (ms : List Mark). x ∷ ms) h.1)

grows_at : (room : ℕ) (bytes more : List ℕ) (s : DataSpot) → data_spot room bytes ≡ s → Grows (pdv_marks room bytes) (pdv_marks room (bytes ++ more))
grows_at room bytes more Dropped e =
    let m : Marked room bytes (pdv_marks room bytes) Dropped = subst (Marked room bytes (pdv_marks room bytes)) e (marked room bytes) in
    ([], marks_are (dropped m more) ∙ sym (append-nil (pdv_marks room bytes)))
grows_at room bytes more (Within r q) e =
    let c = continues_at room bytes r q e in
    let now = marks_are (c.now more (pdv_marks r (q ++ more)) (data_spot r (q ++ more)) (marked r (q ++ more))) in
    let g = grows_past c.values (pdv_marks r q) (pdv_marks r (q ++ more)) (unfinished_grows r q more c.is) in
    (g.0, now ∙ g.1 ∙ ap (λ (ms : List Mark). ms ++ g.0) (sym c.before))

pub pdv_grows : (room : ℕ) (bytes more : List ℕ) → Grows (pdv_marks room bytes) (pdv_marks room (bytes ++ more))
pdv_grows room bytes more = grows_at room bytes more (data_spot room bytes) refl

-- ---- what comes later

pub drop_past : (xs ys zs : List Mark) → drop (length (xs ++ ys)) (xs ++ zs) ≡ drop (length ys) zs
drop_past xs ys zs = ap (λ (n : ℕ). drop n (xs ++ zs)) (length-append xs ys) ∙ drop-append-add xs zs (length ys)

-- the marks of more bytes, and where the frame stands then, are those of the unfinished value alone
pub record Goes (room : ℕ) (bytes : List ℕ) (r : ℕ) (q more : List ℕ) : Type 0 where
  pub new : new_pdv_marks room bytes more ≡ new_pdv_marks r q more
  pub spot : data_spot room (bytes ++ more) ≡ data_spot r (q ++ more)

pub within_later : (room : ℕ) (bytes : List ℕ) (r : ℕ) (q more : List ℕ) → data_spot room bytes ≡ Within r q → Goes room bytes r q more
unfolding new_pdv_marks
within_later room bytes r q more e =
    let c = continues_at room bytes r q e in
    let now = c.now more (pdv_marks r (q ++ more)) (data_spot r (q ++ more)) (marked r (q ++ more)) in
    record { new = rw (c.before, marks_are now) (drop_past c.values (pdv_marks r q) (pdv_marks r (q ++ more))); spot = spot_is now }

-- after a drop nothing is marked any more
pub record StaysDropped (room : ℕ) (bytes more : List ℕ) : Type 0 where
  pub new : new_pdv_marks room bytes more ≡ []
  pub spot : data_spot room (bytes ++ more) ≡ Dropped

pub dropped_later : (room : ℕ) (bytes more : List ℕ) → data_spot room bytes ≡ Dropped → StaysDropped room bytes more
unfolding new_pdv_marks
dropped_later room bytes more e =
    let m : Marked room bytes (pdv_marks room bytes) Dropped = subst (Marked room bytes (pdv_marks room bytes)) e (marked room bytes) in
    let now = dropped m more in
    record { new = rw (marks_are now) (drop-length (pdv_marks room bytes)); spot = spot_is now }
