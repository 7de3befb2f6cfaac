-- The marks inside a P-DATA-TF PDU by the relation are those that are computed (`marked`, `marks_are`, `spot_is`).
-- Stands on the definitions alone.
use Rattle.std.proofs.Common.{◌≡◌, ℕ, zero, suc, ◌-◌, ◌<◌, ◌≤◌, true, false, List, [], ◌∷◌, ◌++◌, length, take, drop, get_or, refl, sym, ap, subst, ◌∙◌, arith, inl, inr, if◌then◌else◌}
use Rattle.std.proofs.lemmas.Bool.{cases_lt, cases_Bool, lt-ltb, le-ltb}
use Rattle.std.proofs.lemmas.List.{length-append, length-drop, take-append-le}
use Rattle.byteorder.specs.Endian.{big_number}
use Rattle.pdu.specs.Parts.{SameHead}
use Rattle.pdu.specs.Pdvs.{Mark, Pdv, BadPdv, Leftover, DataSpot, Dropped, Within, pdv_size, IsGoodHead, IsBadHead, head_mark, pdv_mark, is_leftover, Marked, too_short, bad, unfinished, whole_and_leftover, whole_and_more, Pdvs, with_pdv, pdvs_in, pdv_marks, data_spot}

-- ---- what a head says

pub same_head : (bytes more : List ℕ) → 6 ≤ length bytes → SameHead bytes more
same_head [] more h = absurd (omega arith)
same_head (a ∷ []) more h = absurd (omega arith)
same_head (a ∷ b ∷ []) more h = absurd (omega arith)
same_head (a ∷ b ∷ c ∷ []) more h = absurd (omega arith)
same_head (a ∷ b ∷ c ∷ d ∷ []) more h = absurd (omega arith)
same_head (a ∷ b ∷ c ∷ d ∷ e ∷ []) more h = absurd (omega arith)
same_head (a ∷ b ∷ c ∷ d ∷ e ∷ f ∷ bytes) more h = record { number = refl; context = refl; control = refl; body = refl }

pub head_stays : (bytes more : List ℕ) → 6 ≤ length bytes → head_mark (bytes ++ more) ≡ head_mark bytes
head_stays bytes more le = let s = same_head bytes more le in rw (s.number, s.context, s.control) refl

pub pdv_stays : (bytes more : List ℕ) → 6 ≤ length bytes → 2 ≤ big_number 4 bytes → pdv_size bytes ≤ length bytes → pdv_mark (bytes ++ more) ≡ pdv_mark bytes
pdv_stays bytes more le two enough =
    let s = same_head bytes more le in
    let fits : big_number 4 bytes - 2 ≤ length (drop 6 bytes) = omega (arith, length-drop 6 bytes) in
    let body : take (big_number 4 bytes - 2) (drop 6 (bytes ++ more)) ≡ take (big_number 4 bytes - 2) (drop 6 bytes) =
    ap (take (big_number 4 bytes - 2)) s.body ∙ take-append-le (big_number 4 bytes - 2) (drop 6 bytes) more fits in
    rw (s.number, s.context, s.control) (ap (λ (x : List ℕ). Pdv (get_or bytes 4 0) (get_or bytes 5 0) x) body)

pub size_later : (bytes more : List ℕ) → 6 ≤ length bytes → pdv_size (bytes ++ more) ≡ pdv_size bytes
size_later bytes more a = let s = same_head bytes more a in omega (arith, s.number)

pub good_later : (room : ℕ) (bytes more : List ℕ) → IsGoodHead room bytes → IsGoodHead room (bytes ++ more)
good_later room bytes more g =
    let s = same_head bytes more g.headed in
    record { headed = omega (arith, g.headed, length-append bytes more); least = omega (arith, g.least, s.number); fits = omega (arith, g.fits, s.number) }

pub bad_later : (room : ℕ) (bytes more : List ℕ) → IsBadHead room bytes → IsBadHead room (bytes ++ more)
bad_later room bytes more b =
    let s = same_head bytes more b.headed in
    record { headed = omega (arith, b.headed, length-append bytes more); why = elim b.why [ inl x ↦ inl (omega (arith, s.number)) | inr x ↦ inr (omega (arith, s.number)) ] }

-- ---- which front

data Is (room : ℕ) (bytes : List ℕ) : Type 0 where
  is_headless : length bytes < 6 → Is room bytes
  is_bad : IsBadHead room bytes → Is room bytes
  is_started : IsGoodHead room bytes → length bytes < pdv_size bytes → Is room bytes
  is_whole : IsGoodHead room bytes → pdv_size bytes ≤ length bytes → Is room bytes

front_is : (room : ℕ) (bytes : List ℕ) → Is room bytes
front_is room bytes =
    elim (cases_lt (length bytes) 6) [
      | inl a ↦ is_headless a
      | inr a ↦ elim (cases_lt (big_number 4 bytes) 2) [
        | inl b ↦ is_bad (record { headed = a; why = inl b })
        | inr b ↦ elim (cases_lt room (pdv_size bytes)) [
          | inl c ↦ is_bad (record { headed = a; why = inr c })
          | inr c ↦ elim (cases_lt (length bytes) (pdv_size bytes)) [
            | inl d ↦ is_started (record { headed = a; least = b; fits = c }) d
            | inr d ↦ is_whole (record { headed = a; least = b; fits = c }) d
          ]
        ]
      ]
    ]

-- ---- what the function computes, by what stands at the front

at_headless : (k room : ℕ) (bytes : List ℕ) → length bytes < 6 → pdvs_in (suc k) room bytes ≡ record { marks = []; spot = Within room bytes }
at_headless k room bytes a = rw (lt-ltb (length bytes) 6 a) refl

at_bad : (k room : ℕ) (bytes : List ℕ) → IsBadHead room bytes → pdvs_in (suc k) room bytes ≡ record { marks = BadPdv ∷ []; spot = Dropped }
at_bad k room bytes b =
    elim (cases_lt (big_number 4 bytes) 2) [
      | inl x ↦ rw (le-ltb (length bytes) 6 b.headed, lt-ltb (big_number 4 bytes) 2 x) refl
      | inr x ↦
          let past : room < pdv_size bytes = elim b.why [ inl y ↦ absurd (omega arith) | inr y ↦ y ] in
          rw (le-ltb (length bytes) 6 b.headed, le-ltb (big_number 4 bytes) 2 x, lt-ltb room (pdv_size bytes) past) refl
    ]

at_started : (k room : ℕ) (bytes : List ℕ) → IsGoodHead room bytes → length bytes < pdv_size bytes → pdvs_in (suc k) room bytes ≡ record { marks = head_mark bytes ∷ []; spot = Within room bytes }
at_started k room bytes g d = rw (le-ltb (length bytes) 6 g.headed, le-ltb (big_number 4 bytes) 2 g.least, le-ltb room (pdv_size bytes) g.fits, lt-ltb (length bytes) (pdv_size bytes) d) refl

at_whole : (k room : ℕ) (bytes : List ℕ) → IsGoodHead room bytes → pdv_size bytes ≤ length bytes
    → pdvs_in (suc k) room bytes ≡ with_pdv bytes (if is_leftover (room - pdv_size bytes) then record { marks = Leftover ∷ []; spot = Dropped } else pdvs_in k (room - pdv_size bytes) (drop (pdv_size bytes) bytes))
at_whole k room bytes g d = rw (le-ltb (length bytes) 6 g.headed, le-ltb (big_number 4 bytes) 2 g.least, le-ltb room (pdv_size bytes) g.fits, le-ltb (length bytes) (pdv_size bytes) d) refl

at_leftover : (k room : ℕ) (bytes : List ℕ) → IsGoodHead room bytes → pdv_size bytes ≤ length bytes → is_leftover (room - pdv_size bytes) ≡ true
    → pdvs_in (suc k) room bytes ≡ record { marks = head_mark bytes ∷ pdv_mark bytes ∷ Leftover ∷ []; spot = Dropped }
at_leftover k room bytes g d t = at_whole k room bytes g d ∙ rw t refl

at_more : (k room : ℕ) (bytes : List ℕ) → IsGoodHead room bytes → pdv_size bytes ≤ length bytes → is_leftover (room - pdv_size bytes) ≡ false
    → pdvs_in (suc k) room bytes ≡ with_pdv bytes (pdvs_in k (room - pdv_size bytes) (drop (pdv_size bytes) bytes))
at_more k room bytes g d t = at_whole k room bytes g d ∙ rw t refl

-- ---- the function computes what is marked

abbrev MarkedAs : ℕ → List ℕ → Pdvs → Type 0
MarkedAs room bytes i = Marked room bytes i.marks i.spot

marked_in : (k room : ℕ) (bytes : List ℕ) → length bytes ≤ k → MarkedAs room bytes (pdvs_in k room bytes)
marked_in zero room bytes le = too_short (omega arith)
marked_in (suc k) room bytes le =
    elim (front_is room bytes) [
      | is_headless a ↦ subst (MarkedAs room bytes) (sym (at_headless k room bytes a)) (too_short a)
      | is_bad b ↦ subst (MarkedAs room bytes) (sym (at_bad k room bytes b)) (bad b)
      | is_started g d ↦ subst (MarkedAs room bytes) (sym (at_started k room bytes g d)) (unfinished g d)
      | is_whole g d ↦
          let n = pdv_size bytes in
          let later : MarkedAs (room - n) (drop n bytes) (pdvs_in k (room - n) (drop n bytes)) = marked_in k (room - n) (drop n bytes) (omega (arith, g.headed, length-drop n bytes)) in
          elim (cases_Bool (is_leftover (room - n))) [
            | inl t ↦ subst (MarkedAs room bytes) (sym (at_leftover k room bytes g d t)) (whole_and_leftover g d t)
            | inr t ↦ subst (MarkedAs room bytes) (sym (at_more k room bytes g d t)) (whole_and_more g d t later)
          ]
    ]

pub marked : (room : ℕ) (bytes : List ℕ) → Marked room bytes (pdv_marks room bytes) (data_spot room bytes)
unfolding pdv_marks data_spot
marked room bytes = marked_in (length bytes) room bytes (omega arith)

-- ---- and nothing else is

computes : (k : ℕ) {room : ℕ} {bytes : List ℕ} {ms : List Mark} {s : DataSpot} → length bytes ≤ k → Marked room bytes ms s → pdvs_in k room bytes ≡ record { marks = ms; spot = s }
computes zero le (too_short a) = refl
computes zero le (bad b) = absurd (omega (arith, b.headed))
computes zero le (unfinished g d) = absurd (omega (arith, g.headed))
computes zero le (whole_and_leftover g d t) = absurd (omega (arith, g.headed))
computes zero le (whole_and_more g d t later) = absurd (omega (arith, g.headed))
computes (suc k) {room} {bytes} le (too_short a) = at_headless k room bytes a
computes (suc k) {room} {bytes} le (bad b) = at_bad k room bytes b
computes (suc k) {room} {bytes} le (unfinished g d) = at_started k room bytes g d
computes (suc k) {room} {bytes} le (whole_and_leftover g d t) = at_leftover k room bytes g d t
computes (suc k) {room} {bytes} le (whole_and_more g d t later) =
    at_more k room bytes g d t ∙ ap (with_pdv bytes) (computes k (omega (arith, g.headed, length-drop (pdv_size bytes) bytes)) later)

pub marks_are : {room : ℕ} {bytes : List ℕ} {ms : List Mark} {s : DataSpot} → Marked room bytes ms s → pdv_marks room bytes ≡ ms
unfolding pdv_marks
marks_are {room} {bytes} m = ap (λ (i : Pdvs). i.marks) (computes (length bytes) (omega arith) m)

pub spot_is : {room : ℕ} {bytes : List ℕ} {ms : List Mark} {s : DataSpot} → Marked room bytes ms s → data_spot room bytes ≡ s
unfolding data_spot
spot_is {room} {bytes} m = ap (λ (i : Pdvs). i.spot) (computes (length bytes) (omega arith) m)
