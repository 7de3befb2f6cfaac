-- At each position a deframer stands, after a chunk, where the stream then stands: after a head (`head_arrives`), a body
-- (`body_arrives`), the head of a value (`pdv_good`, `pdv_bad`) and its fragment (`fragment_arrives`). Stands on
-- DataMarksAreComputed, EachPartIsMarked, FramesAreUnique and TokensIgnoreTheCut.
use Rattle.std.proofs.Common.{◌⊎◌, ◌≡◌, ℕ, ◌+◌, ◌-◌, ◌<◌, ◌≤◌, true, false, nat_eq, List, [], ◌∷◌, ◌++◌, length, map, drop, refl, sym, ap, subst, ◌∙◌, append_assoc, arith, inl, inr}
use Rattle.std.proofs.lemmas.Bool.{cases_lt, cases_Bool, eqb-true}
use Rattle.std.proofs.lemmas.List.{append-nil, length-append}
use Rattle.byteorder.specs.Endian.{big_number}
use Rattle.pdu.specs.Frames.{IsFrame, IsRest, rest_of}
use Rattle.pdu.specs.Marks.{Mark, Head, BadPdv, Leftover, End, new_marks, head_mark, pdv_mark, pdv_size, is_leftover, frame_kind, frame_length}
use Rattle.pdu.specs.Spot.{Spot, Plain, InPdv, room_remaining}
use Rattle.pdu.specs.Parts.{Arrives, leftover_marks, leftover_spot, body_spot}
use Rattle.pdu.specs.Events.{Token, OfBody, OfFragment, Completes, tokens}
use Rattle.pdu.specs.Deframing.{Inside, IsOver, AtHead, AtBody, in_body, after_body, AtPdvHead, AfterPdv, over, leftover, another, AfterFragment, AtFragment, in_fragment, after_fragment}
use Rattle.pdu.proofs.FramesAreUnique.{same_frame, rest_alone}
use Rattle.pdu.proofs.DataMarksAreComputed.{same_head}
use Rattle.pdu.proofs.EachPartIsMarked.{head_part, head_done, plain_part, pdv_head_part, pdv_head_bad, pdv_head_done, pdv_head_whole, fragment_part, fragment_done}
use Rattle.pdu.proofs.TokensIgnoreTheCut.{head_tokens, body_tokens, pdv_head_tokens, fragment_tokens}

-- ---- the frame continues, or is over

data Then (kind remaining : ℕ) (r c : List ℕ) (ms : List Mark) (s : Spot) : Type 0 where
  goes : 0 < remaining → new_marks r c ≡ ms → Inside kind remaining (rest_of (r ++ c)) s → Then kind remaining r c ms s
  ends : remaining ≡ 0 → (body : List ℕ) → new_marks r c ≡ ms ++ End kind body ∷ [] → rest_of (r ++ c) ≡ [] → Then kind remaining r c ms s

-- of a frame whose head is in these bytes or was before
then_is : (kind remaining : ℕ) (r c : List ℕ) (ms : List Mark) (s : Spot) → 6 ≤ length (r ++ c) → frame_kind (r ++ c) ≡ kind → remaining + length (r ++ c) ≡ 6 + frame_length (r ++ c)
    → Arrives r c ms s → Then kind remaining r c ms s
then_is kind remaining r c ms s headed is count m =
    elim (cases_lt 0 remaining) [
      | inl lt ↦
          let q : IsRest (r ++ c) = λ h. omega (arith, count) in
          let g = m.continues q in
          let here : Inside kind remaining (r ++ c) s = record { rest = q; headed = headed; kind_is = is; remaining_is = omega (arith, count); spot_is = g.spot_is } in
          goes lt g.marks (subst (λ (t : List ℕ). Inside kind remaining t s) (sym g.rest) here)
      | inr ge ↦
          let w : IsFrame (r ++ c) = record { headed = headed; filled = omega (arith, count) } in
          let e = m.ends w in
          ends (omega arith) (drop 6 (r ++ c)) (e.marks ∙ ap (λ (k : ℕ). ms ++ End k (drop 6 (r ++ c)) ∷ []) is) e.rest
    ]

then_inside : (kind remaining : ℕ) (r c : List ℕ) (ms : List Mark) (old s : Spot) → Inside kind remaining r old → length c ≤ remaining → Arrives r c ms s → Then kind (remaining - length c) r c ms s
then_inside kind remaining r c ms old s i le m =
    let f = same_frame r c i.headed in
    let short = i.rest i.headed in
    then_is kind (remaining - length c) r c ms s (omega (arith, i.headed, length-append r c)) (f.kind ∙ i.kind_is) (omega (arith, i.remaining_is, short, f.n, length-append r c)) m

-- ---- where the stream stands then: some marks are earlier, and these later ones are due

pub record Now (P : List ℕ → List Mark → Type 0) (r c : List ℕ) (ms : List Mark) : Type 0 where
  pub later : List Mark
  pub marks : new_marks r c ≡ ms ++ later
  pub at : P (rest_of (r ++ c)) later

now_body : (kind remaining : ℕ) (r c : List ℕ) (ms : List Mark) → Then kind remaining r c ms Plain → Now (AtBody kind remaining) r c ms
now_body kind remaining r c ms (goes some m i) = record { later = []; marks = m ∙ sym (append-nil ms); at = in_body some i refl }
now_body kind remaining r c ms (ends none body m e) = record { later = End kind body ∷ []; marks = m; at = after_body (record { none_remaining = none; rest = e; body = body; due_is = refl }) }

leftover_some : (remaining : ℕ) → is_leftover remaining ≡ true → 0 < remaining
leftover_some remaining t =
    elim (cases_lt 0 remaining) [
      | inl lt ↦ lt
      | inr ge ↦ let none : remaining ≡ 0 = omega arith in let wrong : is_leftover 0 ≡ true = ap is_leftover (sym none) ∙ t in absurd cc
    ]

now_pdv : (remaining : ℕ) (r c : List ℕ) (ms : List Mark) → Then 4 remaining r c (ms ++ leftover_marks remaining) (leftover_spot remaining) → Now (AfterPdv remaining) r c ms
now_pdv remaining r c ms t =
    elim (cases_Bool (is_leftover remaining)) [
      | inl some ↦ remainder some (rw some at t)
      | inr none ↦ whole none (rw none at t)
    ]
  where
    remainder : is_leftover remaining ≡ true → Then 4 remaining r c (ms ++ Leftover ∷ []) Plain → Now (AfterPdv remaining) r c ms
    remainder some (goes lt m i) = record { later = Leftover ∷ []; marks = m; at = leftover some (record { inside = i; some = lt; due_is = refl }) }
    remainder some (ends none body m e) = absurd (let lt = leftover_some remaining some in omega arith)

    whole : is_leftover remaining ≡ false → Then 4 remaining r c (ms ++ []) (InPdv []) → Now (AfterPdv remaining) r c ms
    whole none (goes lt m i) = record { later = []; marks = m; at = another lt none (record { inside = i; short = omega arith; none_due = refl }) }
    whole none (ends zero body m e) = record { later = End 4 body ∷ []; marks = m ∙ ap (λ (ns : List Mark). ns ++ End 4 body ∷ []) (append-nil ms); at = over (record { none_remaining = zero; rest = e; body = body; due_is = refl }) }

-- ---- in the head of a frame

-- no mark yet
pub record Silent (P : List ℕ → List Mark → Type 0) (r c : List ℕ) : Type 0 where
  pub tokens_are : tokens r c ≡ map Completes (new_marks r c)
  pub marks : new_marks r c ≡ []
  pub at : P (rest_of (r ++ c)) []

-- these tokens, and then the marks
pub record Parts (P : List ℕ → List Mark → Type 0) (given : List Token) (r : List ℕ) (due : List Mark) (c : List ℕ) : Type 0 where
  pub none_due : due ≡ []
  pub tokens_are : tokens r c ≡ given ++ map Completes (new_marks r c)
  pub now : Now P r c []

pub head_continues : (bytes r c : List ℕ) (due : List Mark) → AtHead bytes r due → length (bytes ++ c) < 6 → Silent (AtHead (bytes ++ c)) r c
head_continues bytes r c due a lt =
    let is : bytes ++ c ≡ r ++ c = ap (λ (t : List ℕ). t ++ c) a.bytes_are in
    let short : length (r ++ c) < 6 = omega (arith, ap length is) in
    let g = head_part r c short in
    record {
      tokens_are = head_tokens r c (omega (arith, length-append r c));
      marks = g.marks;
      at = record { short = omega (arith, ap length g.rest); bytes_are = is ∙ sym g.rest; none_due = refl };
    }

-- the head is whole: a body follows, or presentation data values, or nothing
pub record Headed (bytes r c : List ℕ) : Type 0 where
  pub tokens_are : tokens r c ≡ map Completes (new_marks r c)
  pub body : (frame_kind (bytes ++ c) ≡ 4 → frame_length (bytes ++ c) ≡ 0) → Now (AtBody (frame_kind (bytes ++ c)) (frame_length (bytes ++ c))) r c (Head (frame_kind (bytes ++ c)) (frame_length (bytes ++ c)) ∷ [])
  pub data_arrives : frame_kind (bytes ++ c) ≡ 4 → 0 < frame_length (bytes ++ c) → Now (AtPdvHead (frame_length (bytes ++ c)) []) r c (Head (frame_kind (bytes ++ c)) (frame_length (bytes ++ c)) ∷ [])

headed_at : (r c : List ℕ) → length r < 6 → length (r ++ c) ≡ 6 → Headed r r c
headed_at r c lt six =
    let f = r ++ c in
    let k = frame_kind f in
    let n = frame_length f in
    let ms = Head k n ∷ [] in
    let t : Then k n r c ms (body_spot k) = then_is k n r c ms (body_spot k) (omega arith) refl (omega (arith, six)) (head_done r c lt six) in
    record {
      tokens_are = head_tokens r c (omega (arith, length-append r c));
      body = λ none. body_of k n ms none t;
      data_arrives = λ is some. data_of k n ms is some t;
    }
  where
    data_of : (k n : ℕ) (ms : List Mark) → k ≡ 4 → 0 < n → Then k n r c ms (body_spot k) → Now (AtPdvHead n []) r c ms
    data_of k n ms is some (goes lt m i) =
        let j : Inside 4 n (rest_of (r ++ c)) (InPdv []) = record { rest = i.rest; headed = i.headed; kind_is = i.kind_is ∙ is; remaining_is = i.remaining_is; spot_is = i.spot_is ∙ ap body_spot is } in
        record { later = []; marks = m ∙ sym (append-nil ms); at = record { inside = j; short = omega arith; none_due = refl } }
    data_of k n ms is some (ends zero body m e) = absurd (omega arith)

    body_of : (k n : ℕ) (ms : List Mark) → (k ≡ 4 → n ≡ 0) → Then k n r c ms (body_spot k) → Now (AtBody k n) r c ms
    body_of k n ms none (goes lt m i) =
        elim (cases_Bool (nat_eq k 4)) [
          | inl t ↦ absurd (omega (arith, none (eqb-true k 4 t)))
          | inr t ↦ now_body k n r c ms (goes lt m (rw t at i))
        ]
    body_of k n ms none (ends zero body m e) = now_body k n r c ms (ends zero body m e)

pub head_arrives : (bytes r c : List ℕ) (due : List Mark) → AtHead bytes r due → length (bytes ++ c) ≡ 6 → Headed bytes r c
head_arrives bytes r c due a six =
    let is : bytes ≡ r = a.bytes_are in
    let six_too : length (r ++ c) ≡ 6 = ap (λ (t : List ℕ). length (t ++ c)) (sym is) ∙ six in
    subst (λ (t : List ℕ). Headed t r c) (sym is) (headed_at r c a.short six_too)

-- ---- in a body

pub body_arrives : (kind remaining : ℕ) (r c : List ℕ) (due : List Mark) → 0 < remaining → AtBody kind remaining r due → length c ≤ remaining → Parts (AtBody kind (remaining - length c)) (map OfBody c) r due c
body_arrives kind remaining r c due some (in_body lt i none) le = record {
  none_due = none;
  tokens_are = body_tokens r c i.rest i.headed i.spot_is (omega (arith, i.remaining_is));
  now = now_body kind (remaining - length c) r c [] (then_inside kind remaining r c [] Plain Plain i le (plain_part r c i.rest i.spot_is));
}
body_arrives kind remaining r c due some (after_body o) le = absurd (omega (arith, o.none_remaining))

-- the end of a frame
pub end_due : (kind remaining : ℕ) (r : List ℕ) (due : List Mark) → remaining ≡ 0 → AtBody kind remaining r due → IsOver kind remaining r due
end_due kind remaining r due none (in_body lt i d) = absurd (omega arith)
end_due kind remaining r due none (after_body o) = o

pub over_rest : (kind remaining : ℕ) (r : List ℕ) (due : List Mark) → IsOver kind remaining r due → rest_of r ≡ r
over_rest kind remaining r due o = let q : IsRest r = λ le. absurd (omega (arith, ap length o.rest)) in rest_alone r q

pub none_at : (r : List ℕ) → r ≡ [] → AtHead [] r []
none_at r e = record { short = omega (arith, ap length e); bytes_are = sym e; none_due = refl }

-- ---- in the head of a presentation data value

pub pdv_head_continues : (remaining : ℕ) (bytes r c : List ℕ) (due : List Mark) → AtPdvHead remaining bytes r due → length (bytes ++ c) < 6 → length c < remaining
    → Silent (AtPdvHead (remaining - length c) (bytes ++ c)) r c
pdv_head_continues remaining bytes r c due a lt some =
    let i = a.inside in
    let ts = pdv_head_tokens r c bytes i.rest i.headed i.spot_is (omega (arith, length-append bytes c)) (omega (arith, i.remaining_is)) in
    elim (then_inside 4 remaining r c [] (InPdv bytes) (InPdv (bytes ++ c)) i (omega arith) (pdv_head_part r c bytes i.rest i.spot_is lt)) [
      | goes p m j ↦ record { tokens_are = ts; marks = m; at = record { inside = j; short = lt; none_due = refl } }
      | ends z body m e ↦ absurd (omega arith)
    ]

-- the frame is over within it
pub record OverAt (r c : List ℕ) : Type 0 where
  pub tokens_are : tokens r c ≡ map Completes (new_marks r c)
  pub body : List ℕ
  pub marks : new_marks r c ≡ End 4 body ∷ []
  pub rest : rest_of (r ++ c) ≡ []

pub pdv_head_over : (remaining : ℕ) (bytes r c : List ℕ) (due : List Mark) → AtPdvHead remaining bytes r due → length (bytes ++ c) < 6 → length c ≡ remaining → OverAt r c
pdv_head_over remaining bytes r c due a lt all =
    let i = a.inside in
    let ts = pdv_head_tokens r c bytes i.rest i.headed i.spot_is (omega (arith, length-append bytes c)) (omega (arith, i.remaining_is)) in
    elim (then_inside 4 remaining r c [] (InPdv bytes) (InPdv (bytes ++ c)) i (omega arith) (pdv_head_part r c bytes i.rest i.spot_is lt)) [
      | goes p m j ↦ absurd (omega arith)
      | ends z body m e ↦ record { tokens_are = ts; body = body; marks = m; rest = e }
    ]

pub now_fragment : (remaining more : ℕ) (r c part : List ℕ) → Inside 4 remaining (rest_of (r ++ c)) (InPdv part) → 6 ≤ length part → 0 < more → more + length part ≡ pdv_size part → AtFragment remaining more (rest_of (r ++ c)) []
now_fragment remaining more r c part i six some is = in_fragment some (record { part = part; inside = i; headed = six; more_is = is; none_due = refl })

now_after : (remaining : ℕ) (r c part : List ℕ) (ms : List Mark) → Then 4 remaining r c (ms ++ pdv_mark part ∷ leftover_marks remaining) (leftover_spot remaining) → Now (AtFragment remaining 0) r c ms
now_after remaining r c part ms t =
    let shape : ms ++ pdv_mark part ∷ leftover_marks remaining ≡ (ms ++ pdv_mark part ∷ []) ++ leftover_marks remaining = simp append_assoc in
    let now = now_pdv remaining r c (ms ++ pdv_mark part ∷ []) (subst (λ (ns : List Mark). Then 4 remaining r c ns (leftover_spot remaining)) shape t) in
    record {
      later = pdv_mark part ∷ now.later;
      marks = now.marks ∙ append_assoc ms (pdv_mark part ∷ []) now.later;
      at = after_fragment refl (record { context = _; control = _; fragment = _; later = now.later; due_is = refl; next = now.at });
    }

-- its six bytes are there
pub pdv_head_tokens_are : (remaining : ℕ) (bytes r c : List ℕ) (due : List Mark) → AtPdvHead remaining bytes r due → length (bytes ++ c) ≡ 6 → length c ≤ remaining → tokens r c ≡ map Completes (new_marks r c)
pdv_head_tokens_are remaining bytes r c due a six le =
    let i = a.inside in
    pdv_head_tokens r c bytes i.rest i.headed i.spot_is (omega (arith, length-append bytes c)) (omega (arith, i.remaining_is))

pub pdv_bad : (remaining : ℕ) (bytes r c : List ℕ) (due : List Mark) → AtPdvHead remaining bytes r due → length (bytes ++ c) ≡ 6 → length c ≤ remaining
    → (big_number 4 (bytes ++ c) < 2) ⊎ ((remaining - length c) + 2 < big_number 4 (bytes ++ c)) → Now (AtBody 4 (remaining - length c)) r c (BadPdv ∷ [])
pdv_bad remaining bytes r c due a six le why =
    let i = a.inside in
    let n = big_number 4 (bytes ++ c) in
    let why_too : (n < 2) ⊎ (room_remaining r + length bytes < pdv_size (bytes ++ c)) = elim why [ inl x ↦ inl x | inr x ↦ inr (omega (arith, i.remaining_is, length-append bytes c)) ] in
    now_body 4 (remaining - length c) r c (BadPdv ∷ []) (then_inside 4 remaining r c (BadPdv ∷ []) (InPdv bytes) Plain i le (pdv_head_bad r c bytes i.rest i.spot_is a.short six why_too))

pub pdv_good : (remaining : ℕ) (bytes r c : List ℕ) (due : List Mark) → AtPdvHead remaining bytes r due → length (bytes ++ c) ≡ 6 → length c ≤ remaining
    → 2 ≤ big_number 4 (bytes ++ c) → big_number 4 (bytes ++ c) ≤ (remaining - length c) + 2 → Now (AtFragment (remaining - length c) (big_number 4 (bytes ++ c) - 2)) r c (head_mark (bytes ++ c) ∷ [])
pdv_good remaining bytes r c due a six le two fits =
    let i = a.inside in
    let b = bytes ++ c in
    let n = big_number 4 b in
    elim (cases_lt 2 n) [
      | inl lt ↦
          let m = pdv_head_done r c bytes i.rest i.spot_is a.short six lt (omega (arith, i.remaining_is, length-append bytes c)) in
          elim (then_inside 4 remaining r c (head_mark b ∷ []) (InPdv bytes) (InPdv b) i le m) [
            | goes p ms j ↦ record { later = []; marks = ms; at = now_fragment (remaining - length c) (n - 2) r c b j (omega arith) (omega arith) (omega arith) }
            | ends z body ms e ↦ absurd (omega arith)
          ]
      | inr ge ↦
          let is_two : n ≡ 2 = omega arith in
          let m = pdv_head_whole r c bytes i.rest i.spot_is (omega (arith, i.remaining_is)) a.short six is_two in
          let room : room_remaining r - length c ≡ remaining - length c = omega (arith, i.remaining_is) in
          let t = then_inside 4 remaining r c (head_mark b ∷ pdv_mark b ∷ leftover_marks (remaining - length c)) (InPdv bytes) (leftover_spot (remaining - length c)) i le
          (subst (λ (l : ℕ). Arrives r c (head_mark b ∷ pdv_mark b ∷ leftover_marks l) (leftover_spot l)) room m) in
          let zero : 0 ≡ n - 2 = omega arith in
          subst (λ (more : ℕ). Now (AtFragment (remaining - length c) more) r c (head_mark b ∷ [])) zero (now_after (remaining - length c) r c b (head_mark b ∷ []) t)
    ]

-- ---- in a fragment

pub fragment_arrives : (remaining more : ℕ) (r c : List ℕ) (due : List Mark) → 0 < more → more ≤ remaining → AtFragment remaining more r due → length c ≤ more
    → Parts (AtFragment (remaining - length c) (more - length c)) (map OfFragment c) r due c
fragment_arrives remaining more r c due some fits (after_fragment none next) le = absurd (omega arith)
fragment_arrives remaining more r c due some fits (in_fragment lt f) le =
    let i = f.inside in
    let part = f.part in
    let s = same_head part c f.headed in
    let ts = fragment_tokens r c part i.rest i.headed i.spot_is f.headed (omega (arith, f.more_is)) (omega (arith, i.remaining_is)) in
    elim (cases_lt (length c) more) [
      | inl short ↦
          elim (then_inside 4 remaining r c [] (InPdv part) (InPdv (part ++ c)) i (omega arith) (fragment_part r c part i.rest i.spot_is f.headed (omega (arith, f.more_is, length-append part c)))) [
            | goes p ms j ↦
                let at = now_fragment (remaining - length c) (more - length c) r c (part ++ c) j (omega (arith, f.headed, length-append part c)) (omega arith) (omega (arith, f.more_is, s.number, length-append part c)) in
                record { none_due = f.none_due; tokens_are = ts; now = record { later = []; marks = ms; at = at } }
            | ends z body ms e ↦ absurd (omega arith)
          ]
      | inr ge ↦
          let m = fragment_done r c part i.rest i.spot_is (omega (arith, i.remaining_is)) f.headed (omega (arith, f.more_is, length-append part c)) in
          let room : room_remaining r - length c ≡ remaining - length c = omega (arith, i.remaining_is) in
          let t = then_inside 4 remaining r c (pdv_mark (part ++ c) ∷ leftover_marks (remaining - length c)) (InPdv part) (leftover_spot (remaining - length c)) i (omega arith)
          (subst (λ (l : ℕ). Arrives r c (pdv_mark (part ++ c) ∷ leftover_marks l) (leftover_spot l)) room m) in
          let zero : 0 ≡ more - length c = omega arith in
          let now = subst (λ (n : ℕ). Now (AtFragment (remaining - length c) n) r c []) zero (now_after (remaining - length c) r c (part ++ c) [] t) in
          record { none_due = f.none_due; tokens_are = ts; now = now }
    ]

-- the mark of a presentation data value is due
pub value_due : (remaining more : ℕ) (r : List ℕ) (due : List Mark) → more ≡ 0 → AtFragment remaining more r due → AfterFragment remaining r due
value_due remaining more r due none (in_fragment lt f) = absurd (omega arith)
value_due remaining more r due none (after_fragment zero a) = a

pub after_rest : (remaining : ℕ) (r : List ℕ) (due : List Mark) → AfterPdv remaining r due → rest_of r ≡ r
after_rest remaining r due (over o) = over_rest 4 remaining r due o
after_rest remaining r due (leftover t a) = rest_alone r a.inside.rest
after_rest remaining r due (another lt t a) = rest_alone r a.inside.rest
