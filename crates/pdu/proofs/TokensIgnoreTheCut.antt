-- The tokens of a stream, cut anywhere, are those of its parts (`tokens_then`), by the unfinished frame alone
-- (`tokens_rest`), and have the marks of the stream (`marks_of_tokens`). Stands on DataMarksAreComputed,
-- EachPartIsMarked and FramesAreUnique.
use Rattle.std.proofs.Common.{◌≡◌, ℕ, suc, ◌+◌, ◌-◌, ◌<◌, ◌≤◌, List, [], ◌∷◌, ◌++◌, length, map, refl, sym, ap, ◌∙◌, append_assoc, arith, inl, inr}
use Rattle.std.proofs.lemmas.List.{append-nil, length-append}
use Rattle.std.proofs.lemmas.Bool.{cases_Bool, lt-ltb, le-ltb}
use Rattle.std.specs.Prelude.{nat_lt}
use Rattle.pdu.specs.Frames.{IsRest, rest_of}
use Rattle.pdu.specs.Marks.{Mark, new_marks, pdv_size}
use Rattle.pdu.specs.Spot.{Spot, Opening, Plain, InPdv, spot, room_remaining}
use Rattle.pdu.specs.Events.{Token, OfBody, OfFragment, Completes, lent, tokens, marks_among}
use Rattle.pdu.proofs.FramesAreUnique.{same_frame, new_nothing, new_then, new_rest, rest_is_rest, rest_alone, rest_rest}
use Rattle.pdu.proofs.DataMarksAreComputed.{same_head}
use Rattle.pdu.proofs.EachPartIsMarked.{spot_opening, head_part, plain_part, pdv_head_part, fragment_part}

-- ---- the unfinished frame decides

pub tokens_rest : (s p : List ℕ) → tokens s p ≡ tokens (rest_of s) p
tokens_rest s [] = refl
tokens_rest s (b ∷ p) =
    let r = rest_of s in
    let here : spot r ≡ spot (rest_of r) = ap spot (sym (rest_alone r (rest_is_rest s))) in
    let then : tokens (s ++ b ∷ []) p ≡ tokens (r ++ b ∷ []) p =
    tokens_rest (s ++ b ∷ []) p ∙ ap (λ (t : List ℕ). tokens t p) (rest_rest s (b ∷ [])) ∙ sym (tokens_rest (r ++ b ∷ []) p) in
    ap (λ (x : Spot). lent x (b ∷ []) ++ (map Completes (new_marks s (b ∷ [])) ++ tokens (s ++ b ∷ []) p)) here
    ∙ ap (λ (ms : List Mark). lent (spot (rest_of r)) (b ∷ []) ++ (map Completes ms ++ tokens (s ++ b ∷ []) p)) (new_rest s (b ∷ []))
    ∙ ap (λ (ts : List Token). lent (spot (rest_of r)) (b ∷ []) ++ (map Completes (new_marks r (b ∷ [])) ++ ts)) then

-- ---- one piece after another

pub tokens_then : (s p q : List ℕ) → tokens s (p ++ q) ≡ tokens s p ++ tokens (s ++ p) q
tokens_then s [] q = ap (λ (t : List ℕ). tokens t q) (sym (append-nil s))
tokens_then s (b ∷ p) q =
    let later : tokens (s ++ b ∷ []) (p ++ q) ≡ tokens (s ++ b ∷ []) p ++ tokens (s ++ b ∷ p) q =
    tokens_then (s ++ b ∷ []) p q ∙ ap (λ (t : List ℕ). tokens (s ++ b ∷ []) p ++ tokens t q) (append_assoc s (b ∷ []) p) in
    ap (λ (ts : List Token). lent (spot (rest_of s)) (b ∷ []) ++ (map Completes (new_marks s (b ∷ [])) ++ ts)) later ∙ simp append_assoc

-- ---- the marks among them

pub among_both : (ts us : List Token) → marks_among (ts ++ us) ≡ marks_among ts ++ marks_among us
among_both [] us = refl
among_both (OfBody byte ∷ ts) us = among_both ts us
among_both (OfFragment byte ∷ ts) us = among_both ts us
among_both (Completes mark ∷ ts) us = ap (λ (ms : List Mark). mark ∷ ms) (among_both ts us)

pub among_marks : (ms : List Mark) → marks_among (map Completes ms) ≡ ms
among_marks [] = refl
among_marks (m ∷ ms) = ap (λ (ns : List Mark). m ∷ ns) (among_marks ms)

among_lent : (x : Spot) (b : ℕ) → marks_among (lent x (b ∷ [])) ≡ []
among_lent Opening b = refl
among_lent Plain b = refl
among_lent (InPdv part) b =
    elim (cases_Bool (nat_lt (length part) 6)) [
      | inl t ↦ rw t refl
      | inr t ↦ rw t refl
    ]

pub marks_of_tokens : (s p : List ℕ) → marks_among (tokens s p) ≡ new_marks s p
marks_of_tokens s [] = sym (new_nothing s)
marks_of_tokens s (b ∷ p) =
    let x = lent (spot (rest_of s)) (b ∷ []) in
    let m = new_marks s (b ∷ []) in
    among_both x (map Completes m ++ tokens (s ++ b ∷ []) p)
    ∙ ap (λ (ms : List Mark). ms ++ marks_among (map Completes m ++ tokens (s ++ b ∷ []) p)) (among_lent (spot (rest_of s)) b)
    ∙ among_both (map Completes m) (tokens (s ++ b ∷ []) p)
    ∙ ap (λ (ms : List Mark). ms ++ marks_among (tokens (s ++ b ∷ []) p)) (among_marks m)
    ∙ ap (λ (ms : List Mark). m ++ ms) (marks_of_tokens (s ++ b ∷ []) p)
    ∙ sym (new_then s (b ∷ []) p)

-- ---- bytes that complete nothing before the last

-- how the bytes of a part are lent, all in one way
record Lending (give : List ℕ → List Token) : Type 0 where
  pub none : give [] ≡ []
  pub more : (b : ℕ) (bytes : List ℕ) → give (b ∷ bytes) ≡ give (b ∷ []) ++ give bytes

-- In r n: after r, n more bytes are lent so, and none but the last completes anything
record Part (give : List ℕ → List Token) (In : List ℕ → ℕ → Type 0) : Type 0 where
  pub lending : Lending give
  pub here : (r : List ℕ) (n b : ℕ) → In r (suc n) → lent (spot (rest_of r)) (b ∷ []) ≡ give (b ∷ [])
  pub silent : (r : List ℕ) (n b : ℕ) → In r (suc (suc n)) → new_marks r (b ∷ []) ≡ []
  pub continues : (r : List ℕ) (n b : ℕ) → In r (suc (suc n)) → In (r ++ b ∷ []) (suc n)

part_tokens : (give : List ℕ → List Token) (In : List ℕ → ℕ → Type 0) → Part give In → (r c : List ℕ) → In r (length c)
    → tokens r c ≡ give c ++ map Completes (new_marks r c)
part_tokens give In part r [] i = rw (part.lending.none, new_nothing r) refl
part_tokens give In part r (b ∷ []) i =
    ap (λ (ts : List Token). ts ++ (map Completes (new_marks r (b ∷ [])) ++ [])) (part.here r 0 b i)
    ∙ ap (λ (ts : List Token). give (b ∷ []) ++ ts) (append-nil (map Completes (new_marks r (b ∷ []))))
part_tokens give In part r (b ∷ d ∷ c) i =
    let n = length c in
    let none = part.silent r n b i in
    let later = part_tokens give In part (r ++ b ∷ []) (d ∷ c) (part.continues r n b i) in
    let both : new_marks r (b ∷ d ∷ c) ≡ new_marks (r ++ b ∷ []) (d ∷ c) = new_then r (b ∷ []) (d ∷ c) ∙ ap (λ (ms : List Mark). ms ++ new_marks (r ++ b ∷ []) (d ∷ c)) none in
    ap (λ (ts : List Token). ts ++ (map Completes (new_marks r (b ∷ [])) ++ tokens (r ++ b ∷ []) (d ∷ c))) (part.here r (suc n) b i)
    ∙ ap (λ (ms : List Mark). give (b ∷ []) ++ (map Completes ms ++ tokens (r ++ b ∷ []) (d ∷ c))) none
    ∙ ap (λ (ts : List Token). give (b ∷ []) ++ ts) (later ∙ ap (λ (ms : List Mark). give (d ∷ c) ++ map Completes ms) (sym both))
    ∙ sym (append_assoc (give (b ∷ [])) (give (d ∷ c)) (map Completes (new_marks r (b ∷ d ∷ c))))
    ∙ ap (λ (ts : List Token). ts ++ map Completes (new_marks r (b ∷ d ∷ c))) (sym (part.lending.more b (d ∷ c)))

abbrev nothing : List ℕ → List Token
nothing bytes = []

-- a frame continues with fewer bytes than it lacks
pub still_rest : (r c : List ℕ) → IsRest r → 6 ≤ length r → length c < room_remaining r → IsRest (r ++ c)
still_rest r c p h lt = let s = same_frame r c h in λ le. omega (arith, s.n, length-append r c)

pub room_after_part : (r c : List ℕ) → 6 ≤ length r → room_remaining (r ++ c) ≡ room_remaining r - length c
room_after_part r c h = let s = same_frame r c h in omega (arith, s.n, length-append r c)

-- ---- in the head of a frame

record InHead (r : List ℕ) (n : ℕ) : Type 0 where
  pub short : length r + n ≤ 6

head_part_is : Part nothing InHead
head_part_is = record {
  lending = record { none = refl; more = λ b bytes. refl };
  here = λ r n b i.
      let lt : length r < 6 = omega (arith, i.short) in
      let rest : IsRest r = λ le. absurd (omega arith) in
      ap (λ (x : Spot). lent x (b ∷ [])) (ap spot (rest_alone r rest) ∙ spot_opening r lt);
  silent = λ r n b i. let lt : length (r ++ b ∷ []) < 6 = omega (arith, i.short, length-append r (b ∷ [])) in (head_part r (b ∷ []) lt).marks;
  continues = λ r n b i. record { short = omega (arith, i.short, length-append r (b ∷ [])) };
}

pub head_tokens : (r c : List ℕ) → length r + length c ≤ 6 → tokens r c ≡ map Completes (new_marks r c)
head_tokens r c le = part_tokens nothing InHead head_part_is r c (record { short = le })

-- ---- in a body

record InBody (r : List ℕ) (n : ℕ) : Type 0 where
  pub rest : IsRest r
  pub headed : 6 ≤ length r
  pub spot_is : spot r ≡ Plain
  pub fits : n ≤ room_remaining r

body_part_is : Part (map OfBody) InBody
body_part_is = record {
  lending = record { none = refl; more = λ b bytes. refl };
  here = λ r n b i. ap (λ (x : Spot). lent x (b ∷ [])) (ap spot (rest_alone r i.rest) ∙ i.spot_is);
  silent = λ r n b i. let q = still_rest r (b ∷ []) i.rest i.headed (omega (arith, i.fits)) in ((plain_part r (b ∷ []) i.rest i.spot_is).continues q).marks;
  continues = λ r n b i.
      let q = still_rest r (b ∷ []) i.rest i.headed (omega (arith, i.fits)) in
      let g = (plain_part r (b ∷ []) i.rest i.spot_is).continues q in
      record {
        rest = q;
        headed = omega (arith, i.headed, length-append r (b ∷ []));
        spot_is = g.spot_is;
        fits = omega (arith, i.fits, room_after_part r (b ∷ []) i.headed);
      };
}

pub body_tokens : (r c : List ℕ) → IsRest r → 6 ≤ length r → spot r ≡ Plain → length c ≤ room_remaining r → tokens r c ≡ map OfBody c ++ map Completes (new_marks r c)
body_tokens r c rest h s le = part_tokens (map OfBody) InBody body_part_is r c (record { rest = rest; headed = h; spot_is = s; fits = le })

-- ---- in the head of a presentation data value

record InPdvHead (r : List ℕ) (n : ℕ) : Type 0 where
  pub rest : IsRest r
  pub headed : 6 ≤ length r
  pub part : List ℕ
  pub spot_is : spot r ≡ InPdv part
  pub short : length part + n ≤ 6
  pub fits : n ≤ room_remaining r

pdv_head_part_is : Part nothing InPdvHead
pdv_head_part_is = record {
  lending = record { none = refl; more = λ b bytes. refl };
  here = λ r n b i.
      ap (λ (x : Spot). lent x (b ∷ [])) (ap spot (rest_alone r i.rest) ∙ i.spot_is)
      ∙ rw (lt-ltb (length i.part) 6 (omega (arith, i.short))) refl;
  silent = λ r n b i.
      let q = still_rest r (b ∷ []) i.rest i.headed (omega (arith, i.fits)) in
      let lt : length (i.part ++ b ∷ []) < 6 = omega (arith, i.short, length-append i.part (b ∷ [])) in
      ((pdv_head_part r (b ∷ []) i.part i.rest i.spot_is lt).continues q).marks;
  continues = λ r n b i.
      let q = still_rest r (b ∷ []) i.rest i.headed (omega (arith, i.fits)) in
      let lt : length (i.part ++ b ∷ []) < 6 = omega (arith, i.short, length-append i.part (b ∷ [])) in
      let g = (pdv_head_part r (b ∷ []) i.part i.rest i.spot_is lt).continues q in
      record {
        rest = q;
        headed = omega (arith, i.headed, length-append r (b ∷ []));
        part = i.part ++ b ∷ [];
        spot_is = g.spot_is;
        short = omega (arith, i.short, length-append i.part (b ∷ []));
        fits = omega (arith, i.fits, room_after_part r (b ∷ []) i.headed);
      };
}

pub pdv_head_tokens : (r c b : List ℕ) → IsRest r → 6 ≤ length r → spot r ≡ InPdv b → length b + length c ≤ 6 → length c ≤ room_remaining r → tokens r c ≡ map Completes (new_marks r c)
pdv_head_tokens r c b rest h s short le = part_tokens nothing InPdvHead pdv_head_part_is r c (record { rest = rest; headed = h; part = b; spot_is = s; short = short; fits = le })

-- ---- in a fragment

record InFragment (r : List ℕ) (n : ℕ) : Type 0 where
  pub rest : IsRest r
  pub headed : 6 ≤ length r
  pub part : List ℕ
  pub spot_is : spot r ≡ InPdv part
  pub long : 6 ≤ length part
  pub more : n + length part ≤ pdv_size part
  pub fits : n ≤ room_remaining r

fragment_part_is : Part (map OfFragment) InFragment
fragment_part_is = record {
  lending = record { none = refl; more = λ b bytes. refl };
  here = λ r n b i.
      ap (λ (x : Spot). lent x (b ∷ [])) (ap spot (rest_alone r i.rest) ∙ i.spot_is)
      ∙ rw (le-ltb (length i.part) 6 i.long) refl;
  silent = λ r n b i.
      let q = still_rest r (b ∷ []) i.rest i.headed (omega (arith, i.fits)) in
      let lt : length (i.part ++ b ∷ []) < pdv_size i.part = omega (arith, i.more, length-append i.part (b ∷ [])) in
      ((fragment_part r (b ∷ []) i.part i.rest i.spot_is i.long lt).continues q).marks;
  continues = λ r n b i.
      let q = still_rest r (b ∷ []) i.rest i.headed (omega (arith, i.fits)) in
      let lt : length (i.part ++ b ∷ []) < pdv_size i.part = omega (arith, i.more, length-append i.part (b ∷ [])) in
      let g = (fragment_part r (b ∷ []) i.part i.rest i.spot_is i.long lt).continues q in
      let s = same_head i.part (b ∷ []) i.long in
      record {
        rest = q;
        headed = omega (arith, i.headed, length-append r (b ∷ []));
        part = i.part ++ b ∷ [];
        spot_is = g.spot_is;
        long = omega (arith, i.long, length-append i.part (b ∷ []));
        more = omega (arith, i.more, s.number, length-append i.part (b ∷ []));
        fits = omega (arith, i.fits, room_after_part r (b ∷ []) i.headed);
      };
}

pub fragment_tokens : (r c b : List ℕ) → IsRest r → 6 ≤ length r → spot r ≡ InPdv b → 6 ≤ length b → length c + length b ≤ pdv_size b → length c ≤ room_remaining r → tokens r c ≡ map OfFragment c ++ map Completes (new_marks r c)
fragment_tokens r c b rest h s long more le = part_tokens (map OfFragment) InFragment fragment_part_is r c (record { rest = rest; headed = h; part = b; spot_is = s; long = long; more = more; fits = le })
