-- Values that are stored one after the other in one room are those of the wanted tags: after one byte more (`pushed`), where
-- one begins (`started_at`), looked up (`look_here`, `look_on`), and counted (`stored_bytes`). Stands on the definitions alone.
use Rattle.std.proofs.Common.{◌≡◌, ℕ, zero, suc, ◌+◌, ◌-◌, ◌<◌, ◌≤◌, ◌≢◌, Bool, true, false, ◌&&◌, ◌||◌, List, [], ◌∷◌, ◌++◌, length, take, drop, get_or, slice_set, replicate, Some, None, nat_eq, nat_le, nat_lt, refl, sym, ap, subst, ◌∙◌, arith, eqb-true, false-eqb, eq-eqb, ne_eqb, leb-true, ltb-true, le-leb, length-append, if◌then◌else◌}
use Rattle.std.proofs.lemmas.List.{take-append-le, drop-append-le, length-drop, length-take-le, take_all}
use Rattle.sequence.specs.declared.wanted.Want.{Want}
use Rattle.element.specs.Header.{number}
use Rattle.sequence.specs.Wanted.{Values, value_of, size_of_values, rooms, room_of, are_rising}
use Rattle.sequence.specs.machine.Keeping.{with_byte, counts, are_stored, all_absent, is_latest, remaining_at, offset_from}
use Rattle.sequence.specs.Fields.{absent, is_absent, stored, but_last, reported_values}

both : (a b : Bool) → (a && b) ≡ true → (a ≡ true) × (b ≡ true)
both true b e = (refl, e)
both false b e = absurd cc

pub absent_stored : (ws : List Want) (ns bytes : List ℕ) → all_absent ws ns ≡ true → stored ws ns bytes ≡ []
absent_stored [] ns bytes e = refl
absent_stored (w ∷ ws) [] bytes e = refl
absent_stored (w ∷ ws) (n ∷ ns) bytes e = let p = both (is_absent n) (all_absent ws ns) e in rw p.0 (absent_stored ws ns bytes p.1)

absent_counts : (ws : List Want) (ns : List ℕ) → all_absent ws ns ≡ true → counts ws ns ≡ 0
absent_counts [] ns e = refl
absent_counts (w ∷ ws) [] e = refl
absent_counts (w ∷ ws) (n ∷ ns) e = let p = both (is_absent n) (all_absent ws ns) e in rw p.0 (absent_counts ws ns p.1)

with_byte_more : (one : ℕ × List ℕ) (values : Values) (x : ℕ) → 0 < length values → with_byte (one ∷ values) x ≡ one ∷ with_byte values x
with_byte_more one [] x lt = absurd (omega arith)
with_byte_more one (two ∷ values) x lt = refl

-- a value that may still get bytes is there

some_by : (a : Bool) (one : ℕ × List ℕ) (remaining : ℕ) (values more : Values) → (a ≡ true → 0 < length values) → 0 < length (if a then values else one ∷ more)
some_by true one remaining values more some = some refl
some_by false one remaining values more some = omega arith

remaining_some : (i : ℕ) (ws : List Want) (ns bytes : List ℕ) → 0 < remaining_at i ws ns → 0 < length (stored ws ns bytes)
remaining_some i [] ns bytes lt = absurd (omega arith)
remaining_some i (w ∷ ws) [] bytes lt = absurd (omega arith)
remaining_some zero (w ∷ ws) (n ∷ ns) bytes lt = some_by (is_absent n) _ 0 _ _ (λ e. absurd (let k : (if is_absent n then 0 else w.room - n) ≡ 0 = rw e refl in omega (arith, lt, k)))
remaining_some (suc i) (w ∷ ws) (n ∷ ns) bytes lt = some_by (is_absent n) _ 0 _ _ (λ e. remaining_some i ws ns bytes lt)

-- one more byte

pushed_here : (w : Want) (ws : List Want) (n : ℕ) (ns bytes : List ℕ) (x : ℕ) (a : Bool) → is_absent n ≡ a → 0 < (if a then 0 else w.room - n) → all_absent ws ns ≡ true → (if a then counts ws ns else (n + counts ws ns)) ≡ length bytes → w.room + rooms ws < absent
    → (if is_absent (n + 1) then stored ws ns (bytes ++ x ∷ []) else (number w.tag, take (n + 1) (bytes ++ x ∷ [])) ∷ stored ws ns (drop (n + 1) (bytes ++ x ∷ []))) ≡ with_byte (if a then stored ws ns bytes else (number w.tag, take n bytes) ∷ stored ws ns (drop n bytes)) x
pushed_here w ws n ns bytes x true e lt l c r = absurd (omega arith)
pushed_here w ws n ns bytes x false e lt l c r =
    let none = absent_counts ws ns l in
    let size : n ≡ length bytes = omega (arith, c, none) in
    let small : is_absent (n + 1) ≡ false = ne_eqb (n + 1) absent (λ same. absurd (omega (arith, same, lt, r))) in
    let all : take (n + 1) (bytes ++ x ∷ []) ≡ bytes ++ x ∷ [] = take_all (n + 1) (bytes ++ x ∷ []) (omega (arith, length-append bytes (x ∷ []))) in
    let before : take n bytes ≡ bytes = take_all n bytes (omega (arith, size)) in
    rw (small, absent_stored ws ns (drop (n + 1) (bytes ++ x ∷ [])) l, absent_stored ws ns (drop n bytes) l, all, before) refl

pushed_on : (w : Want) (ws : List Want) (n : ℕ) (ns ns2 bytes : List ℕ) (x : ℕ) (a : Bool) → is_absent n ≡ a → (if a then counts ws ns else (n + counts ws ns)) ≡ length bytes
    → ((more : List ℕ) → counts ws ns ≡ length more → stored ws ns2 (more ++ x ∷ []) ≡ with_byte (stored ws ns more) x) → ((more : List ℕ) → 0 < length (stored ws ns more))
    → (if a then stored ws ns2 (bytes ++ x ∷ []) else (number w.tag, take n (bytes ++ x ∷ [])) ∷ stored ws ns2 (drop n (bytes ++ x ∷ []))) ≡ with_byte (if a then stored ws ns bytes else (number w.tag, take n bytes) ∷ stored ws ns (drop n bytes)) x
pushed_on w ws n ns ns2 bytes x true e c more some = more bytes c
pushed_on w ws n ns ns2 bytes x false e c more some =
    let within : n ≤ length bytes = omega (arith, c) in
    ap (λ z. (number w.tag, z) ∷ stored ws ns2 (drop n (bytes ++ x ∷ []))) (take-append-le n bytes (x ∷ []) within)
    ∙ ap (λ z. (number w.tag, take n bytes) ∷ stored ws ns2 z) (drop-append-le n bytes (x ∷ []) within)
    ∙ ap (λ z. (number w.tag, take n bytes) ∷ z) (more (drop n bytes) (omega (arith, c, length-drop n bytes)))
    ∙ sym (with_byte_more (number w.tag, take n bytes) (stored ws ns (drop n bytes)) x (some (drop n bytes)))

pub pushed : (i : ℕ) (ws : List Want) (ns bytes : List ℕ) (x : ℕ) → 0 < remaining_at i ws ns → is_latest i ws ns ≡ true → counts ws ns ≡ length bytes → rooms ws < absent
    → stored ws (slice_set ns i (get_or ns i 0 + 1)) (bytes ++ x ∷ []) ≡ with_byte (stored ws ns bytes) x
pushed i [] ns bytes x lt l c r = absurd (omega arith)
pushed i (w ∷ ws) [] bytes x lt l c r = absurd (omega arith)
pushed zero (w ∷ ws) (n ∷ ns) bytes x lt l c r = pushed_here w ws n ns bytes x (is_absent n) refl lt l c r
pushed (suc i) (w ∷ ws) (n ∷ ns) bytes x lt l c r = pushed_on w ws n ns (slice_set ns i (get_or ns i 0 + 1)) bytes x (is_absent n) refl c (λ more size. pushed i ws ns more x lt l size (omega arith)) (λ more. remaining_some i ws ns more lt)

-- what one more byte leaves
pub record Pushed (i : ℕ) (ws : List Want) (ns : List ℕ) (last : ℕ) : Type 0 where
  pub size : counts ws (slice_set ns i (get_or ns i 0 + 1)) ≡ counts ws ns + 1
  pub fit : are_stored ws (slice_set ns i (get_or ns i 0 + 1)) last ≡ true
  pub latest : is_latest i ws (slice_set ns i (get_or ns i 0 + 1)) ≡ true
  pub remaining : remaining_at i ws (slice_set ns i (get_or ns i 0 + 1)) ≡ remaining_at i ws ns - 1
  pub within : i < length ws
  pub small : get_or ns i 0 + 1 < absent

pushed_first : (w : Want) (ws : List Want) (n : ℕ) (ns : List ℕ) (last : ℕ) (a : Bool) → is_absent n ≡ a → 0 < (if a then 0 else w.room - n) → all_absent ws ns ≡ true → ((a || (nat_le n w.room && nat_le (number w.tag) last)) && are_stored ws ns last) ≡ true → w.room + rooms ws < absent
    → ((if is_absent (n + 1) then counts ws ns else (n + 1 + counts ws ns)) ≡ (if a then counts ws ns else (n + counts ws ns)) + 1)
    × (((is_absent (n + 1) || (nat_le (n + 1) w.room && nat_le (number w.tag) last)) && are_stored ws ns last) ≡ true)
    × ((if is_absent (n + 1) then 0 else w.room - (n + 1)) ≡ (if a then 0 else w.room - n) - 1)
    × (n + 1 < absent)
pushed_first w ws n ns last true e lt l s r = absurd (omega arith)
pushed_first w ws n ns last false e lt l s r =
    let small : is_absent (n + 1) ≡ false = ne_eqb (n + 1) absent (λ same. absurd (omega (arith, same, lt, r))) in
    let p = both (nat_le n w.room && nat_le (number w.tag) last) (are_stored ws ns last) s in
    let q = both (nat_le n w.room) (nat_le (number w.tag) last) p.0 in
    let le : nat_le (n + 1) w.room ≡ true = le-leb (n + 1) w.room (omega (arith, lt)) in
    (rw small (omega arith), rw (small, le, q.1, p.1) refl, rw small (omega (arith, lt)), omega (arith, lt, r))

or_mono : (a b c : Bool) → ((a || b) && c) ≡ true → (d : Bool) → d ≡ true → ((a || b) && d) ≡ true
or_mono a b c e d f = rw (f, (both (a || b) c e).0) refl

counts_more : (a : Bool) (n k m : ℕ) → k ≡ m + 1 → (if a then k else (n + k)) ≡ (if a then m else (n + m)) + 1
counts_more true n k m e = e
counts_more false n k m e = omega (arith, e)

pub push_facts : (i : ℕ) (ws : List Want) (ns : List ℕ) (last : ℕ) → 0 < remaining_at i ws ns → is_latest i ws ns ≡ true → are_stored ws ns last ≡ true → rooms ws < absent → Pushed i ws ns last
push_facts i [] ns last lt l s r = absurd (omega arith)
push_facts i (w ∷ ws) [] last lt l s r = absurd (omega arith)
push_facts zero (w ∷ ws) (n ∷ ns) last lt l s r =
    let f = pushed_first w ws n ns last (is_absent n) refl lt l s r in
    record { size = f.0; fit = f.1; latest = l; remaining = f.2; within = omega arith; small = f.3 }
push_facts (suc i) (w ∷ ws) (n ∷ ns) last lt l s r =
    let p = both (is_absent n || (nat_le n w.room && nat_le (number w.tag) last)) (are_stored ws ns last) s in
    let f = push_facts i ws ns last lt l p.1 (omega arith) in
    record { size = counts_more (is_absent n) n _ _ f.size; fit = or_mono (is_absent n) (nat_le n w.room && nat_le (number w.tag) last) (are_stored ws ns last) s _ f.fit; latest = f.latest; remaining = f.remaining; within = omega (arith, f.within); small = f.small }

fit_by : (a : Bool) (n room size rest remaining : ℕ) (tagged : Bool) → (a || (nat_le n room && tagged)) ≡ true → size + remaining ≤ rest → (if a then size else (n + size)) + remaining ≤ room + rest
fit_by true n room size rest remaining tagged e le = omega (arith, le)
fit_by false n room size rest remaining tagged e le = let q = leb-true n room (both (nat_le n room) tagged e).0 in omega (arith, q, le)

here_by : (a : Bool) (n room size rest : ℕ) (tagged : Bool) → (a || (nat_le n room && tagged)) ≡ true → size ≤ rest → (if a then size else (n + size)) + (if a then 0 else room - n) ≤ room + rest
here_by true n room size rest tagged e le = omega (arith, le)
here_by false n room size rest tagged e le = let q = leb-true n room (both (nat_le n room) tagged e).0 in omega (arith, q, le)

fit_all : (ws : List Want) (ns : List ℕ) (last : ℕ) → are_stored ws ns last ≡ true → counts ws ns ≤ rooms ws
fit_all [] ns last s = omega arith
fit_all (w ∷ ws) [] last s = omega arith
fit_all (w ∷ ws) (n ∷ ns) last s =
    let p = both (is_absent n || (nat_le n w.room && nat_le (number w.tag) last)) (are_stored ws ns last) s in
    let f = fit_by (is_absent n) n w.room (counts ws ns) (rooms ws) 0 (nat_le (number w.tag) last) p.0 (let k = fit_all ws ns last p.1 in omega (arith, k)) in
    omega (arith, f)

-- the bytes that were received and those that a value may still get have room
pub fit_remaining : (i : ℕ) (ws : List Want) (ns : List ℕ) (last : ℕ) → are_stored ws ns last ≡ true → counts ws ns + remaining_at i ws ns ≤ rooms ws
fit_remaining i [] ns last s = omega arith
fit_remaining i (w ∷ ws) [] last s = omega arith
fit_remaining zero (w ∷ ws) (n ∷ ns) last s =
    let p = both (is_absent n || (nat_le n w.room && nat_le (number w.tag) last)) (are_stored ws ns last) s in
    here_by (is_absent n) n w.room (counts ws ns) (rooms ws) (nat_le (number w.tag) last) p.0 (fit_all ws ns last p.1)
fit_remaining (suc i) (w ∷ ws) (n ∷ ns) last s =
    let p = both (is_absent n || (nat_le n w.room && nat_le (number w.tag) last)) (are_stored ws ns last) s in
    fit_by (is_absent n) n w.room (counts ws ns) (rooms ws) (remaining_at i ws ns) (nat_le (number w.tag) last) p.0 (fit_remaining i ws ns last p.1)

-- a value that begins

abbrev pub IsOffset : ℕ → List Want → ℕ → Type 0
IsOffset i [] t = ⊥
IsOffset zero (w ∷ ws) t = number w.tag ≡ t
IsOffset (suc i) (w ∷ ws) t = (number w.tag ≢ t) × IsOffset i ws t

pub record Found (k : ℕ) (ws : List Want) (t i : ℕ) : Type 0 where
  pub at : ℕ
  pub i-is : i ≡ k + at
  pub offset : IsOffset at ws t

found_by : (b : Bool) (k : ℕ) (w : Want) (ws : List Want) (t i : ℕ) → nat_eq (number w.tag) t ≡ b → (if b then Some k else offset_from (k + 1) ws t) ≡ Some i → (offset_from (k + 1) ws t ≡ Some i → Found (k + 1) ws t i) → Found k (w ∷ ws) t i
found_by true k w ws t i e h more = record { at = 0; i-is = let same : k ≡ i = cc in omega (arith, same); offset = eqb-true (number w.tag) t e }
found_by false k w ws t i e h more = let f = more h in record { at = suc f.at; i-is = omega (arith, f.i-is); offset = (false-eqb (number w.tag) t (sym e), f.offset) }

pub found : (k : ℕ) (ws : List Want) (t i : ℕ) → offset_from k ws t ≡ Some i → Found k ws t i
found k [] t i e = absurd cc
found k (w ∷ ws) t i e = found_by (nat_eq (number w.tag) t) k w ws t i refl e (found (k + 1) ws t i)

not_by : (b : Bool) (k : ℕ) (w : Want) (ws : List Want) (t : ℕ) → nat_eq (number w.tag) t ≡ b → (if b then Some k else offset_from (k + 1) ws t) ≡ None → (offset_from (k + 1) ws t ≡ None → room_of ws t ≡ None) → (if b then Some w.room else room_of ws t) ≡ None
not_by true k w ws t e h more = absurd cc
not_by false k w ws t e h more = more h

pub not_found : (k : ℕ) (ws : List Want) (t : ℕ) → offset_from k ws t ≡ None → room_of ws t ≡ None
not_found k [] t e = refl
not_found k (w ∷ ws) t e = not_by (nat_eq (number w.tag) t) k w ws t refl e (not_found (k + 1) ws t)

absent_by : (a : Bool) (n room tag last : ℕ) (rest : Bool) → ((a || (nat_le n room && nat_le tag last)) && rest) ≡ true → last < tag → a ≡ true
absent_by true n room tag last rest e lt = refl
absent_by false n room tag last rest e lt = absurd (let p = both (nat_le n room && nat_le tag last) rest e in let q = leb-true tag last (both (nat_le n room) (nat_le tag last) p.0).1 in omega (arith, q, lt))

-- tags above the last one that was received were not received
above_absent : (above : ℕ) (ws : List Want) (ns : List ℕ) (last : ℕ) → are_rising above ws ≡ true → last ≤ above → are_stored ws ns last ≡ true → all_absent ws ns ≡ true
above_absent above [] ns last r le s = refl
above_absent above (w ∷ ws) [] last r le s = refl
above_absent above (w ∷ ws) (n ∷ ns) last r le s =
    let q = both (nat_lt above (number w.tag)) (are_rising (number w.tag) ws) r in
    let lt = ltb-true above (number w.tag) q.0 in
    let p = both (is_absent n || (nat_le n w.room && nat_le (number w.tag) last)) (are_stored ws ns last) s in
    rw (absent_by (is_absent n) n w.room (number w.tag) last (are_stored ws ns last) s (omega (arith, lt, le)), above_absent (number w.tag) ws ns last q.1 (omega (arith, lt, le)) p.1) refl

pub record Started (i : ℕ) (ws : List Want) (ns bytes : List ℕ) (t : ℕ) : Type 0 where
  pub values : stored ws (slice_set ns i 0) bytes ≡ stored ws ns bytes ++ (t, []) ∷ []
  pub size : counts ws (slice_set ns i 0) ≡ counts ws ns
  pub fit : are_stored ws (slice_set ns i 0) t ≡ true
  pub latest : is_latest i ws (slice_set ns i 0) ≡ true
  pub remaining : room_of ws t ≡ Some (remaining_at i ws (slice_set ns i 0))
  pub within : i < length ws

mono_by : (a : Bool) (n room tag last t : ℕ) → (a || (nat_le n room && nat_le tag last)) ≡ true → last ≤ t → (a || (nat_le n room && nat_le tag t)) ≡ true
mono_by true n room tag last t e le = refl
mono_by false n room tag last t e le = let p = both (nat_le n room) (nat_le tag last) e in rw (p.0, le-leb tag t (let k = leb-true tag last p.1 in omega (arith, k, le))) refl

stored_mono : (ws : List Want) (ns : List ℕ) (last t : ℕ) → last ≤ t → are_stored ws ns last ≡ true → are_stored ws ns t ≡ true
stored_mono [] ns last t le s = refl
stored_mono (w ∷ ws) [] last t le s = refl
stored_mono (w ∷ ws) (n ∷ ns) last t le s =
    let p = both (is_absent n || (nat_le n w.room && nat_le (number w.tag) last)) (are_stored ws ns last) s in
    rw (mono_by (is_absent n) n w.room (number w.tag) last t p.0 le, stored_mono ws ns last t le p.1) refl

append_by : (a : Bool) (one new : ℕ × List ℕ) (v1 v2 w1 w2 : Values) → v1 ≡ w1 ++ new ∷ [] → v2 ≡ w2 ++ new ∷ [] → (if a then v1 else one ∷ v2) ≡ (if a then w1 else one ∷ w2) ++ new ∷ []
append_by true one new v1 v2 w1 w2 e f = e
append_by false one new v1 v2 w1 w2 e f = ap (λ z. one ∷ z) f

same_by : (a : Bool) (n k m : ℕ) → k ≡ m → (if a then k else (n + k)) ≡ (if a then m else (n + m))
same_by true n k m e = e
same_by false n k m e = ap (λ z. n + z) e

whole_room : (n : ℕ) → n ≡ n - 0
whole_room n = omega arith

pub started : (i above : ℕ) (ws : List Want) (ns bytes : List ℕ) (t last : ℕ) → IsOffset i ws t → are_rising above ws ≡ true → are_stored ws ns last ≡ true → last < t → length ws ≤ length ns → Started i ws ns bytes t
started i above [] ns bytes t last offset r s lt long = absurd offset
started i above (w ∷ ws) [] bytes t last offset r s lt long = absurd (omega arith)
started zero above (w ∷ ws) (n ∷ ns) bytes t last offset r s lt long =
    let p = both (is_absent n || (nat_le n w.room && nat_le (number w.tag) last)) (are_stored ws ns last) s in
    let q = both (nat_lt above (number w.tag)) (are_rising (number w.tag) ws) r in
    let gone : is_absent n ≡ true = absent_by (is_absent n) n w.room (number w.tag) last (are_stored ws ns last) s (omega (arith, offset, lt)) in
    let rest : all_absent ws ns ≡ true = above_absent (number w.tag) ws ns last q.1 (omega (arith, offset, lt)) p.1 in
    let le : nat_le (number w.tag) t ≡ true = le-leb (number w.tag) t (omega (arith, offset)) in
    let kept : are_stored ws ns t ≡ true = stored_mono ws ns last t (omega (arith, lt)) p.1 in
    let same : nat_eq (number w.tag) t ≡ true = eq-eqb (number w.tag) t offset in
    let none = absent_stored ws ns bytes rest in
    record {
      values = rw (gone, none) (ap (λ z. (z, []) ∷ []) offset);
      size = rw gone (omega arith);
      fit = rw (le-leb 0 w.room (omega arith), le, kept) refl;
      latest = rest;
      remaining = rw same (ap Some (whole_room w.room));
      within = omega arith;
    }
started (suc i) above (w ∷ ws) (n ∷ ns) bytes t last offset r s lt long =
    let p = both (is_absent n || (nat_le n w.room && nat_le (number w.tag) last)) (are_stored ws ns last) s in
    let q = both (nat_lt above (number w.tag)) (are_rising (number w.tag) ws) r in
    let f = started i (number w.tag) ws ns bytes t last offset.1 q.1 p.1 lt (omega arith) in
    let g = started i (number w.tag) ws ns (drop n bytes) t last offset.1 q.1 p.1 lt (omega arith) in
    let other : nat_eq (number w.tag) t ≡ false = ne_eqb (number w.tag) t offset.0 in
    let mono : (is_absent n || (nat_le n w.room && nat_le (number w.tag) t)) ≡ true = mono_by (is_absent n) n w.room (number w.tag) last t p.0 (omega (arith, lt)) in
    record {
      values = append_by (is_absent n) (number w.tag, take n bytes) (t, []) _ _ _ _ f.values g.values;
      size = same_by (is_absent n) n _ _ f.size;
      fit = rw (mono, f.fit) refl;
      latest = f.latest;
      remaining = rw other f.remaining;
      within = omega (arith, f.within);
    }

-- no value was received
pub record New (ws : List Want) (ns : List ℕ) : Type 0 where
  pub all : all_absent ws ns ≡ true
  pub size : counts ws ns ≡ 0
  pub fit : are_stored ws ns 0 ≡ true
  pub latest : is_latest 0 ws ns ≡ true

new_absent : (ws : List Want) (n : ℕ) → all_absent ws (replicate n absent) ≡ true
new_absent [] n = refl
new_absent (w ∷ ws) zero = refl
new_absent (w ∷ ws) (suc n) = new_absent ws n

new_fit : (ws : List Want) (n : ℕ) → are_stored ws (replicate n absent) 0 ≡ true
new_fit [] n = refl
new_fit (w ∷ ws) zero = refl
new_fit (w ∷ ws) (suc n) = new_fit ws n

new_latest : (ws : List Want) (n : ℕ) → is_latest 0 ws (replicate n absent) ≡ true
new_latest [] n = refl
new_latest (w ∷ ws) zero = refl
new_latest (w ∷ ws) (suc n) = new_absent ws n

pub all_new : (ws : List Want) (n : ℕ) → New ws (replicate n absent)
all_new ws n = record { all = new_absent ws n; size = absent_counts ws (replicate n absent) (new_absent ws n); fit = new_fit ws n; latest = new_latest ws n }

pub started_at : (i : ℕ) (ws : List Want) (ns bytes : List ℕ) (t last : ℕ) → offset_from 0 ws t ≡ Some i → are_rising 0 ws ≡ true → are_stored ws ns last ≡ true → last < t → length ws ≤ length ns → Started i ws ns bytes t
started_at i ws ns bytes t last e r s lt long =
    let f = found 0 ws t i e in
    let same : f.at ≡ i = omega (arith, f.i-is) in
    subst (λ z. Started z ws ns bytes t) same (started f.at 0 ws ns bytes t last f.offset r s lt long)

-- the values that are reported

bytes_by : (a : Bool) (n : ℕ) (one : ℕ × List ℕ) (v1 v2 : Values) (c k : ℕ) → (a ≡ true → size_of_values v1 ≡ c) → (a ≡ false → length one.1 + size_of_values v2 ≡ n + c) → size_of_values (if a then v1 else one ∷ v2) ≡ (if a then c else (n + c))
bytes_by true n one v1 v2 c k e f = e refl
bytes_by false n one v1 v2 c k e f = f refl

pub stored_bytes : (ws : List Want) (ns bytes : List ℕ) → counts ws ns ≤ length bytes → size_of_values (stored ws ns bytes) ≡ counts ws ns
stored_bytes [] ns bytes c = refl
stored_bytes (w ∷ ws) [] bytes c = refl
stored_bytes (w ∷ ws) (n ∷ ns) bytes c =
    bytes_by (is_absent n) n (number w.tag, take n bytes) (stored ws ns bytes) (stored ws ns (drop n bytes)) (counts ws ns) 0
    (λ e. stored_bytes ws ns bytes (let k : counts ws ns ≤ length bytes = rw e at c in k))
    (λ e. let k : n + counts ws ns ≤ length bytes = rw e at c in let size : length (take n bytes) ≡ n = length-take-le n bytes (omega (arith, k)) in let rest = stored_bytes ws ns (drop n bytes) (omega (arith, k, length-drop n bytes)) in omega (arith, size, rest))

but_last_more : (one : ℕ × List ℕ) (values : Values) → 0 < length values → but_last (one ∷ values) ≡ one ∷ but_last values
but_last_more one [] lt = absurd (omega arith)
but_last_more one (two ∷ values) lt = refl

whole_by : (a : Bool) (one : ℕ × List ℕ) (v1 v2 w1 w2 : Values) → but_last v1 ≡ w1 → but_last v2 ≡ w2 → 0 < length v2 → but_last (if a then v1 else one ∷ v2) ≡ (if a then w1 else one ∷ w2)
whole_by true one v1 v2 w1 w2 e f lt = e
whole_by false one v1 v2 w1 w2 e f lt = but_last_more one v2 lt ∙ ap (λ z. one ∷ z) f

pub whole_stored : (i : ℕ) (ws : List Want) (ns bytes : List ℕ) → 0 < remaining_at i ws ns → is_latest i ws ns ≡ true → but_last (stored ws ns bytes) ≡ stored ws (slice_set ns i absent) bytes
whole_stored i [] ns bytes lt l = absurd (omega arith)
whole_stored i (w ∷ ws) [] bytes lt l = absurd (omega arith)
whole_stored zero (w ∷ ws) (n ∷ ns) bytes lt l = by (is_absent n) refl lt
  where
    by : (a : Bool) → is_absent n ≡ a → 0 < (if a then 0 else w.room - n) → but_last (if a then stored ws ns bytes else (number w.tag, take n bytes) ∷ stored ws ns (drop n bytes)) ≡ stored ws ns bytes
    by true e lt = absurd (omega arith)
    by false e lt = rw (absent_stored ws ns (drop n bytes) l, absent_stored ws ns bytes l) refl
whole_stored (suc i) (w ∷ ws) (n ∷ ns) bytes lt l =
    whole_by (is_absent n) (number w.tag, take n bytes) _ _ _ _ (whole_stored i ws ns bytes lt l) (whole_stored i ws ns (drop n bytes) lt l) (remaining_some i ws ns (drop n bytes) lt)

less_by : (a : Bool) (n k m : ℕ) → k ≤ m → (if a then k else (n + k)) ≤ (if a then m else (n + m))
less_by true n k m le = le
less_by false n k m le = omega (arith, le)

here_less : (a : Bool) (n k : ℕ) → k ≤ (if a then k else (n + k))
here_less true n k = omega arith
here_less false n k = omega arith

pub counts_less : (i : ℕ) (ws : List Want) (ns : List ℕ) → counts ws (slice_set ns i absent) ≤ counts ws ns
counts_less i [] ns = omega arith
counts_less zero (w ∷ ws) [] = omega arith
counts_less (suc i) (w ∷ ws) [] = omega arith
counts_less zero (w ∷ ws) (n ∷ ns) = here_less (is_absent n) n (counts ws ns)
counts_less (suc i) (w ∷ ws) (n ∷ ns) = less_by (is_absent n) n _ _ (counts_less i ws ns)

pub reported_stored : (started : Bool) (i : ℕ) (ws : List Want) (ns bytes : List ℕ) → (started ≡ true → 0 < remaining_at i ws ns) → is_latest i ws ns ≡ true → stored ws (if started then slice_set ns i absent else ns) bytes ≡ reported_values started (stored ws ns bytes)
reported_stored true i ws ns bytes lt l = sym (whole_stored i ws ns bytes (lt refl) l)
reported_stored false i ws ns bytes lt l = refl

pub reported_counts : (started : Bool) (i : ℕ) (ws : List Want) (ns : List ℕ) → counts ws (if started then slice_set ns i absent else ns) ≤ counts ws ns
reported_counts true i ws ns = counts_less i ws ns
reported_counts false i ws ns = omega arith

-- going along the wanted tags

pub stored_at : (ws : List Want) (ns bytes : List ℕ) (i : ℕ) (w : Want) → i < length ws → i < length ns
    → stored (drop i ws) (drop i ns) bytes ≡ (if is_absent (get_or ns i 0) then stored (drop (suc i) ws) (drop (suc i) ns) bytes else (number (get_or ws i w).tag, take (get_or ns i 0) bytes) ∷ stored (drop (suc i) ws) (drop (suc i) ns) (drop (get_or ns i 0) bytes))
stored_at [] ns bytes i w lt lt2 = absurd (omega arith)
stored_at (v ∷ ws) [] bytes i w lt lt2 = absurd (omega arith)
stored_at (v ∷ ws) (n ∷ ns) bytes zero w lt lt2 = refl
stored_at (v ∷ ws) (n ∷ ns) bytes (suc i) w lt lt2 = stored_at ws ns bytes i w (omega arith) (omega arith)

pub counts_at : (ws : List Want) (ns : List ℕ) (i : ℕ) → i < length ws → i < length ns → counts (drop i ws) (drop i ns) ≡ (if is_absent (get_or ns i 0) then counts (drop (suc i) ws) (drop (suc i) ns) else (get_or ns i 0 + counts (drop (suc i) ws) (drop (suc i) ns)))
counts_at [] ns i lt lt2 = absurd (omega arith)
counts_at (v ∷ ws) [] i lt lt2 = absurd (omega arith)
counts_at (v ∷ ws) (n ∷ ns) zero lt lt2 = refl
counts_at (v ∷ ws) (n ∷ ns) (suc i) lt lt2 = counts_at ws ns i (omega arith) (omega arith)

next_offset : (i : ℕ) → i + 1 ≡ suc i
next_offset i = omega arith

if_yes : {A : Type 0} (b : Bool) (x y : A) → b ≡ true → (if b then x else y) ≡ x
if_yes true x y e = refl
if_yes false x y e = absurd cc

if_no : {A : Type 0} (b : Bool) (x y : A) → b ≡ false → (if b then x else y) ≡ y
if_no true x y e = absurd cc
if_no false x y e = refl

-- the next one is not there, is the one, or is another

pub look_absent : (ws : List Want) (ns bytes : List ℕ) (i t : ℕ) → i < length ws → i < length ns → get_or ns i 0 ≡ absent → value_of (stored (drop (i + 1) ws) (drop (i + 1) ns) bytes) t ≡ value_of (stored (drop i ws) (drop i ns) bytes) t
look_absent [] ns bytes i t lt lt2 e = absurd (omega arith)
look_absent (w ∷ ws) ns bytes i t lt lt2 e =
    ap (λ k. value_of (stored (drop k (w ∷ ws)) (drop k ns) bytes) t) (next_offset i)
    ∙ ap (λ z. value_of z t) (sym (stored_at (w ∷ ws) ns bytes i w lt lt2 ∙ if_yes (is_absent (get_or ns i 0)) _ _ (eq-eqb (get_or ns i 0) absent e)))

pub look_here : (ws : List Want) (ns bytes : List ℕ) (i t : ℕ) (w : Want) → i < length ws → i < length ns → get_or ns i 0 ≢ absent → number (get_or ws i w).tag ≡ t → Some (take (get_or ns i 0) bytes) ≡ value_of (stored (drop i ws) (drop i ns) bytes) t
look_here ws ns bytes i t w lt lt2 e same =
    sym (ap (λ z. value_of z t) (stored_at ws ns bytes i w lt lt2 ∙ if_no (is_absent (get_or ns i 0)) _ _ (ne_eqb (get_or ns i 0) absent e)) ∙ if_yes (nat_eq (number (get_or ws i w).tag) t) _ _ (eq-eqb (number (get_or ws i w).tag) t same))

pub look_on : (ws : List Want) (ns bytes : List ℕ) (i t : ℕ) (w : Want) → i < length ws → i < length ns → get_or ns i 0 ≢ absent → number (get_or ws i w).tag ≢ t → value_of (stored (drop (i + 1) ws) (drop (i + 1) ns) (drop (get_or ns i 0) bytes)) t ≡ value_of (stored (drop i ws) (drop i ns) bytes) t
look_on ws ns bytes i t w lt lt2 e other =
    ap (λ k. value_of (stored (drop k ws) (drop k ns) (drop (get_or ns i 0) bytes)) t) (next_offset i)
    ∙ sym (ap (λ z. value_of z t) (stored_at ws ns bytes i w lt lt2 ∙ if_no (is_absent (get_or ns i 0)) _ _ (ne_eqb (get_or ns i 0) absent e)) ∙ if_no (nat_eq (number (get_or ws i w).tag) t) _ _ (ne_eqb (number (get_or ws i w).tag) t other))

pub size_absent : (ws : List Want) (ns : List ℕ) (i k : ℕ) → i < length ws → i < length ns → get_or ns i 0 ≡ absent → counts (drop i ws) (drop i ns) ≤ k → counts (drop (i + 1) ws) (drop (i + 1) ns) ≤ k
size_absent ws ns i k lt lt2 e le =
    let same = counts_at ws ns i lt lt2 ∙ if_yes (is_absent (get_or ns i 0)) _ _ (eq-eqb (get_or ns i 0) absent e) in
    let next = ap (λ j. counts (drop j ws) (drop j ns)) (next_offset i) in
    omega (arith, same, le, next)

pub size_on : (ws : List Want) (ns : List ℕ) (i k : ℕ) → i < length ws → i < length ns → get_or ns i 0 ≢ absent → counts (drop i ws) (drop i ns) ≤ k → get_or ns i 0 + counts (drop (i + 1) ws) (drop (i + 1) ns) ≤ k
size_on ws ns i k lt lt2 e le =
    let same = counts_at ws ns i lt lt2 ∙ if_no (is_absent (get_or ns i 0)) _ _ (ne_eqb (get_or ns i 0) absent e) in
    let next = ap (λ j. counts (drop j ws) (drop j ns)) (next_offset i) in
    omega (arith, same, le, next)

none_past : (ws : List Want) (i : ℕ) → length ws ≤ i → drop i ws ≡ []
none_past [] zero le = refl
none_past [] (suc i) le = refl
none_past (w ∷ ws) zero le = absurd (omega arith)
none_past (w ∷ ws) (suc i) le = none_past ws i (omega arith)

pub look_end : (ws : List Want) (ns bytes : List ℕ) (i t : ℕ) → length ws ≤ i → None ≡ value_of (stored (drop i ws) (drop i ns) bytes) t
look_end ws ns bytes i t le = sym (ap (λ z. value_of (stored z (drop i ns) bytes) t) (none_past ws i le))

pub part_is : (n : ℕ) (rest : List ℕ) → take (length rest - n) (drop n rest) ≡ drop n rest
part_is n rest = take_all (length rest - n) (drop n rest) (omega (arith, length-drop n rest))
