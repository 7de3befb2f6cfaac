-- Several bytes more of the value that was received last are these bytes one after the other (`extended`). Stands on OneRoom.
use Rattle.std.proofs.Common.{◌≡◌, ℕ, zero, suc, ◌+◌, ◌-◌, ◌<◌, ◌≤◌, true, List, [], ◌∷◌, ◌++◌, length, get_or, slice_set, sym, ap, ◌∙◌, arith, append_assoc, append-nil, length-append}
use Rattle.std.proofs.lemmas.List.{set-set, get_or-set_same, set-get_or}
use Rattle.std.specs.Prelude.{Result, Ok, Err, OnOk, IsOk}
use Rattle.sequence.specs.declared.wanted.Want.{Want}
use Rattle.sequence.specs.Wanted.{rooms}
use Rattle.sequence.specs.Fields.{absent, stored}
use Rattle.sequence.specs.machine.Keeping.{counts, are_stored, is_latest, remaining_at}
use Rattle.sequence.specs.machine.Steps.{with_bytes}
use Rattle.sequence.proofs.WantedValues.OneRoom.{pushed, push_facts}

remaining_within : (i : ℕ) (ws : List Want) (ns : List ℕ) → 0 < remaining_at i ws ns → i < length ns
remaining_within i [] ns lt = absurd (omega arith)
remaining_within i (w ∷ ws) [] lt = absurd (omega arith)
remaining_within zero (w ∷ ws) (n ∷ ns) lt = omega arith
remaining_within (suc i) (w ∷ ws) (n ∷ ns) lt = let k = remaining_within i ws ns lt in omega (arith, k)

-- one byte, and then k more
again : (ns : List ℕ) (i k n : ℕ) → i < length ns → n ≡ k + 1 → slice_set (slice_set ns i (get_or ns i 0 + 1)) i (get_or (slice_set ns i (get_or ns i 0 + 1)) i 0 + k) ≡ slice_set ns i (get_or ns i 0 + n)
again ns i k n lt e =
    let one : get_or (slice_set ns i (get_or ns i 0 + 1)) i 0 ≡ get_or ns i 0 + 1 = get_or-set_same ns i (get_or ns i 0 + 1) 0 lt in
    let sum : get_or (slice_set ns i (get_or ns i 0 + 1)) i 0 + k ≡ get_or ns i 0 + n = omega (arith, one, e) in
    set-set ns i (get_or ns i 0 + 1) (get_or (slice_set ns i (get_or ns i 0 + 1)) i 0 + k) ∙ ap (slice_set ns i) sum

-- what k more bytes leave
pub record Extended (i : ℕ) (ws : List Want) (ns : List ℕ) (last k : ℕ) : Type 0 where
  pub size : counts ws (slice_set ns i (get_or ns i 0 + k)) ≡ counts ws ns + k
  pub fit : are_stored ws (slice_set ns i (get_or ns i 0 + k)) last ≡ true
  pub latest : is_latest i ws (slice_set ns i (get_or ns i 0 + k)) ≡ true
  pub remaining : remaining_at i ws (slice_set ns i (get_or ns i 0 + k)) ≡ remaining_at i ws ns - k
  pub within : i < length ws
  pub small : get_or ns i 0 + k < absent

pub extend_facts : (k i : ℕ) (ws : List Want) (ns : List ℕ) (last : ℕ) → 0 < k → k ≤ remaining_at i ws ns → is_latest i ws ns ≡ true → are_stored ws ns last ≡ true → rooms ws < absent → Extended i ws ns last k
extend_facts zero i ws ns last some le l s r = absurd (omega arith)
extend_facts (suc zero) i ws ns last some le l s r =
    let f = push_facts i ws ns last (omega arith) l s r in
    record { size = f.size; fit = f.fit; latest = f.latest; remaining = f.remaining; within = f.within; small = f.small }
extend_facts (suc (suc k)) i ws ns last some le l s r =
    let f = push_facts i ws ns last (omega arith) l s r in
    let here = remaining_within i ws ns (omega arith) in
    let one : get_or (slice_set ns i (get_or ns i 0 + 1)) i 0 ≡ get_or ns i 0 + 1 = get_or-set_same ns i (get_or ns i 0 + 1) 0 here in
    let g = extend_facts (suc k) i ws (slice_set ns i (get_or ns i 0 + 1)) last (omega arith) (omega (arith, f.remaining, le)) f.latest f.fit r in
    let same = again ns i (suc k) (suc (suc k)) here (omega arith) in
    record {
      size = ap (counts ws) (sym same) ∙ omega (arith, g.size, f.size);
      fit = ap (λ z. are_stored ws z last) (sym same) ∙ g.fit;
      latest = ap (is_latest i ws) (sym same) ∙ g.latest;
      remaining = ap (remaining_at i ws) (sym same) ∙ omega (arith, g.remaining, f.remaining);
      within = f.within;
      small = omega (arith, g.small, one);
    }

pub extended : (xs : List ℕ) (i : ℕ) (ws : List Want) (ns bytes : List ℕ) (last : ℕ) → length xs ≤ remaining_at i ws ns → is_latest i ws ns ≡ true → are_stored ws ns last ≡ true → counts ws ns ≡ length bytes → rooms ws < absent
    → stored ws (slice_set ns i (get_or ns i 0 + length xs)) (bytes ++ xs) ≡ with_bytes (stored ws ns bytes) xs
extended [] i ws ns bytes last le l s c r =
    let none : get_or ns i 0 + 0 ≡ get_or ns i 0 = omega arith in
    ap (λ z. stored ws (slice_set ns i z) (bytes ++ [])) none ∙ ap (λ z. stored ws z (bytes ++ [])) (set-get_or ns i 0) ∙ ap (stored ws ns) (append-nil bytes)
extended (x ∷ xs) i ws ns bytes last le l s c r =
    let f = push_facts i ws ns last (omega arith) l s r in
    let here = remaining_within i ws ns (omega arith) in
    let more = extended xs i ws (slice_set ns i (get_or ns i 0 + 1)) (bytes ++ x ∷ []) last (omega (arith, f.remaining, le)) f.latest f.fit (omega (arith, f.size, c, size x)) r in
    let same = again ns i (length xs) (length (x ∷ xs)) here (omega arith) in
    ap (λ z. stored ws z (bytes ++ x ∷ xs)) (sym same)
    ∙ ap (stored ws (slice_set (slice_set ns i (get_or ns i 0 + 1)) i (get_or (slice_set ns i (get_or ns i 0 + 1)) i 0 + length xs))) (sym (append_assoc bytes (x ∷ []) xs))
    ∙ more
    ∙ ap (λ z. with_bytes z xs) (pushed i ws ns bytes x (omega arith) l c r)
  where
    size : (x : ℕ) → length (bytes ++ x ∷ []) ≡ length bytes + 1
    size x = length-append bytes (x ∷ [])

pub on_ok : {T E P : Type 0} (r : Result T E) → IsOk r → OnOk r P → P
on_ok (Ok x) ok on = on
on_ok (Err e) ok on = absurd cc
