use Rattle.std.proofs.Common.{◌≡◌, ℕ, List, ◌≤◌, ◌+◌, ◌-◌, ◌++◌, length, take, drop, take-add, arith, refl}
use Rattle.std.proofs.lemmas.List.{take_at, drop_at, take-append-le, length-drop, length-take, length-append}
use Rattle.std.proofs.KnownBytes.{Consumes-trans}
use Rattle.part10.proofs.reading.fill.Goals as goal

-- the front that was filled before, and what was read after it
take_past : (at n : ℕ) (xs ys zs : List ℕ) → at ≤ length xs → n ≤ length ys → take (at + n) (take at xs ++ (ys ++ zs)) ≡ take at xs ++ take n ys
take_past at n xs ys zs p q =
    let len : length (take at xs) ≡ at = omega (arith, length-take at xs) in
    rw (take-add, take_at (take at xs) (ys ++ zs) at len, drop_at (take at xs) (ys ++ zs) at len, take-append-le n ys zs q) refl

pub loop-at-preserved : goal.loop-at-preserved
loop-at-preserved g c =
    let at = c.loop-at.at in
    let bound : c.in-Ok.n ≤ length c.read_retrying.new.room = c.in-Ok.ensures.within in
    let same : length c.read_retrying.new.room ≡ length (take (length c.loop-at.room - c.loop-at.at) (drop c.loop-at.at c.loop-at.room)) = c.read_retrying.ensures.size in
    record {
      size = simp (length-append, length-take, length-drop) (omega (arith, same, length-take (length c.loop-at.room - c.loop-at.at) (drop c.loop-at.at c.loop-at.room), length-drop c.loop-at.at c.loop-at.room, c.loop-at.invariant.within, c.loop-at.invariant.size));
      within = simp (length-append, length-take) (omega (arith, bound, c.loop-at.invariant.within));
      consumes = rw (take_past at c.in-Ok.n c.loop-at.room c.read_retrying.new.room _ c.loop-at.invariant.within bound) (Consumes-trans _ _ _ _ _ c.loop-at.invariant.consumes c.in-Ok.ensures.consumes);
    }
