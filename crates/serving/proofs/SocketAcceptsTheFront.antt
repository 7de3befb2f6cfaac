-- What a socket consumed, followed by what waits then, is what was sent before (`consumed_front`), and no more waits than before
-- (`fewer_wait`).
use Rattle.std.proofs.Common.{◌≡◌, ℕ, ◌≤◌, List, ◌++◌, length, take, drop, ap, ◌∙◌, append_assoc, arith}
use Rattle.std.proofs.lemmas.List.{take-append-drop, length-drop}

pub consumed_front : (written pending written_new pending_new all : List ℕ) (n : ℕ) → written_new ≡ written ++ take n pending → pending_new ≡ drop n pending → written ++ pending ≡ all → written_new ++ pending_new ≡ all
consumed_front written pending written_new pending_new all n w p e =
    rw (w, p) (append_assoc written (take n pending) (drop n pending)) ∙ ap (λ (xs : List ℕ). written ++ xs) (take-append-drop n pending) ∙ e

pub fewer_wait : (pending pending_new : List ℕ) (n most : ℕ) → pending_new ≡ drop n pending → length pending ≤ most → length pending_new ≤ most
fewer_wait pending pending_new n most p le = omega (arith, ap length p, length-drop n pending, le)
