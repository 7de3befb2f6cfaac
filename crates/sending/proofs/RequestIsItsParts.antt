-- The parts of an A-ASSOCIATE-RQ, one after another, are the whole (`put_together`). Stands on the definitions alone.
use Rattle.std.proofs.Common.{◌≡◌, ℕ, ◌+◌, List, [], ◌∷◌, ◌++◌, length, replicate, arith, append_assoc}
use Rattle.std.proofs.lemmas.List.{length-append}
use Rattle.element.specs.Numbers.{be}
use Rattle.pdu.specs.Texts.{pdu_text}

pub put_together : (called calling items s1 s2 s3 s4 s5 : List ℕ) (size : ℕ) → length called ≡ 16 → length calling ≡ 16 → size ≡ length items + 68
    → s1 ≡ [] ++ (1 ∷ 0 ∷ (be size 4 ++ 0 ∷ 1 ∷ 0 ∷ 0 ∷ []))
    → s2 ≡ s1 ++ called
    → s3 ≡ s2 ++ calling
    → s4 ≡ s3 ++ replicate 32 0
    → s5 ≡ s4 ++ items
    → s5 ≡ pdu_text 1 (0 ∷ 1 ∷ 0 ∷ 0 ∷ (called ++ (calling ++ (replicate 32 0 ++ items))))
put_together called calling items s1 s2 s3 s4 s5 size c d e e1 e2 e3 e4 e5 =
    let n : length (0 ∷ 1 ∷ 0 ∷ 0 ∷ (called ++ (calling ++ (replicate 32 0 ++ items)))) ≡ size = simp length-append (omega (arith, c, d, e)) in
    rw (n, e5, e4, e3, e2, e1) (simp append_assoc)
