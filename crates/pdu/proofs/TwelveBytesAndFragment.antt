-- A P-DATA-TF PDU of one presentation data value is twelve bytes and its fragment (`data_parts`). Stands on the
-- definitions alone.
use Rattle.std.proofs.Common.{◌≡◌, ℕ, ◌+◌, Bool, List, [], ◌∷◌, ◌++◌, length, ap, ◌∙◌, arith}
use Rattle.element.specs.Numbers.{be}
use Rattle.pdu.specs.Texts.{pdv_text, data_text, control_of}

abbrev pub data_front : ℕ → Bool → Bool → ℕ → List ℕ
data_front context command last n = 4 ∷ 0 ∷ (be (n + 6) 4 ++ (be (n + 2) 4 ++ context ∷ control_of command last ∷ []))

pub data_parts : (context : ℕ) (command last : Bool) (fragment head : List ℕ) → head ≡ data_front context command last (length fragment) → head ++ fragment ≡ data_text context command last fragment
data_parts context command last fragment head e =
    let n : length fragment + 6 ≡ length (pdv_text context command last fragment) = omega arith in
    ap (λ (h : List ℕ). h ++ fragment) e ∙ ap (λ (k : ℕ). 4 ∷ 0 ∷ (be k 4 ++ pdv_text context command last fragment)) n
