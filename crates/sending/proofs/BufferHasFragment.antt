-- What is read into a buffer after room for the heads is its fragment (`read_pdu`, `read_after`), as are the bytes of it that follow a
-- front (`after_front`); twelve bytes and a fragment are a P-DATA-TF PDU (`data_parts`). Stands on the definitions alone.
use Rattle.std.proofs.Common.{◌≡◌, ℕ, Bool, ◌≤◌, ◌+◌, ◌-◌, List, [], ◌∷◌, ◌++◌, length, take, drop, slice_range, ap, sym, ◌∙◌, arith, refl}
use Rattle.std.proofs.lemmas.List.{drop_at, take-append-le, drop-drop, drop-take, length-take-le, length-append}
use Rattle.element.specs.Numbers.{be}
use Rattle.pdu.specs.Texts.{control_of, data_text, pdv_text}
use borrow.Rule.Slice.PartMut.{put_mid, post_of}

pub read_pdu : (at k n : ℕ) (bytes room : List ℕ) → at ≤ length bytes → n ≤ length room → drop at (take (at + n) (put_mid at k bytes room)) ≡ take n room
read_pdu at k n bytes room within fits =
    drop-take at n (put_mid at k bytes room) ∙ ap (take n) (drop_at (take at bytes) (room ++ post_of at k bytes) at (length-take-le at bytes within)) ∙ take-append-le n room (post_of at k bytes) fits

pub read_after : (at k n : ℕ) (bytes room : List ℕ) → at ≤ length bytes → n ≤ length room → slice_range (put_mid at k bytes room) at (at + n) ≡ take n room
read_after at k n bytes room within fits =
    let size : at + n - at ≡ n = omega arith in
    ap (λ (j : ℕ). take j (drop at (put_mid at k bytes room))) size ∙ sym (drop-take at n (put_mid at k bytes room)) ∙ read_pdu at k n bytes room within fits

-- what follows a front of the bytes that were read
pub after_front : (at k n : ℕ) (bytes room front rest : List ℕ) → at ≤ length bytes → n ≤ length room → take n room ≡ front ++ rest
    → slice_range (put_mid at k bytes room) (at + n - length rest) (at + n) ≡ rest
after_front at k n bytes room front rest within fits parts =
    let all : n ≡ length front + length rest = sym (length-take-le n room fits) ∙ ap length parts ∙ length-append front rest in
    let start : at + n - length rest ≡ at + length front = omega (arith, all) in
    let size : at + n - (at + length front) ≡ length rest = omega (arith, all) in
    let whole : at + n - at ≡ length front + length rest = omega (arith, all) in
    let buffer = put_mid at k bytes room in
    rw start
    (ap (λ (j : ℕ). take j (drop (at + length front) buffer)) size
    ∙ ap (take (length rest)) (sym (drop-drop (length front) at buffer))
    ∙ sym (drop-take (length front) (length rest) (drop at buffer))
    ∙ ap (λ (j : ℕ). drop (length front) (take j (drop at buffer))) (sym whole)
    ∙ ap (drop (length front)) (read_after at k n bytes room within fits ∙ parts)
    ∙ drop_at front rest (length front) refl)

-- a fragment in a buffer, after room for its heads
pub after_heads : (heads start end : ℕ) (bytes : List ℕ) → heads ≤ start → start ≤ end → drop heads (take (end - (start - heads)) (drop (start - heads) bytes)) ≡ slice_range bytes start end
after_heads heads start end bytes headed ordered =
    let size : end - (start - heads) ≡ heads + (end - start) = omega (arith, headed, ordered) in
    let from : start - heads + heads ≡ start = omega (arith, headed) in
    ap (λ (j : ℕ). drop heads (take j (drop (start - heads) bytes))) size
    ∙ drop-take heads (end - start) (drop (start - heads) bytes)
    ∙ ap (take (end - start)) (drop-drop heads (start - heads) bytes ∙ ap (λ (j : ℕ). drop j bytes) from)

pub data_parts : (context : ℕ) (command last : Bool) (fragment head : List ℕ)
    → head ≡ 4 ∷ 0 ∷ (be (length fragment + 6) 4 ++ (be (length fragment + 2) 4 ++ context ∷ control_of command last ∷ []))
    → head ++ fragment ≡ data_text context command last fragment
data_parts context command last fragment head e =
    let n : length fragment + 6 ≡ length (pdv_text context command last fragment) = omega arith in
    ap (λ (h : List ℕ). h ++ fragment) e ∙ ap (λ (k : ℕ). 4 ∷ 0 ∷ (be k 4 ++ pdv_text context command last fragment)) n
