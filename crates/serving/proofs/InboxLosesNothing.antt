-- What was read is what was consumed followed by what waits in the inbox, as more is read (`read_behind`) and consumed
-- (`front_consumed`, `consumed_on`).
use Rattle.std.proofs.Common.{◌≡◌, ℕ, ◌≤◌, ◌+◌, ◌-◌, min, List, [], ◌++◌, length, take, drop, slice_range, ap, sym, ◌∙◌, append_assoc, append-nil, arith, refl}
use Rattle.std.proofs.Math.Nat.{min-le_left}
use Rattle.std.proofs.lemmas.List.{take_at, drop_at, take-append-drop, take-append-le, drop-append-le, drop-drop, drop-take, length-drop, length-take, length-take-le}
use borrow.Rule.Slice.PartMut.{put_mid, post_of}
use lib.Seq.{take-add}

-- what waits once more was consumed
pub consumed_on : (bytes : List ℕ) (consumed read count : ℕ) → consumed + count ≤ read → slice_range bytes (consumed + count) read ≡ drop count (slice_range bytes consumed read)
consumed_on bytes consumed read count inside =
    let parts : read - consumed ≡ count + (read - (consumed + count)) = omega arith in
    sym (ap (λ (j : ℕ). drop count (take j (drop consumed bytes))) parts ∙ drop-take count _ (drop consumed bytes) ∙ ap (take (read - (consumed + count))) (drop-drop count consumed bytes))

-- what is read stands behind what waits
pub read_behind : (bytes room : List ℕ) (consumed read k n : ℕ) → consumed ≤ read → read ≤ length bytes → n ≤ length room → slice_range (put_mid read k bytes room) consumed (read + n) ≡ slice_range bytes consumed read ++ take n room
read_behind bytes room consumed read k n ordered within fits =
    let held = drop consumed (take read bytes) in
    let len : length held ≡ read - consumed = omega (arith, length-take-le read bytes within, length-drop consumed (take read bytes)) in
    let sum : read + n - consumed ≡ (read - consumed) + n = omega arith in
    let parts : read ≡ consumed + (read - consumed) = omega arith in
    let same : held ≡ take (read - consumed) (drop consumed bytes) = ap (λ (j : ℕ). drop consumed (take j bytes)) parts ∙ drop-take consumed (read - consumed) bytes in
    let after = room ++ post_of read k bytes in
    ap (take (read + n - consumed)) (drop-append-le consumed (take read bytes) after (omega (arith, length-take-le read bytes within))) ∙ ap (λ (j : ℕ). take j (held ++ after)) sum ∙ take-add (read - consumed) n (held ++ after)
    ∙ (rw (take_at held after _ len, drop_at held after _ len, take-append-le n room (post_of read k bytes) fits, same) refl)

-- what waits is the same where nothing is read behind it
pub nothing_behind : (bytes room : List ℕ) (consumed read k : ℕ) → consumed ≤ read → read ≤ length bytes → slice_range (put_mid read k bytes room) consumed read ≡ slice_range bytes consumed read
nothing_behind bytes room consumed read k ordered within =
    let same : read ≡ read + 0 = omega arith in
    ap (λ (j : ℕ). slice_range (put_mid read k bytes room) consumed j) same ∙ read_behind bytes room consumed read k 0 ordered within (omega arith) ∙ append-nil (slice_range bytes consumed read)

-- what was read is what was consumed followed by what waits, once the front of that was consumed, too
pub front_consumed : (consumed lent unconsumed unconsumed_new read : List ℕ) (n : ℕ) → lent ≡ unconsumed → unconsumed_new ≡ drop n unconsumed → consumed ++ unconsumed ≡ read → (consumed ++ take n lent) ++ unconsumed_new ≡ read
front_consumed consumed lent unconsumed unconsumed_new read n same rest was =
    append_assoc consumed (take n lent) unconsumed_new ∙ ap (λ (xs : List ℕ). consumed ++ (take n lent ++ xs)) rest ∙ ap (λ (xs : List ℕ). consumed ++ (take n xs ++ drop n unconsumed)) same ∙ ap (λ (xs : List ℕ). consumed ++ xs) (take-append-drop n unconsumed) ∙ was

-- where all that was read was consumed, and nothing more is
pub nothing_more : (consumed unconsumed unconsumed_new read read_new : List ℕ) → read_new ≡ read → unconsumed ≡ [] → unconsumed_new ≡ [] → consumed ++ unconsumed ≡ read → consumed ++ unconsumed_new ≡ read_new
nothing_more consumed unconsumed unconsumed_new read read_new same none none_new was = ap (λ (xs : List ℕ). consumed ++ xs) (none_new ∙ sym none) ∙ was ∙ sym same

-- nothing was read yet
pub nothing_read : (consumed unconsumed read : List ℕ) → consumed ≡ [] → unconsumed ≡ [] → read ≡ [] → consumed ++ unconsumed ≡ read
nothing_read consumed unconsumed read e f g = rw (e, f, g) refl

-- what is consumed of a portion is no more than it
pub within_portion : (n asked portion most : ℕ) (xs : List ℕ) → asked ≡ min portion most → n ≤ asked → length (take n xs) ≤ portion
within_portion n asked portion most xs least le = omega (arith, least, le, min-le_left portion most, length-take n xs)
