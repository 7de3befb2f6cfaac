-- A join shows the message so far after the head of a value (`first_head`, `later_head`) and after each part of its
-- fragment (`part_shown`). Stands on the laws of `pdu`.
use Rattle.std.proofs.Common.{◌≡◌, ℕ, ◌-◌, ◌<◌, ◌≤◌, Bool, false, List, [], ◌∷◌, ◌++◌, length, take, drop, get_or, Option, Some, None, Result, Ok, Err, refl, sym, ap, subst, ◌∙◌, append_assoc, arith, inl, inr}
use Rattle.std.specs.Prelude.{nat_lt, IsOk, OnOk}
use Rattle.std.proofs.lemmas.Bool.{cases_lt, lt-ltb, le-ltb}
use Rattle.std.proofs.lemmas.List.{append-nil, length-append, take_all, length-drop, drop_all, drop-append-le, get_or_append_left}
use Rattle.byteorder.specs.Endian.{big_number}
use Rattle.pdu.specs.declared.head.PdvHead.{PdvHead}
use Rattle.pdu.specs.Heads.{is_last, pdv_head_of}
use Rattle.pdu.specs.Marks.{pdv_size}
use Rattle.pdu.proofs.Public.{same_head}
use Rattle.dimse.specs.declared.fault.DimseFault.{DimseFault}
use Rattle.dimse.specs.declared.stage.Stage.{Stage}
use Rattle.dimse.specs.declared.stage.Stage.TheVariants.{Between, Command, Set}
use Rattle.dimse.specs.Messages.{Started, NoMessage, InCommand, InSet, head_refusal, with_fragment}
use Rattle.dimse.specs.Joining.{Joining, ShowsMessage, shown, with_pdv, pdv_of, without_set, command_bytes, remaining_of_pdv, is_last_started}
use Rattle.dimse.specs.machine.Fields.{message_at}

-- ---- heads

-- a head is judged without the bytes of the data set
pub refusal_kept : (room : ℕ) (message : Started) (h : PdvHead) → head_refusal room (without_set message) h ≡ head_refusal room message h
refusal_kept room NoMessage h = refl
refusal_kept room (InCommand context command) h = refl
refusal_kept room (InSet context command set) h = refl

-- a message that has started by a head in this context
abbrev pub started_at : ℕ → Started → Started
started_at context NoMessage = InCommand context []
started_at context (InCommand first command) = InCommand first command
started_at context (InSet first command set) = InSet first command set

no_part : (context : ℕ) (message : Started) → with_fragment context [] message ≡ started_at context message
no_part context NoMessage = refl
no_part context (InCommand first command) = ap (InCommand first) (append-nil command)
no_part context (InSet first command set) = ap (InSet first command) (append-nil set)

started_kept : (context : ℕ) (message : Started) → without_set (started_at context message) ≡ started_at context (without_set message)
started_kept context NoMessage = refl
started_kept context (InCommand first command) = refl
started_kept context (InSet first command set) = refl

command_kept : (context : ℕ) (message : Started) → command_bytes (started_at context message) ≡ command_bytes (started_at context (without_set message))
command_kept context NoMessage = refl
command_kept context (InCommand first command) = refl
command_kept context (InSet first command set) = refl

-- the message once a head's six bytes have come
head_part : (message : Started) (bytes : List ℕ) → length bytes ≡ 6 → with_pdv bytes message ≡ started_at (get_or bytes 4 0) message
head_part message bytes six =
    let whole : nat_lt (length bytes) 6 ≡ false = le-ltb (length bytes) 6 (omega arith) in
    let none : drop 6 bytes ≡ [] = drop_all 6 bytes (omega arith) in
    rw (whole, none) (no_part (get_or bytes 4 0) message)

head_remaining : (bytes : List ℕ) (remaining : ℕ) → length bytes ≡ 6 → remaining ≡ big_number 4 bytes - 2 → remaining ≡ remaining_of_pdv bytes
head_remaining bytes remaining six e = rw (le-ltb (length bytes) 6 (omega arith)) (omega arith)

head_last : (bytes : List ℕ) → length bytes ≡ 6 → is_last (get_or bytes 5 0) ≡ is_last_started bytes
head_last bytes six = rw (le-ltb (length bytes) 6 (omega arith)) refl

joining_is : (a b : Joining) → a.message ≡ b.message → a.command ≡ b.command → a.remaining ≡ b.remaining → a.last ≡ b.last → a ≡ b
joining_is a b m c l e = rw (← m, ← c, ← l, ← e) refl

-- a head that is not refused
head_shown : (room : ℕ) (message : Started) (bytes : List ℕ) (remaining : ℕ) (new : Started) → new ≡ started_at (get_or bytes 4 0) (without_set message) → length bytes ≡ 6 → remaining ≡ big_number 4 bytes - 2
    → head_refusal room (without_set message) (pdv_head_of bytes) ≡ None
    → ShowsMessage room (record { message = new; command = command_bytes new; remaining = remaining; last = is_last (get_or bytes 5 0) }) message bytes
head_shown room message bytes remaining new n six l ok =
    let m = head_part message bytes six in
    let same : new ≡ without_set (with_pdv bytes message) = n ∙ sym (ap without_set m ∙ started_kept (get_or bytes 4 0) message) in
    let bytes_same : command_bytes new ≡ command_bytes (with_pdv bytes message) = ap command_bytes n ∙ sym (ap command_bytes m ∙ command_kept (get_or bytes 4 0) message) in
    record {
      shows = joining_is (record { message = new; command = command_bytes new; remaining = remaining; last = is_last (get_or bytes 5 0) }) (shown (with_pdv bytes message) bytes) same bytes_same (head_remaining bytes remaining six l) (head_last bytes six);
      accepted = λ _. sym (refusal_kept room message (pdv_head_of bytes)) ∙ ok;
    }

pub first_head : (room : ℕ) (message old : Started) (bytes : List ℕ) (h : PdvHead) (s t : Stage) (k l remaining : ℕ) (xs ys : List ℕ) → old ≡ message_at s k xs → s ≡ Between → t ≡ Command → l ≡ h.context → ys ≡ []
    → old ≡ without_set message → length bytes ≡ 6 → h ≡ pdv_head_of bytes → remaining ≡ h.length - 2 → head_refusal room old h ≡ None
    → ShowsMessage room (record { message = message_at t l ys; command = ys; remaining = remaining; last = h.last }) message bytes
first_head room message old bytes h s t k l remaining xs ys v b d x y o six e n ok =
    let none : without_set message ≡ NoMessage = sym o ∙ v ∙ ap (λ (a : Stage). message_at a k xs) b in
    let same : InCommand (get_or bytes 4 0) [] ≡ started_at (get_or bytes 4 0) (without_set message) = rw none refl in
    let fine : head_refusal room (without_set message) (pdv_head_of bytes) ≡ None = rw (← o, ← e) ok in
    rw (d, x, y, e) (head_shown room message bytes remaining (InCommand (get_or bytes 4 0) []) same six (n ∙ ap (λ (a : PdvHead). a.length - 2) e) fine)

pub later_head : (room : ℕ) (first old : Started) (bytes : List ℕ) (h : PdvHead) (s : Stage) (k remaining : ℕ) (xs : List ℕ) → old ≡ message_at s k xs → (s ≡ Between → ⊥)
    → old ≡ without_set first → length bytes ≡ 6 → h ≡ pdv_head_of bytes → remaining ≡ h.length - 2 → head_refusal room old h ≡ None
    → ShowsMessage room (record { message = message_at s k xs; command = xs; remaining = remaining; last = h.last }) first bytes
later_head room first old bytes h Between k remaining xs v not o six e n ok = absurd (not refl)
later_head room first old bytes h Command k remaining xs v not o six e n ok =
    let same : InCommand k xs ≡ started_at (get_or bytes 4 0) (without_set first) = rw (← o, v) refl in
    let fine : head_refusal room (without_set first) (pdv_head_of bytes) ≡ None = rw (← o, ← e) ok in
    rw e (head_shown room first bytes remaining (InCommand k xs) same six (n ∙ ap (λ (a : PdvHead). a.length - 2) e) fine)
later_head room first old bytes h Set k remaining xs v not o six e n ok =
    let same : InSet k xs [] ≡ started_at (get_or bytes 4 0) (without_set first) = rw (← o, v) refl in
    let fine : head_refusal room (without_set first) (pdv_head_of bytes) ≡ None = rw (← o, ← e) ok in
    rw e (head_shown room first bytes remaining (InSet k xs []) same six (n ∙ ap (λ (a : PdvHead). a.length - 2) e) fine)

-- ---- parts of a fragment

-- the bytes of a command set with a part of a fragment
abbrev pub with_part : Stage → List ℕ → List ℕ → List ℕ
with_part Between xs part = xs
with_part Command xs part = xs ++ part
with_part Set xs part = xs

fragment_then : (context : ℕ) (a b : List ℕ) (m : Started) → with_fragment context (a ++ b) m ≡ with_fragment context b (with_fragment context a m)
fragment_then context a b NoMessage = refl
fragment_then context a b (InCommand first command) = ap (InCommand first) (sym (append_assoc command a b))
fragment_then context a b (InSet first command set) = ap (InSet first command) (sym (append_assoc set a b))

is_started : (context : ℕ) (a : List ℕ) (m : Started) → with_fragment context a m ≡ NoMessage → ⊥
is_started context a NoMessage e = cc
is_started context a (InCommand first command) e = cc
is_started context a (InSet first command set) e = cc

long_pdv : (started : List ℕ) (m : Started) → 6 ≤ length started → with_pdv started m ≡ with_fragment (get_or started 4 0) (drop 6 started) m
long_pdv started m le = rw (le-ltb (length started) 6 le) refl

part_kept : (part started : List ℕ) (m : Started) → 6 ≤ length started → with_pdv (started ++ part) m ≡ with_fragment (get_or started 4 0) part (with_pdv started m)
part_kept part started m le =
    let more : 6 ≤ length (started ++ part) = omega (arith, length-append started part) in
    long_pdv (started ++ part) m more
    ∙ rw (drop-append-le 6 started part le, get_or_append_left started part 0 4 (omega arith)) (fragment_then (get_or started 4 0) (drop 6 started) part m)
    ∙ sym (ap (with_fragment (get_or started 4 0) part) (long_pdv started m le))

-- a part that a unfinished fragment consumes
part_message : (context k : ℕ) (s : Stage) (xs part : List ℕ) (m : Started) → message_at s k xs ≡ without_set m → xs ≡ command_bytes m → (m ≡ NoMessage → ⊥)
    → (message_at s k (with_part s xs part) ≡ without_set (with_fragment context part m)) × (with_part s xs part ≡ command_bytes (with_fragment context part m))
part_message context k s xs part NoMessage v c not = absurd (not refl)
part_message context k Between xs part (InCommand first command) v c not = absurd cc
part_message context k Command xs part (InCommand first command) v c not = let f : k ≡ first = cc in (rw (c, f) refl, rw c refl)
part_message context k Set xs part (InCommand first command) v c not = absurd cc
part_message context k Between xs part (InSet first command set) v c not = absurd cc
part_message context k Command xs part (InSet first command set) v c not = absurd cc
part_message context k Set xs part (InSet first command set) v c not = let f : k ≡ first = cc in (rw (c, f) refl, rw c refl)

number_kept : (started part : List ℕ) → 6 ≤ length started → big_number 4 (started ++ part) ≡ big_number 4 started
number_kept started part le = (same_head started part le).number

remaining_kept : (started part : List ℕ) (remaining : ℕ) → 6 ≤ length started → remaining ≡ remaining_of_pdv started → remaining - length part ≡ remaining_of_pdv (started ++ part)
remaining_kept started part remaining le e =
    let now : remaining ≡ pdv_size started - length started = e ∙ rw (le-ltb (length started) 6 le) refl in
    let more : 6 ≤ length (started ++ part) = omega (arith, length-append started part) in
    rw (le-ltb (length (started ++ part)) 6 more) (omega (arith, now, number_kept started part le, length-append started part))

last_kept : (started part : List ℕ) → 6 ≤ length started → is_last_started started ≡ is_last_started (started ++ part)
last_kept started part le =
    let more : 6 ≤ length (started ++ part) = omega (arith, length-append started part) in
    rw (le-ltb (length started) 6 le, le-ltb (length (started ++ part)) 6 more, get_or_append_left started part 0 5 (omega arith)) refl

head_kept : (started part : List ℕ) → 6 ≤ length started → pdv_head_of (started ++ part) ≡ pdv_head_of started
head_kept started part le = rw (number_kept started part le, get_or_append_left started part 0 4 (omega arith), get_or_append_left started part 0 5 (omega arith)) refl

long_part : (room : ℕ) (m : Started) (started part : List ℕ) (s : Stage) (k remaining : ℕ) (last : Bool) (xs : List ℕ)
    → ShowsMessage room (record { message = message_at s k xs; command = xs; remaining = remaining; last = last }) m started → 6 ≤ length started
    → ShowsMessage room (record { message = message_at s k (with_part s xs part); command = with_part s xs part; remaining = remaining - length part; last = last }) m (started ++ part)
long_part room m started part s k remaining last xs h le =
    let context = get_or started 4 0 in
    let some : with_pdv started m ≡ NoMessage → ⊥ = λ e. is_started context (drop 6 started) m (sym (long_pdv started m le) ∙ e) in
    let f = part_message context k s xs part (with_pdv started m) (ap (λ (j : Joining). j.message) h.shows) (ap (λ (j : Joining). j.command) h.shows) some in
    let n = part_kept part started m le in
    record {
      shows = joining_is (record { message = message_at s k (with_part s xs part); command = with_part s xs part; remaining = remaining - length part; last = last }) (shown (with_pdv (started ++ part) m) (started ++ part))
          (f.0 ∙ sym (ap without_set n))
          (f.1 ∙ sym (ap command_bytes n))
          (remaining_kept started part remaining le (ap (λ (j : Joining). j.remaining) h.shows))
          (ap (λ (j : Joining). j.last) h.shows ∙ last_kept started part le);
      accepted = λ _. ap (head_refusal room m) (head_kept started part le) ∙ h.accepted le;
    }

no_bytes : (s : Stage) (xs : List ℕ) → with_part s xs [] ≡ xs
no_bytes Between xs = refl
no_bytes Command xs = append-nil xs
no_bytes Set xs = refl

short_part : (room : ℕ) (m : Started) (started part : List ℕ) (s : Stage) (k remaining : ℕ) (last : Bool) (xs : List ℕ)
    → ShowsMessage room (record { message = message_at s k xs; command = xs; remaining = remaining; last = last }) m started → length started < 6 → length part ≤ remaining
    → ShowsMessage room (record { message = message_at s k (with_part s xs part); command = with_part s xs part; remaining = remaining - length part; last = last }) m (started ++ part)
short_part room m started [] s k remaining last xs h lt le =
    let all : remaining ≡ remaining - length {A = ℕ} [] = omega arith in
    rw (no_bytes s xs, append-nil started) (subst (λ (n : ℕ). ShowsMessage room (record { message = message_at s k xs; command = xs; remaining = n; last = last }) m started) all h)
short_part room m started (b ∷ part) s k remaining last xs h lt le =
    let none : remaining ≡ 0 = ap (λ (j : Joining). j.remaining) h.shows ∙ rw (lt-ltb (length started) 6 lt) refl in
    absurd (omega arith)

pub part_shown : (room : ℕ) (m : Started) (started part : List ℕ) (s : Stage) (k remaining : ℕ) (last : Bool) (xs : List ℕ)
    → ShowsMessage room (record { message = message_at s k xs; command = xs; remaining = remaining; last = last }) m started → length part ≤ remaining
    → ShowsMessage room (record { message = message_at s k (with_part s xs part); command = with_part s xs part; remaining = remaining - length part; last = last }) m (started ++ part)
part_shown room m started part s k remaining last xs h le =
    elim (cases_lt (length started) 6) [
      | inl lt ↦ short_part room m started part s k remaining last xs h lt le
      | inr long ↦ long_part room m started part s k remaining last xs h long
    ]

pub command_part : (s : Stage) (xs part : List ℕ) → s ≡ Command → with_part s xs part ≡ xs ++ part
command_part s xs part e = rw e refl

pub other_part : (s : Stage) (xs part : List ℕ) → (s ≡ Command → ⊥) → with_part s xs part ≡ xs
other_part Between xs part no_command = refl
other_part Command xs part no_command = absurd (no_command refl)
other_part Set xs part no_command = refl

-- what fits a room is accepted
pub consumed : {T E P : Type 0} (r : Result T E) → IsOk r → OnOk r P → P
consumed (Ok x) ok holds = holds
consumed (Err e) ok holds = absurd cc

-- while fewer than six bytes of a presentation data value have come a join shows none of them
pub shows_short : (room : ℕ) (join : Joining) (m : Started) (started other : List ℕ) → length started < 6 → length other < 6 → ShowsMessage room join m started → ShowsMessage room join m other
shows_short room join m started other lt lt_other h =
    let was : shown (with_pdv started m) started ≡ shown m [] = rw (lt-ltb (length started) 6 lt) refl in
    let now : shown (with_pdv other m) other ≡ shown m [] = rw (lt-ltb (length other) 6 lt_other) refl in
    record { shows = h.shows ∙ was ∙ sym now; accepted = λ le. absurd (omega arith) }

pub no_fault : (o : Option DimseFault) → ((x : DimseFault) → o ≡ Some x → ⊥) → o ≡ None
no_fault None none = refl
no_fault (Some x) none = absurd (none x refl)

-- the bytes of a whole presentation data value are it
pub whole_pdv : (bytes : List ℕ) → 6 ≤ length bytes → length bytes ≡ pdv_size bytes
    → pdv_of bytes ≡ record { context = get_or bytes 4 0; control = get_or bytes 5 0; fragment = take (big_number 4 bytes - 2) (drop 6 bytes) }
whole_pdv bytes le e =
    let all : take (big_number 4 bytes - 2) (drop 6 bytes) ≡ drop 6 bytes = take_all (big_number 4 bytes - 2) (drop 6 bytes) (omega (arith, length-drop 6 bytes)) in
    rw all refl

-- how many bytes the fragment still lacks
pub shows_remaining : (room : ℕ) (join : Joining) (m : Started) (started : List ℕ) → 6 ≤ length started → ShowsMessage room join m started → join.remaining ≡ pdv_size started - length started
shows_remaining room join m started le h = ap (λ (j : Joining). j.remaining) h.shows ∙ rw (le-ltb (length started) 6 le) refl
