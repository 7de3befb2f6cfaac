-- The bytes of a value consumed at once bring the machine where they bring it one by one (`run_ends`, `run_continues`), and keep
-- the same (`run_kept`). Stands on StateAfterCall and GrammarLeads/TreesRun.
use Rattle.std.proofs.Common.{◌≡◌, ℕ, ◌+◌, ◌-◌, ◌<◌, ◌≤◌, Bool, true, false, List, [], ◌∷◌, length, Some, None, nat_le, nat_eq, leb-true, leb-false, subst, refl, sym, ap, ◌∙◌, arith, if◌then◌else◌}
use Rattle.std.proofs.lemmas.Bool.Decides.{nat_tests}
use Rattle.element.specs.declared.tag.Tag.{Tag}
use Rattle.element.specs.declared.header.Header.{Header}
use Rattle.element.specs.Header.{number, is_marker, item_tag}
use Rattle.sequence.specs.Coding.{has_fragments}
use Rattle.sequence.specs.declared.level.Scope.{Scope}
use Rattle.sequence.specs.declared.level.Level.{Level}
use Rattle.sequence.specs.declared.stage.Stage.{Stage}
use Rattle.sequence.specs.declared.stage.Stage.TheVariants as stages
use Rattle.sequence.specs.declared.shape.Shape.{Shape}
use Rattle.sequence.specs.declared.shape.Shape.TheVariants.{Value, Sequence, NotAllowed}
use Rattle.sequence.specs.Shape.{shape}
use Rattle.sequence.specs.Wanted.{Values}
use Rattle.sequence.specs.Rules.{Limits, Broken, broken_due, same_tag}
use Rattle.sequence.specs.machine.Machine.{State, at, arrive, due, due_by, spot_of, stops_at, stop_of, set_scope, sequence_scope, begin_value, begin_level, leave, started, take_element, take_item, take_header, ArrivesAt, Reading, read, run}
use Rattle.sequence.specs.machine.Scopes.{below_of}
use Rattle.sequence.specs.machine.Keeping.{wanted_at, with_byte, keep_read, keeps}
use Rattle.sequence.specs.Fields.{is_kept}
use Rattle.sequence.specs.machine.Spare.{is_wanted_in}
use Rattle.sequence.specs.machine.State.{mode_of}
use Rattle.sequence.specs.machine.Steps.{with_bytes}
use Rattle.sequence.proofs.GrammarLeads.TreesRun.{reading_run}
use Rattle.sequence.proofs.CodeIsMachine.StateAfterCall.{wanted_is}

-- a part of a value

pub part_run : (lim : Limits) (f : Scope) (fs : List Scope) (t : Tag) (p q n m : ℕ) (v : List ℕ) → length v < n → q ≡ p + length v → m ≡ n - length v → run lim (at f fs p (Reading t n)) v ≡ at f fs q (Reading t m)
unfolding run read
part_run lim f fs t p q n m [] lt q-is m-is =
    let same : p ≡ q = omega arith in
    let remaining : n ≡ m = omega arith in
    λ i. at f fs (same i) (Reading t (remaining i))
part_run lim f fs t p q n m (x ∷ v) lt q-is m-is =
    let le : nat_le n 1 ≡ false = grind (arith, nat_tests) in
    rw le (part_run lim f fs t (p + 1) q (n - 1) m v (omega arith) (omega arith) (omega arith))

-- the bytes of a value that are kept

bytes_kept : (b : Bool) (values : Values) (x : ℕ) (xs : List ℕ) → (if b then with_bytes (if b then with_byte values x else values) xs else (if b then with_byte values x else values)) ≡ (if b then with_bytes values (x ∷ xs) else values)
bytes_kept true values x xs = refl
bytes_kept false values x xs = refl

none_kept : (b : Bool) (values : Values) → values ≡ (if b then values else values)
none_kept true values = refl
none_kept false values = refl

pub part_kept : (lim : Limits) (f : Scope) (fs : List Scope) (t : Tag) (p n : ℕ) (values : Values) (v : List ℕ) → length v ≤ n → keeps lim (at f fs p (Reading t n)) values v ≡ (if wanted_at lim fs (number t) then with_bytes values v else values)
unfolding keeps read
part_kept lim f fs t p n values [] le = none_kept (wanted_at lim fs (number t)) values
part_kept lim f fs t p n values (x ∷ []) le = refl
part_kept lim f fs t p n values (x ∷ y ∷ v) le =
    let more : nat_le n 1 ≡ false = grind (arith, nat_tests) in
    rw more (part_kept lim f fs t (p + 1) (n - 1) (keep_read lim fs (number t) values x) (y ∷ v) (omega arith) ∙ bytes_kept (wanted_at lim fs (number t)) values x (y ∷ v))

-- of a walker in a value

pub run_ends : (f : Scope) (fs : List Scope) (lim : Limits) (offset end : ℕ) (stage : Stage) (header : List ℕ) (tag : Tag) (remaining : ℕ) (kept : Bool) (v : List ℕ) → stage ≡ stages.Value tag remaining kept → 0 < length v → length v ≡ remaining → end ≡ offset + length v
    → arrive end f fs ≡ run lim (at f fs offset (mode_of stage offset header)) v
run_ends f fs lim offset end stage header tag remaining kept v e some size end-is =
    sym (ap (λ z. run lim (at f fs offset (mode_of z offset header)) v) e ∙ reading_run lim f fs tag offset end remaining v size (omega (arith, some, size)) (omega (arith, end-is, size)))

pub run_continues : (f : Scope) (fs : List Scope) (lim : Limits) (offset end : ℕ) (stage : Stage) (header : List ℕ) (tag : Tag) (remaining rest : ℕ) (kept : Bool) (v : List ℕ) → stage ≡ stages.Value tag remaining kept → length v < remaining → rest ≡ remaining - length v → end ≡ offset + length v
    → at f fs end (Reading tag rest) ≡ run lim (at f fs offset (mode_of stage offset header)) v
run_continues f fs lim offset end stage header tag remaining rest kept v e lt rest-is end-is =
    sym (ap (λ z. run lim (at f fs offset (mode_of z offset header)) v) e ∙ part_run lim f fs tag offset end remaining rest v lt end-is rest-is)

pub run_kept : (lim : Limits) (f root : Scope) (levels : List Level) (stage : Stage) (tag : Tag) (remaining : ℕ) (kept : Bool) (offset : ℕ) (header : List ℕ) (values new : Values) (v : List ℕ)
    → stage ≡ stages.Value tag remaining kept → is_kept stage ≡ is_wanted_in lim.wanted levels stage → length v ≤ remaining → new ≡ (if kept then with_bytes values v else values)
    → new ≡ keeps lim (at f (below_of root [] levels) offset (mode_of stage offset header)) values v
run_kept lim f root levels stage tag remaining kept offset header values new v e flag le new-is =
    let same : kept ≡ wanted_at lim (below_of root [] levels) (number tag) = ap is_kept (sym e) ∙ flag ∙ ap (is_wanted_in lim.wanted levels) e ∙ wanted_is lim root levels (number tag) in
    new-is ∙ ap (λ z. if z then with_bytes values v else values) same ∙ sym (part_kept lim f (below_of root [] levels) tag offset remaining values v le)
    ∙ ap (λ z. keeps lim (at f (below_of root [] levels) offset (mode_of z offset header)) values v) (sym e)

due_offset : (y : Broken) (p : ℕ) (f : Scope) (fs : List Scope) → (due_by y f fs p).offset ≡ p
due_offset None p f fs = refl
due_offset (Some y) p f fs = refl

by_offset : (b : Bool) (x y : State) (p : ℕ) → x.offset ≡ p → y.offset ≡ p → (if b then x else y).offset ≡ p
by_offset true x y p e f = e
by_offset false x y p e f = f

pub arrive_offset : (p : ℕ) (f : Scope) (fs : List Scope) → (arrive p f fs).offset ≡ p
unfolding arrive due
arrive_offset p f [] = due_offset (broken_due (spot_of f [] p)) p f []
arrive_offset p f (g ∷ gs) = by_offset (stops_at f.stop p) (arrive p g gs) (due f (g ∷ gs) p) p (arrive_offset p g gs) (due_offset (broken_due (spot_of f (g ∷ gs) p)) p f (g ∷ gs))

pub begin_value_offset : (p : ℕ) (f : Scope) (fs : List Scope) (t : Tag) (n : ℕ) → (begin_value p f fs t n).offset ≡ p
unfolding begin_value
begin_value_offset p f fs t n = by_offset (nat_eq n 0) _ _ p (arrive_offset p f fs) refl

pub begin_level_offset : (p : ℕ) (g f : Scope) (fs : List Scope) (n : ℕ) → (begin_level p g f fs n).offset ≡ p
unfolding begin_level
begin_level_offset p g f fs n = by_offset (nat_eq n 0) _ _ p (arrive_offset p f fs) (arrive_offset p g (f ∷ fs))

leave_offset : (p : ℕ) (f : Scope) (fs : List Scope) → (leave p f fs).offset ≡ p
unfolding leave
leave_offset p f [] = arrive_offset p f []
leave_offset p f (g ∷ gs) = arrive_offset p g gs

element_offset : (p : ℕ) (f : Scope) (fs : List Scope) (h : Header) (sh : Shape) → (take_element p f fs h sh).offset ≡ p
element_offset p f fs h Value = begin_value_offset p (started f h.tag) fs h.tag h.length
element_offset p f fs h (Sequence inner) = begin_level_offset p (sequence_scope inner (stop_of p h.length)) (started f h.tag) fs h.length
element_offset p f fs h NotAllowed = arrive_offset p f fs

item_offset : (p : ℕ) (f : Scope) (fs : List Scope) (h : Header) → (take_item p f fs h).offset ≡ p
item_offset p f fs h = by_offset (has_fragments f.syntax) _ _ p (begin_value_offset p f fs h.tag h.length) (begin_level_offset p (set_scope f.syntax (stop_of p h.length) 0) f fs h.length)

pub take_offset : (p : ℕ) (f : Scope) (fs : List Scope) (h : Header) → (take_header p f fs h).offset ≡ p
unfolding take_header
take_offset p f fs h =
    by_offset (is_marker h.tag) _ _ p (by_offset (same_tag h.tag item_tag) _ _ p (item_offset p f fs h) (leave_offset p f fs))
    (element_offset p f fs h (shape f.syntax h))

-- what is consumed up

due_arrives : (y : Broken) (p : ℕ) (f : Scope) (fs : List Scope) → ArrivesAt (due_by y f fs p).mode p
due_arrives None p f fs = refl
due_arrives (Some y) p f fs = refl

by_arrives : (b : Bool) (x y : State) (p : ℕ) → ArrivesAt x.mode p → ArrivesAt y.mode p → ArrivesAt (if b then x else y).mode p
by_arrives true x y p e f = e
by_arrives false x y p e f = f

pub arrive_arrives : (p : ℕ) (f : Scope) (fs : List Scope) → ArrivesAt (arrive p f fs).mode p
unfolding arrive due
arrive_arrives p f [] = due_arrives (broken_due (spot_of f [] p)) p f []
arrive_arrives p f (g ∷ gs) = by_arrives (stops_at f.stop p) (arrive p g gs) (due f (g ∷ gs) p) p (arrive_arrives p g gs) (due_arrives (broken_due (spot_of f (g ∷ gs) p)) p f (g ∷ gs))

value_arrives : (p : ℕ) (f : Scope) (fs : List Scope) (t : Tag) (n : ℕ) → ArrivesAt (begin_value p f fs t n).mode p
unfolding begin_value
value_arrives p f fs t n = by_arrives (nat_eq n 0) _ _ p (arrive_arrives p f fs) tt

level_arrives : (p : ℕ) (g f : Scope) (fs : List Scope) (n : ℕ) → ArrivesAt (begin_level p g f fs n).mode p
unfolding begin_level
level_arrives p g f fs n = by_arrives (nat_eq n 0) _ _ p (arrive_arrives p f fs) (arrive_arrives p g (f ∷ fs))

leave_arrives : (p : ℕ) (f : Scope) (fs : List Scope) → ArrivesAt (leave p f fs).mode p
unfolding leave
leave_arrives p f [] = arrive_arrives p f []
leave_arrives p f (g ∷ gs) = arrive_arrives p g gs

element_arrives : (p : ℕ) (f : Scope) (fs : List Scope) (h : Header) (sh : Shape) → ArrivesAt (take_element p f fs h sh).mode p
element_arrives p f fs h Value = value_arrives p (started f h.tag) fs h.tag h.length
element_arrives p f fs h (Sequence inner) = level_arrives p (sequence_scope inner (stop_of p h.length)) (started f h.tag) fs h.length
element_arrives p f fs h NotAllowed = arrive_arrives p f fs

item_arrives : (p : ℕ) (f : Scope) (fs : List Scope) (h : Header) → ArrivesAt (take_item p f fs h).mode p
item_arrives p f fs h = by_arrives (has_fragments f.syntax) _ _ p (value_arrives p f fs h.tag h.length) (level_arrives p (set_scope f.syntax (stop_of p h.length) 0) f fs h.length)

pub take_arrives : (p : ℕ) (f : Scope) (fs : List Scope) (h : Header) → ArrivesAt (take_header p f fs h).mode p
unfolding take_header
take_arrives p f fs h =
    by_arrives (is_marker h.tag) _ _ p (by_arrives (same_tag h.tag item_tag) _ _ p (item_arrives p f fs h) (leave_arrives p f fs))
    (element_arrives p f fs h (shape f.syntax h))

pub value_part_arrives : (f : Scope) (fs : List Scope) (lim : Limits) (offset : ℕ) (stage : Stage) (header : List ℕ) (tag : Tag) (remaining : ℕ) (kept : Bool) (v : List ℕ) → stage ≡ stages.Value tag remaining kept → 0 < length v → length v ≤ remaining
    → ArrivesAt (run lim (at f fs offset (mode_of stage offset header)) v).mode (offset + length v)
value_part_arrives f fs lim offset stage header tag remaining kept v e some le = by (nat_le remaining (length v)) refl
  where
    by : (b : Bool) → nat_le remaining (length v) ≡ b → ArrivesAt (run lim (at f fs offset (mode_of stage offset header)) v).mode (offset + length v)
    by true q =
        let size : length v ≡ remaining = omega (arith, le, leb-true remaining (length v) q) in
        subst (λ z. ArrivesAt z.mode (offset + length v)) (run_ends f fs lim offset (offset + length v) stage header tag remaining kept v e some size refl) (arrive_arrives (offset + length v) f fs)
    by false q =
        subst (λ z. ArrivesAt z.mode (offset + length v)) (run_continues f fs lim offset (offset + length v) stage header tag remaining (remaining - length v) kept v e (leb-false remaining (length v) q) refl refl) tt
