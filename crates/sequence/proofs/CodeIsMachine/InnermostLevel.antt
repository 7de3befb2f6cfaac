-- The levels of the code are those of the machine after a push, a pop and a change of the innermost one (`level_opened`,
-- `level_remaining`, `last_set`), and so is their nearest end (`nearest_is`). Stands on the definitions alone.
use Rattle.std.proofs.Common.{◌≡◌, ℕ, suc, ◌+◌, ◌-◌, ◌<◌, ◌≤◌, Bool, true, false, List, [], ◌∷◌, ◌++◌, length, get_or, take, drop, slice_set, nat_eq, Option, Some, None, refl, sym, ap, ◌∙◌, arith, not, ◌&&◌, ne_eqb, ◌≢◌, IsSome, ◌↔◌, length-append, append-nil, option_to_list}
use Rattle.sequence.specs.declared.level.Scope.{Scope}
use Rattle.sequence.specs.declared.level.Level.{Level}
use Rattle.sequence.specs.machine.Machine.{stops_at, arrive, due, nearer, nearest, is_empty, is_none, less, spot_of, started, begin_level, begin_value, leave, at, Reading}
use Rattle.element.specs.declared.tag.Tag.{Tag}
use Rattle.element.specs.Header.{number}
use Rattle.sequence.specs.declared.spot.Spot.{Spot}
use Rattle.std.proofs.lemmas.List.{take_more, take_all, take-append-le, length-set}
use Rattle.std.proofs.lemmas.Grind.{take-set_at}
use Rattle.std.specs.List.{refill}
use Rattle.sequence.specs.Fields.{scope_of}
use Rattle.sequence.specs.machine.Scopes.{top_of, below_of, nearest_from}

pub top_push : (root : Scope) (ls : List Level) (l : Level) → top_of root (ls ++ l ∷ []) ≡ scope_of l
top_push root [] l = refl
top_push root (k ∷ ls) l = top_push (scope_of k) ls l

pub below_push : (root : Scope) (round : List Scope) (ls : List Level) (l : Level) → below_of root round (ls ++ l ∷ []) ≡ top_of root ls ∷ below_of root round ls
below_push root round [] l = refl
below_push root round (k ∷ ls) l = below_push (scope_of k) (root ∷ round) ls l

pub top_at : (root : Scope) (ls : List Level) (d : Level) → 0 < length ls → top_of root ls ≡ scope_of (get_or ls (length ls - 1) d)
top_at root [] d lt = absurd (omega arith)
top_at root (l ∷ []) d lt = refl
top_at root (l ∷ k ∷ ls) d lt = top_at (scope_of l) (k ∷ ls) d (omega arith) ∙ ap (λ i. scope_of (get_or (l ∷ k ∷ ls) i d)) last
  where
    last : suc (length (k ∷ ls) - 1) ≡ length (l ∷ k ∷ ls) - 1
    last = omega arith

-- a pop, where the innermost level ends
pub arrive_popped : (root : Scope) (offset : ℕ) (ls : List Level) (l : Level) → stops_at (scope_of l).stop offset ≡ true → arrive offset (top_of root (ls ++ l ∷ [])) (below_of root [] (ls ++ l ∷ [])) ≡ arrive offset (top_of root ls) (below_of root [] ls)
unfolding arrive
arrive_popped root offset ls l e = rw (top_push root ls l, below_push root [] ls l, e) refl

-- the innermost level does not end here
stays_by : (f : Scope) (fs : List Scope) (offset : ℕ) → stops_at f.stop offset ≡ false → arrive offset f fs ≡ due f fs offset
unfolding arrive
stays_by f [] offset e = refl
stays_by f (g ∷ gs) offset e = rw e refl

pub arrive_stays : (root : Scope) (offset : ℕ) (ls : List Level) → stops_at (top_of root ls).stop offset ≡ false → arrive offset (top_of root ls) (below_of root [] ls) ≡ due (top_of root ls) (below_of root [] ls) offset
arrive_stays root offset ls e = stays_by (top_of root ls) (below_of root [] ls) offset e

-- the same of a pop that gave the innermost level
pub remaining_one : (root : Scope) (offset : ℕ) (old new : List Level) (o : Option Level) → old ≡ new ++ option_to_list o → stops_at (top_of root old).stop offset ≡ true → root.stop ≡ None
    → arrive offset (top_of root new) (below_of root [] new) ≡ arrive offset (top_of root old) (below_of root [] old)
remaining_one root offset old new None same e none = rw (same ∙ append-nil new) refl
remaining_one root offset old new (Some l) same e none =
    let k : stops_at (scope_of l).stop offset ≡ true = ap (λ f. stops_at f.stop offset) (sym (top_push root new l)) ∙ ap (λ z. stops_at (top_of root z).stop offset) (sym same) ∙ e in
    rw same (sym (arrive_popped root offset new l k))

pub nearest_along : (f : Scope) (fs : List Scope) (ls : List Level) → nearer (top_of f ls).stop (nearest (below_of f fs ls)) ≡ nearest_from (nearer f.stop (nearest fs)) ls
nearest_along f fs [] = refl
nearest_along f fs (l ∷ ls) = nearest_along (scope_of l) (f ∷ fs) ls

pub nearest_is : (root : Scope) (ls : List Level) → root.stop ≡ None → nearer (top_of root ls).stop (nearest (below_of root [] ls)) ≡ nearest_from None ls
nearest_is root ls none = nearest_along root [] ls ∙ ap (λ z. nearest_from (nearer z None) ls) none

pub below_length : (root : Scope) (round : List Scope) (ls : List Level) → length (below_of root round ls) ≡ length round + length ls
below_length root round [] = omega arith
below_length root round (l ∷ ls) = let h = below_length (scope_of l) (root ∷ round) ls in omega (arith, h)

empty_length : (fs : List Scope) → is_empty fs ≡ nat_eq (length fs) 0
empty_length [] = refl
empty_length (f ∷ fs) = sym (ne_eqb (suc (length fs)) 0 (omega arith))

pub below_empty : (root : Scope) (ls : List Level) → is_empty (below_of root [] ls) ≡ nat_eq (length ls) 0
below_empty root ls = let h : length (below_of root [] ls) ≡ length ls = omega (arith, below_length root [] ls) in empty_length (below_of root [] ls) ∙ ap (λ n. nat_eq n 0) h

pub spot_is : (root : Scope) (ls : List Level) (offset : ℕ) (f : Scope) (near : Option ℕ) (open-ended : Bool) → root.stop ≡ None → f ≡ top_of root ls → near ≡ less (nearest_from None ls) offset → open-ended ≡ (is_none f.stop && not (nat_eq (length ls) 0))
    → ◌≡◌ {A = Spot} (record { syntax = f.syntax; in_sequence = f.in_sequence; open_ended = open-ended; near = near; last = f.last; depth = length ls; offset = offset }) (spot_of (top_of root ls) (below_of root [] ls) offset)
spot_is root ls offset f near open-ended none top-is near-is open-is =
    let n : near ≡ less (nearer (top_of root ls).stop (nearest (below_of root [] ls))) offset = near-is ∙ ap (λ o. less o offset) (sym (nearest_is root ls none)) in
    let o : open-ended ≡ (is_none (top_of root ls).stop && not (is_empty (below_of root [] ls))) = open-is ∙ ap (λ z. is_none z.stop && not (nat_eq (length ls) 0)) top-is ∙ ap (λ z. is_none (top_of root ls).stop && not z) (sym (below_empty root ls)) in
    let d : length ls ≡ length (below_of root [] ls) = omega (arith, below_length root [] ls) in
    λ i. record { syntax = (top-is i).syntax; in_sequence = (top-is i).in_sequence; open_ended = o i; near = n i; last = (top-is i).last; depth = d i; offset = offset }

-- the last tag of the innermost level is another
pub last_set : (root : Scope) (old mid new : List Level) (level made : Level) (tag : Tag) → old ≡ mid ++ level ∷ [] → new ≡ mid ++ made ∷ [] → scope_of made ≡ record (scope_of level) { last = number tag }
    → (top_of root new ≡ started (top_of root old) tag) × (below_of root [] new ≡ below_of root [] old)
last_set root old mid new level made tag old-is new-is made-is =
    let t : top_of root old ≡ scope_of level = ap (top_of root) old-is ∙ top_push root mid level in
    (ap (top_of root) new-is ∙ top_push root mid made ∙ made-is ∙ ap (λ f. started f tag) (sym t), ap (below_of root []) new-is ∙ below_push root [] mid made ∙ sym (below_push root [] mid level) ∙ ap (below_of root []) (sym old-is))

-- the same of levels whose last one is changed where it stands
pub last_changed : (root : Scope) (items slice : List Level) (d made : Level) (tag : Tag) (n : ℕ) → slice ≡ items → 0 < length slice → scope_of made ≡ record (scope_of (get_or slice (length slice - 1) d)) { last = n } → n ≡ number tag
    → (top_of root (refill (length items) items (slice_set slice (length slice - 1) made)) ≡ started (top_of root items) tag) × (below_of root [] (refill (length items) items (slice_set slice (length slice - 1) made)) ≡ below_of root [] items)
last_changed root items slice d made tag n same some made-is n-is =
    let size : length items ≡ length slice = sym (ap length same) in
    let one : length slice ≡ length slice - 1 + 1 = omega (arith, some) in
    let old : items ≡ take (length slice - 1) slice ++ get_or slice (length slice - 1) d ∷ [] = sym same ∙ sym (take_all (length slice) slice (omega arith)) ∙ ap (λ z. take z slice) one ∙ take_more slice (length slice - 1) d (omega (arith, some)) in
    let ws = slice_set slice (length slice - 1) made in
    let long : length (slice_set slice (length slice - 1) made) ≡ length slice = length-set slice (length slice - 1) made in
    let new : refill (length items) items (slice_set slice (length slice - 1) made) ≡ take (length slice - 1) slice ++ made ∷ [] =
    take-append-le (length items) ws (drop (length ws) items) (omega (arith, long, size)) ∙ ap (λ z. take z ws) size ∙ take-set_at slice (length slice - 1) (length slice) made one (omega (arith, some)) in
    last_set root items (take (length slice - 1) slice) (refill (length items) items ws) (get_or slice (length slice - 1) d) made tag old new (made-is ∙ ap (λ z. record (scope_of (get_or slice (length slice - 1) d)) { last = z }) n-is)

pub level_opened : (root : Scope) (levels more : List Level) (offset n : ℕ) (f : Scope) (made : Level) → n ≢ 0 → more ≡ levels ++ made ∷ [] → scope_of made ≡ f
    → arrive offset (top_of root more) (below_of root [] more) ≡ begin_level offset f (top_of root levels) (below_of root [] levels) n
unfolding begin_level
level_opened root levels more offset n f made some more-is made-is =
    let z : nat_eq n 0 ≡ false = ne_eqb n 0 some in
    rw z (ap (λ l. arrive offset (top_of root l) (below_of root [] l)) more-is ∙ ap (λ t. arrive offset t (below_of root [] (levels ++ made ∷ []))) (top_push root levels made ∙ made-is) ∙ ap (λ fs. arrive offset f fs) (below_push root [] levels made))

pub level_empty : (p : ℕ) (g f : Scope) (fs : List Scope) (n : ℕ) → n ≡ 0 → arrive p f fs ≡ begin_level p g f fs n
unfolding begin_level
level_empty p g f fs n z = rw z refl

pub value_empty : (p : ℕ) (f : Scope) (fs : List Scope) (t : Tag) (n : ℕ) → n ≡ 0 → arrive p f fs ≡ begin_value p f fs t n
unfolding begin_value
value_empty p f fs t n z = rw z refl

pub value_started : (p : ℕ) (f : Scope) (fs : List Scope) (t : Tag) (n : ℕ) → n ≢ 0 → at f fs p (Reading t n) ≡ begin_value p f fs t n
unfolding begin_value
value_started p f fs t n some = let z : nat_eq n 0 ≡ false = ne_eqb n 0 some in rw z refl

pub level_remaining : (root : Scope) (offset : ℕ) (old new : List Level) (o : Option Level) → old ≡ new ++ option_to_list o → IsSome o ↔ (0 < length old) → arrive offset (top_of root new) (below_of root [] new) ≡ leave offset (top_of root old) (below_of root [] old)
unfolding leave
level_remaining root offset old [] None same v = rw same refl
level_remaining root offset old (l ∷ ls) None same v = absurd (let some : IsSome {T = Level} None = v.1 (omega (arith, ap length same, length-append (l ∷ ls) [])) in cc)
level_remaining root offset old new (Some l) same v = rw same (rw (top_push root new l, below_push root [] new l) refl)

-- the nearest end, from the innermost level outwards

nearest_last : (near : Option ℕ) (ls : List Level) (l : Level) → nearest_from near (ls ++ l ∷ []) ≡ nearer (scope_of l).stop (nearest_from near ls)
nearest_last near [] l = refl
nearest_last near (k ∷ ls) l = nearest_last (nearer (scope_of k).stop near) ls l

pub nearest_at : (ls : List Level) (n : ℕ) (d : Level) → 0 < n → n ≤ length ls → nearest_from None (take n ls) ≡ nearer (scope_of (get_or ls (n - 1) d)).stop (nearest_from None (take (n - 1) ls))
nearest_at ls n d some le =
    let one : n - 1 + 1 ≡ n = omega (arith, some) in
    ap (λ z. nearest_from None (take z ls)) (sym one) ∙ ap (nearest_from None) (take_more ls (n - 1) d (omega (arith, some, le))) ∙ nearest_last None (take (n - 1) ls) (get_or ls (n - 1) d)
