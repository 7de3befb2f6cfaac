-- A whole header that breaks none of its rules keeps each of them (`is_sound`), and its tag may stand where it does
-- (`element_tag`, `item_end_is`, `in_sequence_is`). Stands on the definitions alone.
use Rattle.std.proofs.Common.{◌≡◌, ℕ, ◌+◌, ◌%◌, ◌<◌, ◌≢◌, ◌⊎◌, Bool, true, false, not, ◌&&◌, ◌||◌, Option, Some, None, nat_eq, nat_le, nat_lt, refl, sym, ap, inl, inr, arith, eqb-true, false-eqb, ne_eqb, leb-false, if◌then◌else◌}
use Rattle.element.specs.declared.tag.Tag.{Tag}
use Rattle.element.specs.declared.header.Header.{Header}
use Rattle.sequence.specs.Coding.{has_fragments}
use Rattle.sequence.specs.declared.spot.Spot.{Spot}
use Rattle.sequence.specs.Rules.{Limits}
use Rattle.element.specs.Header.{number, is_marker, item_tag, item_end_tag, sequence_end_tag}
use Rattle.sequence.specs.Shape.{is_undefined, undefined_length, shape}
use Rattle.sequence.specs.Rules.{broken_tag, broken_header, same_tag, is_not_allowed, is_sequence, is_long_mark, is_too_long, is_endless, opens, counted_length, passes}
use Rattle.sequence.specs.machine.Standing.{IsLength}

pub if_some : {A : Type 0} {y : Option A} (b : Bool) (x : A) → (if b then Some x else y) ≡ None → (b ≡ false) × (y ≡ None)
if_some true x e = absurd cc
if_some false x e = (refl, e)

pub if_none : {A : Type 0} (b : Bool) (x : A) → (if b then None else Some x) ≡ None → b ≡ true
if_none true x e = refl
if_none false x e = absurd cc

pub when_true : {A : Type 0} {x z : A} (b : Bool) (y : A) → b ≡ true → (if b then x else y) ≡ z → x ≡ z
when_true true y t e = e
when_true false y t e = absurd cc

pub when_false : {A : Type 0} {y z : A} (b : Bool) (x : A) → b ≡ false → (if b then x else y) ≡ z → y ≡ z
when_false true x t e = absurd cc
when_false false x t e = e

pub and_not : (a b : Bool) → a ≡ true → b ≡ false → (a && not b) ≡ true
and_not true false t e = refl
and_not true true t e = absurd cc
and_not false b t e = absurd cc

pub or_false : (a b : Bool) → (a || b) ≡ false → (a ≡ false) × (b ≡ false)
or_false true b e = absurd cc
or_false false b e = (refl, e)

pub or_true : (a b : Bool) → (a || b) ≡ true → (a ≡ true) ⊎ (b ≡ true)
or_true true b e = inl refl
or_true false b e = inr e

pub and_true : (a b : Bool) → (a && b) ≡ true → (a ≡ true) × (b ≡ true)
and_true true b e = (refl, e)
and_true false b e = absurd cc

pub and_false : (a b : Bool) → (a && b) ≡ false → a ≡ true → b ≡ false
and_false true b e t = e
and_false false b e t = absurd cc

pub not_false : (a : Bool) → not a ≡ false → a ≡ true
not_false true e = refl
not_false false e = absurd cc

pub same_tag_is : (t u : Tag) → same_tag t u ≡ true → t ≡ u
same_tag_is t u e =
    let parts = and_true (nat_eq t.0 u.0) (nat_eq t.1 u.1) e in
    let first : t.0 ≡ u.0 = eqb-true _ _ parts.0 in
    let second : t.1 ≡ u.1 = eqb-true _ _ parts.1 in
    λ i. record { 0 = first i; 1 = second i }

-- the tag of an element
pub element_tag : (spot : Spot) (t : Tag) → broken_tag spot t ≡ None → spot.in_sequence ≡ false → is_marker t ≡ false → (spot.last < number t) × (t.0 ≢ 0) × (t.0 ≢ 2)
unfolding broken_tag
element_tag spot t ok here plain =
    let one = if_some (nat_eq t.0 0 || nat_eq t.0 2) (13, t) (when_false (is_marker t) _ plain (when_false spot.in_sequence _ here ok)) in
    let groups = or_false (nat_eq t.0 0) (nat_eq t.0 2) one.0 in
    let order = if_some (nat_le (number t) spot.last) (12, t) one.1 in
    (grind (arith, leb-false (number t) spot.last order.0), false-eqb t.0 0 (sym groups.0), false-eqb t.0 2 (sym groups.1))

-- the tag of the delimitation of an item
pub item_end_is : (spot : Spot) (t : Tag) → broken_tag spot t ≡ None → spot.in_sequence ≡ false → is_marker t ≡ true → (t ≡ item_end_tag) × (spot.open_ended ≡ true)
unfolding broken_tag
item_end_is spot t ok here marked =
    let one = if_none (same_tag t item_end_tag && spot.open_ended) (15, t) (when_true (is_marker t) _ marked (when_false spot.in_sequence _ here ok)) in
    let both = and_true (same_tag t item_end_tag) spot.open_ended one in
    (same_tag_is t item_end_tag both.0, both.1)

-- the tag of an item, or of the delimitation of a sequence
pub in_sequence_is : (spot : Spot) (t : Tag) → broken_tag spot t ≡ None → spot.in_sequence ≡ true → (t ≡ item_tag) ⊎ ((t ≡ sequence_end_tag) × (spot.open_ended ≡ true))
unfolding broken_tag
in_sequence_is spot t ok here = by (or_true (same_tag t item_tag) (same_tag t sequence_end_tag && spot.open_ended) (if_none (same_tag t item_tag || (same_tag t sequence_end_tag && spot.open_ended)) (15, t) (when_true spot.in_sequence _ here ok)))
  where
    by : (same_tag t item_tag ≡ true) ⊎ ((same_tag t sequence_end_tag && spot.open_ended) ≡ true) → (t ≡ item_tag) ⊎ ((t ≡ sequence_end_tag) × (spot.open_ended ≡ true))
    by (inl e) = inl (same_tag_is t item_tag e)
    by (inr e) = let both = and_true (same_tag t sequence_end_tag) spot.open_ended e in inr (same_tag_is t sequence_end_tag both.0, both.1)

-- what the rules of a whole header say, where none is broken
pub record IsSound (lim : Limits) (spot : Spot) (size : ℕ) (h : Header) : Type 0 where
  pub mark : is_long_mark h ≡ false
  pub allowed : not (is_marker h.tag) && is_not_allowed (shape spot.syntax h) ≡ false
  pub bounded : is_endless spot h ≡ false
  pub counted : not (is_undefined h.length) && nat_eq (h.length % 2) 1 ≡ false
  pub within : not (is_undefined h.length) && passes spot.near (size + h.length) ≡ false
  pub short : nat_lt lim.bytes (spot.offset + size + counted_length h.length) ≡ false
  pub fits : is_too_long lim spot h ≡ false
  pub shallow : opens spot h && nat_le lim.depth spot.depth ≡ false

pub is_sound : (lim : Limits) (spot : Spot) (size : ℕ) (h : Header) → broken_header lim spot size h ≡ None → IsSound lim spot size h
unfolding broken_header
is_sound lim spot size h ok =
    let a = if_some (is_long_mark h) (16, h.tag) ok in
    let b = if_some (not (is_marker h.tag) && is_not_allowed (shape spot.syntax h)) (14, h.tag) a.1 in
    let o = if_some (is_endless spot h) (14, h.tag) b.1 in
    let c = if_some (not (is_undefined h.length) && nat_eq (h.length % 2) 1) (11, h.tag) o.1 in
    let d = if_some (not (is_undefined h.length) && passes spot.near (size + h.length)) (17, h.tag) c.1 in
    let e = if_some (nat_lt lim.bytes (spot.offset + size + counted_length h.length)) (19, h.tag) d.1 in
    let f = if_some (is_too_long lim spot h) (21, h.tag) e.1 in
    let g = if_some (opens spot h && nat_le lim.depth spot.depth) (18, h.tag) f.1 in
    record { mark = a.0; allowed = b.0; bounded = o.0; counted = c.0; within = d.0; short = e.0; fits = f.0; shallow = g.0 }

pub sound_length : (lim : Limits) (spot : Spot) (size : ℕ) (h : Header) → IsSound lim spot size h → IsLength h.length
sound_length lim spot size h ok defined =
    let d : not (is_undefined h.length) ≡ true = ap not (ne_eqb h.length undefined_length defined) in
    let odd = and_false (not (is_undefined h.length)) (nat_eq (h.length % 2) 1) ok.counted d in
    omega (arith, false-eqb (h.length % 2) 1 (sym odd))

pub sound_mark : (lim : Limits) (spot : Spot) (size : ℕ) (h : Header) → IsSound lim spot size h → is_marker h.tag ≡ true → same_tag h.tag item_tag ≡ false → h.length ≡ 0
sound_mark lim spot size h ok marked other =
    let d : (is_marker h.tag && not (same_tag h.tag item_tag)) ≡ true = and_not (is_marker h.tag) (same_tag h.tag item_tag) marked other in
    eqb-true h.length 0 (not_false (nat_eq h.length 0) (and_false (is_marker h.tag && not (same_tag h.tag item_tag)) (not (nat_eq h.length 0)) ok.mark d))

-- the length of a fragment is defined
pub sound_fragment : (lim : Limits) (spot : Spot) (size : ℕ) (h : Header) → IsSound lim spot size h → is_marker h.tag ≡ true → has_fragments spot.syntax ≡ true → is_undefined h.length ≡ false
sound_fragment lim spot size h ok marked holds = and_false (is_marker h.tag && has_fragments spot.syntax) (is_undefined h.length) ok.bounded (λ i. marked i && holds i)

-- where no fragment is due, a marker opens a level
pub marker_opens : (spot : Spot) (h : Header) → is_marker h.tag ≡ true → has_fragments spot.syntax ≡ false → ((is_marker h.tag && not (has_fragments spot.syntax)) || is_sequence (shape spot.syntax h)) ≡ true
marker_opens spot h marked nests = λ i. (marked i && not (nests i)) || is_sequence (shape spot.syntax h)
