-- Rows that are put one after the other into the groups of their keys are grouped in first-seen order (`step`,
-- `finished`), and the duplicates are left out (`leaves_all`). Stands on the definitions alone.
use Rattle.std.proofs.Common.{◌≡◌, ℕ, suc, ◌+◌, Bool, true, false, cond, not, ◌||◌, List, [], ◌∷◌, ◌++◌, map, get_or, set, refl, sym, ap, ap₂, ◌∙◌, arith, zero, ◌<◌, ◌≤◌, take, length, Vec, subst, drop, drop-cons}
use Rattle.std.proofs.lemmas.Bool.{or_parts, or_from, or_right}
use Rattle.std.specs.List.{list_any, position_or_len, AllByRecursion}
use Rattle.std.specs.Str.{bytes_eq}
use Rattle.std.proofs.lemmas.List.{append-nil, map-append, length-map, take_all}
use Rattle.std.proofs.lemmas.List.Elements.{filter-append}
use Rattle.std.proofs.lemmas.Slice.Eq.{bytes_eq-Decides}
use Rattle.dicomdir_writing.specs.Row.{Row, without_duplicates}
use Rattle.dicomdir_writing.specs.TreeOf.{with_key, seen_after, rows_with, rows_at, row_groups, groups_of}
use Rattle.std.proofs.lemmas.Grind.{common_steps}
use Rattle.std.specs.Borrow.{Bor}
use Rattle.dicomdir_writing.specs.machine.FirstSeen.{texts, is_seen, Sees, Puts, ConsumesRow}
use Rattle.dicomdir_writing.specs.Positions.{duplicates_of, duplicates_after}
use Rattle.std.proofs.lemmas.Bool.{false_from_ne_true, true≢false}
use Rattle.std.proofs.lemmas.Bool.Decides.{nat_tests}

-- the same bytes

same_is : (a b : List ℕ) → bytes_eq a b ≡ true → a ≡ b
same_is a b e = (bytes_eq-Decides a b).0 e

is_same : (a : List ℕ) → bytes_eq a a ≡ true
is_same a = (bytes_eq-Decides a a).1 refl

other_way : (a b : List ℕ) → bytes_eq a b ≡ false → bytes_eq b a ≡ false
other_way a b e = false_from_ne_true (bytes_eq b a) (λ same. let s = same_is b a same in let again : bytes_eq a b ≡ true = rw s (is_same a) in true≢false (sym again ∙ e))

-- no key stands twice
abbrev pub Distinct : List (List ℕ) → Type 0
Distinct [] = Unit {0}
Distinct (k ∷ keys) = (list_any (bytes_eq k) keys ≡ false) × Distinct keys

any_append : (p : List ℕ → Bool) (keys : List (List ℕ)) (k : List ℕ) → list_any p (keys ++ k ∷ []) ≡ false → (list_any p keys ≡ false) × (p k ≡ false)
any_append p [] k e = (refl, (or_parts (p k) false e).0)
any_append p (x ∷ keys) k e = grind (arith, common_steps)

append_any : (p : List ℕ → Bool) (keys : List (List ℕ)) (k : List ℕ) → list_any p keys ≡ false → p k ≡ false → list_any p (keys ++ k ∷ []) ≡ false
append_any p [] k e f = or_from (p k) false f refl
append_any p (x ∷ keys) k e f = grind (arith, common_steps)

distinct_more : (keys : List (List ℕ)) (k : List ℕ) → Distinct keys → list_any (bytes_eq k) keys ≡ false → Distinct (keys ++ k ∷ [])
distinct_more [] k d e = (refl, tt)
distinct_more (x ∷ keys) k d e =
    let parts = or_parts (bytes_eq k x) _ e in
    (append_any (bytes_eq x) keys k d.0 (other_way k x parts.0), distinct_more keys k d.1 parts.1)

module _ (key_of : Row → List ℕ) (done : List Row) (row : Row) where
  abbrev before : List ℕ → List Row
  before k = rows_with key_of k done

  abbrev after : List ℕ → List Row
  after k = rows_with key_of k (done ++ row ∷ [])

  same_key : (k : List ℕ) → bytes_eq k (key_of row) ≡ true → after k ≡ before k ++ row ∷ []
  same_key k e = filter-append (λ r. bytes_eq k (key_of r)) done (row ∷ []) ∙ ap (λ (b : Bool). before k ++ cond b (row ∷ []) []) e

  other_key : (k : List ℕ) → bytes_eq k (key_of row) ≡ false → after k ≡ before k
  other_key k e = filter-append (λ r. bytes_eq k (key_of r)) done (row ∷ []) ∙ ap (λ (b : Bool). before k ++ cond b (row ∷ []) []) e ∙ append-nil (before k)

  others_stay : (keys : List (List ℕ)) → list_any (bytes_eq (key_of row)) keys ≡ false → map before keys ≡ map after keys
  others_stay [] e = refl
  others_stay (x ∷ keys) e =
      let parts = or_parts (bytes_eq (key_of row) x) _ e in
      ap₂ (λ (a : List Row) (b : List (List Row)). a ∷ b) (sym (other_key x (other_way (key_of row) x parts.0))) (others_stay keys parts.1)

  abbrev offset : List (List ℕ) → ℕ
  offset keys = position_or_len (bytes_eq (key_of row)) keys

  abbrev put : List (List Row) → ℕ → List (List Row)
  put groups n = set groups n (get_or groups n [] ++ row ∷ [])

  put_at : (x : List ℕ) (keys : List (List ℕ)) (b : Bool) → bytes_eq (key_of row) x ≡ b → list_any (bytes_eq x) keys ≡ false
      → (list_any (bytes_eq (key_of row)) keys ≡ true → put (map before keys) (offset keys) ≡ map after keys)
      → (b || list_any (bytes_eq (key_of row)) keys) ≡ true
      → put (map before (x ∷ keys)) (cond (not b) (1 + offset keys) 0) ≡ map after (x ∷ keys)
  put_at x keys true same apart more e =
      let one = same_is (key_of row) x same in
      ap₂ (λ (a : List Row) (b : List (List Row)). a ∷ b)
      (sym (same_key x (rw (← one) (is_same (key_of row)))))
      (others_stay keys (rw one apart))
  put_at x keys false same apart more e =
      let n : 1 + offset keys ≡ suc (offset keys) = omega arith in
      ap (put (map before (x ∷ keys))) n
      ∙ ap₂ (λ (a : List Row) (b : List (List Row)). a ∷ b) (sym (other_key x (other_way (key_of row) x same))) (more e)

  put_there : (keys : List (List ℕ)) → Distinct keys → list_any (bytes_eq (key_of row)) keys ≡ true → put (map before keys) (offset keys) ≡ map after keys
  put_there [] d e = absurd cc
  put_there (x ∷ keys) d e = put_at x keys (bytes_eq (key_of row) x) refl d.0 (put_there keys d.1) e

offset_more : (p : List ℕ → Bool) (keys : List (List ℕ)) (k : List ℕ) → p k ≡ true → position_or_len p (keys ++ k ∷ []) ≡ position_or_len p keys
offset_more p [] k e = rw e refl
offset_more p (x ∷ keys) k e = ap (λ (n : ℕ). cond (not (p x)) (1 + n) 0) (offset_more p keys k e)

any_last : (p : List ℕ → Bool) (keys : List (List ℕ)) (k : List ℕ) → p k ≡ true → list_any p (keys ++ k ∷ []) ≡ true
any_last p [] k e = rw e refl
any_last p (x ∷ keys) k e = or_right (p x) _ (any_last p keys k e)

seen_more : (keys ks : List (List ℕ)) (k : List ℕ) → seen_after keys (ks ++ k ∷ []) ≡ with_key k (seen_after keys ks)
seen_more keys [] k = refl
seen_more keys (x ∷ ks) k = seen_more (with_key x keys) ks k

-- the rows so far, their keys, and their groups
pub record Grouped (key_of : Row → List ℕ) (done : List Row) (keys : List (List ℕ)) (groups : List (List Row)) : Type 0 where
  pub seen : keys ≡ seen_after [] (map key_of done)
  pub each : groups ≡ map (λ k. rows_with key_of k done) keys
  pub distinct : Distinct keys
  pub covers : (k : List ℕ) → list_any (bytes_eq k) keys ≡ false → rows_with key_of k done ≡ []

seen_step : (key_of : Row → List ℕ) (done : List Row) (row : Row) (keys : List (List ℕ)) → keys ≡ seen_after [] (map key_of done)
    → with_key (key_of row) keys ≡ seen_after [] (map key_of (done ++ row ∷ []))
seen_step key_of done row keys e = grind (arith, common_steps, seen_more [] (map key_of done) (key_of row), map-append key_of done (row ∷ []))

pub grouped_old : (key_of : Row → List ℕ) (done : List Row) (row : Row) (keys : List (List ℕ)) (groups : List (List Row)) → Grouped key_of done keys groups
    → list_any (bytes_eq (key_of row)) keys ≡ true
    → Grouped key_of (done ++ row ∷ []) keys (put key_of done row groups (position_or_len (bytes_eq (key_of row)) keys))
grouped_old key_of done row keys groups g e = record {
  seen = sym (ap (λ (b : Bool). cond b keys (keys ++ key_of row ∷ [])) e) ∙ seen_step key_of done row keys g.seen;
  each = ap (λ (gs : List (List Row)). put key_of done row gs (position_or_len (bytes_eq (key_of row)) keys)) g.each ∙ put_there key_of done row keys g.distinct e;
  distinct = g.distinct;
  covers = λ k apart.
      let other : bytes_eq k (key_of row) ≡ false = false_from_ne_true (bytes_eq k (key_of row)) (λ same. let s = same_is k (key_of row) same in let there : list_any (bytes_eq k) keys ≡ true = rw s e in true≢false (sym there ∙ apart)) in
      other_key key_of done row k other ∙ g.covers k apart;
}

pub grouped_new : (key_of : Row → List ℕ) (done : List Row) (row : Row) (keys : List (List ℕ)) (groups : List (List Row)) → Grouped key_of done keys groups
    → list_any (bytes_eq (key_of row)) keys ≡ false
    → Grouped key_of (done ++ row ∷ []) (keys ++ key_of row ∷ []) (put key_of done row (groups ++ [] ∷ []) (position_or_len (bytes_eq (key_of row)) keys))
grouped_new key_of done row keys groups g e =
    let k = key_of row in
    let more : groups ++ [] ∷ [] ≡ map (before key_of done row) (keys ++ k ∷ []) =
    ap (λ (gs : List (List Row)). gs ++ [] ∷ []) g.each ∙ ap (λ (rs : List Row). map (before key_of done row) keys ++ rs ∷ []) (sym (g.covers k e)) ∙ sym (map-append (before key_of done row) keys (k ∷ [])) in
    record {
      seen = sym (ap (λ (b : Bool). cond b keys (keys ++ k ∷ [])) e) ∙ seen_step key_of done row keys g.seen;
      each =
          ap₂ (λ (gs : List (List Row)) (n : ℕ). put key_of done row gs n) more (sym (offset_more (bytes_eq k) keys k (is_same k)))
          ∙ put_there key_of done row (keys ++ k ∷ []) (distinct_more keys k g.distinct e) (any_last (bytes_eq k) keys k (is_same k));
      distinct = distinct_more keys k g.distinct e;
      covers = λ x apart.
          let parts = any_append (bytes_eq x) keys k apart in
          other_key key_of done row x parts.1 ∙ g.covers x parts.0;
    }

-- ---- what one more row does to the keys of a set and to the groups of rows

pub any_texts : {A : Type 0} (k : List ℕ) (keys : List (Vec ℕ A)) → list_any (λ y. bytes_eq k y.items) keys ≡ list_any (bytes_eq k) (texts keys)
any_texts k [] = refl
any_texts k (x ∷ keys) = ap (λ (b : Bool). bytes_eq k x.items || b) (any_texts k keys)

offset_texts : {A : Type 0} (k : List ℕ) (keys : List (Vec ℕ A)) → position_or_len (λ y. bytes_eq k y.items) keys ≡ position_or_len (bytes_eq k) (texts keys)
offset_texts k [] = refl
offset_texts k (x ∷ keys) = ap (λ (n : ℕ). cond (not (bytes_eq k x.items)) (1 + n) 0) (offset_texts k keys)

-- the row at the index comes after those before it
consumed : (rows : List (Bor Row)) (i : ℕ) (row : Bor Row) → i < length rows → row ≡ get_or rows i row → take (suc i) (rows_at rows) ≡ take i (rows_at rows) ++ row.now ∷ []
consumed [] i row lt is = absurd (omega (arith, lt))
consumed (r ∷ rows) zero row lt is = ap (λ (x : Bor Row). x.now ∷ []) (sym is)
consumed (r ∷ rows) (suc i) row lt is = ap (λ (rs : List Row). r.now ∷ rs) (consumed rows i row (omega (arith, lt)) is)

pub row_put : {A : Type 0} (groups : List (Vec (Bor Row) A)) (n : ℕ) (d g : Vec (Bor Row) A) (row : Bor Row) → n < length groups → g.items ≡ (get_or groups n d).items ++ row ∷ []
    → row_groups (set groups n g) ≡ set (row_groups groups) n (get_or (row_groups groups) n [] ++ row.now ∷ [])
row_put [] n d g row lt is = absurd (omega (arith, lt))
row_put (x ∷ groups) zero d g row lt is = ap (λ (rs : List (Bor Row)). rows_at rs ∷ row_groups groups) is ∙ ap (λ (rs : List Row). rs ∷ row_groups groups) (map-append (λ r. r.now) x.items (row ∷ []))
row_put (x ∷ groups) (suc n) d g row lt is = ap (λ (gs : List (List Row)). rows_at x.items ∷ gs) (row_put groups n d g row (omega (arith, lt)) is)

step_by : (b : Bool) (key_of : Row → List ℕ) (done : List Row) (row : Row) (keys new : List (List ℕ)) (groups g1 g2 : List (List Row)) (n : ℕ)
    → list_any (bytes_eq (key_of row)) keys ≡ b → Grouped key_of done keys groups
    → new ≡ cond b keys (keys ++ key_of row ∷ []) → n ≡ position_or_len (bytes_eq (key_of row)) keys
    → g1 ≡ cond (not b) (groups ++ [] ∷ []) groups → g2 ≡ set g1 n (get_or g1 n [] ++ row ∷ [])
    → Grouped key_of (done ++ row ∷ []) new g2
step_by true key_of done row keys new groups g1 g2 n any g is offset opened put = grind (arith, common_steps, grouped_old key_of done row keys groups g any)
step_by false key_of done row keys new groups g1 g2 n any g is offset opened put = grind (arith, common_steps, grouped_new key_of done row keys groups g any)

pub sees : {A : Type 0} (k : List ℕ) (keys new : List (Vec ℕ A)) (v : Vec ℕ A) (n : ℕ) (is_new : Bool) → v.items ≡ k
    → new ≡ cond (list_any (λ y. bytes_eq v.items y.items) keys) keys (keys ++ v ∷ [])
    → n ≡ position_or_len (λ y. bytes_eq v.items y.items) keys
    → is_new ≡ not (list_any (λ y. bytes_eq v.items y.items) keys)
    → Sees k (texts keys) (texts new) n is_new
sees k keys new v n is_new key news offset newness = grind (arith, common_steps, any_texts v.items keys, offset_texts v.items keys)

pub as_many : (key_of : Row → List ℕ) (done : List Row) (keys : List (List ℕ)) (groups : List (List Row)) → Grouped key_of done keys groups → length groups ≡ length keys
as_many key_of done keys groups g = ap length g.each ∙ length-map keys (λ k. rows_with key_of k done)

pub step : (key_of : Row → List ℕ) (rows : List (Bor Row)) (i : ℕ) (row : Bor Row) (k : List ℕ) (keys new : List (List ℕ)) (groups after : List (List Row))
    → i < length rows → row ≡ get_or rows i row → k ≡ key_of row.now → Grouped key_of (take i (rows_at rows)) keys groups → Puts k row.now keys new groups after
    → Grouped key_of (take (suc i) (rows_at rows)) new after
step key_of rows i row k keys new groups after lt is key g p =
    let q : Puts (key_of row.now) row.now keys new groups after = subst (λ z. Puts z row.now keys new groups after) key p in
    let b = is_seen (key_of row.now) keys in
    let whole = step_by b key_of (take i (rows_at rows)) row.now keys new groups (cond (not b) (groups ++ [] ∷ []) groups) after (position_or_len (bytes_eq (key_of row.now)) keys) refl g q.keys_are refl refl q.groups_are in
    rw (consumed rows i row lt is) whole

pub finished : (key_of : Row → List ℕ) (rows : List (Bor Row)) (n : ℕ) (keys : List (List ℕ)) (groups : List (List Row)) → length rows ≤ n
    → Grouped key_of (take n (rows_at rows)) keys groups → groups ≡ groups_of key_of (rows_at rows)
finished key_of rows n keys groups le g = grind (arith, common_steps)

-- ---- rows are gone through one after the other, with the instances that were seen

rest_is : (rows : List Row) (at : ℕ) (row : Row) → at < length rows → row ≡ get_or rows at row → drop at rows ≡ row ∷ drop (at + 1) rows
rest_is rows at row lt is = grind (arith, common_steps, drop-cons rows at row lt)

-- the rows that are kept so far and the duplicates, with those of the rest, are all
pub record Leaves (rows : List Row) (at : ℕ) (before : List (List ℕ)) (kept : List Row) (duplicates : List ℕ) : Type 0 where
  pub rows_are : kept ++ without_duplicates before (drop at rows) ≡ without_duplicates [] rows
  pub duplicates_are : duplicates ++ duplicates_after at before (drop at rows) ≡ duplicates_of rows

pub leaves_next : (rows : List Row) (at : ℕ) (row : Row) (keys new : List (List ℕ)) (kept kept2 : List Row) (duplicates duplicates2 : List ℕ) → at < length rows → row ≡ get_or rows at row
    → Leaves rows at keys kept duplicates → ConsumesRow at row keys new kept kept2 duplicates duplicates2 → Leaves rows (at + 1) new kept2 duplicates2
leaves_next rows at row keys new kept kept2 duplicates duplicates2 lt is l t = grind (arith, common_steps, rest_is rows at row lt is)

pub leaves_all : (rows : List Row) (at : ℕ) (before : List (List ℕ)) (kept : List Row) (duplicates : List ℕ) → length rows ≤ at → Leaves rows at before kept duplicates
    → (kept ≡ without_duplicates [] rows) × (duplicates ≡ duplicates_of rows)
leaves_all rows at before kept duplicates le l = grind (arith, common_steps, append-nil kept, append-nil duplicates)

-- one row more is one
pub all_more : {X : Type 0} (P : X → Type 0) (xs : List X) (at : ℕ) (x : X) → at < length xs → x ≡ get_or xs at x → P x → AllByRecursion P (take at xs) → AllByRecursion P (take (at + 1) xs)
all_more P [] at x lt is one all = absurd (omega (arith, lt))
all_more P (y ∷ xs) zero x lt is one all = (subst P is one, tt)
all_more P (y ∷ xs) (suc at) x lt is one all = grind (arith, nat_tests, all_more P xs at x (omega (arith, lt)) is one all.1)

pub all_consumed : {X : Type 0} (P : X → Type 0) (xs : List X) (at : ℕ) → length xs ≤ at → AllByRecursion P (take at xs) → AllByRecursion P xs
all_consumed P xs at le all = rw (← take_all at xs le) all

pub duplicate_remaining : (at : ℕ) (row : Row) (key : List ℕ) (keys new : List (List ℕ)) (number : ℕ) (is_new : Bool) (rows : List Row) (duplicates more : List ℕ)
    → key ≡ row.instance → Sees key keys new number is_new → is_new ≡ false → more ≡ duplicates ++ at ∷ [] → ConsumesRow at row keys new rows rows duplicates more
duplicate_remaining at row key keys new number is_new rows duplicates more is sees old last = grind (arith, common_steps)
