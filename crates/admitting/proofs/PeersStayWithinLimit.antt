-- A slot that is given or freed leaves each peer with no more slots than one may have (`admitted`, `never_more`,
-- `freed`, `free_within`). Stands on the definitions alone.
use Rattle.std.proofs.Common.{◌≡◌, ℕ, zero, suc, ◌+◌, ◌≤◌, ◌<◌, Bool, List, [], ◌∷◌, Option, Some, None, set, replicate, refl, arith, nat_eq, true, false, if◌then◌else◌, ap, ◌∙◌, sym, subst}
use Rattle.std.proofs.lemmas.Bool.{eqb-true}
use Rattle.admitting.specs.Occupants.{slots_of, first_vacancy}

-- a slot that is free
abbrev pub IsFree : ℕ → List (Option ℕ) → Type 0
IsFree slot [] = ⊥
IsFree zero (None ∷ more) = Unit {0}
IsFree zero (Some _ ∷ more) = ⊥
IsFree (suc slot) (_ ∷ more) = IsFree slot more

pub vacancy_is_free : (start slot : ℕ) (peers : List (Option ℕ)) → first_vacancy start peers ≡ Some slot → (at : ℕ) × (slot ≡ start + at) × IsFree at peers
vacancy_is_free start slot [] found = absurd cc
vacancy_is_free start slot (None ∷ more) found = (0, (let same : start ≡ slot = cc in omega arith), tt)
vacancy_is_free start slot (Some _ ∷ more) found =
    let (at, is, free) = vacancy_is_free (suc start) slot more found in
    (suc at, omega arith, free)

-- one more where this holds
abbrev pub one_if : Bool → ℕ → ℕ
one_if b count = if b then suc count else count

swapped : (b c : Bool) (count : ℕ) → one_if b (one_if c count) ≡ one_if c (one_if b count)
swapped true true count = refl
swapped true false count = refl
swapped false true count = refl
swapped false false count = refl

pub occupied : (peer other at : ℕ) (peers : List (Option ℕ)) → IsFree at peers → slots_of peer (set peers at (Some other)) ≡ one_if (nat_eq peer other) (slots_of peer peers)
occupied peer other at [] free = absurd free
occupied peer other zero (None ∷ more) free = refl
occupied peer other zero (Some _ ∷ more) free = absurd free
occupied peer other (suc at) (None ∷ more) free = occupied peer other at more free
occupied peer other (suc at) (Some third ∷ more) free =
    ap (one_if (nat_eq peer third)) (occupied peer other at more free) ∙ swapped (nat_eq peer third) (nat_eq peer other) (slots_of peer more)

least_one : (b : Bool) (count : ℕ) → count ≤ one_if b count
least_one true count = omega arith
least_one false count = omega arith

still_one : (b : Bool) (fewer more : ℕ) → fewer ≤ more → one_if b fewer ≤ one_if b more
still_one true fewer more le = omega arith
still_one false fewer more le = le

pub freed : (peer at : ℕ) (peers : List (Option ℕ)) → slots_of peer (set peers at None) ≤ slots_of peer peers
freed peer at [] = omega arith
freed peer zero (None ∷ more) = omega arith
freed peer zero (Some third ∷ more) = least_one (nat_eq peer third) (slots_of peer more)
freed peer (suc at) (None ∷ more) = freed peer at more
freed peer (suc at) (Some third ∷ more) = still_one (nat_eq peer third) (slots_of peer (set more at None)) (slots_of peer more) (freed peer at more)

pub all_free : (peer count : ℕ) → slots_of peer (replicate count None) ≡ 0
all_free peer zero = refl
all_free peer (suc count) = all_free peer count

within : (b : Bool) (peer other most : ℕ) (peers : List (Option ℕ)) → nat_eq peer other ≡ b → slots_of other peers < most → slots_of peer peers ≤ most → one_if b (slots_of peer peers) ≤ most
within true peer other most peers is few le = let few' : slots_of peer peers < most = subst (λ p. slots_of p peers < most) (sym (eqb-true peer other is)) few in omega arith
within false peer other most peers is few le = le

pub never_more : (other at most : ℕ) (peers : List (Option ℕ)) → IsFree at peers → slots_of other peers < most → ((peer : ℕ) → slots_of peer peers ≤ most)
    → (peer : ℕ) → slots_of peer (set peers at (Some other)) ≤ most
never_more other at most peers free few all peer =
    subst (λ n. n ≤ most) (sym (occupied peer other at peers free)) (within (nat_eq peer other) peer other most peers refl few (all peer))

-- so it is where a peer that has fewer gets the first slot that is free
pub admitted : (other slot most : ℕ) (peers : List (Option ℕ)) → first_vacancy 0 peers ≡ Some slot → slots_of other peers < most → ((peer : ℕ) → slots_of peer peers ≤ most)
    → (peer : ℕ) → slots_of peer (set peers slot (Some other)) ≤ most
admitted other slot most peers found few all peer =
    let (at, is, free) = vacancy_is_free 0 slot peers found in
    let same : at ≡ slot = omega arith in
    subst (λ n. slots_of peer (set peers n (Some other)) ≤ most) same (never_more other at most peers free few all peer)

-- slots of which all are free
pub free_within : (peer count most : ℕ) (peers : List (Option ℕ)) → peers ≡ replicate count None → slots_of peer peers ≤ most
free_within peer count most peers free = let none : slots_of peer peers ≡ 0 = ap (slots_of peer) free ∙ all_free peer count in omega arith
