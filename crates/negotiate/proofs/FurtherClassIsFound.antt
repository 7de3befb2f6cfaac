-- A search for the index of a further storage class finds it (`is_here`), continues (`not_here`) or ends (`none_here`,
-- `none_remaining`). Stands on DictionaryDecidesByDefault and the laws of `dictionary`.
use Rattle.std.proofs.Common.{◌≡◌, ℕ, suc, ◌+◌, ◌≤◌, Bool, true, false, cond, List, [], ◌∷◌, ◌++◌, length, map, drop, Some, None, slice_get, refl, ap, sym, subst, ◌∙◌, arith}
use Rattle.std.specs.List.{position_from}
use Rattle.dictionary.specs.StorageClasses.{storage_classes}
use Rattle.dictionary.proofs.Public.{length-storage_classes}
use Rattle.negotiate.specs.declared.config.Config.{Config}
use Rattle.negotiate.specs.Settings.{registered, settings_of}
use Rattle.negotiate.proofs.DictionaryDecidesByDefault.{at_some, at_none, past_end}

pub is_here : {A : Type 0} (t : A → Bool) (xs : List A) (n : ℕ) (x : A) → slice_get xs n ≡ Some x → t x ≡ true → position_from t n (drop n xs) ≡ Some n
is_here t xs n x e passes = at_some t xs n n x e ∙ ap (λ b. cond b (Some n) (position_from t (n + 1) (drop (suc n) xs))) passes

pub not_here : {A : Type 0} (t : A → Bool) (xs : List A) (n : ℕ) (x : A) → slice_get xs n ≡ Some x → t x ≡ false →
    position_from t n (drop n xs) ≡ position_from t (n + 1) (drop (n + 1) xs)
not_here t xs n x e passes =
    let next : suc n ≡ n + 1 = omega arith in
    at_some t xs n n x e ∙ ap (λ b. cond b (Some n) (position_from t (n + 1) (drop (suc n) xs))) passes ∙ ap (λ m. position_from t (n + 1) (drop m xs)) next

pub none_here : {A : Type 0} (t : A → Bool) (xs : List A) (n : ℕ) → slice_get xs n ≡ None → position_from t n (drop n xs) ≡ None
none_here t xs n e = at_none t xs n n e

length-append : {A : Type 0} (xs ys : List A) → length (xs ++ ys) ≡ length xs + length ys
length-append [] ys = omega arith
length-append (x ∷ xs) ys = let later = length-append xs ys in omega (arith, later)

length-mapped : {A B : Type 0} (f : A → B) (xs : List A) → length (map f xs) ≡ length xs
length-mapped f [] = refl
length-mapped f (x ∷ xs) = ap suc (length-mapped f xs)

few_registered : (all : Bool) → length (registered all) ≤ 177
few_registered true = subst (λ n. n ≤ 177) (sym (length-mapped (λ row. row.uid) storage_classes ∙ length-storage_classes)) (omega arith)
few_registered false = omega arith

pub none_remaining : (t : List ℕ → Bool) (c : Config) (n : ℕ) → length c.named.items ≤ 64 → 241 ≤ n → position_from t n (drop n (settings_of c).additional.classes) ≡ None
none_remaining t c n named h =
    let both = length-append (map (λ u. u.items) c.named.items) (registered c.all_storage) in
    let first = length-mapped (λ u. u.items) c.named.items in
    let last = few_registered c.all_storage in
    none_here t (settings_of c).additional.classes n (past_end (settings_of c).additional.classes n (omega (arith, both, first, last, named, h)))
