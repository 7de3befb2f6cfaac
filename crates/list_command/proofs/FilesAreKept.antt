-- Where the part at one index has one file more, all parts have one file more (`one_more`): a series that counts one more
-- (`one_image`), or lists one more (`one_listed`); a new part without files adds none (`nothing_more`). What is found by a
-- UID has it (`found_or_none`, `within`), and so has what is added (`added`). The count of some series and of the next one
-- is the count of both (`images_more`). Stands on the definitions alone.
use Rattle.std.proofs.Common.{◌≡◌, ◌<◌, ◌+◌, ℕ, zero, suc, List, [], ◌∷◌, ◌++◌, length, map, take, position, Option, Some, None, refl, sym, ap, subst, ◌∙◌, append-nil, add-one, arith, min, ◌-◌, ◌^◌}
use Rattle.std.specs.Prelude.{IfSome, IsPermutation, Vec, replicate, slice_get}
use Rattle.std.specs.List.{flat_map, position_or_len}
use Rattle.std.specs.Map.{keys_of, values_of, lookup}
use Rattle.std.specs.Cmp.Lexicographic.{bytes_decides}
use Rattle.std.proofs.lemmas.List.Sorted.{IsPermutation-trans, IsPermutation-sym, IsPermutation-middle, IsPermutation-append_left, IsPermutation-append_right, IsPermutation-refl, IsPermutation-to_front}
use Rattle.std.proofs.lemmas.List.{length-append, length-replicate, map-append}
use Rattle.indexmap.specs.IndexMap.{set_value_at, insert_entry}
use Rattle.indexmap.proofs.MapLemmas.{absent_from_lookup, index-first, insert_entry-absent, or_len-absent, Found-position}
use Rattle.list_command.specs.Tree.{files_in, is_uid, one_or_none, shown, HasUid, IsAdded, Listed, Lists}
use Rattle.list_command.specs.declared.studies.Instance.{Instance}
use Rattle.list_command.specs.declared.studies.Series.{Series}

pub one_more : {A T X : Type 0} (f : Vec ℕ A × T → List X) (es : List (Vec ℕ A × T)) (i : ℕ) (uid : List ℕ) (v w : T) (x : X) → HasUid uid i es → slice_get (values_of es) i ≡ Some v → ((k : Vec ℕ A) → k.items ≡ uid → IsPermutation (x ∷ f (k, v)) (f (k, w))) → IsPermutation (x ∷ flat_map f es) (flat_map f (set_value_at es i w))
one_more f [] i uid v w x has at more = absurd has
one_more {A} {T} f (e ∷ es) zero uid v w x has at more =
    let named : e.0.items ≡ uid = sym ((bytes_decides uid e.0.items).0 has) in
    let same : v ≡ e.1 = cc in
    IsPermutation-append_left (flat_map f es) (x ∷ f e) (f (e.0, w)) (subst (λ (given : T). IsPermutation (x ∷ f (e.0, given)) (f (e.0, w))) same (more e.0 named))
one_more f (e ∷ es) (suc i) uid v w x has at more =
    IsPermutation-trans _ _ _ (IsPermutation-sym _ _ (IsPermutation-middle (f e) x (flat_map f es)))
    (IsPermutation-append_right (f e) (x ∷ flat_map f es) (flat_map f (set_value_at es i w)) (one_more f es i uid v w x has.1 at more))

pub within : {A T : Type 0} (uid : List ℕ) (i : ℕ) (es : List (Vec ℕ A × T)) → HasUid uid i es → i < length es
within uid i [] has = absurd has
within uid zero (e ∷ es) has = omega arith
within uid (suc i) (e ∷ es) has = omega (arith, within uid i es has.1)

pub nothing_more : {X Y : Type 0} (f : X → List Y) (xs : List X) (x : X) → f x ≡ [] → flat_map f (xs ++ x ∷ []) ≡ flat_map f xs
nothing_more f [] x none = rw none refl
nothing_more f (y ∷ ys) x none = ap (λ rest. f y ++ rest) (nothing_more f ys x none)

found_uid : {A T : Type 0} (uid : List ℕ) (es : List (Vec ℕ A × T)) (i : ℕ) → position (is_uid uid) (keys_of es) ≡ Some i → HasUid uid i es
found_uid {A} {T} uid [] i found = (Found-position {X = T} (is_uid {A = A} uid) [] i found).first
found_uid uid (e ∷ es) zero found = (Found-position (is_uid uid) (e ∷ es) zero found).first
found_uid uid (e ∷ es) (suc i) found =
    let first = (Found-position (is_uid uid) (e ∷ es) (suc i) found).first in
    (first.0, found_uid uid es i (index-first (is_uid uid) es i first.1))

added_uid : {A T : Type 0} (uid : List ℕ) (es : List (Vec ℕ A × T)) (key : Vec ℕ A) (new : T) → key.items ≡ uid → lookup (is_uid uid) es ≡ None → HasUid uid (length es) (es ++ (key, new) ∷ [])
added_uid uid [] key new named none = (bytes_decides uid key.items).1 (sym named)
added_uid uid (e ∷ es) key new named none =
    let other = (absent_from_lookup (is_uid uid) (e ∷ es) none).0 in
    (other, added_uid uid es key new named (rw other at none))

pub found_or_none : {A T : Type 0} (uid : List ℕ) (es : List (Vec ℕ A × T)) (found : Option ℕ) → found ≡ position (is_uid uid) (keys_of es) → IfSome found (λ index. HasUid uid index es)
found_or_none uid es None is = _
found_or_none uid es (Some i) is = found_uid uid es i (sym is)

pub added : {A T : Type 0} (uid : List ℕ) (key : Vec ℕ A) (new : T) (old entries : List (Vec ℕ A × T)) (index : ℕ) → key.items ≡ uid → lookup (is_uid uid) old ≡ None → index ≡ position_or_len (is_uid key.items) (keys_of old) → entries ≡ insert_entry (λ (one other : Vec ℕ A). is_uid one.items other) old key new → HasUid uid index entries × IsAdded uid new old entries
added {A} {T} uid key new old entries index named none at made =
    let lacks : lookup (is_uid key.items) old ≡ None = subst (λ (text : List ℕ). lookup (is_uid text) old ≡ None) (sym named) none in
    let absent = absent_from_lookup (is_uid key.items) old lacks in
    let end : entries ≡ old ++ (key, new) ∷ [] = made ∙ insert_entry-absent (λ (one other : Vec ℕ A). is_uid one.items other) key new old absent in
    let last : index ≡ length old = at ∙ or_len-absent (is_uid key.items) old absent in
    (rw (end, last) (added_uid uid old key new named none), record { key = key; named = named; at_end = end })

pub one_image : (study uid key : List ℕ) (n m : ℕ) → key ≡ uid → m ≡ n + 1 → IsPermutation {X = List ℕ × List ℕ} ((study, uid) ∷ replicate n (study, key)) (replicate m (study, key))
one_image study uid key n m named more =
    let file : List ℕ × List ℕ = (study, key) in
    let old : List (List ℕ × List ℕ) = (study, uid) ∷ replicate n file in
    let next : m ≡ suc n = more ∙ add-one n in
    let new : replicate m file ≡ file ∷ replicate n file = ap (λ (k : ℕ). replicate k file) next in
    let same : replicate m file ≡ old = new ∙ ap (λ (text : List ℕ). (study, text) ∷ replicate n file) named in
    subst (IsPermutation old) (sym same) (IsPermutation-refl old)

images_to : {A : Type 0} (study : List ℕ) (es : List (Vec ℕ A × Series A)) (i : ℕ) (k : Vec ℕ A) (s : Series A) → slice_get es i ≡ Some (k, s) → length (files_in study (take (suc i) es)) ≡ length (files_in study (take i es)) + s.images
images_to study [] i k s at = absurd cc
images_to {A} study (e ∷ es) zero k s at =
    let same : e.1.images ≡ s.images = ap (λ (given : Vec ℕ A × Series A). given.1.images) (let p : e ≡ (k, s) = cc in p) in
    let file : List ℕ × List ℕ = (study, e.0.items) in
    let counted : length (replicate e.1.images file ++ []) ≡ e.1.images = ap length (append-nil (replicate e.1.images file)) ∙ length-replicate e.1.images file in
    counted ∙ same ∙ omega arith
images_to study (e ∷ es) (suc i) k s at =
    let front : List (List ℕ × List ℕ) = replicate e.1.images (study, e.0.items) in
    let rest = images_to study es i k s at in
    let more = length-append front (files_in study (take (suc i) es)) in
    let less = length-append front (files_in study (take i es)) in
    more ∙ omega (arith, rest, less)

pub images_more : {A : Type 0} (study : List ℕ) (es : List (Vec ℕ A × Series A)) (i : ℕ) (k : Vec ℕ A) (s : Series A) (images more : ℕ) → slice_get es i ≡ Some (k, s) → images ≡ min (length (files_in study (take i es))) (2 ^ 64 - 1) → more ≡ min (images + s.images) (2 ^ 64 - 1) → more ≡ min (length (files_in study (take (i + 1) es))) (2 ^ 64 - 1)
images_more study es i k s images more at so_far next =
    let one = images_to study es i k s at in
    rw (add-one i, one) (grind (arith, so_far, next))

pub one_listed : {A : Type 0} (study uid key : List ℕ) (listed : Listed) (before after : List (Instance A)) (instance : Option (Instance A)) → key ≡ uid → Lists listed instance → after ≡ before ++ one_or_none instance
    → IsPermutation {X = List ℕ × (List ℕ × Listed)} ((study, (uid, listed)) ∷ map (λ one. (study, (key, shown one))) before) (map (λ one. (study, (key, shown one))) after)
one_listed study uid key listed before after None named has more = absurd has
one_listed {A} study uid key listed before after (Some instance) named has more =
    let show : Instance A → List ℕ × (List ℕ × Listed) = λ one. (study, (key, shown one)) in
    let last : List ℕ × (List ℕ × Listed) = show instance in
    let same : last ≡ (study, (uid, listed)) = ap (λ (given : Listed). (study, (key, given))) has ∙ ap (λ (text : List ℕ). (study, (text, listed))) named in
    let all : map show after ≡ map show before ++ last ∷ [] = ap (map show) more ∙ map-append show before (instance ∷ []) in
    subst (λ (given : List ℕ × (List ℕ × Listed)). IsPermutation (given ∷ map show before) (map show after)) same
    (subst (IsPermutation (last ∷ map show before)) (sym all) (IsPermutation-sym _ _ (IsPermutation-to_front (map show before) last)))
