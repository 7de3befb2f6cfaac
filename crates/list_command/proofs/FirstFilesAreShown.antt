-- What is shown of a study or series is that of its first file: what is found keeps it (`found`), what is new has it
-- (`added_at_end`), and a change at the first with a UID changes what is shown there alone (`changed`). A study has then a
-- file more (`more_shown`). Stands on the definitions alone.
use Rattle.std.proofs.Common.{◌≡◌, ℕ, zero, suc, Bool, true, not, ◌||◌, List, [], ◌∷◌, ◌++◌, Some, None, refl, ap, ◌∙◌, inl, inr}
use Rattle.std.specs.Prelude.{Vec, slice_get, nat_eq}
use Rattle.std.specs.Map.{values_of, lookup}
use Rattle.std.specs.Cmp.Lexicographic.{pointwise, bytes_decides}
use Rattle.std.proofs.lemmas.Bool.{cases_Bool}
use Rattle.indexmap.specs.IndexMap.{set_value_at}
use Rattle.indexmap.proofs.MapLemmas.{absent_from_lookup}
use Rattle.list_command.specs.Tree.{at_uid, each_shown, is_uid, or_new, with_series, HasUid, IsAdded, ShownSeries, ShownStudy}

same_uid : (uid : List ℕ) → pointwise nat_eq uid uid ≡ true
same_uid uid = (bytes_decides uid uid).1 refl

new_once : {S : Type 0} (uid : List ℕ) (new : S) (change : S → S) (all : List (List ℕ × S)) → at_uid uid new change (or_new uid new all) ≡ at_uid uid new change all
new_once uid new change [] = rw (same_uid uid) refl
new_once uid new change (one ∷ all) = elim (cases_Bool (pointwise nat_eq uid one.0)) [
  | inl same ↦ rw same (rw same refl)
  | inr other ↦ rw other (rw other (ap (λ rest. one ∷ rest) (new_once uid new change all)))
]

set : {A T S : Type 0} (show : T → S) (uid : List ℕ) (new : S) (change : S → S) (es : List (Vec ℕ A × T)) (i : ℕ) (v w : T) → HasUid uid i es → slice_get (values_of es) i ≡ Some v → show w ≡ change (show v) → each_shown show (set_value_at es i w) ≡ at_uid uid new change (each_shown show es)
set show uid new change [] i v w has at is = absurd has
set {A} {T} show uid new change (e ∷ es) zero v w has at is =
    let same : v ≡ e.1 = cc in
    rw has (ap (λ one. (e.0.items, one) ∷ each_shown show es) (is ∙ ap (λ (given : T). change (show given)) same))
set show uid new change (e ∷ es) (suc i) v w has at is =
    rw has.0 (ap (λ rest. (e.0.items, show e.1) ∷ rest) (set show uid new change es i v w has.1 at is))

pub found : {A T S : Type 0} (show : T → S) (uid : List ℕ) (new : S) (es : List (Vec ℕ A × T)) (i : ℕ) → HasUid uid i es → each_shown show es ≡ or_new uid new (each_shown show es)
found show uid new [] i has = absurd has
found show uid new (e ∷ es) zero has = rw has refl
found show uid new (e ∷ es) (suc i) has = rw has.0 (ap (λ rest. (e.0.items, show e.1) ∷ rest) (found show uid new es i has.1))

last : {A T S : Type 0} (show : T → S) (uid : List ℕ) (new : T) (key : Vec ℕ A) (es : List (Vec ℕ A × T)) → key.items ≡ uid → lookup (is_uid uid) es ≡ None → each_shown show (es ++ (key, new) ∷ []) ≡ or_new uid (show new) (each_shown show es)
last show uid new key [] named none = ap (λ text. (text, show new) ∷ []) named
last show uid new key (e ∷ es) named none =
    let other = (absent_from_lookup (is_uid uid) (e ∷ es) none).0 in
    rw other (ap (λ rest. (e.0.items, show e.1) ∷ rest) (last show uid new key es named (rw other at none)))

pub added_at_end : {A T S : Type 0} (show : T → S) (uid : List ℕ) (new : T) (value : S) (old es : List (Vec ℕ A × T)) → show new ≡ value → lookup (is_uid uid) old ≡ None → IsAdded uid new old es → each_shown show es ≡ or_new uid value (each_shown show old)
added_at_end show uid new value old es is none more =
    rw more.at_end (last show uid new more.key old more.named none ∙ ap (λ one. or_new uid one (each_shown show old)) is)

pub changed : {A T S : Type 0} (show : T → S) (uid : List ℕ) (new : S) (change : S → S) (all : List (List ℕ × S)) (es : List (Vec ℕ A × T)) (index : ℕ) (v w : T) → HasUid uid index es → slice_get (values_of es) index ≡ Some v → show w ≡ change (show v) → each_shown show es ≡ or_new uid new all → each_shown show (set_value_at es index w) ≡ at_uid uid new change all
changed show uid new change all es index v w has at is shown =
    set show uid new change es index v w has at is ∙ ap (at_uid uid new change) shown ∙ new_once uid new change all

pub more_shown : (uid : List ℕ) (new : ShownSeries) (patient : List ℕ) (old between : ShownStudy) (series : List (List ℕ × ShownSeries)) (is_other : Bool) → between ≡ with_series uid new old → series ≡ or_new uid new old.series → is_other ≡ not (pointwise nat_eq between.patient_id patient)
    → record between { has_several_patients = between.has_several_patients || is_other; series = series } ≡ record (with_series uid new old) { has_several_patients = old.has_several_patients || not (pointwise nat_eq old.patient_id patient) }
more_shown uid new patient old between series is_other added filed compared =
    (λ j. record between { has_several_patients = between.has_several_patients || compared j; series = filed j })
    ∙ ap (λ (study : ShownStudy). record study { has_several_patients = study.has_several_patients || not (pointwise nat_eq study.patient_id patient); series = or_new uid new old.series }) added
