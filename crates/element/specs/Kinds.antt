-- The VRs, grouped by the rules that their values are checked by (PS3.5 section 6.2). Which VRs are checked is this
-- product's own profile.
use Rattle.std.specs.Prelude.{ℕ, List, [], ◌∷◌, Bool, nat_eq, codes, if◌then◌else◌}
use Rattle.std.specs.List.{list_any}
use Rattle.std.specs.Cmp.Lexicographic.{pointwise}
use Rattle.element.specs.declared.kinds.Kind.{Kind}
use Rattle.element.specs.declared.kinds.Kind.TheVariants.{Words, Longs, Duplicates, Title, Code, Date, Time, Age, Integer, Decimal, Identifier, Free}

abbrev pub is_one_of : List (List ℕ) → List ℕ → Bool
is_one_of names vr = list_any (pointwise nat_eq vr) names

-- the group of a VR that is not binary
abbrev pub kind_of_text : List ℕ → Kind
kind_of_text vr =
    if pointwise nat_eq vr (codes "AE") then Title
    else (if pointwise nat_eq vr (codes "CS") then Code
    else (if pointwise nat_eq vr (codes "DA") then Date
    else (if pointwise nat_eq vr (codes "TM") then Time
    else (if pointwise nat_eq vr (codes "AS") then Age
    else (if pointwise nat_eq vr (codes "IS") then Integer
    else (if pointwise nat_eq vr (codes "DS") then Decimal
    else (if pointwise nat_eq vr (codes "UI") then Identifier
    else Free)))))))

-- VRs with binary values of two bytes each; those of four and of eight follow
abbrev pub is_words : List ℕ → Bool
is_words vr = is_one_of (codes "US" ∷ codes "SS" ∷ codes "OW" ∷ []) vr

abbrev pub is_longs : List ℕ → Bool
is_longs vr = is_one_of (codes "UL" ∷ codes "SL" ∷ codes "FL" ∷ codes "AT" ∷ codes "OL" ∷ codes "OF" ∷ []) vr

abbrev pub is_duplicates : List ℕ → Bool
is_duplicates vr = is_one_of (codes "FD" ∷ codes "SV" ∷ codes "UV" ∷ codes "OD" ∷ codes "OV" ∷ []) vr

abbrev pub kind_of : List ℕ → Kind
kind_of vr = if is_words vr then Words else (if is_longs vr then Longs else (if is_duplicates vr then Duplicates else kind_of_text vr))
