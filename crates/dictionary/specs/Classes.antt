-- Service classes by their unique identifiers (PS3.4 sections A.4 and B.5, PS3.6 annex A). Which storage classes are
-- accepted is this product's own profile.
use Rattle.std.specs.Prelude.{ℕ, Bool, true, false, List, [], ◌∷◌, Option, nat_eq, codes}
use Rattle.std.specs.List.{find}
use Rattle.std.specs.Cmp.Lexicographic.{pointwise}
use Rattle.element.specs.Padding.{is_padding, without_trailing}
use Rattle.dictionary.specs.declared.class.Class.{Class}
use Rattle.dictionary.specs.declared.class.Class.TheVariants.{Verification, ComputedRadiography, DigitalXRay, Ct, EnhancedCt, Mr, EnhancedMr, Ultrasound, SecondaryCapture, XRayAngiographic, NuclearMedicine, Pet}

-- the identifier of a SOP class (PS3.6 annex A)
-- e.g. class_uid Ct ≡ codes "1.2.840.10008.5.1.4.1.1.2"
abbrev pub class_uid : Class → List ℕ
class_uid Verification = codes "1.2.840.10008.1.1"
class_uid ComputedRadiography = codes "1.2.840.10008.5.1.4.1.1.1"
class_uid DigitalXRay = codes "1.2.840.10008.5.1.4.1.1.1.1"
class_uid Ct = codes "1.2.840.10008.5.1.4.1.1.2"
class_uid EnhancedCt = codes "1.2.840.10008.5.1.4.1.1.2.1"
class_uid Mr = codes "1.2.840.10008.5.1.4.1.1.4"
class_uid EnhancedMr = codes "1.2.840.10008.5.1.4.1.1.4.1"
class_uid Ultrasound = codes "1.2.840.10008.5.1.4.1.1.6.1"
class_uid SecondaryCapture = codes "1.2.840.10008.5.1.4.1.1.7"
class_uid XRayAngiographic = codes "1.2.840.10008.5.1.4.1.1.12.1"
class_uid NuclearMedicine = codes "1.2.840.10008.5.1.4.1.1.20"
class_uid Pet = codes "1.2.840.10008.5.1.4.1.1.128"

-- whether a class is one of storage: every one but Verification is
-- e.g. is_storage Ct ≡ true; is_storage Verification ≡ false
abbrev pub is_storage : Class → Bool
is_storage Verification = false
is_storage _ = true

-- the SOP classes that are accepted
abbrev pub all_classes : List Class
all_classes = Verification ∷ ComputedRadiography ∷ DigitalXRay ∷ Ct ∷ EnhancedCt ∷ Mr ∷ EnhancedMr ∷ Ultrasound ∷ SecondaryCapture ∷ XRayAngiographic ∷ NuclearMedicine ∷ Pet ∷ []

-- whether the class has this text as its identifier
-- e.g. is_named (codes "1.2.840.10008.1.1") Verification ≡ true
abbrev pub is_named : List ℕ → Class → Bool
is_named text class = pointwise nat_eq (class_uid class) text

-- the class with this text
-- e.g. class_named (codes "1.2.840.10008.1.1") ≡ Some Verification
-- e.g. class_named (codes "1.2.840.10008.5.1.4.1.1.481.1") ≡ None
unfoldable pub class_named : List ℕ → Option Class
class_named text = find (is_named text) all_classes

-- the class that a value or a field of a PDU names: trailing zero bytes and spaces are dropped first
-- e.g. class_of (codes "1.2.840.10008.1.1" ++ 0 ∷ []) ≡ Some Verification
abbrev pub class_of : List ℕ → Option Class
class_of bytes = class_named (without_trailing is_padding bytes)
