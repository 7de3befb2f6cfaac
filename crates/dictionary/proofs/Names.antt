-- The text of each class names it alone (`class_back`), and so does that of each native syntax (`syntax_back`). Stands on the
-- definitions alone.
use Rattle.std.proofs.Common.{◌≡◌, Some, refl}
use Rattle.element.specs.declared.syntax.Syntax.{Syntax}
use Rattle.element.specs.declared.syntax.Syntax.TheVariants.{Implicit, Explicit}
use Rattle.dictionary.specs.declared.class.Class.{Class}
use Rattle.dictionary.specs.declared.class.Class.TheVariants.{Verification, ComputedRadiography, DigitalXRay, Ct, EnhancedCt, Mr, EnhancedMr, Ultrasound, SecondaryCapture, XRayAngiographic, NuclearMedicine, Pet}
use Rattle.dictionary.specs.Classes.{class_uid, class_named, class_of}
use Rattle.dictionary.specs.Syntaxes.{syntax_uid, syntax_named, syntax_of}

pub class_back : (c : Class) → class_of (class_uid c) ≡ Some c
unfolding class_named
class_back Verification = refl
class_back ComputedRadiography = refl
class_back DigitalXRay = refl
class_back Ct = refl
class_back EnhancedCt = refl
class_back Mr = refl
class_back EnhancedMr = refl
class_back Ultrasound = refl
class_back SecondaryCapture = refl
class_back XRayAngiographic = refl
class_back NuclearMedicine = refl
class_back Pet = refl

pub syntax_back : (s : Syntax) → syntax_of (syntax_uid s) ≡ Some s
unfolding syntax_named
syntax_back Implicit = refl
syntax_back Explicit = refl
