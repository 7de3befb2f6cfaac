-- The levels of a directory, and the types of their records (PS3.3 sections F.4 and F.5).
use Rattle.std.specs.Prelude.{ℕ, List, Bool, true, false, codes}
use Rattle.dicomdir.specs.declared.level.Level.{Level}
use Rattle.dicomdir.specs.declared.level.Level.TheVariants.{Patient, Study, Series, Image}

-- the Directory Record Type of the records at a level
abbrev pub kind_of : Level → List ℕ
kind_of Patient = codes "PATIENT"
kind_of Study = codes "STUDY"
kind_of Series = codes "SERIES"
kind_of Image = codes "IMAGE"

-- the next lower level; for images, the lowest, the same
abbrev pub lower_level : Level → Level
lower_level Patient = Study
lower_level Study = Series
lower_level Series = Image
lower_level Image = Image

abbrev pub is_image : Level → Bool
is_image Patient = false
is_image Study = false
is_image Series = false
is_image Image = true
