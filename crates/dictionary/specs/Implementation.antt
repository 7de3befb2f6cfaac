-- What names this implementation, in its responses to association requests (PS3.7 annex D.3.3.2) and in the files that
-- it writes (PS3.10 section 7.1). The two values are this product's own profile.
use Rattle.std.specs.Prelude.{ℕ, List, codes}

-- the Implementation Class UID (PS3.7 D.3.3.2, PS3.10 7.1)
abbrev pub implementation_class_uid : List ℕ
implementation_class_uid = codes "2.25.20260101"

-- the Implementation Version Name (PS3.7 D.3.3.2, PS3.10 7.1)
abbrev pub implementation_version_name : List ℕ
implementation_version_name = codes "DCMBOX_1"
