-- The values of Status (0000,0900) in responses (PS3.7 annex C, PS3.4 annex B.2.3).
use Rattle.std.specs.Prelude.{ℕ}

-- the status Success, 0000
abbrev pub success : ℕ
success = 0x0000

-- refused: SOP class not supported
abbrev pub class_not_supported : ℕ
class_not_supported = 0x0122

-- refused: out of resources
abbrev pub out_of_resources : ℕ
out_of_resources = 0xa700

-- error: data set does not match SOP class
abbrev pub data_set_mismatch : ℕ
data_set_mismatch = 0xa900

-- error: cannot understand
abbrev pub cannot_understand : ℕ
cannot_understand = 0xc000
