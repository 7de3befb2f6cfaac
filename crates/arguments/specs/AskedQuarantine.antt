-- The settings of `serve` for a quarantine that its arguments determine (this product's own profile).
use Rattle.std.specs.Prelude.{◌≡◌, ℕ, List, Option, Some, None}
use Rattle.arguments.specs.declared.options.QuarantineOption.{QuarantineOption}
use Rattle.arguments.specs.Asked.{Spells}

-- how many data sets a quarantine keeps at most: the given number, or 100
abbrev pub IsMost : ℕ → Option (List ℕ) → Type 0
IsMost most None = most ≡ 100
IsMost most (Some text) = Spells 1 999_999 text most

-- the given folder with the number of data sets that it keeps at most, or no quarantine if neither is given
abbrev pub IsQuarantine : Option QuarantineOption → Option (List ℕ) → Option (List ℕ) → Type 0
IsQuarantine None dir most = (dir ≡ None) × (most ≡ None)
IsQuarantine (Some quarantine) dir most = (dir ≡ Some quarantine.dir.now) × IsMost quarantine.most most
