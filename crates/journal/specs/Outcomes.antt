-- What the statuses of replies say of stores, and how stores are counted (PS3.7 annex C, PS3.4 annex B.2.3).
use Rattle.std.specs.Prelude.{ℕ, ◌+◌, ◌-◌, ◌^◌, Bool, ◌||◌, ◌&&◌, not, nat_eq, min, if◌then◌else◌}
use Rattle.journal.specs.declared.outcome.Outcome.{Outcome}
use Rattle.journal.specs.declared.outcome.Outcome.TheVariants.{Stored, Refused, Failed}
use Rattle.journal.specs.declared.outcome.Counts.{Counts}

-- whether a status is a refusal: SOP class not supported (0122), out of resources (A700)
abbrev pub is_refusal : ℕ → Bool
is_refusal status = nat_eq status 0x0122 || nat_eq status 0xa700

abbrev pub outcome_of : ℕ → Outcome
outcome_of status = if nat_eq status 0 then Stored else if is_refusal status then Refused else Failed

-- the number plus one, up to the greatest number of the type
abbrev pub one_more : ℕ → ℕ
one_more n = min (n + 1) (2 ^ 64 - 1)

abbrev pub counted : Outcome → Counts → Counts
counted Stored c = record c { stored = one_more c.stored }
counted Refused c = record c { refused = one_more c.refused }
counted Failed c = record c { failed = one_more c.failed }

-- whether a data set is kept in a quarantine: cannot understand (C000), data set does not match SOP class (A900), or
-- out of resources (A700) if no file failed to be written
abbrev pub is_quarantined : ℕ → Bool → Bool
is_quarantined status has_filing_failed = nat_eq status 0xc000 || (nat_eq status 0xa900 || (nat_eq status 0xa700 && not has_filing_failed))
