-- The statuses of replies to stores, as they are counted (PS3.7 annex C, PS3.4 annex B.2.3).
use Rattle.std.specs.Prelude.{ℕ, nat_eq, if◌then◌else◌}
use Rattle.metrics.specs.declared.statuses.CountedStatus.{CountedStatus}
use Rattle.metrics.specs.declared.statuses.CountedStatus.TheVariants.{Success, ClassNotSupported, OutOfResources, DataSetMismatch, CannotUnderstand, Other}

-- what counts a status
abbrev pub status_of : ℕ → CountedStatus
status_of status = if nat_eq status 0 then Success else if nat_eq status 0x0122 then ClassNotSupported else if nat_eq status 0xa700 then OutOfResources
    else if nat_eq status 0xa900 then DataSetMismatch else if nat_eq status 0xc000 then CannotUnderstand else Other

-- the index of the counter of a status
abbrev pub index_of_status : CountedStatus → ℕ
index_of_status Success = 0
index_of_status ClassNotSupported = 1
index_of_status OutOfResources = 2
index_of_status DataSetMismatch = 3
index_of_status CannotUnderstand = 4
index_of_status Other = 5
