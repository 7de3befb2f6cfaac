-- How many bytes of unfinished heads are held.
use Rattle.std.specs.Prelude.{ℕ, ◌+◌, if◌then◌else◌}
use Rattle.engine.specs.Reached.{Reached, started_pdv}
use Rattle.engine.specs.Held.{is_ended, unfinished}

abbrev pub heads_of : Reached → ℕ
heads_of r = if is_ended r.progress.state then 0 else unfinished r.rest + unfinished (started_pdv r)
