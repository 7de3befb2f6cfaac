-- How many bytes a connection keeps (this product's own profile).
use Rattle.std.specs.Prelude.{ℕ, ◌+◌, ◌*◌}
use Rattle.pdu.specs.Sizes.{head_size}
use Rattle.negotiate.specs.Settings.{default_max_pdu}
use Rattle.engine.specs.OutputLaws.{most_beside_answers, most_sent}

-- how many bytes may wait for the association to accept them: four PDUs of the default maximum length, and their heads
abbrev pub inbox_size : ℕ
inbox_size = 4 * (default_max_pdu + head_size)

-- how many bytes may wait for the peer to accept them: the most that the association sends for a portion of what it
-- receives, then an A-ABORT, and one byte more, so that a full outbox is known to have refused a send
abbrev pub outbox_size : ℕ
outbox_size = most_sent + most_beside_answers + 1
