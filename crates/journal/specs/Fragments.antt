-- What a log keeps of a message after each decision (PS3.7 section 6.3, PS3.8 annex E).
use Rattle.std.specs.Prelude.{ℕ, ◌+◌, ◌-◌, ◌^◌, Bool, true, false, min, nat_lt}
use Rattle.decisions.specs.declared.decision.Decision.{Decision}
use Rattle.decisions.specs.declared.decision.Decision.TheVariants as decision
use Rattle.pdu.specs.declared.head.PdvHead.{PdvHead}
use Rattle.journal.specs.declared.message.Message.{Message}

-- a number of bytes increased by so many, up to the greatest number of the type
abbrev pub more : ℕ → ℕ → ℕ
more n size = min (n + size) (2 ^ 64 - 1)

-- a fragment of a command set or of a data set, of this size, all of which is due
abbrev pub sized : Bool → ℕ → Message → Message
sized true size m = record m { is_store = false; data_size = 0; is_fragment_due = nat_lt 0 size }
sized false size m = record m { data_size = more m.data_size size; is_fragment_due = nat_lt 0 size }

abbrev pub started : PdvHead → Message → Message
started head m = sized head.command (head.length - 2) (record m { context = head.context })

-- What is kept of a message after this decision, when a part of a PDU is complete; a fragment counts once, at its head.
abbrev pub decided : Bool → Decision → Message → Message
decided true (decision.Fragment head) m = m
decided false (decision.Fragment head) m = started head m
decided after decision.DataDue m = record m { is_store = true }
decided after other m = m

abbrev pub heard : Decision → Message → Message
heard d m = decided m.is_fragment_due d (record m { is_fragment_due = false })
