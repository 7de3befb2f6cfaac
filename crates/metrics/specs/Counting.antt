-- The counters of a receiver: which of them each event raises, and that it raises no other. Each stops at the greatest
-- number of its type. This product's own profile.
use Rattle.std.specs.Prelude.{ℕ, ◌+◌, ◌-◌, ◌^◌, List, get_or, min, replicate, set}
use Rattle.metrics.specs.Ends.{index_of_end}
use Rattle.metrics.specs.Statuses.{index_of_status}
use Rattle.metrics.specs.declared.ends.CountedEnd.{CountedEnd}
use Rattle.metrics.specs.declared.statuses.CountedStatus.{CountedStatus}
use Rattle.metrics.specs.declared.counters.Counters.{Counters}

-- a counter raised by so many
abbrev pub raised : ℕ → ℕ → ℕ
raised more n = min (n + more) (2 ^ 64 - 1)

-- counters of which the one with this index is raised by one
abbrev pub raised_at : ℕ → List ℕ → List ℕ
raised_at index counts = set counts index (raised 1 (get_or counts index 0))

-- the counters of a receiver that has done nothing
abbrev pub no_counts : Counters
no_counts = record { ends = replicate 12 0; answers = replicate 6 0; unanswered = 0; received = 0; refused_contexts = 0 }

-- how many associations ended this way
abbrev pub ended_by : CountedEnd → Counters → ℕ
ended_by end c = get_or c.ends (index_of_end end) 0

-- how many stores were answered with this status
abbrev pub answered_with : CountedStatus → Counters → ℕ
answered_with status c = get_or c.answers (index_of_status status) 0

-- the counters after an association ended this way, with so many bytes received
abbrev pub after_end : CountedEnd → ℕ → Counters → Counters
after_end end bytes c = record c { ends = raised_at (index_of_end end) c.ends; received = raised bytes c.received }

-- the counters after a store was answered with this status
abbrev pub after_answer : CountedStatus → Counters → Counters
after_answer status c = record c { answers = raised_at (index_of_status status) c.answers }

-- the counters after so many stores got no reply
abbrev pub after_unanswered : ℕ → Counters → Counters
after_unanswered stores c = record c { unanswered = raised stores c.unanswered }

-- the counters after so many presentation contexts were rejected
abbrev pub after_refused : ℕ → Counters → Counters
after_refused contexts c = record c { refused_contexts = raised contexts c.refused_contexts }
