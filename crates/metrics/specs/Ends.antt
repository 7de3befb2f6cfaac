-- The ways in which associations end, as they are counted. This product's own profile.
use Rattle.std.specs.Prelude.{ℕ}
use Rattle.metrics.specs.declared.ends.CountedEnd.{CountedEnd}
use Rattle.metrics.specs.declared.ends.CountedEnd.TheVariants.{Released, Rejected, AbortedByPeer, AbortedByBox, Closed, TimerExpired, Idle, TooLong, Stopping, ConnectionFailed, FileLost, Unknown}

-- the index of the counter of an end
abbrev pub index_of_end : CountedEnd → ℕ
index_of_end Released = 0
index_of_end Rejected = 1
index_of_end AbortedByPeer = 2
index_of_end AbortedByBox = 3
index_of_end Closed = 4
index_of_end TimerExpired = 5
index_of_end Idle = 6
index_of_end TooLong = 7
index_of_end Stopping = 8
index_of_end ConnectionFailed = 9
index_of_end FileLost = 10
index_of_end Unknown = 11
