-- What contracts say of a wire, the outgoing half of a connection, and what a call that sends does to it. Each
-- function that writes to a wire has the one clause `Sends`.
use Rattle.std.specs.Prelude.{◌≡◌, ℕ, ◌+◌, ◌≤◌, List, length, take, Option, Some, Result, Ok, Err}
use Rattle.std.specs.Io.KnownBytes.{append_known}
use Rattle.pdu.specs.declared.wire.WireFailed.{WireFailed}

-- the bytes sent so far, if they are known, and the number of failed sends
pub record Line : Type 0 where
  pub sent : Option (List ℕ)
  pub failures : ℕ

-- the state of the wire after all of these bytes were sent
abbrev pub sent_all : List ℕ → Line → Line
sent_all text old = record { sent = append_known old.sent text; failures = old.failures }

-- the state of the wire after a send of these bytes failed, when the first k of them were sent
abbrev pub cut_after : ℕ → List ℕ → Line → Line
cut_after k text old = record { sent = append_known old.sent (take k text); failures = old.failures + 1 }

-- one send failed, after some first bytes, from none to all
pub record IsCut (text : List ℕ) (old new : Line) : Type 0 where
  pub count : ℕ
  pub few : count ≤ length text
  pub line : new ≡ cut_after count text old

-- the call succeeds and sent all of these bytes, or fails and sent some first ones
abbrev pub Sends : List ℕ → Result (Unit {0}) WireFailed → Line → Line → Type 0
Sends text (Ok u) old new = new ≡ sent_all text old
Sends text (Err f) old new = IsCut text old new

-- the value of a wire over memory
pub record Memory : Type 0 where
  pub sent : List ℕ
  pub failures : ℕ

abbrev pub line_of : Memory → Line
line_of m = record { sent = Some m.sent; failures = m.failures }
