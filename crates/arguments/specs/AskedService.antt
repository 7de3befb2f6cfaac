-- The settings for serving connections that the arguments of `serve` determine (this product's own profile).
use Rattle.std.specs.Prelude.{◌≡◌, ℕ, ◌+◌, ◌*◌, ◌/◌, ◌%◌, List, Option, Some, None, IsSomeAnd, codes, option_map}
use Rattle.std.specs.Duration.{as_nanos}
use Rattle.std.specs.declared.time.Duration.{Duration}
use Rattle.service.specs.declared.service.Service.{Service}
use Rattle.clap.specs.Walk.{Row, first_of}
use Rattle.arguments.specs.Asked.{Spells}
use Rattle.arguments.specs.CommandLine.{is_given}

-- a time that a text spells in seconds, from the least that it may be to a day
abbrev pub SpellsTime : ℕ → List ℕ → Duration → Type 0
SpellsTime least text time = (seconds : ℕ) × Spells least 86400 text seconds × (as_nanos time ≡ seconds * 1_000_000_000)

-- how many associations one address may have: the given number, at most that of all, or half of all, rounded up
abbrev pub IsPerPeer : ℕ → Option (List ℕ) → ℕ → Type 0
IsPerPeer at_once None per_peer = per_peer ≡ at_once / 2 + at_once % 2
IsPerPeer at_once (Some text) per_peer = Spells 1 at_once text per_peer

-- how long an association may last, if a time is given
abbrev pub IsLongest : Option Duration → Option (List ℕ) → Type 0
IsLongest None text = text ≡ None
IsLongest (Some time) None = ⊥
IsLongest (Some time) (Some text) = SpellsTime 1 text time

-- the settings for serving connections are those of the arguments
pub record IsService (service : Service) (rows : List Row) : Type 0 where
  pub artim : IsSomeAnd (first_of (codes "timeout") rows) (λ text. SpellsTime 1 text service.timeouts.artim)
  pub idle : IsSomeAnd (first_of (codes "idle") rows) (λ text. SpellsTime 1 text service.timeouts.idle)
  pub associations : IsSomeAnd (first_of (codes "at-once") rows) (λ text. Spells 1 64 text service.associations)
  pub per_peer : IsPerPeer service.associations (first_of (codes "per-peer") rows) service.per_peer
  pub longest : IsLongest service.longest (first_of (codes "longest") rows)
  pub stop_file : first_of (codes "stop-file") rows ≡ option_map (λ t. t.now) service.stop_file
  pub grace : IsSomeAnd (first_of (codes "grace") rows) (λ text. SpellsTime 0 text service.grace)
  pub once : service.once ≡ is_given rows (codes "once")
