-- The settings of a server's connections: those of their associations, and how long they wait for their peers and may
-- last, which is this product's own profile but for the ARTIM timer (PS3.8 section 9.1.5). Times are in nanoseconds.
use Rattle.std.specs.Prelude.{ℕ, Option, option_map}
use Rattle.std.specs.Duration.{as_nanos}
use Rattle.negotiate.specs.Settings.{Settings, settings_of}
use Rattle.part10.specs.declared.filing.Filing
use Rattle.part10.specs.declared.settling.Settling
use Rattle.service.specs.declared.observer.Observer
use Rattle.serving.specs.Connections.{initial_of, settings_at}
use Rattle.serving.specs.declared.open_connection.Connection.{Connection}
use Rattle.server.specs.declared.configuration.ServerConfiguration.{ServerConfiguration}

-- the settings of a connection: those of its association, how long its peer is waited for, and how long it may last
pub record Configuration : Type 0 where
  pub settings : Settings
  pub artim : ℕ
  pub idle : ℕ
  pub longest : Option ℕ

-- the settings of a connection whose association has these
abbrev pub with_settings : Configuration → Settings → Configuration
with_settings t s = record t { settings = s }

-- the settings of a server's connections
abbrev pub configuration_of : ServerConfiguration → Configuration
configuration_of configuration =
    record { settings = settings_of configuration.config.now; artim = as_nanos configuration.service.timeouts.artim; idle = as_nanos configuration.service.timeouts.idle; longest = option_map as_nanos configuration.service.longest }

-- the settings of a connection
abbrev pub configuration_at : {S F B Y : Type 0} {G : Settling.Ghosts F Y} {H : Filing.Ghosts F} {O : Observer.Ghosts B} → Connection S F B Y G H O → Configuration
configuration_at c = record { settings = settings_at c; artim = (initial_of c).artim; idle = (initial_of c).idle; longest = (initial_of c).longest }
