-- The settings of the server.
use Rattle.negotiate.specs.Settings.{settings_of}
use Rattle.server.specs.Configuration.{configuration_of}
use Rattle.server.specs.Histories.{IsFirstOr}
use Rattle.server.proofs.server.opening.serve_many.Given as goal

abbrev pub ghosts-served : goal.ghosts-served
ghosts-served g a = record { configuration = configuration_of a.configuration; allows = IsFirstOr (settings_of a.configuration.config.now) (g.C.ConfigSource.gives a.watched.1); at_once = a.configuration.service.associations }
