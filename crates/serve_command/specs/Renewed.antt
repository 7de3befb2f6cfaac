-- The settings that follow those of a command line, when the file of calling titles has changed.
use Rattle.std.specs.Prelude.{◌≡◌, ℕ, List}
use Rattle.negotiate.specs.Settings.{Settings, settings_of}
use Rattle.arguments.specs.Asked.{IsServed}
use Rattle.arguments.specs.AskedCallers.{AreCallers}
use Rattle.arguments.specs.declared.options.Serve.{Serve}
use Rattle.arguments.specs.Walk.{Row}

-- settings are those of these arguments, with the calling titles of this text of the file
pub record AreRenewed (rows : List Row) (text : List ℕ) (s : Settings) : Type 0 where
  pub serve : Serve
  pub served : IsServed serve rows
  pub settings : settings_of serve.config ≡ s
  pub callers : AreCallers s.callers rows text

-- settings are those of these arguments, with the calling titles of some text
abbrev pub MayFollow : List Row → Settings → Type 0
MayFollow rows s = (text : List ℕ) × AreRenewed rows text s
