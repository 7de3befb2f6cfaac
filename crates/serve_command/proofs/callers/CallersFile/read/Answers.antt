-- The settings are those that were read of this text.
use Rattle.std.proofs.Common.{sym, ap}
use Rattle.negotiate.specs.Settings.{settings_of}
use Rattle.serve_command.proofs.callers.CallersFile.read.Goals as goal

pub returns-clause-renewed : goal.returns-clause-renewed
returns-clause-renewed g c =
    record {
      serve = c.in_ok-settings.settings;
      served = c.in_ok-settings.ensures.served;
      settings = ap settings_of (sym c.in_ok-new.ensures.ok);
      callers = rw (c.in_ok-new.ensures.ok, ← c.as_str.ensures.value) c.in_ok-settings.ensures.callers;
    }
