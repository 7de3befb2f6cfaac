use Rattle.std.proofs.Common.{◌≡◌, drop}
use Rattle.std.specs.List.{position_from}
use Rattle.negotiate.specs.Contexts.{is_text}
use Rattle.negotiate.specs.Settings.{settings_of}
use Rattle.negotiate.proofs.config.Config.class_index.Given as goal

abbrev pub invariant-loop-index : goal.invariant-loop-index
invariant-loop-index l =
    position_from (is_text l.uid) 0 (settings_of l.self).additional.classes ≡ position_from (is_text l.uid) l.index (drop l.index (settings_of l.self).additional.classes)
