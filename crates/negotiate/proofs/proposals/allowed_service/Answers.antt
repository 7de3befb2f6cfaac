use Rattle.std.proofs.Common.{sym, ◌∙◌}
use Rattle.negotiate.specs.Settings.{settings_of}
use Rattle.negotiate.proofs.DictionaryDecidesByDefault.{placed_service, unplaced_service, unread_service}
use Rattle.negotiate.proofs.proposals.allowed_service.Goals as goal

pub returns-in-Some-class_index : goal.returns-in-Some-class_index
returns-in-Some-class_index c =
    sym (placed_service (settings_of c.args.config.now).additional.classes c.args.bytes.now c.in-Some-read.uid c.in-Some-class_index.field-0 (sym c.class_of.ensures ∙ c.in-None.is) (sym c.in-Some-read.ensures) (sym c.in-Some-class_index.ensures))

pub returns-in-None-class_index : goal.returns-in-None-class_index
returns-in-None-class_index c =
    sym (unplaced_service (settings_of c.args.config.now).additional.classes c.args.bytes.now c.in-Some-read.uid (sym c.class_of.ensures ∙ c.in-None.is) (sym c.in-Some-read.ensures) (sym c.in-None-class_index.ensures))

pub returns-in-None-read : goal.returns-in-None-read
returns-in-None-read c =
    sym (unread_service (settings_of c.args.config.now).additional.classes c.args.bytes.now (sym c.class_of.ensures ∙ c.in-None.is) (sym c.in-None-read.ensures))
