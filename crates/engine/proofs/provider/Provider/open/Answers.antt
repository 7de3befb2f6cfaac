-- Nothing has come.
use Rattle.std.proofs.Common.{refl}
use Rattle.engine.proofs.FieldsShow.AfterAnEvent.{opened}
use Rattle.engine.proofs.FieldsShow.KeptInPhases.{no_fragment}
use Rattle.engine.proofs.provider.Provider.open.Goals as goal

pub returns-clause-pends : goal.returns-clause-pends
returns-clause-pends g c = λ store. opened _ store refl refl refl c.new.ensures (no_fragment g.row.C) refl (record { no_caller = refl; no_maximum = refl; no_rows = refl })
