-- The inputs that a source over a list has still to return.
use Rattle.std.specs.Prelude.{List, drop, map}
use Rattle.engine.specs.declared.list_source.ListSource.{ListSource}
use Rattle.engine.specs.Inputs.{Received, received_of}

abbrev pub inputs_remaining : ListSource → List Received
inputs_remaining s = map received_of (drop s.at s.inputs.now)
