use Rattle.std.proofs.Common.{◌≡◌, map, slice_get, drop}
use Rattle.std.specs.List.{flat_map}
use Rattle.dictionary.specs.StorageTable as table
use Rattle.dictionary.proofs.storage.class_in.Given as goal

abbrev pub invariant-loop-rows : goal.invariant-loop-rows
invariant-loop-rows l =
    slice_get (flat_map (λ rows. map table.storage_row rows.now) l.parts) l.index
    ≡ slice_get (flat_map (λ rows. map table.storage_row rows.now) (drop l.rows-index l.parts)) l.remaining
