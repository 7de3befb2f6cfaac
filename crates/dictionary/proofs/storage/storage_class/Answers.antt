use Rattle.std.proofs.Common.{map, slice_get, ap, sym, ◌∙◌}
use Rattle.std.proofs.lemmas.List.Folds.{flat_map-map}
use Rattle.std.specs.List.{flat_map}
use Rattle.dictionary.specs.StorageTable.{storage_row}
use Rattle.dictionary.proofs.storage.storage_class.Goals as goal

pub returns : goal.returns
returns c =
    c.class_in.ensures
    ∙ ap (λ rows. slice_get rows c.args.index)
    (sym (flat_map-map (λ rows. rows) (λ rows. map storage_row rows.now) c.table_parts.result) ∙ ap (flat_map (λ rows. rows)) c.table_parts.ensures)
