use Rattle.std.proofs.Common.{◌≡◌, ◌++◌, map}
use Rattle.dicomdir.specs.NodesInUse.{node_of, kept_in}
use Rattle.dicomdir.proofs.NodesAndTreeAgree.{kept_from}
use Rattle.dicomdir.proofs.kept_files.images.Given as goal

abbrev pub invariant-loop-record : goal.invariant-loop-record
invariant-loop-record g l = l.kept.items ++ kept_from l.record-index l.records ≡ kept_in (map node_of l.records)
