use Rattle.folder_filing.proofs.NamesStayOrderly.{none_behind, none_behind_levels}
use Rattle.folder_filing.proofs.locked_folder.locations.none_remaining.Goals as goal

pub returns : goal.returns
returns c =
    record {
      flat = none_behind _ _ c.ranges.folder.fits c.ranges.file.fits c.requires.far;
      levels = none_behind_levels _ _ _ c.ranges.per.fits c.ranges.folder.fits c.ranges.file.fits c.requires.far;
    }
