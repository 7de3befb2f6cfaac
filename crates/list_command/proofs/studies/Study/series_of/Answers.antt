use Rattle.std.proofs.Common.{ap, List, ℕ}
use Rattle.indexmap.proofs.MapLemmas.{OnOk-map}
use Rattle.list_command.specs.Tree.{first_of_series, shown_series, shown_study, ShownSeries}
use Rattle.list_command.proofs.FirstFilesAreShown.{found, added_at_end}
use Rattle.list_command.proofs.studies.Study.series_of.Goals as goal

pub returns-in-Some-clause-shown : goal.returns-in-Some-clause-shown
returns-in-Some-clause-shown g c = ap (λ (series : List (List ℕ × ShownSeries)). record (shown_study c.args.self.now) { series = series })
    (found shown_series c.args.uid.now (first_of_series c.args.keys.now c.args.columns.now) c.args.self.now.series.entries c.in-Some.index c.in-Some.ensures.at)

pub returns-clause-shown : goal.returns-clause-shown
returns-clause-shown g c = OnOk-map c.add_new.result _ _
    (λ more. ap (λ (series : List (List ℕ × ShownSeries)). record (shown_study c.args.self.now) { series = series })
    (added_at_end shown_series c.args.uid.now c.in_ok-series.series (first_of_series c.args.keys.now c.args.columns.now) c.args.self.now.series.entries c.add_new.new.all.entries c.in_ok-series.ensures.shown c.in_default.ensures.absent more))
    c.add_new.ensures.added
