use Rattle.std.proofs.Common.{ap}
use Rattle.indexmap.proofs.MapLemmas.{OnOk-map}
use Rattle.list_command.specs.Tree.{files_in, first_of_study, listed_in, shown_study}
use Rattle.list_command.proofs.FilesAreKept.{nothing_more}
use Rattle.list_command.proofs.FirstFilesAreShown.{found, added_at_end}
use Rattle.list_command.proofs.grouping.Grouping.study_of.Goals as goal

pub returns-in-Some-clause-shown : goal.returns-in-Some-clause-shown
returns-in-Some-clause-shown g c = found shown_study c.args.uid.now (first_of_study c.args.keys.now c.args.self.now.columns.now) c.args.self.now.studies.entries c.in-Some.index c.in-Some.ensures.at

pub returns-clause-same : goal.returns-clause-same
returns-clause-same g c = OnOk-map c.add_new.result _ _
    (λ more. rw more.at_end (nothing_more (λ entry. files_in entry.0.items entry.1.series.entries) c.args.self.now.studies.entries (more.key, c.in_ok-study.study) (ap (files_in more.key.items) c.in_ok-study.ensures.empty)))
    c.add_new.ensures.added

pub returns-clause-listed : goal.returns-clause-listed
returns-clause-listed g c = OnOk-map c.add_new.result _ _
    (λ more. rw more.at_end (nothing_more (λ entry. listed_in entry.0.items entry.1.series.entries) c.args.self.now.studies.entries (more.key, c.in_ok-study.study) (ap (listed_in more.key.items) c.in_ok-study.ensures.empty)))
    c.add_new.ensures.added

pub returns-clause-shown : goal.returns-clause-shown
returns-clause-shown g c = OnOk-map c.add_new.result _ _
    (added_at_end shown_study c.args.uid.now c.in_ok-study.study (first_of_study c.args.keys.now c.args.self.now.columns.now) c.args.self.now.studies.entries c.add_new.new.all.entries c.in_ok-study.ensures.shown c.in_default.ensures.absent)
    c.add_new.ensures.added
