-- The study at the index of the file's has one file more.
use Rattle.std.proofs.Common.{◌∷◌, ◌∙◌, ℕ, List, sym, ap, subst}
use Rattle.std.specs.Prelude.{IsPermutation}
use Rattle.list_command.specs.Tree.{files_in, first_of_study, listed_in, shown_studies, shown_study, with_file, Listed}
use Rattle.list_command.specs.Values.{columns_of}
use Rattle.list_command.specs.declared.columns.Column.{Column}
use Rattle.list_command.proofs.FilesAreKept.{one_more, within}
use Rattle.list_command.proofs.FirstFilesAreShown.{changed}
use Rattle.list_command.proofs.grouping.Grouping.add.Goals as goal

pub index_mut-requires : goal.index_mut-requires
index_mut-requires g c = within _ c.in_ok-index.index c.study_of.new.self.studies.entries c.in_ok-index.ensures.at

pub returns : goal.returns
returns g c = record {
  counted = rw (sym c.in_ok-index.ensures.same)
      (one_more (λ entry. files_in entry.0.items entry.1.series.entries) c.study_of.new.self.studies.entries c.in_ok-index.index c.args.study.now c.index_mut.result.now c.add.new.self (c.args.study.now, c.args.series.now) c.in_ok-index.ensures.at c.index_mut.ensures.value
      (λ key named. subst (λ (study : List ℕ). IsPermutation {X = List ℕ × List ℕ} ((study, c.args.series.now) ∷ files_in key.items c.index_mut.result.now.series.entries) (files_in key.items c.add.new.self.series.entries)) named (c.in_ok-add.ensures.counted key.items)));
  listed = λ are_listed. rw (sym c.in_ok-index.ensures.listed)
      (one_more (λ entry. listed_in entry.0.items entry.1.series.entries) c.study_of.new.self.studies.entries c.in_ok-index.index c.args.study.now c.index_mut.result.now c.add.new.self (c.args.study.now, (c.args.series.now, (c.args.file.path.now, columns_of c.args.file.keys.now c.args.self.now.columns.now))) c.in_ok-index.ensures.at c.index_mut.ensures.value
      (λ key named. subst (λ (study : List ℕ). IsPermutation {X = List ℕ × (List ℕ × Listed)} ((study, (c.args.series.now, (c.args.file.path.now, columns_of c.args.file.keys.now c.args.self.now.columns.now))) ∷ listed_in key.items c.index_mut.result.now.series.entries) (listed_in key.items c.add.new.self.series.entries)) named (c.in_ok-add.ensures.listed key.items (c.args.file.path.now, columns_of c.args.file.keys.now c.args.self.now.columns.now) (c.in_ok-instance.ensures.listed are_listed))));
  shown = changed shown_study c.args.study.now (first_of_study c.args.file.keys.now c.args.self.now.columns.now) (with_file c.args.series.now c.args.file.keys.now c.args.self.now.columns.now) (shown_studies c.args.self.now.studies.entries)
      c.study_of.new.self.studies.entries c.in_ok-index.index c.index_mut.result.now c.add.new.self c.in_ok-index.ensures.at c.index_mut.ensures.value
      (c.in_ok-add.ensures.shown ∙ ap (λ (columns : List Column). with_file c.args.series.now c.args.file.keys.now columns (shown_study c.index_mut.result.now)) c.study_of.ensures.options.1) c.in_ok-index.ensures.shown;
  options = c.study_of.ensures.options;
}
